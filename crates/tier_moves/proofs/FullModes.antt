-- Modes that were chosen from what a cache holds.
use Rattle.std.proofs.Common.{◌≡◌, ◌≢◌, ◌<◌, ◌⊎◌, inl, inr, ℕ, zero, suc, Bool, true, false, refl, sym, ap, subst, ◌∙◌, arith}
use Rattle.std.specs.Prelude.{nat_lt, if◌then◌else◌}
use Rattle.std.proofs.lemmas.Bool.{ltb-true}
use Rattle.agent_state.specs.Modes.{evict_at, evict_threshold, fill_of, full_of}
use Rattle.agent_state.specs.declared.modes.EvictMode.TheVariants as evict
use Rattle.agent_state.specs.declared.modes.Modes.{Modes}
use Rattle.agent_state.specs.declared.totals.Totals.{Totals}
use Rattle.tier_moves.specs.Ways.{FollowedModesTell}

-- the mode at a part that is not above a million is another
full_is_above : (threshold part : ℕ) → evict_at threshold part ≡ evict.Full → 1000000 < part
full_is_above threshold part is = by (nat_lt 1000000 part) (nat_lt threshold part) refl is
  where
    by : (b c : Bool) → nat_lt 1000000 part ≡ b
        → (if b then evict.Full else if c then evict.Some else evict.Idle) ≡ evict.Full
        → 1000000 < part
    by true c lt is = ltb-true 1000000 part lt
    by false true lt is = absurd (cc)
    by false false lt is = absurd (cc)

-- without a target nothing is filled
filled_has_target : (count : ℕ) (t : Totals) (objects bytes : ℕ)
    → 1000000 < fill_of count t (record { objects = objects; bytes = bytes })
    → (objects ≢ 0) ⊎ (bytes ≢ 0)
filled_has_target count t zero zero above = absurd (omega (arith, above))
filled_has_target count t zero (suc n) above = inr (λ is. absurd (cc))
filled_has_target count t (suc n) bytes above = inl (λ is. absurd (cc))

pub followed_modes_tell : FollowedModesTell
followed_modes_tell a t old is full =
    let above : 1000000 < full_of t a.share =
    full_is_above (evict_threshold a.values old.evict) (full_of t a.share)
    (sym (ap (λ (m : Modes). m.evict) is) ∙ full) in
    record {
      mode = full;
      above = subst (λ (n : ℕ). 1000000 < n) (sym (ap (λ (m : Modes). m.full_micro) is)) above;
      target = filled_has_target t.records t a.share.objects a.share.bytes above;
    }
