-- The laws on work.
use Rattle.std.proofs.Common.{◌≡◌, ◌↔◌, ◌∙◌, sym, ap, refl, ℕ, Bool, true, false, cond, List, [], ◌∷◌, Option, Some, None, subst, ◌||◌, ◌==◌, inl, inr, true≢false}
use Rattle.std.specs.Prelude.{if◌then◌else◌}
use Rattle.std.proofs.lemmas.Bool.{eq-eqb, eqb-true}
use Rattle.tier_types.specs.Flights.{AreIn, IsIn, IsLeftOf}
use Rattle.tier_types.specs.declared.flight.Flight.{Flight}
use Rattle.tier_types.specs.declared.flight.Flight.TheVariants as flight
use Rattle.tier_types.specs.declared.flight.ReadFlight.{ReadFlight}
use Rattle.tier_flight.specs.Ends.{is_call, is_other, left_of, others_of, reads_left}
use Rattle.tier_flight.specs.Laws.{EndsLeave, OpidsAreTested, TakingLeaves}
use Rattle.tier_flight.specs.Numbers.{has_call, reads_opid}

-- ---- operations

same : (o k : ℕ) → ((o == k) ≡ true) ↔ (k ≡ o)
same o k = ((λ e. sym (eqb-true o k e)), (λ e. eq-eqb o k (sym e)))

found : (k : ℕ) (list : List ReadFlight) → reads_opid k list ≡ true →
    (r : ReadFlight) × IsIn r list × (k ≡ r.opid)
found k [] e = absurd (true≢false (sym e))
found k (r ∷ rs) e = by (r.opid == k) refl e (found k rs)
  where
    by : (b : Bool) → (r.opid == k) ≡ b → (b || reads_opid k rs) ≡ true →
        (reads_opid k rs ≡ true → (s : ReadFlight) × IsIn s rs × (k ≡ s.opid)) →
        (s : ReadFlight) × IsIn s (r ∷ rs) × (k ≡ s.opid)
    by true at e rest = (r, inl refl, sym (eqb-true r.opid k at))
    by false at e rest = let there = rest e in (there.0, inr there.1, there.2)

or_true : (a b : Bool) → a ≡ true → (a || b) ≡ true
or_true a b e = ap (λ x. x || b) e

or_second : (a b : Bool) → b ≡ true → (a || b) ≡ true
or_second true b e = refl
or_second false b e = e

tested : (k : ℕ) (list : List ReadFlight) (r : ReadFlight) → IsIn r list → k ≡ r.opid →
    reads_opid k list ≡ true
tested k [] r there e = absurd there
tested k (x ∷ xs) r (inl one) e = or_true (x.opid == k) (reads_opid k xs)
    (eq-eqb x.opid k (ap (λ (s : ReadFlight). s.opid) (sym one) ∙ sym e))
tested k (x ∷ xs) r (inr there) e = or_second (x.opid == k) (reads_opid k xs)
    (tested k xs r there e)

pub opids_are_tested : OpidsAreTested
opids_are_tested None k = ((λ e. absurd (true≢false (sym e))), (λ h. absurd h))
opids_are_tested (Some (flight.Promote c o g a)) k = same o k
opids_are_tested (Some (flight.Write d w o r)) k = same o k
opids_are_tested (Some (flight.Reads list)) k = (found k list, (λ h. tested k list h.0 h.1 h.2))
opids_are_tested (Some (flight.Flush c o s b d)) k = same o k

-- ---- what is left

kept_in : (call : ℕ) (list : List ReadFlight) → AreIn (others_of call list) list
kept_in call [] r there = there
kept_in call (x ∷ xs) r there = by (is_other call x) refl (kept_in call xs r)
  where
    by : (b : Bool) → is_other call x ≡ b → (IsIn r (others_of call xs) → IsIn r xs) →
        IsIn r (x ∷ xs)
    by true e rest = elim
        (subst (λ (b : Bool). IsIn r (cond b (x ∷ others_of call xs) (others_of call xs))) e there)
        [ inl one ↦ inl one | inr behind ↦ inr (rest behind) ]
    by false e rest = inr
        (rest (subst (λ (b : Bool). IsIn r (cond b (x ∷ others_of call xs) (others_of call xs))) e
        there))

reads_are_left : (xs all : List ReadFlight) → AreIn xs all →
    IsLeftOf (Some (flight.Reads all)) (reads_left xs)
reads_are_left [] all within = refl
reads_are_left (r ∷ rs) all within = (all, refl, within)

if_dropped : (f : Flight) (b : Bool) → IsLeftOf (Some f) None → IsLeftOf (Some f) (Some f) →
    IsLeftOf (Some f) (if b then None else Some f)
if_dropped f true gone stays = gone
if_dropped f false gone stays = stays

reads_within : (list : List ReadFlight) → AreIn list list
reads_within list r there = there

stays_left : (f : Flight) → IsLeftOf (Some f) (Some f)
stays_left (flight.Promote c o g a) = refl
stays_left (flight.Write d w o r) = (d, refl)
stays_left (flight.Reads list) = (list, refl, reads_within list)
stays_left (flight.Flush c o s b d) = (c, refl)

one_left : (call : ℕ) (f : Flight) → IsLeftOf (Some f) (left_of call f)
one_left call (flight.Promote c o g a) = if_dropped (flight.Promote c o g a) (c == call) refl refl
one_left call (flight.Write d w o r) = (d, refl)
one_left call (flight.Reads list) = reads_are_left (others_of call list) list (kept_in call list)
one_left call (flight.Flush c o s b d) = if_dropped (flight.Flush c o s b d) (is_call call c) refl
    (c, refl)

if_left : (old left : Option Flight) (b : Bool) → IsLeftOf old left → IsLeftOf old old →
    IsLeftOf old (if b then left else old)
if_left old left true ended stays = ended
if_left old left false ended stays = stays

pub ends_leave : EndsLeave
ends_leave call None = refl
ends_leave call (Some f) = if_left (Some f) (left_of call f) (has_call (Some f) call)
    (one_left call f) (stays_left f)

pub taking_leaves : TakingLeaves
taking_leaves call None u = absurd u
taking_leaves call (Some (flight.Promote c o g a)) u = absurd u
taking_leaves call (Some (flight.Write d w o r)) u = (d, refl)
taking_leaves call (Some (flight.Reads list)) u = absurd u
taking_leaves call (Some (flight.Flush c o s b d)) u = (c, refl)
