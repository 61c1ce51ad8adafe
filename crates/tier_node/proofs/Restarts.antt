-- A call is told that the cache was started in between.
use Rattle.std.proofs.Common.{◌≡◌, ◌<◌, ◌&&◌, ℕ, Bool, true, false, true≢false, nat_lt, List, if◌then◌else◌, Option, Some, None, refl, sym, ap, subst, ◌∙◌, arith}
use Rattle.std.proofs.lemmas.Bool.{ltb-true}
use Rattle.tier_chron.specs.Shapes.{may_answer}
use Rattle.tier_chron.specs.declared.answer.Answer.TheVariants as answer
use Rattle.tier_chron.specs.declared.asked.Asked.{Asked}
use Rattle.tier_chron.specs.declared.asked.Asked.TheVariants.{Write, Read, Flush, Finish, Evict, Drain, Agent, Start}
use Rattle.tier_core.specs.Turns.{HasTurn}
use Rattle.tier_core.specs.declared.turns.Turn.{Turn}
use Rattle.tier_node.proofs.Turns.{may_by}
use Rattle.tier_node.specs.Advancing.{may_restart, restart_of}
use Rattle.tier_node.specs.Tells.{IsRestart, MayBeTold}
use Rattle.tier_view.specs.Calls.{entry_of}
use Rattle.tier_view.specs.Views.{GroupView}
use Rattle.tier_view.specs.Whole.{BeganIn, IsFirstEpoch}
use Rattle.tier_view.specs.declared.parts.Entry.{Entry}

-- what is known where a call is told the epoch of its first step
record IsLeft (epoch : ℕ) (e : Entry) (was : ℕ) : Type 0 where
  earlier : e.epoch < epoch
  asks : may_restart e.asked ≡ true
  own : e.epoch ≡ was

one_number : (a b : ℕ) → Some a ≡ Some b → a ≡ b
one_number a b e = cc

left_by : (epoch : ℕ) (e : Entry) (was : ℕ) → Some was ≡ restart_of epoch (Some e)
    → IsLeft epoch e was
left_by epoch e was is = by (nat_lt e.epoch epoch) (may_restart e.asked) refl refl (sym is)
  where
    by : (l m : Bool) → nat_lt e.epoch epoch ≡ l → may_restart e.asked ≡ m
        → (if l && m then Some e.epoch else None) ≡ Some was → IsLeft epoch e was
    by true true less asks k = record {
      earlier = ltb-true e.epoch epoch less;
      asks = asks;
      own = one_number e.epoch was k;
    }
    by true false less asks k = absurd (cc)
    by false m less asks k = absurd (cc)

told_restart : (a : Asked) (was now : ℕ) → may_restart a ≡ true
    → may_answer a (answer.Restarted was now) ≡ true
told_restart (Write r) was now h = refl
told_restart (Read client name vector) was now h = refl
told_restart (Flush name blocking false) was now h = refl
told_restart (Flush name blocking true) was now h = absurd (true≢false (sym h))
told_restart (Finish name) was now h = absurd (true≢false (sym h))
told_restart (Evict name) was now h = absurd (true≢false (sym h))
told_restart Drain was now h = refl
told_restart Agent was now h = refl
told_restart Start was now h = absurd (true≢false (sym h))

began_in : (es : List Entry) (epoch : ℕ) (a : Asked) (was : ℕ) → may_restart a ≡ true → epoch ≡ was
    → BeganIn es epoch a was
began_in es epoch (Write r) was h is = is
began_in es epoch (Read client name vector) was h is = is
began_in es epoch (Flush name blocking begin_only) was h is = is
began_in es epoch (Finish name) was h is = absurd (true≢false (sym h))
began_in es epoch (Evict name) was h is = is
began_in es epoch Drain was h is = is
began_in es epoch Agent was h is = is
began_in es epoch Start was h is = is

module _ (v : GroupView) (turn : Turn) (was : ℕ) (h : HasTurn v turn.call turn)
    (at : Some was ≡ restart_of v.standing.cache_epoch (entry_of v.calls.entries turn.call)) where
  is_left : IsLeft v.standing.cache_epoch h.entry was
  is_left =
      left_by v.standing.cache_epoch h.entry was
      (at ∙ ap (restart_of v.standing.cache_epoch) h.is)

  pub may_be_left : MayBeTold v turn (answer.Restarted was v.standing.cache_epoch)
  may_be_left =
      may_by v turn (answer.Restarted was v.standing.cache_epoch) h
      (told_restart h.entry.asked was v.standing.cache_epoch is_left.asks)

  pub restart_so : IsRestart v turn (answer.Restarted was v.standing.cache_epoch)
  restart_so = (
    omega (arith, is_left.earlier, is_left.own),
    omega arith,
    subst (λ (o : Option Entry). IsFirstEpoch v.calls.entries o was) (sym h.is)
        (began_in v.calls.entries h.entry.epoch h.entry.asked was is_left.asks is_left.own),
  )
