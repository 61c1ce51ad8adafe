-- A message that was handed to the base, from its parts.
use Rattle.std.proofs.Common.{◌≡◌, ◌⊎◌, inl, ℕ, Option, Some, None, Ok, sym, ap, subst, ◌∙◌}
use Rattle.std.specs.List.{AllByRecursion}
use Rattle.base_pool.specs.Serves.{IsMsg, Serves}
use Rattle.base_pool.specs.Views.{BaseView}
use Rattle.tier_chron.specs.Logs.{Log}
use Rattle.tier_traffic.specs.Messages.{sent_of}
use Rattle.tier_view.specs.Traffic.{Traffic}
use Rattle.tier_view.specs.declared.parts.Pending.{Pending}
use Rattle.tier_view.specs.declared.parts.Sent.{Sent}
use Rattle.tier_core.specs.Served.{BaseAnswer, HandsOver, IsHalted, IsServed, Touched, delivered_as, doubt_behind, log_behind, served_parts, told_by, touched, traffic_told}
use Rattle.tier_core.specs.Stakes.{FindsStake, IsNamed}
use Rattle.tier_core.specs.declared.delivering.Delivered.{Delivered}
use Rattle.tier_core.specs.declared.delivering.Delivered.TheVariants as delivered
use Rattle.tier_core.specs.declared.stakes.Stake.{Stake}
use Rattle.tier_core.proofs.StakedThere.{holds_of, sent_is}

module _ (number : ℕ) (old u : Traffic) (m : Sent) (same : u ≡ old) (at : Some m ≡ sent_of u.messages number) where
  there : sent_of old.messages number ≡ Some m
  there = ap (λ (t : Traffic). sent_of t.messages number) (sym same) ∙ sym at

  pub sent_lawful : AllByRecursion (λ (s : Sent). IsMsg s.message) old.messages → IsMsg m.message
  sent_lawful h = holds_of (λ (s : Sent). IsMsg s.message) old.messages m h (sent_is number old.messages m there).0

  module _ (base new : BaseView) (was epoch : ℕ) (doubt pending : Option Pending) (log mid after : Log) (traffic : Traffic) (between : BaseView) (stake : Stake) (answer : BaseAnswer) (outcome : Delivered) where
    abbrev Old : Touched
    Old = touched base was doubt log old

    abbrev New : ℕ → Option Pending → Log → Traffic → Touched
    New e p l t = touched new e p l t

    -- what `HandsOver` says, by the message
    abbrev Outcomes : Delivered → Touched → Option Sent → Type 0
    Outcomes told t x = elim x [ None ↦ (told ≡ delivered.Nothing) × (t ≡ Old) | Some s ↦ IsServed s Old t told ⊎ IsHalted s Old t told ]

    numbered : m.number ≡ number
    numbered = (sent_is number old.messages m there).1

    parts : epoch ≡ new.epoch → mid ≡ log → pending ≡ doubt_behind answer stake doubt → after ≡ log_behind answer stake mid → traffic ≡ traffic_told number (told_by answer) u
        → New epoch pending after traffic ≡ served_parts m.number stake answer new Old
    parts e l p a t =
        ap (λ (x : ℕ). New x pending after traffic) e
        ∙ ap (λ (x : Option Pending). New new.epoch x after traffic) p
        ∙ ap (λ (x : Log). New new.epoch (doubt_behind answer stake doubt) x traffic) (a ∙ ap (log_behind answer stake) l)
        ∙ ap (λ (x : Traffic). New new.epoch (doubt_behind answer stake doubt) (log_behind answer stake log) x)
        (t ∙ ap (traffic_told number (told_by answer)) same ∙ ap (λ (n : ℕ). traffic_told n (told_by answer) old) (sym numbered))

    pub served_is : IsNamed m.message → FindsStake m log base between (Ok stake) → Serves m.message between new answer
        → epoch ≡ new.epoch → mid ≡ log → pending ≡ doubt_behind answer stake doubt → after ≡ log_behind answer stake mid → traffic ≡ traffic_told number (told_by answer) u
        → outcome ≡ delivered_as u.next_reply answer
        → HandsOver number Old (New epoch pending after traffic) outcome
    served_is named found served e l p a t o =
        subst (Outcomes outcome (New epoch pending after traffic)) (sym there)
        (inl (record {
          between = between;
          stake = stake;
          named = named;
          found = found;
          answer = answer;
          served = served;
          is = parts e l p a t;
          outcome_is = o ∙ ap (λ (x : Traffic). delivered_as x.next_reply answer) same;
        }))
