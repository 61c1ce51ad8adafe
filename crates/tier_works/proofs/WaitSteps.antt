-- What calls await, and how far drains have come.
use Rattle.std.proofs.Common.{◌≡◌, ◌<◌, ◌⊎◌, inl, inr, ℕ, List, [], ◌∷◌, refl, sym, subst}
use Rattle.std.specs.List.{AllByRecursion}
use Rattle.tier_protocol.specs.Tiers.{IsIn}
use Rattle.tier_view.specs.Calls.{IsInFlight}
use Rattle.tier_view.specs.declared.parts.Entry.{Entry}
use Rattle.tier_view.specs.declared.parts.Awaited.{Awaited}
use Rattle.tier_view.specs.Views.{joined}
use Rattle.tier_view.proofs.Answering.{steps_join_quiet}
use Rattle.tier_view.proofs.Resting.{rests_promises}
use Rattle.tier_works.specs.Waits.{AwaitingEndsStep, AwaitingKeeps, NotingKeeps, with_awaited}
use Rattle.tier_works.proofs.QuietSteps.{quiet_step, same_entries, same_flown}

-- ---- what a call awaits

all_within : (es : List Entry) (next : ℕ) (old new : List Awaited) (this : Awaited)
    → IsInFlight es this.call → this.message < next
    → AllByRecursion (λ a. IsInFlight es a.call × (a.message < next)) old
    → ((a : Awaited) → IsIn a new → (a ≡ this) ⊎ IsIn a old)
    → AllByRecursion (λ a. IsInFlight es a.call × (a.message < next)) new
all_within es next old [] this going less h only = tt
all_within es next old (a ∷ new) this going less h only = (
  elim (only a (inl refl)) [
    | inl is ↦ subst (λ x. IsInFlight es x.call × (x.message < next)) (sym is) (going, less)
    | inr on ↦ one old h on
  ],
  all_within es next old new this going less h (λ x on. only x (inr on)),
)
  where
    one : (xs : List Awaited) → AllByRecursion (λ a. IsInFlight es a.call × (a.message < next)) xs
        → IsIn a xs → IsInFlight es a.call × (a.message < next)
    one [] h on = absurd on
    one (x ∷ xs) h (inl is) =
        subst (λ y. IsInFlight es y.call × (y.message < next)) (sym is) h.0
    one (x ∷ xs) h (inr on) = one xs h.1 on

pub awaiting_keeps : AwaitingKeeps
awaiting_keeps v call message awaited h going less is =
    quiet_step v h v.calls.entries v.calls.flown (record v.traffic { awaited = awaited }) v.agent
    (rests_promises (joined v)) (λ start b z i k. k) refl (same_entries v) (same_flown v) refl refl
    h.flights
    (record {
      messages = h.traffic.messages;
      replies = h.traffic.replies;
      answers = h.traffic.answers;
      owned = h.traffic.owned;
      begun = h.traffic.begun;
      awaited = all_within v.calls.entries v.traffic.next_message v.traffic.awaited awaited
          (record { call = call; message = message }) going less h.traffic.awaited is.only;
    })
    h.totals

pub awaiting_ends_step : AwaitingEndsStep
awaiting_ends_step other wanted u v call message awaited step going less is =
    let waits = awaiting_keeps v call message awaited step.0 going less is in (
      waits.0,
      steps_join_quiet other wanted u v (with_awaited awaited v) step.1 waits.1 (inr refl)
          (inr refl),
    )

-- ---- how far a drain has come

pub noting_keeps : NotingKeeps
noting_keeps v n noted h q =
    quiet_step v h v.calls.entries v.calls.flown (record v.traffic { noted = noted }) v.agent
    (rests_promises (joined v)) (λ start b z i k. k) refl (same_entries v) (same_flown v) refl refl
    h.flights
    (record {
      messages = h.traffic.messages;
      replies = h.traffic.replies;
      answers = h.traffic.answers;
      owned = h.traffic.owned;
      begun = h.traffic.begun;
      awaited = h.traffic.awaited;
    })
    h.totals
