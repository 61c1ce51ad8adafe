-- A step and a quiet one are one step that keeps what always holds; so are a call's entry and a
-- step behind it; and what a call has that was entered just now.
use Rattle.std.specs.Prelude.{◌≡◌, ◌⊎◌, ◌+◌, ℕ, true, Option, Some, None}
use Rattle.obj_ops.specs.Stores.{Store}
use Rattle.tier_chron.specs.Calls.{call_of}
use Rattle.tier_chron.specs.Shapes.{HasNoAct}
use Rattle.tier_chron.specs.declared.asked.Asked.{Asked}
use Rattle.tier_flight.specs.Numbers.{IsIdle}
use Rattle.tier_view.specs.Answers.{KeepsQuietly, NoAnswer, NoWork, SameWork}
use Rattle.tier_view.specs.Calls.{IsInFlight, call_in, entry_of}
use Rattle.tier_view.specs.Grows.{Wanted}
use Rattle.tier_view.specs.Joining.{SameEpoch}
use Rattle.tier_view.specs.Laws.{Keeps}
use Rattle.tier_view.specs.Steps.{entry_for, opened_call}
use Rattle.tier_view.specs.Tables.{goes_without}
use Rattle.tier_view.specs.Views.{GroupView, calls_in}
use Rattle.tier_view.specs.Whole.{IsWhole}

-- ---- two in one

-- A quiet step behind a step: at most one of them answers, and work that comes in the first does
-- not go in the second.
abbrev pub QuietEndsStep : Type 0
QuietEndsStep =
    (other : Store → Store) (wanted : Option Wanted) (u v w : GroupView) → Keeps other wanted u v
    → KeepsQuietly v w → NoAnswer u v ⊎ NoAnswer v w → NoWork u v ⊎ SameWork v w
    → Keeps other wanted u w

-- a quiet step that logs no answer, before a step
abbrev pub QuietBeginsStep : Type 0
QuietBeginsStep =
    (other : Store → Store) (wanted : Option Wanted) (u v w : GroupView) → KeepsQuietly u v
    → Keeps other wanted v w → NoAnswer u v → Keeps other wanted u w

-- two quiet steps
abbrev pub QuietFollowsQuiet : Type 0
QuietFollowsQuiet =
    (u v w : GroupView) → KeepsQuietly u v → KeepsQuietly v w → NoAnswer u v ⊎ NoAnswer v w
    → KeepsQuietly u w

-- a call is entered before a step, which leaves the epoch
abbrev pub EntryBeginsStep : Type 0
EntryBeginsStep =
    (other : Store → Store) (v w : GroupView) (line : Option ℕ) (asked : Asked) → IsWhole v
    → (line ≡ None → goes_without asked ≡ true) → SameEpoch v w
    → Keeps other None (opened_call line asked v) w
    → Keeps other (Some (record { line = line; asked = asked })) v w

-- ---- a call that was entered just now

-- It is found under its number, in flight, with what it asked; it has no act, and waits for no
-- work.
pub record IsEntered (v : GroupView) (line : Option ℕ) (asked : Asked) : Type 0 where
  pub found : entry_of (opened_call line asked v).calls.entries (v.calls.last + 1)
      ≡ Some (entry_for line asked v)
  pub known : call_of (calls_in (opened_call line asked v).calls.entries) (v.calls.last + 1)
      ≡ Some (call_in (entry_for line asked v))
  pub going : IsInFlight (opened_call line asked v).calls.entries (v.calls.last + 1)
  pub actless : HasNoAct (v.calls.last + 1) v.log.acts
  pub idle : IsIdle (v.calls.last + 1) v.traffic.flights

abbrev pub NewCallsAreFree : Type 0
NewCallsAreFree =
    (v : GroupView) (line : Option ℕ) (asked : Asked) → IsWhole v → IsEntered v line asked
