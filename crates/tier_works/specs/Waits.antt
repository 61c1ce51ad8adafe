-- What calls await, and how far drains have come.
use Rattle.std.specs.Prelude.{◌≡◌, ◌<◌, ◌⊎◌, ℕ, List, Option, Some}
use Rattle.obj_ops.specs.Stores.{Store}
use Rattle.tier_chron.specs.declared.asked.Asked.TheVariants.{Drain}
use Rattle.tier_protocol.specs.Tiers.{IsIn}
use Rattle.tier_view.specs.Answers.{KeepsQuietly}
use Rattle.tier_view.specs.Calls.{IsInFlight, entry_of}
use Rattle.tier_view.specs.Grows.{Wanted}
use Rattle.tier_view.specs.Laws.{Keeps}
use Rattle.tier_view.specs.declared.parts.Entry.{Entry}
use Rattle.tier_view.specs.declared.parts.Awaited.{Awaited}
use Rattle.tier_view.specs.declared.parts.Noted.{Noted}
use Rattle.tier_view.specs.Views.{GroupView}
use Rattle.tier_view.specs.Whole.{IsWhole}

-- ---- what a call awaits

-- The call awaits this message, and each other call what it awaited; what the call awaited before
-- may be given up for it.
pub record IsAwaiting (call message : ℕ) (old new : List Awaited) : Type 0 where
  pub this : IsIn (record { call = call; message = message }) new
  pub only : (a : Awaited) → IsIn a new
      → (a ≡ record { call = call; message = message }) ⊎ IsIn a old
  pub others : (a : Awaited) → IsIn a old → (a.call ≡ call) ⊎ IsIn a new

abbrev pub with_awaited : List Awaited → GroupView → GroupView
with_awaited awaited v = record v { traffic = record v.traffic { awaited = awaited } }

-- a call in flight awaits a message that was sent
abbrev pub AwaitingKeeps : Type 0
AwaitingKeeps =
    (v : GroupView) (call message : ℕ) (awaited : List Awaited) → IsWhole v
    → IsInFlight v.calls.entries call → message < v.traffic.next_message
    → IsAwaiting call message v.traffic.awaited awaited
    → KeepsQuietly v (with_awaited awaited v)

-- behind a step too, as where work begins and is sent
abbrev pub AwaitingEndsStep : Type 0
AwaitingEndsStep =
    (other : Store → Store) (wanted : Option Wanted) (u v : GroupView) (call message : ℕ)
    (awaited : List Awaited) → Keeps other wanted u v → IsInFlight v.calls.entries call
    → message < v.traffic.next_message → IsAwaiting call message v.traffic.awaited awaited
    → Keeps other wanted u (with_awaited awaited v)

-- ---- how far a drain has come

-- The call has noted this, and each other call what it had; what the call noted before may be given
-- up for it.
pub record IsNoting (n : Noted) (old new : List Noted) : Type 0 where
  pub this : IsIn n new
  pub only : (x : Noted) → IsIn x new → (x ≡ n) ⊎ IsIn x old
  pub others : (x : Noted) → IsIn x old → (x.call ≡ n.call) ⊎ IsIn x new

abbrev pub with_noted : List Noted → GroupView → GroupView
with_noted noted v = record v { traffic = record v.traffic { noted = noted } }

-- a drain in flight notes how far it has come
pub record Notes (v : GroupView) (n : Noted) (noted : List Noted) : Type 0 where
  pub entry : Entry
  pub found : entry_of v.calls.entries n.call ≡ Some entry
  pub asked : entry.asked ≡ Drain
  pub going : IsInFlight v.calls.entries n.call
  pub is : IsNoting n v.traffic.noted noted

abbrev pub NotingKeeps : Type 0
NotingKeeps =
    (v : GroupView) (n : Noted) (noted : List Noted) → IsWhole v → Notes v n noted
    → KeepsQuietly v (with_noted noted v)
