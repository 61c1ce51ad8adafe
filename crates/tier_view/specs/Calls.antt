-- The calls of a group, and the work that they began.
use Rattle.std.specs.Prelude.{◌≡◌, ℕ, false, ◌==◌, List, Option, Some, None}
use Rattle.std.specs.List.{find}
use Rattle.tier_chron.specs.Calls.{Call}
pub use Rattle.tier_view.specs.declared.parts.Entry.{Entry}
pub use Rattle.tier_view.specs.declared.parts.Flown.{Flown}

-- the table of calls in their order, the last call's number, and the table of the work that came
-- and went
pub record Calls : Type 0 where
  pub entries : List Entry
  pub last : ℕ
  pub flown : List Flown

-- a call as a history knows it
abbrev pub call_in : Entry → Call
call_in e = record { number = e.number; line = e.line; begin = e.begin; asked = e.asked }

-- the entry of a number
abbrev pub entry_of : List Entry → ℕ → Option Entry
entry_of entries number = find (λ e. e.number == number) entries

-- there is such a call, and it is not over
abbrev pub IsGoing : Option Entry → Type 0
IsGoing None = ⊥
IsGoing (Some e) = e.ended ≡ false

-- a call is in flight
abbrev pub IsInFlight : List Entry → ℕ → Type 0
IsInFlight entries call = IsGoing (entry_of entries call)
