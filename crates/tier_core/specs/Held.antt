-- When a history is full, and when numbers have come to their end.
use Rattle.std.specs.Prelude.{◌≡◌, ◌⊎◌, ◌+◌, ◌*◌, ◌<◌, ◌≤◌, ◌&&◌, ℕ, Bool, false, cond, not, Option, Some, None, is_some, IsSome}
use Rattle.obj_model.specs.Limits.{number_limit}
use Rattle.tier_calls.specs.Going.{going_in}
use Rattle.tier_chron.specs.Weights.{bytes_of, cut, entries_of}
use Rattle.tier_core.specs.declared.holding.Fullness.{Fullness}
use Rattle.tier_traffic.specs.Left.{left_writes}
use Rattle.tier_view.specs.declared.parts.KeptFence.{KeptFence}
use Rattle.tier_view.specs.Views.{GroupView}

-- the most entries of a history
abbrev pub entries_limit : ℕ
entries_limit = 1048576

-- what they weigh together where it is full
abbrev pub bytes_limit : ℕ
bytes_limit = 268435456

-- a Fence keeps a line, without a call
abbrev pub keeps_line : Option KeptFence → Bool
keeps_line None = false
keeps_line (Some kept) = is_some kept.line && not (is_some kept.call)

-- what is under way, of which up to three entries may still come: the calls in flight that have a
-- line, the write requests that are left, and a Fence that keeps a line without a call
abbrev pub under_way : GroupView → ℕ
under_way v =
    going_in v.calls.entries
    + (left_writes v.traffic.flights + cond (keeps_line v.standing.kept) 1 0)

-- how many entries are held for what is under way, and one for a commit in doubt
abbrev pub held_of : GroupView → ℕ
held_of v = 3 * under_way v + cond (is_some v.stores.pending) 1 0

-- the history has no room for one call more that has a line
abbrev pub IsFull : GroupView → Type 0
IsFull v =
    (entries_limit < entries_of v.log + held_of v + 3) ⊎ (bytes_limit ≤ bytes_of v.log)

-- it is full, with so many entries, which weigh so much
pub record IsFullWith (v : GroupView) (full : Fullness) : Type 0 where
  pub full_is : IsFull v
  pub entries : full.entries ≡ cut (entries_of v.log)
  pub bytes : full.bytes ≡ cut (bytes_of v.log)

-- the same for a call on this line: without one there is always room
abbrev pub IsFullFor : (line : Option ℕ) → GroupView → Type 0
IsFullFor line v = IsSome line × IsFull v

-- the next operation's number, or the last call's, stands at the limit or above it
abbrev pub IsWorn : GroupView → Type 0
IsWorn v = (number_limit ≤ v.standing.next_opid) ⊎ (number_limit ≤ v.calls.last)
