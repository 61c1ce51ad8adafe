-- Calls that are in flight and have a line.
use Rattle.std.specs.Prelude.{ℕ, Bool, not, ◌&&◌, List, is_some}
use Rattle.std.specs.List.{count_by}
use Rattle.tier_view.specs.declared.parts.Entry.{Entry}

-- the call is in flight and has a line
abbrev pub is_going : Entry → Bool
is_going e = is_some e.line && not e.ended

-- how many calls are in flight and have a line
abbrev pub going_in : List Entry → ℕ
going_in entries = count_by is_going entries
