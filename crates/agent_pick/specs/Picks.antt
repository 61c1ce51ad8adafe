-- The pick: the first row that qualifies, in the cyclic order of names behind the cursor.
use Rattle.std.specs.Prelude.{ℕ, ◌+◌, Bool, List, Option, Some, None, length, take, drop, slice_get, if◌then◌else◌}
use Rattle.std.specs.List.{position}
use Rattle.std.specs.Option.{option_or, option_map}
use Rattle.std.specs.Ordering.{is_lt}
use Rattle.obj_model.specs.Names.{name_cmp}
use Rattle.agent_pick.specs.declared.row.Row.{Row}
use Rattle.agent_pick.specs.declared.row.Rule.{Rule}
use Rattle.agent_pick.specs.declared.picking.Chosen.{Chosen}
use Rattle.agent_pick.specs.declared.picking.Chosen.TheVariants.{Evict, Flush, Nothing}
use Rattle.agent_pick.specs.Rules.{qualifies}

-- the row's name comes behind the cursor
abbrev pub is_behind : List ℕ → Row → Bool
is_behind cursor r = is_lt (name_cmp cursor r.name)

-- the place, or the end of the rows where there is none
abbrev pub or_end : List Row → Option ℕ → ℕ
or_end rows (Some place) = place
or_end rows None = length rows

-- how many rows are passed over at first: those up to the cursor, none without a cursor
abbrev pub start_of : Option (List ℕ) → List Row → ℕ
start_of None rows = 0
start_of (Some cursor) rows = or_end rows (position (is_behind cursor) rows)

-- the first place from the start on at which the test holds, else the first before it
abbrev pub first_from : (Row → Bool) → ℕ → List Row → Option ℕ
first_from test start rows =
    option_or
    (option_map (λ i. start + i) (position test (drop start rows)))
    (position test (take start rows))

-- what is done with the row
abbrev pub done_with : ℕ → Row → Chosen
done_with place r = if r.dirty then Flush place else Evict place

-- what is done with the row at this place
abbrev pub chosen_row : ℕ → Option Row → Chosen
chosen_row place None = Nothing
chosen_row place (Some r) = done_with place r

-- what is done at the place, if there is one
abbrev pub chosen_at : List Row → Option ℕ → Chosen
chosen_at rows None = Nothing
chosen_at rows (Some place) = chosen_row place (slice_get rows place)

-- the pick
abbrev pub pick_of : List Row → Option (List ℕ) → Rule → Chosen
pick_of rows cursor rule =
    chosen_at rows (first_from (qualifies rows rule) (start_of cursor rows) rows)
