-- What ties an index to the rows, and what follows.
use Rattle.std.specs.Prelude.{◌≡◌, ℕ, Bool, true, false, not, ◌&&◌, cond, List, Option, Some, None, is_some, map, slice_get}
use Rattle.std.specs.List.{find}
use Rattle.std.specs.List.Sorted.{IsStrictlySortedBy}
use Rattle.std.specs.Option.{option_map}
use Rattle.std.specs.BTreeMap.{is_at}
use Rattle.std.specs.FinMap as fin
use Rattle.obj_model.specs.Names.{name_cmp}
use Rattle.agent_pick.specs.declared.row.Row.{Row}
use Rattle.agent_pick.specs.declared.row.Rule.{Rule}
use Rattle.agent_pick.specs.declared.picking.Chosen.{Chosen}
use Rattle.agent_pick.specs.declared.picking.Chosen.TheVariants.{Evict, Flush, Nothing}
use Rattle.agent_pick.specs.Picks.{pick_of}
use Rattle.agent_pick.specs.Indexes.{Ready, NameSet, drop_name, is_plain, next_of, put_name}

-- the rows stand in rising order of their names
abbrev pub AreRising : List Row → Type 0
AreRising rows = IsStrictlySortedBy name_cmp (map (λ (r : Row). r.name) rows)

-- the row of a name, if there is one
abbrev pub row_of : List Row → List ℕ → Option Row
row_of rows n = find (λ (r : Row). is_at (name_cmp n) r.name) rows

-- a dirty row that is not busy
abbrev pub is_ready_dirty : Row → Bool
is_ready_dirty r = not r.busy && r.dirty

-- a clean row that is not busy
abbrev pub is_ready_clean : Row → Bool
is_ready_clean r = not r.busy && not r.dirty

-- there is a row, and it passes
abbrev pub row_passes : (Row → Bool) → Option Row → Bool
row_passes test None = false
row_passes test (Some r) = test r

-- the set has the names whose row passes
abbrev pub HasNames : (Row → Bool) → List Row → NameSet → Type 0
HasNames test rows s = (n : List ℕ) → is_some (fin.get s n) ≡ row_passes test (row_of rows n)

-- the index has the names of the rows that are not busy, the dirty and the clean ones
pub record IsIndexOf (rows : List Row) (s : Ready) : Type 0 where
  pub dirty : HasNames is_ready_dirty rows s.dirty
  pub clean : HasNames is_ready_clean rows s.clean

-- the name that was picked
abbrev pub name_picked : List Row → Chosen → Option (List ℕ)
name_picked rows (Evict place) = option_map (λ (r : Row). r.name) (slice_get rows place)
name_picked rows (Flush place) = option_map (λ (r : Row). r.name) (slice_get rows place)
name_picked rows Nothing = None

-- where neither age nor temperature decides, an index gives the name that a pass over the rows
-- picks
abbrev pub IndexedPicks : Type 0
IndexedPicks =
    (rows : List Row) (s : Ready) (cursor : Option (List ℕ)) (rule : Rule) →
    AreRising rows → IsIndexOf rows s → is_plain rule.modes.flush rule.modes.evict ≡ true →
    next_of s cursor rule.modes ≡ name_picked rows (pick_of rows cursor rule)

-- the row of this name is that one now, or there is none, and all others stay
abbrev pub IsRowChanged : List ℕ → Option Row → List Row → List Row → Type 0
IsRowChanged name now old new =
    (n : List ℕ) → row_of new n ≡ cond (is_at (name_cmp n) name) now (row_of old n)

-- an index in which a name was put is that of the rows with the row of that name
abbrev pub PutsKeep : Type 0
PutsKeep =
    (old new : List Row) (s : Ready) (r : Row) → IsIndexOf old s → r.busy ≡ false →
    IsRowChanged r.name (Some r) old new → IsIndexOf new (put_name r.name r.dirty s)

-- an index out of which a name was taken is that of rows where its row is busy
abbrev pub BusyKeeps : Type 0
BusyKeeps =
    (old new : List Row) (s : Ready) (r : Row) → IsIndexOf old s → r.busy ≡ true →
    IsRowChanged r.name (Some r) old new → IsIndexOf new (drop_name r.name s)

-- and of rows without it
abbrev pub DropsKeep : Type 0
DropsKeep =
    (old new : List Row) (s : Ready) (name : List ℕ) → IsIndexOf old s →
    IsRowChanged name None old new → IsIndexOf new (drop_name name s)
