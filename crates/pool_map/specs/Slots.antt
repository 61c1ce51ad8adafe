-- The slots of a map: the keys that have a value, and the keys for whose value there is only room.
use Rattle.std.specs.Prelude.{◌≡◌, ℕ, Bool, true, false, ◌||◌, List, [], ◌∷◌, Option, Some, None, IsSome}
use Rattle.std.specs.FinMap as fin
use Rattle.std.specs.Ordering.{is_eq}
use Rattle.obj_model.specs.Names.{name_cmp}
use Rattle.obj_model.specs.declared.change.Change.{Change}
use Rattle.obj_model.specs.declared.change.Change.TheVariants.{Put, Remove}
use Rattle.store_face.specs.Tables.{Table}

-- each key's slot, which is empty or has a value
abbrev pub SlotMap : Type 0
SlotMap = fin.FinMap name_cmp (Option (List ℕ))

-- the slots that have a value, with it
abbrev pub with_values : List (List ℕ × Option (List ℕ)) → List (List ℕ × List ℕ)
with_values [] = []
with_values (r ∷ rs) = elim r.1 [ None ↦ with_values rs | Some v ↦ (r.0, v) ∷ with_values rs ]

-- the map that the slots hold: an empty slot's key is not there
unfoldable pub filled : SlotMap → Table
filled m = fin.from_entries (with_values (fin.entries m))

-- whether a slot is there and empty
abbrev pub is_room : Option (Option (List ℕ)) → Bool
is_room None = false
is_room (Some None) = true
is_room (Some (Some v)) = false

-- a change can be made without memory: a value that is put finds a slot
abbrev pub HasRoom : SlotMap → Change → Type 0
HasRoom m (Put key value) = IsSome (fin.get m key)
HasRoom m (Remove key) = Unit {0}

-- whether one of these changes puts a value at the key
abbrev pub puts : List ℕ → List Change → Bool
puts key [] = false
puts key (Put other value ∷ cs) = is_eq (name_cmp key other) || puts key cs
puts key (Remove other ∷ cs) = puts key cs

-- each empty slot is room for one of these changes
abbrev pub IsTidy : SlotMap → List Change → Type 0
IsTidy m cs = (key : List ℕ) → fin.get m key ≡ Some None → puts key cs ≡ true

-- if it puts a value, one of these changes puts one at its key
abbrev pub IsCovered : List Change → Change → Type 0
IsCovered cs (Put key value) = puts key cs ≡ true
IsCovered cs (Remove key) = Unit {0}

-- the slots after a change
abbrev pub slots_after : SlotMap → Change → SlotMap
slots_after m (Put key value) = fin.insert m key (Some value)
slots_after m (Remove key) = fin.remove m key

-- a key and its slot, as they are held, as a key of bytes and its slot
abbrev pub rows : {K X : Type 0} → (K → List ℕ) → List (K × X) → List (List ℕ × X)
rows bytes [] = []
rows bytes (e ∷ es) = (bytes e.0, e.1) ∷ rows bytes es
