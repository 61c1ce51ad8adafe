-- Places in a map, as it is read key by key in their order.
use Rattle.std.specs.Prelude.{◌≡◌, ◌⊎◌, ℕ, Bool, true, false, not, List, take, length, Option, Some, None}
use Rattle.std.specs.FinMap as fin
use Rattle.std.specs.Ordering.{is_lt}
use Rattle.std.specs.declared.cmp.Ordering.TheVariants.{Less}
use Rattle.obj_model.specs.Names.{name_cmp}
use Rattle.obj_model.specs.Tables.{is_above}
use Rattle.store_face.specs.Tables.{Table, keys_above}

-- a key is not above the bound, where there is one
abbrev pub is_within : Option (List ℕ) → List ℕ → Bool
is_within None key = true
is_within (Some bound) key = not (is_lt (name_cmp bound key))

-- the keys of a page are the first of the map above the key that was passed last
abbrev pub IsPage : (passed : Option (List ℕ)) → List (List ℕ) → Table → Type 0
IsPage passed page t = page ≡ take (length page) (keys_above passed t)

-- the key is the first of the map above the one that was passed
pub record IsNext (passed : Option (List ℕ)) (key : List ℕ) (t : Table) : Type 0 where
  pub value : List ℕ
  pub there : fin.get t key ≡ Some value
  pub above : is_above passed key ≡ true
  pub others : (k v : List ℕ) → fin.get t k ≡ Some v → is_above passed k ≡ true
      → (k ≡ key) ⊎ (name_cmp key k ≡ Less)

-- no key of the map above the one that was passed is within the bound
abbrev pub IsLast : (passed bound : Option (List ℕ)) → Table → Type 0
IsLast passed bound t =
    (k v : List ℕ) → fin.get t k ≡ Some v → is_above passed k ≡ true → is_within bound k ≡ false

-- the keys up to the one that was passed have right values
abbrev pub AreRight : (List ℕ → List ℕ → Type 0) → Option (List ℕ) → Table → Type 0
AreRight IsRight passed t =
    (k v : List ℕ) → fin.get t k ≡ Some v → is_above passed k ≡ false → IsRight k v

-- what is said of the value of a key, once the key was passed; before, it is said of no value
pub record IsSaid (key : List ℕ) (P : Option (List ℕ) → Type 0) (passed : Option (List ℕ))
    (t : Table)
    : Type 0 where
  pub before : is_above passed key ≡ true → P None
  pub behind : is_above passed key ≡ false → P (fin.get t key)
