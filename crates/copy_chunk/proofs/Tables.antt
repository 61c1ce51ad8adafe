-- The keys of tables rise, and a table is what its entries make.
use Rattle.std.proofs.Common.{◌≡◌, ℕ, Bool, true, false, T, ◌&&◌, List, [], ◌∷◌, ◌++◌, map, refl}
use Rattle.std.specs.List.{AllByRecursion}
use Rattle.std.specs.List.Sorted.{IsStrictlySortedBy}
use Rattle.std.specs.Ordering.{is_lt}
use Rattle.std.specs.declared.cmp.Ordering.{Ordering}
use Rattle.std.specs.declared.cmp.Ordering.TheVariants.{Less, Equal, Greater}
use Rattle.std.specs.FinMap as fin
use Rattle.std.specs.FinMap.Entries.{below_all}
use Rattle.obj_model.specs.Names.{name_cmp}
pub use Rattle.obj_model.proofs.Rising.{entries_rise, made_of_entries}
use Rattle.copy_chunk.specs.Chunks.{Entry}

abbrev pub Table : Type 0
Table = fin.FinMap name_cmp (List ℕ)

abbrev pub Rising : List Entry → Type 0
Rising es = IsStrictlySortedBy name_cmp (map (λ e. e.0) es)

front_above : (k : List ℕ) (xs ys : List Entry)
    → AllByRecursion (λ y. name_cmp k y ≡ Less) (map (λ e. e.0) (xs ++ ys))
    → AllByRecursion (λ y. name_cmp k y ≡ Less) (map (λ e. e.0) xs)
front_above k [] ys h = tt
front_above k (x ∷ xs) ys h = (h.0, front_above k xs ys h.1)

-- the first of rising entries rise
pub front_rises : (xs ys : List Entry) → Rising (xs ++ ys) → Rising xs
unfolding IsStrictlySortedBy
front_rises [] ys h = tt
front_rises (x ∷ xs) ys h = (front_above x.0 xs ys h.0, front_rises xs ys h.1)
