-- A map's entries with their keys as bytes, and the finite map that they make.
use Rattle.std.proofs.Common.{sym, ◌∙◌, ap, subst}
use Rattle.std.specs.Prelude.{◌≡◌, ℕ, true, false, List, [], ◌∷◌, Option, None, Some, cond, map, T, refl}
use Rattle.std.specs.declared.cmp.Ordering.{Ordering}
use Rattle.std.specs.declared.cmp.Ordering.TheVariants.{Less, Equal, Greater}
use Rattle.std.specs.Ordering.{is_eq, eq_by_cmp}
use Rattle.std.specs.Cmp.{eq_by_cmp_equiv}
use Rattle.std.specs.Cmp.Lexicographic.{nat_list_cmp_total}
use Rattle.std.specs.FinMap as fin
use Rattle.std.specs.FinMap.{from_entries, slice_cmp-IsAntisymmetric, nat_cmp-IsAntisymmetric}
use Rattle.std.specs.List.{AllByRecursion}
use Rattle.std.specs.List.Sorted.{IsStrictlySortedBy}
use Rattle.std.specs.BTreeMap.{is_at}
use Rattle.std.specs.Map.{lookup, KeepsOthers}
use Rattle.obj_model.specs.Names.{name_cmp}
use Rattle.obj_model.proofs.NameMaps.{get_key, one_put, one_taken}
use Rattle.pool_map.specs.Slots.{rows}

abbrev Key : Type 0
Key = List ℕ

equal : (r : Ordering) → is_eq r ≡ true → r ≡ Equal
equal Less e = absurd (subst T (sym e) tt)
equal Equal e = refl
equal Greater e = absurd (subst T (sym e) tt)

module _ {K : Type 0} (bytes : K → Key) where
  tests : (q : Key) (x y : K) → is_eq (name_cmp q (bytes x)) ≡ true → is_eq (name_cmp q (bytes y)) ≡ is_eq (name_cmp (bytes x) (bytes y))
  tests q x y e = ap is_eq (nat_list_cmp_total.congr q (bytes x) (bytes y) (equal _ e))

  apart : (k q : Key) → is_eq (name_cmp k q) ≡ false → (y : K) → is_eq (name_cmp k (bytes y)) ≡ true → is_eq (name_cmp q (bytes y)) ≡ false
  apart k q far y e =
      (eq_by_cmp_equiv nat_list_cmp_total).symm q (bytes y) ∙ sym (ap is_eq (nat_list_cmp_total.congr k (bytes y) q (equal _ e))) ∙ far

module _ {K X : Type 0} (bytes : K → Key) where
  lookup_rows : (q : Key) (es : List (K × X)) → lookup (is_at (name_cmp q)) (rows bytes es) ≡ lookup (is_at (λ y. name_cmp q (bytes y))) es
  lookup_rows q [] = refl
  lookup_rows q (e ∷ es) = ap (cond (is_at (name_cmp q) (bytes e.0)) (Some e.1)) (lookup_rows q es)

  -- what the map of the entries has at a key
  pub get_rows : (q : Key) (es : List (K × X)) → lookup (is_at (λ y. name_cmp q (bytes y))) es ≡ fin.get (from_entries {R = name_cmp} (rows bytes es)) q
  get_rows q es = sym (get_key (rows bytes es) q ∙ lookup_rows q es)

  -- what the entries have at any key after one key got w, or lost what it had
  updated : (k : Key) (es fs : List (K × X)) (w : Option X) → lookup (is_at (λ y. name_cmp k (bytes y))) fs ≡ w
      → KeepsOthers (eq_by_cmp (λ x y. name_cmp (bytes x) (bytes y))) (is_at (λ y. name_cmp k (bytes y))) es fs
      → (q : Key) → lookup (is_at (name_cmp q)) (rows bytes fs) ≡ cond (is_at (name_cmp k) q) w (lookup (is_at (name_cmp q)) (rows bytes es))
  unfolding KeepsOthers
  updated k es fs w now others q =
      elim (is_at (name_cmp k) q) as (λ b. is_at (name_cmp k) q ≡ b → lookup (is_at (name_cmp q)) (rows bytes fs) ≡ cond b w (lookup (is_at (name_cmp q)) (rows bytes es))) [
        | true ↦ λ t. subst (λ (x : Key). lookup (is_at (name_cmp x)) (rows bytes fs) ≡ w) (slice_cmp-IsAntisymmetric nat_cmp-IsAntisymmetric k q (equal _ t)) (lookup_rows k fs ∙ now)
        | false ↦ λ t. lookup_rows q fs ∙ others (λ y. is_at (name_cmp q) (bytes y)) (tests bytes q) (apart bytes k q t) ∙ sym (lookup_rows q es)
      ] refl

  -- entries that differ at one key make maps that differ there
  pub put_rows : (k : Key) (v : X) (es fs : List (K × X)) → lookup (is_at (λ y. name_cmp k (bytes y))) fs ≡ Some v
      → KeepsOthers (eq_by_cmp (λ x y. name_cmp (bytes x) (bytes y))) (is_at (λ y. name_cmp k (bytes y))) es fs
      → from_entries {R = name_cmp} (rows bytes fs) ≡ fin.insert (from_entries (rows bytes es)) k v
  put_rows k v es fs now others = one_put (rows bytes es) (rows bytes fs) k v (updated k es fs (Some v) now others)

  -- entries without one key make the map without it
  pub taken_rows : (k : Key) (es fs : List (K × X)) → lookup (is_at (λ y. name_cmp k (bytes y))) fs ≡ None
      → KeepsOthers (eq_by_cmp (λ x y. name_cmp (bytes x) (bytes y))) (is_at (λ y. name_cmp k (bytes y))) es fs
      → from_entries {R = name_cmp} (rows bytes fs) ≡ fin.remove (from_entries (rows bytes es)) k
  taken_rows k es fs now others = one_taken (rows bytes es) (rows bytes fs) k (updated k es fs None now others)

  low_rows : (k : Key) (es : List (K × X)) → AllByRecursion (λ y. name_cmp k (bytes y) ≡ Less) (map (λ e. e.0) es) → AllByRecursion (λ y. name_cmp k y ≡ Less) (map (λ e. e.0) (rows bytes es))
  low_rows k [] low = tt
  low_rows k (e ∷ es) low = (low.0, low_rows k es low.1)

  -- entries that rise do so by the bytes of their keys
  pub rising_rows : (es : List (K × X)) → IsStrictlySortedBy (λ x y. name_cmp (bytes x) (bytes y)) (map (λ e. e.0) es) → IsStrictlySortedBy name_cmp (map (λ e. e.0) (rows bytes es))
  unfolding IsStrictlySortedBy
  rising_rows [] rise = tt
  rising_rows (e ∷ es) rise = (low_rows (bytes e.0) es rise.0, rising_rows es rise.1)
