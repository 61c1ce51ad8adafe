-- The keys of a map's entries rise, and a map is what its entries make.
use Rattle.std.proofs.Common.{◌≡◌, ℕ, Bool, true, false, T, ◌&&◌, List, [], ◌∷◌, map, Option, Some, None, refl, sym, ap, subst, ◌∙◌}
use Rattle.std.specs.FinMap.{FinMap, entries, entries_sorted, from_entries, is_sorted, same_entries_map}
use Rattle.std.specs.FinMap.Entries.{below_all}
use Rattle.std.specs.List.{AllByRecursion}
use Rattle.std.specs.List.Sorted.{IsStrictlySortedBy}
use Rattle.std.specs.Cmp.{tied_itself}
use Rattle.std.specs.Cmp.Lexicographic.{nat_list_cmp_total}
use Rattle.std.specs.Ordering.{is_lt, ordering_reverse}
use Rattle.std.specs.declared.cmp.Ordering.{Ordering}
use Rattle.std.specs.declared.cmp.Ordering.TheVariants.{Less, Equal, Greater}
use Rattle.obj_model.specs.Names.{name_cmp}
use Rattle.obj_model.specs.Tables.{is_above}
use Rattle.obj_model.proofs.NameMaps.{kept_entries}

abbrev Key : Type 0
Key = List ℕ

-- a key is below these
abbrev pub Over : Key → List Key → Type 0
Over k ks = AllByRecursion (λ q. name_cmp k q ≡ Less) ks

-- each key is below those behind it
abbrev pub Rise : List Key → Type 0
Rise [] = Unit {0}
Rise (k ∷ ks) = Over k ks × Rise ks

pub is_less : (o : Ordering) → T (is_lt o) → o ≡ Less
is_less Less h = refl
is_less Equal h = absurd h
is_less Greater h = absurd h

first : (a b : Bool) → T (a && b) → T a
first true b h = tt
first false b h = h

second : (a b : Bool) → T (a && b) → T b
second true b h = h
second false b h = absurd h

module _ {X : Type 0} where
  over_of : (k : Key) (es : List (Key × X)) → T (below_all name_cmp k es)
      → Over k (map (λ e. e.0) es)
  over_of k [] h = tt
  over_of k (e ∷ es) h = (is_less _ (first _ _ h), over_of k es (second _ _ h))

  pub rise_of : (es : List (Key × X)) → T (is_sorted name_cmp es) → Rise (map (λ e. e.0) es)
  rise_of [] h = tt
  rise_of (e ∷ es) h = (over_of e.0 es (first _ _ h), rise_of es (second _ _ h))

pub sorted_of : (ks : List Key) → Rise ks → IsStrictlySortedBy name_cmp ks
unfolding IsStrictlySortedBy
sorted_of [] h = tt
sorted_of (k ∷ ks) h = (h.0, sorted_of ks h.1)

-- the keys of a map rise
pub entries_rise : {X : Type 0} (m : FinMap name_cmp X)
    → IsStrictlySortedBy name_cmp (map (λ e. e.0) (entries m))
entries_rise m = sorted_of _ (rise_of (entries m) (entries_sorted m))

-- a map is what its entries make
pub made_of_entries : {X : Type 0} (m : FinMap name_cmp X) → from_entries (entries m) ≡ m
made_of_entries m =
    same_entries_map (from_entries (entries m)) m (kept_entries (entries m) (entries_rise m))

-- ---- those above a key

pub not_itself : (k : Key) → is_above (Some k) k ≡ false
not_itself k = ap is_lt (tied_itself nat_list_cmp_total k)

pub not_back : (j k : Key) → name_cmp j k ≡ Less → is_above (Some k) j ≡ false
not_back j k h = ap is_lt (nat_list_cmp_total.antisymm k j ∙ ap ordering_reverse h)

pub is_lower : (j k : Key) → is_above (Some j) k ≡ true → name_cmp j k ≡ Less
is_lower j k h = is_less (name_cmp j k) (subst T (sym h) tt)

-- what is above a key is above those below it
pub above_more : (after : Option Key) (j k : Key) → is_above after j ≡ true
    → name_cmp j k ≡ Less → is_above after k ≡ true
above_more None j k h lt = refl
above_more (Some a) j k h lt = ap is_lt (nat_list_cmp_total.trans a j k (is_lower a j h) lt)
