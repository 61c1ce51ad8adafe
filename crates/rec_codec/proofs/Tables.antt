-- Lists whose keys rise, and the tables that they make.
use Rattle.std.proofs.Common.{◌≡◌, ℕ, Bool, true, false, T, ◌&&◌, List, [], ◌∷◌, ◌++◌, map, refl, ap, ◌∙◌}
use Rattle.std.specs.List.{AllByRecursion}
use Rattle.std.specs.List.Sorted.{IsStrictlySortedBy}
use Rattle.std.specs.Ordering.{is_lt, ordering_reverse}
use Rattle.std.specs.declared.cmp.Ordering.{Ordering}
use Rattle.std.specs.declared.cmp.Ordering.TheVariants.{Less, Equal, Greater}
use Rattle.std.specs.Cmp.{IsTotalOrder}
use Rattle.std.specs.Cmp.Lexicographic.{nat_list_cmp_total}
use Rattle.std.specs.FinMap as fin
use Rattle.std.specs.FinMap.{put, entries-insert}
use Rattle.std.specs.FinMap.Entries.{by_order}
use Rattle.obj_model.specs.Names.{name_cmp}
use Rattle.obj_model.proofs.NameMaps.{kept_entries}
pub use Rattle.obj_model.proofs.Rising.{entries_rise, made_of_entries}
use Rattle.rec_codec.specs.Spelling.{Entry}
use Rattle.rec_codec.proofs.Readers.{Each}

pub lt_less : (r : Ordering) → is_lt r ≡ true → r ≡ Less
lt_less Less e = refl
lt_less Equal e = absurd cc
lt_less Greater e = absurd cc

-- ---- each above the one before is above all before

raise : {K : Type 0} (cmp : K → K → Ordering) (total : IsTotalOrder cmp) (j k : K) (ks : List K) → cmp j k ≡ Less → AllByRecursion (λ y. cmp k y ≡ Less) ks → AllByRecursion (λ y. cmp j y ≡ Less) ks
raise cmp total j k [] h all = tt
raise cmp total j k (x ∷ ks) h all = (total.trans j k x h all.0, raise cmp total j k ks h all.1)

-- lawful values whose keys rise from a key on
pub record Rises {A K : Type 0} (L : A → Type 0) (key : A → K) (cmp : K → K → Ordering) (last : K) (xs : List A) : Type 0 where
  pub each : AllByRecursion L xs
  pub above : AllByRecursion (λ y. cmp last y ≡ Less) (map key xs)
  pub rising : IsStrictlySortedBy cmp (map key xs)

module _ {A K : Type 0} (L : A → Type 0) (key : A → K) (test : K → K → Bool) (cmp : K → K → Ordering) (total : IsTotalOrder cmp) where
  pub rises_from_each : ((j k : K) → test j k ≡ true → cmp j k ≡ Less) → (last : K) (xs : List A) → Each L key test last xs → Rises L key cmp last xs
  unfolding IsStrictlySortedBy
  rises_from_each sound last [] h = record { each = tt; above = tt; rising = tt }
  rises_from_each sound last (x ∷ xs) h =
      let r = rises_from_each sound (key x) xs h.2 in
      let low = sound last (key x) h.1 in
      record { each = (h.0, r.each); above = (low, raise cmp total last (key x) (map key xs) low r.above); rising = (r.above, r.rising) }

  pub each_from_rises : ((j k : K) → cmp j k ≡ Less → test j k ≡ true) → (last : K) (xs : List A) → AllByRecursion L xs → AllByRecursion (λ y. cmp last y ≡ Less) (map key xs) → IsStrictlySortedBy cmp (map key xs) → Each L key test last xs
  unfolding IsStrictlySortedBy
  each_from_rises complete last [] each above rising = tt
  each_from_rises complete last (x ∷ xs) each above rising = (each.0, complete last (key x) above.0, each_from_rises complete (key x) xs each.1 rising.0 rising.1)

-- ---- the entries of a table

abbrev pub Table : Type 0
Table = fin.FinMap name_cmp (List ℕ)

nothing_rises : IsStrictlySortedBy name_cmp []
unfolding IsStrictlySortedBy
nothing_rises = tt

entries_none : fin.entries (fin.empty {K = List ℕ} {X = List ℕ} {R = name_cmp}) ≡ []
entries_none = kept_entries [] nothing_rises

-- ---- a table that grows at its end

-- all keys are below
abbrev pub Under : List ℕ → List Entry → Type 0
Under k [] = Unit {0}
Under k (e ∷ es) = (name_cmp e.0 k ≡ Less) × Under k es

-- whatever is above the last key is above all
abbrev pub IsUnder : List ℕ → List Entry → Type 0
IsUnder last es = (k : List ℕ) → is_lt (name_cmp last k) ≡ true → Under k es

put_last : (k v : List ℕ) (es : List Entry) → Under k es → put name_cmp k v es ≡ es ++ (k, v) ∷ []
put_last k v [] h = refl
put_last k v (e ∷ es) h =
    let greater : name_cmp k e.0 ≡ Greater = nat_list_cmp_total.antisymm k e.0 ∙ ap ordering_reverse h.0 in
    ap (λ r. by_order r ((k, v) ∷ e ∷ es) ((e.0, v) ∷ es) (e ∷ put name_cmp k v es)) greater ∙ ap (λ (l : List Entry). e ∷ l) (put_last k v es h.1)

under_push : (j k v : List ℕ) (es : List Entry) → Under j es → name_cmp k j ≡ Less → Under j (es ++ (k, v) ∷ [])
under_push j k v [] h low = (low, tt)
under_push j k v (e ∷ es) h low = (h.0, under_push j k v es h.1 low)

pub insert_last : (last k v : List ℕ) (t : Table) → IsUnder last (fin.entries t) → is_lt (name_cmp last k) ≡ true → fin.entries (fin.insert t k v) ≡ fin.entries t ++ (k, v) ∷ []
insert_last last k v t under above = entries-insert nat_list_cmp_total t k v ∙ put_last k v (fin.entries t) (under k above)

pub under_more : (last k v : List ℕ) (es : List Entry) → IsUnder last es → is_lt (name_cmp last k) ≡ true → IsUnder k (es ++ (k, v) ∷ [])
under_more last k v es under above = λ j h. under_push j k v es (under j (ap is_lt (nat_list_cmp_total.trans last k j (lt_less _ above) (lt_less _ h)))) (lt_less _ h)

-- an empty table is below any key
pub nothing_under : (last : List ℕ) (t : Table) → t ≡ fin.empty → IsUnder last (fin.entries t)
nothing_under last t e = λ k h. rw (e, entries_none) tt

pub nothing_entered : (t : Table) → t ≡ fin.empty → fin.entries t ≡ []
nothing_entered t e = rw e entries_none
