-- How heavy a map becomes by changes, and that lawful changes leave its keys and values lawful.
use Rattle.std.specs.Prelude.{◌≡◌, ◌≤◌, ◌+◌, ℕ, T, Bool, true, false, cond, List, [], ◌∷◌, length, Option, Some, None, sum_by, All, refl}
use Rattle.std.proofs.Common.{◌∙◌, sym, subst, ap, arith}
use Rattle.std.proofs.lemmas.List.Recursion.{is_sum_by}
use Rattle.std.specs.List.{AllByRecursion}
use Rattle.std.proofs.lemmas.List.Elements.{recursion_from_All}
use Rattle.std.specs.Ordering.{is_eq, eq_by_cmp}
use Rattle.std.specs.declared.cmp.Ordering.{Ordering}
use Rattle.std.specs.declared.cmp.Ordering.TheVariants.{Less, Equal, Greater}
use Rattle.std.specs.Cmp.Lexicographic.{nat_list_cmp_total}
use Rattle.std.specs.FinMap as fin
use Rattle.std.specs.FinMap.{find, put, entries, entries-insert, get-entries, get-insert, get-remove, get-empty, len-entries, len-empty, same_map, slice_cmp-IsAntisymmetric, nat_cmp-IsAntisymmetric}
use Rattle.std.specs.FinMap.Entries.{by_order}
use Rattle.std.specs.Cmp.{tied_itself}
use Rattle.obj_model.specs.Changes.{IsChange}
use Rattle.obj_model.specs.Names.{name_cmp}
use Rattle.obj_model.specs.declared.change.Change.{Change}
use Rattle.obj_model.specs.declared.change.Change.TheVariants.{Put, Remove}
use Rattle.store_face.specs.Limits.{entry_weight, weight}
use Rattle.store_face.specs.Rooms.{change_size, record_size}
use Rattle.store_face.specs.Tables.{Table, changed, changed_by}

abbrev Entry : Type 0
Entry = List ℕ × List ℕ

-- the bytes of entries, one after another
abbrev weights : List Entry → ℕ
weights [] = 0
weights (e ∷ es) = entry_weight e + weights es

weights_sum : (es : List Entry) → weights es ≡ sum_by entry_weight es
weights_sum es = is_sum_by weights entry_weight refl (λ e es. refl) es

-- ---- an entry more

put_most : (k v : List ℕ) (es : List Entry) → weights (put name_cmp k v es) ≤ weights es + (length k + length v)
put_most k v [] = omega arith
put_most k v (e ∷ es) =
    elim (name_cmp k e.0) as (λ o. weights (by_order o ((k, v) ∷ e ∷ es) ((e.0, v) ∷ es) (e ∷ put name_cmp k v es)) ≤ weights (e ∷ es) + (length k + length v)) [
      | Less ↦ omega arith
      | Equal ↦ omega arith
      | Greater ↦ omega (arith, put_most k v es)
    ]

put_least : (k v : List ℕ) (es : List Entry) → find name_cmp k es ≡ None → weights es ≤ weights (put name_cmp k v es)
put_least k v [] none = omega arith
put_least k v (e ∷ es) none =
    elim (name_cmp k e.0) as (λ o. cond (is_eq o) (Some e.1) (find name_cmp k es) ≡ None → weights (e ∷ es) ≤ weights (by_order o ((k, v) ∷ e ∷ es) ((e.0, v) ∷ es) (e ∷ put name_cmp k v es))) [
      | Less ↦ λ n. omega arith
      | Equal ↦ λ n. absurd cc
      | Greater ↦ λ n. omega (arith, put_least k v es n)
    ] none

insert_most : (t : Table) (k v : List ℕ) → weight (fin.insert t k v) ≤ weight t + (length k + length v)
insert_most t k v =
    omega (
      arith,
      weights_sum (entries t),
      weights_sum (entries (fin.insert t k v)),
      ap weights (entries-insert nat_list_cmp_total t k v),
      put_most k v (entries t),
    )

insert_least : (t : Table) (k v : List ℕ) → fin.get t k ≡ None → weight t ≤ weight (fin.insert t k v)
insert_least t k v none =
    omega (
      arith,
      weights_sum (entries t),
      weights_sum (entries (fin.insert t k v)),
      ap weights (entries-insert nat_list_cmp_total t k v),
      put_least k v (entries t) (sym (get-entries t k) ∙ none),
    )

-- ---- a key less

same_key : (q k : List ℕ) → eq_by_cmp name_cmp q k ≡ true → q ≡ k
same_key q k e =
    slice_cmp-IsAntisymmetric nat_cmp-IsAntisymmetric q k (elim (name_cmp q k) as (λ o. is_eq o ≡ true → o ≡ Equal) [
      | Less ↦ λ e. absurd (subst T (sym e) tt)
      | Equal ↦ λ _. refl
      | Greater ↦ λ e. absurd (subst T (sym e) tt)
    ] e)

same_tables : (s t : Table) → ((q : List ℕ) → fin.get s q ≡ fin.get t q) → s ≡ t
same_tables s t = same_map nat_list_cmp_total (slice_cmp-IsAntisymmetric nat_cmp-IsAntisymmetric) s t

-- a map is that without a key, with its value put again
put_again : (t : Table) (k v : List ℕ) → fin.get t k ≡ Some v → fin.insert (fin.remove t k) k v ≡ t
put_again t k v is =
    same_tables (fin.insert (fin.remove t k) k v) t (λ q.
    get-insert nat_list_cmp_total (fin.remove t k) k v q ∙ ap (cond (eq_by_cmp name_cmp q k) (Some v)) (get-remove nat_list_cmp_total t k q)
    ∙ elim (eq_by_cmp name_cmp q k) as (λ b. eq_by_cmp name_cmp q k ≡ b → cond b (Some v) (cond b None (fin.get t q)) ≡ fin.get t q) [
      | true ↦ λ e. sym is ∙ ap (fin.get t) (sym (same_key q k e))
      | false ↦ λ e. refl
    ] refl)

gone : (t : Table) (k : List ℕ) → fin.get (fin.remove t k) k ≡ None
gone t k =
    get-remove nat_list_cmp_total t k k
    ∙ ap (λ o. cond (is_eq o) None (fin.get t k)) (tied_itself nat_list_cmp_total k)

-- without a key that it does not have, a map is the same
not_there : (t : Table) (k : List ℕ) → fin.get t k ≡ None → fin.remove t k ≡ t
not_there t k none =
    same_tables (fin.remove t k) t (λ q.
    get-remove nat_list_cmp_total t k q
    ∙ elim (eq_by_cmp name_cmp q k) as (λ b. eq_by_cmp name_cmp q k ≡ b → cond b None (fin.get t q) ≡ fin.get t q) [
      | true ↦ λ e. sym none ∙ ap (fin.get t) (sym (same_key q k e))
      | false ↦ λ e. refl
    ] refl)

remove_most : (t : Table) (k : List ℕ) → weight (fin.remove t k) ≤ weight t
remove_most t k =
    elim (fin.get t k) as (λ o. fin.get t k ≡ o → weight (fin.remove t k) ≤ weight t) [
      | None ↦ λ none. omega (arith, ap weight (not_there t k none))
      | Some v ↦ λ is. omega (arith, ap weight (put_again t k v is), insert_least (fin.remove t k) k v (gone t k))
    ] refl

-- ---- changes

-- the bytes that spell changes, one after another
abbrev pub sizes : List Change → ℕ
sizes [] = 0
sizes (c ∷ cs) = change_size c + sizes cs

-- the record of changes is as long as its parts
pub record_parts : (cs : List Change) → record_size cs ≡ 6 + sizes cs
record_parts cs = let same : sizes cs ≡ sum_by change_size cs = is_sum_by sizes change_size refl (λ c cs. refl) cs in omega (arith, same)

changed_most : (t : Table) (c : Change) → weight (changed t c) ≤ weight t + change_size c
changed_most t (Put k v) = omega (arith, insert_most t k v)
changed_most t (Remove k) = omega (arith, remove_most t k)

changes_most : (t : Table) (cs : List Change) → weight (changed_by t cs) ≤ weight t + sizes cs
changes_most t [] = omega arith
changes_most t (c ∷ cs) = omega (arith, changed_most t c, changes_most (changed t c) cs)

-- changes make a map no heavier than by what their record has
pub changed_by_most : (t : Table) (cs : List Change) → weight (changed_by t cs) + 6 ≤ weight t + record_size cs
changed_by_most t cs = omega (arith, changes_most t cs, record_parts cs)

-- each value of a map could be put at its key
abbrev pub IsLawful : Table → Type 0
IsLawful t = (key value : List ℕ) → fin.get t key ≡ Some value → IsChange (Put key value)

same_value : (x y : List ℕ) → Some x ≡ Some y → x ≡ y
same_value x y e = ap (λ o. elim o [ None ↦ x | Some z ↦ z ]) e

change_lawful : (t : Table) (c : Change) → IsLawful t → IsChange c → IsLawful (changed t c)
change_lawful t (Put k v) lawful is key value there =
    elim (eq_by_cmp name_cmp key k) as (λ b. eq_by_cmp name_cmp key k ≡ b → cond b (Some v) (fin.get t key) ≡ Some value → IsChange (Put key value)) [
      | true ↦ λ e found. subst (λ q. IsChange (Put q value)) (sym (same_key key k e)) (subst (λ x. IsChange (Put k x)) (same_value v value found) is)
      | false ↦ λ e found. lawful key value found
    ] refl (sym (get-insert nat_list_cmp_total t k v key) ∙ there)
change_lawful t (Remove k) lawful is key value there =
    elim (eq_by_cmp name_cmp key k) as (λ b. cond b None (fin.get t key) ≡ Some value → IsChange (Put key value)) [
      | true ↦ λ found. absurd cc
      | false ↦ λ found. lawful key value found
    ] (sym (get-remove nat_list_cmp_total t k key) ∙ there)

changes_lawful : (t : Table) (cs : List Change) → IsLawful t → AllByRecursion IsChange cs → IsLawful (changed_by t cs)
changes_lawful t [] lawful each = lawful
changes_lawful t (c ∷ cs) lawful each = changes_lawful (changed t c) cs (change_lawful t c lawful each.0) each.1

-- lawful changes leave a map whose values are lawful
pub changed_lawful : (t : Table) (cs : List Change) → IsLawful t → All IsChange cs → IsLawful (changed_by t cs)
changed_lawful t cs lawful each = changes_lawful t cs lawful (recursion_from_All IsChange cs each)

-- the empty map
pub empty_lawful : IsLawful fin.empty
empty_lawful key value there = absurd (none (sym (get-empty name_cmp key) ∙ there))
  where
    none : None ≡ Some value → ⊥
    none e = cc

no_weights : (es : List Entry) → length es ≡ 0 → weights es ≡ 0
no_weights [] none = refl
no_weights (e ∷ es) none = absurd (omega arith)

pub empty_weight : weight fin.empty ≡ 0
empty_weight =
    let es : List Entry = entries {R = name_cmp} fin.empty in
    let none : length es ≡ 0 = sym (len-entries {R = name_cmp} fin.empty) ∙ len-empty name_cmp (List ℕ) in
    omega (arith, weights_sum es, no_weights es none)
