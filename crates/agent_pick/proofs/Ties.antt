-- What the sets of an index hold, in order; and how they follow a change of a row.
use Rattle.std.proofs.Common.{◌≡◌, ◌∙◌, sym, ap, ap₂, refl, ℕ, Bool, true, false, cond, List, [], ◌∷◌, Option, Some, None, not, ◌&&◌, map, is_some, filter, true≢false}
use Rattle.std.specs.List.{AllByRecursion}
use Rattle.std.specs.List.Sorted.{IsStrictlySortedBy}
use Rattle.std.specs.Map.{lookup}
use Rattle.std.specs.BTreeMap.{is_at}
use Rattle.std.specs.Ordering.{is_eq}
use Rattle.std.specs.Cmp.Lexicographic.{nat_list_cmp_total}
use Rattle.std.specs.declared.cmp.Ordering.{Ordering}
use Rattle.std.specs.declared.cmp.Ordering.TheVariants.{Less, Equal, Greater}
use Rattle.std.specs.FinMap as fin
use Rattle.std.specs.FinMap.{get-insert, get-remove, nat_cmp-IsAntisymmetric, same_map, slice_cmp-IsAntisymmetric}
use Rattle.obj_model.proofs.NameMaps.{get_key, kept_entries}
use Rattle.obj_model.specs.Names.{name_cmp}
use Rattle.agent_pick.specs.declared.row.Row.{Row}
use Rattle.agent_pick.specs.IndexLaws.{AreRising, BusyKeeps, DropsKeep, HasNames, IsIndexOf, IsRowChanged, PutsKeep, is_ready_clean, is_ready_dirty, row_of, row_passes}
use Rattle.agent_pick.specs.Indexes.{NameSet, Ready, put_name}

-- ---- changes

put_cases : (test : Row → Bool) (r : Row) (b : Bool) (g : Option (Unit {0})) (o : Option Row) →
    test r ≡ true → is_some g ≡ row_passes test o →
    is_some (cond b (Some tt) g) ≡ row_passes test (cond b (Some r) o)
put_cases test r true g o pass tie = sym pass
put_cases test r false g o pass tie = tie

put_keeps : (test : Row → Bool) (old new : List Row) (s : NameSet) (r : Row) →
    HasNames test old s → test r ≡ true → IsRowChanged r.name (Some r) old new →
    HasNames test new (fin.insert s r.name tt)
put_keeps test old new s r tie pass change n =
    ap is_some (get-insert nat_list_cmp_total s r.name tt n)
    ∙ put_cases test r (is_at (name_cmp n) r.name) (fin.get s n) (row_of old n) pass (tie n)
    ∙ sym (ap (row_passes test) (change n))

taken_cases : (test : Row → Bool) (now : Option Row) (b : Bool) (g : Option (Unit {0}))
    (o : Option Row) → row_passes test now ≡ false → is_some g ≡ row_passes test o →
    is_some (cond b None g) ≡ row_passes test (cond b now o)
taken_cases test now true g o fails tie = sym fails
taken_cases test now false g o fails tie = tie

taken_keeps : (test : Row → Bool) (old new : List Row) (s : NameSet) (name : List ℕ)
    (now : Option Row) → HasNames test old s → row_passes test now ≡ false →
    IsRowChanged name now old new → HasNames test new (fin.remove s name)
taken_keeps test old new s name now tie fails change n =
    ap is_some (get-remove nat_list_cmp_total s name n)
    ∙ taken_cases test now (is_at (name_cmp n) name) (fin.get s n) (row_of old n) fails (tie n)
    ∙ sym (ap (row_passes test) (change n))

put_as : (old new : List Row) (s : Ready) (r : Row) (d : Bool) → r.dirty ≡ d → IsIndexOf old s →
    r.busy ≡ false → IsRowChanged r.name (Some r) old new → IsIndexOf new (put_name r.name d s)
put_as old new s r true e tie free change = record {
  dirty = put_keeps is_ready_dirty old new s.dirty r tie.dirty
      (ap₂ (λ b d. not b && d) free e) change;
  clean = taken_keeps is_ready_clean old new s.clean r.name (Some r) tie.clean
      (ap₂ (λ b d. not b && not d) free e) change;
}
put_as old new s r false e tie free change = record {
  dirty = taken_keeps is_ready_dirty old new s.dirty r.name (Some r) tie.dirty
      (ap₂ (λ b d. not b && d) free e) change;
  clean = put_keeps is_ready_clean old new s.clean r tie.clean
      (ap₂ (λ b d. not b && not d) free e) change;
}

pub puts_keep : PutsKeep
puts_keep old new s r tie free change = put_as old new s r r.dirty refl tie free change

pub busy_keeps : BusyKeeps
busy_keeps old new s r tie busy change = record {
  dirty = taken_keeps is_ready_dirty old new s.dirty r.name (Some r) tie.dirty
      (ap (λ b. not b && r.dirty) busy) change;
  clean = taken_keeps is_ready_clean old new s.clean r.name (Some r) tie.clean
      (ap (λ b. not b && not r.dirty) busy) change;
}

pub drops_keep : DropsKeep
drops_keep old new s name tie change = record {
  dirty = taken_keeps is_ready_dirty old new s.dirty name None tie.dirty refl change;
  clean = taken_keeps is_ready_clean old new s.clean name None tie.clean refl change;
}

-- ---- the entries of a set

-- the entries of these rows' names
abbrev pub entries_for : List Row → List (List ℕ × Unit {0})
entries_for rows = map (λ (r : Row). (r.name, tt)) rows

kept_one : (P : List ℕ → Type 0) (r : Row) (rs : List Row) (b : Bool) → P r.name →
    AllByRecursion P (map (λ e. e.0) (entries_for rs)) →
    AllByRecursion P (map (λ e. e.0) (entries_for (cond b (r ∷ rs) rs)))
kept_one P r rs true one rest = (one, rest)
kept_one P r rs false one rest = rest

all_kept : (P : List ℕ → Type 0) (test : Row → Bool) (rs : List Row) →
    AllByRecursion P (map (λ (r : Row). r.name) rs) →
    AllByRecursion P (map (λ e. e.0) (entries_for (filter test rs)))
all_kept P test [] all = tt
all_kept P test (r ∷ rs) all =
    kept_one P r (filter test rs) (test r) all.0 (all_kept P test rs all.1)

rising_one : (r : Row) (rs : List Row) (b : Bool) →
    AllByRecursion (λ y. name_cmp r.name y ≡ Less) (map (λ e. e.0) (entries_for rs)) →
    IsStrictlySortedBy name_cmp (map (λ e. e.0) (entries_for rs)) →
    IsStrictlySortedBy name_cmp (map (λ e. e.0) (entries_for (cond b (r ∷ rs) rs)))
unfolding IsStrictlySortedBy
rising_one r rs true all rise = (all, rise)
rising_one r rs false all rise = rise

rising_kept : (test : Row → Bool) (rows : List Row) → AreRising rows →
    IsStrictlySortedBy name_cmp (map (λ e. e.0) (entries_for (filter test rows)))
unfolding IsStrictlySortedBy
rising_kept test [] rise = tt
rising_kept test (r ∷ rs) rise =
    rising_one r (filter test rs) (test r)
    (all_kept (λ y. name_cmp r.name y ≡ Less) test rs rise.0) (rising_kept test rs rise.1)

no_lookup : (k : List ℕ) (es : List (List ℕ × Unit {0})) →
    AllByRecursion (λ y. name_cmp k y ≡ Less) (map (λ e. e.0) es) →
    lookup (is_at (name_cmp k)) es ≡ None
no_lookup k [] all = refl
no_lookup k (e ∷ es) all =
    ap (λ o. cond (is_eq o) (Some e.1) (lookup (is_at (name_cmp k)) es)) all.0
    ∙ no_lookup k es all.1

equal_is : (o : Ordering) → is_eq o ≡ true → o ≡ Equal
equal_is Less e = absurd (true≢false (sym e))
equal_is Equal e = refl
equal_is Greater e = absurd (true≢false (sym e))

look_cases : (test : Row → Bool) (r : Row) (t at : Bool) (es : List (List ℕ × Unit {0}))
    (found : Option (Unit {0})) (o : Option Row) → test r ≡ t →
    is_some found ≡ row_passes test o → (at ≡ true → is_some found ≡ false) →
    is_some (cond t (cond at (Some tt) found) found) ≡ row_passes test (cond at (Some r) o)
look_cases test r true true es found o e rest none = sym e
look_cases test r true false es found o e rest none = rest
look_cases test r false true es found o e rest none = none refl ∙ sym e
look_cases test r false false es found o e rest none = rest

over_cond : (q : List ℕ) (r : Row) (rs : List Row) (t : Bool) →
    lookup (is_at (name_cmp q)) (entries_for (cond t (r ∷ rs) rs))
    ≡ cond t (cond (is_at (name_cmp q) r.name) (Some tt)
    (lookup (is_at (name_cmp q)) (entries_for rs)))
    (lookup (is_at (name_cmp q)) (entries_for rs))
over_cond q r rs true = refl
over_cond q r rs false = refl

absent : (test : Row → Bool) (q : List ℕ) (r : Row) (rs : List Row) →
    AllByRecursion (λ y. name_cmp r.name y ≡ Less) (map (λ (r : Row). r.name) rs) →
    is_at (name_cmp q) r.name ≡ true →
    is_some (lookup (is_at (name_cmp q)) (entries_for (filter test rs))) ≡ false
absent test q r rs all at =
    let same = slice_cmp-IsAntisymmetric nat_cmp-IsAntisymmetric q r.name
    (equal_is (name_cmp q r.name) at) in
    ap (λ k. is_some (lookup (is_at (name_cmp k)) (entries_for (filter test rs)))) same
    ∙ ap is_some (no_lookup r.name (entries_for (filter test rs))
    (all_kept (λ y. name_cmp r.name y ≡ Less) test rs all))

looked_up : (test : Row → Bool) (q : List ℕ) (rows : List Row) → AreRising rows →
    is_some (lookup (is_at (name_cmp q)) (entries_for (filter test rows)))
    ≡ row_passes test (row_of rows q)
unfolding IsStrictlySortedBy
looked_up test q [] rise = refl
looked_up test q (r ∷ rs) rise =
    ap is_some (over_cond q r (filter test rs) (test r))
    ∙ look_cases test r (test r) (is_at (name_cmp q) r.name) (entries_for (filter test rs))
    (lookup (is_at (name_cmp q)) (entries_for (filter test rs))) (row_of rs q) refl
    (looked_up test q rs rise.1) (absent test q r rs rise.0)

same_unit : (a b : Option (Unit {0})) → is_some a ≡ is_some b → a ≡ b
same_unit None None e = refl
same_unit (Some x) (Some y) e = refl
same_unit None (Some y) e = absurd (true≢false (sym e))
same_unit (Some x) None e = absurd (true≢false e)

-- the entries of a set are those of the rows that it stands for
pub entries_are : (test : Row → Bool) (rows : List Row) (s : NameSet) → AreRising rows →
    HasNames test rows s → fin.entries s ≡ entries_for (filter test rows)
entries_are test rows s rise tie =
    let es = entries_for (filter test rows) in
    ap fin.entries (same_map nat_list_cmp_total (slice_cmp-IsAntisymmetric nat_cmp-IsAntisymmetric)
    s (fin.from_entries {R = name_cmp} es) (λ q. same_unit (fin.get s q)
    (fin.get (fin.from_entries {R = name_cmp} es) q)
    (tie q ∙ sym (ap is_some (get_key es q) ∙ looked_up test q rows rise))))
    ∙ kept_entries es (rising_kept test rows rise)
