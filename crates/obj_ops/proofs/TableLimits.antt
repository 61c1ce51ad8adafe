-- Tables keep their limits: what is put in and taken out.
use Rattle.std.proofs.Common.{◌≡◌, ◌≤◌, ℕ, ◌+◌, ◌-◌, Bool, true, false, cond, List, [], ◌∷◌, length}
use Rattle.std.proofs.Common.{map, Option, Some, None, suc, is_some, is_none, nat_le, refl, sym, ap}
use Rattle.std.proofs.Common.{subst, ◌∙◌, arith}
use Rattle.std.specs.Prelude.{T, ◌&&◌}
use Rattle.std.specs.FinMap as fin
use Rattle.std.specs.FinMap.{slice_cmp-IsAntisymmetric, nat_cmp-IsAntisymmetric}
use Rattle.std.specs.FinMap.Entries.{by_order}
use Rattle.std.specs.List.{All}
use Rattle.std.specs.Cmp.{eq_by_cmp_equiv, Equal-is}
use Rattle.std.specs.Cmp.Lexicographic.{nat_list_cmp_total}
use Rattle.std.specs.Ordering.{eq_by_cmp, is_lt, is_eq}
use Rattle.std.specs.declared.cmp.Ordering.{Ordering}
use Rattle.std.specs.declared.cmp.Ordering.TheVariants.{Less, Equal, Greater}
use Rattle.std.proofs.lemmas.List.{nil_from_length}
use Rattle.std.proofs.lemmas.List.Elements.{All-nil, All-cons}
use Rattle.std.proofs.lemmas.Bool.Decides.{nat_tests}
use Rattle.obj_model.specs.Limits.{value_limit}
use Rattle.obj_model.specs.Names.{name_cmp}
use Rattle.obj_model.specs.States.{IsTable}
use Rattle.obj_model.specs.Tables.{Table}
use Rattle.obj_ops.specs.Effects.{is_full}

abbrev Entry : Type 0
Entry = List ℕ × List ℕ

-- all values of these entries have P
abbrev Values : (List ℕ → Type 0) → List Entry → Type 0
Values P es = All P (map (λ e. e.1) es)

values_head : (P : List ℕ → Type 0) (e : Entry) (es : List Entry) → Values P (e ∷ es) → P e.1
values_head P e es h = h 0 e.1 (omega arith)

values_tail : (P : List ℕ → Type 0) (e : Entry) (es : List Entry) → Values P (e ∷ es) → Values P es
values_tail P e es h = λ i d lt. h (suc i) d (omega arith)

values_cons : (P : List ℕ → Type 0) (e : Entry) (es : List Entry) → P e.1 → Values P es
    → Values P (e ∷ es)
values_cons P e es h rest = All-cons P e.1 (map (λ e. e.1) es) h rest

put_by : (P : List ℕ → Type 0) (k v : List ℕ) (e : Entry) (es : List Entry) (r : Ordering) → P v
    → Values P (e ∷ es) → Values P (fin.put name_cmp k v es)
    → Values P (by_order r ((k, v) ∷ e ∷ es) ((e.0, v) ∷ es) (e ∷ fin.put name_cmp k v es))
put_by P k v e es Less h all rest = values_cons P (k, v) (e ∷ es) h all
put_by P k v e es Equal h all rest = values_cons P (e.0, v) es h (values_tail P e es all)
put_by P k v e es Greater h all rest =
    values_cons P e (fin.put name_cmp k v es) (values_head P e es all) rest

-- a value that has P is put among values that have it
put_values : (P : List ℕ → Type 0) (k v : List ℕ) (es : List Entry) → P v → Values P es
    → Values P (fin.put name_cmp k v es)
put_values P k v [] h all = values_cons P (k, v) [] h all
put_values P k v (e ∷ es) h all =
    put_by P k v e es (name_cmp k e.0) h all (put_values P k v es h (values_tail P e es all))

found_by : (P : List ℕ → Type 0) (q v : List ℕ) (e : Entry) (es : List Entry) (b : Bool)
    → Values P (e ∷ es) → cond b (Some e.1) (fin.find name_cmp q es) ≡ Some v
    → (fin.find name_cmp q es ≡ Some v → P v) → P v
found_by P q v e es true all h rest = let is : e.1 ≡ v = cc in subst P is (values_head P e es all)
found_by P q v e es false all h rest = rest h

-- a value that is found has P
found_value : (P : List ℕ → Type 0) (q v : List ℕ) (es : List Entry) → Values P es
    → fin.find name_cmp q es ≡ Some v → P v
found_value P q v [] all h = absurd (cc)
found_value P q v (e ∷ es) all h =
    found_by P q v e es (eq_by_cmp name_cmp q e.0) all h
    (found_value P q v es (values_tail P e es all))

front : (a b : Bool) → T (a && b) → T a
front true b h = tt
front false b h = h

back : (a b : Bool) → T (a && b) → T b
back true b h = h
back false b h = absurd h

not_tied : (r : Ordering) → T (is_lt r) → is_eq r ≡ false
not_tied Less h = refl
not_tied Equal h = absurd h
not_tied Greater h = refl

-- a key below all others is not found among them
below_find : (q : List ℕ) (es : List Entry) → T (fin.Entries.below_all name_cmp q es)
    → fin.find name_cmp q es ≡ None
below_find q [] h = refl
below_find q (e ∷ es) h =
    ap (λ b. cond b (Some e.1) (fin.find name_cmp q es)) (not_tied (name_cmp q e.0) (front _ _ h))
    ∙ below_find q es (back _ _ h)

behind_by : (q v : List ℕ) (e : Entry) (es : List Entry) (b : Bool) → eq_by_cmp name_cmp q e.0 ≡ b
    → T (fin.Entries.below_all name_cmp e.0 es) → fin.find name_cmp q es ≡ Some v
    → cond b (Some e.1) (fin.find name_cmp q es) ≡ Some v
behind_by q v e es true is low h =
    let same : q ≡ e.0 =
    slice_cmp-IsAntisymmetric nat_cmp-IsAntisymmetric q e.0
    ((Equal-is (name_cmp q e.0)).0 is) in
    absurd (let none = below_find e.0 es low in
    let at : fin.find name_cmp e.0 es ≡ Some v =
    subst (λ k. fin.find name_cmp k es ≡ Some v) same h in cc)
behind_by q v e es false is low h = h

-- where each value that is found has P, each value has it
all_found : (P : List ℕ → Type 0) (es : List Entry) → T (fin.is_sorted name_cmp es)
    → ((q v : List ℕ) → fin.find name_cmp q es ≡ Some v → P v) → Values P es
all_found P [] rise h = All-nil P
all_found P (e ∷ es) rise h =
    values_cons P e es (h e.0 e.1
    (ap (λ b. cond b (Some e.1) (fin.find name_cmp e.0 es))
    ((eq_by_cmp_equiv nat_list_cmp_total).refl e.0)))
    (all_found P es (back _ _ rise)
    (λ q v is. h q v (behind_by q v e es (eq_by_cmp name_cmp q e.0) refl (front _ _ rise) is)))

abbrev Short : List ℕ → Type 0
Short v = length v ≤ value_limit

gone_by : (b : Bool) (old : Option (List ℕ)) (v : List ℕ) → cond b None old ≡ Some v → old ≡ Some v
gone_by true old v h = absurd (cc)
gone_by false old v h = h

-- the values that are left are short
short_removed : (t : Table) (k : List ℕ) → Values Short (fin.entries t)
    → Values Short (fin.entries (fin.remove t k))
short_removed t k all =
    all_found Short (fin.entries (fin.remove t k)) (fin.entries_sorted (fin.remove t k))
    (λ q v is. found_value Short q v (fin.entries t) all
    (sym (fin.get-entries t q) ∙ gone_by (eq_by_cmp name_cmp q k) (fin.get t q) v
    (sym (fin.get-remove nat_list_cmp_total t k q) ∙ fin.get-entries (fin.remove t k) q ∙ is)))

fewer : (b : Bool) (n most : ℕ) → n ≤ most → cond b (n - 1) n ≤ most
fewer true n most le = omega arith
fewer false n most le = le

-- a table without a key keeps its limits
pub table_removed : (most : ℕ) (t : Table) (k : List ℕ) → IsTable most t
    → IsTable most (fin.remove t k)
table_removed most t k h = record {
  few = rw (fin.len-remove nat_list_cmp_total t k)
      (fewer (fin.contains_key t k) (fin.len t) most h.few);
  short = short_removed t k h.short;
}

room_by : (at : Option (List ℕ)) (n most : ℕ) (full : Bool) → nat_le most n ≡ full → n ≤ most
    → (is_none at && full) ≡ false → cond (is_some at) n (n + 1) ≤ most
room_by (Some v) n most full e le h = le
room_by None n most true e le h = absurd (cc)
room_by None n most false e le h = grind (arith, nat_tests)

-- a table with a short value for which it has room keeps its limits
pub table_entered : (most : ℕ) (t : Table) (k v : List ℕ) → IsTable most t → length v ≤ value_limit
    → is_full most k t ≡ false → IsTable most (fin.insert t k v)
table_entered most t k v h short room = record {
  few = rw (fin.len-insert nat_list_cmp_total t k v)
      (room_by (fin.get t k) (fin.len t) most (nat_le most (fin.len t)) refl h.few room);
  short =
      rw (fin.entries-insert nat_list_cmp_total t k v)
      (put_values Short k v (fin.entries t) short h.short);
}

entries_none : fin.entries (fin.empty {K = List ℕ} {X = List ℕ} {R = name_cmp}) ≡ []
entries_none =
    nil_from_length _ (sym (fin.len-entries (fin.empty {K = List ℕ} {X = List ℕ} {R = name_cmp}))
    ∙ fin.len-empty name_cmp (List ℕ))

-- an empty table is within any limit
pub table_empty : (most : ℕ) → IsTable most fin.empty
table_empty most = record {
  few = rw (fin.len-empty name_cmp (List ℕ)) (omega arith);
  short = rw entries_none (All-nil Short);
}
