-- What holds of each key with its value holds of each entry.
use Rattle.std.proofs.Common.{◌≡◌, ℕ, T, Bool, true, false, cond, ◌&&◌, List, [], ◌∷◌, Option, Some, None, refl, sym, ap, subst, ◌∙◌}
use Rattle.std.specs.List.{AllByRecursion}
use Rattle.std.specs.Cmp.{Equal-is, tied_itself}
use Rattle.std.specs.Cmp.Lexicographic.{nat_list_cmp_total}
use Rattle.std.specs.Ordering.{eq_by_cmp, is_eq, is_lt}
use Rattle.std.specs.declared.cmp.Ordering.{Ordering}
use Rattle.std.specs.declared.cmp.Ordering.TheVariants.{Less, Equal, Greater}
use Rattle.std.specs.FinMap as fin
use Rattle.std.specs.FinMap.Entries.{below_all}
use Rattle.obj_model.specs.Names.{name_cmp}

tested : (a b : Bool) → T (a && b) → T a × T b
tested true b h = (tt, h)
tested false b h = absurd h

not_tied : (o : Ordering) → T (is_lt o) → is_eq o ≡ false
not_tied Less h = refl
not_tied Equal h = absurd h
not_tied Greater h = absurd h

module _ {V : Type 0} where
  -- a key that is below all is not among them
  not_below : (key : List ℕ) (es : List (List ℕ × V)) → T (below_all name_cmp key es) → fin.find name_cmp key es ≡ None
  not_below key [] h = refl
  not_below key (e ∷ es) h =
      let both = tested (is_lt (name_cmp key e.0)) (below_all name_cmp key es) h in
      ap (λ b. cond b (Some e.1) (fin.find name_cmp key es)) (not_tied (name_cmp key e.0) both.0) ∙ not_below key es both.1

  first : (e : List ℕ × V) (es : List (List ℕ × V)) → fin.find name_cmp e.0 (e ∷ es) ≡ Some e.1
  first e es = ap (λ o. cond (is_eq o) (Some e.1) (fin.find name_cmp e.0 es)) (tied_itself nat_list_cmp_total e.0)

  behind : (e : List ℕ × V) (es : List (List ℕ × V)) (key : List ℕ) (value : V) → T (below_all name_cmp e.0 es) → fin.find name_cmp key es ≡ Some value
      → (b : Bool) → eq_by_cmp name_cmp key e.0 ≡ b → cond b (Some e.1) (fin.find name_cmp key es) ≡ Some value
  behind e es key value low there true tied =
      let same : key ≡ e.0 = fin.slice_cmp-IsAntisymmetric fin.nat_cmp-IsAntisymmetric key e.0 ((Equal-is (name_cmp key e.0)).0 tied) in
      let gone : ◌≡◌ {A = Option V} None (Some value) = sym (not_below e.0 es low) ∙ subst (λ k. fin.find name_cmp k es ≡ Some value) same there in
      absurd (cc)
  behind e es key value low there false tied = there

  each_of : (P : List ℕ → V → Type 0) (es : List (List ℕ × V)) → T (fin.is_sorted name_cmp es)
      → ((key : List ℕ) (value : V) → fin.find name_cmp key es ≡ Some value → P key value) → AllByRecursion (λ e. P e.0 e.1) es
  each_of P [] sorted h = tt
  each_of P (e ∷ es) sorted h =
      let both = tested (below_all name_cmp e.0 es) (fin.is_sorted name_cmp es) sorted in
      (h e.0 e.1 (first e es), each_of P es both.1 (λ key value there. h key value (behind e es key value both.0 there (eq_by_cmp name_cmp key e.0) refl)))

  pub each_entry : (P : List ℕ → V → Type 0) (m : fin.FinMap name_cmp V) → ((key : List ℕ) (value : V) → fin.get m key ≡ Some value → P key value)
      → AllByRecursion (λ e. P e.0 e.1) (fin.entries m)
  each_entry P m h = each_of P (fin.entries m) (fin.entries_sorted m) (λ key value there. h key value (fin.get-entries m key ∙ there))
