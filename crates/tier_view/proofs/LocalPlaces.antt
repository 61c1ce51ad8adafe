-- Entries of a map: the place of one name, and all others.
use Rattle.std.proofs.Common.{◌≡◌, ◌≢◌, ◌⊎◌, inl, inr, T, cond, ◌&&◌, Bool, true, false, List, [], ◌∷◌, ◌++◌, Option, Some, None, refl, sym, ap, subst, ◌∙◌}
use Rattle.std.specs.FinMap as fin
use Rattle.std.specs.FinMap.{find, put, same_map, slice_cmp-IsAntisymmetric, nat_cmp-IsAntisymmetric}
use Rattle.std.specs.FinMap.Entries.{below_all, by_order}
use Rattle.std.specs.Cmp.{tied_itself}
use Rattle.std.specs.Cmp.Lexicographic.{nat_list_cmp_total}
use Rattle.std.specs.List.{AllByRecursion}
use Rattle.std.specs.Ordering.{is_eq, is_lt}
use Rattle.std.specs.declared.cmp.Ordering.{Ordering}
use Rattle.std.specs.declared.cmp.Ordering.TheVariants.{Less, Equal, Greater}
use Rattle.obj_model.specs.Names.{name_cmp}
use Rattle.tier_protocol.specs.Moves.{set_at}
use Rattle.tier_protocol.specs.Tiers.{Name}
use Rattle.tier_protocol.proofs.Cells.{get_here, get_there, same_or_not}

-- ---- the order of names

both : (a b : Bool) → T (a && b) → T a × T b
both true b h = (tt, h)
both false b h = absurd h

lower : (o : Ordering) → T (is_lt o) → is_eq o ≡ false
lower Less h = refl
lower Equal h = absurd h
lower Greater h = absurd h

above : (k n : Name) → T (is_lt (name_cmp k n)) → n ≢ k
above k n less same =
    let off : is_eq (name_cmp k k) ≡ false = lower (name_cmp k k) (subst (λ j. T (is_lt (name_cmp k j))) same less) in
    let tied : is_eq (name_cmp k k) ≡ true = ap is_eq (tied_itself nat_list_cmp_total k) in
    let bad : true ≡ false = sym tied ∙ off in
    absurd (cc)

module _ {X : Type 0} where
  -- rows before a name and behind it, between which its value goes
  pub record Place (k : Name) (es : List (Name × X)) : Type 0 where
    pub before : List (Name × X)
    pub behind : List (Name × X)
    pub is : es ≡ before ++ behind
    pub there : (x : X) → put name_cmp k x es ≡ before ++ (k, x) ∷ behind

  one_later : (k : Name) (e : Name × X) (es : List (Name × X)) → name_cmp k e.0 ≡ Greater → Place k es → Place k (e ∷ es)
  one_later k e es o p = record {
    before = e ∷ p.before;
    behind = p.behind;
    is = ap (λ rows. e ∷ rows) p.is;
    there = λ x. ap (λ c. by_order c ((k, x) ∷ e ∷ es) ((e.0, x) ∷ es) (e ∷ put name_cmp k x es)) o ∙ ap (λ rows. e ∷ rows) (p.there x);
  }

  -- a name that is not among the rows has its place
  pub place : (k : Name) (es : List (Name × X)) → find name_cmp k es ≡ None → Place k es
  place k [] none = record { before = []; behind = []; is = refl; there = λ x. refl }
  place k (e ∷ es) none = by (name_cmp k e.0) refl (λ rest. place k es rest)
    where
      by : (o : Ordering) → name_cmp k e.0 ≡ o → (find name_cmp k es ≡ None → Place k es) → Place k (e ∷ es)
      by Less o more = record {
        before = [];
        behind = e ∷ es;
        is = refl;
        there = λ x. ap (λ c. by_order c ((k, x) ∷ e ∷ es) ((e.0, x) ∷ es) (e ∷ put name_cmp k x es)) o;
      }
      by Equal o more = let no : ◌≡◌ {A = Option X} (Some e.1) None = sym (ap (λ c. cond (is_eq c) (Some e.1) (find name_cmp k es)) o) ∙ none in absurd (cc)
      by Greater o more = one_later k e es o (more (sym (ap (λ c. cond (is_eq c) (Some e.1) (find name_cmp k es)) o) ∙ none))

  -- what is put is put where there was none
  pub put_anew : (m : fin.FinMap name_cmp X) (k : Name) (x : X) → fin.insert m k x ≡ fin.insert (fin.remove m k) k x
  put_anew m k x = same_map nat_list_cmp_total (slice_cmp-IsAntisymmetric nat_cmp-IsAntisymmetric) _ _ (λ n. by n (same_or_not n k))
    where
      by : (n : Name) → (n ≡ k) ⊎ (n ≢ k) → fin.get (fin.insert m k x) n ≡ fin.get (fin.insert (fin.remove m k) k x) n
      by n (inl same) = subst (λ j. fin.get (fin.insert m k x) j ≡ fin.get (fin.insert (fin.remove m k) k x) j) (sym same)
          (get_here m k (Some x) ∙ sym (get_here (fin.remove m k) k (Some x)))
      by n (inr other) = get_there m k (Some x) n other ∙ sym (get_there m k None n other) ∙ sym (get_there (fin.remove m k) k (Some x) n other)

  pub none_found : (m : fin.FinMap name_cmp X) (k : Name) → find name_cmp k (fin.entries (fin.remove m k)) ≡ None
  none_found m k = sym (fin.get-entries (fin.remove m k) k) ∙ get_here m k None

  -- a map with what it has is the same
  pub same_at : (m : fin.FinMap name_cmp X) (k : Name) (v : Option X) → fin.get m k ≡ v → set_at m k v ≡ m
  same_at m k v has = same_map nat_list_cmp_total (slice_cmp-IsAntisymmetric nat_cmp-IsAntisymmetric) _ _ (λ n. by n (same_or_not n k))
    where
      by : (n : Name) → (n ≡ k) ⊎ (n ≢ k) → fin.get (set_at m k v) n ≡ fin.get m n
      by n (inl same) = subst (λ j. fin.get (set_at m k v) j ≡ fin.get m j) (sym same) (get_here m k v ∙ sym has)
      by n (inr other) = get_there m k v n other

  -- ---- all names are apart

  abbrev pub AreAlone : List (Name × X) → Type 0
  AreAlone [] = Unit {0}
  AreAlone (e ∷ es) = AllByRecursion (λ d. d.0 ≢ e.0) es × AreAlone es

  all_above : (k : Name) (es : List (Name × X)) → T (below_all name_cmp k es) → AllByRecursion (λ d. d.0 ≢ k) es
  all_above k [] h = tt
  all_above k (e ∷ es) h = let two = both (is_lt (name_cmp k e.0)) (below_all name_cmp k es) h in (above k e.0 two.0, all_above k es two.1)

  alone_by : (es : List (Name × X)) → T (fin.is_sorted name_cmp es) → AreAlone es
  alone_by [] h = tt
  alone_by (e ∷ es) h = let two = both (below_all name_cmp e.0 es) (fin.is_sorted name_cmp es) h in (all_above e.0 es two.0, alone_by es two.1)

  pub alone : (m : fin.FinMap name_cmp X) → AreAlone (fin.entries m)
  alone m = alone_by (fin.entries m) (fin.entries_sorted m)
