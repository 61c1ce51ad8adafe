-- A pick over rows, as what is found behind the cursor, else as what is found at all.
use Rattle.std.proofs.Common.{◌≡◌, ◌∙◌, sym, ap, refl, subst, ℕ, zero, suc, ◌+◌, ◌<◌, ◌≤◌, Bool, true, false, cond, List, [], ◌∷◌, Option, Some, None, length, take, drop, slice_get, nat_lt, is_some, true≢false, arith, not, ◌&&◌, map}
use Rattle.std.specs.Prelude.{⊤, if◌then◌else◌}
use Rattle.std.specs.List.{AllByRecursion, find, position, position_or_len}
use Rattle.std.specs.List.Sorted.{IsStrictlySortedBy}
use Rattle.std.specs.Option.{option_map, option_or}
use Rattle.std.specs.Ordering.{is_lt}
use Rattle.std.specs.Cmp.Lexicographic.{nat_list_cmp_total}
use Rattle.std.specs.declared.cmp.Ordering.{Ordering}
use Rattle.std.specs.declared.cmp.Ordering.TheVariants.{Less, Equal, Greater}
use Rattle.std.proofs.lemmas.List.{take-append-drop}
use Rattle.std.proofs.lemmas.List.Folds.{find-append, find_at}
use Rattle.std.proofs.lemmas.List.Sums.{prefix_len-le-length}
use Rattle.std.proofs.lemmas.Option.{slice_get-get_or, slice_get_past}
use Rattle.obj_model.specs.Names.{name_cmp}
use Rattle.obj_model.specs.Tables.{is_above}
use Rattle.agent_pick.specs.declared.row.Row.{Row}
use Rattle.agent_pick.specs.declared.picking.Chosen.TheVariants.{Evict, Flush}
use Rattle.agent_pick.specs.IndexLaws.{AreRising, name_picked}
use Rattle.agent_pick.specs.Picks.{chosen_at, chosen_row, first_from, is_behind, or_end, start_of}

-- the name of a row, if there is one
abbrev pub name_of : Option Row → Option (List ℕ)
name_of o = option_map (λ (r : Row). r.name) o

-- the row at a place, if there is one
abbrev pub at_place : List Row → Option ℕ → Option Row
at_place rows None = None
at_place rows (Some i) = slice_get rows i

picked_branch : (rows : List Row) (i : ℕ) (d : Bool) →
    name_picked rows (if d then Flush i else Evict i) ≡ name_of (slice_get rows i)
picked_branch rows i true = refl
picked_branch rows i false = refl

picked_row : (rows : List Row) (i : ℕ) (o : Option Row) → slice_get rows i ≡ o →
    name_picked rows (chosen_row i o) ≡ name_of (slice_get rows i)
picked_row rows i None e = ap name_of (sym e)
picked_row rows i (Some r) e = picked_branch rows i r.dirty

pub picked_at : (rows : List Row) (place : Option ℕ) →
    name_picked rows (chosen_at rows place) ≡ name_of (at_place rows place)
picked_at rows None = refl
picked_at rows (Some i) = picked_row rows i (slice_get rows i) refl

-- ---- what is found by place and by value

abbrev Agree : List Row → Option ℕ → Option Row → Type 0
Agree xs None None = ⊤
Agree xs None (Some r) = ⊥
Agree xs (Some i) None = ⊥
Agree xs (Some i) (Some r) = slice_get xs i ≡ Some r

past_end : (n m : ℕ) → nat_lt n m ≡ false → m ≤ n
past_end n m e = grind (arith, e)

before_end : (n m : ℕ) → nat_lt n m ≡ true → n < m
before_end n m e = grind (arith, e)

agree_at : (p : Row → Bool) (x : Row) (xs : List Row) (n : ℕ) (b : Bool) →
    find p (x ∷ xs) ≡ slice_get (x ∷ xs) n → nat_lt n (length (x ∷ xs)) ≡ b →
    Agree (x ∷ xs) (cond b (Some n) None) (find p (x ∷ xs))
agree_at p x xs n true at e =
    let there = slice_get-get_or (x ∷ xs) n x (before_end n (length (x ∷ xs)) e) in
    subst (Agree (x ∷ xs) (Some n)) (sym (at ∙ there)) there
agree_at p x xs n false at e =
    subst (Agree (x ∷ xs) None)
    (sym (at ∙ slice_get_past (x ∷ xs) n (past_end n (length (x ∷ xs)) e))) tt

agree : (p : Row → Bool) (xs : List Row) → Agree xs (position p xs) (find p xs)
agree p [] = tt
agree p (x ∷ xs) =
    agree_at p x xs (position_or_len p (x ∷ xs))
    (nat_lt (position_or_len p (x ∷ xs)) (length (x ∷ xs))) (find_at p (x ∷ xs)) refl

no_sum : (i : ℕ) → 0 + i ≡ i
no_sum i = omega arith

next_sum : (n i : ℕ) → suc n + i ≡ suc (n + i)
next_sum n i = omega arith

no_row : {A : Type 0} (r : Row) → None ≡ Some r → A
no_row r e = absurd (true≢false (sym (ap is_some e)))

in_drop : (n : ℕ) (xs : List Row) (i : ℕ) (r : Row) → slice_get (drop n xs) i ≡ Some r →
    slice_get xs (n + i) ≡ Some r
in_drop zero xs i r e = ap (slice_get xs) (no_sum i) ∙ e
in_drop (suc n) [] i r e = no_row r e
in_drop (suc n) (x ∷ xs) i r e = ap (slice_get (x ∷ xs)) (next_sum n i) ∙ in_drop n xs i r e

in_take : (n : ℕ) (xs : List Row) (i : ℕ) (r : Row) → slice_get (take n xs) i ≡ Some r →
    slice_get xs i ≡ Some r
in_take zero xs i r e = no_row r e
in_take (suc n) [] i r e = no_row r e
in_take (suc n) (x ∷ xs) zero r e = e
in_take (suc n) (x ∷ xs) (suc i) r e = in_take n xs i r e

joined : (n : ℕ) (xs : List Row) (pd : Option ℕ) (fd : Option Row) (pt : Option ℕ)
    (ft : Option Row) → Agree (drop n xs) pd fd → Agree (take n xs) pt ft →
    at_place xs (option_or (option_map (λ i. n + i) pd) pt) ≡ option_or fd ft
joined n xs (Some i) (Some r) pt ft d t = in_drop n xs i r d
joined n xs None None None None d t = refl
joined n xs None None (Some i) (Some r) d t = in_take n xs i r t
joined n xs None None None (Some r) d t = absurd t
joined n xs None None (Some i) None d t = absurd t
joined n xs None (Some r) pt ft d t = absurd d
joined n xs (Some i) None pt ft d t = absurd d

pub wrapped : (test : Row → Bool) (n : ℕ) (xs : List Row) →
    at_place xs (first_from test n xs) ≡ option_or (find test (drop n xs)) (find test (take n xs))
wrapped test n xs =
    joined n xs (position test (drop n xs)) (find test (drop n xs)) (position test (take n xs))
    (find test (take n xs)) (agree test (drop n xs)) (agree test (take n xs))

-- ---- rows behind a cursor

less_is : (o : Ordering) → is_lt o ≡ true → o ≡ Less
less_is Less e = refl
less_is Equal e = absurd (true≢false (sym e))
less_is Greater e = absurd (true≢false (sym e))

-- all rows come behind
all_behind : (test : Row → Bool) (c n : List ℕ) (rs : List Row) → name_cmp c n ≡ Less →
    AllByRecursion (λ y. name_cmp n y ≡ Less) (map (λ (r : Row). r.name) rs) →
    find test rs ≡ find (λ (r : Row). is_above (Some c) r.name && test r) rs
all_behind test c n [] lt all = refl
all_behind test c n (r ∷ rs) lt all =
    let behind = ap is_lt (nat_list_cmp_total.trans c n r.name lt all.0) in
    ap (cond (test r) (Some r)) (all_behind test c n rs lt all.1)
    ∙ sym (ap (λ b. cond (b && test r) (Some r)
    (find (λ (r : Row). is_above (Some c) r.name && test r) rs)) behind)

one_more : (n : ℕ) → 1 + n ≡ suc n
one_more n = omega arith

behind_step : (test : Row → Bool) (c : List ℕ) (r : Row) (rs : List Row) (b : Bool) →
    is_lt (name_cmp c r.name) ≡ b → AreRising (r ∷ rs) →
    find test (drop (position_or_len (is_behind c) rs) rs)
    ≡ find (λ (r : Row). is_above (Some c) r.name && test r) rs →
    find test (drop (cond (not b) (1 + position_or_len (is_behind c) rs) 0) (r ∷ rs))
    ≡ cond (b && test r) (Some r)
    (find (λ (r : Row). is_above (Some c) r.name && test r) rs)
unfolding IsStrictlySortedBy
behind_step test c r rs true e rise rest =
    ap (cond (test r) (Some r)) (all_behind test c r.name rs (less_is (name_cmp c r.name) e) rise.0)
behind_step test c r rs false e rise rest =
    ap (λ n. find test (drop n (r ∷ rs))) (one_more (position_or_len (is_behind c) rs)) ∙ rest

pub behind : (test : Row → Bool) (c : List ℕ) (rows : List Row) → AreRising rows →
    find test (drop (position_or_len (is_behind c) rows) rows)
    ≡ find (λ (r : Row). is_above (Some c) r.name && test r) rows
unfolding IsStrictlySortedBy
behind test c [] rise = refl
behind test c (r ∷ rs) rise =
    behind_step test c r rs (is_lt (name_cmp c r.name)) refl rise (behind test c rs rise.1)

ends : (p : Row → Bool) (rows : List Row) (b : Bool) →
    nat_lt (position_or_len p rows) (length rows) ≡ b →
    or_end rows (cond b (Some (position_or_len p rows)) None) ≡ position_or_len p rows
ends p rows true e = refl
ends p rows false e =
    grind (
      arith,
      past_end (position_or_len p rows) (length rows) e,
      prefix_len-le-length (λ x. not (p x)) rows,
    )

same_or : (o p : Option Row) → p ≡ None → option_or o p ≡ option_or o o
same_or None p e = e
same_or (Some r) p e = refl

or_none : (o : Option Row) → option_or o None ≡ o
or_none None = refl
or_none (Some r) = refl

else_all : (test : Row → Bool) (n : ℕ) (rows : List Row) (o : Option Row) →
    find test (drop n rows) ≡ o →
    option_or o (find test (take n rows)) ≡ option_or o (find test rows)
else_all test n rows (Some r) e = refl
else_all test n rows None e =
    sym (ap (find test) (sym (take-append-drop n rows))
    ∙ find-append test (take n rows) (drop n rows)
    ∙ ap (option_or (find test (take n rows))) e ∙ or_none (find test (take n rows)))

pub cyclic : (test : Row → Bool) (cursor : Option (List ℕ)) (rows : List Row) → AreRising rows →
    option_or (find test (drop (start_of cursor rows) rows))
    (find test (take (start_of cursor rows) rows))
    ≡ option_or (find (λ (r : Row). is_above cursor r.name && test r) rows) (find test rows)
cyclic test None rows rise = same_or (find test rows) None refl
cyclic test (Some c) rows rise =
    let p = is_behind c in
    ap (λ n. option_or (find test (drop n rows)) (find test (take n rows)))
    (ends p rows (nat_lt (position_or_len p rows) (length rows)) refl)
    ∙ else_all test (position_or_len p rows) rows (find test (drop (position_or_len p rows) rows))
    refl
    ∙ ap (λ o. option_or o (find test rows)) (behind test c rows rise)
