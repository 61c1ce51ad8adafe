-- Laws of hit sets in the words of the subject.
use Rattle.std.proofs.Common.{◌≡◌, ℕ, List, [], ◌∷◌, ◌++◌, Bool, true, false, ◌||◌, ◌&&◌, refl, ap₂, ◌∙◌, arith}
use Rattle.std.specs.Prelude.{◌==◌, fold, take, if◌then◌else◌}
use Rattle.std.specs.List.{list_any, list_all}
use Rattle.std.specs.Cmp.{eq_by_cmp_equiv}
use Rattle.std.specs.Cmp.Lexicographic.{nat_list_cmp_total}
use Rattle.std.proofs.lemmas.Bool.Decides.{nat_tests}
use Rattle.std.proofs.lemmas.List.Folds.{list_any-append}
use Rattle.name_hash.specs.Fnv.{hash_of}
use Rattle.hit_sets.specs.declared.kind.HitKind.{HitKind}
use Rattle.hit_sets.specs.declared.kind.HitKind.TheVariants.{ExplicitHash, ExplicitObject, Bloom}
use Rattle.hit_sets.specs.Sets.{Hits, empty, is_same_name, is_same_hash, ranks_of, place, is_set_by, is_set, kind_contains, contains, inserted}

-- ---- of tests over lists

or_right : (a b : Bool) → b ≡ true → (a || b) ≡ true
or_right true b is = refl
or_right false b is = is

or_left : (a b : Bool) → a ≡ true → (a || b) ≡ true
or_left true b is = refl
or_left false b is = absurd (cc)

left_of : (a b : Bool) → (a && b) ≡ true → a ≡ true
left_of true b is = refl
left_of false b is = is

right_of : (a b : Bool) → (a && b) ≡ true → b ≡ true
right_of true b is = is
right_of false b is = absurd (cc)

both : (a b : Bool) → a ≡ true → b ≡ true → (a && b) ≡ true
both a b left right = ap₂ (λ c d. c && d) left right

-- what each passes, each passes in a weaker test
each_weaker : (p q : ℕ → Bool) → ((r : ℕ) → p r ≡ true → q r ≡ true) → (xs : List ℕ) → list_all p xs ≡ true → list_all q xs ≡ true
each_weaker p q weaker [] all = refl
each_weaker p q weaker (x ∷ xs) all = both (q x) (list_all q xs) (weaker x (left_of (p x) (list_all p xs) all)) (each_weaker p q weaker xs (right_of (p x) (list_all p xs) all))

-- what one of some names passes, one of more names passes
one_of_more : (p : List ℕ → Bool) (names : List (List ℕ)) (n : List ℕ) → list_any p names ≡ true → list_any p (names ++ n ∷ []) ≡ true
one_of_more p names n one = list_any-append p names (n ∷ []) ∙ or_left (list_any p names) (p n || false) one

-- what the last of some names passes, one of them passes
last_of_more : (p : List ℕ → Bool) (names : List (List ℕ)) (n : List ℕ) → p n ≡ true → list_any p (names ++ n ∷ []) ≡ true
last_of_more p names n passes = list_any-append p names (n ∷ []) ∙ or_right (list_any p names) (p n || false) (or_left (p n) false passes)

number_is_itself : (n : ℕ) → (n == n) ≡ true
number_is_itself n = grind (arith, nat_tests)

-- each of some values is one of them
each_is_there : (f : ℕ → ℕ) (xs : List ℕ) → list_all (λ r. list_any (λ k. f k == f r) xs) xs ≡ true
each_is_there f [] = refl
each_is_there f (x ∷ xs) = both (list_any (λ k. f k == f x) (x ∷ xs)) (list_all (λ r. list_any (λ k. f k == f r) (x ∷ xs)) xs)
    (or_left (f x == f x) (list_any (λ k. f k == f x) xs) (number_is_itself (f x)))
    (each_weaker (λ r. list_any (λ k. f k == f r) xs) (λ r. list_any (λ k. f k == f r) (x ∷ xs)) (λ r is. or_right (f x == f r) (list_any (λ k. f k == f r) xs) is) xs (each_is_there f xs))

-- ---- of hit sets

-- whatever a set contains, it contains with one more name
kept : (kind : HitKind) (names : List (List ℕ)) (n q : List ℕ) → kind_contains kind names q ≡ true → kind_contains kind (names ++ n ∷ []) q ≡ true
kept ExplicitHash names n q is = one_of_more (is_same_hash q) names n is
kept ExplicitObject names n q is = one_of_more (is_same_name q) names n is
kept (Bloom fpp) names n q is = each_weaker (λ rank. is_set fpp names (place fpp q rank)) (λ rank. is_set fpp (names ++ n ∷ []) (place fpp q rank))
    (λ rank set. one_of_more (λ m. is_set_by fpp (place fpp q rank) (hash_of m)) names n set) (ranks_of fpp) is

-- a set contains a name that was added to it
added : (kind : HitKind) (names : List (List ℕ)) (n : List ℕ) → kind_contains kind (names ++ n ∷ []) n ≡ true
added ExplicitHash names n = last_of_more (is_same_hash n) names n (grind (arith, nat_tests))
added ExplicitObject names n = last_of_more (is_same_name n) names n ((eq_by_cmp_equiv nat_list_cmp_total).refl n)
added (Bloom fpp) names n = each_weaker (λ rank. list_any (λ k. place fpp n k == place fpp n rank) (ranks_of fpp)) (λ rank. is_set fpp (names ++ n ∷ []) (place fpp n rank))
    (λ rank set. last_of_more (λ m. is_set_by fpp (place fpp n rank) (hash_of m)) names n set) (ranks_of fpp) (each_is_there (place fpp n) (ranks_of fpp))

-- a set of any kind never forgets
pub never_forgets : (s : Hits) (n q : List ℕ) → contains s q ≡ true → contains (inserted s n) q ≡ true
never_forgets s n q is = elim (contains s n) as (λ b. contains (if b then s else record s { names = s.names ++ n ∷ [] }) q ≡ true) [ true ↦ is | false ↦ kept s.kind s.names n q is ]

-- a set contains what was inserted into it
pub has_inserted : (s : Hits) (n : List ℕ) → contains (inserted s n) n ≡ true
has_inserted s n = elim (contains s n) as (λ b. contains s n ≡ b → contains (if b then s else record s { names = s.names ++ n ∷ [] }) n ≡ true) [ true ↦ λ is. is | false ↦ λ _. added s.kind s.names n ] refl

-- after a run of insertions a set contains whatever it contained before
pub run_keeps : (s : Hits) (names : List (List ℕ)) (q : List ℕ) → contains s q ≡ true → contains (fold inserted s names) q ≡ true
run_keeps s [] q is = is
run_keeps s (n ∷ names) q is = run_keeps (inserted s n) names q (never_forgets s n q is)

-- after a run of insertions a set contains each name that was inserted
pub run_has_all : (s : Hits) (before after : List (List ℕ)) (n : List ℕ) → contains (fold inserted (inserted (fold inserted s before) n) after) n ≡ true
run_has_all s before after n = run_keeps (inserted (fold inserted s before) n) after n (has_inserted (fold inserted s before) n)

abbrev ranks_by : Bool → Bool → List ℕ
ranks_by b c = take (if b then 10 else (if c then 7 else 4)) (0 ∷ 1 ∷ 2 ∷ 3 ∷ 4 ∷ 5 ∷ 6 ∷ 7 ∷ 8 ∷ 9 ∷ [])

no_rank : (b c : Bool) → list_all (λ (r : ℕ). false) (ranks_by b c) ≡ false
no_rank true c = refl
no_rank false true = refl
no_rank false false = refl

-- an empty set contains nothing
pub empty_has_none : (kind : HitKind) (start : ℕ) (q : List ℕ) → contains (empty kind start) q ≡ false
empty_has_none ExplicitHash start q = refl
empty_has_none ExplicitObject start q = refl
empty_has_none (Bloom fpp) start q = no_rank (fpp == 1000) (fpp == 10000)
