-- Laws of recency, temperature and archives in the words of the subject.
use Rattle.std.proofs.Common.{◌≡◌, ℕ, ◌+◌, ◌-◌, ◌≤◌, ◌<◌, List, [], ◌∷◌, Bool, true, false, ◌||◌, ◌&&◌, length, take, refl, sym, subst, arith, length-take}
use Rattle.std.specs.Prelude.{◌==◌, nat_le, if◌then◌else◌}
use Rattle.std.specs.List.{list_all, enumerate_from}
use Rattle.std.proofs.lemmas.Bool.Decides.{nat_tests}
use Rattle.std.proofs.lemmas.List.Sums.{sum_by-cons}
use Rattle.hit_sets.specs.Sets.{Hits, contains}
use Rattle.hit_archive.specs.Archives.{Archive, touched, ready, sealed, is_due, with_name, recency_met, grade, share, warmth, temperature}

left_of : (a b : Bool) → (a && b) ≡ true → a ≡ true
left_of true b is = refl
left_of false b is = is

right_of : (a b : Bool) → (a && b) ≡ true → b ≡ true
right_of true b is = is
right_of false b is = absurd (cc)

second_of : (a b : Bool) → a ≡ false → (a || b) ≡ true → b ≡ true
second_of true b isnt is = absurd (cc)
second_of false b isnt is = is

not_zero : (r : ℕ) → 0 < r → (r == 0) ≡ false
not_zero r above = grind (arith, nat_tests)

-- what recency above 0 asks
asked : (a : Archive) (n : List ℕ) (was_in : Bool) (r : ℕ) → 0 < r → recency_met a n was_in r ≡ true
    → (was_in && (nat_le (r - 1) (length a.archives) && list_all (λ s. contains s n) (take (r - 1) a.archives))) ≡ true
asked a n was_in r above met = second_of (r == 0) (was_in && (nat_le (r - 1) (length a.archives) && list_all (λ s. contains s n) (take (r - 1) a.archives))) (not_zero r above) met

-- recency above 0 needs the name in the current set
pub recency_needs_the_current_set : (a : Archive) (n : List ℕ) (was_in : Bool) (r : ℕ) → 0 < r → recency_met a n was_in r ≡ true → was_in ≡ true
recency_needs_the_current_set a n was_in r above met = left_of was_in (nat_le (r - 1) (length a.archives) && list_all (λ s. contains s n) (take (r - 1) a.archives)) (asked a n was_in r above met)

from_test : (m n : ℕ) → nat_le m n ≡ true → m ≤ n
from_test m n is = grind (arith, nat_tests)

-- recency r needs r - 1 archives
pub recency_needs_archives : (a : Archive) (n : List ℕ) (was_in : Bool) (r : ℕ) → 0 < r → recency_met a n was_in r ≡ true → r - 1 ≤ length a.archives
recency_needs_archives a n was_in r above met = from_test (r - 1) (length a.archives)
    (left_of (nat_le (r - 1) (length a.archives)) (list_all (λ s. contains s n) (take (r - 1) a.archives))
    (right_of was_in (nat_le (r - 1) (length a.archives) && list_all (λ s. contains s n) (take (r - 1) a.archives)) (asked a n was_in r above met)))

share_of_one : (n q : List ℕ) (decay i : ℕ) (s : Hits) → contains s q ≡ true → share n decay i s ≤ share q decay i s
share_of_one n q decay i s is = subst (λ (b : Bool). share n decay i s ≤ (if b then grade decay i else 0)) (sym is)
    (elim (contains s n) as (λ b. (if b then grade decay i else 0) ≤ grade decay i) [ true ↦ omega arith | false ↦ omega arith ])

warmth_step : (n : List ℕ) (decay from : ℕ) (s : Hits) (sets : List Hits) → warmth n decay from (s ∷ sets) ≡ share n decay from s + warmth n decay (from + 1) sets
warmth_step n decay from s sets = sum_by-cons (λ (e : ℕ × Hits). share n decay e.0 e.1) (from, s) (enumerate_from (from + 1) sets)

warmer : (n q : List ℕ) (decay from : ℕ) (sets : List Hits) → list_all (λ s. contains s q) sets ≡ true → warmth n decay from sets ≤ warmth q decay from sets
warmer n q decay from [] all = omega arith
warmer n q decay from (s ∷ sets) all =
    omega (
      arith,
      warmth_step n decay from s sets,
      warmth_step q decay from s sets,
      share_of_one n q decay from s (left_of (contains s q) (list_all (λ t. contains t q) sets) all),
      warmer n q decay (from + 1) sets (right_of (contains s q) (list_all (λ t. contains t q) sets) all),
    )

-- no name is warmer than one that is in the current set and in all archives that count
pub none_is_warmer : (a : Archive) (n q : List ℕ) (last_n decay : ℕ) → contains a.current q ≡ true → list_all (λ s. contains s q) (take last_n a.archives) ≡ true → temperature a n last_n decay ≤ temperature a q last_n decay
none_is_warmer a n q last_n decay now all =
    let w : warmth n decay 0 (take last_n a.archives) ≤ warmth q decay 0 (take last_n a.archives) = warmer n q decay 0 (take last_n a.archives) all in
    subst (λ (b : Bool). temperature a n last_n decay ≤ (if b then 1000000 else 0) + warmth q decay 0 (take last_n a.archives)) (sym now)
    (elim (contains a.current n) as (λ b. (if b then 1000000 else 0) + warmth n decay 0 (take last_n a.archives) ≤ 1000000 + warmth q decay 0 (take last_n a.archives)) [ true ↦ omega arith | false ↦ omega arith ])

-- so many archives are kept and no more
pub no_more_than_the_count : (a : Archive) (n : List ℕ) (now : ℕ) → length a.archives ≤ a.count → length (touched a n now).archives ≤ a.count
no_more_than_the_count a n now few = elim (a.count == 0) as (λ b. length (if b then a else with_name (ready a now) n).archives ≤ a.count) [
  | true ↦ few
  | false ↦ elim (is_due a now) as (λ b. length (if b then sealed a now else a).archives ≤ a.count) [ true ↦ omega (arith, length-take a.count (a.current ∷ a.archives)) | false ↦ few ]
]
