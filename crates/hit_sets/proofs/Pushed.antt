-- A set of names after one more.
use Rattle.std.proofs.Common.{◌≡◌, ℕ, List, [], ◌∷◌, ◌++◌, Bool, true, false, cond, ◌||◌, refl, ap, ◌∙◌}
use Rattle.std.specs.List.{list_any}
use Rattle.std.specs.Cmp.{eq_by_cmp_equiv}
use Rattle.std.specs.Cmp.Lexicographic.{nat_list_cmp_total}
use Rattle.std.proofs.lemmas.List.Folds.{list_any-append}
use Rattle.hit_sets.specs.Sets.{is_same_name}

turned : (a b : Bool) → (a || (b || false)) ≡ cond b true a
turned true true = refl
turned true false = refl
turned false true = refl
turned false false = refl

-- a name is among the names and one more where it is that one, or among them before
pub name_pushed : (names : List (List ℕ)) (n q : List ℕ) → list_any (is_same_name q) (names ++ n ∷ []) ≡ cond (is_same_name n q) true (list_any (is_same_name q) names)
name_pushed names n q =
    list_any-append (is_same_name q) names (n ∷ [])
    ∙ turned (list_any (is_same_name q) names) (is_same_name q n)
    ∙ ap (λ b. cond b true (list_any (is_same_name q) names)) ((eq_by_cmp_equiv nat_list_cmp_total).symm q n)
