-- Sums over archives.
use Rattle.std.proofs.Common.{◌≡◌, ℕ, ◌+◌, ◌<◌, List, ◌∷◌, length, get_or, drop, sym, ap, ◌∙◌, add-one, drop-cons}
use Rattle.std.specs.List.{enumerate_from}
use Rattle.std.proofs.lemmas.List.Sums.{sum_by-cons}
use Rattle.hit_sets.specs.Sets.{Hits}
use Rattle.hit_archive.specs.Archives.{share, warmth}

-- what is left of a sum is the share of the next archive and what is left after it
pub one_share : (n : List ℕ) (decay k : ℕ) (sets : List Hits) (d : Hits) → k < length sets → warmth n decay k (drop k sets) ≡ share n decay k (get_or sets k d) + warmth n decay (k + 1) (drop (k + 1) sets)
one_share n decay k sets d within =
    ap (warmth n decay k) (drop-cons sets k d within ∙ ap (λ m. get_or sets k d ∷ drop m sets) (sym (add-one k)))
    ∙ sum_by-cons (λ (e : ℕ × Hits). share n decay e.0 e.1) (k, get_or sets k d) (enumerate_from (k + 1) (drop (k + 1) sets))
