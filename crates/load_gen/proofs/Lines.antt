-- One more line at the end of a script.
use Rattle.std.proofs.Common.{◌≡◌, ℕ, zero, suc, ◌+◌, List, [], ◌∷◌, ◌++◌, ap, add-one, ◌∙◌, arith}
use Rattle.std.specs.Prelude.{flat_map}
use Rattle.std.specs.List.{range_with_len}
use Rattle.std.proofs.lemmas.Grind.{flat_map-append}
use Rattle.std.proofs.lemmas.List.{append-nil}
use Rattle.load_gen.specs.Script.{script_of, line_of, state_at}

-- the numbers from a on, with one more
range_more : (a n : ℕ) → range_with_len a (suc n) ≡ range_with_len a n ++ (a + n) ∷ []
range_more a zero = ap (λ (k : ℕ). k ∷ []) {x = a} {y = a + 0} (omega arith)
range_more a (suc n) = ap (λ (ks : List ℕ). a ∷ ks) (range_more (a + 1) n ∙ ap (λ (k : ℕ). range_with_len (a + 1) n ++ k ∷ []) {x = a + 1 + n} {y = a + suc n} (omega arith))

-- a script with its next line
pub script_more : (count start : ℕ) → script_of (count + 1) start ≡ script_of count start ++ line_of (count + 1) (state_at start (count + 1))
script_more count start =
    let line : ℕ → List ℕ = λ place. line_of place (state_at start place) in
    let places : range_with_len 1 (count + 1) ≡ range_with_len 1 count ++ (count + 1) ∷ [] = rw add-one (range_more 1 count ∙ ap (λ (k : ℕ). range_with_len 1 count ++ k ∷ []) {x = 1 + count} {y = suc count} (omega arith)) in
    ap (flat_map line) places
    ∙ flat_map-append line (range_with_len 1 count) ((count + 1) ∷ [])
    ∙ ap (λ (end : List ℕ). flat_map line (range_with_len 1 count) ++ end) (append-nil (line (count + 1)))
