-- Parts of a list by their places.
use Rattle.std.specs.Prelude.{◌≡◌, ◌≤◌, ◌+◌, ◌-◌, ℕ, Bool, List, ◌++◌, length, take, drop, min}
use Rattle.std.specs.Prelude.{nat_eq, bytes_eq}
use Rattle.std.proofs.Common.{◌∙◌, sym, ap, arith, inl, inr, take-add}
use Rattle.std.specs.List.{starts_with}
use Rattle.std.proofs.lemmas.Bool.{cases_lt}
use Rattle.std.proofs.lemmas.Bool.Decides.{same_from_decides}
use Rattle.std.proofs.lemmas.List.{drop-drop, drop-take, take-take, drop_all}
use Rattle.std.proofs.lemmas.Slice.Eq.{bytes_eq-Decides}
use Rattle.log_image.specs.Steps.Looking.{stands}

-- past its end a list has nothing behind
pub drop_min : (at low : ℕ) (xs : List ℕ) → low ≡ min at (length xs) → drop low xs ≡ drop at xs
drop_min at low xs is =
    elim (cases_lt (length xs) at) [
      | inl past ↦ drop_all low xs (omega arith) ∙ sym (drop_all at xs (omega arith))
      | inr within ↦ let same : low ≡ at = omega arith in ap (λ n. drop n xs) same
    ]

-- a test that bytes begin with others tells whether these stand there
pub stands_found : (at low : ℕ) (wanted bytes : List ℕ) (r : Bool) → low ≡ min at (length bytes)
    → r ≡ starts_with nat_eq (drop low bytes) wanted → r ≡ stands at wanted bytes
stands_found at low wanted bytes r is test =
    let here : List ℕ = take (length wanted) (drop at bytes) in
    let one = bytes_eq-Decides wanted here in
    let other = bytes_eq-Decides here wanted in
    test ∙ ap (λ xs. starts_with nat_eq xs wanted) (drop_min at low bytes is)
    ∙ same_from_decides (bytes_eq wanted here) (bytes_eq here wanted)
    ((λ e. sym (one.0 e), λ e. one.1 (sym e))) other

-- a part behind another
pub join_parts : (at n m : ℕ) (xs ys zs : List ℕ) → take n (drop at xs) ≡ ys
    → take m (drop (at + n) xs) ≡ zs → take (n + m) (drop at xs) ≡ ys ++ zs
join_parts at n m xs ys zs first second =
    take-add n m (drop at xs) ∙ ap (λ l. l ++ take m (drop n (drop at xs))) first
    ∙ ap (λ l. ys ++ take m l) (drop-drop n at xs) ∙ ap (λ l. ys ++ l) second

-- a part of the front
pub cut_part : (at n limit : ℕ) (xs : List ℕ) → at + n ≤ limit
    → take n (drop at (take limit xs)) ≡ take n (drop at xs)
cut_part at n limit xs low =
    let whole : limit ≡ at + (limit - at) = omega arith in
    ap (λ l. take n (drop at (take l xs))) whole ∙ ap (take n) (drop-take at (limit - at) xs)
    ∙ take-take n (limit - at) (drop at xs) (omega arith)

-- a part of a part
pub inner_part : (at size k n : ℕ) (xs ys : List ℕ) → take size (drop at xs) ≡ ys → k + n ≤ size
    → take n (drop (at + k) xs) ≡ take n (drop k ys)
inner_part at size k n xs ys is low =
    ap (take n) (sym (drop-drop k at xs)) ∙ sym (cut_part k n size (drop at xs) low)
    ∙ ap (λ l. take n (drop k l)) is
