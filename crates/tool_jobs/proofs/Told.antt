-- Bytes that are taken one after another, and counts that rose.
use Rattle.std.proofs.Common.{◌≡◌, ◌≤◌, ◌+◌, ℕ, List, [], ◌∷◌, ◌++◌, take, length, Option, Some}
use Rattle.std.proofs.Common.{None, option_map, refl, sym, ap, subst, ◌∙◌, append_assoc, arith}
use Rattle.std.proofs.lemmas.List.{append-nil, length-append, take-append-le}
use Rattle.std.proofs.Math.Seq.{take-append-add}
use Rattle.tier_outside.specs.Causes.{Rose}
use Rattle.tier_outside.specs.Streams.{Loses, Gains, GainsFront}

-- a source that gave nothing
pub loses_none : (a : Option (List ℕ)) → Loses a a []
loses_none None = refl
loses_none (Some x) = refl

-- a source that gave two pieces
pub loses_more : (a b c : Option (List ℕ)) (p q : List ℕ) → Loses a b p → Loses b c q → Loses a c (p ++ q)
loses_more a b None p q h k = h ∙ ap (option_map (λ rest. p ++ rest)) k
loses_more a b (Some z) p q h k = h ∙ ap (option_map (λ rest. p ++ rest)) k ∙ ap Some (sym (append_assoc p q z))

-- a sink that took nothing
pub gains_none : (a : Option (List ℕ)) → Gains a a []
gains_none None = refl
gains_none (Some x) = ap Some (sym (append-nil x))

-- a sink that took two pieces
pub gains_more : (a b c : Option (List ℕ)) (p q : List ℕ) → Gains a b p → Gains b c q → Gains a c (p ++ q)
gains_more None b c p q h k = k ∙ ap (option_map (λ bytes. bytes ++ q)) h
gains_more (Some x) b c p q h k = k ∙ ap (option_map (λ bytes. bytes ++ q)) h ∙ ap Some (append_assoc x p q)

-- a count that rose after it did not fall
pub rose_later : (a b c : ℕ) → a ≤ b → Rose b c → Rose a c
rose_later a b c h k = omega arith

-- a sink that took a part of a text, and then a beginning of what is left of it
pub front_more : (a b c : Option (List ℕ)) (text put piece others : List ℕ)
    → put ++ (piece ++ others) ≡ text → Gains a b put → GainsFront b c piece → GainsFront a c text
front_more a b c text put piece others same before f = record {
  count = length put + f.count;
  within = omega (arith, f.within, size);
  gained = subst (λ bytes. Gains a c bytes) (sym front)
      (gains_more a b c put (take f.count piece) before f.gained);
}
  where
    size : length text ≡ length put + (length piece + length others)
    size =
        ap length (sym same) ∙ length-append put (piece ++ others)
        ∙ ap (λ k. length put + k) (length-append piece others)

    front : take (length put + f.count) text ≡ put ++ take f.count piece
    front =
        ap (take (length put + f.count)) (sym same)
        ∙ take-append-add put (piece ++ others) f.count
        ∙ ap (λ w. put ++ w) (take-append-le f.count piece others f.within)
