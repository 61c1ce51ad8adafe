-- What several reads and writes, or several puts, do one after another to known bytes.
use Rattle.std.proofs.Common.{◌≡◌, ◌↔◌, ◌+◌, ◌<◌, ◌≤◌, ℕ, List, [], ◌++◌, length, length-append, take, drop, Option, Some, None, IfSome, option_map, sym, ap, ◌∙◌, append_assoc, arith}
use Rattle.std.proofs.Math.Seq.{take-add, take-append-add}
use Rattle.std.proofs.lemmas.List.{take-append-drop, take-append-le, drop-drop}
use Rattle.std.proofs.lemmas.Grind.{common_steps}
use Rattle.std.specs.Io.KnownBytes.{Appends, Consumes, IsAtEnd}
use Rattle.tier_outside.specs.Streams.{Gains, GainsFront, told_since}

-- grown by a front of the piece, and then by more of it
pub appends_more : (a b c : Option (List ℕ)) (xs : List ℕ) (i n : ℕ) → Appends a b (take i xs) → Appends b c (take n (drop i xs)) → Appends a c (take (i + n) xs)
appends_more None b c xs i n p q = tt
appends_more (Some x) (Some y) (Some z) xs i n p q = q ∙ ap (λ w. w ++ take n (drop i xs)) p ∙ append_assoc x (take i xs) (take n (drop i xs)) ∙ ap (λ w. x ++ w) (sym (take-add i n xs))
appends_more (Some x) (Some y) None xs i n p q = elim q [ ]
appends_more (Some x) None c xs i n p q = elim p [ ]

-- the bytes from a place on are the next of them, and the bytes from behind these on
pub split_front : (place count : ℕ) (xs front : List ℕ) → front ≡ take count (drop place xs) → drop place xs ≡ front ++ drop (place + count) xs
split_front place count xs front e = sym (rw e (rw (← drop-drop count place xs) (take-append-drop count (drop place xs))))

-- nothing was read where there is nothing
none_of_none : (n : ℕ) (buf x y : List ℕ) → n ≤ length buf → x ≡ take n buf ++ y → x ≡ [] → n ≡ 0
none_of_none n buf x y h c e = grind (arith, common_steps, ap length c, ap length e)

-- there is nothing where nothing was read
none_where_none : (n : ℕ) (buf x y : List ℕ) → x ≡ take n buf ++ y → n ≡ 0 → y ≡ [] → x ≡ []
none_where_none n buf x y c z e = grind (arith, common_steps)

-- a read without bytes, into room, came at the end
pub ends_at_end : (start old new : Option (List ℕ)) (n : ℕ) (buf : List ℕ) → n ≤ length buf → Consumes old new (take n buf) × (n ≡ 0 → 0 < length buf → IsAtEnd new) → IfSome (told_since start old) (λ bytes. 0 < length buf → ((n ≡ 0) ↔ (bytes ≡ [])))
ends_at_end None old new n buf h p = tt
ends_at_end (Some s) None new n buf h p = tt
ends_at_end (Some s) (Some x) (Some y) n buf h p = λ room. ((λ z. none_where_none n buf x y p.0 z (p.1 z room)), (λ e. none_of_none n buf x y h p.0 e))
ends_at_end (Some s) (Some x) None n buf h p = elim p.0 [ ]

-- one gain and then another is the gain of both
pub gains_more : (a b c : Option (List ℕ)) (xs ys : List ℕ) → Gains a b xs → Gains b c ys → Gains a c (xs ++ ys)
gains_more None b c xs ys p q = q ∙ ap (option_map (λ w. w ++ ys)) p
gains_more (Some x) b c xs ys p q = q ∙ ap (option_map (λ w. w ++ ys)) p ∙ ap Some (append_assoc x xs ys)

-- a gain, and then a front of more, is a front of both
pub gains_front_more : (a b c : Option (List ℕ)) (xs ys : List ℕ) → Gains a b xs → GainsFront b c ys → GainsFront a c (xs ++ ys)
gains_front_more a b c xs ys p q = record { count = length xs + q.count; within = grind (arith, length-append, q.within); gained = rw (take-append-add xs ys q.count) (gains_more a b c xs (take q.count ys) p q.gained) }

-- a front of some bytes is a front of these and more
pub gains_front_wider : (a b : Option (List ℕ)) (xs ys : List ℕ) → GainsFront a b xs → GainsFront a b (xs ++ ys)
gains_front_wider a b xs ys p = record { count = p.count; within = grind (arith, length-append, p.within); gained = rw (take-append-le p.count xs ys p.within) p.gained }
