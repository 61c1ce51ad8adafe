-- What a writer has put, piece by piece, is the spelling.
use Rattle.std.proofs.Common.{◌≡◌, ℕ, ◌+◌, ◌^◌, ◌<◌, ◌≤◌, List, [], ◌∷◌, ◌++◌, map, length, take, get_or, None, sym, ap, ap₂, ◌∙◌, append_assoc, arith}
use Rattle.std.specs.List.{AllByRecursion, flat_map}
use Rattle.std.specs.FinMap as fin
use Rattle.std.specs.FinMap.{len-entries}
use Rattle.std.proofs.lemmas.List.Elements.{All-from_recursion, recursion_from_All}
use Rattle.byteorder.specs.Endian.{big_bytes}
use Rattle.obj_model.specs.Names.{name_fault}
use Rattle.obj_model.specs.States.{IsTable, IsKept, IsState}
use Rattle.obj_model.specs.declared.reply.Kept.{Kept}
use Rattle.obj_model.specs.declared.state.NameState.{NameState}
use Rattle.std.proofs.lemmas.Map.Views.{length-le_from_below}
use Rattle.std.proofs.lemmas.List.{length-map, take_more, append-nil}
use Rattle.std.proofs.lemmas.List.Concat.{flat_map-append, flat_map-cons}
use Rattle.obj_model.specs.declared.reply.Why.TheVariants.{TooBig}
use Rattle.rec_codec.specs.Spelling.{Entry, why, pair, table, IsNamed}
use Rattle.rec_codec.proofs.Tables.{Table}

-- a tag and two pieces
tagged_two : (old x y a b c : List ℕ) (tag : ℕ) → a ≡ old ++ tag ∷ [] → b ≡ a ++ x → c ≡ b ++ y → c ≡ old ++ (tag ∷ (x ++ y))
tagged_two old x y a b c tag p q r =
    r ∙ ap (λ (l : List ℕ). l ++ y) (q ∙ ap (λ (l : List ℕ). l ++ x) p ∙ append_assoc old (tag ∷ []) x) ∙ append_assoc old (tag ∷ x) y

pub put_limit : (limit asked : ℕ) (old a b c : List ℕ) → a ≡ old ++ 7 ∷ [] → b ≡ a ++ big_bytes 8 limit → c ≡ b ++ big_bytes 8 asked → c ≡ old ++ why (TooBig limit asked)
put_limit limit asked old a b c p q r = tagged_two old (big_bytes 8 limit) (big_bytes 8 asked) a b c 7 p q r

-- the number of a table's pairs is put, and all pairs are left
pub table_starts : (old out : List ℕ) (t : Table) (n : ℕ) (left : List Entry) → n ≡ fin.len t → out ≡ old ++ big_bytes 2 n → left ≡ fin.entries t → out ++ flat_map pair left ≡ old ++ table t
table_starts old out t n left e f g =
    ap₂ (λ (l : List ℕ) (es : List Entry). l ++ flat_map pair es) (f ∙ ap (λ (k : ℕ). old ++ big_bytes 2 k) (e ∙ len-entries t)) g
    ∙ append_assoc old (big_bytes 2 (length (fin.entries t))) (flat_map pair (fin.entries t))

values_of : (es : List Entry) → AllByRecursion (λ v. length v ≤ 4096) (map (λ e. e.1) es) → AllByRecursion (λ e. length e.1 ≤ 4096) es
values_of [] h = tt
values_of (e ∷ es) h = (h.0, values_of es h.1)

-- the values of a table are short
pub table_short : (t : Table) (left : List Entry) → IsTable 1024 t → left ≡ fin.entries t → AllByRecursion (λ e. length e.1 ≤ 4096) left
table_short t left h e = rw e (values_of (fin.entries t) (recursion_from_All (λ v. length v ≤ 4096) (map (λ e. e.1) (fin.entries t)) h.short))

keys_of : (es : List Entry) → AllByRecursion (λ e. name_fault e.0 ≡ None) es → AllByRecursion (λ k. name_fault k ≡ None) (map (λ e. e.0) es)
keys_of [] h = tt
keys_of (e ∷ es) h = (h.0, keys_of es h.1)

-- no pair is left
pub table_named : (t : Table) (left : List Entry) → left ≡ [] → (AllByRecursion (λ e. name_fault e.0 ≡ None) left → AllByRecursion (λ e. name_fault e.0 ≡ None) (fin.entries t)) → IsNamed t
table_named t left e h = All-from_recursion (λ k. name_fault k ≡ None) (map (λ e. e.0) (fin.entries t)) (keys_of (fin.entries t) (h (rw e tt)))

-- ---- states

clients_below : (ks : List Kept) → AllByRecursion IsKept ks → AllByRecursion (λ x. x < 257) (map (λ k. k.client) ks)
clients_below [] h = tt
clients_below (k ∷ ks) h = let high = h.0.client_high in (omega arith, clients_below ks h.1)

-- there are no more kept requests than clients
pub kept_few : (s : NameState) → IsState s → length s.seen < 2 ^ 16
kept_few s h =
    let few = length-le_from_below 257 (map (λ k. k.client) s.seen) h.rising (All-from_recursion (λ x. x < 257) (map (λ k. k.client) s.seen) (clients_below s.seen (recursion_from_All IsKept s.seen h.each_kept))) in
    omega (arith, few, length-map s.seen (λ (k : Kept). k.client))

pub put_four : (old v q o k a b c d : List ℕ) → a ≡ old ++ v → b ≡ a ++ q → c ≡ b ++ o → d ≡ c ++ k → d ≡ old ++ (v ++ (q ++ (o ++ k)))
put_four old v q o k a b c d e f g h =
    h ∙ ap (λ (l : List ℕ). l ++ k) (g ∙ ap (λ (l : List ℕ). l ++ o) (f ∙ ap (λ (l : List ℕ). l ++ q) e))
    ∙ append_assoc ((old ++ v) ++ q) o k ∙ append_assoc (old ++ v) q (o ++ k) ∙ append_assoc old v (q ++ (o ++ k))

-- one more value is put behind what is in front and the values so far
pub one_more : {A : Type 0} (f : A → List ℕ) (old front out new : List ℕ) (list : List A) (i : ℕ) (d : A) → i < length list → out ≡ old ++ front ++ flat_map f (take i list) → new ≡ out ++ f (get_or list i d)
    → new ≡ old ++ front ++ flat_map f (take (i + 1) list)
one_more f old front out new list i d lt e g =
    let one : flat_map f (get_or list i d ∷ []) ≡ f (get_or list i d) = flat_map-cons f (get_or list i d) [] ∙ append-nil (f (get_or list i d)) in
    g ∙ ap (λ (l : List ℕ). l ++ f (get_or list i d)) e
    ∙ append_assoc (old ++ front) (flat_map f (take i list)) (f (get_or list i d))
    ∙ ap (λ (l : List ℕ). (old ++ front) ++ l) (sym (ap (flat_map f) (take_more list i d lt) ∙ flat_map-append f (take i list) (get_or list i d ∷ []) ∙ ap (λ (l : List ℕ). flat_map f (take i list) ++ l) one))
