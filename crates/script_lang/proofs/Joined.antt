-- Words joined by spaces are cut into the same words again.
use Rattle.std.proofs.Common.{◌≡◌, ℕ, ◌≤◌, ◌==◌, ◌&&◌, ◌||◌, nat_le, nat_lt, Bool, true, false, List, [], ◌∷◌, ◌++◌, length, Some, refl, sym, ap, ◌∙◌, arith, bytes_eq, codes}
use Rattle.std.specs.List.{All, list_all, list_any, join_with_byte}
use Rattle.std.proofs.lemmas.List.Splits.{slice_split_at, slice_split_none, join_with_byte-slice_split}
use Rattle.std.proofs.lemmas.List.Elements.{All-nil, All-cons, All-head, All-tail, All-weaker}
use Rattle.std.specs.Cmp.Lexicographic.{bytes_decides}
use Rattle.std.proofs.lemmas.Bool.{and_parts}
use Rattle.std.proofs.lemmas.Bool.Decides.{nat_tests}
use Rattle.script_lang.specs.Reading.{field_at, is_odd_byte, word_at, words_of}

-- a byte that may stand in a word
abbrev pub is_word_byte : ℕ → Bool
is_word_byte b = nat_lt 0x20 b && nat_lt b 0x7f

-- a word: not empty, and of such bytes
abbrev pub IsWord : List ℕ → Type 0
IsWord word = (1 ≤ length word) × All (λ b. is_word_byte b ≡ true) word

-- each is a word
abbrev pub IsWords : List (List ℕ) → Type 0
IsWords [] = Unit {0}
IsWords (word ∷ words) = IsWord word × IsWords words

pub IsWords-append : (xs ys : List (List ℕ)) → IsWords xs → IsWords ys → IsWords (xs ++ ys)
IsWords-append [] ys hx hy = hy
IsWords-append (x ∷ xs) ys hx hy = (hx.0, IsWords-append xs ys hx.1 hy)

bytes_from_test : (p : ℕ → Bool) → ((b : ℕ) → p b ≡ true → is_word_byte b ≡ true) → (word : List ℕ)
    → list_all p word ≡ true → All (λ b. is_word_byte b ≡ true) word
bytes_from_test p fits [] h = All-nil (λ (b : ℕ). is_word_byte b ≡ true)
bytes_from_test p fits (b ∷ word) h =
    let parts = and_parts (p b) (list_all p word) h in
    All-cons (λ (b : ℕ). is_word_byte b
    ≡ true) b word (fits b parts.0) (bytes_from_test p fits word parts.1)

-- words whose bytes pass a test that bytes of words alone pass
pub IsWord-from_test : (p : ℕ → Bool) → ((b : ℕ) → p b ≡ true → is_word_byte b ≡ true)
    → (word : List ℕ)
    → 1 ≤ length word → list_all p word ≡ true → IsWord word
IsWord-from_test p fits word some h = (some, bytes_from_test p fits word h)

-- a written word: this is a computed test
pub literal_is_word : (word : List ℕ)
    → (nat_le 1 (length word) && list_all is_word_byte word) ≡ true → IsWord word
literal_is_word word h =
    let parts = and_parts (nat_le 1 (length word)) (list_all is_word_byte word) h in
    let some : 1 ≤ length word = grind (arith, nat_tests) in
    IsWord-from_test is_word_byte (λ b e. e) word some parts.1

-- a word has no space
no_space : (word : List ℕ) → IsWord word → All (λ b. (b == 0x20) ≡ false) word
no_space word h =
    All-weaker (λ (b : ℕ). is_word_byte b ≡ true) (λ (b : ℕ). (b == 0x20)
    ≡ false) (λ b e. grind (arith, nat_tests)) word h.1

-- a word is taken as one
pub word_at-word : (word : List ℕ) (words : List (List ℕ)) → IsWord word
    → word_at (word ∷ words) ≡ Some word
word_at-word [] words h = absurd (omega (arith, h.0))
word_at-word (b ∷ word) words h = refl

semicolon_by_test : (p : ℕ → Bool) → p 0x3b ≡ false → (word : List ℕ) (test : Bool)
    → list_all p word ≡ true
    → bytes_eq word (codes ";") ≡ test → test ≡ false
semicolon_by_test p fails word false h is = refl
semicolon_by_test p fails word true h is =
    let e : word ≡ codes ";" = (bytes_decides word (codes ";")).0 is in
    let all : list_all p (codes ";") ≡ true = ap (list_all p) (sym e) ∙ h in
    let parts = and_parts (p 0x3b) (list_all p []) all in
    let first = parts.0 in
    cc

-- a word whose bytes pass a test which the semicolon fails is no semicolon
pub no_semicolon : (p : ℕ → Bool) → p 0x3b ≡ false → (word : List ℕ) → list_all p word ≡ true
    → bytes_eq word (codes ";") ≡ false
no_semicolon p fails word h = semicolon_by_test p fails word (bytes_eq word (codes ";")) h refl

-- a word that is no semicolon is taken as a field
pub field_at-word : (word : List ℕ) (words : List (List ℕ)) → IsWord word
    → bytes_eq word (codes ";") ≡ false
    → field_at (word ∷ words) ≡ Some word
field_at-word [] words h other = absurd (omega (arith, h.0))
field_at-word (b ∷ word) words h other = rw other refl

-- cutting undoes joining
pub words_of-joined : (word : List ℕ) (words : List (List ℕ)) → IsWords (word ∷ words)
    → words_of (join_with_byte 0x20 (word ∷ words)) ≡ word ∷ words
words_of-joined word [] h = slice_split_none (λ b. b == 0x20) word (no_space word h.0)
words_of-joined word (next ∷ words) h =
    slice_split_at (λ b. b == 0x20) word 0x20 (join_with_byte 0x20 (next ∷ words))
    (no_space word h.0) refl
    ∙ ap (λ (ws : List (List ℕ)). word ∷ ws) (words_of-joined next words h.1)

-- joining undoes cutting
pub joined-words_of : (text : List ℕ) → join_with_byte 0x20 (words_of text) ≡ text
joined-words_of text = join_with_byte-slice_split 0x20 text

pub or_parts : (a b : Bool) → (a || b) ≡ false → (a ≡ false) × (b ≡ false)
or_parts false false h = (refl, refl)
or_parts false true h = cc h
or_parts true b h = cc h

-- words and the spaces between them have no odd byte
pub no_odd_byte : (xs ys : List ℕ) → list_any is_odd_byte xs ≡ false
    → list_any is_odd_byte ys ≡ false
    → list_any is_odd_byte (xs ++ ys) ≡ false
no_odd_byte [] ys hx hy = hy
no_odd_byte (x ∷ xs) ys hx hy =
    let parts = or_parts (is_odd_byte x) (list_any is_odd_byte xs) hx in
    rw (parts.0, no_odd_byte xs ys parts.1 hy) refl

word_is_even : (word : List ℕ) → All (λ b. is_word_byte b ≡ true) word
    → list_any is_odd_byte word ≡ false
word_is_even [] h = refl
word_is_even (b ∷ word) h =
    let fits : is_word_byte b ≡ true = All-head (λ (b : ℕ). is_word_byte b ≡ true) b word h in
    let even : is_odd_byte b ≡ false = grind (arith, nat_tests) in
    rw (even, word_is_even word (All-tail (λ (b : ℕ). is_word_byte b ≡ true) b word h)) refl

pub joined_is_even : (words : List (List ℕ)) → IsWords words
    → list_any is_odd_byte (join_with_byte 0x20 words) ≡ false
joined_is_even [] h = refl
joined_is_even (word ∷ []) h = word_is_even word h.0.1
joined_is_even (word ∷ next ∷ words) h =
    no_odd_byte word (0x20 ∷ join_with_byte 0x20 (next ∷ words)) (word_is_even word h.0.1)
    (joined_is_even (next ∷ words) h.1)
