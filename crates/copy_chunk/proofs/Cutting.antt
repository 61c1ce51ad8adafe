-- The chunk at a place of linked pieces.
use Rattle.std.proofs.Common.{◌≡◌, ◌≤◌, ◌<◌, ◌+◌, ◌-◌, ◌%◌, ◌/◌, ℕ, zero, suc, Bool, true, false}
use Rattle.std.proofs.Common.{cond, not, ◌||◌, List, [], ◌∷◌, ◌++◌, length, take, drop, Option}
use Rattle.std.proofs.Common.{Some, None, refl, sym, ap, ◌∙◌, arith}
use Rattle.std.specs.Prelude.{nat_le, nat_lt, ◌==◌}
use Rattle.std.specs.List.{find}
use Rattle.std.proofs.lemmas.List.{length-drop, drop-drop, take_all}
use Rattle.std.proofs.Math.Nat.{add-mod_left}
use Rattle.copy_chunk.specs.declared.chunk.Chunk.{Chunk}
use Rattle.copy_chunk.specs.declared.chunk.Cursor.{Cursor}
use Rattle.copy_chunk.specs.declared.chunk.Cursor.TheVariants.{Body}
use Rattle.copy_chunk.specs.declared.chunk.Part.TheVariants as part
use Rattle.copy_chunk.specs.Chunks.{Piece, pieces_in, body_pieces, first_place, linked, is_place}
use Rattle.copy_chunk.proofs.Places.{NoneAt, body_low}
use Rattle.copy_chunk.proofs.Fronts.{find_hit, find_miss}

-- the chunk at a place of pieces, behind which this place stands
abbrev pub found : Cursor → Option Cursor → List Piece → Option Chunk
found at end ps = find (λ (c : Chunk). is_place at c.at) (linked end ps)

abbrev pub chunk_of_piece : Piece → Option Cursor → Chunk
chunk_of_piece p next = record { at = p.0; part = p.1; next = next }

pub found_hit : (at : Cursor) (end : Option Cursor) (p : Piece) (ps : List Piece)
    → is_place at p.0 ≡ true → found at end (p ∷ ps) ≡ Some (chunk_of_piece p (first_place end ps))
found_hit at end p ps e =
    find_hit (λ (c : Chunk). is_place at c.at) (chunk_of_piece p (first_place end ps))
    (linked end ps) e

pub found_miss : (at : Cursor) (end : Option Cursor) (p : Piece) (ps : List Piece)
    → is_place at p.0 ≡ false → found at end (p ∷ ps) ≡ found at end ps
found_miss at end p ps e =
    find_miss (λ (c : Chunk). is_place at c.at) (chunk_of_piece p (first_place end ps))
    (linked end ps) e

pub none_found : (at : Cursor) (end : Option Cursor) (ps : List Piece) → NoneAt at ps
    → found at end ps ≡ None
none_found at end [] h = refl
none_found at end (p ∷ ps) h = found_miss at end p ps h.0 ∙ none_found at end ps h.1

-- none of the first pieces stands there
pub found_later : (at : Cursor) (end : Option Cursor) (ps qs : List Piece) → NoneAt at ps
    → found at end (ps ++ qs) ≡ found at end qs
found_later at end [] qs h = refl
found_later at end (p ∷ ps) qs h = found_miss at end p (ps ++ qs) h.0 ∙ found_later at end ps qs h.1

pub first_append : (end : Option Cursor) (ps qs : List Piece)
    → first_place end (ps ++ qs) ≡ first_place (first_place end qs) ps
first_append end [] qs = refl
first_append end (p ∷ ps) qs = refl

earlier_by : (at : Cursor) (end : Option Cursor) (p : Piece) (ps qs : List Piece) (b : Bool)
    → is_place at p.0 ≡ b → found at end (ps ++ qs) ≡ found at (first_place end qs) ps
    → found at end (p ∷ (ps ++ qs)) ≡ found at (first_place end qs) (p ∷ ps)
earlier_by at end p ps qs true e more =
    found_hit at end p (ps ++ qs) e
    ∙ ap (λ (n : Option Cursor). Some (chunk_of_piece p n)) (first_append end ps qs)
    ∙ sym (found_hit at (first_place end qs) p ps e)
earlier_by at end p ps qs false e more =
    found_miss at end p (ps ++ qs) e ∙ more ∙ sym (found_miss at (first_place end qs) p ps e)

-- none of the last pieces stands there
pub found_earlier : (at : Cursor) (end : Option Cursor) (ps qs : List Piece) → NoneAt at qs
    → found at end (ps ++ qs) ≡ found at (first_place end qs) ps
found_earlier at end [] qs h = none_found at end qs h
found_earlier at end (p ∷ ps) qs h =
    earlier_by at end p ps qs (is_place at p.0) refl (found_earlier at end ps qs h)

-- ---- the body

pub short_piece : (bytes : List ℕ) → length bytes ≤ 65536 → bytes ≡ take 65536 bytes
short_piece bytes h = sym (take_all 65536 bytes h)

-- the piece at an offset of a multiple or not, within the body or not, with more behind it or not
abbrev pub piece_by : Bool → Bool → ℕ → List ℕ → Bool → Cursor → Option Chunk
piece_by whole past at bytes more end =
    cond (not whole || past) None
    (Some (record {
      at = Body at;
      part = part.Body (take 65536 bytes);
      next = Some (cond more (Body (at + 65536)) end);
    }))

-- the piece that begins so many bytes behind the first
abbrev pub piece_at : Cursor → ℕ → ℕ → List ℕ → Option Chunk
piece_at end off i bytes =
    piece_by (i % 65536 == 0) (nat_le (length bytes) i) (off + i) (drop i bytes)
    (nat_lt 65536 (length bytes - i)) end

past_end : (whole past more : Bool) (at : ℕ) (bytes : List ℕ) (end : Cursor) → past ≡ true
    → piece_by whole past at bytes more end ≡ None
past_end true true more at bytes end e = refl
past_end false true more at bytes end e = refl
past_end whole false more at bytes end e = absurd cc

between : (whole past more : Bool) (at : ℕ) (bytes : List ℕ) (end : Cursor) → whole ≡ false
    → piece_by whole past at bytes more end ≡ None
between true past more at bytes end e = absurd cc
between false past more at bytes end e = refl

same_piece : (v w p q m n : Bool) (i j : ℕ) (bs cs : List ℕ) (end : Cursor) → v ≡ w → p ≡ q → i ≡ j
    → bs ≡ cs → m ≡ n → piece_by v p i bs m end ≡ piece_by w q j cs n end
same_piece v w p q m n i j bs cs end e f g h k = cc

first_next : (end : Cursor) (n off : ℕ) (bytes : List ℕ) → suc n ≡ pieces_in (length bytes)
    → first_place (Some end) (body_pieces n (off + 65536) (drop 65536 bytes))
    ≡ Some (cond (nat_lt 65536 (length bytes)) (Body (off + 65536)) end)
unfolding body_pieces pieces_in
first_next end zero off bytes h =
    sym (ap (λ (b : Bool). Some (cond b (Body (off + 65536)) end)) (few (length bytes) h))
  where
    few : (n : ℕ) → 1 ≡ (n + 65535) / 65536 → nat_lt 65536 n ≡ false
    few n h = grind (arith, h)
first_next end (suc n) off bytes h =
    sym (ap (λ (b : Bool). Some (cond b (Body (off + 65536)) end)) (many n (length bytes) h))
  where
    many : (n k : ℕ) → suc (suc n) ≡ (k + 65535) / 65536 → nat_lt 65536 k ≡ true
    many n k h = grind (arith, h)

first_found : (end : Cursor) (n off : ℕ) (bytes : List ℕ) → suc n ≡ pieces_in (length bytes)
    → found (Body off) (Some end) (body_pieces (suc n) off bytes)
    ≡ piece_by true false off bytes (nat_lt 65536 (length bytes)) end
unfolding body_pieces
first_found end n off bytes h =
    found_hit (Body off) (Some end) (Body off, part.Body (take 65536 bytes))
    (body_pieces n (off + 65536) (drop 65536 bytes)) (itself off)
    ∙ ap (λ (c : Option Cursor). Some
    (record { at = Body off; part = part.Body (take 65536 bytes); next = c }))
    (first_next end n off bytes h)
  where
    itself : (i : ℕ) → (i == i) ≡ true
    itself i = grind arith

later_found : (end : Cursor) (n off i : ℕ) (bytes : List ℕ) → off < i
    → found (Body i) (Some end) (body_pieces (suc n) off bytes)
    ≡ found (Body i) (Some end) (body_pieces n (off + 65536) (drop 65536 bytes))
unfolding body_pieces
later_found end n off i bytes h =
    found_miss (Body i) (Some end) (Body off, part.Body (take 65536 bytes))
    (body_pieces n (off + 65536) (drop 65536 bytes)) (differ off i h)
  where
    differ : (j i : ℕ) → j < i → (i == j) ≡ false
    differ j i h = grind (arith, h)

-- a step of 65,536 bytes
shifted : (end : Cursor) (off j : ℕ) (bytes : List ℕ)
    → piece_at end (off + 65536) j (drop 65536 bytes) ≡ piece_at end off (65536 + j) bytes
shifted end off j bytes =
    same_piece (j % 65536 == 0) ((65536 + j) % 65536 == 0) (nat_le (length (drop 65536 bytes)) j)
    (nat_le (length bytes) (65536 + j))
    (nat_lt 65536 (length (drop 65536 bytes) - j)) (nat_lt 65536 (length bytes - (65536 + j)))
    (off + 65536 + j) (off + (65536 + j)) (drop j (drop 65536 bytes)) (drop (65536 + j) bytes) end
    (ap (λ (n : ℕ). n == 0) (sym (add-mod_left 65536 j)))
    (ap (λ (n : ℕ). nat_le n j) (length-drop 65536 bytes) ∙ low (length bytes) j)
    (omega arith)
    (drop-drop j 65536 bytes)
    (ap (λ (n : ℕ). nat_lt 65536 (n - j)) (length-drop 65536 bytes)
    ∙ ap (nat_lt 65536) (less (length bytes) j))
  where
    low : (n j : ℕ) → nat_le (n - 65536) j ≡ nat_le n (65536 + j)
    low n j = grind arith

    less : (n j : ℕ) → n - 65536 - j ≡ n - (65536 + j)
    less n j = omega arith

no_pieces : (off i : ℕ) (bytes : List ℕ) (end : Cursor)
    → found (Body (off + i)) (Some end) (body_pieces zero off bytes) ≡ None
unfolding body_pieces
no_pieces off i bytes end = refl

nothing : (n i : ℕ) → 0 ≡ (n + 65535) / 65536 → nat_le n i ≡ true
nothing n i h = grind (arith, h)

-- by a test
pub by_bool : (P : Bool → Type 0) (b : Bool) → (b ≡ true → P true) → (b ≡ false → P false) → P b
by_bool P true held failed = held refl
by_bool P false held failed = failed refl

step_of : (end : Cursor) (n off i : ℕ) (bytes : List ℕ) → suc n ≡ pieces_in (length bytes) → 0 < i
    → ((j : ℕ) → found (Body (off + 65536 + j)) (Some end)
    (body_pieces n (off + 65536) (drop 65536 bytes))
    ≡ piece_at end (off + 65536) j (drop 65536 bytes))
    → found (Body (off + i)) (Some end) (body_pieces (suc n) off bytes) ≡ piece_at end off i bytes
step_of end n off i bytes h some more =
    later_found end n off (off + i) bytes (omega (arith, some))
    ∙ by_bool (λ (b : Bool). found (Body (off + i)) (Some end)
    (body_pieces n (off + 65536) (drop 65536 bytes)) ≡ piece_at end off i bytes) (nat_lt i 65536)
    (λ e. inside (small i e)) (λ e. outside (large i e))
  where
    small : (i : ℕ) → nat_lt i 65536 ≡ true → i < 65536
    small i e = grind (arith, e)

    large : (i : ℕ) → nat_lt i 65536 ≡ false → 65536 ≤ i
    large i e = grind (arith, e)

    odd : (i : ℕ) → 0 < i → i < 65536 → (i % 65536 == 0) ≡ false
    odd i h g = grind (arith, h, g)

    inside : i < 65536 → found (Body (off + i)) (Some end)
        (body_pieces n (off + 65536) (drop 65536 bytes)) ≡ piece_at end off i bytes
    inside g =
        none_found (Body (off + i)) (Some end) (body_pieces n (off + 65536) (drop 65536 bytes))
        (body_low (off + i) n (off + 65536) (drop 65536 bytes) (omega (arith, g)))
        ∙ sym (between (i % 65536 == 0) (nat_le (length bytes) i) (nat_lt 65536 (length bytes - i))
        (off + i) (drop i bytes) end (odd i some g))

    outside : 65536 ≤ i → found (Body (off + i)) (Some end)
        (body_pieces n (off + 65536) (drop 65536 bytes)) ≡ piece_at end off i bytes
    outside g =
        let split : 65536 + (i - 65536) ≡ i = omega (arith, g) in
        let place : off + i ≡ off + 65536 + (i - 65536) = omega (arith, g) in
        ap (λ (k : ℕ). found (Body k) (Some end) (body_pieces n (off + 65536) (drop 65536 bytes)))
        place
        ∙ more (i - 65536) ∙ shifted end off (i - 65536) bytes
        ∙ ap (λ (k : ℕ). piece_at end off k bytes) split

at_first : (end : Cursor) (n off : ℕ) (bytes : List ℕ) → suc n ≡ pieces_in (length bytes)
    → found (Body (off + 0)) (Some end) (body_pieces (suc n) off bytes) ≡ piece_at end off 0 bytes
unfolding pieces_in
at_first end n off bytes h =
    ap (λ (k : ℕ). found (Body k) (Some end) (body_pieces (suc n) off bytes)) (same off)
    ∙ first_found end n off bytes h
    ∙ same_piece true (0 % 65536 == 0) false (nat_le (length bytes) 0) (nat_lt 65536 (length bytes))
    (nat_lt 65536 (length bytes - 0)) off (off + 0) bytes (drop 0 bytes) end (grind arith)
    (some n (length bytes) h) (omega arith) refl (ap (nat_lt 65536) (less (length bytes)))
  where
    same : (n : ℕ) → n + 0 ≡ n
    same n = omega arith

    some : (n k : ℕ) → suc n ≡ (k + 65535) / 65536 → false ≡ nat_le k 0
    some n k h = grind (arith, h)

    less : (n : ℕ) → n ≡ n - 0
    less n = omega arith

fewer_pieces : (n : ℕ) (bytes : List ℕ) → suc n ≡ pieces_in (length bytes)
    → n ≡ pieces_in (length (drop 65536 bytes))
unfolding pieces_in
fewer_pieces n bytes h =
    fewer n (length bytes) h ∙ ap (λ (k : ℕ). (k + 65535) / 65536) (sym (length-drop 65536 bytes))
  where
    fewer : (n k : ℕ) → suc n ≡ (k + 65535) / 65536 → n ≡ (k - 65536 + 65535) / 65536
    fewer n k h = omega (arith, h)

-- the piece of a body at an offset
pub body_found : (end : Cursor) (n off i : ℕ) (bytes : List ℕ) → n ≡ pieces_in (length bytes)
    → found (Body (off + i)) (Some end) (body_pieces n off bytes) ≡ piece_at end off i bytes
unfolding pieces_in
body_found end zero off i bytes h =
    no_pieces off i bytes end ∙ sym
    (past_end (i % 65536 == 0) (nat_le (length bytes) i) (nat_lt 65536 (length bytes - i)) (off + i)
    (drop i bytes) end (nothing (length bytes) i h))
body_found end (suc n) off zero bytes h = at_first end n off bytes h
body_found end (suc n) off (suc i) bytes h =
    step_of end n off (suc i) bytes h (omega arith)
    (λ j. body_found end n (off + 65536) j (drop 65536 bytes) (fewer_pieces n bytes h))
