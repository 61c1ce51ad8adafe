-- The chunk at a place of a state, kind by kind.
use Rattle.std.proofs.Common.{◌≡◌, ◌+◌, ℕ, zero, suc, Bool, true, false, cond, List, [], ◌∷◌, ◌++◌}
use Rattle.std.proofs.Common.{length, Option, Some, None, refl, sym, ap, ◌∙◌, arith, subst, ◌-◌}
use Rattle.std.proofs.Common.{◌%◌, ◌/◌, drop}
use Rattle.std.specs.Prelude.{if◌then◌else◌, ◌==◌, IfOk, is_some, nat_le, nat_lt}
use Rattle.std.specs.declared.result.Result.{Result}
use Rattle.std.specs.FinMap as fin
use Rattle.std.specs.FinMap.{len-entries}
use Rattle.obj_model.specs.Tables.{Table}
use Rattle.obj_model.specs.declared.memory.NoMemory.{NoMemory}
use Rattle.obj_model.specs.declared.state.Obj.{Obj}
use Rattle.obj_model.specs.declared.state.NameState.{NameState}
use Rattle.copy_chunk.specs.declared.chunk.Chunk.{Chunk}
use Rattle.copy_chunk.specs.declared.chunk.Cursor.{Cursor}
use Rattle.copy_chunk.specs.declared.chunk.Cursor.TheVariants.{Head, Body, Attrs, Omap, Seen}
use Rattle.copy_chunk.specs.declared.chunk.Part.{Part}
use Rattle.copy_chunk.specs.declared.chunk.Part.TheVariants as part
use Rattle.copy_chunk.specs.Chunks.{Entry, Piece, pieces_in, body_pieces, weight, before_first}
use Rattle.copy_chunk.specs.Chunks.{groups, table_groups, table_pieces, object_pieces, pieces_of}
use Rattle.copy_chunk.specs.Chunks.{first_place, chunks_of, chunk_at, is_key, is_place}
use Rattle.copy_chunk.specs.Cuts.{behind_attrs, behind_body, behind_head, body_chunk, group_at}
use Rattle.copy_chunk.specs.Cuts.{table_chunk, cut}
use Rattle.copy_chunk.proofs.Places.{Behind, Upto, none_behind, none_before, behind_append}
use Rattle.copy_chunk.proofs.Places.{body_upto, table_rank, table_behind, object_apart}
use Rattle.copy_chunk.proofs.Cutting.{found, found_hit, found_miss, found_later, found_earlier}
use Rattle.copy_chunk.proofs.Cutting.{first_append, chunk_of_piece, body_found, piece_by}
use Rattle.copy_chunk.proofs.TableCuts.{table_found}

-- ---- the first places

body_first : (end : Cursor) (n : ℕ) (bytes : List ℕ) → n ≡ pieces_in (length bytes)
    → first_place (Some end) (body_pieces n 0 bytes)
    ≡ Some (if length bytes == 0 then end else Body 0)
unfolding body_pieces pieces_in
body_first end zero bytes h =
    sym (ap (λ (b : Bool). Some (cond b end (Body 0))) (few (length bytes) h))
  where
    few : (k : ℕ) → 0 ≡ (k + 65535) / 65536 → (k == 0) ≡ true
    few k h = grind (arith, h)
body_first end (suc n) bytes h =
    sym (ap (λ (b : Bool). Some (cond b end (Body 0))) (some n (length bytes) h))
  where
    some : (n k : ℕ) → suc n ≡ (k + 65535) / 65536 → (k == 0) ≡ false
    some n k h = grind (arith, h)

groups_first : (place : Option (List ℕ) → Cursor) (end : Cursor) (es : List Entry)
    → first_place (Some end) (table_pieces place None (table_groups es))
    ≡ Some (if length es == 0 then end else place None)
unfolding table_pieces table_groups
groups_first place end [] = refl
groups_first place end (e ∷ es) =
    some (groups (65536 - weight e) es)
    ∙ sym (ap (λ (b : Bool). Some (cond b end (place None))) (never (length es)))
  where
    never : (n : ℕ) → (suc n == 0) ≡ false
    never n = grind arith

    some : (gs : List (List Entry))
        → first_place (Some end) (table_pieces place None (before_first e gs)) ≡ Some (place None)
    some [] = refl
    some (g ∷ gs) = refl

table_first : (place : Option (List ℕ) → Cursor) (end : Cursor) (t : Table)
    → first_place (Some end) (table_pieces place None (table_groups (fin.entries t)))
    ≡ Some (if fin.len t == 0 then end else place None)
table_first place end t =
    groups_first place end (fin.entries t)
    ∙ ap (λ (n : ℕ). Some (if n == 0 then end else place None)) (sym (len-entries t))

-- the pieces of an object, kind by kind
abbrev bodies : Obj → List Piece
bodies o = body_pieces (pieces_in (length o.body)) 0 o.body

abbrev attributes : Obj → List Piece
attributes o = table_pieces Attrs None (table_groups (fin.entries o.attrs))

abbrev omaps : Obj → List Piece
omaps o = table_pieces Omap None (table_groups (fin.entries o.omap))

first_omap : (o : Obj) → first_place (Some Seen) (omaps o) ≡ Some (behind_attrs o)
first_omap o = table_first Omap Seen o.omap

first_table : (o : Obj) → first_place (Some Seen) (attributes o ++ omaps o) ≡ Some (behind_body o)
first_table o =
    first_append (Some Seen) (attributes o) (omaps o)
    ∙ ap (λ (end : Option Cursor). first_place end (attributes o)) (first_omap o)
    ∙ table_first Attrs (behind_attrs o) o.attrs

first_piece : (o : Obj) → first_place (Some Seen) (bodies o ++ (attributes o ++ omaps o))
    ≡ Some (behind_head (Some o))
first_piece o =
    first_append (Some Seen) (bodies o) (attributes o ++ omaps o)
    ∙ ap (λ (end : Option Cursor). first_place end (bodies o)) (first_table o)
    ∙ body_first (behind_body o) (pieces_in (length o.body)) o.body refl

behind_first : (obj : Option Obj) (last : Part)
    → first_place None (object_pieces obj ++ (Seen, last) ∷ []) ≡ Some (behind_head obj)
unfolding object_pieces
behind_first None last = refl
behind_first (Some o) last =
    first_append None (bodies o ++ (attributes o ++ omaps o)) ((Seen, last) ∷ []) ∙ first_piece o

-- ---- what is found in an object

same_attrs : (j k : Option (List ℕ)) → is_place (Attrs j) (Attrs k) ≡ is_key j k
same_attrs j k = refl

same_omap : (j k : Option (List ℕ)) → is_place (Omap j) (Omap k) ≡ is_key j k
same_omap j k = refl

behind_bodies : (o : Obj) → Behind 1 (attributes o ++ omaps o)
behind_bodies o =
    behind_append 1 (attributes o) (omaps o)
    (table_behind Attrs same_attrs 1 None (table_groups (fin.entries o.attrs)) (λ k. omega arith))
    (table_behind Omap same_omap 1 None (table_groups (fin.entries o.omap)) (λ k. omega arith))

upto_bodies : (o : Obj) → Upto 1 (bodies o)
upto_bodies o = body_upto 1 (pieces_in (length o.body)) 0 o.body (omega arith)

body_in : (o : Obj) (off : ℕ) → found (Body off) (Some Seen) (bodies o ++ (attributes o ++ omaps o))
    ≡ body_chunk o off
body_in o off =
    found_earlier (Body off) (Some Seen) (bodies o) (attributes o ++ omaps o)
    (none_behind (Body off) 1 (attributes o ++ omaps o) (omega arith) (behind_bodies o))
    ∙ ap (λ (end : Option Cursor). found (Body off) end (bodies o)) (first_table o)
    ∙ ap (λ (i : ℕ). found (Body i) (Some (behind_body o)) (bodies o)) (plain off)
    ∙ body_found (behind_body o) (pieces_in (length o.body)) 0 off o.body refl
    ∙ ap (λ (i : ℕ). piece_by (off % 65536 == 0) (nat_le (length o.body) off) i (drop off o.body)
    (nat_lt 65536 (length o.body - off)) (behind_body o)) (sym (plain off))
  where
    plain : (i : ℕ) → i ≡ 0 + i
    plain i = omega arith

attrs_in : (o : Obj) (key : Option (List ℕ))
    → found (Attrs key) (Some Seen) (bodies o ++ (attributes o ++ omaps o))
    ≡ table_chunk Attrs (behind_attrs o) key (group_at o.attrs key)
attrs_in o key =
    found_later (Attrs key) (Some Seen) (bodies o) (attributes o ++ omaps o)
    (none_before (Attrs key) 1 (bodies o) (omega arith) (upto_bodies o))
    ∙ found_earlier (Attrs key) (Some Seen) (attributes o) (omaps o)
    (none_behind (Attrs key) 2 (omaps o) (omega arith)
    (table_behind Omap same_omap 2 None (table_groups (fin.entries o.omap)) (λ k. omega arith)))
    ∙ ap (λ (end : Option Cursor). found (Attrs key) end (attributes o)) (first_omap o)
    ∙ table_found Attrs same_attrs (behind_attrs o) o.attrs key

omap_in : (o : Obj) (key : Option (List ℕ))
    → found (Omap key) (Some Seen) (bodies o ++ (attributes o ++ omaps o))
    ≡ table_chunk Omap Seen key (group_at o.omap key)
omap_in o key =
    found_later (Omap key) (Some Seen) (bodies o) (attributes o ++ omaps o)
    (none_before (Omap key) 1 (bodies o) (omega arith) (upto_bodies o))
    ∙ found_later (Omap key) (Some Seen) (attributes o) (omaps o)
    (none_before (Omap key) 2 (attributes o) (omega arith)
    (table_rank Attrs same_attrs 2 None (table_groups (fin.entries o.attrs)) (λ k. refl)))
    ∙ table_found Omap same_omap Seen o.omap key

-- ---- the whole

-- a place of the object
inner : (at : Cursor) (s : NameState) (last : Part) → is_place at Head ≡ false
    → is_place at Seen ≡ false → found at None
    ((Head, part.Head s.ver s.seq (is_some s.obj)) ∷ (object_pieces s.obj ++ (Seen, last) ∷ []))
    ≡ found at (Some Seen) (object_pieces s.obj)
inner at s last h g =
    found_miss at None (Head, part.Head s.ver s.seq (is_some s.obj))
    (object_pieces s.obj ++ (Seen, last) ∷ []) h
    ∙ found_earlier at None (object_pieces s.obj) ((Seen, last) ∷ []) (g, tt)

of_object : (at : Cursor) (obj : Option Obj) (chunk : Obj → Option Chunk)
    → ((o : Obj) → found at (Some Seen) (bodies o ++ (attributes o ++ omaps o)) ≡ chunk o)
    → found at (Some Seen) (object_pieces obj) ≡ elim obj [ None ↦ None | Some o ↦ chunk o ]
unfolding object_pieces
of_object at None chunk h = refl
of_object at (Some o) chunk h = h o

pub cut_is : (s : NameState) (at : Cursor) → chunk_at (chunks_of s) at ≡ cut s at
unfolding chunks_of chunk_at pieces_of
cut_is s Head =
    found_hit Head None (Head, part.Head s.ver s.seq (is_some s.obj))
    (object_pieces s.obj ++ (Seen, part.Seen s.seen) ∷ []) refl
    ∙ ap (λ (n : Option Cursor). Some
    (chunk_of_piece (Head, part.Head s.ver s.seq (is_some s.obj)) n))
    (behind_first s.obj (part.Seen s.seen))
cut_is s (Body off) =
    inner (Body off) s (part.Seen s.seen) refl refl
    ∙ of_object (Body off) s.obj (λ o. body_chunk o off) (λ o. body_in o off)
cut_is s (Attrs key) =
    inner (Attrs key) s (part.Seen s.seen) refl refl
    ∙ of_object (Attrs key) s.obj
    (λ o. table_chunk Attrs (behind_attrs o) key (group_at o.attrs key)) (λ o. attrs_in o key)
cut_is s (Omap key) =
    inner (Omap key) s (part.Seen s.seen) refl refl
    ∙ of_object (Omap key) s.obj (λ o. table_chunk Omap Seen key (group_at o.omap key))
    (λ o. omap_in o key)
cut_is s Seen =
    found_miss Seen None (Head, part.Head s.ver s.seq (is_some s.obj))
    (object_pieces s.obj ++ (Seen, part.Seen s.seen) ∷ []) refl
    ∙ found_later Seen None (object_pieces s.obj) ((Seen, part.Seen s.seen) ∷ [])
    (none_before Seen 3 (object_pieces s.obj) (omega arith) (object_apart s.obj).2)
    ∙ found_hit Seen None (Seen, part.Seen s.seen) [] refl

-- what a step gives is the chunk at the place
pub cut_exact : (r : Result (Option Chunk) NoMemory) (s : NameState) (at : Cursor)
    → IfOk r (λ chunk. chunk ≡ cut s at) → IfOk r (λ chunk. chunk ≡ chunk_at (chunks_of s) at)
cut_exact r s at h = subst (λ (c : Option Chunk). IfOk r (λ chunk. chunk ≡ c)) (sym (cut_is s at)) h
