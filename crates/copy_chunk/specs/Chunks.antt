-- The chunks of a state: how it is cut, and where each chunk stands.
use Rattle.std.specs.Prelude.{ℕ, zero, suc, ◌+◌, ◌-◌, ◌/◌, Bool, true, false, List, [], ◌∷◌, ◌++◌}
use Rattle.std.specs.Prelude.{map, length, take, drop, Option, Some, None, is_some, nat_le, ◌==◌}
use Rattle.std.specs.Prelude.{bytes_eq, if◌then◌else◌}
use Rattle.std.specs.List.{find}
use Rattle.std.specs.FinMap as fin
use Rattle.obj_model.specs.declared.out.Pair.{Pair}
use Rattle.obj_model.specs.declared.state.Obj.{Obj}
use Rattle.obj_model.specs.declared.state.NameState.{NameState}
use Rattle.copy_chunk.specs.declared.chunk.Chunk.{Chunk}
use Rattle.copy_chunk.specs.declared.chunk.Cursor.{Cursor}
use Rattle.copy_chunk.specs.declared.chunk.Cursor.TheVariants.{Head, Body, Attrs, Omap, Seen}
use Rattle.copy_chunk.specs.declared.chunk.Part.{Part}
use Rattle.copy_chunk.specs.declared.chunk.Part.TheVariants as part

-- a key with its value
abbrev pub Entry : Type 0
Entry = List ℕ × List ℕ

-- the pair that brings an entry, and the entry that it brings
abbrev pub pair_of : Entry → Pair
pair_of e = record { key = e.0; value = e.1 }

abbrev pub entry_of : Pair → Entry
entry_of p = (p.key, p.value)

-- a place with what stands there
abbrev pub Piece : Type 0
Piece = Cursor × Part

-- ---- the body

-- how many pieces of 65,536 bytes so many bytes fill, the last of them in part
unfoldable pub pieces_in : ℕ → ℕ
pieces_in size = (size + 65535) / 65536

-- bytes from an offset on in so many pieces of 65,536 bytes, the last shorter
unfoldable pub body_pieces : ℕ → ℕ → List ℕ → List Piece
body_pieces zero off bytes = []
body_pieces (suc n) off bytes =
    (Body off, part.Body (take 65536 bytes)) ∷ body_pieces n (off + 65536) (drop 65536 bytes)

-- ---- the tables

-- the bytes of a pair
abbrev pub weight : Entry → ℕ
weight e = length e.0 + length e.1

-- a pair in front of the first group
abbrev pub before_first : Entry → List (List Entry) → List (List Entry)
before_first e [] = (e ∷ []) ∷ []
before_first e (g ∷ gs) = (e ∷ g) ∷ gs

-- pairs in groups of as many as fit into 65,536 bytes; the first group has so much room left
unfoldable pub groups : ℕ → List Entry → List (List Entry)
groups room [] = [] ∷ []
groups room (e ∷ es) =
    if nat_le (weight e) room then before_first e (groups (room - weight e) es)
    else [] ∷ before_first e (groups (65536 - weight e) es)

-- the groups of a table's pairs; none of an empty table
unfoldable pub table_groups : List Entry → List (List Entry)
table_groups [] = []
table_groups (e ∷ es) = before_first e (groups (65536 - weight e) es)

-- the key of the last of these pairs, or the one before them
abbrev pub last_key : Option (List ℕ) → List Entry → Option (List ℕ)
last_key key [] = key
last_key key (e ∷ es) = last_key (Some e.0) es

-- groups at their places, each behind the last key of the one before
unfoldable pub table_pieces : (Option (List ℕ) → Cursor) → Option (List ℕ) → List (List Entry)
    → List Piece
table_pieces place key [] = []
table_pieces place key (g ∷ gs) =
    (place key, part.Pairs (map pair_of g)) ∷ table_pieces place (last_key key g) gs

-- ---- the whole

-- the pieces of an object: the body, the attributes, the omap; none where there is no object
unfoldable pub object_pieces : Option Obj → List Piece
object_pieces None = []
object_pieces (Some o) =
    body_pieces (pieces_in (length o.body)) 0 o.body
    ++ (table_pieces Attrs None (table_groups (fin.entries o.attrs))
    ++ table_pieces Omap None (table_groups (fin.entries o.omap)))

-- the pieces of a state: the head, the object, the kept requests
unfoldable pub pieces_of : NameState → List Piece
pieces_of s =
    (Head, part.Head s.ver s.seq (is_some s.obj))
    ∷ (object_pieces s.obj ++ (Seen, part.Seen s.seen) ∷ [])

-- the place of the first piece, or of what stands behind them
abbrev pub first_place : Option Cursor → List Piece → Option Cursor
first_place end [] = end
first_place end (p ∷ ps) = Some p.0

-- pieces as chunks, each of which names the place of the following one
abbrev pub linked : Option Cursor → List Piece → List Chunk
linked end [] = []
linked end (p ∷ ps) = record { at = p.0; part = p.1; next = first_place end ps } ∷ linked end ps

-- the chunks of a state, in order
unfoldable pub chunks_of : NameState → List Chunk
chunks_of s = linked None (pieces_of s)

-- ---- places

-- whether two keys, or that there is none, are the same
abbrev pub is_key : Option (List ℕ) → Option (List ℕ) → Bool
is_key None None = true
is_key None (Some k) = false
is_key (Some j) None = false
is_key (Some j) (Some k) = bytes_eq j k

-- whether two places are the same
abbrev pub is_place : Cursor → Cursor → Bool
is_place Head Head = true
is_place (Body i) (Body j) = i == j
is_place (Attrs j) (Attrs k) = is_key j k
is_place (Omap j) (Omap k) = is_key j k
is_place Seen Seen = true
is_place at other = false

-- the chunk at a place, where it is a place of these chunks
unfoldable pub chunk_at : List Chunk → Cursor → Option Chunk
chunk_at cs at = find (λ c. is_place at c.at) cs
