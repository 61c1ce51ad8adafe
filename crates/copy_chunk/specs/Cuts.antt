-- The chunk at a place, kind by kind: what private steps of the cutting give.
use Rattle.std.specs.Prelude.{◌≡◌, ℕ, ◌+◌, ◌-◌, ◌%◌, Bool, true, false, not, ◌||◌, ◌==◌, nat_le}
use Rattle.std.specs.Prelude.{nat_lt, bytes_eq, is_some, List, [], ◌∷◌, map, length, take, drop}
use Rattle.std.specs.Prelude.{Option, Some, None, if◌then◌else◌}
use Rattle.std.specs.FinMap as fin
use Rattle.obj_model.specs.Tables.{Table, entries_above}
use Rattle.obj_model.specs.declared.state.Obj.{Obj}
use Rattle.obj_model.specs.declared.state.NameState.{NameState}
use Rattle.copy_chunk.specs.declared.chunk.Chunk.{Chunk}
use Rattle.copy_chunk.specs.declared.chunk.Cursor.{Cursor}
use Rattle.copy_chunk.specs.declared.chunk.Cursor.TheVariants.{Head, Body, Attrs, Omap, Seen}
use Rattle.copy_chunk.specs.declared.chunk.Part.TheVariants as part
use Rattle.copy_chunk.specs.declared.groups.Group.{Group}
use Rattle.copy_chunk.specs.Chunks.{Entry, pair_of, weight, before_first, groups, last_key}
use Rattle.copy_chunk.specs.Chunks.{chunks_of, chunk_at}

-- ---- the pairs of one chunk

-- the room that is left once a pair came: in the same group where it fits, else in a new one
abbrev pub room_left : ℕ → Entry → ℕ
room_left room e = if nat_le (weight e) room then room - weight e else 65536 - weight e

-- the room that is left behind the pair with a key
abbrev pub room_behind : ℕ → List Entry → List ℕ → Option ℕ
room_behind room [] key = None
room_behind room (e ∷ es) key =
    if bytes_eq e.0 key then Some (room_left room e) else room_behind (room_left room e) es key

-- the first group, and its last key where others follow
abbrev pub group_of : List (List Entry) → Group
group_of [] = record { pairs = []; last = None }
group_of (g ∷ []) = record { pairs = map pair_of g; last = None }
group_of (g ∷ h ∷ gs) = record { pairs = map pair_of g; last = last_key None g }

-- the group that begins with these pairs
abbrev pub first_group : List Entry → Option Group
first_group [] = None
first_group (e ∷ es) = Some (group_of (before_first e (groups (65536 - weight e) es)))

-- whether a group begins with these pairs, where so much room was left before them
abbrev pub begins : ℕ → List Entry → Bool
begins room [] = false
begins room (e ∷ es) = nat_lt room (weight e)

-- whether a group begins behind the pair with a key
abbrev pub begins_behind : Option ℕ → List Entry → Bool
begins_behind None es = false
begins_behind (Some room) es = begins room es

-- whether a group begins at a place of a table
abbrev pub is_begin : Table → Option (List ℕ) → Bool
is_begin t None = true
is_begin t (Some key) =
    begins_behind (room_behind 65536 (fin.entries t) key) (entries_above (Some key) t)

-- the group at a place of a table
abbrev pub group_at : Table → Option (List ℕ) → Option Group
group_at t key = if is_begin t key then first_group (entries_above key t) else None

-- a group as a chunk: the place of the next group, or of what stands behind the table
abbrev pub table_chunk : (Option (List ℕ) → Cursor) → Cursor → Option (List ℕ) → Option Group
    → Option Chunk
table_chunk place end key None = None
table_chunk place end key (Some g) =
    Some (record {
      at = place key;
      part = part.Pairs g.pairs;
      next = Some (elim g.last [ None ↦ end | Some last ↦ place (Some last) ]);
    })

-- ---- the head and the body

-- the place behind the attributes
abbrev pub behind_attrs : Obj → Cursor
behind_attrs o = if fin.len o.omap == 0 then Seen else Omap None

-- the place behind the body
abbrev pub behind_body : Obj → Cursor
behind_body o = if fin.len o.attrs == 0 then behind_attrs o else Attrs None

-- the place behind the head
abbrev pub behind_head : Option Obj → Cursor
behind_head None = Seen
behind_head (Some o) = if length o.body == 0 then behind_body o else Body 0

abbrev pub head_chunk : NameState → Chunk
head_chunk s =
    record {
      at = Head;
      part = part.Head s.ver s.seq (is_some s.obj);
      next = Some (behind_head s.obj);
    }

-- the piece of a body at an offset
abbrev pub body_chunk : Obj → ℕ → Option Chunk
body_chunk o off =
    if not (off % 65536 == 0) || nat_le (length o.body) off then None
    else Some (record {
      at = Body off;
      part = part.Body (take 65536 (drop off o.body));
      next = Some (if nat_lt 65536 (length o.body - off) then Body (off + 65536)
          else behind_body o);
    })

-- ---- the whole

-- the chunk at a place of a state
abbrev pub cut : NameState → Cursor → Option Chunk
cut s Head = Some (head_chunk s)
cut s (Body off) = elim s.obj [ None ↦ None | Some o ↦ body_chunk o off ]
cut s (Attrs key) =
    elim s.obj [
      | None ↦ None
      | Some o ↦ table_chunk Attrs (behind_attrs o) key
          (group_at o.attrs key)
    ]
cut s (Omap key) =
    elim s.obj [ None ↦ None | Some o ↦ table_chunk Omap Seen key (group_at o.omap key) ]
cut s Seen = Some (record { at = Seen; part = part.Seen s.seen; next = None })

-- ---- places that are known

-- a place, where there is one, is a place of the state
abbrev pub AreThere : NameState → Option Cursor → Type 0
AreThere s None = Unit {0}
AreThere s (Some at) = is_some (chunk_at (chunks_of s) at) ≡ true

-- the place that a chunk names, where there are a chunk and a place
abbrev pub next_of : Option Chunk → Option Cursor
next_of None = None
next_of (Some c) = c.next
