-- Each chunk that is taken leaves fewer that may come.
use Rattle.std.proofs.Common.{◌≡◌, ◌≤◌, ◌<◌, ◌+◌, ℕ, true, ◌&&◌, List, [], ◌∷◌, ◌++◌, map, length}
use Rattle.std.proofs.Common.{Option, Some, None, refl, sym, ap, ◌∙◌, arith, append_assoc}
use Rattle.std.proofs.Common.{length-append}
use Rattle.std.proofs.lemmas.Bool.{leb-true, ltb-true}
use Rattle.std.proofs.lemmas.List.{append-nil, length-map}
use Rattle.std.specs.Prelude.{nat_le, nat_lt}
use Rattle.std.specs.Option.{option_map}
use Rattle.std.specs.FinMap as fin
use Rattle.std.specs.FinMap.{len-entries}
use Rattle.obj_model.specs.Names.{name_cmp}
use Rattle.obj_model.specs.Tables.{Table}
use Rattle.obj_model.specs.declared.out.Pair.{Pair}
use Rattle.obj_model.specs.declared.state.Obj.{Obj}
use Rattle.obj_model.specs.declared.state.NameState.{NameState}
use Rattle.obj_model.proofs.NameMaps.{kept_entries}
use Rattle.obj_model.proofs.Rising.{entries_rise}
use Rattle.copy_chunk.specs.declared.chunk.Chunk.{Chunk}
use Rattle.copy_chunk.specs.declared.chunk.Cursor.{Cursor}
use Rattle.copy_chunk.specs.declared.chunk.Cursor.TheVariants.{Head, Body, Attrs, Omap, Seen}
use Rattle.copy_chunk.specs.declared.chunk.Part.{Part}
use Rattle.copy_chunk.specs.declared.chunk.Part.TheVariants as part
use Rattle.copy_chunk.specs.declared.gather.Added.{Added}
use Rattle.copy_chunk.specs.declared.gather.Added.TheVariants.{Taken, Ignored, Unfit}
use Rattle.copy_chunk.specs.Chunks.{entry_of, last_key}
use Rattle.copy_chunk.specs.Gathers.{made, wanted, fits, Adds, leads, pairs_fit, table_fits}
use Rattle.copy_chunk.specs.Gathers.{body_fits, object_fits, part_fits, chunk_fits, with_part}
use Rattle.copy_chunk.specs.Gathers.{entries_with}
use Rattle.copy_chunk.proofs.Keys.{and_both, taken_rise}
use Rattle.copy_chunk.proofs.Fronts.{wanted_more, wanted_first}
use Rattle.copy_chunk.proofs.Gathering.{made_more}
use Rattle.copy_laws.specs.Left.{room, left_from, chunks_left, AreTaken}

-- ---- numbers

one_low : (n : ℕ) → 1 ≤ 1 + n
one_low n = omega arith

same_low : (n : ℕ) → n ≤ n
same_low n = omega arith

lower : (a b x y : ℕ) → a ≡ x → b ≡ y → x < y → a < b
lower a b x y e f h = omega (arith, e, f, h)

-- ---- the place behind a chunk

-- behind a place from which others may follow the head is not wanted again
left_behind : (at : Cursor) (next : Option Cursor) (obj : Option Obj) → leads at next ≡ true
    → left_from next obj ≤ 1 + room obj
left_behind Seen None obj e = omega arith
left_behind Seen (Some next) obj e = absurd cc
left_behind at None obj e = absurd cc
left_behind at (Some Head) obj e = absurd cc
left_behind at (Some Seen) obj e = one_low (room obj)
left_behind at (Some next) obj e = same_low (1 + room obj)

-- nothing may come behind the kept requests
last_leaves : (next : Option Cursor) (obj : Option Obj) → leads Seen next ≡ true
    → left_from next obj < 1
last_leaves None obj e = omega arith
last_leaves (Some next) obj e = absurd cc

-- no object has more room than an empty one
room_low : (obj : Option Obj) → room obj ≤ 1049664
room_low None = omega arith
room_low (Some o) = omega arith

-- ---- what a part takes of the room

-- a table with pairs that it can take has more entries, within its limit
table_grows : (most : ℕ) (t : Table) (ps : List Pair) → table_fits most (fin.entries t) ps ≡ true
    → (fin.len t < fin.len (fin.from_entries {R = name_cmp} (entries_with t ps)))
    × (fin.len (fin.from_entries {R = name_cmp} (entries_with t ps)) ≤ most)
table_grows most t ps e =
    let a =
    and_both (nat_lt 0 (length ps) && nat_le (length (fin.entries t) + length ps) most)
    (pairs_fit (last_key None (fin.entries t)) ps) e in
    let b =
    and_both (nat_lt 0 (length ps)) (nat_le (length (fin.entries t) + length ps) most) a.0 in
    let all : fin.entries (fin.from_entries {R = name_cmp} (entries_with t ps))
    ≡ entries_with t ps =
    kept_entries (entries_with t ps) (taken_rise most (fin.entries t) ps (entries_rise t) e) in
    let new = len-entries (fin.from_entries {R = name_cmp} (entries_with t ps)) in
    let count = ap length all in
    let more = length-append (fin.entries t) (map entry_of ps) in
    let some = ltb-true _ _ b.0 in
    let few = leb-true _ _ b.1 in (
      omega (arith, new, count, more, length-map ps entry_of, len-entries t, some),
      omega (arith, new, count, more, length-map ps entry_of, few),
    )

body_leaves : (off : ℕ) (obj : Option Obj) (bytes : List ℕ) (next : Option Cursor)
    → leads (Body off) next ≡ true → object_fits obj (λ o. body_fits o.body bytes) ≡ true
    → left_from next (option_map (λ (o : Obj). record o { body = o.body ++ bytes }) obj)
    < 1 + room obj
body_leaves off None bytes next lead e = absurd cc
body_leaves off (Some o) bytes next lead e =
    let b = and_both (nat_lt 0 (length bytes)) (nat_le (length o.body + length bytes) 1048576) e in
    omega (
      arith,
      left_behind (Body off) next (Some (record o { body = o.body ++ bytes })) lead,
      length-append o.body bytes,
      ltb-true _ _ b.0,
      leb-true _ _ b.1,
    )

attrs_leave : (key : Option (List ℕ)) (obj : Option Obj) (ps : List Pair) (next : Option Cursor)
    → leads (Attrs key) next ≡ true
    → object_fits obj (λ o. table_fits 64 (fin.entries o.attrs) ps) ≡ true
    → left_from next (option_map (λ (o : Obj). record o {
      attrs = fin.from_entries (entries_with o.attrs ps);
    }) obj)
    < 1 + room obj
attrs_leave key None ps next lead e = absurd cc
attrs_leave key (Some o) ps next lead e =
    let grown = table_grows 64 o.attrs ps e in
    omega (
      arith,
      left_behind (Attrs key) next
          (Some (record o { attrs = fin.from_entries (entries_with o.attrs ps) })) lead,
      grown.0,
      grown.1,
    )

omap_leaves : (key : Option (List ℕ)) (obj : Option Obj) (ps : List Pair) (next : Option Cursor)
    → leads (Omap key) next ≡ true
    → object_fits obj (λ o. table_fits 1024 (fin.entries o.omap) ps) ≡ true
    → left_from next (option_map (λ (o : Obj). record o {
      omap = fin.from_entries (entries_with o.omap ps);
    }) obj)
    < 1 + room obj
omap_leaves key None ps next lead e = absurd cc
omap_leaves key (Some o) ps next lead e =
    let grown = table_grows 1024 o.omap ps e in
    omega (
      arith,
      left_behind (Omap key) next
          (Some (record o { omap = fin.from_entries (entries_with o.omap ps) })) lead,
      grown.0,
      grown.1,
    )

-- ---- one chunk

part_leaves : (s : NameState) (at : Cursor) (p : Part) (next : Option Cursor)
    → leads at next ≡ true → part_fits s at p ≡ true
    → left_from next (with_part s at p).obj < left_from (Some at) s.obj
part_leaves s Head (part.Head ver seq present) next lead e =
    let obj = (with_part s Head (part.Head ver seq present)).obj in
    omega (arith, left_behind Head next obj lead, room_low obj)
part_leaves s (Body off) (part.Body bytes) next lead e = body_leaves off s.obj bytes next lead e
part_leaves s (Attrs key) (part.Pairs ps) next lead e = attrs_leave key s.obj ps next lead e
part_leaves s (Omap key) (part.Pairs ps) next lead e = omap_leaves key s.obj ps next lead e
part_leaves s Seen (part.Seen ks) next lead e =
    last_leaves next (with_part s Seen (part.Seen ks)).obj lead
part_leaves s at p next lead e = absurd cc

chunk_leaves : (s : NameState) (c : Chunk) → chunk_fits s c ≡ true
    → left_from c.next (with_part s c.at c.part).obj < left_from (Some c.at) s.obj
chunk_leaves s c e =
    let b = and_both (leads c.at c.next) (part_fits s c.at c.part) e in
    part_leaves s c.at c.part c.next b.0 b.1

-- what may come behind one chunk more
left_more : (cs : List Chunk) (c : Chunk)
    → chunks_left (cs ++ c ∷ []) ≡ left_from c.next (with_part (made cs) c.at c.part).obj
unfolding chunks_left
left_more cs c =
    ap (λ (at : Option Cursor). left_from at (made (cs ++ c ∷ [])).obj) (wanted_more cs c)
    ∙ ap (λ (s : NameState). left_from c.next s.obj) (made_more cs c)

-- what may come where a place is wanted
left_at : (cs : List Chunk) (at : Option Cursor) → wanted cs ≡ at
    → chunks_left cs ≡ left_from at (made cs).obj
unfolding chunks_left
left_at cs at e = ap (λ (a : Option Cursor). left_from a (made cs).obj) e

-- ---- the laws

pub taken_leaves_fewer : (cs : List Chunk) (c : Chunk) → wanted cs ≡ Some c.at → fits cs c ≡ true
    → chunks_left (cs ++ c ∷ []) < chunks_left cs
unfolding fits
taken_leaves_fewer cs c here e =
    lower (chunks_left (cs ++ c ∷ [])) (chunks_left cs)
    (left_from c.next (with_part (made cs) c.at c.part).obj) (left_from (Some c.at) (made cs).obj)
    (left_more cs c) (left_at cs (Some c.at) here) (chunk_leaves (made cs) c e)

pub adding_leaves_no_more : (c : Chunk) (old new : List Chunk) (added : Added)
    → Adds c old added new → chunks_left new ≤ chunks_left old
adding_leaves_no_more c old new Taken h =
    omega (arith, taken_leaves_fewer old c h.0 h.1, ap chunks_left h.2)
adding_leaves_no_more c old new Unfit h = omega (arith, ap chunks_left h.2)
adding_leaves_no_more c old new Ignored h = omega (arith, ap chunks_left h.1)

none_wanted : (at : Option Cursor) (obj : Option Obj) → left_from at obj ≡ 0 → at ≡ None
none_wanted None obj e = refl
none_wanted (Some Head) obj e = absurd (omega (arith, e))
none_wanted (Some Seen) obj e = absurd (omega (arith, e))
none_wanted (Some at) obj e = absurd (omega (arith, e))

pub nothing_left_is_whole : (cs : List Chunk) → (chunks_left cs ≡ 0 → wanted cs ≡ None)
    × (wanted cs ≡ None → chunks_left cs ≡ 0)
nothing_left_is_whole cs = (
  λ e. none_wanted (wanted cs) (made cs).obj (sym (left_at cs (wanted cs) refl) ∙ e),
  λ e. left_at cs None e,
)

pub first_has_most_left : chunks_left [] ≡ 1049666
first_has_most_left = left_at [] (Some Head) wanted_first

left_low : (at : Option Cursor) (obj : Option Obj) → left_from at obj ≤ 1049666
left_low None obj = omega arith
left_low (Some Head) obj = omega arith
left_low (Some Seen) obj = omega arith
left_low (Some at) obj = omega (arith, room_low obj)

pub few_are_left : (cs : List Chunk) → chunks_left cs ≤ 1049666
unfolding chunks_left
few_are_left cs = left_low (wanted cs) (made cs).obj

pub taken_are_few : (cs ds : List Chunk) → AreTaken cs ds
    → length ds + chunks_left (cs ++ ds) ≤ chunks_left cs
taken_are_few cs [] h = omega (arith, ap chunks_left (append-nil cs))
taken_are_few cs (d ∷ ds) h =
    omega (
      arith,
      taken_leaves_fewer cs d h.0.0 h.0.1,
      taken_are_few (cs ++ d ∷ []) ds h.1,
      ap chunks_left (append_assoc cs (d ∷ []) ds),
    )
