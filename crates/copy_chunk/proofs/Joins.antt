-- The chunks of a state join to it.
use Rattle.std.proofs.Common.{◌≡◌, ◌≤◌, ◌+◌, ◌-◌, ◌*◌, ℕ, zero, suc, Bool, true, false, cond, List}
use Rattle.std.proofs.Common.{[], ◌∷◌, ◌++◌, map, length, take, drop, Option, Some, None, refl, sym}
use Rattle.std.proofs.Common.{ap, subst, ◌∙◌, append_assoc, arith}
use Rattle.std.specs.Prelude.{nat_le, is_some}
use Rattle.std.specs.List.{flat_map}
use Rattle.std.proofs.lemmas.List.{append-nil, take-append-drop, length-drop, nil_from_length}
use Rattle.std.proofs.lemmas.List.Concat.{flat_map-cons}
use Rattle.std.specs.FinMap as fin
use Rattle.obj_model.specs.Names.{name_cmp}
use Rattle.obj_model.specs.States.{unknown}
use Rattle.obj_model.proofs.NameMaps.{kept_entries}
use Rattle.obj_model.specs.declared.reply.Kept.{Kept}
use Rattle.obj_model.specs.declared.state.Obj.{Obj}
use Rattle.obj_model.specs.declared.state.NameState.{NameState}
use Rattle.copy_chunk.specs.declared.chunk.Cursor.{Cursor}
use Rattle.copy_chunk.specs.declared.chunk.Cursor.TheVariants.{Head, Attrs, Omap, Seen}
use Rattle.copy_chunk.specs.declared.chunk.Part.TheVariants as part
use Rattle.copy_chunk.specs.Chunks.{Entry, Piece, pair_of, entry_of, pieces_in, body_pieces, weight}
use Rattle.copy_chunk.specs.Chunks.{before_first, groups, table_groups, last_key, table_pieces}
use Rattle.copy_chunk.specs.Chunks.{object_pieces, pieces_of, linked, chunks_of}
use Rattle.copy_chunk.specs.Gathers.{with_part, made_from, made}
use Rattle.copy_chunk.proofs.Tables.{Table, Rising, entries_rise, made_of_entries, front_rises}

-- ---- pieces, without the places behind them

abbrev pub made_pieces : NameState → List Piece → NameState
made_pieces s [] = s
made_pieces s (p ∷ ps) = made_pieces (with_part s p.0 p.1) ps

pub made_linked : (s : NameState) (end : Option Cursor) (ps : List Piece)
    → made_from s (linked end ps) ≡ made_pieces s ps
made_linked s end [] = refl
made_linked s end (p ∷ ps) = made_linked (with_part s p.0 p.1) end ps

made_append : (s : NameState) (ps qs : List Piece)
    → made_pieces s (ps ++ qs) ≡ made_pieces (made_pieces s ps) qs
made_append s [] qs = refl
made_append s (p ∷ ps) qs = made_append (with_part s p.0 p.1) ps qs

-- ---- the body

-- so many bytes fill no more pieces
pub pieces_cover : (n : ℕ) → n ≤ 65536 * pieces_in n
unfolding pieces_in
pieces_cover n = omega arith

-- ---- the tables

-- the entries that pairs bring are those that the pairs were made of
pub entries_of_pairs : (es : List Entry) → map entry_of (map pair_of es) ≡ es
entries_of_pairs [] = refl
entries_of_pairs (e ∷ es) = ap (λ (l : List Entry). e ∷ l) (entries_of_pairs es)

-- what a table has once more entries came
pub more_entries : (done g others : List Entry) → Rising ((done ++ g) ++ others)
    → fin.entries (fin.from_entries {R = name_cmp} done) ++ map entry_of (map pair_of g) ≡ done ++ g
more_entries done g others rise =
    ap (λ (es : List Entry). es ++ map entry_of (map pair_of g))
    (kept_entries done (front_rises done g (front_rises (done ++ g) others rise)))
    ∙ ap (λ (es : List Entry). done ++ es) (entries_of_pairs g)

flat_before : (e : Entry) (gs : List (List Entry))
    → flat_map (λ g. g) (before_first e gs) ≡ e ∷ flat_map (λ g. g) gs
flat_before e [] = refl
flat_before e (g ∷ gs) = refl

either_way : {X : Type 0} (P : X → Type 0) (b : Bool) (x y : X) → P x → P y → P (cond b x y)
either_way P true x y p q = p
either_way P false x y p q = q

-- groups have the pairs that were grouped, in their order
pub flat_groups : (room : ℕ) (es : List Entry) → flat_map (λ g. g) (groups room es) ≡ es
unfolding groups
flat_groups room [] = refl
flat_groups room (e ∷ es) =
    either_way (λ (gs : List (List Entry)). flat_map (λ g. g) gs ≡ e ∷ es) (nat_le (weight e) room)
    (before_first e (groups (room - weight e) es))
    ([] ∷ before_first e (groups (65536 - weight e) es))
    (flat_before e (groups (room - weight e) es)
    ∙ ap (λ (l : List Entry). e ∷ l) (flat_groups (room - weight e) es))
    (flat_before e (groups (65536 - weight e) es)
    ∙ ap (λ (l : List Entry). e ∷ l) (flat_groups (65536 - weight e) es))

pub flat_table : (es : List Entry) → flat_map (λ g. g) (table_groups es) ≡ es
unfolding table_groups
flat_table [] = refl
flat_table (e ∷ es) =
    flat_before e (groups (65536 - weight e) es)
    ∙ ap (λ (l : List Entry). e ∷ l) (flat_groups (65536 - weight e) es)

-- ---- the whole

module _ (ver seq : ℕ) (seen : List Kept) where
  abbrev pub with_parts : List ℕ → Table → Table → NameState
  with_parts body attrs omap =
      record {
        ver = ver;
        seq = seq;
        obj = Some (record { body = body; attrs = attrs; omap = omap });
        seen = seen;
      }

  body_made : (attrs omap : Table) (n off : ℕ) (done bytes : List ℕ) → length bytes ≤ 65536 * n
      → made_pieces (with_parts done attrs omap) (body_pieces n off bytes)
      ≡ with_parts (done ++ bytes) attrs omap
  unfolding body_pieces
  body_made attrs omap zero off done bytes few =
      let none : bytes ≡ [] = nil_from_length bytes (omega arith) in
      ap (λ (b : List ℕ). with_parts b attrs omap)
      (sym (append-nil done) ∙ ap (λ (b : List ℕ). done ++ b) (sym none))
  body_made attrs omap (suc n) off done bytes few =
      body_made attrs omap n (off + 65536) (done ++ take 65536 bytes) (drop 65536 bytes)
      (omega (arith, length-drop 65536 bytes))
      ∙ ap (λ (b : List ℕ). with_parts b attrs omap)
      (append_assoc done (take 65536 bytes) (drop 65536 bytes)
      ∙ ap (λ (b : List ℕ). done ++ b) (take-append-drop 65536 bytes))

  attrs_made : (body : List ℕ) (omap : Table) (key : Option (List ℕ)) (done : List Entry)
      (gs : List (List Entry)) → Rising (done ++ flat_map (λ g. g) gs)
      → made_pieces (with_parts body (fin.from_entries done) omap) (table_pieces Attrs key gs)
      ≡ with_parts body (fin.from_entries (done ++ flat_map (λ g. g) gs)) omap
  unfolding table_pieces
  attrs_made body omap key done [] rise =
      ap (λ (es : List Entry). with_parts body (fin.from_entries es) omap) (sym (append-nil done))
  attrs_made body omap key done (g ∷ gs) rise =
      let flat =
      append_assoc done g (flat_map (λ g. g) gs)
      ∙ ap (λ (es : List Entry). done ++ es) (sym (flat_map-cons (λ g. g) g gs)) in
      ap (λ (es : List Entry). made_pieces (with_parts body (fin.from_entries es) omap)
      (table_pieces Attrs (last_key key g) gs))
      (more_entries done g (flat_map (λ g. g) gs) (subst Rising (sym flat) rise))
      ∙ attrs_made body omap (last_key key g) (done ++ g) gs (subst Rising (sym flat) rise)
      ∙ ap (λ (es : List Entry). with_parts body (fin.from_entries es) omap) flat

  omap_made : (body : List ℕ) (attrs : Table) (key : Option (List ℕ)) (done : List Entry)
      (gs : List (List Entry)) → Rising (done ++ flat_map (λ g. g) gs)
      → made_pieces (with_parts body attrs (fin.from_entries done)) (table_pieces Omap key gs)
      ≡ with_parts body attrs (fin.from_entries (done ++ flat_map (λ g. g) gs))
  unfolding table_pieces
  omap_made body attrs key done [] rise =
      ap (λ (es : List Entry). with_parts body attrs (fin.from_entries es)) (sym (append-nil done))
  omap_made body attrs key done (g ∷ gs) rise =
      let flat =
      append_assoc done g (flat_map (λ g. g) gs)
      ∙ ap (λ (es : List Entry). done ++ es) (sym (flat_map-cons (λ g. g) g gs)) in
      ap (λ (es : List Entry). made_pieces (with_parts body attrs (fin.from_entries es))
      (table_pieces Omap (last_key key g) gs))
      (more_entries done g (flat_map (λ g. g) gs) (subst Rising (sym flat) rise))
      ∙ omap_made body attrs (last_key key g) (done ++ g) gs (subst Rising (sym flat) rise)
      ∙ ap (λ (es : List Entry). with_parts body attrs (fin.from_entries es)) flat

  -- what the pieces of a body make
  pub body_comes : (o : Obj) → made_pieces (with_parts [] fin.empty fin.empty)
      (body_pieces (pieces_in (length o.body)) 0 o.body)
      ≡ with_parts o.body fin.empty fin.empty
  body_comes o =
      body_made fin.empty fin.empty (pieces_in (length o.body)) 0 [] o.body
      (pieces_cover (length o.body))

  -- then those of the attributes
  pub attrs_come : (o : Obj) → made_pieces (with_parts o.body fin.empty fin.empty)
      (table_pieces Attrs None (table_groups (fin.entries o.attrs)))
      ≡ with_parts o.body o.attrs fin.empty
  attrs_come o =
      let all = flat_table (fin.entries o.attrs) in
      attrs_made o.body fin.empty None [] (table_groups (fin.entries o.attrs))
      (subst Rising (sym all) (entries_rise o.attrs))
      ∙ ap (λ (t : Table). with_parts o.body t fin.empty)
      (ap fin.from_entries all ∙ made_of_entries o.attrs)

  -- then those of the omap
  omap_comes : (o : Obj) → made_pieces (with_parts o.body o.attrs fin.empty)
      (table_pieces Omap None (table_groups (fin.entries o.omap)))
      ≡ with_parts o.body o.attrs o.omap
  omap_comes o =
      let all = flat_table (fin.entries o.omap) in
      omap_made o.body o.attrs None [] (table_groups (fin.entries o.omap))
      (subst Rising (sym all) (entries_rise o.omap))
      ∙ ap (λ (t : Table). with_parts o.body o.attrs t)
      (ap fin.from_entries all ∙ made_of_entries o.omap)

  object_made : (o : Obj) → made_pieces (with_parts [] fin.empty fin.empty) (object_pieces (Some o))
      ≡ with_parts o.body o.attrs o.omap
  unfolding object_pieces
  object_made o =
      let body = body_pieces (pieces_in (length o.body)) 0 o.body in
      let attrs = table_pieces Attrs None (table_groups (fin.entries o.attrs)) in
      let omap = table_pieces Omap None (table_groups (fin.entries o.omap)) in
      made_append (with_parts [] fin.empty fin.empty) body (attrs ++ omap)
      ∙ ap (λ (s : NameState). made_pieces s (attrs ++ omap)) (body_comes o)
      ∙ made_append (with_parts o.body fin.empty fin.empty) attrs omap
      ∙ ap (λ (s : NameState). made_pieces s omap) (attrs_come o)
      ∙ omap_comes o

none_made : (ver seq : ℕ) (seen : List Kept)
    → made_pieces (with_part unknown Head (part.Head ver seq false))
    (object_pieces None ++ (Seen, part.Seen seen) ∷ [])
    ≡ record { ver = ver; seq = seq; obj = None; seen = seen }
unfolding object_pieces
none_made ver seq seen = refl

all_made : (s : NameState) → made_pieces unknown (pieces_of s) ≡ s
unfolding pieces_of
all_made s = by_object s.ver s.seq s.seen s.obj
  where
    by_object : (ver seq : ℕ) (seen : List Kept) (obj : Option Obj)
        → made_pieces (with_part unknown Head (part.Head ver seq (is_some obj)))
        (object_pieces obj ++ (Seen, part.Seen seen) ∷ [])
        ≡ record { ver = ver; seq = seq; obj = obj; seen = seen }
    by_object ver seq seen None = none_made ver seq seen
    by_object ver seq seen (Some o) =
        made_append (with_part unknown Head (part.Head ver seq true)) (object_pieces (Some o))
        ((Seen, part.Seen seen) ∷ [])
        ∙ ap (λ (s : NameState). with_part s Seen (part.Seen seen)) (object_made ver seq [] o)

-- what all chunks of a state have made is that state
pub chunks_make : (s : NameState) → made (chunks_of s) ≡ s
unfolding made chunks_of
chunks_make s = made_linked unknown None (pieces_of s) ∙ all_made s
