-- Places that are known: what stands there is found without what stands before.
use Rattle.std.proofs.Common.{◌≡◌, Bool, true, false, cond, List, [], ◌∷◌, Option, Some, None, refl}
use Rattle.std.proofs.Common.{ℕ, sym, ap, subst, ◌∙◌}
use Rattle.std.specs.Prelude.{is_some}
use Rattle.std.specs.List.{find}
use Rattle.obj_model.specs.Tables.{Table, entries_above}
use Rattle.obj_model.specs.declared.state.Obj.{Obj}
use Rattle.obj_model.specs.declared.state.NameState.{NameState}
use Rattle.copy_chunk.specs.declared.chunk.Chunk.{Chunk}
use Rattle.copy_chunk.specs.declared.chunk.Cursor.{Cursor}
use Rattle.copy_chunk.specs.declared.chunk.Cursor.TheVariants.{Attrs, Omap, Seen}
use Rattle.copy_chunk.specs.declared.groups.Group.{Group}
use Rattle.copy_chunk.specs.Chunks.{Piece, pieces_of, linked, first_place, chunks_of, chunk_at}
use Rattle.copy_chunk.specs.Chunks.{is_place}
use Rattle.copy_chunk.specs.Cuts.{first_group, is_begin, group_at, table_chunk, behind_attrs, cut}
use Rattle.copy_chunk.specs.Cuts.{AreThere, next_of}
use Rattle.copy_chunk.proofs.Fronts.{place_itself, find_hit, find_miss}
use Rattle.copy_chunk.proofs.Pieces.{cut_is}

-- a choice that is there took its first way
taken : {A : Type 0} (b : Bool) (x : Option A) → is_some (cond b x None) ≡ true → x ≡ cond b x None
taken true x h = refl
taken false x h = absurd cc

-- the group at a place where one begins
pub known_group : (t : Table) (key : Option (List ℕ)) → is_some (group_at t key) ≡ true
    → first_group (entries_above key t) ≡ group_at t key
known_group t key h = taken (is_begin t key) (first_group (entries_above key t)) h

-- a chunk that is there has a group
has_group : (place : Option (List ℕ) → Cursor) (end : Cursor) (key : Option (List ℕ))
    (g : Option Group) → is_some (table_chunk place end key g) ≡ true → is_some g ≡ true
has_group place end key None h = h
has_group place end key (Some g) h = refl

pub known_attrs : (o : Obj) (key : Option (List ℕ))
    → is_some (table_chunk Attrs (behind_attrs o) key (group_at o.attrs key)) ≡ true
    → is_some (group_at o.attrs key) ≡ true
known_attrs o key h = has_group Attrs (behind_attrs o) key (group_at o.attrs key) h

pub known_omap : (o : Obj) (key : Option (List ℕ))
    → is_some (table_chunk Omap Seen key (group_at o.omap key)) ≡ true
    → is_some (group_at o.omap key) ≡ true
known_omap o key h = has_group Omap Seen key (group_at o.omap key) h

-- ---- the place that a chunk names

-- what stands first in a list is found, and so is what is found in its rest
found_first : (c : Chunk) (cs : List Chunk)
    → is_some (find (λ d. is_place c.at d.at) (c ∷ cs)) ≡ true
found_first c cs = ap is_some (find_hit (λ d. is_place c.at d.at) c cs (place_itself c.at))

found_in : (at : Cursor) (c : Chunk) (cs : List Chunk)
    → is_some (find (λ d. is_place at d.at) cs) ≡ true
    → is_some (find (λ d. is_place at d.at) (c ∷ cs)) ≡ true
found_in at c cs h = by_test (is_place at c.at) refl
  where
    by_test : (b : Bool) → is_place at c.at ≡ b
        → is_some (find (λ d. is_place at d.at) (c ∷ cs)) ≡ true
    by_test true e = ap is_some (find_hit (λ d. is_place at d.at) c cs e)
    by_test false e = ap is_some (find_miss (λ d. is_place at d.at) c cs e) ∙ h

-- a place, where there is one, is a place of these chunks
abbrev Are : List Chunk → Option Cursor → Type 0
Are cs None = Unit {0}
Are cs (Some at) = is_some (find (λ d. is_place at d.at) cs) ≡ true

are_in : (at : Option Cursor) (c : Chunk) (cs : List Chunk) → Are cs at → Are (c ∷ cs) at
are_in None c cs h = tt
are_in (Some at) c cs h = found_in at c cs h

first_there : (ps : List Piece) → Are (linked None ps) (first_place None ps)
first_there [] = tt
first_there (p ∷ ps) =
    found_first (record { at = p.0; part = p.1; next = first_place None ps }) (linked None ps)

-- the place that a found chunk names is among the chunks
named_by : (at : Cursor) (p : Piece) (ps : List Piece) (b : Bool) → is_place at p.0 ≡ b
    → Are (linked None ps) (next_of (find (λ d. is_place at d.at) (linked None ps)))
    → Are (linked None (p ∷ ps)) (next_of (find (λ d. is_place at d.at) (linked None (p ∷ ps))))
named_by at p ps true e more =
    let first : Chunk = record { at = p.0; part = p.1; next = first_place None ps } in
    subst (λ (c : Option Chunk). Are (first ∷ linked None ps) (next_of c))
    (sym (find_hit (λ d. is_place at d.at) first (linked None ps) e))
    (are_in (first_place None ps) first (linked None ps) (first_there ps))
named_by at p ps false e more =
    let first : Chunk = record { at = p.0; part = p.1; next = first_place None ps } in
    subst (λ (c : Option Chunk). Are (first ∷ linked None ps) (next_of c))
    (sym (find_miss (λ d. is_place at d.at) first (linked None ps) e))
    (are_in (next_of (find (λ d. is_place at d.at) (linked None ps))) first (linked None ps) more)

named_in : (at : Cursor) (ps : List Piece)
    → Are (linked None ps) (next_of (find (λ d. is_place at d.at) (linked None ps)))
named_in at [] = tt
named_in at (p ∷ ps) = named_by at p ps (is_place at p.0) refl (named_in at ps)

of_chunks : (s : NameState) (at : Option Cursor) → Are (chunks_of s) at → AreThere s at
unfolding chunk_at
of_chunks s None h = tt
of_chunks s (Some at) h = h

-- the place that a chunk of a state names is one of the state
pub named_there : (s : NameState) (at : Cursor) → AreThere s (next_of (chunk_at (chunks_of s) at))
unfolding chunks_of chunk_at
named_there s at =
    of_chunks s (next_of (find (λ d. is_place at d.at) (linked None (pieces_of s))))
    (named_in at (pieces_of s))

-- ---- what a cutter remembers

-- a place that is remembered is one of the state
pub remembered : (s : NameState) (next : Option Cursor) (at : Cursor) → AreThere s next
    → next ≡ Some at → is_some (cut s at) ≡ true
remembered s next at h e = ap is_some (sym (cut_is s at)) ∙ subst (AreThere s) e h

-- and so is the place that the chunk names which was given
pub next_there : (s : NameState) (at : Cursor) (chunk : Option Chunk) (next : Option Cursor)
    → chunk ≡ cut s at → next ≡ next_of chunk → AreThere s next
next_there s at chunk next c n =
    subst (AreThere s) (sym (n ∙ ap next_of (c ∙ sym (cut_is s at)))) (named_there s at)

-- the chunk that was given is the state's
pub given : (s t : NameState) (at : Cursor) (chunk : Option Chunk) → chunk ≡ cut s at → s ≡ t
    → chunk ≡ chunk_at (chunks_of t) at
given s t at chunk c e =
    c ∙ sym (cut_is s at) ∙ ap (λ (u : NameState). chunk_at (chunks_of u) at) e
