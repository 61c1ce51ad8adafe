-- No two chunks of a state stand at one place.
use Rattle.std.proofs.Common.{◌≡◌, ◌≢◌, ◌≤◌, ◌<◌, ◌+◌, ◌-◌, ℕ, zero, suc, Bool, true, false, cond}
use Rattle.std.proofs.Common.{List, [], ◌∷◌, ◌++◌, map, length, drop, Option, Some, None, refl, sym}
use Rattle.std.proofs.Common.{ap, subst, ◌∙◌, arith}
use Rattle.std.specs.Prelude.{nat_le, bytes_eq, ◌==◌}
use Rattle.std.specs.List.{AllByRecursion}
use Rattle.std.specs.List.Sorted.{IsStrictlySortedBy}
use Rattle.std.specs.declared.cmp.Ordering.TheVariants.{Less}
use Rattle.std.specs.Ordering.{is_eq}
use Rattle.std.specs.Cmp.Lexicographic.{nat_list_cmp_total}
use Rattle.std.proofs.lemmas.Map.Text.{is_eq-slice_cmp}
use Rattle.std.specs.FinMap as fin
use Rattle.obj_model.specs.Names.{name_cmp}
use Rattle.obj_model.specs.declared.state.Obj.{Obj}
use Rattle.obj_model.specs.declared.state.NameState.{NameState}
use Rattle.copy_chunk.specs.declared.chunk.Cursor.{Cursor}
use Rattle.copy_chunk.specs.declared.chunk.Cursor.TheVariants.{Head, Body, Attrs, Omap, Seen}
use Rattle.copy_chunk.specs.declared.chunk.Part.{Part}
use Rattle.copy_chunk.specs.declared.chunk.Part.TheVariants as part
use Rattle.copy_chunk.specs.Chunks.{Entry, Piece, pair_of, pieces_in, body_pieces, weight}
use Rattle.copy_chunk.specs.Chunks.{before_first, groups, table_groups, last_key, table_pieces}
use Rattle.copy_chunk.specs.Chunks.{object_pieces, pieces_of, is_key, is_place}
use Rattle.copy_chunk.proofs.Tables.{Rising, entries_rise}

-- ---- places that differ

-- where a place is in the order of the parts
abbrev pub rank : Cursor → ℕ
rank Head = 0
rank (Body off) = 1
rank (Attrs key) = 2
rank (Omap key) = 3
rank Seen = 4

-- places of different parts differ
pub other_rank : (a b : Cursor) → rank a ≢ rank b → is_place a b ≡ false
other_rank Head Head h = absurd (h refl)
other_rank (Body i) (Body j) h = absurd (h refl)
other_rank (Attrs i) (Attrs j) h = absurd (h refl)
other_rank (Omap i) (Omap j) h = absurd (h refl)
other_rank Seen Seen h = absurd (h refl)
other_rank a b h = refl

-- none of these pieces stands there
abbrev pub NoneAt : Cursor → List Piece → Type 0
NoneAt at ps = AllByRecursion (λ (p : Piece). is_place at p.0 ≡ false) ps

-- no two pieces stand at one place
abbrev pub Apart : List Piece → Type 0
Apart [] = Unit {0}
Apart (p ∷ ps) = NoneAt p.0 ps × Apart ps

-- pieces of parts up to one, and behind one
abbrev pub Upto : ℕ → List Piece → Type 0
Upto r ps = AllByRecursion (λ (p : Piece). rank p.0 ≤ r) ps

abbrev pub Behind : ℕ → List Piece → Type 0
Behind r ps = AllByRecursion (λ (p : Piece). r < rank p.0) ps

pub none_behind : (at : Cursor) (r : ℕ) (ps : List Piece) → rank at ≤ r → Behind r ps → NoneAt at ps
none_behind at r [] h all = tt
none_behind at r (p ∷ ps) h all =
    (other_rank at p.0 (λ e. omega (arith, e, h, all.0)), none_behind at r ps h all.1)

pub none_before : (at : Cursor) (r : ℕ) (ps : List Piece) → r < rank at → Upto r ps → NoneAt at ps
none_before at r [] h all = tt
none_before at r (p ∷ ps) h all =
    (other_rank at p.0 (λ e. omega (arith, e, h, all.0)), none_before at r ps h all.1)

pub none_append : (at : Cursor) (ps qs : List Piece) → NoneAt at ps → NoneAt at qs
    → NoneAt at (ps ++ qs)
none_append at [] qs h g = g
none_append at (p ∷ ps) qs h g = (h.0, none_append at ps qs h.1 g)

apart_append : (r : ℕ) (ps qs : List Piece) → Upto r ps → Behind r qs → Apart ps → Apart qs
    → Apart (ps ++ qs)
apart_append r [] qs low high h g = g
apart_append r (p ∷ ps) qs low high h g = (
  none_append p.0 ps qs h.0 (none_behind p.0 r qs low.0 high),
  apart_append r ps qs low.1 high h.1 g,
)

pub upto_append : (r : ℕ) (ps qs : List Piece) → Upto r ps → Upto r qs → Upto r (ps ++ qs)
upto_append r [] qs h g = g
upto_append r (p ∷ ps) qs h g = (h.0, upto_append r ps qs h.1 g)

pub behind_append : (r : ℕ) (ps qs : List Piece) → Behind r ps → Behind r qs → Behind r (ps ++ qs)
behind_append r [] qs h g = g
behind_append r (p ∷ ps) qs h g = (h.0, behind_append r ps qs h.1 g)

-- ---- the body

not_equal : (i j : ℕ) → i < j → (i == j) ≡ false
not_equal i j h = grind (arith, h)

-- no piece of the body begins before the first
pub body_low : (i n off : ℕ) (bytes : List ℕ) → i < off → NoneAt (Body i) (body_pieces n off bytes)
unfolding body_pieces
body_low i zero off bytes h = tt
body_low i (suc n) off bytes h =
    (not_equal i off h, body_low i n (off + 65536) (drop 65536 bytes) (omega arith))

body_apart : (n off : ℕ) (bytes : List ℕ) → Apart (body_pieces n off bytes)
unfolding body_pieces
body_apart zero off bytes = tt
body_apart (suc n) off bytes = (
  body_low off n (off + 65536) (drop 65536 bytes) (omega arith),
  body_apart n (off + 65536) (drop 65536 bytes),
)

pub body_upto : (r n off : ℕ) (bytes : List ℕ) → 1 ≤ r → Upto r (body_pieces n off bytes)
unfolding body_pieces
body_upto r zero off bytes h = tt
body_upto r (suc n) off bytes h = (h, body_upto r n (off + 65536) (drop 65536 bytes) h)

pub body_behind : (n off : ℕ) (bytes : List ℕ) → Behind 0 (body_pieces n off bytes)
unfolding body_pieces
body_behind zero off bytes = tt
body_behind (suc n) off bytes = (omega arith, body_behind n (off + 65536) (drop 65536 bytes))

-- ---- the tables

-- keys of which one is below the other differ
pub keys_differ : (j k : List ℕ) → name_cmp j k ≡ Less → bytes_eq j k ≡ false
keys_differ j k h = sym (is_eq-slice_cmp j k) ∙ ap is_eq h

abbrev pub Above : List ℕ → List Entry → Type 0
Above k es = AllByRecursion (λ y. name_cmp k y ≡ Less) (map (λ e. e.0) es)

pub above_tail : (e : Entry) (es : List Entry) → Rising (e ∷ es) → Above e.0 es × Rising es
unfolding IsStrictlySortedBy
above_tail e es rise = rise

module _ (place : Option (List ℕ) → Cursor)
    (same : (j k : Option (List ℕ)) → is_place (place j) (place k) ≡ is_key j k) where
  -- the pieces behind the first group, where this key stands before the groups
  abbrev pub later_pieces : Option (List ℕ) → List (List Entry) → List Piece
  later_pieces key [] = []
  later_pieces key (g ∷ gs) = table_pieces place (last_key key g) gs

  pub later_before : (key : Option (List ℕ)) (e : Entry) (gs : List (List Entry))
      → later_pieces key (before_first e gs) ≡ later_pieces (Some e.0) gs
  unfolding table_pieces
  later_before key e [] = refl
  later_before key e (g ∷ gs) = refl

  -- what is said of the pieces behind the first group, once this key came
  pub record Spread (k : List ℕ) (ps : List Piece) : Type 0 where
    pub low : (j : List ℕ) → name_cmp j k ≡ Less → NoneAt (place (Some j)) ps
    pub none : NoneAt (place None) ps
    pub apart : Apart ps

  higher : (j k : List ℕ) (ps : List Piece) → name_cmp j k ≡ Less → Spread k ps → Spread j ps
  higher j k ps h all =
      record {
        low = λ i g. all.low i (nat_list_cmp_total.trans i j k g h);
        none = all.none;
        apart = all.apart;
      }

  one_more : (k : List ℕ) (e : Entry) (p : Part) (ps : List Piece) → name_cmp k e.0 ≡ Less
      → Spread e.0 ps → Spread k ((place (Some k), p) ∷ ps)
  one_more k e p ps above all = record {
    low = λ j h. (
      same (Some j) (Some k)
          ∙ keys_differ j k h,
      all.low j (nat_list_cmp_total.trans j k e.0 h above),
    );
    none = (same None (Some k), all.none);
    apart = (all.low k above, all.apart);
  }

  placed_before : (key : Option (List ℕ)) (e : Entry) (gs : List (List Entry))
      → (p : Part) × (table_pieces place key (before_first e gs)
      ≡ (place key, p) ∷ later_pieces (Some e.0) gs)
  unfolding table_pieces
  placed_before key e [] = (part.Pairs (map pair_of (e ∷ [])), refl)
  placed_before key e (g ∷ gs) = (part.Pairs (map pair_of (e ∷ g)), refl)

  pub spread_groups : (k : List ℕ) (room : ℕ) (es : List Entry) → Above k es → Rising es
      → Spread k (later_pieces (Some k) (groups room es))
  unfolding groups table_pieces
  spread_groups k room [] above rise = record { low = λ j h. tt; none = tt; apart = tt }
  spread_groups k room (e ∷ es) above rise =
      let tail = above_tail e es rise in
      either_way (λ (gs : List (List Entry)). Spread k (later_pieces (Some k) gs))
      (nat_le (weight e) room) (before_first e (groups (room - weight e) es))
      ([] ∷ before_first e (groups (65536 - weight e) es))
      (subst (λ (ps : List Piece). Spread k ps)
      (sym (later_before (Some k) e (groups (room - weight e) es)))
      (higher k e.0 (later_pieces (Some e.0) (groups (room - weight e) es)) above.0
      (spread_groups e.0 (room - weight e) es tail.0 tail.1)))
      (let p = placed_before (Some k) e (groups (65536 - weight e) es) in
      subst (λ (ps : List Piece). Spread k ps) (sym p.1)
      (one_more k e p.0 (later_pieces (Some e.0) (groups (65536 - weight e) es)) above.0
      (spread_groups e.0 (65536 - weight e) es tail.0 tail.1)))
    where
      either_way : {X : Type 0} (P : X → Type 0) (b : Bool) (x y : X) → P x → P y → P (cond b x y)
      either_way P true x y p q = p
      either_way P false x y p q = q

  pub table_apart : (es : List Entry) → Rising es
      → Apart (table_pieces place None (table_groups es))
  unfolding table_pieces table_groups
  table_apart [] rise = tt
  table_apart (e ∷ es) rise =
      let tail = above_tail e es rise in
      let p = placed_before None e (groups (65536 - weight e) es) in
      let all = spread_groups e.0 (65536 - weight e) es tail.0 tail.1 in
      subst Apart (sym p.1) (all.none, all.apart)

  pub table_rank : (r : ℕ) (key : Option (List ℕ)) (gs : List (List Entry))
      → ((k : Option (List ℕ)) → rank (place k) ≡ r) → Upto r (table_pieces place key gs)
  unfolding table_pieces
  table_rank r key [] h = tt
  table_rank r key (g ∷ gs) h = (omega (arith, h key), table_rank r (last_key key g) gs h)

  pub table_behind : (r : ℕ) (key : Option (List ℕ)) (gs : List (List Entry))
      → ((k : Option (List ℕ)) → r < rank (place k)) → Behind r (table_pieces place key gs)
  unfolding table_pieces
  table_behind r key [] h = tt
  table_behind r key (g ∷ gs) h = (h key, table_behind r (last_key key g) gs h)

-- ---- the whole

pub object_apart : (obj : Option Obj)
    → Apart (object_pieces obj) × Behind 0 (object_pieces obj) × Upto 3 (object_pieces obj)
unfolding object_pieces
object_apart None = (tt, tt, tt)
object_apart (Some o) =
    let body = body_pieces (pieces_in (length o.body)) 0 o.body in
    let attrs = table_pieces Attrs None (table_groups (fin.entries o.attrs)) in
    let omap = table_pieces Omap None (table_groups (fin.entries o.omap)) in
    let same_attrs : (j k : Option (List ℕ)) → is_place (Attrs j) (Attrs k) ≡ is_key j k =
    λ j k. refl in
    let same_omap : (j k : Option (List ℕ)) → is_place (Omap j) (Omap k) ≡ is_key j k =
    λ j k. refl in
    let attrs_two : Upto 2 attrs =
    table_rank Attrs same_attrs 2 None (table_groups (fin.entries o.attrs)) (λ k. refl) in
    let omap_three : Upto 3 omap =
    table_rank Omap same_omap 3 None (table_groups (fin.entries o.omap)) (λ k. refl) in
    let omap_behind : Behind 2 omap =
    table_behind Omap same_omap 2 None (table_groups (fin.entries o.omap)) (λ k. omega arith) in
    let one : Behind 1 (attrs ++ omap) =
    behind_append 1 attrs omap (table_behind Attrs same_attrs 1 None
    (table_groups (fin.entries o.attrs)) (λ k. omega arith))
    (table_behind Omap same_omap 1 None (table_groups (fin.entries o.omap))
    (λ k. omega arith)) in
    let tables : Apart (attrs ++ omap) =
    apart_append 2 attrs omap attrs_two omap_behind
    (table_apart Attrs same_attrs (fin.entries o.attrs) (entries_rise o.attrs))
    (table_apart Omap same_omap (fin.entries o.omap) (entries_rise o.omap)) in (
      apart_append 1 body (attrs ++ omap)
          (body_upto 1 (pieces_in (length o.body)) 0 o.body (omega arith)) one
          (body_apart (pieces_in (length o.body)) 0 o.body) tables,
      behind_append 0 body (attrs ++ omap) (body_behind (pieces_in (length o.body)) 0 o.body)
          (behind_append 0 attrs omap (table_behind Attrs same_attrs 0 None
          (table_groups (fin.entries o.attrs)) (λ k. omega arith))
          (table_behind Omap same_omap 0 None (table_groups (fin.entries o.omap))
          (λ k. omega arith))),
      upto_append 3 body (attrs ++ omap)
          (body_upto 3 (pieces_in (length o.body)) 0 o.body (omega arith))
          (upto_append 3 attrs omap (table_upto attrs attrs_two) omap_three),
    )
  where
    table_upto : (ps : List Piece) → Upto 2 ps → Upto 3 ps
    table_upto [] h = tt
    table_upto (p ∷ ps) h = (omega (arith, h.0), table_upto ps h.1)

-- the pieces of a state stand apart
pub pieces_apart : (s : NameState) → Apart (pieces_of s)
unfolding pieces_of
pieces_apart s =
    let o = object_apart s.obj in
    let last : List Piece = (Seen, part.Seen s.seen) ∷ [] in (
      none_behind Head 0 (object_pieces s.obj ++ last) (omega arith)
          (behind_append 0 (object_pieces s.obj) last o.1 (omega arith, tt)),
      apart_append 3 (object_pieces s.obj) last o.2 (omega arith, tt) o.0 (tt, tt),
    )
