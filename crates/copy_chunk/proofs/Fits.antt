-- The chunks of a lawful state fit one behind the other.
use Rattle.std.proofs.Common.{◌≡◌, ◌≤◌, ◌<◌, ◌+◌, ◌-◌, ◌^◌, ℕ, zero, suc, Bool, true, false}
use Rattle.std.proofs.Common.{cond, ◌&&◌, List, [], ◌∷◌, ◌++◌, map, length, take, drop, Option}
use Rattle.std.proofs.Common.{Some, None, refl, sym, ap, subst, ◌∙◌, append_assoc, arith}
use Rattle.std.proofs.Common.{length-append, le-leb, lt-ltb}
use Rattle.std.specs.Prelude.{nat_le, nat_lt, is_some}
use Rattle.std.specs.List.{AllByRecursion, flat_map}
use Rattle.std.specs.List.Sorted.{IsStrictlySortedBy}
use Rattle.std.specs.Ordering.{nat_cmp, is_lt}
use Rattle.std.specs.declared.cmp.Ordering.TheVariants.{Less}
use Rattle.std.proofs.lemmas.Cmp.{ranked}
use Rattle.std.proofs.lemmas.List.{take-append-drop, length-drop, length-map}
use Rattle.std.proofs.lemmas.List.Concat.{flat_map-cons}
use Rattle.std.proofs.lemmas.List.Elements.{recursion_from_All}
use Rattle.std.specs.FinMap as fin
use Rattle.std.specs.FinMap.{len-entries}
use Rattle.obj_model.specs.Names.{name_cmp}
use Rattle.obj_model.specs.States.{unknown, IsReply, IsKept, IsTable, IsObj, IsObjOrNone, IsState}
use Rattle.obj_model.specs.declared.reply.Kept.{Kept}
use Rattle.obj_model.specs.declared.reply.Reply.{Reply}
use Rattle.obj_model.specs.declared.reply.Reply.TheVariants.{Done, Refused}
use Rattle.obj_model.specs.declared.out.Pair.{Pair}
use Rattle.obj_model.specs.declared.state.Obj.{Obj}
use Rattle.obj_model.specs.declared.state.NameState.{NameState}
use Rattle.obj_model.proofs.NameMaps.{kept_entries}
use Rattle.copy_chunk.specs.declared.chunk.Chunk.{Chunk}
use Rattle.copy_chunk.specs.declared.chunk.Cursor.{Cursor}
use Rattle.copy_chunk.specs.declared.chunk.Cursor.TheVariants.{Head, Attrs, Omap, Seen}
use Rattle.copy_chunk.specs.declared.chunk.Part.TheVariants as part
use Rattle.copy_chunk.specs.Chunks.{Entry, Piece, pair_of, pieces_in, body_pieces, weight}
use Rattle.copy_chunk.specs.Chunks.{before_first, groups, table_groups, last_key, table_pieces}
use Rattle.copy_chunk.specs.Chunks.{object_pieces, pieces_of, first_place, linked, chunks_of}
use Rattle.copy_chunk.specs.Chunks.{chunk_at}
use Rattle.copy_chunk.specs.Gathers.{with_part, made_from, made, wanted, IsFront, entries_with}
use Rattle.copy_chunk.specs.Gathers.{leads, goes_behind, pairs_fit, table_fits, reply_fits}
use Rattle.copy_chunk.specs.Gathers.{kept_fits, kepts_fit, part_fits, chunk_fits, fits}
use Rattle.copy_chunk.proofs.Tables.{Table, Rising, entries_rise, front_rises}
use Rattle.copy_chunk.proofs.Places.{rank, Upto, Behind, Above, above_tail, object_apart}
use Rattle.copy_chunk.proofs.Joins.{made_pieces, more_entries, flat_table}
use Rattle.copy_chunk.proofs.Joins.{with_parts, body_comes, attrs_come}
use Rattle.copy_chunk.proofs.Lawful.{Short, Clients}
use Rattle.copy_chunk.proofs.Fronts.{front_more}

-- ---- what may follow a place

leads_on : (at next : Cursor) → rank at ≤ 3 → 0 < rank next → leads at (Some next) ≡ true
leads_on Seen next low high = absurd (omega (arith, low))
leads_on at Head low high = absurd (omega (arith, high))
leads_on at next low high = refl

-- each piece may lead to the one behind it
abbrev LeadOn : Option Cursor → List Piece → Type 0
LeadOn end [] = Unit {0}
LeadOn end (p ∷ ps) = (leads p.0 (first_place end ps) ≡ true) × LeadOn end ps

middle_leads : (ks : List Kept) (ps : List Piece) → Upto 3 ps → Behind 0 ps
    → LeadOn None (ps ++ (Seen, part.Seen ks) ∷ [])
middle_leads ks [] low high = (refl, tt)
middle_leads ks (p ∷ []) low high = (leads_on p.0 Seen low.0 (omega arith), (refl, tt))
middle_leads ks (p ∷ q ∷ ps) low high =
    (leads_on p.0 q.0 low.0 high.1.0, middle_leads ks (q ∷ ps) low.1 high.1)

head_leads : (ks : List Kept) (ps : List Piece) → Behind 0 ps
    → leads Head (first_place None (ps ++ (Seen, part.Seen ks) ∷ [])) ≡ true
head_leads ks [] high = refl
head_leads ks (p ∷ ps) high = leads_on Head p.0 (omega arith) high.0

all_lead : (s : NameState) → LeadOn None (pieces_of s)
unfolding pieces_of
all_lead s =
    let o = object_apart s.obj in
    (head_leads s.seen (object_pieces s.obj) o.1, middle_leads s.seen (object_pieces s.obj) o.2 o.1)

-- ---- pieces that fit

-- each piece fits behind what those before it have made
abbrev FitOn : NameState → List Piece → Type 0
FitOn s [] = Unit {0}
FitOn s (p ∷ ps) = (part_fits s p.0 p.1 ≡ true) × FitOn (with_part s p.0 p.1) ps

fit_append : (s : NameState) (ps qs : List Piece) → FitOn s ps → FitOn (made_pieces s ps) qs
    → FitOn s (ps ++ qs)
fit_append s [] qs h g = g
fit_append s (p ∷ ps) qs h g = (h.0, fit_append (with_part s p.0 p.1) ps qs h.1 g)

both : (a b : Bool) → a ≡ true → b ≡ true → (a && b) ≡ true
both true b e f = f
both false b e f = absurd cc

-- ---- the pairs of a table

key_behind : (j k : List ℕ) → name_cmp j k ≡ Less → goes_behind (Some j) k ≡ true
key_behind j k h = ap is_lt h

pairs_behind : (key : List ℕ) (es : List Entry) → Above key es → Rising es → Short es
    → pairs_fit (Some key) (map pair_of es) ≡ true
pairs_behind key [] above rise short = refl
pairs_behind key (e ∷ es) above rise short =
    let tail = above_tail e es rise in
    both (goes_behind (Some key) e.0 && nat_le (length e.1) 4096)
    (pairs_fit (Some e.0) (map pair_of es))
    (both (goes_behind (Some key) e.0) (nat_le (length e.1) 4096) (key_behind key e.0 above.0)
    (le-leb _ _ short.0))
    (pairs_behind e.0 es tail.0 tail.1 short.1)

first_behind : (es : List Entry) → Rising es → Short es → pairs_fit None (map pair_of es) ≡ true
first_behind [] rise short = refl
first_behind (e ∷ es) rise short =
    let tail = above_tail e es rise in
    both (nat_le (length e.1) 4096) (pairs_fit (Some e.0) (map pair_of es)) (le-leb _ _ short.0)
    (pairs_behind e.0 es tail.0 tail.1 short.1)

above_end : (xs ys : List Entry) (key : List ℕ) → Above key (xs ++ ys) → Above key ys
above_end [] ys key h = h
above_end (x ∷ xs) ys key h = above_end xs ys key h.1

later_behind : (key : List ℕ) (done es : List Entry) → Above key es → Rising (done ++ es) → Short es
    → pairs_fit (last_key (Some key) done) (map pair_of es) ≡ true
later_behind key [] es above rise short = pairs_behind key es above rise short
later_behind key (d ∷ done) es above rise short =
    let tail = above_tail d (done ++ es) rise in
    later_behind d.0 done es (above_end done es d.0 tail.0) tail.1 short

-- entries that rise behind others go on from them
entries_behind : (done es : List Entry) → Rising (done ++ es) → Short es
    → pairs_fit (last_key None done) (map pair_of es) ≡ true
entries_behind [] es rise short = first_behind es rise short
entries_behind (d ∷ done) es rise short =
    let tail = above_tail d (done ++ es) rise in
    later_behind d.0 done es (above_end done es d.0 tail.0) tail.1 short

-- there is at least one
abbrev Full : List Entry → Type 0
Full es = 0 < length es

group_fits : (most : ℕ) (done es : List Entry) → Rising (done ++ es) → Short es → Full es
    → length done + length es ≤ most → table_fits most done (map pair_of es) ≡ true
group_fits most done es rise short full few =
    let count = length-map es pair_of in
    both (nat_lt 0 (length (map pair_of es)) && nat_le (length done + length (map pair_of es)) most)
    (pairs_fit (last_key None done) (map pair_of es))
    (both (nat_lt 0 (length (map pair_of es))) (nat_le (length done + length (map pair_of es)) most)
    (lt-ltb _ _ (omega (arith, count, full))) (le-leb _ _ (omega (arith, count, few))))
    (entries_behind done es rise short)

-- ---- the groups of a table

abbrev Behinds : List (List Entry) → Type 0
Behinds [] = Unit {0}
Behinds (g ∷ gs) = AllByRecursion Full gs

full_before : (e : Entry) (gs : List (List Entry)) → Behinds gs
    → AllByRecursion Full (before_first e gs)
full_before e [] h = (omega arith, tt)
full_before e (g ∷ gs) h = (omega arith, h)

full_behind : (e : Entry) (gs : List (List Entry)) → Behinds gs → Behinds (before_first e gs)
full_behind e [] h = tt
full_behind e (g ∷ gs) h = h

either_way : {X : Type 0} (P : X → Type 0) (b : Bool) (x y : X) → P x → P y → P (cond b x y)
either_way P true x y p q = p
either_way P false x y p q = q

groups_full : (room : ℕ) (es : List Entry) → Behinds (groups room es)
unfolding groups
groups_full room [] = tt
groups_full room (e ∷ es) =
    either_way Behinds (nat_le (weight e) room) (before_first e (groups (room - weight e) es))
    ([] ∷ before_first e (groups (65536 - weight e) es))
    (full_behind e (groups (room - weight e) es) (groups_full (room - weight e) es))
    (full_before e (groups (65536 - weight e) es) (groups_full (65536 - weight e) es))

table_full : (es : List Entry) → AllByRecursion Full (table_groups es)
unfolding table_groups
table_full [] = tt
table_full (e ∷ es) =
    full_before e (groups (65536 - weight e) es) (groups_full (65536 - weight e) es)

short_front : (xs ys : List Entry) → Short (xs ++ ys) → Short xs
short_front [] ys h = tt
short_front (x ∷ xs) ys h = (h.0, short_front xs ys h.1)

short_end : (xs ys : List Entry) → Short (xs ++ ys) → Short ys
short_end [] ys h = h
short_end (x ∷ xs) ys h = short_end xs ys h.1

abbrev flat : List (List Entry) → List Entry
flat gs = flat_map (λ g. g) gs

-- pairs of one kind, which go to one table of a state
module _ (place : Option (List ℕ) → Cursor) (most : ℕ) (with_table : Table → NameState)
    (test : (t : Table) (key : Option (List ℕ)) (ps : List Pair)
    → part_fits (with_table t) (place key) (part.Pairs ps) ≡ table_fits most (fin.entries t) ps)
    (grow : (t : Table) (key : Option (List ℕ)) (ps : List Pair)
    → with_part (with_table t) (place key) (part.Pairs ps)
    ≡ with_table (fin.from_entries (entries_with t ps))) where
  groups_fit : (key : Option (List ℕ)) (done : List Entry) (gs : List (List Entry))
      → Rising (done ++ flat gs)
      → Short (flat gs) → length done + length (flat gs) ≤ most → AllByRecursion Full gs
      → FitOn (with_table (fin.from_entries done)) (table_pieces place key gs)
  unfolding table_pieces
  groups_fit key done [] rise short few full = tt
  groups_fit key done (g ∷ gs) rise short few full =
      let one : flat (g ∷ gs) ≡ g ++ flat gs = flat_map-cons (λ g. g) g gs in
      let whole : done ++ flat (g ∷ gs) ≡ (done ++ g) ++ flat gs =
      ap (λ (es : List Entry). done ++ es) one ∙ sym (append_assoc done g (flat gs)) in
      let rising : Rising ((done ++ g) ++ flat gs) = subst Rising whole rise in
      let front : Rising (done ++ g) = front_rises (done ++ g) (flat gs) rising in
      let held : Short (g ++ flat gs) = subst Short one short in
      let count : length (flat (g ∷ gs)) ≡ length g + length (flat gs) =
      ap length one ∙ length-append g (flat gs) in
      let there : fin.entries (fin.from_entries {R = name_cmp} done) ≡ done =
      kept_entries done (front_rises done g front) in
      let next : with_part (with_table (fin.from_entries done)) (place key)
      (part.Pairs (map pair_of g))
      ≡ with_table (fin.from_entries (done ++ g)) =
      grow (fin.from_entries done) key (map pair_of g)
      ∙ ap (λ (es : List Entry). with_table (fin.from_entries es))
      (more_entries done g (flat gs) rising) in (
        test (fin.from_entries done) key (map pair_of g)
            ∙ ap (λ (es : List Entry). table_fits most es (map pair_of g)) there
            ∙ group_fits most done g front (short_front g (flat gs) held) full.0
            (omega (arith, count, few)),
        subst (λ (s : NameState). FitOn s (table_pieces place (last_key key g) gs)) (sym next)
            (groups_fit (last_key key g) (done ++ g) gs rising (short_end g (flat gs) held)
            (omega (arith, count, few, length-append done g)) full.1),
      )

  table_fit : (t : Table) → IsTable most t
      → FitOn (with_table fin.empty) (table_pieces place None (table_groups (fin.entries t)))
  table_fit t lawful =
      let all : flat (table_groups (fin.entries t)) ≡ fin.entries t = flat_table (fin.entries t) in
      groups_fit None [] (table_groups (fin.entries t)) (subst Rising (sym all) (entries_rise t))
      (subst Short (sym all) (recursion_from_All (λ v. length v ≤ 4096)
      (map (λ e. e.1) (fin.entries t)) lawful.short))
      (omega (arith, ap length all, len-entries t, lawful.few)) (table_full (fin.entries t))

-- ---- the kept requests

reply_is_lawful : (r : Reply) → IsReply r → reply_fits r ≡ true
reply_is_lawful (Done ver) h = refl
reply_is_lawful (Refused at why ver) h = lt-ltb at 16 h

kept_is_lawful : (k : Kept) → IsKept k → kept_fits k ≡ true
kept_is_lawful k h =
    both (nat_le k.client 256 && nat_le k.tid (2 ^ 62)) (reply_fits k.reply)
    (both (nat_le k.client 256) (nat_le k.tid (2 ^ 62)) (le-leb _ _ h.client_high)
    (le-leb _ _ h.tid_high))
    (reply_is_lawful k.reply h.reply_lawful)

above_number : (i j : ℕ) → nat_cmp i j ≡ Less → i < j
above_number i j h = ranked i j Less (sym h)

kepts_rise : (last : ℕ) (ks : List Kept) → AllByRecursion (λ y. last < y) (Clients ks)
    → AllByRecursion IsKept ks → IsStrictlySortedBy nat_cmp (Clients ks) → kepts_fit last ks ≡ true
unfolding IsStrictlySortedBy
kepts_rise last [] above all rise = refl
kepts_rise last (k ∷ ks) above all rise =
    both (nat_lt last k.client && kept_fits k) (kepts_fit k.client ks)
    (both (nat_lt last k.client) (kept_fits k) (lt-ltb _ _ above.0) (kept_is_lawful k all.0))
    (kepts_rise k.client ks (numbers k.client (Clients ks) rise.0) all.1 rise.1)
  where
    numbers : (i : ℕ) (ys : List ℕ) → AllByRecursion (λ y. nat_cmp i y ≡ Less) ys
        → AllByRecursion (λ y. i < y) ys
    numbers i [] h = tt
    numbers i (y ∷ ys) h = (above_number i y h.0, numbers i ys h.1)

clients_rise : (ks : List Kept) → AllByRecursion IsKept ks
    → AllByRecursion (λ y. 0 < y) (Clients ks)
clients_rise [] h = tt
clients_rise (k ∷ ks) h = (omega (arith, h.0.client_low), clients_rise ks h.1)

-- ---- the whole

module _ (ver seq : ℕ) (seen : List Kept) where
  body_fit : (attrs omap : Table) (n off : ℕ) (done bytes : List ℕ) → n ≡ pieces_in (length bytes)
      → length done + length bytes ≤ 1048576
      → FitOn (with_parts ver seq seen done attrs omap) (body_pieces n off bytes)
  unfolding body_pieces pieces_in
  body_fit attrs omap zero off done bytes e few = tt
  body_fit attrs omap (suc n) off done bytes e few =
      let cut = length-append (take 65536 bytes) (drop 65536 bytes) in
      let all = ap length (take-append-drop 65536 bytes) in
      let left = length-drop 65536 bytes in (
        both (nat_lt 0 (length (take 65536 bytes)))
            (nat_le (length done + length (take 65536 bytes)) 1048576)
            (lt-ltb _ _ (omega (arith, cut, all, left, e)))
            (le-leb _ _ (omega (arith, cut, all, few))),
        body_fit attrs omap n (off + 65536) (done ++ take 65536 bytes) (drop 65536 bytes)
            (omega (arith, left, e)) (omega
            (arith, cut, all, few, length-append done (take 65536 bytes))),
      )

  object_fit : (o : Obj) → IsObj o
      → FitOn (with_parts ver seq seen [] fin.empty fin.empty) (object_pieces (Some o))
  unfolding object_pieces
  object_fit o lawful =
      let body = body_pieces (pieces_in (length o.body)) 0 o.body in
      let attrs = table_pieces Attrs None (table_groups (fin.entries o.attrs)) in
      let omap = table_pieces Omap None (table_groups (fin.entries o.omap)) in
      fit_append (with_parts ver seq seen [] fin.empty fin.empty) body (attrs ++ omap)
      (body_fit fin.empty fin.empty (pieces_in (length o.body)) 0 [] o.body refl
      (omega (arith, lawful.body_short)))
      (subst (λ (s : NameState). FitOn s (attrs ++ omap)) (sym (body_comes ver seq seen o))
      (fit_append (with_parts ver seq seen o.body fin.empty fin.empty) attrs omap
      (table_fit Attrs 64 (λ t. with_parts ver seq seen o.body t fin.empty) (λ t key ps. refl)
      (λ t key ps. refl)
      o.attrs lawful.attrs_lawful)
      (subst (λ (s : NameState). FitOn s omap) (sym (attrs_come ver seq seen o))
      (table_fit Omap 1024 (λ t. with_parts ver seq seen o.body o.attrs t) (λ t key ps. refl)
      (λ t key ps. refl)
      o.omap lawful.omap_lawful))))

-- the pieces of a lawful state fit one behind the other
all_fit : (s : NameState) → IsState s → FitOn unknown (pieces_of s)
unfolding pieces_of object_pieces
all_fit s lawful =
    let kept = recursion_from_All IsKept s.seen lawful.each_kept in
    let seen = kepts_rise 0 s.seen (clients_rise s.seen kept) kept lawful.rising in
    let head =
    both (nat_le s.ver s.seq) (nat_le s.seq (2 ^ 62)) (le-leb _ _ lawful.counted.accepted)
    (le-leb _ _ lawful.counted.acted) in
    (head, rest s.ver s.seq s.seen s.obj lawful.object seen)
  where
    rest : (ver seq : ℕ) (ks : List Kept) (obj : Option Obj) → IsObjOrNone obj
        → kepts_fit 0 ks ≡ true
        → FitOn (with_part unknown Head (part.Head ver seq (is_some obj)))
        (object_pieces obj ++ (Seen, part.Seen ks) ∷ [])
    rest ver seq ks None lawful seen = (seen, tt)
    rest ver seq ks (Some o) lawful seen =
        fit_append (with_part unknown Head (part.Head ver seq true)) (object_pieces (Some o))
        ((Seen, part.Seen ks) ∷ [])
        (object_fit ver seq [] o lawful) (seen, tt)

-- ---- chunks

next_fits : (s : NameState) (end : Option Cursor) (ps : List Piece) (cs behind : List Chunk)
    (c : Chunk)
    → FitOn s ps → LeadOn end ps → linked end ps ≡ cs ++ c ∷ behind
    → chunk_fits (made_from s cs) c ≡ true
next_fits s end [] [] behind c fit lead whole = absurd cc
next_fits s end [] (d ∷ cs) behind c fit lead whole = absurd cc
next_fits s end (p ∷ ps) [] behind c fit lead whole =
    let first : record { at = p.0; part = p.1; next = first_place end ps } ≡ c = cc in
    subst (λ (d : Chunk). chunk_fits s d ≡ true) first
    (both (leads p.0 (first_place end ps)) (part_fits s p.0 p.1) lead.0 fit.0)
next_fits s end (p ∷ ps) (d ∷ cs) behind c fit lead whole =
    let first : record { at = p.0; part = p.1; next = first_place end ps } ≡ d = cc in
    let rest : linked end ps ≡ cs ++ c ∷ behind = cc in
    subst (λ (d : Chunk). chunk_fits (made_from (with_part s d.at d.part) cs) c ≡ true) first
    (next_fits (with_part s p.0 p.1) end ps cs behind c fit.1 lead.1 rest)

-- behind the first chunks of a lawful state its next chunk fits
pub own_chunk_fits : (s : NameState) (cs : List Chunk) (c : Chunk) → IsState s
    → IsFront (cs ++ c ∷ []) (chunks_of s)
    → fits cs c ≡ true
unfolding chunks_of fits made
own_chunk_fits s cs c lawful front =
    next_fits unknown None (pieces_of s) cs front.behind c (all_fit s lawful) (all_lead s)
    (front.whole ∙ append_assoc cs (c ∷ []) front.behind)

-- so does the chunk at the place that is wanted
pub wanted_chunk_fits : (s : NameState) (cs : List Chunk) (c : Chunk) (at : Cursor) → IsState s
    → IsFront cs (chunks_of s) → wanted cs ≡ Some at → chunk_at (chunks_of s) at ≡ Some c
    → fits cs c ≡ true
wanted_chunk_fits s cs c at lawful front e there =
    own_chunk_fits s cs c lawful (front_more cs s at c front e there)
