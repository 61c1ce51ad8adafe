-- The chunk at a place of a table is the group that begins there.
use Rattle.std.proofs.Common.{◌≡◌, ◌-◌, ℕ, Bool, true, false, cond, not, List, [], ◌∷◌, map, Option}
use Rattle.std.proofs.Common.{Some, None, refl, sym, ap, subst, ◌∙◌, arith}
use Rattle.std.specs.Prelude.{nat_le, nat_lt, bytes_eq, if◌then◌else◌}
use Rattle.std.specs.List.{filter}
use Rattle.std.proofs.lemmas.Slice.Eq.{bytes_eq-Decides}
use Rattle.std.proofs.lemmas.Map.Text.{is_eq-slice_cmp}
use Rattle.std.specs.Ordering.{is_lt, is_eq}
use Rattle.std.specs.declared.cmp.Ordering.{Ordering}
use Rattle.std.specs.declared.cmp.Ordering.TheVariants.{Less, Equal, Greater}
use Rattle.std.specs.Cmp.Lexicographic.{nat_list_eq_equiv}
use Rattle.std.specs.FinMap as fin
use Rattle.obj_model.specs.Names.{name_cmp}
use Rattle.obj_model.specs.Tables.{Table, is_above}
use Rattle.copy_chunk.specs.declared.chunk.Cursor.{Cursor}
use Rattle.copy_chunk.specs.declared.chunk.Part.TheVariants as part
use Rattle.copy_chunk.specs.declared.groups.Group.{Group}
use Rattle.copy_chunk.specs.Chunks.{Entry, Piece, pair_of, weight, before_first, groups}
use Rattle.copy_chunk.specs.Chunks.{table_groups, last_key, table_pieces, is_key, is_place}
use Rattle.copy_chunk.specs.Cuts.{room_left, room_behind, group_of, first_group, begins}
use Rattle.copy_chunk.specs.Cuts.{begins_behind, group_at, table_chunk}
use Rattle.copy_chunk.proofs.Tables.{Rising, entries_rise}
use Rattle.copy_chunk.proofs.Places.{Above, above_tail, keys_differ, later_pieces, later_before}
use Rattle.copy_chunk.proofs.Places.{spread_groups}
use Rattle.copy_chunk.proofs.Keys.{raise}
use Rattle.copy_chunk.proofs.Cutting.{found, found_hit, found_miss, none_found, by_bool}

clash : (A : Type 0) → true ≡ false → A
clash A h = absurd cc

-- ---- the entries behind a key

abbrev pub above : List ℕ → List Entry → List Entry
above k es = filter (λ (e : Entry). is_above (Some k) e.0) es

keep_all : (es : List Entry) → filter (λ (e : Entry). is_above None e.0) es ≡ es
keep_all [] = refl
keep_all (e ∷ es) = ap (λ (l : List Entry). e ∷ l) (keep_all es)

kept : (k : List ℕ) (e : Entry) (es : List Entry) (r : Ordering) → name_cmp k e.0 ≡ r
    → above k (e ∷ es) ≡ cond (is_lt r) (e ∷ above k es) (above k es)
kept k e es r h = ap (λ (r : Ordering). cond (is_lt r) (e ∷ above k es) (above k es)) h

keep_above : (k : List ℕ) (es : List Entry) → Above k es → above k es ≡ es
keep_above k [] h = refl
keep_above k (e ∷ es) h =
    kept k e es Less h.0 ∙ ap (λ (l : List Entry). e ∷ l) (keep_above k es h.1)

same_order : (r : Ordering) → is_eq r ≡ true → r ≡ Equal
same_order Less h = absurd cc
same_order Equal h = refl
same_order Greater h = absurd cc

behind_itself : (e : Entry) (es : List Entry) → Rising (e ∷ es) → above e.0 (e ∷ es) ≡ es
behind_itself e es rise =
    kept e.0 e es Equal (same_order (name_cmp e.0 e.0)
    (is_eq-slice_cmp e.0 e.0 ∙ nat_list_eq_equiv.refl e.0))
    ∙ keep_above e.0 es (above_tail e es rise).0

-- what begins behind a key
abbrev pub there : List ℕ → ℕ → List Entry → Option Group
there k room es =
    if begins_behind (room_behind room es k) (above k es) then first_group (above k es) else None

-- what begins here
abbrev pub here : ℕ → List Entry → Option Group
here room es = if begins room es then first_group es else None

absent : (k : List ℕ) (room : ℕ) (es : List Entry) → Above k es → room_behind room es k ≡ None
absent k room [] h = refl
absent k room (e ∷ es) h =
    ap (λ (b : Bool). cond b (Some (room_left room e)) (room_behind (room_left room e) es k))
    (nat_list_eq_equiv.symm e.0 k ∙ keys_differ k e.0 h.0)
    ∙ absent k (room_left room e) es h.1

nothing_behind : (k : List ℕ) (o : Option ℕ) (es : List Entry) → o ≡ None
    → (if begins_behind o es then first_group es else None) ≡ None
nothing_behind k None es e = refl
nothing_behind k (Some n) es e = absurd cc

same_there : (o p : Option ℕ) (es fs : List Entry) → o ≡ p → es ≡ fs
    → (if begins_behind o es then first_group es else None)
    ≡ (if begins_behind p fs then first_group fs else None)
same_there o p es fs e f =
    ap (λ (q : Option ℕ). if begins_behind q es then first_group es else None) e
    ∙ ap (λ (l : List Entry). if begins_behind p l then first_group l else None) f

passed : (k : List ℕ) (room : ℕ) (e : Entry) (es : List Entry) (b : Bool) → bytes_eq e.0 k ≡ b
    → room_behind room (e ∷ es) k
    ≡ cond b (Some (room_left room e)) (room_behind (room_left room e) es k)
passed k room e es b h =
    ap (λ (b : Bool). cond b (Some (room_left room e)) (room_behind (room_left room e) es k)) h

-- one entry on
there_step : (k : List ℕ) (room : ℕ) (e : Entry) (es : List Entry) → Rising (e ∷ es)
    → there k room (e ∷ es) ≡ cond (bytes_eq e.0 k) (here (room_left room e) es)
    (there k (room_left room e) es)
there_step k room e es rise =
    by_bool (λ (b : Bool). there k room (e ∷ es)
    ≡ cond b (here (room_left room e) es) (there k (room_left room e) es))
    (bytes_eq e.0 k) at_it other
  where
    at_it : bytes_eq e.0 k ≡ true → there k room (e ∷ es) ≡ here (room_left room e) es
    at_it h =
        let same : e.0 ≡ k = (bytes_eq-Decides e.0 k).0 h in
        same_there (room_behind room (e ∷ es) k) (Some (room_left room e)) (above k (e ∷ es)) es
        (passed k room e es true h)
        (ap (λ (k : List ℕ). above k (e ∷ es)) (sym same) ∙ behind_itself e es rise)

    by_order : (r : Ordering) → name_cmp k e.0 ≡ r → bytes_eq e.0 k ≡ false
        → there k room (e ∷ es) ≡ there k (room_left room e) es
    by_order Less o h =
        let up = raise k e.0 es o (above_tail e es rise).0 in
        nothing_behind k (room_behind room (e ∷ es) k) (above k (e ∷ es))
        (passed k room e es false h ∙ absent k (room_left room e) es up)
        ∙ sym (nothing_behind k (room_behind (room_left room e) es k) (above k es)
        (absent k (room_left room e) es up))
    by_order Equal o h =
        clash (there k room (e ∷ es) ≡ there k (room_left room e) es)
        (sym (ap is_eq o) ∙ is_eq-slice_cmp k e.0 ∙ nat_list_eq_equiv.symm k e.0 ∙ h)
    by_order Greater o h =
        same_there (room_behind room (e ∷ es) k) (room_behind (room_left room e) es k)
        (above k (e ∷ es)) (above k es) (passed k room e es false h) (kept k e es Greater o)

    other : bytes_eq e.0 k ≡ false → there k room (e ∷ es) ≡ there k (room_left room e) es
    other h = by_order (name_cmp k e.0) refl h

-- ---- the chunks of a table

last_some : (k : List ℕ) (g : List Entry) → (j : List ℕ) × (last_key (Some k) g ≡ Some j)
last_some k [] = (k, refl)
last_some k (e ∷ g) = last_some e.0 g

not_less : (w room : ℕ) (b : Bool) → nat_le w room ≡ b → nat_lt room w ≡ not b
not_less w room true h = grind (arith, h)
not_less w room false h = grind (arith, h)

-- the group at a place among entries
abbrev group_in : List Entry → Option (List ℕ) → Option Group
group_in es None = first_group (filter (λ (e : Entry). is_above None e.0) es)
group_in es (Some k) = there k 65536 es

in_table : (t : Table) (key : Option (List ℕ)) → group_in (fin.entries t) key ≡ group_at t key
in_table t None = refl
in_table t (Some k) = refl

module _ (place : Option (List ℕ) → Cursor)
    (same : (j k : Option (List ℕ)) → is_place (place j) (place k) ≡ is_key j k)
    (end : Cursor) where
  itself : (key : Option (List ℕ)) → is_place (place key) (place key) ≡ true
  itself None = same None None
  itself (Some k) = same (Some k) (Some k) ∙ nat_list_eq_equiv.refl k

  next_is : (k : Option (List ℕ)) (j : List ℕ) → k ≡ Some j
      → Some (place k) ≡ Some (elim k [ None ↦ end | Some last ↦ place (Some last) ])
  next_is None j h = absurd cc
  next_is (Some k) j h = refl

  -- the chunk of the first group is at its place
  first_chunk : (key : Option (List ℕ)) (e : Entry) (gs : List (List Entry))
      → found (place key) (Some end) (table_pieces place key (before_first e gs))
      ≡ table_chunk place end key (Some (group_of (before_first e gs)))
  unfolding table_pieces
  first_chunk key e [] =
      found_hit (place key) (Some end) (place key, part.Pairs (map pair_of (e ∷ []))) []
      (itself key)
  first_chunk key e (g ∷ []) =
      found_hit (place key) (Some end) (place key, part.Pairs (map pair_of (e ∷ g))) [] (itself key)
  first_chunk key e (g ∷ h ∷ gs) =
      found_hit (place key) (Some end) (place key, part.Pairs (map pair_of (e ∷ g)))
      (table_pieces place (last_key (Some e.0) g) (h ∷ gs)) (itself key)
      ∙ ap (λ (n : Option Cursor). Some
      (record { at = place key; part = part.Pairs (map pair_of (e ∷ g)); next = n }))
      (next_is (last_key (Some e.0) g) (last_some e.0 g).0 (last_some e.0 g).1)

  missed : (j k : List ℕ) (e : Entry) (gs : List (List Entry)) → bytes_eq k j ≡ false
      → found (place (Some k)) (Some end) (table_pieces place (Some j) (before_first e gs))
      ≡ found (place (Some k)) (Some end) (later_pieces place same (Some e.0) gs)
  unfolding table_pieces
  missed j k e [] h =
      found_miss (place (Some k)) (Some end) (place (Some j), part.Pairs (map pair_of (e ∷ []))) []
      (same (Some k) (Some j) ∙ h)
  missed j k e (g ∷ gs) h =
      found_miss (place (Some k)) (Some end) (place (Some j), part.Pairs (map pair_of (e ∷ g)))
      (table_pieces place (last_key (Some e.0) g) gs) (same (Some k) (Some j) ∙ h)

  new_group : (j : List ℕ) (e : Entry) (gs : List (List Entry))
      → later_pieces place same (Some j) ([] ∷ before_first e gs)
      ≡ table_pieces place (Some j) (before_first e gs)
  new_group j e gs = refl

  -- a pair came, in the same group or in a new one
  on_the_way : (j k : List ℕ) (room : ℕ) (e : Entry) (es : List Entry) → bytes_eq k j ≡ false
      → found (place (Some k)) (Some end) (later_pieces place same (Some j) (groups room (e ∷ es)))
      ≡ found (place (Some k)) (Some end)
      (later_pieces place same (Some e.0) (groups (room_left room e) es))
  unfolding groups
  on_the_way j k room e es differs = by_test (nat_le (weight e) room)
    where
      by_test : (b : Bool) → found (place (Some k)) (Some end)
          (later_pieces place same (Some j)
          (cond b (before_first e (groups (room - weight e) es))
          ([] ∷ before_first e (groups (65536 - weight e) es))))
          ≡ found (place (Some k)) (Some end)
          (later_pieces place same (Some e.0)
          (groups (cond b (room - weight e) (65536 - weight e)) es))
      by_test true =
          ap (λ (ps : List Piece). found (place (Some k)) (Some end) ps)
          (later_before place same (Some j) e (groups (room - weight e) es))
      by_test false = missed j k e (groups (65536 - weight e) es) differs

  -- the group at the place of the last key
  at_last : (k : List ℕ) (room : ℕ) (e : Entry) (es : List Entry) → Above k (e ∷ es)
      → Rising (e ∷ es) → found (place (Some k)) (Some end)
      (later_pieces place same (Some k) (groups room (e ∷ es)))
      ≡ table_chunk place end (Some k) (here room (e ∷ es))
  unfolding groups
  at_last k room e es up rise =
      by_test (nat_le (weight e) room) (not_less (weight e) room (nat_le (weight e) room) refl)
    where
      tail : Above e.0 es × Rising es
      tail = above_tail e es rise

      by_test : (b : Bool) → nat_lt room (weight e) ≡ not b
          → found (place (Some k)) (Some end)
          (later_pieces place same (Some k)
          (cond b (before_first e (groups (room - weight e) es))
          ([] ∷ before_first e (groups (65536 - weight e) es))))
          ≡ table_chunk place end (Some k) (here room (e ∷ es))
      by_test true h =
          ap (λ (ps : List Piece). found (place (Some k)) (Some end) ps)
          (later_before place same (Some k) e (groups (room - weight e) es))
          ∙ none_found (place (Some k)) (Some end)
          (later_pieces place same (Some e.0) (groups (room - weight e) es))
          ((spread_groups place same e.0 (room - weight e) es tail.0 tail.1).low k up.0)
          ∙ sym (ap (λ (b : Bool). table_chunk place end (Some k)
          (cond b (first_group (e ∷ es)) None)) h)
      by_test false h =
          first_chunk (Some k) e (groups (65536 - weight e) es)
          ∙ sym (ap (λ (b : Bool). table_chunk place end (Some k)
          (cond b (first_group (e ∷ es)) None)) h)

  no_groups : (j k : List ℕ) (room : ℕ)
      → found (place (Some k)) (Some end) (later_pieces place same (Some j) (groups room [])) ≡ None
  unfolding groups table_pieces
  no_groups j k room = refl

  behind_found : (j k : List ℕ) (room : ℕ) (es : List Entry) → Above j es → Rising es
      → found (place (Some k)) (Some end) (later_pieces place same (Some j) (groups room es))
      ≡ table_chunk place end (Some k) (cond (bytes_eq j k) (here room es) (there k room es))
  behind_found j k room [] up rise = no_groups j k room ∙ by_key (bytes_eq j k)
    where
      by_key : (b : Bool) → None ≡ table_chunk place end (Some k) (cond b None None)
      by_key true = refl
      by_key false = refl
  behind_found j k room (e ∷ es) up rise =
      let tail = above_tail e es rise in
      let more = behind_found e.0 k (room_left room e) es tail.0 tail.1 in
      by_bool (λ (b : Bool). found (place (Some k)) (Some end)
      (later_pieces place same (Some j) (groups room (e ∷ es)))
      ≡ table_chunk place end (Some k) (cond b (here room (e ∷ es)) (there k room (e ∷ es))))
      (bytes_eq j k)
      (λ h. subst (λ (i : List ℕ). found (place (Some i)) (Some end)
      (later_pieces place same (Some j) (groups room (e ∷ es)))
      ≡ table_chunk place end (Some i) (here room (e ∷ es))) ((bytes_eq-Decides j k).0 h)
      (at_last j room e es up rise))
      (λ h. on_the_way j k room e es (nat_list_eq_equiv.symm k j ∙ h) ∙ more
      ∙ sym (ap (λ (g : Option Group). table_chunk place end (Some k) g)
      (there_step k room e es rise)))

  entries_found : (es : List Entry) (key : Option (List ℕ)) → Rising es
      → found (place key) (Some end) (table_pieces place None (table_groups es))
      ≡ table_chunk place end key (group_in es key)
  unfolding table_groups table_pieces
  entries_found [] None rise = refl
  entries_found [] (Some k) rise = refl
  entries_found (e ∷ es) None rise =
      first_chunk None e (groups (65536 - weight e) es)
      ∙ sym (ap (λ (l : List Entry). table_chunk place end None (first_group l))
      (keep_all (e ∷ es)))
  entries_found (e ∷ es) (Some k) rise =
      let tail = above_tail e es rise in
      past (groups (65536 - weight e) es)
      ∙ ap (λ (room : ℕ). found (place (Some k)) (Some end)
      (later_pieces place same (Some e.0) (groups room es))) (full (nat_le (weight e) 65536))
      ∙ behind_found e.0 k (room_left 65536 e) es tail.0 tail.1
      ∙ sym (ap (λ (g : Option Group). table_chunk place end (Some k) g)
      (there_step k 65536 e es rise))
    where
      full : (b : Bool) → 65536 - weight e ≡ cond b (65536 - weight e) (65536 - weight e)
      full true = refl
      full false = refl

      past : (gs : List (List Entry))
          → found (place (Some k)) (Some end) (table_pieces place None (before_first e gs))
          ≡ found (place (Some k)) (Some end) (later_pieces place same (Some e.0) gs)
      past [] =
          found_miss (place (Some k)) (Some end) (place None, part.Pairs (map pair_of (e ∷ []))) []
          (same (Some k) None)
      past (g ∷ gs) =
          found_miss (place (Some k)) (Some end) (place None, part.Pairs (map pair_of (e ∷ g)))
          (table_pieces place (last_key (Some e.0) g) gs) (same (Some k) None)

  -- the chunk at a place of a table is the group that begins there
  pub table_found : (t : Table) (key : Option (List ℕ))
      → found (place key) (Some end) (table_pieces place None (table_groups (fin.entries t)))
      ≡ table_chunk place end key (group_at t key)
  table_found t key =
      entries_found (fin.entries t) key (entries_rise t)
      ∙ ap (λ (g : Option Group). table_chunk place end key g) (in_table t key)
