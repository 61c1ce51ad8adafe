-- A lawful state stays lawful with a part that fits.
use Rattle.std.proofs.Common.{◌≡◌, ◌≤◌, ◌<◌, ◌+◌, ◌^◌, ℕ, suc, Bool, true, false, ◌&&◌, List, []}
use Rattle.std.proofs.Common.{◌∷◌, ◌++◌, map, length, Option, Some, None, refl, sym, ap, subst}
use Rattle.std.proofs.Common.{arith, length-append}
use Rattle.std.proofs.lemmas.Bool.{leb-true, ltb-true}
use Rattle.std.specs.Prelude.{nat_le, nat_lt}
use Rattle.std.specs.List.{AllByRecursion, All}
use Rattle.std.specs.List.Sorted.{IsStrictlySortedBy}
use Rattle.std.specs.Ordering.{nat_cmp}
use Rattle.std.specs.declared.cmp.Ordering.TheVariants.{Less}
use Rattle.std.specs.Cmp.{nat_cmp_is, nat_cmp_total}
use Rattle.std.proofs.lemmas.List.Elements.{All-from_recursion, recursion_from_All}
use Rattle.std.specs.FinMap as fin
use Rattle.std.specs.FinMap.{len-entries, len-empty}
use Rattle.obj_model.specs.Names.{name_cmp}
use Rattle.obj_model.specs.States.{unknown, IsReply, IsKept, IsTable, IsObj, IsObjOrNone, IsState}
use Rattle.obj_model.specs.declared.out.Pair.{Pair}
use Rattle.obj_model.specs.declared.reply.Kept.{Kept}
use Rattle.obj_model.specs.declared.reply.Reply.{Reply}
use Rattle.obj_model.specs.declared.reply.Reply.TheVariants.{Done, Refused}
use Rattle.obj_model.specs.declared.state.Obj.{Obj}
use Rattle.obj_model.specs.declared.state.NameState.{NameState}
use Rattle.obj_model.proofs.NameMaps.{kept_entries}
use Rattle.copy_chunk.specs.declared.chunk.Cursor.{Cursor}
use Rattle.copy_chunk.specs.declared.chunk.Cursor.TheVariants.{Head, Body, Attrs, Omap, Seen}
use Rattle.copy_chunk.specs.declared.chunk.Part.{Part}
use Rattle.copy_chunk.specs.declared.chunk.Part.TheVariants as part
use Rattle.copy_chunk.specs.Chunks.{Entry, entry_of, last_key}
use Rattle.copy_chunk.specs.Gathers.{entries_with, with_part, goes_behind, pairs_fit, table_fits}
use Rattle.copy_chunk.specs.Gathers.{reply_fits, kept_fits, kepts_fit, part_fits}
use Rattle.copy_chunk.specs.Steps.{IsRising}
use Rattle.copy_chunk.proofs.Tables.{Table, entries_rise}
use Rattle.copy_chunk.proofs.Keys.{and_both, taken_rise}

-- ---- tables

abbrev pub Short : List Entry → Type 0
Short es = AllByRecursion (λ (v : List ℕ). length v ≤ 4096) (map (λ e. e.1) es)

pairs_short : (last : Option (List ℕ)) (ps : List Pair) → pairs_fit last ps ≡ true
    → Short (map entry_of ps)
pairs_short last [] e = tt
pairs_short last (p ∷ ps) e =
    let a =
    and_both (goes_behind last p.key && nat_le (length p.value) 4096)
    (pairs_fit (Some p.key) ps) e in
    let b = and_both (goes_behind last p.key) (nat_le (length p.value) 4096) a.0 in
    (leb-true _ _ b.1, pairs_short (Some p.key) ps a.1)

short_append : (es fs : List Entry) → Short es → Short fs → Short (es ++ fs)
short_append [] fs h g = g
short_append (e ∷ es) fs h g = (h.0, short_append es fs h.1 g)

length_pairs : (ps : List Pair) → length (map entry_of ps) ≡ length ps
length_pairs [] = refl
length_pairs (p ∷ ps) = ap suc (length_pairs ps)

-- a table with pairs that it can take
pub table_stays : (most : ℕ) (t : Table) (ps : List Pair) → IsTable most t
    → table_fits most (fin.entries t) ps ≡ true
    → IsTable most (fin.from_entries (entries_with t ps))
table_stays most t ps h e =
    let a =
    and_both (nat_lt 0 (length ps) && nat_le (length (fin.entries t) + length ps) most)
    (pairs_fit (last_key None (fin.entries t)) ps) e in
    let b =
    and_both (nat_lt 0 (length ps)) (nat_le (length (fin.entries t) + length ps) most) a.0 in
    let all : fin.entries (fin.from_entries {R = name_cmp} (entries_with t ps))
    ≡ entries_with t ps =
    kept_entries (entries_with t ps) (taken_rise most (fin.entries t) ps (entries_rise t) e) in
    record {
      few = omega (
        arith,
        len-entries (fin.from_entries {R = name_cmp} (entries_with t ps)),
        ap length all,
        length-append (fin.entries t) (map entry_of ps),
        length_pairs ps,
        leb-true _ _ b.1,
      );
      short =
          All-from_recursion (λ v. length v ≤ 4096)
          (map (λ e. e.1) (fin.entries (fin.from_entries {R = name_cmp} (entries_with t ps))))
          (subst Short (sym all) (short_append (fin.entries t) (map entry_of ps)
          (recursion_from_All (λ v. length v ≤ 4096) (map (λ e. e.1) (fin.entries t)) h.short)
          (pairs_short (last_key None (fin.entries t)) ps a.1)));
    }

-- ---- kept requests

kept_lawful : (last : ℕ) (k : Kept) → last < k.client → kept_fits k ≡ true → IsKept k
kept_lawful last k low e =
    let a = and_both (nat_le k.client 256 && nat_le k.tid (2 ^ 62)) (reply_fits k.reply) e in
    let b = and_both (nat_le k.client 256) (nat_le k.tid (2 ^ 62)) a.0 in
    record {
      client_low = omega arith;
      client_high = leb-true _ _ b.0;
      tid_high = leb-true _ _ b.1;
      reply_lawful = reply_lawful k.reply a.1;
    }
  where
    reply_lawful : (r : Reply) → reply_fits r ≡ true → IsReply r
    reply_lawful (Done ver) e = tt
    reply_lawful (Refused at why ver) e = ltb-true _ _ e

number_less : (i j : ℕ) → i < j → nat_cmp i j ≡ Less
number_less i j h = sym (nat_cmp_is i j Less h)

raise_clients : (i j : ℕ) (xs : List ℕ) → nat_cmp i j ≡ Less
    → AllByRecursion (λ y. nat_cmp j y ≡ Less) xs → AllByRecursion (λ y. nat_cmp i y ≡ Less) xs
raise_clients i j [] h all = tt
raise_clients i j (x ∷ xs) h all = (nat_cmp_total.trans i j x h all.0, raise_clients i j xs h all.1)

abbrev pub Clients : List Kept → List ℕ
Clients ks = map (λ (k : Kept). k.client) ks

kepts_lawful : (last : ℕ) (ks : List Kept) → kepts_fit last ks ≡ true
    → AllByRecursion IsKept ks × AllByRecursion (λ y. nat_cmp last y ≡ Less) (Clients ks)
    × IsStrictlySortedBy nat_cmp (Clients ks)
unfolding IsStrictlySortedBy
kepts_lawful last [] e = (tt, tt, tt)
kepts_lawful last (k ∷ ks) e =
    let a = and_both (nat_lt last k.client && kept_fits k) (kepts_fit k.client ks) e in
    let b = and_both (nat_lt last k.client) (kept_fits k) a.0 in
    let low : last < k.client = ltb-true _ _ b.0 in
    let r = kepts_lawful k.client ks a.1 in (
      (kept_lawful last k low b.1, r.0),
      (
        number_less last k.client low,
        raise_clients last k.client (Clients ks) (number_less last k.client low) r.1,
      ),
      (r.1, r.2),
    )

-- ---- the whole

nothing_rises : IsRising []
unfolding IsStrictlySortedBy
nothing_rises = tt

no_entries : fin.entries (fin.empty {K = List ℕ} {X = List ℕ} {R = name_cmp}) ≡ []
no_entries = kept_entries [] nothing_rises

bare_lawful : (most : ℕ) → IsTable most fin.empty
bare_lawful most = record {
  few = omega (arith, len-empty name_cmp (List ℕ));
  short =
      All-from_recursion (λ v. length v ≤ 4096)
      (map (λ e. e.1) (fin.entries (fin.empty {K = List ℕ} {X = List ℕ} {R = name_cmp})))
      (subst Short (sym no_entries) tt);
}

nothing_seen : All IsKept [] × IsStrictlySortedBy nat_cmp (Clients [])
unfolding IsStrictlySortedBy
nothing_seen = (All-from_recursion IsKept [] tt, tt)

unknown_lawful : IsState unknown
unknown_lawful =
    record {
      counted = record { accepted = omega arith; acted = omega arith };
      object = tt;
      each_kept = nothing_seen.0;
      rising = nothing_seen.1;
    }

-- nothing made so far is a lawful state
pub first_lawful : IsState unknown
first_lawful = unknown_lawful

head_object : (present : Bool) → IsObjOrNone (with_part unknown Head (part.Head 0 0 present)).obj
head_object true =
    record {
      body_short = omega arith;
      attrs_lawful = bare_lawful 64;
      omap_lawful = bare_lawful 1024;
    }
head_object false = tt

-- a state with the object changed by one that stays lawful
with_lawful : (s : NameState) (o : Obj) → IsState s → IsObj o → IsState (record s { obj = Some o })
with_lawful s o h g =
    record {
      counted = record { accepted = h.counted.accepted; acted = h.counted.acted };
      object = g;
      each_kept = h.each_kept;
      rising = h.rising;
    }

body_lawful : (s : NameState) (off : ℕ) (obj : Option Obj) (bytes : List ℕ) → s.obj ≡ obj
    → IsState s → part_fits (record s { obj = obj }) (Body off) (part.Body bytes) ≡ true
    → IsState (with_part (record s { obj = obj }) (Body off) (part.Body bytes))
body_lawful s off None bytes same h e = absurd cc
body_lawful s off (Some o) bytes same h e =
    let lawful : IsObj o = subst IsObjOrNone same h.object in
    let b = and_both (nat_lt 0 (length bytes)) (nat_le (length o.body + length bytes) 1048576) e in
    with_lawful s (record o { body = o.body ++ bytes }) h
    (record {
      body_short = omega (arith, length-append o.body bytes, leb-true _ _ b.1);
      attrs_lawful = lawful.attrs_lawful;
      omap_lawful = lawful.omap_lawful;
    })

attrs_lawful : (s : NameState) (key : Option (List ℕ)) (obj : Option Obj) (ps : List Pair)
    → s.obj ≡ obj → IsState s → part_fits (record s { obj = obj }) (Attrs key) (part.Pairs ps)
    ≡ true → IsState (with_part (record s { obj = obj }) (Attrs key) (part.Pairs ps))
attrs_lawful s key None ps same h e = absurd cc
attrs_lawful s key (Some o) ps same h e =
    let lawful : IsObj o = subst IsObjOrNone same h.object in
    with_lawful s (record o { attrs = fin.from_entries (entries_with o.attrs ps) }) h
    (record {
      body_short = lawful.body_short;
      attrs_lawful = table_stays 64 o.attrs ps lawful.attrs_lawful e;
      omap_lawful = lawful.omap_lawful;
    })

omap_lawful : (s : NameState) (key : Option (List ℕ)) (obj : Option Obj) (ps : List Pair)
    → s.obj ≡ obj → IsState s → part_fits (record s { obj = obj }) (Omap key) (part.Pairs ps) ≡ true
    → IsState (with_part (record s { obj = obj }) (Omap key) (part.Pairs ps))
omap_lawful s key None ps same h e = absurd cc
omap_lawful s key (Some o) ps same h e =
    let lawful : IsObj o = subst IsObjOrNone same h.object in
    with_lawful s (record o { omap = fin.from_entries (entries_with o.omap ps) }) h
    (record {
      body_short = lawful.body_short;
      attrs_lawful = lawful.attrs_lawful;
      omap_lawful = table_stays 1024 o.omap ps lawful.omap_lawful e;
    })

-- a lawful state with a part that fits is lawful
pub part_lawful : (s : NameState) (at : Cursor) (p : Part) → IsState s → part_fits s at p ≡ true
    → IsState (with_part s at p)
part_lawful s Head (part.Head ver seq present) h e =
    let b = and_both (nat_le ver seq) (nat_le seq (2 ^ 62)) e in
    record {
      counted = record { accepted = leb-true _ _ b.0; acted = leb-true _ _ b.1 };
      object = head_object present;
      each_kept = nothing_seen.0;
      rising = nothing_seen.1;
    }
part_lawful s (Body off) (part.Body bytes) h e = body_lawful s off s.obj bytes refl h e
part_lawful s (Attrs key) (part.Pairs ps) h e = attrs_lawful s key s.obj ps refl h e
part_lawful s (Omap key) (part.Pairs ps) h e = omap_lawful s key s.obj ps refl h e
part_lawful s Seen (part.Seen ks) h e =
    let k = kepts_lawful 0 ks e in
    record {
      counted = record { accepted = h.counted.accepted; acted = h.counted.acted };
      object = h.object;
      each_kept = All-from_recursion IsKept ks k.0;
      rising = k.2;
    }
part_lawful s at p h e = absurd cc
