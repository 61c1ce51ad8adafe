-- The sums over the records of a live store are within their limit.
use Rattle.std.proofs.Common.{◌≡◌, ◌≢◌, ◌≤◌, ℕ, ◌+◌, cond, Bool, true, false, List, [], ◌∷◌, ◌++◌, map, length, Option, Some, None, refl, sym, ap, subst, ◌∙◌, arith}
use Rattle.std.specs.FinMap as fin
use Rattle.std.specs.Cmp.Lexicographic.{nat_list_cmp_total}
use Rattle.std.specs.List.{AllByRecursion, count_by, sum_by}
use Rattle.std.proofs.lemmas.List.{length-append}
use Rattle.std.proofs.lemmas.List.Sums.{sum_by-append, sum_by-cons}
use Rattle.agent_state.specs.Modes.{AreTotals}
use Rattle.agent_state.specs.Sums.{Weight}
use Rattle.byteorder.specs.Endian.{big_bytes}
use Rattle.obj_model.specs.declared.state.NameState.{NameState}
use Rattle.obj_model.specs.declared.state.Obj.{Obj}
use Rattle.pool_keys.specs.Keys.{record_key}
use Rattle.pool_keys.specs.Maps.{SpellsCache}
use Rattle.pool_keys.specs.Values.{IsRecOf}
use Rattle.pool_keys.proofs.Entries.{each_entry}
use Rattle.rec_codec.specs.Spelling.{SpellsTier, kept_list, mark, object, object_or_none, state_bytes, string, table, tier_bytes}
use Rattle.store_face.specs.Limits.{IsPoolMap, entry_weight, weight}
use Rattle.store_face.specs.Tables.{Table}
use Rattle.store_face.specs.Views.{CrashMaps, IsOne, no_map}
use Rattle.tier_join.proofs.Left.{read_is_left}
use Rattle.tier_outside.specs.Moments.{Now}
use Rattle.tier_protocol.specs.Tiers.{Name, Recs, TierRec}
use Rattle.tier_protocol.proofs.Cells.{get_there}
use Rattle.tier_rec.specs.Records.{body_bytes, totals_over, weight_of}
use Rattle.tier_view.specs.Locals.{SoundIsFew}
use Rattle.tier_view.specs.Whole.{records_in}
use Rattle.tier_view.proofs.LocalMaps.{key_apart}
use Rattle.tier_view.proofs.LocalPlaces.{AreAlone, Place, alone, none_found, place, put_anew, same_at}

-- ---- a body is no longer than its record's spelling

in_front : (xs ys : List ℕ) → length xs ≤ length (xs ++ ys)
in_front xs ys = omega (arith, length-append xs ys)

in_back : (xs ys : List ℕ) → length ys ≤ length (xs ++ ys)
in_back xs ys = omega (arith, length-append xs ys)

string_fits : (bytes : List ℕ) → length bytes ≤ length (string bytes)
string_fits bytes = in_back (big_bytes 4 (length bytes)) bytes

body_fits : (o : Obj) → length (string o.body) ≤ length (object o)
body_fits o = in_front (string o.body) (table o.attrs ++ table o.omap)

object_fits : (o : Option Obj) → body_bytes o ≤ length (object_or_none o)
object_fits None = omega arith
object_fits (Some o) = omega (arith, string_fits o.body, body_fits o)

behind_two : (xs ys zs : List ℕ) → length zs ≤ length (xs ++ (ys ++ zs))
behind_two xs ys zs = omega (arith, in_back xs (ys ++ zs), in_back ys zs)

state_fits : (s : NameState) → body_bytes s.obj ≤ length (state_bytes s)
state_fits s = omega (arith, object_fits s.obj, in_front (object_or_none s.obj) (kept_list s.seen), behind_epochs)
  where
    behind_epochs : length (object_or_none s.obj ++ kept_list s.seen) ≤ length (state_bytes s)
    behind_epochs = behind_two (big_bytes 8 s.ver) (big_bytes 8 s.seq) (object_or_none s.obj ++ kept_list s.seen)

tier_fits : (s : NameState) (dirty : Bool) (mtime : ℕ) → length (state_bytes s) ≤ length (tier_bytes s dirty mtime)
tier_fits s dirty mtime = in_front (state_bytes s) (mark dirty ∷ big_bytes 8 mtime)

record_fits : (bytes : List ℕ) (r : TierRec) → SpellsTier bytes r.state r.dirty r.mtime → body_bytes r.state.obj ≤ length bytes
record_fits bytes r h =
    subst (λ b. body_bytes r.state.obj ≤ length b) (sym h.spelled) (omega (arith, state_fits r.state, tier_fits r.state r.dirty r.mtime))

-- ---- rows of records in a map

abbrev Row : Type 0
Row = Name × TierRec

abbrev total : List Row → ℕ
total [] = 0
total (e ∷ es) = (1 + body_bytes e.1.state.obj) + total es

record HasRow (x : Table) (e : Row) : Type 0 where
  bytes : List ℕ
  there : fin.get x (record_key e.0) ≡ Some bytes
  spelled : SpellsTier bytes e.1.state e.1.dirty e.1.mtime

-- what a map weighs without one key
taken_out : (x : Table) (key bytes : List ℕ) → fin.get x key ≡ Some bytes → weight x ≡ entry_weight (key, bytes) + weight (fin.remove x key)
taken_out x key bytes has = omega (arith, whole, apart, rest)
  where
    p : Place key (fin.entries (fin.remove x key))
    p = place key (fin.entries (fin.remove x key)) (none_found x key)

    whole : weight x ≡ sum_by entry_weight (p.before ++ (key, bytes) ∷ p.behind)
    whole = ap weight (sym (same_at x key (Some bytes) has) ∙ put_anew x key bytes) ∙ ap (sum_by entry_weight) (fin.entries-insert nat_list_cmp_total (fin.remove x key) key bytes ∙ p.there bytes)

    apart : sum_by entry_weight (p.before ++ (key, bytes) ∷ p.behind) ≡ sum_by entry_weight p.before + (entry_weight (key, bytes) + sum_by entry_weight p.behind)
    apart = sum_by-append entry_weight p.before ((key, bytes) ∷ p.behind) ∙ ap (λ n. sum_by entry_weight p.before + n) (sum_by-cons entry_weight (key, bytes) p.behind)

    rest : weight (fin.remove x key) ≡ sum_by entry_weight p.before + sum_by entry_weight p.behind
    rest = ap (sum_by entry_weight) p.is ∙ sum_by-append entry_weight p.before p.behind

moved_rows : (x : Table) (k : Name) (es : List Row) → AllByRecursion (λ d. d.0 ≢ k) es → AllByRecursion (HasRow x) es → AllByRecursion (HasRow (fin.remove x (record_key k))) es
moved_rows x k [] apart h = tt
moved_rows x k (e ∷ es) apart h = (
  record { bytes = h.0.bytes; there = get_there x (record_key k) None (record_key e.0) (key_apart e.0 k apart.0) ∙ h.0.there; spelled = h.0.spelled },
  moved_rows x k es apart.1 h.1,
)

rows_fit : (es : List Row) (x : Table) → AreAlone es → AllByRecursion (HasRow x) es → total es ≤ weight x
rows_fit [] x apart h = omega arith
rows_fit (e ∷ es) x apart h =
    omega (
      arith,
      taken_out x (record_key e.0) h.0.bytes h.0.there,
      record_fits h.0.bytes e.1 h.0.spelled,
      rows_fit es (fin.remove x (record_key e.0)) apart.1 (moved_rows x e.0 es apart.0 h.1),
    )

-- ---- the sums of rows

abbrev weights : List Row → List Weight
weights es = map weight_of (map (λ (e : Row). e.1) es)

one_dirty : (b : Bool) → cond b 1 0 ≤ 1
one_dirty true = omega arith
one_dirty false = omega arith

record Fit (es : List Row) : Type 0 where
  records : length (weights es) ≤ total es
  dirty : count_by (λ (w : Weight). w.dirty) (weights es) ≤ total es
  bytes : sum_by (λ (w : Weight). w.bytes) (weights es) ≤ total es

sums_fit : (es : List Row) → Fit es
sums_fit [] = record { records = omega arith; dirty = omega arith; bytes = omega arith }
sums_fit (e ∷ es) =
    let rest = sums_fit es in
    record {
      records = omega (arith, rest.records);
      dirty = omega (arith, rest.dirty, one_dirty e.1.dirty, sum_by-cons (λ (w : Weight). cond w.dirty 1 0) (weight_of e.1) (weights es));
      bytes = omega (arith, rest.bytes, sum_by-cons (λ (w : Weight). w.bytes) (weight_of e.1) (weights es));
    }

-- ---- a live store

rec_row : (x : Table) (k : Name) (r : TierRec) (value : Option (List ℕ)) → fin.get x (record_key k) ≡ value → IsRecOf value (Some r) → HasRow x (k, r)
rec_row x k r None is h = absurd h
rec_row x k r (Some bytes) is h = record { bytes = bytes; there = is; spelled = h }

lawful_fit : (x : Table) (recs : Recs) (epoch : ℕ) → IsPoolMap x → SpellsCache x recs epoch → AreTotals (totals_over (records_in recs))
lawful_fit x recs epoch lawful h =
    let es : List Row = fin.entries recs in
    let rows : AllByRecursion (HasRow x) es = each_entry (λ k r. HasRow x (k, r)) recs
    (λ k r there. rec_row x k r (fin.get x (record_key k)) refl (subst (IsRecOf (fin.get x (record_key k))) there (h.each k))) in
    let low = rows_fit es x (alone recs) rows in
    let sums = sums_fit es in
    record { records_few = omega (arith, sums.records, low, lawful.weighs); dirty_few = omega (arith, sums.dirty, low, lawful.weighs); bytes_few = omega (arith, sums.bytes, low, lawful.weighs) }

one_lawful : (m : Option (List CrashMaps)) (used : ℕ) → Now no_map m (IsOne used) → Now no_map m (λ s. IsPoolMap s.before.table)
one_lawful None used h = tt
one_lawful (Some ss) used h = h.lawful

pub sound_is_few : SoundIsFew
sound_is_few s sound live x left recs epoch spelled = lawful_fit x recs epoch (read_is_left s IsPoolMap sound live (one_lawful s.moments s.used (sound live)) x left) spelled
