-- The records of a map within the limits of a store are few, and their bodies short: no sum over
-- them meets its limit.
use Rattle.std.proofs.Common.{◌≡◌, ◌≤◌, ◌⊎◌, inl, inr, ℕ, ◌+◌, Bool, true, false, cond, List, [], ◌∷◌, ◌++◌, length, map, Option, Some, None, refl, sym, ap, subst, ◌∙◌, arith}
use Rattle.std.specs.FinMap as fin
use Rattle.std.specs.List.{AllByRecursion, count_by, fold, sum_by}
use Rattle.std.specs.Ordering.{eq_by_cmp, is_eq, ordering_reverse}
use Rattle.std.specs.Cmp.{Equal-is}
use Rattle.std.specs.Cmp.Lexicographic.{nat_list_cmp_total}
use Rattle.std.specs.declared.cmp.Ordering.TheVariants.{Less}
use Rattle.std.proofs.lemmas.List.{append-nil, append_assoc, length-append, map-append}
use Rattle.std.proofs.lemmas.List.Sums.{sum_by-append, sum_by-cons}
use Rattle.byteorder.specs.Endian.{big_bytes}
use Rattle.agent_state.specs.Modes.{AreTotals}
use Rattle.agent_state.specs.Sums.{Weight}
use Rattle.obj_model.specs.Names.{name_cmp}
use Rattle.obj_model.specs.declared.state.NameState.{NameState}
use Rattle.obj_model.specs.declared.state.Obj.{Obj}
use Rattle.pool_keys.specs.Keys.{record_key}
use Rattle.pool_keys.specs.Maps.{Recs, SpellsCache}
use Rattle.pool_keys.specs.Values.{IsRecOf}
use Rattle.pool_keys.proofs.Entries.{each_entry}
use Rattle.rec_codec.specs.Spelling.{kept_list, mark, object_or_none, state_bytes, string, table}
use Rattle.store_face.specs.Limits.{IsPoolMap, entry_weight}
use Rattle.store_face.specs.Tables.{Table}
use Rattle.tier_rec.specs.Records.{body_bytes, totals_after, totals_over, weight_of}
use Rattle.tier_rec.proofs.Totals.{totals_go_on}
use Rattle.tier_types.specs.declared.record.TierRec.{TierRec}
use Rattle.pool_survey.specs.Runs.{summed}
use Rattle.pool_survey.specs.Steps.{SpellsRec}
use Rattle.pool_survey.proofs.Orders.{Key, Over, Rise, in_keys, over_in, rise_of}

abbrev Rec : Type 0
Rec = Key × TierRec

abbrev Entry : Type 0
Entry = Key × Key

-- ---- a body is shorter than its record's spelling

ends : (a b : Key) → length b ≤ length (a ++ b)
ends a b = omega (arith, length-append a b)

starts : (a b : Key) → length a ≤ length (a ++ b)
starts a b = omega (arith, length-append a b)

in_object : (o : Option Obj) → body_bytes o ≤ length (object_or_none o)
in_object None = omega arith
in_object (Some o) =
    omega (arith, ends (big_bytes 4 (length o.body)) o.body, starts (string o.body) (table o.attrs ++ table o.omap))

in_state : (s : NameState) → body_bytes s.obj ≤ length (state_bytes s)
in_state s =
    omega (
      arith,
      in_object s.obj,
      starts (object_or_none s.obj) (kept_list s.seen),
      ends (big_bytes 8 s.seq) (object_or_none s.obj ++ kept_list s.seen),
      ends (big_bytes 8 s.ver) (big_bytes 8 s.seq ++ (object_or_none s.obj ++ kept_list s.seen)),
    )

in_record : (bytes : Key) (r : TierRec) → SpellsRec bytes r → body_bytes r.state.obj ≤ length bytes
in_record bytes r h =
    let long = ap length h.spelled in
    omega (arith, long, in_state r.state, starts (state_bytes r.state) (mark r.dirty ∷ big_bytes 8 r.mtime))

-- ---- records and the entries that spell them

-- one for each record, and the bytes of the bodies
abbrev size : List Rec → ℕ
size [] = 0
size (e ∷ es) = 1 + body_bytes e.1.state.obj + size es

abbrev HaveRecs : List Entry → List Rec → Type 0
HaveRecs es rs = AllByRecursion (λ r. (v : Key) × (fin.find name_cmp (record_key r.0) es ≡ Some v) × SpellsRec v r.1) rs

not_tied : (k : Key) (e : Entry) → name_cmp e.0 k ≡ Less → eq_by_cmp name_cmp k e.0 ≡ false
not_tied k e low = ap is_eq (nat_list_cmp_total.antisymm k e.0 ∙ ap ordering_reverse low)

find_past : (k v : Key) (e : Entry) (es : List Entry) → name_cmp e.0 k ≡ Less → fin.find name_cmp k (e ∷ es) ≡ Some v
    → fin.find name_cmp k es ≡ Some v
find_past k v e es low h = ap (λ b. cond b (Some e.1) (fin.find name_cmp k es)) (sym (not_tied k e low)) ∙ h

-- records that all come behind an entry are found behind it
all_past : (e : Entry) (es : List Entry) (rs : List Rec) → AllByRecursion (λ r. name_cmp e.0 (record_key r.0) ≡ Less) rs → HaveRecs (e ∷ es) rs
    → HaveRecs es rs
all_past e es [] low have = tt
all_past e es (r ∷ rs) low have = ((have.0.0, find_past (record_key r.0) have.0.0 e es low.0 have.0.1, have.0.2), all_past e es rs low.1 have.1)

-- records behind a name have their keys behind what is not behind its key
behind_name : (k name : Key) (rs : List Rec) → (k ≡ record_key name) ⊎ (name_cmp k (record_key name) ≡ Less) → Over name (map (λ r. r.0) rs)
    → AllByRecursion (λ r. name_cmp k (record_key r.0) ≡ Less) rs
behind_name k name [] low over = tt
behind_name k name (r ∷ rs) low over = (
  elim low [
    | inl same ↦ subst (λ x. name_cmp x (record_key r.0) ≡ Less) (sym same) over.0
    | inr less ↦ nat_list_cmp_total.trans k (record_key name) (record_key r.0) less over.0
  ],
  behind_name k name rs low over.1,
)

same_value : (b : Bool) (e : Entry) (v : Key) (rest : Option Key) → b ≡ true → cond b (Some e.1) rest ≡ Some v → v ≡ e.1
same_value true e v rest is h = cc
same_value false e v rest is h = absurd (cc)

later_value : (b : Bool) (e : Entry) (v : Key) (rest : Option Key) → b ≡ false → cond b (Some e.1) rest ≡ Some v → rest ≡ Some v
later_value true e v rest is h = absurd (cc)
later_value false e v rest is h = h

one_lighter : (e : Entry) (es : List Entry) (r : Rec) (rs : List Rec) → 1 + body_bytes r.1.state.obj ≤ entry_weight e → size rs ≤ sum_by entry_weight es
    → size (r ∷ rs) ≤ sum_by entry_weight (e ∷ es)
one_lighter e es r rs one rest = omega (arith, sum_by-cons entry_weight e es)

more_weight : (e : Entry) (es : List Entry) (rs : List Rec) → size rs ≤ sum_by entry_weight es → size rs ≤ sum_by entry_weight (e ∷ es)
more_weight e es rs rest = omega (arith, sum_by-cons entry_weight e es)

entry_of : (e : Entry) (r : Rec) → record_key r.0 ≡ e.0 → SpellsRec e.1 r.1 → 1 + body_bytes r.1.state.obj ≤ entry_weight e
entry_of e r key spells = let long = ap length key in omega (arith, long, in_record e.1 r.1 spells)

abbrev AreLighter : List Entry → Type 0
AreLighter es = (rs : List Rec) → Rise (map (λ r. r.0) rs) → HaveRecs es rs → size rs ≤ sum_by entry_weight es

lighter_by : (b : Bool) (e : Entry) (es : List Entry) (r : Rec) (rs : List Rec) → AreLighter es → eq_by_cmp name_cmp (record_key r.0) e.0 ≡ b
    → Rise (map (λ q. q.0) (e ∷ es)) → Rise (map (λ q. q.0) (r ∷ rs)) → HaveRecs (e ∷ es) (r ∷ rs) → size (r ∷ rs) ≤ sum_by entry_weight (e ∷ es)
lighter_by true e es r rs rest tied rise rises have =
    let key : record_key r.0 ≡ e.0 = fin.slice_cmp-IsAntisymmetric fin.nat_cmp-IsAntisymmetric (record_key r.0) e.0 ((Equal-is (name_cmp (record_key r.0) e.0)).0 tied) in
    let value : have.0.0 ≡ e.1 = same_value (eq_by_cmp name_cmp (record_key r.0) e.0) e have.0.0 (fin.find name_cmp (record_key r.0) es) tied have.0.1 in
    one_lighter e es r rs (entry_of e r key (subst (λ v. SpellsRec v r.1) value have.0.2))
    (rest rs rises.1 (all_past e es rs (behind_name e.0 r.0 rs (inl (sym key)) rises.0) have.1))
lighter_by false e es r rs rest tied rise rises have =
    let there = later_value (eq_by_cmp name_cmp (record_key r.0) e.0) e have.0.0 (fin.find name_cmp (record_key r.0) es) tied have.0.1 in
    let low : name_cmp e.0 (record_key r.0) ≡ Less = over_in e.0 (record_key r.0) (map (λ q. q.0) es) rise.0 (in_keys (record_key r.0) es have.0.0 there) in
    more_weight e es (r ∷ rs) (rest (r ∷ rs) rises ((have.0.0, there, have.0.2), all_past e es rs (behind_name e.0 r.0 rs (inr low) rises.0) have.1))

lighter : (es : List Entry) → Rise (map (λ e. e.0) es) → AreLighter es
lighter [] rise [] rises have = omega arith
lighter [] rise (r ∷ rs) rises have = absurd (let none = have.0.1 in cc)
lighter (e ∷ es) rise [] rises have = omega arith
lighter (e ∷ es) rise (r ∷ rs) rises have = lighter_by (eq_by_cmp name_cmp (record_key r.0) e.0) e es r rs (lighter es rise.1) refl rise rises have

-- ---- the sums

abbrev dirty_sum : List TierRec → ℕ
dirty_sum rs = count_by (λ (w : Weight). w.dirty) (map weight_of rs)

abbrev bytes_sum : List TierRec → ℕ
bytes_sum rs = sum_by (λ (w : Weight). w.bytes) (map weight_of rs)

one_mark : (b : Bool) → cond b 1 0 ≤ 1
one_mark true = omega arith
one_mark false = omega arith

record Small (es : List Rec) : Type 0 where
  records : length (map weight_of (map (λ e. e.1) es)) ≤ size es
  dirty : dirty_sum (map (λ e. e.1) es) ≤ size es
  bytes : bytes_sum (map (λ e. e.1) es) ≤ size es

small : (es : List Rec) → Small es
small [] = record { records = omega arith; dirty = omega arith; bytes = omega arith }
small (e ∷ es) =
    let rest = small es in
    let ws = map weight_of (map (λ (q : Rec). q.1) es) in
    let a = rest.records in
    let b = rest.dirty in
    let c = rest.bytes in
    record {
      records = omega (arith, a);
      dirty = omega (arith, b, sum_by-cons (λ (w : Weight). cond w.dirty 1 0) (weight_of e.1) ws, one_mark e.1.dirty);
      bytes = omega (arith, c, sum_by-cons (λ (w : Weight). w.bytes) (weight_of e.1) ws);
    }

value_of : (o : Option Key) (r : TierRec) → IsRecOf o (Some r) → (v : Key) × (o ≡ Some v) × SpellsRec v r
value_of None r h = absurd h
value_of (Some v) r h = (v, refl, h)

-- each entry of a map is found
all_have : (es : List Entry) (recs : Recs) (rs : List Rec) → ((name : Key) → IsRecOf (fin.find name_cmp (record_key name) es) (fin.get recs name))
    → AllByRecursion (λ (r : Rec). fin.get recs r.0 ≡ Some r.1) rs → HaveRecs es rs
all_have es recs [] each all = tt
all_have es recs (r ∷ rs) each all = (
  value_of (fin.find name_cmp (record_key r.0) es) r.1 (subst (IsRecOf (fin.find name_cmp (record_key r.0) es)) all.0 (each r.0)),
  all_have es recs rs each all.1,
)

-- the records of a cache's map are few
pub few : (x : Table) (recs : Recs) (epoch : ℕ) → SpellsCache x recs epoch → IsPoolMap x → AreTotals (totals_over (map (λ e. e.1) (fin.entries recs)))
few x recs epoch h lawful =
    let es = fin.entries x in
    let rs = fin.entries recs in
    let have = all_have es recs rs (λ name. subst (λ o. IsRecOf o (fin.get recs name)) (fin.get-entries x (record_key name)) (h.each name))
    (each_entry (λ name r. fin.get recs name ≡ Some r) recs (λ name r there. there)) in
    let light = lighter es (rise_of es (fin.entries_sorted x)) rs (rise_of rs (fin.entries_sorted recs)) have in
    let s = small rs in
    let a = s.records in
    let b = s.dirty in
    let c = s.bytes in
    let most = lawful.weighs in
    record { records_few = omega (arith, light, a, most); dirty_few = omega (arith, light, b, most); bytes_few = omega (arith, light, c, most) }

-- ---- sums that meet no limit

fewer : (pre : List TierRec) (more : List TierRec) → AreTotals (totals_over (pre ++ more)) → AreTotals (totals_over pre)
fewer pre more h =
    let all = map-append weight_of pre more in
    let records = ap length all ∙ length-append (map weight_of pre) (map weight_of more) in
    let dirty = ap (count_by (λ (w : Weight). w.dirty)) all ∙ sum_by-append (λ (w : Weight). cond w.dirty 1 0) (map weight_of pre) (map weight_of more) in
    let bytes = ap (sum_by (λ (w : Weight). w.bytes)) all ∙ sum_by-append (λ (w : Weight). w.bytes) (map weight_of pre) (map weight_of more) in
    let a = h.records_few in
    let b = h.dirty_few in
    let c = h.bytes_few in
    record { records_few = omega (arith, records, a); dirty_few = omega (arith, dirty, b); bytes_few = omega (arith, bytes, c) }

one_more : (pre : List TierRec) (r : TierRec) → AreTotals (totals_over (pre ++ r ∷ [])) → totals_after (totals_over pre) None (Some r) ≡ totals_over (pre ++ r ∷ [])
one_more pre r h =
    let last : (l : List TierRec) → l ++ [] ≡ l = append-nil in
    ap (λ l. totals_after (totals_over l) None (Some r)) (sym (last (pre ++ []) ∙ last pre))
    ∙ totals_go_on None (Some r) pre [] (subst (λ l. AreTotals (totals_over l)) (sym (last (pre ++ r ∷ []))) h)
    ∙ ap totals_over (last (pre ++ r ∷ []))

from : (pre rs : List TierRec) → AreTotals (totals_over (pre ++ rs)) → fold (λ t r. totals_after t None (Some r)) (totals_over pre) rs ≡ totals_over (pre ++ rs)
from pre [] h = ap totals_over (sym (append-nil pre))
from pre (r ∷ rs) h =
    let shift : (pre ++ r ∷ []) ++ rs ≡ pre ++ r ∷ rs = append_assoc pre (r ∷ []) rs in
    let all = subst (λ l. AreTotals (totals_over l)) (sym shift) h in
    ap (λ t. fold (λ u q. totals_after u None (Some q)) t rs) (one_more pre r (fewer (pre ++ r ∷ []) rs all)) ∙ from (pre ++ r ∷ []) rs all ∙ ap totals_over shift

pub summed_all : (rs : List TierRec) → AreTotals (totals_over rs) → summed rs ≡ totals_over rs
summed_all rs h = from [] rs h
