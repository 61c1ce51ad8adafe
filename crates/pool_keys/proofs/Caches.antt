-- A cache's map stands for one map of records.
use Rattle.std.proofs.Common.{◌≡◌, ◌⊎◌, inl, inr, ℕ, ◌<◌, ◌^◌, Bool, true, false, cond, List, [], ◌∷◌, Option, Some, None, refl, sym, ap, subst, ◌∙◌, arith}
use Rattle.std.specs.List.{AllByRecursion}
use Rattle.std.specs.Cmp.Lexicographic.{nat_list_cmp_total}
use Rattle.std.specs.Ordering.{eq_by_cmp}
use Rattle.std.specs.FinMap as fin
use Rattle.byteorder.specs.Endian.{big_bytes}
use Rattle.obj_model.specs.Names.{name_cmp}
use Rattle.rec_codec.specs.Reading.{number_at, whole}
use Rattle.rec_codec.specs.Spelling.{SpellsState, SpellsTier, mark, state_bytes}
use Rattle.rec_codec.proofs.BlockLaws.{u64_reads}
use Rattle.rec_codec.proofs.Readers.{some_is}
use Rattle.rec_codec.proofs.Whole.{states_apart, whole_again}
use Rattle.store_face.specs.Tables.{Table}
use Rattle.tier_types.specs.declared.record.TierRec.{TierRec}
use Rattle.pool_keys.specs.Keys.{IsPoolKey, epoch_key, record_key}
use Rattle.pool_keys.specs.Laws.{CacheIsOne, CacheStands, RecordIsOne}
use Rattle.pool_keys.specs.Maps.{IsCacheMap, IsEpochEntry, IsRecordEntry, Recs}
use Rattle.pool_keys.specs.Values.{IsEpochOf, IsRecOf}
use Rattle.pool_keys.proofs.Entries.{each_entry}
use Rattle.pool_keys.proofs.Epochs.{epoch_one}

-- ---- one record

mark_one : (d e : Bool) → mark d ≡ mark e → d ≡ e
mark_one false false same = refl
mark_one false true same = absurd (omega arith)
mark_one true false same = absurd (omega arith)
mark_one true true same = refl

number_one : (m n : ℕ) → m < 2 ^ 64 → n < 2 ^ 64 → big_bytes 8 m ≡ big_bytes 8 n → m ≡ n
number_one m n low lower same =
    some_is m n (sym (whole_again (number_at 8) (big_bytes 8) (λ x. x < 256 ^ 8) u64_reads m (omega arith))
    ∙ ap (whole (number_at 8)) same
    ∙ whole_again (number_at 8) (big_bytes 8) (λ x. x < 256 ^ 8) u64_reads n (omega arith))

tails : (d e : Bool) (m n : ℕ) → mark d ∷ big_bytes 8 m ≡ mark e ∷ big_bytes 8 n → (mark d ≡ mark e) × (big_bytes 8 m ≡ big_bytes 8 n)
tails d e m n same = (letters (mark d) (mark e) (big_bytes 8 m) (big_bytes 8 n) same, names (mark d) (mark e) (big_bytes 8 m) (big_bytes 8 n) same)
  where
    letters : (a b : ℕ) (x y : List ℕ) → a ∷ x ≡ b ∷ y → a ≡ b
    letters a b x y e = cc

    names : (a b : ℕ) (x y : List ℕ) → a ∷ x ≡ b ∷ y → x ≡ y
    names a b x y e = cc

same_record : (r q : TierRec) → r.state ≡ q.state → r.dirty ≡ q.dirty → r.mtime ≡ q.mtime → r ≡ q
same_record r q s d m = λ i. record { state = s i; dirty = d i; mtime = m i }

spelled_one : (bytes : List ℕ) (r q : TierRec) → SpellsTier bytes r.state r.dirty r.mtime → SpellsTier bytes q.state q.dirty q.mtime → r ≡ q
spelled_one bytes r q h k =
    let front : SpellsState (state_bytes r.state) r.state = record { lawful = h.lawful; typed = h.typed; spelled = refl } in
    let other : SpellsState (state_bytes q.state) q.state = record { lawful = k.lawful; typed = k.typed; spelled = refl } in
    let both = states_apart r.state q.state (state_bytes r.state) (state_bytes q.state) (mark r.dirty ∷ big_bytes 8 r.mtime) (mark q.dirty ∷ big_bytes 8 q.mtime)
    front other (sym h.spelled ∙ k.spelled) in
    let behind = tails r.dirty q.dirty r.mtime q.mtime both.1 in
    same_record r q both.0 (mark_one r.dirty q.dirty behind.0) (number_one r.mtime q.mtime h.timed k.timed behind.1)

pub record_one : RecordIsOne
record_one None None None h k = refl
record_one None None (Some q) h k = absurd k
record_one None (Some r) q h k = absurd h
record_one (Some bytes) None q h k = absurd h
record_one (Some bytes) (Some r) None h k = absurd k
record_one (Some bytes) (Some r) (Some q) h k = ap Some (spelled_one bytes r q h k)

pub one : CacheIsOne
one x recs others epoch later h k = (
  fin.same_map nat_list_cmp_total (fin.slice_cmp-IsAntisymmetric fin.nat_cmp-IsAntisymmetric) recs others
      (λ name. record_one (fin.get x (record_key name)) (fin.get recs name) (fin.get others name) (h.each name) (k.each name)),
  epoch_one (fin.get x epoch_key) epoch later h.is_epoch k.is_epoch,
)

-- ---- there is one

abbrev Entry : Type 0
Entry = List ℕ × List ℕ

-- an entry is one of a cache's map
abbrev IsEntry : Entry → Type 0
IsEntry e = IsEpochEntry e.0 e.1 ⊎ IsRecordEntry e.0 e.1

-- the records of these entries, by name
abbrev with_entry : (e : Entry) → IsEntry e → List (List ℕ × TierRec) → List (List ℕ × TierRec)
with_entry e (inl epoch) recs = recs
with_entry e (inr r) recs = (r.name, r.rec) ∷ recs

abbrev recs_in : (es : List Entry) → AllByRecursion IsEntry es → List (List ℕ × TierRec)
recs_in [] each = []
recs_in (e ∷ es) each = with_entry e each.0 (recs_in es each.1)

-- what entries have for a name, and the record that was made of it
abbrev Agrees : List ℕ → List Entry → List (List ℕ × TierRec) → Type 0
Agrees name es recs = IsRecOf (fin.find name_cmp (record_key name) es) (fin.find name_cmp name recs)

found_or : (b : Bool) (value : List ℕ) (r : TierRec) (rest : Option (List ℕ)) (others : Option TierRec) → IsRecOf (Some value) (Some r)
    → IsRecOf rest others → IsRecOf (cond b (Some value) rest) (cond b (Some r) others)
found_or true value r rest others here there = here
found_or false value r rest others here there = there

one_more : (name : List ℕ) (e : Entry) (is : IsEntry e) (es : List Entry) (recs : List (List ℕ × TierRec)) → Agrees name es recs
    → Agrees name (e ∷ es) (with_entry e is recs)
one_more name e (inl epoch) es recs rest =
    subst (λ key. IsRecOf (cond (eq_by_cmp name_cmp (record_key name) key) (Some e.1) (fin.find name_cmp (record_key name) es)) (fin.find name_cmp name recs))
    (sym epoch.there) rest
one_more name e (inr r) es recs rest =
    subst (λ key. IsRecOf (cond (eq_by_cmp name_cmp (record_key name) key) (Some e.1) (fin.find name_cmp (record_key name) es))
    (cond (eq_by_cmp name_cmp name r.name) (Some r.rec) (fin.find name_cmp name recs)))
    (sym r.there.spelled)
    (found_or (eq_by_cmp name_cmp name r.name) e.1 r.rec (fin.find name_cmp (record_key name) es) (fin.find name_cmp name recs) r.spells rest)

agrees : (name : List ℕ) (es : List Entry) (each : AllByRecursion IsEntry es) → Agrees name es (recs_in es each)
agrees name [] each = tt
agrees name (e ∷ es) each = one_more name e each.0 es (recs_in es each.1) (agrees name es each.1)

letters : (a b : ℕ) (x y : List ℕ) → a ∷ x ≡ b ∷ y → a ≡ b
letters a b x y e = cc

-- the epoch that a value under the key of the epoch spells
record Epoch (value : Option (List ℕ)) : Type 0 where
  number : ℕ
  is : IsEpochOf value number

epoch_in : (key value : List ℕ) → key ≡ epoch_key → IsEpochEntry key value ⊎ IsRecordEntry key value → Epoch (Some value)
epoch_in key value e (inl epoch) = record { number = epoch.epoch; is = epoch.spells }
epoch_in key value e (inr r) = absurd (omega (arith, letters 0x45 0x52 [] r.name (sym e ∙ r.there.spelled)))

epoch_of : (x : Table) → IsCacheMap x → (value : Option (List ℕ)) → fin.get x epoch_key ≡ value → Epoch value
epoch_of x h None e = record { number = 0; is = refl }
epoch_of x h (Some value) e = epoch_in epoch_key value refl (h epoch_key value e)

pool_key : (key value : List ℕ) → IsEpochEntry key value ⊎ IsRecordEntry key value → IsPoolKey record_key key
pool_key key value (inl epoch) = inl epoch.there
pool_key key value (inr r) = inr (r.name, r.there)

pub stands : CacheStands
stands x h =
    let made : List (List ℕ × TierRec) → Recs = λ recs. fin.from_entries recs in
    let each = each_entry (λ k v. IsEpochEntry k v ⊎ IsRecordEntry k v) x h in
    let recs = recs_in (fin.entries x) each in
    let epoch = epoch_of x h (fin.get x epoch_key) refl in
    record {
      recs = made recs;
      epoch = epoch.number;
      spells = record {
        each = λ name. subst (λ o. IsRecOf o (fin.get (made recs) name)) (sym (fin.get-entries x (record_key name)))
            (subst (λ o. IsRecOf (fin.find name_cmp (record_key name) (fin.entries x)) o) (sym (fin.get-from_entries nat_list_cmp_total recs name))
            (agrees name (fin.entries x) each));
        is_epoch = epoch.is;
        keys = λ key value is. pool_key key value (h key value is);
      };
    }
