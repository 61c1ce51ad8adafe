-- Reading the cache on.
use Rattle.std.proofs.Common.{◌≡◌, inl, inr, ℕ, [], ◌∷◌, Option, None, Some, Result, Ok, Err, refl, sym, ap, subst, ◌∙◌, arith}
use Rattle.std.specs.FinMap as fin
use Rattle.obj_model.specs.declared.change.Pool.TheVariants.{Cache, Base}
use Rattle.pool_keys.specs.Keys.{IsKeyOf, epoch_key, record_key}
use Rattle.pool_keys.specs.Values.{IsEpochOf, SpellsEpoch}
use Rattle.store_face.specs.Calls.{Stays}
use Rattle.store_face.specs.Tables.{Table}
use Rattle.store_face.specs.Views.{Holds, StoreView}
use Rattle.tier_rec.specs.Records.{totals_after}
use Rattle.tier_types.specs.declared.record.TierRec.{TierRec}
use Rattle.pool_survey.specs.Causes.{IsCacheEntry, IsFirstWrong}
use Rattle.pool_survey.specs.Places.{AreRight, IsLast, IsNext, IsPage, IsSaid}
use Rattle.pool_survey.specs.Runs.{AreSoFar, IsEpochIn, IsRecordIn, IsWrong, ReadsNext, SoFar, TakesIn, no_sums}
use Rattle.pool_survey.specs.Steps.{IsPassed, IsThere, Moves, SpellsRec, place}
use Rattle.pool_survey.specs.declared.cache.CacheRun.{CacheRun}
use Rattle.pool_survey.specs.declared.cache.Read.{Read}
use Rattle.pool_survey.specs.declared.cache.Read.TheVariants as read
use Rattle.pool_survey.specs.declared.fault.SurveyFault.{SurveyFault}
use Rattle.pool_survey.specs.declared.fault.SurveyFault.TheVariants as fault
use Rattle.pool_survey.proofs.Later.{also, always, weaker}
use Rattle.store_face.proofs.Later.{holds_on}
use Rattle.pool_survey.proofs.Orders.{Key}
use Rattle.pool_survey.proofs.Places.{page_start, right_next, right_start, said_here, said_next, said_start, wrong_next}
use Rattle.pool_survey.proofs.Summing.{sums_epoch, sums_record, sums_start}

-- before the first entry
pub cache_start : (run : CacheRun) (v : StoreView) → run.cursor.passed ≡ None → run.cursor.page.items ≡ [] → run.epoch ≡ 0 → run.totals ≡ no_sums
    → Holds v (SoFar run)
cache_start run v passed page epoch totals = always v (SoFar run) (λ x. record {
  page = page_start run.cursor.passed run.cursor.page.items x page;
  right = subst (λ p. AreRight IsCacheEntry p x) (sym passed) (right_start IsCacheEntry x);
  epoch = subst (λ p. IsSaid epoch_key (λ o. IsEpochOf o run.epoch) p x) (sym passed) (said_start epoch_key (λ o. IsEpochOf o run.epoch) x epoch);
  sums = subst (λ p. AreSoFar p run.totals x) (sym passed) (sums_start x run.totals totals);
})

-- the page of a run
pub page_of : (run : CacheRun) (v : StoreView) → Holds v (SoFar run) → Holds v (IsPage run.cursor.passed run.cursor.page.items)
page_of run v so_far = weaker v (SoFar run) (IsPage run.cursor.passed run.cursor.page.items) (λ x h. h.page) so_far

-- ---- the end

end_at : (was is : CacheRun) (x : Table) → is.cursor.passed ≡ was.cursor.passed → is.epoch ≡ was.epoch → is.totals ≡ was.totals
    → IsPage is.cursor.passed is.cursor.page.items x → SoFar was x → SoFar is x
end_at was is x passed epoch totals page h = record {
  page = page;
  right = subst (λ p. AreRight IsCacheEntry p x) (sym passed) h.right;
  epoch = subst (λ p. IsSaid epoch_key (λ o. IsEpochOf o is.epoch) p x) (sym passed)
      (subst (λ n. IsSaid epoch_key (λ o. IsEpochOf o n) was.cursor.passed x) (sym epoch) h.epoch);
  sums = subst (λ p. AreSoFar p is.totals x) (sym passed) (subst (λ t. AreSoFar was.cursor.passed t x) (sym totals) h.sums);
}

pub cache_end : (was is : CacheRun) (a b : StoreView) → Moves None was.cursor is.cursor a b (Ok None) → is.epoch ≡ was.epoch → is.totals ≡ was.totals
    → Holds a (SoFar was) → ReadsNext was is a b (Ok read.End)
cache_end was is a b moved epoch totals so_far =
    let there : IsThere None was.cursor is.cursor a = moved.1 in (
      moved.0,
      also a (IsPage is.cursor.passed is.cursor.page.items) (SoFar was) (SoFar is) (λ x page h. end_at was is x there.passed epoch totals page h) there.page so_far,
      there.passed,
      weaker a (IsLast was.cursor.passed None) (IsLast is.cursor.passed None) (λ x last. subst (λ p. IsLast p None x) (sym there.passed) last) there.last,
    )

-- ---- an entry

-- what is known of a map where a key was passed
pub record At (was is : CacheRun) (key : Key) (value : Option Key) (x : Table) : Type 0 where
  next : IsNext was.cursor.passed key x
  got : value ≡ fin.get x key
  page : IsPage is.cursor.passed is.cursor.page.items x
  so_far : SoFar was x

pub record AtNext (was : CacheRun) (key : Key) (value : Option Key) (x : Table) : Type 0 where
  next : IsNext was.cursor.passed key x
  got : value ≡ fin.get x key

at_next : (was mid : CacheRun) (value : Option Key) (a : StoreView) → IsPassed None was.cursor mid.cursor a value → Holds a (AtNext was (place mid.cursor) value)
at_next was mid value a p =
    also a (IsNext was.cursor.passed (place mid.cursor)) (λ x. value ≡ fin.get x (place mid.cursor)) (AtNext was (place mid.cursor) value)
    (λ x next got. record { next = next; got = got }) p.next p.got

at_all : (was mid is : CacheRun) (value : Option Key) (a : StoreView) → IsPassed None was.cursor mid.cursor a value → is.cursor ≡ mid.cursor → Holds a (SoFar was)
    → Holds a (At was is (place mid.cursor) value)
at_all was mid is value a p cursor so_far =
    let Paged : Table → Type 0 = λ x. IsPage is.cursor.passed is.cursor.page.items x × SoFar was x in
    let page : Holds a (IsPage is.cursor.passed is.cursor.page.items) = subst (λ c. Holds a (IsPage c.passed c.page.items)) (sym cursor) p.page in
    also a (AtNext was (place mid.cursor) value) Paged (At was is (place mid.cursor) value)
    (λ x one two. record { next = one.next; got = one.got; page = two.0; so_far = two.1 })
    (at_next was mid value a p)
    (also a (IsPage is.cursor.passed is.cursor.page.items) (SoFar was) Paged (λ x one two. (one, two)) page so_far)

epoch_at : (was is : CacheRun) (bytes : Key) (x : Table) → is.cursor.passed ≡ Some epoch_key → SpellsEpoch bytes is.epoch → is.totals ≡ was.totals
    → At was is epoch_key (Some bytes) x → SoFar is x
epoch_at was is bytes x passed spells totals at = record {
  page = at.page;
  right = subst (λ p. AreRight IsCacheEntry p x) (sym passed)
      (right_next IsCacheEntry was.cursor.passed epoch_key bytes x at.so_far.right at.next at.got (inl (record { there = refl; epoch = is.epoch; spells = spells })));
  epoch = subst (λ p. IsSaid epoch_key (λ o. IsEpochOf o is.epoch) p x) (sym passed)
      (said_here was.cursor.passed epoch_key (λ o. IsEpochOf o is.epoch) x (subst (λ o. IsEpochOf o is.epoch) at.got spells));
  sums = subst (λ p. AreSoFar p is.totals x) (sym passed)
      (subst (λ t. AreSoFar (Some epoch_key) t x) (sym totals) (sums_epoch was.cursor.passed x was.totals at.next at.so_far.sums));
}

letters : (a b : ℕ) (x y : Key) → a ∷ x ≡ b ∷ y → a ≡ b
letters a b x y e = cc

no_epoch : (name : Key) → epoch_key ≡ record_key name → ⊥
no_epoch name e = omega (arith, letters 0x45 0x52 [] name e)

record_at : (was is : CacheRun) (name bytes : Key) (r : TierRec) (x : Table) → is.cursor.passed ≡ Some (record_key name) → IsKeyOf record_key (record_key name) name
    → SpellsRec bytes r → is.epoch ≡ was.epoch → is.totals ≡ totals_after was.totals None (Some r) → At was is (record_key name) (Some bytes) x → SoFar is x
record_at was is name bytes r x passed key spells epoch totals at = record {
  page = at.page;
  right = subst (λ p. AreRight IsCacheEntry p x) (sym passed)
      (right_next IsCacheEntry was.cursor.passed (record_key name) bytes x at.so_far.right at.next at.got
      (inr (record { name = name; there = key; rec = r; spells = spells })));
  epoch = subst (λ p. IsSaid epoch_key (λ o. IsEpochOf o is.epoch) p x) (sym passed)
      (subst (λ n. IsSaid epoch_key (λ o. IsEpochOf o n) (Some (record_key name)) x) (sym epoch)
      (said_next was.cursor.passed (record_key name) epoch_key (λ o. IsEpochOf o was.epoch) x at.so_far.epoch at.next (no_epoch name)));
  sums = subst (λ p. AreSoFar p is.totals x) (sym passed)
      (subst (λ t. AreSoFar (Some (record_key name)) t x) (sym totals) (sums_record was.cursor.passed name bytes r x was.totals at.next at.got spells at.so_far.sums));
}

passed_on : (was mid is : CacheRun) (value : Option Key) (a : StoreView) (key : Key) → IsPassed None was.cursor mid.cursor a value → is.cursor ≡ mid.cursor
    → place mid.cursor ≡ key → is.cursor.passed ≡ Some key
passed_on was mid is value a key p cursor here = ap (λ c. c.passed) cursor ∙ p.passed ∙ ap Some here

entered_epoch : (was mid is : CacheRun) (value : Option Key) (a b : StoreView) → Stays a b → IsPassed None was.cursor mid.cursor a value → mid.totals ≡ was.totals
    → IsEpochIn mid is value → Holds a (SoFar was) → ReadsNext was is a b (Ok read.Epoch)
entered_epoch was mid is value a b stays p totals took so_far =
    let passed = passed_on was mid is value a epoch_key p took.cursor took.key in
    let at = at_all was mid is value a p took.cursor so_far in (
      stays,
      weaker a (At was is (place mid.cursor) value) (SoFar is)
          (λ x h. epoch_at was is took.bytes x passed took.spells (took.totals ∙ totals)
          (subst (λ v. At was is epoch_key v x) took.there (subst (λ k. At was is k value x) took.key h))) at,
      passed,
      weaker a (IsNext was.cursor.passed (place mid.cursor)) (IsNext was.cursor.passed epoch_key) (λ x next. subst (λ k. IsNext was.cursor.passed k x) took.key next) p.next,
    )

entered_record : (was mid is : CacheRun) (value : Option Key) (name : Key) (r : TierRec) (bytes : Key) (a b : StoreView) → Stays a b
    → IsPassed None was.cursor mid.cursor a value → mid.epoch ≡ was.epoch → mid.totals ≡ was.totals → IsRecordIn mid is value name r bytes → Holds a (SoFar was)
    → ReadsNext was is a b (Ok (read.Record name r bytes))
entered_record was mid is value name r bytes a b stays p epoch totals took so_far =
    let here : place mid.cursor ≡ record_key name = took.key.spelled in
    let passed = passed_on was mid is value a (record_key name) p took.cursor here in
    let at = at_all was mid is value a p took.cursor so_far in
    let key : IsKeyOf record_key (record_key name) name = record { spelled = refl; lawful = took.key.lawful } in (
      stays,
      weaker a (At was is (place mid.cursor) value) (SoFar is)
          (λ x h. record_at was is name bytes r x passed key took.spells (took.epoch ∙ epoch) (took.totals ∙ ap (λ t. totals_after t None (Some r)) totals)
          (subst (λ v. At was is (record_key name) v x) took.there (subst (λ k. At was is k value x) here h))) at,
      record {
        spells = took.spells;
        passed = passed;
        next = weaker a (IsNext was.cursor.passed (place mid.cursor)) (IsNext was.cursor.passed (record_key name)) (λ x next. subst (λ k. IsNext was.cursor.passed k x) here next) p.next;
        got = weaker a (λ x. value ≡ fin.get x (place mid.cursor)) (λ x. Some bytes ≡ fin.get x (record_key name)) (λ x got. sym took.there ∙ got ∙ ap (fin.get x) here) p.got;
      },
    )

entered_wrong : (was mid : CacheRun) (value : Option Key) (key : Key) (a b : StoreView) → Stays a b → IsPassed None was.cursor mid.cursor a value
    → key ≡ place mid.cursor → IsWrong IsCacheEntry key value → Holds a (SoFar was) → Stays a b × Holds a (IsFirstWrong IsCacheEntry key)
entered_wrong was mid value key a b stays p here wrong so_far = (
  stays,
  also a (AtNext was (place mid.cursor) value) (SoFar was) (IsFirstWrong IsCacheEntry key)
      (λ x at h. subst (λ k. IsFirstWrong IsCacheEntry k x) (sym here)
      (wrong_next IsCacheEntry was.cursor.passed (place mid.cursor) value x h.right at.next at.got (subst (λ k. IsWrong IsCacheEntry k value) here wrong)))
      (at_next was mid value a p) so_far,
)

pub cache_entered : (was mid is : CacheRun) (value : Option Key) (result : Result Read SurveyFault) (a b : StoreView)
    → Moves None was.cursor mid.cursor a b (Ok (Some value)) → mid.epoch ≡ was.epoch → mid.totals ≡ was.totals → TakesIn mid is value result → Holds a (SoFar was)
    → ReadsNext was is a b result
cache_entered was mid is value (Ok read.End) a b moved epoch totals took so_far = absurd took
cache_entered was mid is value (Ok read.Epoch) a b moved epoch totals took so_far = entered_epoch was mid is value a b moved.0 moved.1 totals took so_far
cache_entered was mid is value (Ok (read.Record name r bytes)) a b moved epoch totals took so_far = entered_record was mid is value name r bytes a b moved.0 moved.1 epoch totals took so_far
cache_entered was mid is value (Err (fault.Store pool f)) a b moved epoch totals took so_far = absurd took
cache_entered was mid is value (Err (fault.BadRecord Cache key)) a b moved epoch totals took so_far = entered_wrong was mid value key a b moved.0 moved.1 took.0 took.1 so_far
cache_entered was mid is value (Err (fault.BadRecord Base key)) a b moved epoch totals took so_far = absurd took
cache_entered was mid is value (Err (fault.Epochs held ahead)) a b moved epoch totals took so_far = absurd took
cache_entered was mid is value (Err (fault.Unsound name)) a b moved epoch totals took so_far = absurd took
cache_entered was mid is value (Err fault.NoMemory) a b moved epoch totals took so_far = moved.0

-- ---- taking in

pub not_there : (key : Key) (value : Option Key) → value ≡ None → IsWrong IsCacheEntry key value
not_there key value none bytes some = absurd (cc)

pub not_an_entry : (key : Key) (value : Option Key) (bytes : Key) → value ≡ Some bytes → (IsCacheEntry key bytes → ⊥) → IsWrong IsCacheEntry key value
not_an_entry key value bytes is none other some = λ right. none (subst (IsCacheEntry key) (sym (same bytes other (sym is ∙ some))) right)
  where
    same : (a b : Key) → ◌≡◌ {A = Option Key} (Some a) (Some b) → a ≡ b
    same a b e = cc

pub ruleset read_rules = (cache_end, cache_entered)

pub ruleset taking_rules = (not_there, not_an_entry)

-- whatever was read, the store stays, and what was read holds
pub went_on : (was is : CacheRun) (what : Read) (a b : StoreView) → ReadsNext was is a b (Ok what) → Stays a b × Holds b (SoFar is)
went_on was is read.End a b h = (h.0, holds_on a b (SoFar is) h.0 h.1)
went_on was is read.Epoch a b h = (h.0, holds_on a b (SoFar is) h.0 h.1)
went_on was is (read.Record name r bytes) a b h = (h.0, holds_on a b (SoFar is) h.0 h.1)
