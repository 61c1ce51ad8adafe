-- What is told at the end.
use Rattle.std.proofs.Common.{◌≡◌, inl, inr, ℕ, true, false, Option, None, Some, Result, Ok, Err, refl, sym, subst, ◌∙◌}
use Rattle.std.specs.FinMap as fin
use Rattle.tier_outside.proofs.Moments.{now_weaker}
use Rattle.obj_model.specs.declared.change.Pool.TheVariants.{Cache, Base}
use Rattle.pool_keys.specs.Keys.{epoch_key, record_key}
use Rattle.pool_keys.specs.Maps.{IsBaseMap, IsCacheMap}
use Rattle.pool_keys.specs.Values.{IsAtEpoch, IsEpochOf, IsRecOf}
use Rattle.pool_keys.proofs.Epochs.{epoch_one}
use Rattle.store_face.specs.Calls.{Stays}
use Rattle.store_face.specs.Limits.{IsPoolMap}
use Rattle.store_face.specs.Tables.{Table}
use Rattle.store_face.specs.Views.{Holds, IsOne, Sound, StoreView, no_map}
use Rattle.tier_types.specs.declared.record.TierRec.{TierRec}
use Rattle.pool_survey.specs.Causes.{AreLevel, FitsAt, IsBaseEntry, IsCacheEntry, IsFirstUnsound, IsFirstWrong}
use Rattle.pool_survey.specs.Places.{IsLast}
use Rattle.pool_survey.specs.Runs.{AreRead, BaseSoFar, Concludes, Finishes, FitSoFar, IsReadUpTo, IsRightSoFar, ReadsNext, ReadsOn, ReadsUpTo, SoFar, TogetherSoFar}
use Rattle.pool_survey.specs.Surveys.{AreSumsOf, BothStay, IsSurvey, Sums, Surveys}
use Rattle.pool_survey.specs.declared.base.BaseRun.{BaseRun}
use Rattle.pool_survey.specs.declared.both.Run.{Run}
use Rattle.pool_survey.specs.declared.cache.CacheRun.{CacheRun}
use Rattle.pool_survey.specs.declared.cache.Read.TheVariants as read
use Rattle.pool_survey.specs.declared.fault.SurveyFault.{SurveyFault}
use Rattle.pool_survey.specs.declared.fault.SurveyFault.TheVariants as fault
use Rattle.pool_survey.specs.declared.told.Survey.{Survey}
use Rattle.pool_survey.proofs.Later.{also, both_twice, read_fails_later, weaker}
use Rattle.store_face.proofs.Later.{holds_back, holds_on, stays_same, stays_twice}
use Rattle.pool_survey.proofs.Orders.{Key}
use Rattle.pool_survey.proofs.Places.{by_place, right_last, said_last}
use Rattle.pool_survey.proofs.BaseReads.{base_start}
use Rattle.pool_survey.proofs.BothReads.{are_read_on, base_refused, surveys_later, together_start, with_both}
use Rattle.pool_survey.proofs.CacheReads.{cache_start, went_on}
use Rattle.pool_survey.proofs.Stands.{surveyed}
use Rattle.pool_survey.proofs.Summing.{sums_last}

-- ---- the cache

-- a cache's map that was read to its end
pub record WholeCache (run : CacheRun) (x : Table) : Type 0 where
  pub is_map : IsCacheMap x
  pub epoch : IsAtEpoch run.epoch x
  pub sums : AreSumsOf run.totals x
  pub last : IsLast run.cursor.passed None x

lawful_map : (v : StoreView) → Sound v → v.live ≡ true → Holds v IsPoolMap
lawful_map v sound live = now_weaker no_map v.moments (IsOne v.used) (λ s. IsPoolMap s.before.table) (λ s one. one.lawful) (sound live)

whole_at : (run : CacheRun) (x : Table) → IsPoolMap x → SoFar run x → IsLast run.cursor.passed None x → WholeCache run x
whole_at run x lawful h last = record {
  is_map = right_last IsCacheEntry run.cursor.passed x h.right last;
  epoch = said_last run.cursor.passed None epoch_key (λ o. IsEpochOf o run.epoch) x h.epoch last refl;
  sums = sums_last run.cursor.passed x run.totals last lawful h.sums;
  last = last;
}

pub whole_cache : (run : CacheRun) (v : StoreView) → Sound v → v.live ≡ true → Holds v (SoFar run) → Holds v (IsLast run.cursor.passed None) → Holds v (WholeCache run)
whole_cache run v sound live so_far last =
    let Ready : Table → Type 0 = λ x. SoFar run x × IsLast run.cursor.passed None x in
    also v IsPoolMap Ready (WholeCache run) (λ x lawful h. whole_at run x lawful h.0 h.1) (lawful_map v sound live)
    (also v (SoFar run) (IsLast run.cursor.passed None) Ready (λ x one two. (one, two)) so_far last)

-- ---- the sums alone

pub sums_told : (was is : CacheRun) (a b c : StoreView) → Stays a b → Sound b → b.live ≡ true → ReadsNext was is b c (Ok read.End) → Sums a c (Ok is.totals)
sums_told was is a b c stays sound live h = (
  stays_twice a b c stays h.0,
  holds_back a b (λ x. IsCacheMap x × AreSumsOf is.totals x) stays
      (weaker b (WholeCache is) (λ x. IsCacheMap x × AreSumsOf is.totals x) (λ x w. (w.is_map, w.sums)) (whole_cache is b sound live h.1 h.3)),
)

pub sums_refused : (was is : CacheRun) (e : SurveyFault) (a b c : StoreView) → Stays a b → ReadsNext was is b c (Err e) → Sums a c (Err e)
sums_refused was is (fault.Store Cache f) a b c stays h = read_fails_later a b c f stays h
sums_refused was is (fault.Store Base f) a b c stays h = absurd h
sums_refused was is (fault.BadRecord Cache key) a b c stays h = (stays_twice a b c stays h.0, holds_back a b (IsFirstWrong IsCacheEntry key) stays h.1)
sums_refused was is (fault.BadRecord Base key) a b c stays h = absurd h
sums_refused was is (fault.Epochs held ahead) a b c stays h = absurd h
sums_refused was is (fault.Unsound name) a b c stays h = absurd h
sums_refused was is fault.NoMemory a b c stays h = stays_twice a b c stays h

-- ---- the base

-- a base's map that was read to its end
pub record WholeBase (run : BaseRun) (y : Table) : Type 0 where
  pub is_map : IsBaseMap y
  pub epoch : IsAtEpoch run.epoch y

base_at : (run : BaseRun) (y : Table) → run.wrong ≡ None → BaseSoFar run y → IsLast run.cursor.passed None y → WholeBase run y
base_at run y none h last =
    let right : IsRightSoFar None run.epoch run.cursor.passed y = subst (λ o. IsRightSoFar o run.epoch run.cursor.passed y) none h.right in
    record {
      is_map = right_last IsBaseEntry run.cursor.passed y right.0 last;
      epoch = said_last run.cursor.passed None epoch_key (λ o. IsEpochOf o run.epoch) y right.1 last refl;
    }

whole_base : (was run : BaseRun) (v : StoreView) → run.wrong ≡ None → IsReadUpTo None was run v → Holds v (WholeBase run)
whole_base was run v none h = also v (BaseSoFar run) (IsLast run.cursor.passed None) (WholeBase run) (λ y one two. base_at run y none one two) h.base (h.last none)

-- ---- both

no_value : (o : Option Key) (r : TierRec) → IsRecOf o (Some r) → (v : Key) × (o ≡ Some v)
no_value None r h = absurd h
no_value (Some v) r h = (v, refl)

-- all records fit
all_fit : (run : Run) (x y : Table) → IsLast run.cache.cursor.passed None x → run.base.wrong ≡ None → run.unsound ≡ None → TogetherSoFar run x y
    → (name : Key) → FitsAt name x y
all_fit run x y last none unsound h name r s have =
    let fit : FitSoFar None run.cache.cursor.passed x y = subst (λ u. FitSoFar u run.cache.cursor.passed x y) unsound (h.fit none) in
    by_place run.cache.cursor.passed (record_key name)
    (λ above. absurd (let v = no_value (fin.get x (record_key name)) r have.cached in let out = last (record_key name) v.0 v.1 above in cc))
    (λ low. fit name low r s have)

sound_pair : (run : Run) (base : BaseRun) (s : Survey) (x y : Table) → run.base.wrong ≡ None → run.unsound ≡ None → AreLevel run.cache.epoch base.epoch
    → s ≡ record { cache_epoch = run.cache.epoch; base_epoch = base.epoch; totals = run.cache.totals } → WholeCache run.cache x → WholeBase base y
    → TogetherSoFar run x y → IsSurvey s x y
sound_pair run base s x y none unsound level is cached based h =
    subst (λ (q : Survey). IsSurvey q x y) (sym is)
    (surveyed (record { cache_epoch = run.cache.epoch; base_epoch = base.epoch; totals = run.cache.totals }) x y cached.is_map based.is_map cached.epoch based.epoch level
    (all_fit run x y cached.last none unsound h) cached.sums)

levels : (c b : ℕ) (x y : Table) → IsAtEpoch c x → IsAtEpoch b y → AreLevel c b → (held ahead : ℕ) → IsAtEpoch held x → IsAtEpoch ahead y → AreLevel held ahead
levels c b x y at_c at_b level held ahead h k =
    let one = epoch_one (fin.get x epoch_key) c held at_c h in
    let two = epoch_one (fin.get y epoch_key) b ahead at_b k in
    subst (λ n. AreLevel n ahead) one (subst (AreLevel c) two level)

unsound_pair : (run : Run) (base : BaseRun) (name : Key) (x y : Table) → run.base.wrong ≡ None → run.unsound ≡ Some name → AreLevel run.cache.epoch base.epoch
    → WholeCache run.cache x → WholeBase base y → TogetherSoFar run x y
    → ((held ahead : ℕ) → IsAtEpoch held x → IsAtEpoch ahead y → AreLevel held ahead) × IsFirstUnsound name x y
unsound_pair run base name x y none unsound level cached based h = (
  levels run.cache.epoch base.epoch x y cached.epoch based.epoch level,
  subst (λ u. FitSoFar u run.cache.cursor.passed x y) unsound (h.fit none),
)

wrong_base : (base : BaseRun) (key : Key) (y : Table) → base.wrong ≡ Some key → BaseSoFar base y → IsFirstWrong IsBaseEntry key y
wrong_base base key y wrong h = subst (λ o. IsRightSoFar o base.epoch base.cursor.passed y) wrong h.right

concluded : (run : Run) (base : BaseRun) (result : Result Survey SurveyFault) (a v w : StoreView) → Stays v w → IsReadUpTo None run.base base v
    → Concludes (record { cache = run.cache; base = base; unsound = run.unsound }) result → Holds a (WholeCache run.cache) → AreRead run a v → Surveys a a v w result
concluded run base (Ok s) a v w stays kept told whole r = (
  record { cache_stays = stays_same a; base_stays = stays },
  with_both a v (WholeCache run.cache) (WholeBase base) (TogetherSoFar run) (IsSurvey s)
      (λ x y cached based one. sound_pair run base s x y (kept.wrong told.0) told.2 told.1 told.3 cached based one) whole (whole_base run.base base v told.0 kept) r.in_both,
  weaker a (WholeCache run.cache) (AreSumsOf s.totals) (λ x c. subst (λ (q : Survey). AreSumsOf q.totals x) (sym told.3) c.sums) whole,
)
concluded run base (Err (fault.Store pool f)) a v w stays kept told whole r = absurd told
concluded run base (Err (fault.BadRecord Cache key)) a v w stays kept told whole r = absurd told
concluded run base (Err (fault.BadRecord Base key)) a v w stays kept told whole r = (
  record { cache_stays = stays_same a; base_stays = stays },
  weaker a (WholeCache run.cache) IsCacheMap (λ x c. c.is_map) whole,
  weaker v (BaseSoFar base) (IsFirstWrong IsBaseEntry key) (λ y h. wrong_base base key y told h) kept.base,
)
concluded run base (Err (fault.Epochs held ahead)) a v w stays kept told whole r = (
  record { cache_stays = stays_same a; base_stays = stays },
  weaker a (WholeCache run.cache) (λ x. IsCacheMap x × IsAtEpoch held x) (λ x c. (c.is_map, subst (λ n. IsAtEpoch n x) (sym told.1) c.epoch)) whole,
  weaker v (WholeBase base) (λ y. IsBaseMap y × IsAtEpoch ahead y) (λ y b. (b.is_map, subst (λ n. IsAtEpoch n y) (sym told.2) b.epoch)) (whole_base run.base base v told.0 kept),
  told.3,
)
concluded run base (Err (fault.Unsound name)) a v w stays kept told whole r = (
  record { cache_stays = stays_same a; base_stays = stays },
  weaker a (WholeCache run.cache) IsCacheMap (λ x c. c.is_map) whole,
  weaker v (WholeBase base) IsBaseMap (λ y b. b.is_map) (whole_base run.base base v told.0 kept),
  with_both a v (WholeCache run.cache) (WholeBase base) (TogetherSoFar run)
      (λ x y. ((held ahead : ℕ) → IsAtEpoch held x → IsAtEpoch ahead y → AreLevel held ahead) × IsFirstUnsound name x y)
      (λ x y cached based one. unsound_pair run base name x y (kept.wrong told.0) told.2 told.1 cached based one) whole (whole_base run.base base v told.0 kept) r.in_both,
)
concluded run base (Err fault.NoMemory) a v w stays kept told whole r = absurd told

-- what is told once the cache was read to its end
pub finished : (run : Run) (result : Result Survey SurveyFault) (a v w : StoreView) → Finishes run v w result → Sound a → a.live ≡ true
    → Holds a (IsLast run.cache.cursor.passed None) → AreRead run a v → Surveys a a v w result
finished run result a v w (inl done) sound live last r =
    concluded run done.0 result a v w done.1.0 done.1.1 done.1.2 (whole_cache run.cache a sound live r.in_cache last) r
finished run result a v w (inr failed) sound live last r =
    subst (Surveys a a v w) (sym failed.2) (base_refused None run.base failed.0 failed.1 a a v w (stays_same a) failed.3)

pub finish_done : (run : Run) (base : BaseRun) (result : Result Survey SurveyFault) (v w : StoreView) → ReadsUpTo None run.base base v w (Ok tt)
    → Concludes (record { cache = run.cache; base = base; unsound = run.unsound }) result → Finishes run v w result
finish_done run base result v w h told = inl (base, (h.0, h.1, told))

-- the whole, behind what was read before
pub survey_told : (was is : Run) (result : Result Survey SurveyFault) (a b c v w z y : StoreView) → BothStay a b v w → Sound c → b.live ≡ true
    → ReadsOn was is b c w z (Ok false) → Finishes is z y result → Surveys a c v y result
survey_told was is result a b c v w z y h sound live read done =
    let stays : BothStay b c w z = read.0 in
    surveys_later result a c c v z y (both_twice a b c v w z h stays)
    (finished is result c z y done sound (stays.cache_stays.live ∙ live)
    (holds_on b c (IsLast is.cache.cursor.passed None) stays.cache_stays (read.2 refl))
    (are_read_on is b c w z stays read.1))

-- what was read before, and one entry more
pub survey_more : (was is : Run) (a b c v w z : StoreView) → BothStay a b v w → ReadsOn was is b c w z (Ok true) → BothStay a c v z × AreRead is c z
survey_more was is a b c v w z h read = (both_twice a b c v w z h read.0, are_read_on is b c w z read.0 read.1)

pub survey_refused : (was is : Run) (e : SurveyFault) (a b c v w z : StoreView) → BothStay a b v w → ReadsOn was is b c w z (Err e) → Surveys a c v z (Err e)
survey_refused was is e a b c v w z h read = surveys_later (Err e) a b c v w z h read

pub ruleset finish_rules = (finish_done, base_refused)

pub ruleset sum_rules = (sums_told, sums_refused, went_on, cache_start, stays_same, stays_twice)

pub ruleset survey_rules = (survey_told, survey_more, survey_refused, together_start, cache_start, base_start, stays_same)
