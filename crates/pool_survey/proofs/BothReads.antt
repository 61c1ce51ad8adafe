-- Reading both on.
use Rattle.std.proofs.Common.{◌≡◌, ℕ, Bool, true, false, Option, None, Some, Result, Ok, Err, refl, sym, ap, subst, ◌∙◌}
use Rattle.std.specs.FinMap as fin
use Rattle.obj_model.specs.declared.change.Pool.TheVariants.{Cache, Base}
use Rattle.pool_keys.specs.Keys.{epoch_key, record_key, state_key}
use Rattle.pool_keys.specs.Maps.{IsBaseMap, IsCacheMap}
use Rattle.store_face.specs.Calls.{Stays}
use Rattle.obj_model.specs.Tables.{is_above}
use Rattle.store_face.specs.Tables.{Table}
use Rattle.store_face.specs.Views.{Holds, StoreView}
use Rattle.tier_types.specs.declared.record.TierRec.{TierRec}
use Rattle.pool_survey.specs.Causes.{AreLevel, FitsAt, IsBaseEntry, IsCacheEntry, IsFirstUnsound, IsFirstWrong}
use Rattle.pool_survey.specs.Places.{IsLast, IsNext}
use Rattle.pool_survey.specs.Runs.{AreRead, BaseSoFar, FitSoFar, IsReadUpTo, IsRecordRead, IsRecordTaken, IsRightSoFar, ReadsNext, ReadsOn, ReadsUpTo, SoFar, TakesRecord, TogetherSoFar}
use Rattle.pool_survey.specs.Steps.{Shows, SpellsRec}
use Rattle.pool_survey.specs.Surveys.{AreSumsOf, BothStay, InBoth, IsSurvey, Surveys}
use Rattle.pool_survey.specs.declared.base.BaseRun.{BaseRun}
use Rattle.pool_survey.specs.declared.both.Run.{Run}
use Rattle.pool_survey.specs.declared.cache.CacheRun.{CacheRun}
use Rattle.pool_survey.specs.declared.cache.Read.TheVariants as read
use Rattle.pool_survey.specs.declared.fault.SurveyFault.{SurveyFault}
use Rattle.pool_survey.specs.declared.fault.SurveyFault.TheVariants as fault
use Rattle.pool_survey.specs.declared.told.Survey.{Survey}
use Rattle.pool_survey.proofs.Later.{also, always, both_twice, read_fails_later, weaker}
use Rattle.store_face.proofs.Later.{holds_back, holds_on, stays_same, stays_twice}
use Rattle.pool_survey.proofs.Orders.{Key, above_more}
use Rattle.pool_survey.proofs.Together.{Beside, fit_more, still_behind}
use Rattle.pool_keys.specs.Values.{IsAtEpoch}

-- ---- two stores at once

pub of_both : (a v : StoreView) (P Q : Table → Type 0) (S : Table → Table → Type 0) → ((x y : Table) → P x → Q y → S x y) → Holds a P → Holds v Q → InBoth a v S
of_both a v P Q S follows p q = weaker a P (λ x. Holds v (S x)) (λ x h. weaker v Q (S x) (λ y k. follows x y h k) q) p

pub with_both : (a v : StoreView) (P Q : Table → Type 0) (R S : Table → Table → Type 0) → ((x y : Table) → P x → Q y → R x y → S x y) → Holds a P → Holds v Q
    → InBoth a v R → InBoth a v S
with_both a v P Q R S follows p q r =
    also a P (λ x. Holds v (R x)) (λ x. Holds v (S x)) (λ x h both. also v Q (R x) (S x) (λ y k one. follows x y h k one) q both) p r

pub both_on : (a b v w : StoreView) (P : Table → Table → Type 0) → Stays a b → Stays v w → InBoth a v P → InBoth b w P
both_on a b v w P h k both = holds_on a b (λ x. Holds w (P x)) h (weaker a (λ x. Holds v (P x)) (λ x. Holds w (P x)) (λ x one. holds_on v w (P x) k one) both)

pub both_back : (a b v w : StoreView) (P : Table → Table → Type 0) → Stays a b → Stays v w → InBoth b w P → InBoth a v P
both_back a b v w P h k both = holds_back a b (λ x. Holds v (P x)) h (weaker b (λ x. Holds w (P x)) (λ x. Holds v (P x)) (λ x one. holds_back v w (P x) k one) both)

pub are_read_on : (run : Run) (a b v w : StoreView) → BothStay a b v w → AreRead run a v → AreRead run b w
are_read_on run a b v w h r = record {
  in_cache = holds_on a b (SoFar run.cache) h.cache_stays r.in_cache;
  in_base = holds_on v w (BaseSoFar run.base) h.base_stays r.in_base;
  in_both = both_on a b v w (TogetherSoFar run) h.cache_stays h.base_stays r.in_both;
}

-- what is told behind calls that changed nothing
pub surveys_later : (result : Result Survey SurveyFault) (a b c v w z : StoreView) → BothStay a b v w → Surveys b c w z result → Surveys a c v z result
surveys_later (Ok s) a b c v w z h k = (
  both_twice a b c v w z h k.0,
  both_back a b v w (IsSurvey s) h.cache_stays h.base_stays k.1,
  holds_back a b (AreSumsOf s.totals) h.cache_stays k.2,
)
surveys_later (Err (fault.Store Cache f)) a b c v w z h k = (read_fails_later a b c f h.cache_stays k.0, stays_twice v w z h.base_stays k.1)
surveys_later (Err (fault.Store Base f)) a b c v w z h k = (stays_twice a b c h.cache_stays k.0, read_fails_later v w z f h.base_stays k.1)
surveys_later (Err (fault.BadRecord Cache key)) a b c v w z h k = (both_twice a b c v w z h k.0, holds_back a b (IsFirstWrong IsCacheEntry key) h.cache_stays k.1)
surveys_later (Err (fault.BadRecord Base key)) a b c v w z h k =
    (both_twice a b c v w z h k.0, holds_back a b IsCacheMap h.cache_stays k.1, holds_back v w (IsFirstWrong IsBaseEntry key) h.base_stays k.2)
surveys_later (Err (fault.Epochs held ahead)) a b c v w z h k = (
  both_twice a b c v w z h k.0,
  holds_back a b (λ x. IsCacheMap x × IsAtEpoch held x) h.cache_stays k.1,
  holds_back v w (λ y. IsBaseMap y × IsAtEpoch ahead y) h.base_stays k.2,
  k.3,
)
surveys_later (Err (fault.Unsound name)) a b c v w z h k = (
  both_twice a b c v w z h k.0,
  holds_back a b IsCacheMap h.cache_stays k.1,
  holds_back v w IsBaseMap h.base_stays k.2,
  both_back a b v w (λ x y. ((held ahead : ℕ) → IsAtEpoch held x → IsAtEpoch ahead y → AreLevel held ahead) × IsFirstUnsound name x y) h.cache_stays h.base_stays k.3,
)
surveys_later (Err fault.NoMemory) a b c v w z h k = both_twice a b c v w z h k

-- ---- faults

with_base : (a b v : StoreView) → Stays a b → BothStay a b v v
with_base a b v h = record { cache_stays = h; base_stays = stays_same v }

pub cache_refused : (was is : CacheRun) (e : SurveyFault) (a b v : StoreView) → ReadsNext was is a b (Err e) → Surveys a b v v (Err e)
cache_refused was is (fault.Store Cache f) a b v h = (h, stays_same v)
cache_refused was is (fault.Store Base f) a b v h = absurd h
cache_refused was is (fault.BadRecord Cache key) a b v h = (with_base a b v h.0, h.1)
cache_refused was is (fault.BadRecord Base key) a b v h = absurd h
cache_refused was is (fault.Epochs held ahead) a b v h = absurd h
cache_refused was is (fault.Unsound name) a b v h = absurd h
cache_refused was is fault.NoMemory a b v h = with_base a b v h

pub base_refused : (bound : Option Key) (was is : BaseRun) (e : SurveyFault) (a b v w : StoreView) → Stays a b → ReadsUpTo bound was is v w (Err e)
    → Surveys a b v w (Err e)
base_refused bound was is (fault.Store Cache f) a b v w stays h = absurd h
base_refused bound was is (fault.Store Base f) a b v w stays h = (stays, h)
base_refused bound was is (fault.BadRecord pool key) a b v w stays h = absurd h
base_refused bound was is (fault.Epochs held ahead) a b v w stays h = absurd h
base_refused bound was is (fault.Unsound name) a b v w stays h = absurd h
base_refused bound was is fault.NoMemory a b v w stays h = record { cache_stays = stays; base_stays = h }

-- ---- one entry more

-- both are at their beginnings
pub together_start : (run : Run) (a v : StoreView) → run.cache.cursor.passed ≡ None → run.base.cursor.passed ≡ None → run.unsound ≡ None
    → Holds a (SoFar run.cache) → Holds v (BaseSoFar run.base) → AreRead run a v
together_start run a v cache base unsound held kept = record {
  in_cache = held;
  in_base = kept;
  in_both = of_both a v (SoFar run.cache) (BaseSoFar run.base) (TogetherSoFar run)
      (λ x y h k. record {
        behind = λ name above. subst (λ p. is_above p (state_key name) ≡ true) (sym base) refl;
        fit = λ none. subst (λ o. FitSoFar o run.cache.cursor.passed x y) (sym unsound)
            (λ name low. absurd (let up = subst (λ p. is_above p (record_key name) ≡ false) cache low in cc));
      }) held kept;
}

same_unsound : (u : Option Key) (p : Option Key) (x y : Table) → ((name : Key) → is_above (Some epoch_key) (record_key name) ≡ false → FitsAt name x y)
    → FitSoFar u p x y → FitSoFar u (Some epoch_key) x y
same_unsound None p x y none fit = none
same_unsound (Some first) p x y none fit = fit

end_together : (was is : Run) (x y : Table) → is.cache.cursor.passed ≡ was.cache.cursor.passed → is.base ≡ was.base → is.unsound ≡ was.unsound
    → TogetherSoFar was x y → TogetherSoFar is x y
end_together was is x y passed base unsound h = record {
  behind = λ name above. subst (λ (b : BaseRun). is_above b.cursor.passed (state_key name) ≡ true) (sym base)
      (h.behind name (subst (λ p. is_above p (record_key name) ≡ true) passed above));
  fit = λ none. subst (λ p. FitSoFar is.unsound p x y) (sym passed) (subst (λ u. FitSoFar u was.cache.cursor.passed x y) (sym unsound)
      (h.fit (sym (ap (λ (b : BaseRun). b.wrong) base) ∙ none)));
}

pub both_end : (was is : Run) (a b v : StoreView) → ReadsNext was.cache is.cache a b (Ok read.End) → is.base ≡ was.base → is.unsound ≡ was.unsound
    → AreRead was a v → ReadsOn was is a b v v (Ok false)
both_end was is a b v h base unsound r = (
  with_base a b v h.0,
  record {
    in_cache = h.1;
    in_base = subst (λ k. Holds v (BaseSoFar k)) (sym base) r.in_base;
    in_both = with_both a v (SoFar is.cache) (BaseSoFar was.base) (TogetherSoFar was) (TogetherSoFar is)
        (λ x y p q one. end_together was is x y h.2 base unsound one) h.1 r.in_base r.in_both;
  },
  λ _. h.3,
)

epoch_together : (was is : Run) (x y : Table) → is.cache.cursor.passed ≡ Some epoch_key → is.base ≡ was.base → is.unsound ≡ was.unsound
    → IsNext was.cache.cursor.passed epoch_key x → TogetherSoFar was x y → TogetherSoFar is x y
epoch_together was is x y passed base unsound next h = record {
  behind = λ name above. subst (λ (b : BaseRun). is_above b.cursor.passed (state_key name) ≡ true) (sym base)
      (h.behind name (above_more was.cache.cursor.passed epoch_key (record_key name) next.above refl));
  fit = λ none. subst (λ p. FitSoFar is.unsound p x y) (sym passed) (subst (λ u. FitSoFar u (Some epoch_key) x y) (sym unsound)
      (same_unsound was.unsound was.cache.cursor.passed x y (λ name low. absurd (cc)) (h.fit (sym (ap (λ (b : BaseRun). b.wrong) base) ∙ none))));
}

pub both_epoch : (was is : Run) (a b v : StoreView) → ReadsNext was.cache is.cache a b (Ok read.Epoch) → is.base ≡ was.base → is.unsound ≡ was.unsound
    → AreRead was a v → ReadsOn was is a b v v (Ok true)
both_epoch was is a b v h base unsound r = (
  with_base a b v h.0,
  record {
    in_cache = h.1;
    in_base = subst (λ k. Holds v (BaseSoFar k)) (sym base) r.in_base;
    in_both = with_both a v (IsNext was.cache.cursor.passed epoch_key) (BaseSoFar was.base) (TogetherSoFar was) (TogetherSoFar is)
        (λ x y next q one. epoch_together was is x y h.2 base unsound next one) h.3 r.in_base r.in_both;
  },
  λ other. absurd (cc),
)

-- ---- a record

-- what holds where nothing was wrong
where_right : (v : StoreView) (o : Option Key) (P : Table → Type 0) → (o ≡ None → Holds v P) → Holds v (λ y. o ≡ None → P y)
where_right v None P h = weaker v P (λ y. ◌≡◌ {A = Option Key} None None → P y) (λ y p _. p) (h refl)
where_right v (Some k) P h = always v (λ y. ◌≡◌ {A = Option Key} (Some k) None → P y) (λ y e. absurd (cc))

record InBase (name : Key) (was is : BaseRun) (y : Table) : Type 0 where
  base : BaseSoFar is y
  last : is.wrong ≡ None → IsLast is.cursor.passed (Some (state_key name)) y
  found : is.wrong ≡ None → is_above was.cursor.passed (state_key name) ≡ true → Shows (fin.get y (state_key name)) is.found

in_base : (name : Key) (was is : BaseRun) (v : StoreView) → IsReadUpTo (Some (state_key name)) was is v → Holds v (InBase name was is)
in_base name was is v h =
    let Last : Table → Type 0 = λ y. is.wrong ≡ None → IsLast is.cursor.passed (Some (state_key name)) y in
    let Shown : Table → Type 0 = λ y. is_above was.cursor.passed (state_key name) ≡ true → Shows (fin.get y (state_key name)) is.found in
    let Found : Table → Type 0 = λ y. is.wrong ≡ None → Shown y in
    also v (λ y. Last y × Found y) (BaseSoFar is) (InBase name was is) (λ y two base. record { base = base; last = two.0; found = two.1 })
    (also v Last Found (λ y. Last y × Found y) (λ y one two. (one, two))
    (where_right v is.wrong (IsLast is.cursor.passed (Some (state_key name))) h.last)
    (where_right v is.wrong Shown (λ none. h.found none name refl)))
    h.base

record InCache (p : Option Key) (name bytes : Key) (x : Table) : Type 0 where
  next : IsNext p (record_key name) x
  got : Some bytes ≡ fin.get x (record_key name)

in_cache : (was is : CacheRun) (a : StoreView) (name : Key) (r : TierRec) (bytes : Key) → IsRecordRead was is a name r bytes
    → Holds a (InCache was.cursor.passed name bytes)
in_cache was is a name r bytes h =
    also a (IsNext was.cursor.passed (record_key name)) (λ x. Some bytes ≡ fin.get x (record_key name)) (InCache was.cursor.passed name bytes)
    (λ x next got. record { next = next; got = got }) h.next h.got

record_together : (was mid is : Run) (name bytes : Key) (r : TierRec) (v : StoreView) (x y : Table) → mid.base ≡ was.base → mid.unsound ≡ was.unsound
    → is.cache.cursor.passed ≡ Some (record_key name) → SpellsRec bytes r → IsRecordTaken mid is v name r → InCache was.cache.cursor.passed name bytes x
    → InBase name mid.base is.base y → TogetherSoFar was x y → TogetherSoFar is x y
record_together was mid is name bytes r v x y base unsound passed spells taken held kept h =
    let p = was.cache.cursor.passed in
    let q = mid.base.cursor.passed in
    let before : (m : Key) → is_above p (record_key m) ≡ true → is_above q (state_key m) ≡ true =
    λ m above. subst (λ (b : BaseRun). is_above b.cursor.passed (state_key m) ≡ true) (sym base) (h.behind m above) in
    record {
      behind = λ m above. still_behind p q is.base.cursor.passed name held.next.above taken.base.up_to before m
          (subst (λ k. is_above k (record_key m) ≡ true) passed above);
      fit = λ none.
          let right : IsRightSoFar None is.base.epoch is.base.cursor.passed y = subst (λ o. IsRightSoFar o is.base.epoch is.base.cursor.passed y) none kept.base.right in
          let beside : Beside p name bytes r is.base.found x y = record {
            next = held.next;
            got = held.got;
            spells = spells;
            shows = kept.found none (before name held.next.above);
          } in
          let fitted : FitSoFar mid.unsound p x y = subst (λ u. FitSoFar u p x y) (sym unsound)
          (h.fit (sym (ap (λ (b : BaseRun). b.wrong) base) ∙ taken.base.wrong none)) in
          subst (λ k. FitSoFar is.unsound k x y) (sym passed)
          (fit_more mid.unsound is.unsound p is.base.cursor.passed name bytes r is.base.found x y taken.told beside right.0 (kept.last none) fitted);
    }

pub both_record : (was mid is : Run) (name bytes : Key) (r : TierRec) (a b v w : StoreView) → ReadsNext was.cache mid.cache a b (Ok (read.Record name r bytes))
    → mid.base ≡ was.base → mid.unsound ≡ was.unsound → TakesRecord mid is name r v w (Ok true) → AreRead was a v → ReadsOn was is a b v w (Ok true)
both_record was mid is name bytes r a b v w h base unsound taken reads =
    let passed : is.cache.cursor.passed ≡ Some (record_key name) = ap (λ (c : CacheRun). c.cursor.passed) taken.1.cache ∙ h.2.passed in (
      record { cache_stays = h.0; base_stays = taken.0 },
      record {
        in_cache = subst (λ c. Holds a (SoFar c)) (sym taken.1.cache) h.1;
        in_base = taken.1.base.base;
        in_both = with_both a v (InCache was.cache.cursor.passed name bytes) (InBase name mid.base is.base) (TogetherSoFar was) (TogetherSoFar is)
            (λ x y held kept one. record_together was mid is name bytes r v x y base unsound passed h.2.spells taken.1 held kept one)
            (in_cache was.cache mid.cache a name r bytes h.2) (in_base name mid.base is.base v taken.1.base) reads.in_both;
      },
      λ other. absurd (cc),
    )

pub both_failed : (was mid is : Run) (name bytes : Key) (r : TierRec) (e : SurveyFault) (a b v w : StoreView)
    → ReadsNext was.cache mid.cache a b (Ok (read.Record name r bytes)) → TakesRecord mid is name r v w (Err e) → ReadsOn was is a b v w (Err e)
both_failed was mid is name bytes r e a b v w h taken = base_refused (Some (state_key name)) mid.base is.base e a b v w h.0 taken

pub both_taken : (was mid is : Run) (name bytes : Key) (r : TierRec) (result : Result Bool SurveyFault) (a b v w : StoreView)
    → ReadsNext was.cache mid.cache a b (Ok (read.Record name r bytes)) → mid.base ≡ was.base → mid.unsound ≡ was.unsound
    → TakesRecord mid is name r v w result → AreRead was a v → ReadsOn was is a b v w result
both_taken was mid is name bytes r (Ok true) a b v w h base unsound taken reads =
    both_record was mid is name bytes r a b v w h base unsound taken reads
both_taken was mid is name bytes r (Ok false) a b v w h base unsound taken reads = absurd taken
both_taken was mid is name bytes r (Err e) a b v w h base unsound taken reads =
    both_failed was mid is name bytes r e a b v w h taken

pub ruleset reading_rules = (cache_refused, both_end, both_epoch, both_record, both_failed)
