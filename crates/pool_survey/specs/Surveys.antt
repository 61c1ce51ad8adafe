-- What two stores hold when a group is attached over them, or the first cause why none is.
use Rattle.std.specs.Prelude.{◌≡◌, ℕ, map, Result, Ok, Err}
use Rattle.std.specs.FinMap as fin
use Rattle.agent_state.specs.declared.totals.Totals.{Totals}
use Rattle.obj_model.specs.declared.change.Pool.TheVariants.{Cache, Base}
use Rattle.obj_ops.specs.Stores.{Store}
use Rattle.pool_keys.specs.Maps.{IsBaseMap, IsCacheMap, Recs, SpellsCache}
use Rattle.store_face.specs.Calls.{ReadFails, Stays}
use Rattle.store_face.specs.Tables.{Table}
use Rattle.store_face.specs.Views.{Holds, StoreView}
use Rattle.tier_join.specs.Promises.{StandsAt}
use Rattle.tier_rec.specs.Records.{totals_over}
use Rattle.pool_survey.specs.Causes.{AreEpochs, AreLevel, IsBaseEntry, IsCacheEntry, IsFirstUnsound, IsFirstWrong}
use Rattle.pool_survey.specs.declared.fault.SurveyFault.{SurveyFault}
use Rattle.pool_survey.specs.declared.fault.SurveyFault.TheVariants as fault
use Rattle.pool_survey.specs.declared.told.Survey.{Survey}
use Rattle.pool_keys.specs.Values.{IsAtEpoch}

-- where both stores tell, their maps stand so to each other
abbrev pub InBoth : (cache base : StoreView) → (Table → Table → Type 0) → Type 0
InBoth cache base P = Holds cache (λ x. Holds base (P x))

-- these are the sums over the records that a cache's map spells
abbrev pub AreSumsOf : Totals → Table → Type 0
AreSumsOf totals x =
    (recs : Recs) (epoch : ℕ) → SpellsCache x recs epoch
    → totals ≡ totals_over (map (λ e. e.1) (fin.entries recs))

-- two maps stand for a plain store at these epochs, and these are the sums over the records
pub record IsSurvey (s : Survey) (x y : Table) : Type 0 where
  pub plain : Store
  pub stands : StandsAt s.cache_epoch s.base_epoch (record { cache = x; base = y }) plain
  pub totals : AreSumsOf s.totals x

-- two stores stay as they were
pub record BothStay (cache caches base bases : StoreView) : Type 0 where
  pub cache_stays : Stays cache caches
  pub base_stays : Stays base bases

-- What is told of a cache and a base. Of several causes the first of these is told: the first wrong
-- key or value of the cache, the first one of the base, the epochs, the first name whose record
-- does not lie rightly over the base. A store's fault is its own call's, and leaves the other store.
abbrev pub Surveys :
    (cache caches base bases : StoreView) → Result Survey SurveyFault → Type 0
Surveys cache caches base bases (Ok s) =
    BothStay cache caches base bases × InBoth cache base (IsSurvey s)
    × Holds cache (AreSumsOf s.totals)
Surveys cache caches base bases (Err (fault.Store Cache f)) =
    ReadFails f cache caches × Stays base bases
Surveys cache caches base bases (Err (fault.Store Base f)) =
    Stays cache caches × ReadFails f base bases
Surveys cache caches base bases (Err (fault.BadRecord Cache key)) =
    BothStay cache caches base bases × Holds cache (IsFirstWrong IsCacheEntry key)
Surveys cache caches base bases (Err (fault.BadRecord Base key)) =
    BothStay cache caches base bases × Holds cache IsCacheMap
    × Holds base (IsFirstWrong IsBaseEntry key)
Surveys cache caches base bases (Err (fault.Epochs held ahead)) =
    BothStay cache caches base bases × Holds cache (λ x. IsCacheMap x × IsAtEpoch held x)
    × Holds base (λ y. IsBaseMap y × IsAtEpoch ahead y)
    × AreEpochs held ahead
Surveys cache caches base bases (Err (fault.Unsound name)) =
    BothStay cache caches base bases × Holds cache IsCacheMap × Holds base IsBaseMap
    × InBoth cache base (λ x y. ((held ahead : ℕ) → IsAtEpoch held x → IsAtEpoch ahead y
    → AreLevel held ahead)
    × IsFirstUnsound name x y)
Surveys cache caches base bases (Err fault.NoMemory) = BothStay cache caches base bases

-- What is told of the records of a cache alone: their sums, or the first wrong key or value.
abbrev pub Sums : (cache caches : StoreView) → Result Totals SurveyFault → Type 0
Sums cache caches (Ok totals) =
    Stays cache caches × Holds cache (λ x. IsCacheMap x × AreSumsOf totals x)
Sums cache caches (Err (fault.Store Cache f)) = ReadFails f cache caches
Sums cache caches (Err (fault.Store Base f)) = ⊥
Sums cache caches (Err (fault.BadRecord Cache key)) =
    Stays cache caches × Holds cache (IsFirstWrong IsCacheEntry key)
Sums cache caches (Err (fault.BadRecord Base key)) = ⊥
Sums cache caches (Err (fault.Epochs held ahead)) = ⊥
Sums cache caches (Err (fault.Unsound name)) = ⊥
Sums cache caches (Err fault.NoMemory) = Stays cache caches
