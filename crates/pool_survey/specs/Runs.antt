-- How far a cache and a base were read, and what each reading promises.
use Rattle.std.specs.Prelude.{◌≡◌, ◌⊎◌, ℕ, Bool, true, false, List, Option, Some, None, map, filter, not, Result, Ok, Err}
use Rattle.std.specs.List.{fold}
use Rattle.std.specs.FinMap as fin
use Rattle.agent_state.specs.declared.totals.Totals.{Totals}
use Rattle.obj_model.specs.declared.change.Pool.TheVariants.{Cache, Base}
use Rattle.obj_model.specs.declared.memory.NoMemory.{NoMemory}
use Rattle.obj_model.specs.declared.state.NameState.{NameState}
use Rattle.pool_keys.specs.Keys.{IsKeyOf, epoch_key, record_key, state_key}
use Rattle.pool_keys.specs.Maps.{Recs, SpellsCache}
use Rattle.pool_keys.specs.Values.{IsEpochOf, SpellsEpoch}
use Rattle.rec_codec.specs.Spelling.{SpellsState}
use Rattle.store_face.specs.Calls.{ReadFails, Stays}
use Rattle.obj_model.specs.Tables.{is_above}
use Rattle.store_face.specs.Tables.{Table}
use Rattle.store_face.specs.Views.{Holds, StoreView}
use Rattle.tier_rec.specs.Records.{totals_after}
use Rattle.tier_types.specs.declared.record.TierRec.{TierRec}
use Rattle.pool_survey.specs.Causes.{AreEpochs, AreLevel, Clashes, Fits, FitsAt, IsBaseEntry, IsCacheEntry, IsFirstUnsound, IsFirstWrong}
use Rattle.pool_survey.specs.Places.{AreRight, IsLast, IsNext, IsPage, IsSaid, is_within}
use Rattle.pool_survey.specs.Steps.{IsFound, Shows, SpellsRec, place}
use Rattle.pool_survey.specs.Surveys.{BothStay, InBoth, Surveys}
use Rattle.pool_survey.specs.declared.base.BaseRun.{BaseRun}
use Rattle.pool_survey.specs.declared.both.Run.{Run}
use Rattle.pool_survey.specs.declared.cache.CacheRun.{CacheRun}
use Rattle.pool_survey.specs.declared.cache.Read.{Read}
use Rattle.pool_survey.specs.declared.cache.Read.TheVariants as read
use Rattle.pool_survey.specs.declared.fault.SurveyFault.{SurveyFault}
use Rattle.pool_survey.specs.declared.fitting.Found.{Found}
use Rattle.pool_survey.specs.declared.fault.SurveyFault.TheVariants as fault
use Rattle.pool_survey.specs.declared.told.Survey.{Survey}

-- ---- the cache

-- the sums over no records
abbrev pub no_sums : Totals
no_sums = record { records = 0; dirty = 0; bytes = 0 }

-- the sums over records that come one after another
abbrev pub summed : List TierRec → Totals
summed rs = fold (λ t r. totals_after t None (Some r)) no_sums rs

-- the records of the names up to the key that was passed
abbrev pub up_to : Option (List ℕ) → List (List ℕ × TierRec) → List (List ℕ × TierRec)
up_to passed es = filter (λ e. not (is_above passed (record_key e.0))) es

-- the sums over the records up to the key that was passed
abbrev pub AreSoFar : Option (List ℕ) → Totals → Table → Type 0
AreSoFar passed totals x =
    (recs : Recs) (epoch : ℕ) → SpellsCache x recs epoch
    → totals ≡ summed (map (λ e. e.1) (up_to passed (fin.entries recs)))

-- a cache was read up to a place: what stands up to it is right, and these are its epoch and sums
pub record SoFar (run : CacheRun) (x : Table) : Type 0 where
  pub page : IsPage run.cursor.passed run.cursor.page.items x
  pub right : AreRight IsCacheEntry run.cursor.passed x
  pub epoch : IsSaid epoch_key (λ o. IsEpochOf o run.epoch) run.cursor.passed x
  pub sums : AreSoFar run.cursor.passed run.totals x

-- nothing spells an entry there
abbrev pub IsWrong : (List ℕ → List ℕ → Type 0) → (key : List ℕ) → Option (List ℕ) → Type 0
IsWrong IsRight key value = (bytes : List ℕ) → value ≡ Some bytes → IsRight key bytes → ⊥

-- the epoch was taken in
pub record IsEpochIn (was is : CacheRun) (value : Option (List ℕ)) : Type 0 where
  pub bytes : List ℕ
  pub there : value ≡ Some bytes
  pub key : place was.cursor ≡ epoch_key
  pub spells : SpellsEpoch bytes is.epoch
  pub cursor : is.cursor ≡ was.cursor
  pub totals : is.totals ≡ was.totals

-- a record was taken in
pub record IsRecordIn (was is : CacheRun) (value : Option (List ℕ)) (name : List ℕ) (r : TierRec)
    (bytes : List ℕ)
    : Type 0 where
  pub there : value ≡ Some bytes
  pub key : IsKeyOf record_key (place was.cursor) name
  pub spells : SpellsRec bytes r
  pub cursor : is.cursor ≡ was.cursor
  pub epoch : is.epoch ≡ was.epoch
  pub totals : is.totals ≡ totals_after was.totals None (Some r)

-- an entry was counted in
abbrev pub Counts : (was is : CacheRun) → (bytes : List ℕ) → Read → Type 0
Counts was is bytes read.End = ⊥
Counts was is bytes read.Epoch = IsEpochIn was is (Some bytes)
Counts was is bytes (read.Record name r spelled) =
    (spelled ≡ bytes) × IsRecordIn was is (Some bytes) name r bytes

-- a wrong key of the cache is told, unless there was no memory
abbrev pub Refuses : (key : List ℕ) → SurveyFault → Type 0
Refuses key (fault.Store pool f) = ⊥
Refuses key (fault.BadRecord Cache other) = other ≡ key
Refuses key (fault.BadRecord Base other) = ⊥
Refuses key (fault.Epochs held ahead) = ⊥
Refuses key (fault.Unsound name) = ⊥
Refuses key fault.NoMemory = Unit {0}

-- what was taken in, or why nothing was
abbrev pub TakesIn :
    (was is : CacheRun) → Option (List ℕ) → Result Read SurveyFault → Type 0
TakesIn was is value (Ok read.End) = ⊥
TakesIn was is value (Ok read.Epoch) = IsEpochIn was is value
TakesIn was is value (Ok (read.Record name r bytes)) = IsRecordIn was is value name r bytes
TakesIn was is value (Err (fault.Store pool f)) = ⊥
TakesIn was is value (Err (fault.BadRecord Cache key)) =
    (key ≡ place was.cursor) × IsWrong IsCacheEntry key value
TakesIn was is value (Err (fault.BadRecord Base key)) = ⊥
TakesIn was is value (Err (fault.Epochs held ahead)) = ⊥
TakesIn was is value (Err (fault.Unsound name)) = ⊥
TakesIn was is value (Err fault.NoMemory) = Unit {0}

-- the record of a name was read next
pub record IsRecordRead (was is : CacheRun) (v : StoreView) (name : List ℕ) (r : TierRec)
    (bytes : List ℕ)
    : Type 0 where
  pub spells : SpellsRec bytes r
  pub passed : is.cursor.passed ≡ Some (record_key name)
  pub next : Holds v (IsNext was.cursor.passed (record_key name))
  pub got : Holds v (λ t. Some bytes ≡ fin.get t (record_key name))

-- what was read next, or why nothing was
abbrev pub ReadsNext :
    (was is : CacheRun) → (old new : StoreView) → Result Read SurveyFault → Type 0
ReadsNext was is old new (Ok read.End) =
    Stays old new × Holds old (SoFar is) × (is.cursor.passed ≡ was.cursor.passed)
    × Holds old (IsLast is.cursor.passed None)
ReadsNext was is old new (Ok read.Epoch) =
    Stays old new × Holds old (SoFar is) × (is.cursor.passed ≡ Some epoch_key)
    × Holds old (IsNext was.cursor.passed epoch_key)
ReadsNext was is old new (Ok (read.Record name r bytes)) =
    Stays old new × Holds old (SoFar is) × IsRecordRead was is old name r bytes
ReadsNext was is old new (Err (fault.Store Cache f)) = ReadFails f old new
ReadsNext was is old new (Err (fault.Store Base f)) = ⊥
ReadsNext was is old new (Err (fault.BadRecord Cache key)) =
    Stays old new × Holds old (IsFirstWrong IsCacheEntry key)
ReadsNext was is old new (Err (fault.BadRecord Base key)) = ⊥
ReadsNext was is old new (Err (fault.Epochs held ahead)) = ⊥
ReadsNext was is old new (Err (fault.Unsound name)) = ⊥
ReadsNext was is old new (Err fault.NoMemory) = Stays old new

-- ---- the base

-- what stands up to a place in the base is right, with this epoch; or the first wrong key is known
abbrev pub IsRightSoFar : Option (List ℕ) → ℕ → Option (List ℕ) → Table → Type 0
IsRightSoFar None epoch passed y =
    AreRight IsBaseEntry passed y × IsSaid epoch_key (λ o. IsEpochOf o epoch) passed y
IsRightSoFar (Some key) epoch passed y = IsFirstWrong IsBaseEntry key y

-- a base was read up to a place
pub record BaseSoFar (run : BaseRun) (y : Table) : Type 0 where
  pub page : IsPage run.cursor.passed run.cursor.page.items y
  pub right : IsRightSoFar run.wrong run.epoch run.cursor.passed y

-- what was found under the bound, where the reading up to it began below it
abbrev pub IsFoundSoFar : (bound from : Option (List ℕ)) → BaseRun → Table → Type 0
IsFoundSoFar bound from run y =
    run.wrong ≡ None → (name : List ℕ) → bound ≡ Some (state_key name)
    → is_above from (state_key name) ≡ true
    → IsSaid (state_key name) (λ o. Shows o run.found) run.cursor.passed y

-- a state's spelling is kept where its key is the bound
abbrev pub IsFoundIn : Option (List ℕ) → (was is : BaseRun) → (bytes : List ℕ) → ℕ → Type 0
IsFoundIn bound was is bytes seq =
    ((bound ≡ Some (place was.cursor))
    × (is.found ≡ Some (record { spelled = bytes; seq = seq })))
    ⊎ ((bound ≡ Some (place was.cursor) → ⊥) × (is.found ≡ was.found))

-- an epoch was counted in
pub record IsEpochKept (was is : BaseRun) (bytes : List ℕ) : Type 0 where
  pub key : place was.cursor ≡ epoch_key
  pub spells : SpellsEpoch bytes is.epoch
  pub found : is.found ≡ was.found

-- a state was counted in
pub record IsStateKept (bound : Option (List ℕ)) (was is : BaseRun) (bytes : List ℕ) : Type 0 where
  pub name : List ℕ
  pub key : IsKeyOf state_key (place was.cursor) name
  pub state : NameState
  pub spells : SpellsState bytes state
  pub epoch : is.epoch ≡ was.epoch
  pub found : IsFoundIn bound was is bytes state.seq

-- an entry was counted in
pub record IsCounted (bound : Option (List ℕ)) (was is : BaseRun) (bytes : List ℕ) : Type 0 where
  pub cursor : is.cursor ≡ was.cursor
  pub wrong : is.wrong ≡ was.wrong
  pub entry : IsEpochKept was is bytes ⊎ IsStateKept bound was is bytes

-- the key that was passed was remembered as wrong
pub record Remembers (was is : BaseRun) : Type 0 where
  pub cursor : is.cursor ≡ was.cursor
  pub key : is.wrong ≡ Some (place was.cursor)

-- a wrong one was remembered
pub record IsRefused (was is : BaseRun) (value : Option (List ℕ)) : Type 0 where
  pub remembers : Remembers was is
  pub wrong : IsWrong IsBaseEntry (place was.cursor) value

-- a key is the bound, or is not
abbrev pub IsAtBound : Option (List ℕ) → List ℕ → Bool → Type 0
IsAtBound bound key true = bound ≡ Some key
IsAtBound bound key false = bound ≡ Some key → ⊥

-- an entry was counted in, or remembered as wrong, unless there was no memory
abbrev pub CountsIn :
    Option (List ℕ) → (was is : BaseRun) → Option (List ℕ) → Result (Unit {0}) NoMemory → Type 0
CountsIn bound was is value (Ok done) =
    ((bytes : List ℕ) × (value ≡ Some bytes) × IsCounted bound was is bytes)
    ⊎ IsRefused was is value
CountsIn bound was is value (Err e) = Unit {0}

-- the place is the one of before, or a key within the bound
abbrev pub IsUpTo : (bound from passed : Option (List ℕ)) → Type 0
IsUpTo bound from passed =
    (passed ≡ from) ⊎ ((key : List ℕ) × (passed ≡ Some key) × (is_within bound key ≡ true))

-- a base was read on
pub record IsBaseRead (bound : Option (List ℕ)) (was is : BaseRun) (v : StoreView) : Type 0 where
  pub base : Holds v (BaseSoFar is)
  pub wrong : is.wrong ≡ None → was.wrong ≡ None
  pub up_to : IsUpTo bound was.cursor.passed is.cursor.passed
  pub found : (from : Option (List ℕ)) → Holds v (IsFoundSoFar bound from was)
      → Holds v (IsFoundSoFar bound from is)

-- the next entry of a base within the bound was read, if there is one and none was wrong
abbrev pub ReadsBase :
    Option (List ℕ) → (was is : BaseRun) → (old new : StoreView) → Result Bool SurveyFault → Type 0
ReadsBase bound was is old new (Ok true) = Stays old new × IsBaseRead bound was is old
ReadsBase bound was is old new (Ok false) =
    Stays old new × IsBaseRead bound was is old
    × (is.wrong ≡ None → Holds old (IsLast is.cursor.passed bound))
ReadsBase bound was is old new (Err (fault.Store Cache f)) = ⊥
ReadsBase bound was is old new (Err (fault.Store Base f)) = ReadFails f old new
ReadsBase bound was is old new (Err (fault.BadRecord pool key)) = ⊥
ReadsBase bound was is old new (Err (fault.Epochs held ahead)) = ⊥
ReadsBase bound was is old new (Err (fault.Unsound name)) = ⊥
ReadsBase bound was is old new (Err fault.NoMemory) = Stays old new

-- all entries of a base within the bound were read, unless one is wrong
pub record IsReadUpTo (bound : Option (List ℕ)) (was is : BaseRun) (v : StoreView) : Type 0 where
  pub base : Holds v (BaseSoFar is)
  pub wrong : is.wrong ≡ None → was.wrong ≡ None
  pub up_to : IsUpTo bound was.cursor.passed is.cursor.passed
  pub last : is.wrong ≡ None → Holds v (IsLast is.cursor.passed bound)
  pub found : is.wrong ≡ None → (name : List ℕ) → bound ≡ Some (state_key name)
      → Holds v (λ y. is_above was.cursor.passed (state_key name) ≡ true
      → Shows (fin.get y (state_key name)) is.found)

abbrev pub ReadsUpTo :
    Option (List ℕ) → (was is : BaseRun) → (old new : StoreView)
    → Result (Unit {0}) SurveyFault → Type 0
ReadsUpTo bound was is old new (Ok done) = Stays old new × IsReadUpTo bound was is old
ReadsUpTo bound was is old new (Err (fault.Store Cache f)) = ⊥
ReadsUpTo bound was is old new (Err (fault.Store Base f)) = ReadFails f old new
ReadsUpTo bound was is old new (Err (fault.BadRecord pool key)) = ⊥
ReadsUpTo bound was is old new (Err (fault.Epochs held ahead)) = ⊥
ReadsUpTo bound was is old new (Err (fault.Unsound name)) = ⊥
ReadsUpTo bound was is old new (Err fault.NoMemory) = Stays old new

-- ---- both

-- all records up to a place fit; or the first that does not is known
abbrev pub FitSoFar : Option (List ℕ) → Option (List ℕ) → Table → Table → Type 0
FitSoFar None passed x y =
    (name : List ℕ) → is_above passed (record_key name) ≡ false → FitsAt name x y
FitSoFar (Some name) passed x y = IsFirstUnsound name x y

-- both were read up to their places, of which the base's is not ahead
pub record TogetherSoFar (run : Run) (x y : Table) : Type 0 where
  pub behind : (name : List ℕ) → is_above run.cache.cursor.passed (record_key name) ≡ true
      → is_above run.base.cursor.passed (state_key name) ≡ true
  pub fit : run.base.wrong ≡ None → FitSoFar run.unsound run.cache.cursor.passed x y

pub record AreRead (run : Run) (cache base : StoreView) : Type 0 where
  pub in_cache : Holds cache (SoFar run.cache)
  pub in_base : Holds base (BaseSoFar run.base)
  pub in_both : InBoth cache base (TogetherSoFar run)

-- what the comparison makes of the first name that does not fit
abbrev pub IsCompared : (was is : Option (List ℕ)) → Option Found → List ℕ → TierRec → Type 0
IsCompared (Some first) is found name r = is ≡ Some first
IsCompared None None found name r =
    (s : NameState) → IsFound found s → Fits r.dirty r.state s
IsCompared None (Some other) found name r =
    (other ≡ name) × ((s : NameState) → IsFound found s → Clashes r.dirty r.state s)

-- A record was compared with what was found of its name. It fits, or an earlier name is known; or
-- it is the first that does not.
pub record Compares (was is : Run) (name : List ℕ) (r : TierRec) : Type 0 where
  pub cache : is.cache ≡ was.cache
  pub base : is.base ≡ was.base
  pub told : IsCompared was.unsound is.unsound was.base.found name r

-- the base was read up to the name of a record, and both were compared
pub record IsRecordTaken (was is : Run) (v : StoreView) (name : List ℕ) (r : TierRec) : Type 0 where
  pub cache : is.cache ≡ was.cache
  pub base : IsReadUpTo (Some (state_key name)) was.base is.base v
  pub told : IsCompared was.unsound is.unsound is.base.found name r

-- the same, or why it was not done
abbrev pub TakesRecord :
    (was is : Run) → List ℕ → TierRec → (old new : StoreView) → Result Bool SurveyFault → Type 0
TakesRecord was is name r old new (Ok true) = Stays old new × IsRecordTaken was is old name r
TakesRecord was is name r old new (Ok false) = ⊥
TakesRecord was is name r old new (Err e) =
    ReadsUpTo (Some (state_key name)) was.base is.base old new (Err e)

-- the next entry was read, or why not
abbrev pub ReadsOn :
    (was is : Run) → (cache caches base bases : StoreView) → Result Bool SurveyFault → Type 0
ReadsOn was is cache caches base bases (Ok more) =
    BothStay cache caches base bases × AreRead is cache base
    × (more ≡ false → Holds cache (IsLast is.cache.cursor.passed None))
ReadsOn was is cache caches base bases (Err e) = Surveys cache caches base bases (Err e)

-- what is told at the ends of both
abbrev pub Concludes : Run → Result Survey SurveyFault → Type 0
Concludes run (Ok s) =
    (run.base.wrong ≡ None) × AreLevel run.cache.epoch run.base.epoch × (run.unsound ≡ None)
    × (s ≡ record {
      cache_epoch = run.cache.epoch;
      base_epoch = run.base.epoch;
      totals = run.cache.totals;
    })
Concludes run (Err (fault.Store pool f)) = ⊥
Concludes run (Err (fault.BadRecord Cache key)) = ⊥
Concludes run (Err (fault.BadRecord Base key)) = run.base.wrong ≡ Some key
Concludes run (Err (fault.Epochs held ahead)) =
    (run.base.wrong ≡ None) × (held ≡ run.cache.epoch) × (ahead ≡ run.base.epoch)
    × AreEpochs held ahead
Concludes run (Err (fault.Unsound name)) =
    (run.base.wrong ≡ None) × AreLevel run.cache.epoch run.base.epoch
    × (run.unsound ≡ Some name)
Concludes run (Err fault.NoMemory) = ⊥

-- the base was read to its end, and what was read of both is told
abbrev pub IsFinished :
    Run → (old new : StoreView) → Result Survey SurveyFault → BaseRun → Type 0
IsFinished run old new result base =
    Stays old new × IsReadUpTo None run.base base old
    × Concludes (record { cache = run.cache; base = base; unsound = run.unsound }) result

-- the same, or a fault of this reading
abbrev pub Finishes : Run → (old new : StoreView) → Result Survey SurveyFault → Type 0
Finishes run old new result =
    ((base : BaseRun) × IsFinished run old new result base)
    ⊎ ((base : BaseRun) × (e : SurveyFault) × (result ≡ Err e)
    × ReadsUpTo None run.base base old new (Err e))
