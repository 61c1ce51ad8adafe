-- What the opening of a pool's store comes to.
use Rattle.std.specs.Prelude.{◌≡◌, ◌≢◌, ◌≤◌, ◌⊎◌, ℕ, Bool, true, false, List, length, Option, Some, None, Result, Ok, Err}
use Rattle.std.specs.FinMap as fin
use Rattle.std.specs.List.{AllByRecursion}
use Rattle.agent_state.specs.declared.totals.Totals.{Totals}
use Rattle.base_pool.specs.Serves.{IsUnreadable}
use Rattle.base_pool.specs.Views.{BaseView, IsLive}
use Rattle.cache_pool.specs.Reads as cached
use Rattle.obj_model.specs.declared.change.Pool.{Pool}
use Rattle.obj_model.specs.declared.change.Pool.TheVariants.{Cache, Base}
use Rattle.obj_model.specs.declared.state.NameState.{NameState}
use Rattle.pool_keys.specs.Keys.{epoch_key, record_key, state_key}
use Rattle.pool_keys.specs.Reads.{HasNoEpoch}
use Rattle.pool_keys.specs.Values.{IsAtEpoch, IsRecOf, IsStateOf}
use Rattle.pool_survey.specs.Causes.{IsCacheEntry, IsFirstWrong}
use Rattle.pool_survey.specs.Surveys.{AreSumsOf}
use Rattle.pool_survey.specs.declared.fault.SurveyFault.{SurveyFault}
use Rattle.pool_survey.specs.declared.fault.SurveyFault.TheVariants as survey
use Rattle.store_face.specs.Calls.{Among, Opens}
use Rattle.store_face.specs.Tables.{Table}
use Rattle.store_face.specs.Views.{StoreView}
use Rattle.store_face.specs.declared.fault.StoreFault.{StoreFault}
use Rattle.store_face.specs.declared.fault.StoreFault.TheVariants.{Disk, BadImage, NoSpace, Worn, NoMemory}
use Rattle.tier_calls.specs.Tables.{TableView}
use Rattle.tier_calls.specs.Turns.{HasGone}
use Rattle.tier_chron.specs.Logs.{Log, acted_log}
use Rattle.tier_core.specs.Stops.{all_gone, down}
use Rattle.tier_core.specs.declared.opening.Found.{Found}
use Rattle.tier_core.specs.declared.opening.Found.TheVariants as found
use Rattle.tier_core.specs.declared.opening.OpenFault.{OpenFault}
use Rattle.tier_core.specs.declared.opening.OpenFault.TheVariants as fault
use Rattle.tier_core.specs.declared.parts.Start.{Start}
use Rattle.tier_join.specs.Group.{BothTell, ShowsIn}
use Rattle.tier_join.specs.Steps.{Has}
use Rattle.tier_outside.specs.Causes.{Rose}
use Rattle.tier_traffic.specs.Wires.{WiresView, with_flights}
use Rattle.tier_types.specs.declared.phase.Phase.TheVariants.{Raised}
use Rattle.tier_types.specs.declared.record.TierRec.{TierRec}
use Rattle.tier_view.specs.Starts.{IsSettledBy, halted, opened_anew, pool_in, unopened}
use Rattle.tier_view.specs.Views.{GroupView, joined}
use Rattle.tier_view.specs.declared.parts.Flown.{Flown}
use Rattle.tier_view.specs.declared.parts.Pending.{Pending}

-- ---- a store

-- A store was opened anew, or that failed, and then it was read: at each moment since a stop leaves
-- what it left before.
pub record IsReopened (old new : StoreView) : Type 0 where
  pub among : Among old new
  pub room : new.room ≡ old.room
  pub later : old.faults ≤ new.faults

-- why the opening of a store, or a reading behind it, failed
abbrev pub OpenFails : StoreFault → (old new : StoreView) → Type 0
OpenFails Disk old new = Rose old.faults new.faults × (new.live ≡ false)
OpenFails (BadImage at) old new =
    (old.moments ≡ None) × (new.moments ≡ None) × (new.live ≡ false)
OpenFails (NoSpace used need limit) old new = ⊥
OpenFails (Worn limit) old new = ⊥
OpenFails NoMemory old new = Unit {0}

-- ---- what was found of the commit in doubt

-- It is there: an act, or an epoch. What memory is the same to was read again.
abbrev pub IsThere : Pending → StoreView → Type 0
IsThere (Pending.Plain Cache name) s =
    (rec : Option TierRec) × Has s (λ t. IsRecOf (fin.get t (record_key name)) rec)
IsThere (Pending.Plain Base name) s =
    (state : NameState) × Has s (λ t. IsStateOf (fin.get t (state_key name)) state)
IsThere (Pending.Act pool first a seq) s = Has s (ShowsIn pool a.req.name seq)
IsThere (Pending.Epoch pool e) s = Has s (IsAtEpoch e)

-- it is not
abbrev pub IsGone : Pending → StoreView → Type 0
IsGone (Pending.Plain pool name) s = ⊥
IsGone (Pending.Act pool first a seq) s = Has s (λ t. ShowsIn pool a.req.name seq t → ⊥)
IsGone (Pending.Epoch pool e) s = Has s (λ t. IsAtEpoch e t → ⊥)

-- what was found of the commit in doubt in this pool
abbrev pub IsFound : Pool → Option Pending → StoreView → Found → Type 0
IsFound pool None s f = f ≡ found.Nothing
IsFound pool (Some p) s found.Nothing = pool_in p ≢ pool
IsFound pool (Some p) s found.There = (pool_in p ≡ pool) × IsThere p s
IsFound pool (Some p) s found.Gone = (pool_in p ≡ pool) × IsGone p s

-- ---- what it makes of memory

-- the doubt behind it
abbrev pub pending_settled : Found → Option Pending → Option Pending
pending_settled found.Nothing p = p
pending_settled found.There p = None
pending_settled found.Gone p = None

-- an act that was in doubt is there
abbrev pub log_entered : Pending → Log → Log
log_entered (Pending.Act pool first a seq) log = acted_log first a log
log_entered p log = log

abbrev pub log_settled : Found → Option Pending → Log → Log
log_settled found.There (Some p) log = log_entered p log
log_settled f p log = log

-- the cache is raised to this epoch, and operations count from 1
abbrev pub raised_to : (epoch : ℕ) → Start → Start
raised_to e s = record s { cache_epoch = e; next_opid = 1; phase = Raised; fenced = false }

-- an epoch that was in doubt is there
abbrev pub start_entered : Pending → Start → Start
start_entered (Pending.Epoch Cache e) s = raised_to e s
start_entered (Pending.Epoch Base e) s = record s { base_epoch = e }
start_entered p s = s

abbrev pub start_settled : Found → Option Pending → Start → Start
start_settled found.There (Some p) s = start_entered p s
start_settled f p s = s

-- all work is of earlier epochs, where the cache is raised
abbrev pub table_entered : Pending → TableView → TableView
table_entered (Pending.Epoch Cache e) t = record t { earlier = length t.calls.flown }
table_entered p t = t

abbrev pub table_settled : Found → Option Pending → TableView → TableView
table_settled found.There (Some p) t = table_entered p t
table_settled f p t = t

-- there is memory for an act in doubt
abbrev pub HasRoomFor : Pending → (spare : ℕ) → Type 0
HasRoomFor (Pending.Act pool first a seq) spare = 1 ≤ spare
HasRoomFor p spare = Unit {0}

abbrev pub HasRoom : Option Pending → (spare : ℕ) → Type 0
HasRoom None spare = Unit {0}
HasRoom (Some p) spare = HasRoomFor p spare

-- the cache is raised where no work is under way
abbrev pub MayEnter : Pending → List Flown → Type 0
MayEnter (Pending.Epoch Cache e) flown = AllByRecursion HasGone flown
MayEnter p flown = Unit {0}

abbrev pub MaySettle : Found → Option Pending → List Flown → Type 0
MaySettle found.There (Some p) flown = MayEnter p flown
MaySettle f p flown = Unit {0}

-- ---- the base

-- the epoch of the base behind it
abbrev pub epoch_found : Found → Option Pending → (kept : ℕ) → ℕ
epoch_found found.There (Some (Pending.Epoch Base e)) kept = e
epoch_found f p kept = kept

-- the epoch is not the one in doubt
abbrev pub IsOtherThan : (epoch : ℕ) → Option Pending → Type 0
IsOtherThan epoch (Some (Pending.Epoch Base e)) = epoch ≢ e
IsOtherThan epoch p = Unit {0}

-- what the map has for this name spells no state, or under the epoch's key no epoch
abbrev pub IsBadState : (name : List ℕ) → Table → Type 0
IsBadState name t = IsUnreadable name t ⊎ ((name ≡ epoch_key) × HasNoEpoch t)

-- A base whose epoch is kept in memory was opened anew, and what is in doubt of it was looked for.
-- A base that is at another epoch is not live.
abbrev pub LooksThere : Option Pending → (kept : ℕ) → (old new : BaseView)
    → Result Found OpenFault → Type 0
LooksThere p kept old new (Ok f) =
    Opens old.store new.store × (new.opened ≡ true) × (new.epoch ≡ epoch_found f p kept)
    × IsFound Base p new.store f
LooksThere p kept old new (Err (fault.Store f)) =
    IsReopened old.store new.store × (IsLive new → new.epoch ≡ kept)
    × OpenFails f old.store new.store
LooksThere p kept old new (Err (fault.BadRecord name)) =
    IsReopened old.store new.store × (IsLive new → new.epoch ≡ kept)
    × Has new.store (IsBadState name)
LooksThere p kept old new (Err (fault.OtherEpoch e)) =
    IsReopened old.store new.store × (new.opened ≡ false)
    × Has new.store (IsAtEpoch e) × (e ≢ kept) × IsOtherThan e p
LooksThere p kept old new (Err (fault.Sums f)) = ⊥

-- behind this fault the base counts as stopped, and has to tell its epoch anew
abbrev pub stopped_there : OpenFault → Bool → Bool
stopped_there (fault.OtherEpoch e) was = true
stopped_there f was = was

abbrev pub halted_there : OpenFault → Start → Start
halted_there (fault.OtherEpoch e) s = record s { fenced = false }
halted_there f s = s

-- ---- the group

-- The pool runs again: nothing of it was in doubt, or what was is settled by what was read.
abbrev pub RunsAgain : Pool → Option Pending → StoreView → Totals → (old new : GroupView) → Type 0
RunsAgain pool None s totals old new = new ≡ opened_anew pool s totals old
RunsAgain pool (Some p) s totals old new =
    (pool_in p ≢ pool) × (new ≡ opened_anew pool s totals old)
    ⊎ (pool_in p ≡ pool) × IsSettledBy p s totals old new

-- What the opening of the base comes to. With a fault what is in doubt stays so. A base at an epoch
-- that is neither the one in memory nor the one in doubt counts as stopped; where both stores tell
-- there is none.
abbrev pub BaseComesTo : (old new : GroupView) → Result (Unit {0}) OpenFault → Type 0
BaseComesTo old new (Ok done) =
    (new.stores.base.live ≡ true)
    × RunsAgain Base old.stores.pending new.stores.base old.agent.totals old new
BaseComesTo old new (Err (fault.Store f)) =
    (new ≡ unopened Base new.stores.base old) × OpenFails f old.stores.base new.stores.base
BaseComesTo old new (Err (fault.BadRecord name)) =
    (new ≡ unopened Base new.stores.base old) × Has new.stores.base (IsBadState name)
BaseComesTo old new (Err (fault.OtherEpoch e)) =
    (new ≡ halted Base new.stores.base old) × (new.stores.base.live ≡ false)
    × Has new.stores.base (IsAtEpoch e) × (e ≢ old.standing.base_epoch)
    × IsOtherThan e old.stores.pending × (BothTell (joined old) → ⊥)
BaseComesTo old new (Err (fault.Sums f)) = ⊥

-- the base was opened anew, or why it was not
pub record OpensBase (old new : GroupView) (result : Result (Unit {0}) OpenFault) : Type 0 where
  pub store : IsReopened old.stores.base new.stores.base
  pub comes : BaseComesTo old new result

-- ---- the cache

-- what the map has for this name spells no record, or under the epoch's key no epoch
abbrev pub IsBadRecord : (name : List ℕ) → Table → Type 0
IsBadRecord name t = cached.IsUnreadable name t ⊎ ((name ≡ epoch_key) × HasNoEpoch t)

-- the commit in doubt is the cache's
abbrev pub IsOfCache : Option Pending → Type 0
IsOfCache None = ⊥
IsOfCache (Some p) = pool_in p ≡ Cache

-- why the sums over the records of a live cache were not taken: no memory, or its first wrong key
abbrev pub SumsFail : SurveyFault → (old new : StoreView) → Type 0
SumsFail (survey.Store Cache Disk) old new = ⊥
SumsFail (survey.Store Cache (BadImage at)) old new = ⊥
SumsFail (survey.Store Cache (NoSpace used need limit)) old new = ⊥
SumsFail (survey.Store Cache (Worn limit)) old new = ⊥
SumsFail (survey.Store Cache NoMemory) old new = Unit {0}
SumsFail (survey.Store Base f) old new = ⊥
SumsFail (survey.BadRecord Cache key) old new = Has new (IsFirstWrong IsCacheEntry key)
SumsFail (survey.BadRecord Base key) old new = ⊥
SumsFail (survey.Epochs held ahead) old new = ⊥
SumsFail (survey.Unsound name) old new = ⊥
SumsFail survey.NoMemory old new = Unit {0}

-- The cache's store was opened anew, what is in doubt of it was looked for, and the sums over its
-- records were taken.
abbrev pub LooksHere : Option Pending → (old new : StoreView) → Result (Found × Totals) OpenFault
    → Type 0
LooksHere p old new (Ok k) =
    Opens old new × IsFound Cache p new k.0 × Has new (AreSumsOf k.1)
LooksHere p old new (Err (fault.Store f)) =
    IsReopened old new × OpenFails f old new × ((new.live ≡ false) ⊎ IsOfCache p)
LooksHere p old new (Err (fault.BadRecord name)) =
    IsReopened old new × Has new (IsBadRecord name) × IsOfCache p
LooksHere p old new (Err (fault.Sums f)) = IsReopened old new × SumsFail f old new
LooksHere p old new (Err (fault.OtherEpoch e)) = ⊥

-- behind this fault the cache counts as stopped
abbrev pub stopped_here : OpenFault → Bool → Bool
stopped_here (fault.Sums f) was = true
stopped_here f was = was

abbrev pub calls_halted : OpenFault → (now : ℕ) → TableView → TableView
calls_halted (fault.Sums f) now t = all_gone now t
calls_halted f now t = t

abbrev pub wires_halted : OpenFault → WiresView → WiresView
wires_halted (fault.Sums f) w = with_flights fin.empty w
wires_halted f w = w

abbrev pub start_halted : OpenFault → Start → Start
start_halted (fault.Sums f) s = down s
start_halted f s = s

-- What the opening of the cache comes to. With a fault what is in doubt stays so. A live cache
-- whose sums were not taken counts as stopped.
abbrev pub CacheComesTo : (old new : GroupView) → Result (Unit {0}) OpenFault → Type 0
CacheComesTo old new (Ok done) =
    (new.stores.cache.live ≡ true) × Has new.stores.cache (AreSumsOf new.agent.totals)
    × RunsAgain Cache old.stores.pending new.stores.cache new.agent.totals old new
CacheComesTo old new (Err (fault.Store f)) =
    (new ≡ unopened Cache new.stores.cache old) × OpenFails f old.stores.cache new.stores.cache
CacheComesTo old new (Err (fault.BadRecord name)) =
    (new ≡ unopened Cache new.stores.cache old) × Has new.stores.cache (IsBadRecord name)
CacheComesTo old new (Err (fault.Sums f)) =
    (new ≡ halted Cache new.stores.cache old) × SumsFail f old.stores.cache new.stores.cache
CacheComesTo old new (Err (fault.OtherEpoch e)) = ⊥

-- the cache was opened anew, or why it was not
pub record OpensCache (old new : GroupView) (result : Result (Unit {0}) OpenFault) : Type 0 where
  pub store : IsReopened old.stores.cache new.stores.cache
  pub comes : CacheComesTo old new result
