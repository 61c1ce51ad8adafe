-- What the private steps of an opening promise.
use Rattle.std.specs.Option.{option_map}
use Rattle.std.specs.Prelude.{◌≡◌, ◌≢◌, ℕ, false, true, Option, Some, Result, Ok, Err}
use Rattle.base_pool.specs.Serves.{IsUnreadable}
use Rattle.base_pool.specs.Views.{BaseView}
use Rattle.base_pool.specs.declared.fault.BaseFault.{BaseFault}
use Rattle.base_pool.specs.declared.fault.BaseFault.TheVariants as base
use Rattle.cache_pool.specs.declared.fault.CacheFault.{CacheFault}
use Rattle.cache_pool.specs.declared.fault.CacheFault.TheVariants as cache
use Rattle.obj_model.specs.declared.change.Pool.TheVariants.{Base, Cache}
use Rattle.pool_survey.specs.declared.fault.SurveyFault.{SurveyFault}
use Rattle.pool_survey.specs.declared.fault.SurveyFault.TheVariants as survey
use Rattle.store_face.specs.Calls.{ReadFails, Stays}
use Rattle.store_face.specs.declared.fault.StoreFault.TheVariants.{Disk}
use Rattle.store_face.specs.Views.{StoreView}
use Rattle.tier_core.specs.Opens.{IsBadRecord, IsFound, IsOfCache, IsOtherThan, epoch_found}
use Rattle.tier_core.specs.declared.opening.Found.{Found}
use Rattle.tier_core.specs.declared.opening.Found.TheVariants as found
use Rattle.tier_core.specs.declared.opening.OpenFault.{OpenFault}
use Rattle.tier_core.specs.declared.opening.OpenFault.TheVariants as fault
use Rattle.pool_keys.specs.Values.{IsAtEpoch}
use Rattle.tier_join.specs.Steps.{Has}
use Rattle.tier_types.specs.declared.record.TierRec.{TierRec}
use Rattle.tier_view.specs.declared.parts.Pending.{Pending}

-- an act of this `seq` is there exactly where the name has it
abbrev pub Matches : Option ℕ → (seq : ℕ) → Found → Type 0
Matches o seq found.Nothing = ⊥
Matches o seq found.There = o ≡ Some seq
Matches o seq found.Gone = o ≢ Some seq

-- ---- the base

-- a fault of the base, as one of its opening
abbrev pub fault_there : BaseFault → OpenFault
fault_there (base.Store f) = fault.Store f
fault_there (base.BadRecord name) = fault.BadRecord name

-- a base is at this epoch, or is closed
abbrev pub HoldsEpoch : (epoch : ℕ) → (old new : BaseView) → Result (Unit {0}) OpenFault → Type 0
HoldsEpoch epoch old new (Ok done) = (new ≡ old) × (old.epoch ≡ epoch)
HoldsEpoch epoch old new (Err (fault.OtherEpoch e)) =
    (new ≡ record old { opened = false }) × (e ≡ old.epoch) × (e ≢ epoch)
HoldsEpoch epoch old new (Err (fault.Store f)) = ⊥
HoldsEpoch epoch old new (Err (fault.BadRecord name)) = ⊥
HoldsEpoch epoch old new (Err (fault.Sums f)) = ⊥

-- what is in doubt was looked for in a live base, whose epoch is kept in memory
abbrev pub FindsThere : Option Pending → (kept : ℕ) → (old new : BaseView)
    → Result Found OpenFault → Type 0
FindsThere p kept old new (Ok f) =
    Stays old.store new.store × (new.opened ≡ true) × (new.epoch ≡ epoch_found f p kept)
    × IsFound Base p new.store f
FindsThere p kept old new (Err (fault.Store f)) =
    ReadFails f old.store new.store × (new.epoch ≡ kept)
FindsThere p kept old new (Err (fault.BadRecord name)) =
    Stays old.store new.store × (new.epoch ≡ kept) × Has new.store (IsUnreadable name)
FindsThere p kept old new (Err (fault.OtherEpoch e)) =
    Stays old.store new.store × (new.opened ≡ false) × Has new.store (IsAtEpoch e)
    × (e ≢ kept) × IsOtherThan e p
FindsThere p kept old new (Err (fault.Sums f)) = ⊥

-- ---- the cache

-- a fault of the cache, as one of its opening
abbrev pub fault_here : CacheFault → OpenFault
fault_here (cache.Store f) = fault.Store f
fault_here (cache.BadRecord name) = fault.BadRecord name

-- why the sums were not taken, as a fault of an opening
abbrev pub fault_of_sums : SurveyFault → OpenFault
fault_of_sums (survey.Store pool Disk) = fault.Store Disk
fault_of_sums f = fault.Sums f

-- the `seq` of a record, if there is one
abbrev pub seq_in : Option TierRec → Option ℕ
seq_in rec = option_map (λ r. r.state.seq) rec

-- a commit of the cache that is in doubt was looked for in its live store
abbrev pub FindsHere : Pending → (old new : StoreView) → Result Found OpenFault → Type 0
FindsHere p old new (Ok f) = Stays old new × IsFound Cache (Some p) new f
FindsHere p old new (Err (fault.Store f)) = ReadFails f old new
FindsHere p old new (Err (fault.BadRecord name)) = Stays old new × Has new (IsBadRecord name)
FindsHere p old new (Err (fault.OtherEpoch e)) = ⊥
FindsHere p old new (Err (fault.Sums f)) = ⊥

-- the same of any that is in doubt
abbrev pub FindsAny : Option Pending → (old new : StoreView) → Result Found OpenFault → Type 0
FindsAny p old new (Ok f) = Stays old new × IsFound Cache p new f
FindsAny p old new (Err (fault.Store f)) = ReadFails f old new × IsOfCache p
FindsAny p old new (Err (fault.BadRecord name)) =
    Stays old new × Has new (IsBadRecord name) × IsOfCache p
FindsAny p old new (Err (fault.OtherEpoch e)) = ⊥
FindsAny p old new (Err (fault.Sums f)) = ⊥
