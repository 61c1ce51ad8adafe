-- How a map is made of the payloads of a journal.
use Rattle.std.specs.Prelude.{◌≡◌, ◌⊎◌, ℕ, ◌+◌, ◌-◌, ◌^◌, List, [], ◌∷◌, ◌++◌, length, min, Result}
use Rattle.std.specs.Prelude.{Ok, Err}
use Rattle.std.specs.FinMap as fin
use Rattle.obj_model.specs.declared.change.Change.{Change}
use Rattle.store_face.specs.Tables.{changed_by}
use Rattle.store_face.specs.declared.fault.StoreFault.{StoreFault}
use Rattle.store_face.specs.declared.fault.StoreFault.TheVariants.{Disk, BadImage, NoSpace, Worn}
use Rattle.store_face.specs.declared.fault.StoreFault.TheVariants.{NoMemory}
use Rattle.rec_codec.specs.Spelling.{SpellsTxn}
use Rattle.pool_map.specs.Pools.{PoolView, at_rest}
use Rattle.log_image.specs.Images.{AreTxns, made_by}

-- the gate behind records of these payloads, the first of which stands at a gate
abbrev pub gate_behind : ℕ → List (List ℕ) → ℕ
gate_behind gate [] = gate
gate_behind gate (payload ∷ payloads) = gate_behind (gate + 5 + length payload) payloads

-- an offset as it is told: no higher than a number of 64 bits
abbrev pub told : ℕ → ℕ
told at = min at (2 ^ 64 - 1)

-- a payload that is a transaction was carried out; or it is none, which is told at its offset
abbrev pub ReplayEnds : List ℕ → ℕ → PoolView → PoolView → Result (Unit {0}) StoreFault → Type 0
ReplayEnds payload at old new (Ok done) =
    (txn : List Change) × SpellsTxn payload txn × (new ≡ at_rest (changed_by old.table txn))
ReplayEnds payload at old new (Err (BadImage place)) =
    (place ≡ at) × ((txn : List Change) → ¬ SpellsTxn payload txn)
ReplayEnds payload at old new (Err NoMemory) = Unit {0}
ReplayEnds payload at old new (Err Disk) = ⊥
ReplayEnds payload at old new (Err (NoSpace used need limit)) = ⊥
ReplayEnds payload at old new (Err (Worn limit)) = ⊥

-- the payloads are transactions, and the map is what they make of the empty one
pub record Replayed (payloads : List (List ℕ)) (map : PoolView) : Type 0 where
  pub txns : List (List Change)
  pub each : AreTxns payloads txns
  pub made : map ≡ at_rest (made_by fin.empty txns)

-- the payloads behind the first are transactions, and the map is what they make of the empty one
pub record Rebuilt (payloads : List (List ℕ)) (map : PoolView) : Type 0 where
  pub first : List ℕ
  pub others : List (List ℕ)
  pub split : payloads ≡ first ∷ others
  pub replayed : Replayed others map

-- a payload behind the first is no transaction; those between are; it is told at its offset
pub record Stumbled (payloads : List (List ℕ)) (at : ℕ) : Type 0 where
  pub first : List ℕ
  pub before : List (List ℕ)
  pub payload : List ℕ
  pub behind : List (List ℕ)
  pub txns : List (List Change)
  pub split : payloads ≡ first ∷ (before ++ payload ∷ behind)
  pub each : AreTxns before txns
  pub at_is : at ≡ told (gate_behind 0 (first ∷ before) + 5)
  pub none : (txn : List Change) → ¬ SpellsTxn payload txn

-- there is no payload at all, which is told at the first gate
pub record NoFirst (payloads : List (List ℕ)) (at : ℕ) : Type 0 where
  pub no_payload : payloads ≡ []
  pub at_is : at ≡ 0

-- the map was made, or it is told where no transaction stands
abbrev pub RebuildEnds : List (List ℕ) → Result PoolView StoreFault → Type 0
RebuildEnds payloads (Ok map) = Rebuilt payloads map
RebuildEnds payloads (Err (BadImage at)) = NoFirst payloads at ⊎ Stumbled payloads at
RebuildEnds payloads (Err NoMemory) = Unit {0}
RebuildEnds payloads (Err Disk) = ⊥
RebuildEnds payloads (Err (NoSpace used need limit)) = ⊥
RebuildEnds payloads (Err (Worn limit)) = ⊥
