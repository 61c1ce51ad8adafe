-- Records of the cache, and their totals.
use Rattle.std.specs.Prelude.{ℕ, ◌+◌, ◌-◌, ◌^◌, min, Bool, true, false, List, [], ◌∷◌, length, map, Option, Some, None, Result, Ok, Err, ◌==◌, if◌then◌else◌}
use Rattle.obj_model.specs.declared.state.Obj.{Obj}
use Rattle.obj_model.specs.declared.state.NameState.{NameState}
use Rattle.agent_state.specs.declared.totals.Totals.{Totals}
use Rattle.agent_state.specs.Sums.{Weight, totals_of}
use Rattle.tier_types.specs.declared.record.TierRec.{TierRec}

-- the record after a request acted and left this state
abbrev pub acted_record : NameState → ℕ → TierRec
acted_record state now = record { state = state; dirty = true; mtime = now }

-- the record without its mark
abbrev pub clean_record : TierRec → TierRec
clean_record r = record { state = r.state; dirty = false; mtime = r.mtime }

-- the record after the base took its state as of a seq: it is clean where that is still its seq,
-- and unchanged else
abbrev pub cleaned_record : TierRec → ℕ → Result TierRec TierRec
cleaned_record r seq = if r.state.seq == seq then Ok (clean_record r) else Err r

-- the bytes of an object's body, if there is one
abbrev pub body_bytes : Option Obj → ℕ
body_bytes None = 0
body_bytes (Some o) = length o.body

-- what the agent weighs of a record
abbrev pub weight_of : TierRec → Weight
weight_of r = record { dirty = r.dirty; bytes = body_bytes r.state.obj }

-- the totals of a list of records
abbrev pub totals_over : List TierRec → Totals
totals_over records = totals_of (map weight_of records)

-- the records of a name: one or none
abbrev pub listed : Option TierRec → List TierRec
listed None = []
listed (Some r) = r ∷ []

-- how many records there are of a name
abbrev pub records_of : Option TierRec → ℕ
records_of None = 0
records_of (Some r) = 1

-- how many of them are dirty
abbrev pub dirty_of : Option TierRec → ℕ
dirty_of None = 0
dirty_of (Some r) = if r.dirty then 1 else 0

-- the bytes of their bodies
abbrev pub bytes_of : Option TierRec → ℕ
bytes_of None = 0
bytes_of (Some r) = body_bytes r.state.obj

-- a sum in which one part gave place to another; it stops at 0 and at 2^40
abbrev pub exchanged : ℕ → ℕ → ℕ → ℕ
exchanged sum old new = min (sum - old + new) (2 ^ 40)

-- the totals after one record, or none, gave place to another, or none
abbrev pub totals_after : Totals → Option TierRec → Option TierRec → Totals
totals_after t old new =
    record {
      records = exchanged t.records (records_of old) (records_of new);
      dirty = exchanged t.dirty (dirty_of old) (dirty_of new);
      bytes = exchanged t.bytes (bytes_of old) (bytes_of new);
    }
