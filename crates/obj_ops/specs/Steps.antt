-- What private steps ask for and do.
use Rattle.std.specs.Prelude.{◌≡◌, ℕ, Bool, true, false, List, All, Option, Some, None, Result, Ok}
use Rattle.std.specs.Prelude.{Err, ◌==◌, slice_set}
use Rattle.std.specs.List.{position_from}
use Rattle.obj_model.specs.SubOps.{is_read, is_far}
use Rattle.obj_model.specs.Tables.{Table}
use Rattle.obj_model.specs.declared.sub_op.SubOp.{SubOp}
use Rattle.obj_model.specs.declared.sub_op.SubOp.TheVariants as op
use Rattle.obj_model.specs.declared.state.Obj.{Obj}
use Rattle.obj_model.specs.declared.reply.Kept.{Kept}
use Rattle.obj_model.specs.declared.reply.Why.{Why}
use Rattle.obj_ops.specs.declared.run.Ran.{Ran}
use Rattle.obj_ops.specs.declared.run.Ran.TheVariants.{Accepted, Refused}
use Rattle.obj_ops.specs.declared.run.Stop.{Stop}
use Rattle.obj_ops.specs.Effects.{Change}

-- a sub-operation of a write vector: it does not read, and its numbers are at most 2^62
pub record IsStep (op : SubOp) : Type 0 where
  pub unread : is_read op ≡ false
  pub near : is_far op ≡ false

-- sub-operations of a write vector
abbrev pub AreSteps : List SubOp → Type 0
AreSteps ops = All IsStep ops

-- a sub-operation that changes a part of an object, and makes the object where it is absent
abbrev pub is_maker : SubOp → Bool
is_maker (op.WriteFull bytes) = true
is_maker (op.Write off bytes) = true
is_maker (op.Append bytes) = true
is_maker (op.SetXattr key bytes) = true
is_maker (op.OmapSet key bytes) = true
is_maker other = false

-- a sub-operation that changes a part of an object
abbrev pub is_change : SubOp → Bool
is_change (op.Zero off len) = true
is_change (op.Truncate size) = true
is_change (op.RmXattr key) = true
is_change (op.OmapRm key) = true
is_change op.OmapClear = true
is_change other = is_maker other

-- an object that was changed where it lies, or that was left as it was
abbrev pub Lands : Change → Obj → Result (Unit {0}) Why → Obj → Type 0
Lands change old (Ok done) new = change ≡ Ok (Some new)
Lands change old (Err why) new = (change ≡ Err why) × (new ≡ old)

-- the same of an object or its absence
abbrev pub LandsOn : Change → Option Obj → Result (Unit {0}) Why → Option Obj → Type 0
LandsOn change old (Ok done) new = change ≡ Ok new
LandsOn change old (Err why) new = (change ≡ Err why) × (new ≡ old)

-- the same of a table
abbrev pub Enters : Result Table Why → Table → Result (Unit {0}) Why → Table → Type 0
Enters change old (Ok done) new = change ≡ Ok new
Enters change old (Err why) new = (change ≡ Err why) × (new ≡ old)

-- a vector on an object where it lies: it left this object, or was refused and left it as it was
abbrev pub RanOn : Ran → Option Obj → Result (Unit {0}) Stop → Option Obj → Type 0
RanOn ran old (Ok done) new = ran ≡ Accepted new
RanOn ran old (Err stop) new = (ran ≡ Refused stop.at stop.why) × (new ≡ old)

-- the place of the first kept request of a client, counted from one on
abbrev pub place_from : ℕ → ℕ → List Kept → Option ℕ
place_from client at seen = position_from (λ x. x.client == client) at seen

-- the kept requests with this one in the place of the first of its client
abbrev pub put_at : Kept → List Kept → Option ℕ → List Kept
put_at k seen None = seen
put_at k seen (Some at) = slice_set seen at k

abbrev pub settled : Kept → List Kept → List Kept
settled k seen = put_at k seen (place_from k.client 0 seen)
