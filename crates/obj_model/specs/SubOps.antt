-- What is said of a sub-operation by itself: what it is there for, its numbers, and what it
-- carries.
use Rattle.std.specs.Prelude.{ℕ, ◌+◌, Bool, true, false, List, [], ◌∷◌, length, Some, nat_lt}
use Rattle.std.specs.List.{list_any}
use Rattle.obj_model.specs.Limits.{number_limit}
use Rattle.obj_model.specs.declared.sub_op.SubOp.{SubOp}
use Rattle.obj_model.specs.declared.sub_op.SubOp.TheVariants as op
use Rattle.obj_model.specs.declared.sub_op.OpKind.{OpKind}
use Rattle.obj_model.specs.declared.sub_op.OpKind.TheVariants.{Write, Guard, Read}

-- what it is there for
abbrev pub kind : SubOp → OpKind
kind op.Create = Write
kind (op.WriteFull bytes) = Write
kind (op.Write off bytes) = Write
kind (op.Append bytes) = Write
kind (op.Zero off len) = Write
kind (op.Truncate size) = Write
kind op.Remove = Write
kind (op.SetXattr key bytes) = Write
kind (op.RmXattr key) = Write
kind (op.OmapSet key bytes) = Write
kind (op.OmapRm key) = Write
kind op.OmapClear = Write
kind op.AssertExists = Guard
kind (op.AssertVer ver) = Guard
kind (op.CmpXattr key bytes) = Guard
kind (op.Read off len) = Read
kind op.Stat = Read
kind (op.GetXattr key) = Read
kind op.ListXattrs = Read
kind (op.OmapGet key) = Read
kind (op.OmapList after max) = Read

-- the numbers that it carries
abbrev pub numbers : SubOp → List ℕ
numbers (op.Write off bytes) = off ∷ []
numbers (op.Zero off len) = off ∷ len ∷ []
numbers (op.Truncate size) = size ∷ []
numbers (op.AssertVer ver) = ver ∷ []
numbers (op.Read off len) = off ∷ len ∷ []
numbers (op.OmapList after max) = max ∷ []
numbers other = []

-- the lengths of its bytes, its key and the key that it goes on from
abbrev pub payload : SubOp → ℕ
payload (op.WriteFull bytes) = length bytes
payload (op.Write off bytes) = length bytes
payload (op.Append bytes) = length bytes
payload (op.SetXattr key bytes) = length key + length bytes
payload (op.RmXattr key) = length key
payload (op.OmapSet key bytes) = length key + length bytes
payload (op.OmapRm key) = length key
payload (op.CmpXattr key bytes) = length key + length bytes
payload (op.GetXattr key) = length key
payload (op.OmapGet key) = length key
payload (op.OmapList (Some after) max) = length after
payload other = 0

-- a kind that may change the object
abbrev pub is_writing : OpKind → Bool
is_writing Write = true
is_writing Guard = false
is_writing Read = false

-- a kind that tells something of the object
abbrev pub is_reading : OpKind → Bool
is_reading Write = false
is_reading Guard = false
is_reading Read = true

-- it may change the object
abbrev pub is_write : SubOp → Bool
is_write o = is_writing (kind o)

-- it tells something of the object
abbrev pub is_read : SubOp → Bool
is_read o = is_reading (kind o)

-- one of its numbers is above the limit
abbrev pub is_far : SubOp → Bool
is_far o = list_any (nat_lt number_limit) (numbers o)
