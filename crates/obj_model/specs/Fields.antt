-- The fields of sub-operations, in the order in which they are written.
use Rattle.std.specs.Prelude.{ℕ, List, [], ◌∷◌, Option}
use Rattle.obj_model.specs.declared.sub_op.SubOp.{SubOp}
use Rattle.obj_model.specs.declared.sub_op.SubOp.TheVariants as op

-- a field: a number, bytes, a key, or the key that a listing goes on from
pub data Field : Type 0 where
  Number : ℕ → Field
  Bytes : List ℕ → Field
  Key : List ℕ → Field
  After : Option (List ℕ) → Field

-- the fields of a sub-operation
abbrev pub fields : SubOp → List Field
fields op.Create = []
fields (op.WriteFull bytes) = Bytes bytes ∷ []
fields (op.Write off bytes) = Number off ∷ Bytes bytes ∷ []
fields (op.Append bytes) = Bytes bytes ∷ []
fields (op.Zero off len) = Number off ∷ Number len ∷ []
fields (op.Truncate size) = Number size ∷ []
fields op.Remove = []
fields (op.SetXattr key bytes) = Key key ∷ Bytes bytes ∷ []
fields (op.RmXattr key) = Key key ∷ []
fields (op.OmapSet key bytes) = Key key ∷ Bytes bytes ∷ []
fields (op.OmapRm key) = Key key ∷ []
fields op.OmapClear = []
fields op.AssertExists = []
fields (op.AssertVer ver) = Number ver ∷ []
fields (op.CmpXattr key bytes) = Key key ∷ Bytes bytes ∷ []
fields (op.Read off len) = Number off ∷ Number len ∷ []
fields op.Stat = []
fields (op.GetXattr key) = Key key ∷ []
fields op.ListXattrs = []
fields (op.OmapGet key) = Key key ∷ []
fields (op.OmapList after max) = After after ∷ Number max ∷ []
