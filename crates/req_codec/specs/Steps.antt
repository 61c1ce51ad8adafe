-- What the steps of writing a request put and ask for.
use Rattle.std.specs.Prelude.{◌≡◌, ◌≤◌, None, All}
use Rattle.obj_model.specs.Names.{name_fault}
use Rattle.obj_model.specs.SubOps.{payload}
use Rattle.obj_model.specs.Vectors.{vector_fault}
use Rattle.obj_model.specs.declared.req.Req.{Req}
use Rattle.obj_model.specs.declared.sub_op.SubOp.{SubOp}
use Rattle.rec_codec.specs.Spelling.{IsFit}
use Rattle.obj_model.specs.Limits.{payload_limit}

-- it carries no more than a vector may
abbrev pub IsLight : SubOp → Type 0
IsLight o = payload o ≤ payload_limit

-- a request whose parts are of their types
pub record IsFitReq (r : Req) : Type 0 where
  pub named : name_fault r.name ≡ None
  pub vector : vector_fault r.vector ≡ None
  pub fit : All IsFit r.vector
