-- What follows from the table of sub-operations, in plain words.
use Rattle.std.specs.Prelude.{◌≡◌, ◌<◌, ℕ, Bool, true, false, List, [], ◌∷◌, ◌++◌, length, Option}
use Rattle.std.specs.Prelude.{Some, None, Ok, Err}
use Rattle.obj_model.specs.SubOps.{is_write}
use Rattle.obj_model.specs.declared.sub_op.SubOp.{SubOp}
use Rattle.obj_model.specs.declared.sub_op.SubOp.TheVariants.{Create, WriteFull, Write, Append}
use Rattle.obj_model.specs.declared.sub_op.SubOp.TheVariants.{Zero, Truncate, Remove, Read}
use Rattle.obj_model.specs.declared.state.Obj.{Obj}
use Rattle.obj_model.specs.declared.reply.Why.{Why}
use Rattle.obj_model.specs.declared.out.Out.TheVariants.{Bytes}
use Rattle.obj_ops.specs.Effects.{empty_obj}
use Rattle.obj_ops.specs.Ops.{Step, Run, left_by, sub, run}
use Rattle.obj_ops.specs.Acts.{ran_of}
use Rattle.obj_ops.specs.declared.run.Ran.TheVariants.{Accepted}

-- a guard and a reading leave the object
abbrev pub LookersChangeNothing : SubOp → Type 0
LookersChangeNothing op =
    (ver : ℕ) (o : Option Obj) (s : Step) → is_write op ≡ false → sub op ver o ≡ Ok s → s.obj ≡ o

-- the sub-operations on a body
abbrev pub is_on_body : SubOp → Bool
is_on_body (WriteFull bytes) = true
is_on_body (Write off bytes) = true
is_on_body (Append bytes) = true
is_on_body (Zero off len) = true
is_on_body (Truncate size) = true
is_on_body other = false

-- this is the object but for its body
abbrev pub SameTables : Obj → Option Obj → Type 0
SameTables x None = ⊥
SameTables x (Some y) = (y.attrs ≡ x.attrs) × (y.omap ≡ x.omap)

-- what is done to a body leaves the object there, with its attributes and its omap
abbrev pub TablesSurvive : SubOp → Type 0
TablesSurvive op =
    (ver : ℕ) (x : Obj) (s : Step) → is_on_body op ≡ true → sub op ver (Some x) ≡ Ok s
    → SameTables x s.obj

-- an object that is removed and made again has nothing of what it had
abbrev pub RemovalTakesAll : ℕ → Type 0
RemovalTakesAll ver =
    (x : Obj) → ran_of (run ver (Remove ∷ Create ∷ []) (Some x)) ≡ Accepted (Some empty_obj)

-- two appends leave what one append of both leaves
abbrev pub AppendsJoin : List ℕ → List ℕ → Type 0
AppendsJoin first second =
    (ver : ℕ) (o p q r : Option Obj) → left_by (sub (Append first) ver o) ≡ Ok p
    → left_by (sub (Append second) ver p) ≡ Ok q
    → left_by (sub (Append (first ++ second)) ver o) ≡ Ok r → q ≡ r

-- what was written is read back
abbrev pub WrittenIsRead : ℕ → List ℕ → Type 0
WrittenIsRead off bytes =
    (ver : ℕ) (o : Option Obj) (s : Step) → 0 < length bytes → sub (Write off bytes) ver o ≡ Ok s
    → sub (Read off (length bytes)) ver s.obj ≡ Ok (record { obj = s.obj; out = Bytes bytes })

-- a refused step refuses the whole vector, with its place, whatever stands before it and behind it
abbrev pub FirstRefusalRefuses : List SubOp → SubOp → List SubOp → Type 0
FirstRefusalRefuses front op behind =
    (ver : ℕ) (o : Option Obj) (r : Run) (why : Why) → run ver front o ≡ Ok r
    → sub op ver r.obj ≡ Err why
    → run ver (front ++ op ∷ behind) o ≡ Err (record { at = length front; why = why })
