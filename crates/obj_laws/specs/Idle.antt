-- Sub-operations that change nothing, and guards beside each other.
use Rattle.std.specs.Prelude.{◌≡◌, ◌≤◌, ℕ, ◌+◌, List, [], ◌∷◌, ◌++◌, length, take, drop, Option, Some, Ok}
use Rattle.std.specs.List.{AllByRecursion}
use Rattle.obj_model.specs.Limits.{body_limit}
use Rattle.obj_model.specs.SubOps.{kind}
use Rattle.obj_model.specs.declared.sub_op.OpKind.TheVariants.{Guard}
use Rattle.obj_model.specs.declared.sub_op.SubOp.{SubOp}
use Rattle.obj_model.specs.declared.sub_op.SubOp.TheVariants.{WriteFull, Write, Append, Truncate}
use Rattle.obj_model.specs.declared.reply.Reply.{Reply}
use Rattle.obj_model.specs.declared.reply.Reply.TheVariants.{Done}
use Rattle.obj_model.specs.declared.req.Req.{Req}
use Rattle.obj_model.specs.declared.state.NameState.{NameState}
use Rattle.obj_model.specs.declared.state.Obj.{Obj}
use Rattle.obj_model.specs.declared.out.Out.TheVariants.{Checked}
use Rattle.obj_ops.specs.declared.request.Acted.TheVariants.{Fresh}
use Rattle.obj_ops.specs.Acts.{act}
use Rattle.obj_ops.specs.Ops.{Run, sub, run}

-- what is asked of the body is what the body is
abbrev pub AsksForPresent : SubOp → Obj → Type 0
AsksForPresent (WriteFull bytes) x = bytes ≡ x.body
AsksForPresent (Write off bytes) x =
    (off + length bytes ≤ length x.body) × (bytes ≡ take (length bytes) (drop off x.body))
AsksForPresent (Append bytes) x = bytes ≡ []
AsksForPresent (Truncate size) x = size ≡ length x.body
AsksForPresent other x = ⊥

-- a sub-operation that is accepted and leaves the object
abbrev pub IsIdle : SubOp → Obj → Type 0
IsIdle op x = (ver : ℕ) → sub op ver (Some x) ≡ Ok (record { obj = Some x; out = Checked })

-- what asks for the present body changes nothing
abbrev pub PresentIsIdle : SubOp → Type 0
PresentIsIdle op = (x : Obj) → length x.body ≤ body_limit → AsksForPresent op x → IsIdle op x

-- a request whose steps all change nothing raises `ver`, and leaves the object
abbrev pub OnlyVersionRises : NameState → Req → Type 0
OnlyVersionRises s r =
    (x : Obj) (t : NameState) (reply : Reply) → s.obj ≡ Some x
    → AllByRecursion (λ op. IsIdle op x) r.vector → act s r ≡ Fresh t reply
    → (t.obj ≡ s.obj) × (t.ver ≡ s.ver + 1) × (reply ≡ Done (s.ver + 1))

-- two guards beside each other may change places: a vector that is accepted leaves and tells the
-- same
abbrev pub GuardsExchange : SubOp → SubOp → Type 0
GuardsExchange g h =
    (ver : ℕ) (front behind : List SubOp) (o : Option Obj) (r : Run)
    → kind g ≡ Guard → kind h ≡ Guard → run ver (front ++ g ∷ h ∷ behind) o ≡ Ok r
    → run ver (front ++ h ∷ g ∷ behind) o ≡ Ok r
