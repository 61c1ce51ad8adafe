-- What a sub-operation does to an object that is there, and to one that it makes, it does to the
-- object or its absence.
use Rattle.std.proofs.Common.{◌≡◌, ℕ, true, Option, Some, None, Result, Ok, Err, IfOk, refl, sym}
use Rattle.std.proofs.Common.{ap, ◌∙◌}
use Rattle.obj_model.specs.declared.memory.NoMemory.{NoMemory}
use Rattle.obj_model.specs.declared.sub_op.SubOp.{SubOp}
use Rattle.obj_model.specs.declared.sub_op.SubOp.TheVariants.{WriteFull, Write, Append, SetXattr}
use Rattle.obj_model.specs.declared.sub_op.SubOp.TheVariants.{OmapSet}
use Rattle.obj_model.specs.declared.state.Obj.{Obj}
use Rattle.obj_model.specs.declared.reply.Why.{Why}
use Rattle.obj_ops.specs.Effects.{empty_obj}
use Rattle.obj_ops.specs.Ops.{sub, left_by}
use Rattle.obj_ops.specs.Steps.{Lands, LandsOn, is_maker}

-- of an object that is there
pub landed : (op : SubOp) (o : Option Obj) (x y : Obj) (r : Result (Result (Unit {0}) Why) NoMemory)
    → o ≡ Some x
    → IfOk r (λ done. (ver : ℕ) → Lands (left_by (sub op ver (Some x))) x done y)
    → IfOk r (λ done. (ver : ℕ) → LandsOn (left_by (sub op ver o)) o done (Some y))
landed op o x y (Ok (Ok done)) e h = λ ver. ap (λ p. left_by (sub op ver p)) e ∙ h ver
landed op o x y (Ok (Err why)) e h =
    λ ver. (ap (λ p. left_by (sub op ver p)) e ∙ (h ver).0, ap Some (h ver).1 ∙ sym e)
landed op o x y (Err fault) e h = tt

-- the same at one version
pub landed_at : (ver : ℕ) (op : SubOp) (o : Option Obj) (x y : Obj)
    (r : Result (Result (Unit {0}) Why) NoMemory) → o ≡ Some x
    → IfOk r (λ done. (ver : ℕ) → Lands (left_by (sub op ver (Some x))) x done y)
    → IfOk r (λ done. LandsOn (left_by (sub op ver o)) o done (Some y))
landed_at ver op o x y (Ok (Ok done)) e h = ap (λ p. left_by (sub op ver p)) e ∙ h ver
landed_at ver op o x y (Ok (Err why)) e h =
    (ap (λ p. left_by (sub op ver p)) e ∙ (h ver).0, ap Some (h ver).1 ∙ sym e)
landed_at ver op o x y (Err fault) e h = tt

-- a sub-operation that makes the object does to its absence what it does to an empty one
made_of_none : (op : SubOp) (ver : ℕ) → is_maker op ≡ true
    → sub op ver None ≡ sub op ver (Some empty_obj)
made_of_none (WriteFull bytes) ver h = refl
made_of_none (Write off bytes) ver h = refl
made_of_none (Append bytes) ver h = refl
made_of_none (SetXattr key bytes) ver h = refl
made_of_none (OmapSet key bytes) ver h = refl
made_of_none op ver h = absurd cc

pub made_done : (op : SubOp) (o : Option Obj) (x y : Obj) → is_maker op ≡ true → o ≡ None
    → x ≡ empty_obj
    → ((ver : ℕ) → left_by (sub op ver (Some x)) ≡ Ok (Some y)) → (ver : ℕ)
    → left_by (sub op ver o) ≡ Ok (Some y)
made_done op o x y maker e new h ver =
    ap (λ p. left_by (sub op ver p)) e ∙ ap left_by (made_of_none op ver maker)
    ∙ ap (λ z. left_by (sub op ver (Some z))) (sym new) ∙ h ver

pub made_refused : (op : SubOp) (o : Option Obj) (x y : Obj) (why : Why) → is_maker op ≡ true
    → o ≡ None → x ≡ empty_obj
    → ((ver : ℕ) → Lands (left_by (sub op ver (Some x))) x (Err why) y)
    → (ver : ℕ) → (left_by (sub op ver o) ≡ Err why) × (o ≡ o)
made_refused op o x y why maker e new h ver = (
  ap (λ p. left_by (sub op ver p)) e ∙ ap left_by (made_of_none op ver maker)
      ∙ ap (λ z. left_by (sub op ver (Some z))) (sym new) ∙ (h ver).0,
  refl,
)
