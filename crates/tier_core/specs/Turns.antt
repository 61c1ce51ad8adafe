-- Calls in flight, and what they are answered.
use Rattle.std.specs.Prelude.{◌≡◌, ◌⊎◌, ℕ, true, false, List, length, Option, Some, None}
use Rattle.obj_model.specs.declared.state.NameState.{NameState}
use Rattle.obj_model.specs.declared.sub_op.SubOp.{SubOp}
use Rattle.obj_model.specs.declared.tier.Path.TheVariants.{Hit}
use Rattle.obj_ops.specs.Acts.{look}
use Rattle.tier_chron.specs.Logs.{Log}
use Rattle.tier_chron.specs.declared.asked.Asked.{Asked}
use Rattle.tier_chron.specs.declared.entries.Logged.{Logged}
use Rattle.tier_core.specs.declared.turns.Turn.{Turn}
use Rattle.tier_view.specs.Answered.{looked_answer}
use Rattle.tier_view.specs.Calls.{entry_of}
use Rattle.tier_view.specs.Views.{GroupView}
use Rattle.tier_view.specs.declared.parts.Entry.{Entry}

-- the turn of a call of this entry, which is in flight
pub record IsTurnOf (turn : Turn) (e : Entry) : Type 0 where
  pub going : e.ended ≡ false
  pub line : e.line ≡ Some turn.line
  pub begin : e.begin ≡ turn.begin

-- the call of this turn is in flight, and asked this
pub record IsTurn (v : GroupView) (turn : Turn) (asked : Asked) : Type 0 where
  pub entry : Entry
  pub is : entry_of v.calls.entries turn.call ≡ Some entry
  pub turn_is : IsTurnOf turn entry
  pub asked_is : entry.asked ≡ asked

-- the call of this number has this turn
pub record HasTurn (v : GroupView) (call : ℕ) (turn : Turn) : Type 0 where
  pub call_is : turn.call ≡ call
  pub entry : Entry
  pub is : entry_of v.calls.entries call ≡ Some entry
  pub turn_is : IsTurnOf turn entry

-- it is over, or has no line
abbrev pub IsNoTurn : Option Entry → Type 0
IsNoTurn None = Unit {0}
IsNoTurn (Some e) = (e.ended ≡ true) ⊎ (e.line ≡ None)

-- there is no call of this number in flight that has a line
abbrev pub HasNoTurn : GroupView → (call : ℕ) → Type 0
HasNoTurn v call = IsNoTurn (entry_of v.calls.entries call)

-- the answer of a reading from a state, at the present number of acts
abbrev pub looked_here : Turn → Log → NameState → List SubOp → Logged
looked_here turn log s vector = record {
  call = turn.call;
  line = turn.line;
  begin = turn.begin;
  place = length log.acts;
  end = length log.acts;
  path = Some Hit;
  answer = looked_answer (look s vector);
}
