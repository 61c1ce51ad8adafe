-- The turns of calls that are told why a start failed.
use Rattle.std.proofs.Common.{◌≡◌, ◌+◌, ℕ, Bool, true, false, List, length, Some, refl, sym, ap, subst, ◌∙◌}
use Rattle.obj_model.specs.declared.change.Pool.TheVariants.{Cache, Base}
use Rattle.tier_chron.specs.Shapes.{is_reading_fault, is_start_fault, may_answer}
use Rattle.tier_chron.specs.declared.answer.Answer.{Answer}
use Rattle.tier_chron.specs.declared.answer.Answer.TheVariants as answer
use Rattle.tier_chron.specs.declared.asked.Asked.TheVariants as asked
use Rattle.tier_core.specs.Turns.{HasTurn}
use Rattle.tier_core.specs.declared.turns.Turn.{Turn}
use Rattle.tier_node.proofs.Faults.{every_call}
use Rattle.tier_node.specs.Starting.{IfSo, turn_next, with_start}
use Rattle.tier_node.specs.Tells.{IsSo, MayBeTold, Tells}
use Rattle.tier_node.specs.declared.outcome.Outcome.{Outcome}
use Rattle.tier_view.specs.Calls.{entry_of}
use Rattle.tier_view.specs.Starts.{forgot_kept}
use Rattle.tier_view.specs.Steps.{entry_for}
use Rattle.tier_view.specs.Views.{GroupView}
use Rattle.tier_view.specs.Whole.{IsWhole}
use Rattle.tier_view.specs.declared.parts.Entry.{Entry}
use Rattle.tier_works.proofs.JoinSteps.{new_calls_are_free}

-- ---- a call in flight

pub own_turn : (v : GroupView) (call : ℕ) (turn : Turn) → HasTurn v call turn
    → HasTurn v turn.call turn
own_turn v call turn h = record {
  call_is = refl;
  entry = h.entry;
  is = ap (entry_of v.calls.entries) h.call_is ∙ h.is;
  turn_is = h.turn_is;
}

pub still_turn : (old new : GroupView) (turn : Turn) → new.calls.entries ≡ old.calls.entries
    → HasTurn old turn.call turn → HasTurn new turn.call turn
still_turn old new turn same h = record {
  call_is = refl;
  entry = h.entry;
  is = ap (λ (es : List Entry). entry_of es turn.call) same ∙ h.is;
  turn_is = h.turn_is;
}

pub may_be_told : (v : GroupView) (turn : Turn) (x : Answer) → HasTurn v turn.call turn
    → is_reading_fault x ≡ true → MayBeTold v turn x
may_be_told v turn x h is = record {
  asked = h.entry.asked;
  turn_is = record { entry = h.entry; is = h.is; turn_is = h.turn_is; asked_is = refl };
  kind = every_call h.entry.asked x is;
}

-- the same of what it asked
pub may_by : (v : GroupView) (turn : Turn) (x : Answer) (h : HasTurn v turn.call turn)
    → may_answer h.entry.asked x ≡ true → MayBeTold v turn x
may_by v turn x h kind = record {
  asked = h.entry.asked;
  turn_is = record { entry = h.entry; is = h.is; turn_is = h.turn_is; asked_is = refl };
  kind = kind;
}

-- what a Fence keeps is forgotten
pub forgot_may : (v : GroupView) (turn : Turn) (x : Answer) → MayBeTold v turn x
    → MayBeTold (forgot_kept v) turn x
forgot_may v turn x h = record {
  asked = h.asked;
  turn_is = record {
    entry = h.turn_is.entry;
    is = h.turn_is.is;
    turn_is = h.turn_is.turn_is;
    asked_is = h.turn_is.asked_is;
  };
  kind = h.kind;
}

-- ---- a call that is entered for a line

abbrev pub turn_at : (call line begin : ℕ) → Turn
turn_at call line begin = record { call = call; line = line; begin = begin }

module _ (line call begin : ℕ) (v : GroupView) (number : call ≡ v.calls.last + 1)
    (count : begin ≡ length v.log.acts) where
  turn_is : turn_at call line begin ≡ turn_next line v
  turn_is =
      ap (λ (n : ℕ). turn_at n line begin) number
      ∙ ap (λ (n : ℕ). turn_at (v.calls.last + 1) line n) count

  module _ (w : GroupView) (is : w ≡ with_start line v) where
    pub entered_may : (x : Answer) → IsWhole v → is_start_fault x ≡ true
        → MayBeTold w (turn_at call line begin) x
    entered_may x whole kind =
        subst (λ (t : Turn). MayBeTold w t x) (sym turn_is)
        (subst (λ (u : GroupView). MayBeTold u (turn_next line v) x) (sym is) (record {
          asked = asked.Start;
          turn_is = record {
            entry = entry_for (Some line) asked.Start v;
            is = (new_calls_are_free v (Some line) asked.Start whole).found;
            turn_is = record { going = refl; line = refl; begin = refl };
            asked_is = refl;
          };
          kind = kind;
        }))

    pub entered_so : (x : Answer) → IsSo v x → IsSo w x
    entered_so x so = subst (λ (u : GroupView). IsSo u x) (sym is) (same x so)
      where
        same : (y : Answer) → IsSo v y → IsSo (with_start line v) y
        same (answer.Worn limit) h = h
        same (answer.NoSpace pool used need limit) h = h
        same (answer.DiskFault Cache) h = h
        same (answer.DiskFault Base) h = h
        same (answer.Damaged pool at) h = h
        same (answer.BadRecord pool name) h = h
        same y h = absurd h

    pub entered_tells : (x : Answer) (new : GroupView) (outcome : Outcome)
        → Tells (turn_at call line begin) x w new outcome
        → Tells (turn_next line v) x (with_start line v) new outcome
    entered_tells x new outcome h =
        subst (λ (t : Turn). Tells t x (with_start line v) new outcome) turn_is
        (subst (λ (u : GroupView). Tells (turn_at call line begin) x u new outcome) is h)

-- ---- decisions

pub if_true : (b : Bool) (P Q : Type 0) → b ≡ true → P → IfSo b P Q
if_true b P Q is p = subst (λ (c : Bool). IfSo c P Q) (sym is) p

pub if_false : (b : Bool) (P Q : Type 0) → b ≡ false → Q → IfSo b P Q
if_false b P Q is q = subst (λ (c : Bool). IfSo c P Q) (sym is) q
