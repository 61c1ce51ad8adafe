-- A call's beginning as one step of a run.
use Rattle.std.proofs.Common.{◌≡◌, inl, ℕ, List, Option, Some, None, refl, sym, ap, subst, ◌∙◌}
use Rattle.obj_model.specs.declared.req.Req.{Req}
use Rattle.obj_ops.specs.Stores.{Store}
use Rattle.tier_chron.specs.Calls.{call_of}
use Rattle.tier_chron.specs.declared.asked.Asked.{Asked}
use Rattle.tier_chron.specs.declared.asked.Asked.TheVariants.{Write}
use Rattle.tier_core.specs.Serves.{asked_of, with_ask}
use Rattle.tier_core.specs.Steps.{IsStep}
use Rattle.tier_core.specs.Turns.{IsTurn}
use Rattle.tier_core.specs.declared.turns.Turn.{Turn}
use Rattle.tier_join.specs.Steps.{with_doubt}
use Rattle.tier_moves.specs.Begins.{IsStepOf, entered}
use Rattle.tier_runs.specs.Runs.{IsOneStep, MayMake}
use Rattle.tier_types.specs.declared.flight.Ask.{Ask}
use Rattle.tier_view.proofs.Answering.{quiet_is_step}
use Rattle.tier_view.proofs.AnsweringFaults.{call_found}
use Rattle.tier_view.proofs.Growth.{StaysFound, entry_stays}
use Rattle.tier_view.specs.Answers.{KeepsQuietly, NoAnswer, NoWork}
use Rattle.tier_view.specs.Calls.{entry_of}
use Rattle.tier_view.specs.Joining.{SameEpoch}
use Rattle.tier_view.specs.Laws.{HasAsked, Keeps}
use Rattle.tier_view.specs.Views.{GroupView, asking_by, asking_of, calls_in, joined}
use Rattle.tier_view.specs.Whole.{IsWhole}
use Rattle.tier_view.specs.declared.parts.Entry.{Entry}
use Rattle.tier_works.proofs.JoinSteps.{entry_begins_step, quiet_ends_step}

-- ---- a step behind the entry of a call

pub quiet_step_of : (v w : GroupView) → KeepsQuietly v w → IsStepOf v w
quiet_step_of v w h = record {
  other = with_doubt (joined v).doubt;
  makes = MayMake.in_doubt refl;
  keeps = quiet_is_step v w h;
  epoch = h.1.epoch;
}

-- what a call asked it has asked later
asked_in : (fs : List Entry) (n : ℕ) (e : Entry) (line : ℕ) (q : Req) (p : Option Entry)
    → StaysFound (Some e) p → entry_of fs n ≡ p → e.asked ≡ Write q → e.line ≡ Some line
    → asking_of (call_of (calls_in fs) n) ≡ Some (record { line = line; req = q })
asked_in fs n e line q None k is asked lined = absurd k
asked_in fs n e line q (Some f) k is asked lined =
    ap asking_of (call_found fs n f is)
    ∙ ap (λ (a : Asked). asking_by a f.line) (k.asked ∙ asked)
    ∙ ap (λ (l : Option ℕ). asking_by (Write q) l) (k.line ∙ lined)

module _ (turn : Turn) (v w : GroupView) where
  still_asked : (q : Req) (other : Store → Store) → IsTurn v turn (Write q) → Keeps other None v w
      → HasAsked w turn.call turn.line q
  still_asked q other is k =
      asked_in w.calls.entries turn.call is.entry turn.line q
      (entry_of w.calls.entries turn.call)
      (subst (λ (o : Option Entry). StaysFound o (entry_of w.calls.entries turn.call)) is.is
      (entry_stays _ v.calls.entries w.calls.entries k.1.calls turn.call)) refl is.asked_is
      is.turn_is.line

  may_make : (ask : Ask) → IsTurn v turn (asked_of ask) → Keeps (with_ask ask) None v w
      → MayMake v w (with_ask ask)
  may_make (Ask.Write q) is k =
      MayMake.request turn.call turn.line q (still_asked q (with_ask (Ask.Write q)) is k) refl
  may_make (Ask.Read client name vector) is k = MayMake.nothing refl

  pub ask_step : (ask : Ask) → IsTurn v turn (asked_of ask) → Keeps (with_ask ask) None v w
      → SameEpoch v w → IsStepOf v w
  ask_step ask is k epoch = record {
    other = with_ask ask;
    makes = may_make ask is k;
    keeps = k;
    epoch = epoch;
  }

-- a call is served, which answers nobody, and ends
pub ask_step_ends : (turn : Turn) (ask : Ask) (v b w : GroupView) → IsTurn v turn (asked_of ask)
    → Keeps (with_ask ask) None v b → SameEpoch v b → NoAnswer v b → NoWork v b
    → KeepsQuietly b w → IsStepOf v w
ask_step_ends turn ask v b w is first epoch silent idle second =
    ask_step turn v w ask is
    (quiet_ends_step (with_ask ask) None v b w first second (inl silent) (inl idle))
    (second.1.epoch ∙ epoch)

-- ---- with the entry

makes_before : (line : ℕ) (ask : Ask) (old new : GroupView) (other : Store → Store)
    → MayMake (entered line ask old) new other → MayMake old new other
makes_before line ask old new other (MayMake.nothing is) = MayMake.nothing is
makes_before line ask old new other (MayMake.request call l r has is) =
    MayMake.request call l r has is
makes_before line ask old new other (MayMake.in_doubt is) = MayMake.in_doubt is

pub entered_step : (line : ℕ) (ask : Ask) (old new : GroupView) → IsWhole old
    → IsStepOf (entered line ask old) new → IsOneStep old new
entered_step line ask old new whole k = record {
  other = k.other;
  wanted = Some (record { line = Some line; asked = asked_of ask });
  makes = makes_before line ask old new k.other k.makes;
  keeps = entry_begins_step k.other old new (Some line) (asked_of ask) whole
      (λ none. absurd (cc)) k.epoch k.keeps;
}

-- ---- nothing happened

pub resting_step : (v w : GroupView) → IsStep None v v → w ≡ v → IsOneStep v w
resting_step v w h same =
    subst (λ (x : GroupView). IsOneStep v x) (sym same) (record {
      other = with_doubt (joined v).doubt;
      wanted = None;
      makes = MayMake.in_doubt refl;
      keeps = h;
    })
