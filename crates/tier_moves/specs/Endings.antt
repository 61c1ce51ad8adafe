-- How a client's call ends in its first step.
use Rattle.std.specs.Prelude.{◌≡◌, ℕ, Option, Some, None}
use Rattle.obj_model.specs.declared.tier.Path.{Path}
use Rattle.tier_chron.specs.declared.answer.Answer.{Answer}
use Rattle.tier_chron.specs.declared.entries.Logged.{Logged}
use Rattle.tier_core.specs.Ends.{IsEnded}
use Rattle.tier_core.specs.declared.turns.Turn.{Turn}
use Rattle.tier_moves.specs.declared.begun.Begun.{Begun}
use Rattle.tier_moves.specs.declared.begun.Begun.TheVariants.{Answered}
use Rattle.tier_view.specs.Views.{GroupView}

-- this is told, and the call is over without an answer
pub record Drops (turn : Turn) (told : Begun) (v new : GroupView) (outcome : Begun) : Type 0 where
  pub told_is : outcome ≡ told
  pub ended : IsEnded turn.call None v new

-- the call was answered, and is over
pub record Ends (turn : Turn) (logged : Logged) (v new : GroupView) (outcome : Begun) : Type 0
  where
    pub told_is : outcome ≡ Answered turn.call
    pub ended : IsEnded turn.call (Some logged) v new

-- a fault, or what is told before a way is gone, is answered at the present number of acts
abbrev pub failed_here : Turn → (acts : ℕ) → (way : Option Path) → Answer → Logged
failed_here turn acts way told = record {
  call = turn.call;
  line = turn.line;
  begin = turn.begin;
  place = acts;
  end = acts;
  path = way;
  answer = told;
}
