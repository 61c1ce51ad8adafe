-- A request that acts on a record of the cache, and its answer.
use Rattle.std.specs.Prelude.{◌≡◌, ◌+◌, length, Option, Some, Ok, Err}
use Rattle.obj_model.specs.declared.reply.Reply.{Reply}
use Rattle.obj_model.specs.declared.req.Req.{Req}
use Rattle.obj_model.specs.declared.state.NameState.{NameState}
use Rattle.obj_model.specs.declared.tier.Path.TheVariants.{Hit}
use Rattle.tier_chron.specs.Logs.{Log}
use Rattle.tier_chron.specs.declared.entries.Act.{Act}
use Rattle.tier_chron.specs.declared.entries.Logged.{Logged}
use Rattle.tier_core.specs.Acts.{first_for}
use Rattle.tier_core.specs.Ends.{IsEnded}
use Rattle.tier_core.specs.declared.turns.Turn.{Turn}
use Rattle.tier_join.specs.Steps.{Outcome}
use Rattle.tier_types.specs.declared.record.TierRec.{TierRec}
use Rattle.tier_view.specs.Answered.{own_answer}
use Rattle.tier_view.specs.Locals.{acted_locally}
use Rattle.tier_view.specs.Views.{GroupView}

-- the act of a call
abbrev pub own_act : Turn → Req → Reply → Act
own_act turn req given =
    record { call = turn.call; line = turn.line; req = req; reply = given }

-- its answer, whose place is the number of the act that comes next
abbrev pub wrote_here : Turn → Log → Reply → Logged
wrote_here turn log given = record {
  call = turn.call;
  line = turn.line;
  begin = turn.begin;
  place = length log.acts + 1;
  end = length log.acts + 1;
  path = Some Hit;
  answer = own_answer given;
}

-- what the act makes of the group, by what its commit came to
abbrev pub acted_here : Turn → Req → Reply → TierRec → NameState → Outcome → (old new : GroupView)
    → GroupView
acted_here turn req given held state result old new =
    acted_locally (first_for old.log.opening req.name held.state) (own_act turn req given) held state
    old.agent.moment new.stores.cache result old

-- Where the commit was made, the act is in the history, and its call has ended with its answer.
-- Else the call is in flight: the act is in doubt, or nothing has changed.
abbrev pub Writes : Turn → Req → Reply → TierRec → NameState → (old new : GroupView) → Outcome
    → Type 0
Writes turn req given held state old new (Ok made) =
    IsEnded turn.call (Some (wrote_here turn old.log given))
    (acted_here turn req given held state (Ok made) old new) new
Writes turn req given held state old new (Err fault) =
    new ≡ acted_here turn req given held state (Err fault) old new
