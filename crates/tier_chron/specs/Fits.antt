-- Answers that fit: what an answer tells is what the plain store tells at the answer's place.
use Rattle.std.specs.Prelude.{◌≡◌, ℕ, true, List, Option, Some, None}
use Rattle.std.specs.List.{AllByRecursion}
use Rattle.obj_model.specs.declared.reply.Reply.{Reply}
use Rattle.obj_model.specs.declared.reply.Reply.TheVariants as reply
use Rattle.obj_model.specs.declared.req.Req.{Req}
use Rattle.obj_model.specs.declared.state.NameState.{NameState}
use Rattle.obj_model.specs.declared.sub_op.SubOp.{SubOp}
use Rattle.obj_ops.specs.Acts.{act, look}
use Rattle.obj_ops.specs.Stores.{Store}
use Rattle.obj_ops.specs.declared.reading.Looked.TheVariants as looked
use Rattle.obj_ops.specs.declared.request.Acted.TheVariants as acted
use Rattle.tier_chron.specs.Calls.{Call, call_of}
use Rattle.tier_chron.specs.Legal.{IsLegal}
use Rattle.tier_chron.specs.Logs.{Log}
use Rattle.tier_chron.specs.Places.{state_at}
use Rattle.tier_chron.specs.Shapes.{DoesAsked, HasNoAct, HasOneAct, IsShaped, NumbersAgree, Stands, may_answer, may_go}
use Rattle.tier_chron.specs.declared.answer.Answer.{Answer}
use Rattle.tier_chron.specs.declared.answer.Answer.TheVariants as answer
use Rattle.tier_chron.specs.declared.asked.Asked.{Asked}
use Rattle.tier_chron.specs.declared.asked.Asked.TheVariants.{Write, Read}
use Rattle.tier_chron.specs.declared.entries.Act.{Act}
use Rattle.tier_chron.specs.declared.entries.Logged.{Logged}

-- an act of the call, where there is one, has this reply
abbrev pub HasReply : ℕ → Reply → List Act → Type 0
HasReply call given acts = AllByRecursion (λ a. a.call ≡ call → a.reply ≡ given) acts

-- the request was answered before: here it is answered again, with this reply
pub record IsKept (s : NameState) (acts : List Act) (req : Req) (l : Logged)
    (given : Reply) : Type 0 where
  pub again : act s req ≡ acted.Again given
  pub same : HasReply l.call given acts

-- the request comes too late: a later one of its client acted, with this number
pub record IsStale (s : NameState) (acts : List Act) (req : Req) (l : Logged)
    (tid : ℕ) : Type 0 where
  pub stale : act s req ≡ acted.Stale tid
  pub none : HasNoAct l.call acts

-- what an answer to a write request tells, where the name has this state at its place
abbrev pub TellsWrite : NameState → List Act → Req → Logged → Answer → Type 0
TellsWrite s acts req l (answer.Done ver true) = IsKept s acts req l (reply.Done ver)
TellsWrite s acts req l (answer.Refused at why ver true) =
    IsKept s acts req l (reply.Refused at why ver)
TellsWrite s acts req l (answer.Stale tid) = IsStale s acts req l tid
TellsWrite s acts req l other = Unit {0}

-- what an answer to a reading tells
abbrev pub TellsRead : NameState → List SubOp → Answer → Type 0
TellsRead s vector (answer.Values ver outs) = look s vector ≡ looked.Values ver outs
TellsRead s vector (answer.Refused at why ver kept) = look s vector ≡ looked.Refused at why ver
TellsRead s vector other = Unit {0}

-- what an answer tells; only answers to clients tell of objects
abbrev pub TellsTruth : Store → List Act → Asked → Logged → Type 0
TellsTruth start acts (Write req) l =
    TellsWrite (state_at start acts l.place req.name) acts req l l.answer
TellsTruth start acts (Read client name vector) l =
    TellsRead (state_at start acts l.place name) vector l.answer
TellsTruth start acts other l = Unit {0}

-- an answer fits what its call asked: it is one that the call may have; the call has one act at
-- most, which does what it asked; the right acts stand beside the answer; and it tells what the
-- plain store tells
pub record Fits (start : Store) (acts : List Act) (asked : Asked) (l : Logged) : Type 0 where
  pub kind : may_answer asked l.answer ≡ true
  pub numbers : NumbersAgree l.answer
  pub way : may_go asked l.answer l.path ≡ true
  pub single : HasOneAct l.call acts
  pub own : DoesAsked l.call asked acts
  pub beside : Stands acts asked l
  pub told : TellsTruth start acts asked l

-- an answer fits what the call of its number asked
abbrev pub FitsCall : Store → List Act → Logged → Option Call → Type 0
FitsCall start acts l None = ⊥
FitsCall start acts l (Some c) = Fits start acts c.asked l

-- each answer tells the truth
abbrev pub TellsCall : Store → List Act → Logged → Option Call → Type 0
TellsCall start acts l None = ⊥
TellsCall start acts l (Some c) = TellsTruth start acts c.asked l

abbrev pub AreTrue : Store → List Call → Log → Type 0
AreTrue start calls log =
    AllByRecursion (λ l. TellsCall start log.acts l (call_of calls l.call)) log.answers

-- All of it: the history of these calls is that of one plain store from this one on.
pub record IsHistoryFrom (start : Store) (calls : List Call) (log : Log) : Type 0 where
  pub shaped : IsShaped calls log
  pub legal : IsLegal start log
  pub told : AreTrue start calls log
