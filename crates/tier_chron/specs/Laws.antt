-- What follows from the definitions, in plain words.
use Rattle.std.specs.Prelude.{◌≡◌, ◌≢◌, ◌≤◌, ℕ, suc, true, false, List, [], ◌∷◌, ◌++◌, length, Option, Some, None}
use Rattle.std.specs.List.{AllByRecursion}
use Rattle.obj_ops.specs.Stores.{Store, state_of}
use Rattle.tier_chron.specs.Calls.{Call, call_of}
use Rattle.tier_chron.specs.Fits.{AreTrue, Fits, FitsCall, IsHistoryFrom, TellsCall}
use Rattle.tier_chron.specs.Legal.{Acts, IsLegal, IsOrdered}
use Rattle.tier_chron.specs.Logs.{Log, acted_log, answered_log, empty_log, is_opened}
use Rattle.tier_chron.specs.Places.{act_at, behind, store_at, written_over}
use Rattle.tier_chron.specs.Shapes.{HasNoAct, HasOnlyFaults, IsAnswered, IsAskedBy, IsShaped, is_fault}
use Rattle.tier_chron.specs.declared.asked.Asked.{Asked}
use Rattle.tier_chron.specs.declared.asked.Asked.TheVariants.{Write}
use Rattle.tier_chron.specs.declared.entries.First.{First}
use Rattle.tier_chron.specs.declared.entries.Act.{Act}
use Rattle.tier_chron.specs.declared.entries.Logged.{Logged}

-- ---- places

-- the opening store is the present one with the openings written over it, name by name
abbrev pub OpeningIsUnderneath : Log → Type 0
OpeningIsUnderneath log =
    (start : Store) → IsLegal start log → (name : List ℕ)
    → state_of (written_over (behind start log.acts) log.opening) name ≡ state_of start name

-- the store at a place stays when acts come
abbrev pub PlacesStay : Log → Type 0
PlacesStay log =
    (start : Store) (more : List Act) (place : ℕ) → place ≤ length log.acts
    → store_at start (log.acts ++ more) place ≡ store_at start log.acts place

-- each act, by its number, acted on the store at the place before it
abbrev pub EachActed : Log → Type 0
EachActed log =
    (start : Store) → IsLegal start log → (place : ℕ) (a : Act)
    → act_at log.acts (suc place) ≡ Some a
    → Acts (store_at start log.acts place) a

-- ---- one act more

-- the opening that goes with an act: of its name, with the name's present state, exactly where the
-- name has none yet
abbrev pub IsOpeningFor : Store → List First → Act → Option First → Type 0
IsOpeningFor now opening a None = is_opened opening a.req.name ≡ true
IsOpeningFor now opening a (Some f) =
    (is_opened opening a.req.name ≡ false) × (f.name ≡ a.req.name) × (f.state ≡ state_of now f.name)

-- the same without the state
abbrev pub IsNamedFor : List First → Act → Option First → Type 0
IsNamedFor opening a None = is_opened opening a.req.name ≡ true
IsNamedFor opening a (Some f) = (is_opened opening a.req.name ≡ false) × (f.name ≡ a.req.name)

-- a legal history stays legal with one act more that is fresh with its reply, and with its opening
abbrev pub ActKeepsLegal : Act → Type 0
ActKeepsLegal a =
    (start : Store) (log : Log) (first : Option First) → IsLegal start log
    → Acts (behind start log.acts) a
    → IsOpeningFor (behind start log.acts) log.opening a first
    → IsLegal start (acted_log first a log)

-- as far as acts and answers say, the call may act: it has no act yet, and was answered nothing but
-- a fault
pub record MayStillAct (call : ℕ) (log : Log) : Type 0 where
  pub first : HasNoAct call log.acts
  pub free : HasOnlyFaults call log.answers

-- the call may act now: it asked for this act, has none yet, and was answered nothing but a fault
pub record MayAct (calls : List Call) (log : Log) (a : Act) : Type 0 where
  pub asked : IsAskedBy a (call_of calls a.call)
  pub first : HasNoAct a.call log.acts
  pub free : HasOnlyFaults a.call log.answers

-- a history keeps its shape with one act more
abbrev pub ActKeepsShape : Act → Type 0
ActKeepsShape a =
    (calls : List Call) (log : Log) (first : Option First) → IsShaped calls log → MayAct calls log a
    → IsNamedFor log.opening a first → IsShaped calls (acted_log first a log)

-- answers that tell the truth go on telling it with one act more
abbrev pub ActKeepsTruth : Act → Type 0
ActKeepsTruth a =
    (start : Store) (calls : List Call) (log : Log) (first : Option First) → IsShaped calls log
    → MayAct calls log a → AreTrue start calls log → AreTrue start calls (acted_log first a log)

-- the call of this answer may act so: it was answered a fault, has no act yet, and asked for this
pub record MayFollow (acts : List Act) (asked : Asked) (l : Logged) (a : Act) : Type 0 where
  pub free : is_fault l.answer ≡ true
  pub first : HasNoAct l.call acts
  pub wanted : asked ≡ Write a.req

-- an answer that fits goes on fitting behind an act of another call, and a fault behind the first
-- act of its own
abbrev pub AnswerStays : Act → Logged → Type 0
AnswerStays a l =
    (start : Store) (acts : List Act) (asked : Asked) → l.place ≤ length acts
    → (l.call ≡ a.call → MayFollow acts asked l a) → Fits start acts asked l
    → Fits start (acts ++ a ∷ []) asked l

-- ---- one answer more

-- the answer may be logged now: its call has none, its place is not before the call's begin, and no
-- act came since
pub record MayLog (calls : List Call) (log : Log) (l : Logged) : Type 0 where
  pub unanswered : AllByRecursion (λ m. m.call ≢ l.call) log.answers
  pub seen : l.begin ≤ l.place
  pub done : l.place ≤ l.end
  pub now : l.end ≡ length log.acts
  pub answered : IsAnswered log.acts l (call_of calls l.call)

-- a history goes on with one answer more
abbrev pub AnswerKeeps : Logged → Type 0
AnswerKeeps l =
    (start : Store) (calls : List Call) (log : Log) → IsHistoryFrom start calls log
    → MayLog calls log l
    → TellsCall start log.acts l (call_of calls l.call)
    → IsHistoryFrom start calls (answered_log l log)

-- ---- what a caller may rely on

-- in a history from a store, each answer fits what its call asked
abbrev pub AnswersFit : Log → Type 0
AnswersFit log =
    (start : Store) (calls : List Call) → IsHistoryFrom start calls log
    → AllByRecursion (λ l. FitsCall start log.acts l (call_of calls l.call)) log.answers

-- two acts with one id: client, number and name
pub record HaveOneId (a b : Act) : Type 0 where
  pub client : b.req.client ≡ a.req.client
  pub tid : b.req.tid ≡ a.req.tid
  pub name : b.req.name ≡ a.req.name

-- no two acts have one id
abbrev pub HaveOwnIds : List Act → Type 0
HaveOwnIds [] = Unit {0}
HaveOwnIds (a ∷ acts) = AllByRecursion (λ b. HaveOneId a b → ⊥) acts × HaveOwnIds acts

-- every request id acts at most once
abbrev pub IdsActOnce : Log → Type 0
IdsActOnce log = (start : Store) → IsLegal start log → HaveOwnIds log.acts

-- what was answered before a call begins has a place that the call's place does not fall behind: a
-- call that begins now begins at the present number of acts, and no answer so far has a greater
-- place
abbrev pub SeenBefore : Log → Type 0
SeenBefore log =
    (begin : ℕ) → IsOrdered log → begin ≡ length log.acts
    → AllByRecursion (λ l. l.place ≤ begin) log.answers

-- ---- one call more

-- a history goes on when a call begins, under a new number and at the present number of acts
abbrev pub CallKeeps : Log → Type 0
CallKeeps log =
    (start : Store) (calls : List Call) (c : Call) → IsHistoryFrom start calls log
    → call_of calls c.number ≡ None
    → c.begin ≡ length log.acts → IsHistoryFrom start (calls ++ c ∷ []) log

-- a history in which nothing happened yet is one from every store, without calls
abbrev pub BeginsAnywhere : Type 0
BeginsAnywhere = (start : Store) → IsHistoryFrom start [] empty_log
