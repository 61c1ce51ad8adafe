-- What is said of lines, one after another, and how a run of lines ends.
use Rattle.std.specs.Prelude.{◌≡◌, ◌⊎◌, ◌<◌, ℕ, ◌+◌, List, [], ◌∷◌, ◌++◌, map}
use Rattle.std.specs.List.{concat}
use Rattle.obj_model.specs.declared.change.Pool.TheVariants.{Base}
use Rattle.obj_ops.specs.Stores.{Store}
use Rattle.report_text.specs.Lines.{call_text}
use Rattle.store_face.specs.Tables.{Table}
use Rattle.store_face.specs.Views.{Durable}
use Rattle.tier_chron.specs.declared.answer.Answer.TheVariants as answer
use Rattle.tier_tool.specs.Bases.{ActsOn, BeforeOrAfter, HasRoom, IsUnreadable, StandsFor}
use Rattle.tier_tool.specs.Costs.{cost}
use Rattle.tier_tool.specs.Plain.{Answered, Plain, after, answered, begun}
use Rattle.tier_tool.specs.Tasks.{name_of}
use Rattle.tier_tool.specs.declared.task.Numbered.{Numbered}

-- what stands behind some lines: the plain store, and how much of the pool's room is used, in bytes
pub record Standing : Type 0 where
  pub plain : Plain
  pub used : ℕ

-- what stands before all lines: a store on which no request acted yet
abbrev pub standing : Store → ℕ → Standing
standing store used = record { plain = begun store; used = used }

-- what stands behind a line that was carried out: its record is used of the room
abbrev pub behind_line : Standing → Numbered → Standing
behind_line p n = record {
  plain = after p.plain n.line;
  used = p.used + cost p.plain.store n.line;
}

-- What is said of a line: its answer; or that the pool has no room for its act; or that the name's
-- value spells no state.
pub data LineAnswer : Type 0 where
  Given : Answered → LineAnswer
  NoRoom : (number used more limit : ℕ) → LineAnswer
  BadRecord : (number : ℕ) → (name : List ℕ) → LineAnswer

-- the text of what is said; a line that is not carried out has no place
abbrev pub line_answer_text : LineAnswer → List ℕ
line_answer_text (Given a) = call_text a.number a.place a.answer
line_answer_text (NoRoom number used more limit) =
    call_text number 0 (answer.NoSpace Base used more limit)
line_answer_text (BadRecord number name) = call_text number 0 (answer.BadRecord Base name)

-- the texts of what is said, one behind another
abbrev pub texts_of : List LineAnswer → List ℕ
texts_of said = concat (map line_answer_text said)

-- the text of a line in which the base's disk failed
abbrev pub disk_fault_text : ℕ → List ℕ
disk_fault_text number = call_text number 0 (answer.DiskFault Base)

-- the answers among what is said
abbrev pub given : List LineAnswer → List Answered
given [] = []
given (Given a ∷ said) = a ∷ given said
given (NoRoom number used more limit ∷ said) = given said
given (BadRecord number name ∷ said) = given said

-- the lines that were answered, where this is said of the first ones
abbrev pub lines_given : List Numbered → List LineAnswer → List Numbered
lines_given lines [] = []
lines_given [] (s ∷ said) = []
lines_given (n ∷ lines) (Given a ∷ said) = n ∷ lines_given lines said
lines_given (n ∷ lines) (NoRoom number used more limit ∷ said) = lines_given lines said
lines_given (n ∷ lines) (BadRecord number name ∷ said) = lines_given lines said

-- What is said of one line, from a map with such unreadable names, in so much room, over what
-- stands before the line; and what stands behind it. It has the plain store's answer, at its place,
-- where its record fits into the room, and uses that; or it would act, and its record does not fit,
-- and it changes nothing; or its name is unreadable.
abbrev pub AnswersLine : Table → (room : ℕ) → Standing → Numbered → LineAnswer → Standing → Type 0
AnswersLine t room p n (Given a) q =
    (¬ IsUnreadable t (name_of n.line)) × (a ≡ answered p.plain n)
    × HasRoom room p.used p.plain.store n.line × (q ≡ behind_line p n)
AnswersLine t room p n (NoRoom number used more limit) q =
    (¬ IsUnreadable t (name_of n.line)) × ActsOn p.plain.store n.line × (number ≡ n.number)
    × (used ≡ p.used) × (more ≡ cost p.plain.store n.line) × (limit ≡ room)
    × (room < used + more) × (q ≡ p)
AnswersLine t room p n (BadRecord number name) q =
    IsUnreadable t name × (number ≡ n.number) × (name ≡ name_of n.line) × (q ≡ p)

-- What is said of the first lines, one after another; the lines that are left; and what stands
-- behind those that were said.
abbrev pub AnswersLines : Table → (room : ℕ) → Standing → List Numbered → List LineAnswer
    → List Numbered → Standing → Type 0
AnswersLines t room p lines [] left q = (left ≡ lines) × (q ≡ p)
AnswersLines t room p [] (s ∷ ss) left q = ⊥
AnswersLines t room p (n ∷ ns) (s ∷ ss) left q =
    (m : Standing) × AnswersLine t room p n s m × AnswersLines t room m ns ss left q

-- How a run of lines ends: all lines were said; or the sink failed at the last that was, or there
-- was no memory for its text; or the disk failed in a line, of which nothing else is said; or there
-- was no memory to carry a line out.
pub data Ending : Type 0 where
  Whole : Ending
  Unheard : Ending
  Unwritten : Ending
  Failed : Numbered → Ending
  Lacking : Numbered → Ending

-- the one is the other's beginning
pub record IsFront (front whole : List ℕ) : Type 0 where
  pub rest : List ℕ
  pub joined : front ++ rest ≡ whole

-- all was put, and no line is left: status 0
pub record EndsWhole (said : List LineAnswer) (left : List Numbered) (put : List ℕ) (status : ℕ)
    : Type 0 where
  pub ended : status ≡ 0
  pub none_left : left ≡ []
  pub all : put ≡ texts_of said

-- the sink failed at the last text, and has a beginning of it: status 8
pub record EndsUnheard (sink_rose : Type 0) (said : List LineAnswer) (put : List ℕ) (status : ℕ)
    : Type 0 where
  pub ended : status ≡ 8
  pub cause : sink_rose
  pub before : List LineAnswer
  pub last : LineAnswer
  pub split : said ≡ before ++ last ∷ []
  pub part : List ℕ
  pub front : IsFront part (line_answer_text last)
  pub heard : put ≡ texts_of before ++ part

-- the last line was carried out or refused, and there was no memory for its text: status 9
pub record EndsUnwritten (said : List LineAnswer) (put : List ℕ) (status : ℕ) : Type 0 where
  pub ended : status ≡ 9
  pub before : List LineAnswer
  pub last : LineAnswer
  pub split : said ≡ before ++ last ∷ []
  pub heard : put ≡ texts_of before

-- that the disk failed in a line was told, or there was no memory for its text: status 6; or the
-- sink failed in telling it, and has a beginning of it: status 8
abbrev pub TellsFailure : (sink_rose : Type 0) → Numbered → List ℕ → ℕ → Type 0
TellsFailure sink_rose n put status =
    ((status ≡ 6) × ((put ≡ disk_fault_text n.number) ⊎ (put ≡ [])))
    ⊎ ((status ≡ 8) × sink_rose × IsFront put (disk_fault_text n.number))

-- the disk failed in a line, the first that is left: its count of faults rose
pub record EndsFailed (disk_rose sink_rose : Type 0) (said : List LineAnswer) (left : List Numbered)
    (n : Numbered) (put : List ℕ) (status : ℕ) : Type 0 where
  pub others : List Numbered
  pub at : left ≡ n ∷ others
  pub cause : disk_rose
  pub part : List ℕ
  pub told : TellsFailure sink_rose n part status
  pub heard : put ≡ texts_of said ++ part

-- there was no memory for a line, the first that is left, and it did nothing: status 9
pub record EndsLacking (said : List LineAnswer) (left : List Numbered) (n : Numbered) (put : List ℕ)
    (status : ℕ) : Type 0 where
  pub ended : status ≡ 9
  pub others : List Numbered
  pub at : left ≡ n ∷ others
  pub all : put ≡ texts_of said

-- how a run of lines ended, by what was put and the status
abbrev pub EndsAs : (disk_rose sink_rose : Type 0) → List LineAnswer → List Numbered → Ending
    → List ℕ → ℕ → Type 0
EndsAs disk_rose sink_rose said left Whole put status = EndsWhole said left put status
EndsAs disk_rose sink_rose said left Unheard put status = EndsUnheard sink_rose said put status
EndsAs disk_rose sink_rose said left Unwritten put status = EndsUnwritten said put status
EndsAs disk_rose sink_rose said left (Failed n) put status =
    EndsFailed disk_rose sink_rose said left n put status
EndsAs disk_rose sink_rose said left (Lacking n) put status = EndsLacking said left n put status

-- what is left stands for the store behind the lines that were said, with as much used
abbrev pub IsBehind : Standing → Durable → Type 0
IsBehind q d = StandsFor d.table q.plain.store × (d.used ≡ q.used)

-- What is left stands for the store behind the lines that were said; or, where the disk failed in
-- one more line, for that store or the one with its act too, whose cost is used then.
abbrev pub IsLeft : Standing → Ending → Durable → Type 0
IsLeft q Whole d = IsBehind q d
IsLeft q Unheard d = IsBehind q d
IsLeft q Unwritten d = IsBehind q d
IsLeft q (Failed n) d = BeforeOrAfter q.plain n.line q.used d
IsLeft q (Lacking n) d = IsBehind q d
