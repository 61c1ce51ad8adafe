-- How one line is carried out, put into words and told, and what was told so far.
use Rattle.std.specs.Prelude.{◌≡◌, ◌⊎◌, ℕ, true, List, [], ◌++◌, Result, Ok, Err}
use Rattle.log_store.specs.Commits.{SameStore}
use Rattle.log_store.specs.Views.{LogView, store_of}
use Rattle.obj_model.specs.declared.memory.NoMemory.{NoMemory}
use Rattle.obj_ops.specs.Stores.{Store}
use Rattle.store_face.specs.Tables.{Table}
use Rattle.store_face.specs.Views.{StoreView, Sound, Now, Holds}
use Rattle.tier_tool.specs.Bases.{StandsFor}
use Rattle.tier_tool.specs.Lines.{EndsAs, Ending, IsFront, IsLeft, AnswersLine, LineAnswer, AnswersLines, Standing}
use Rattle.tier_tool.specs.Lines.{TellsFailure, line_answer_text, standing, texts_of}
use Rattle.tier_tool.specs.Lines.LineAnswer.{BadRecord, NoRoom}
use Rattle.tier_tool.specs.Tasks.{name_of}
use Rattle.tier_tool.specs.Steps.Serving.{GoesOn, InDoubt, SameUnreadable}
use Rattle.tier_tool.specs.declared.base.LineFault.{LineFault}
use Rattle.tier_tool.specs.declared.base.LineFault.TheVariants as line
use Rattle.tier_tool.specs.declared.saying.Unsaid.{Unsaid}
use Rattle.tier_tool.specs.declared.saying.Unsaid.TheVariants as unsaid
use Rattle.tier_tool.specs.declared.task.Numbered.{Numbered}

-- ---- one line

-- This is said of a line over what stands before it, and the map stands for the plain store behind
-- it, with so many acts; what is used of the room is what the store counts.
pub record SaysLine (t : Table) (room : ℕ) (p : Standing) (n : Numbered) (s : LineAnswer) (acts : ℕ)
    (new : LogView) : Type 0 where
  pub behind : Standing
  pub says : AnswersLine t room p n s behind
  pub counted : behind.plain.acts ≡ acts
  pub taken : behind.used ≡ new.used
  pub stands : Holds (store_of new) (λ u. StandsFor u behind.plain.store)

-- This is said of a line, whichever plain store with so many acts the map stands for, in the
-- store's room. The same names are unreadable behind it.
pub record IsSaid (n : Numbered) (s : LineAnswer) (before acts : ℕ) (old new : LogView) : Type 0
  where
    pub live : new.live ≡ true
    pub unreadable : Holds (store_of old) (λ t. Holds (store_of new) (SameUnreadable t))
    pub from : Holds (store_of old) (λ t. (p : Standing) → p.plain.acts ≡ before
        → p.used ≡ old.used → StandsFor t p.plain.store → SaysLine t old.room p n s acts new)

-- nothing is said of a line: a crash leaves what was there before it, or that with its act
abbrev pub LeavesInDoubt : Numbered → StoreView → StoreView → Type 0
LeavesInDoubt n old new = Holds old (λ t. Now new (InDoubt n.line t old.used))

-- a text was written, so that this holds; or memory lacked for it
abbrev pub IsWritten : Type 0 → Result (Unit {0}) Unsaid → Type 0
IsWritten P (Ok done) = P
IsWritten P (Err unsaid.Disk) = ⊥
IsWritten P (Err unsaid.NoMemory) = ⊥
IsWritten P (Err unsaid.Unwritten) = Unit {0}

-- the same of a text that was written, or lacked memory, as it is told
abbrev pub IsInWords : Result (Unit {0}) NoMemory → Result (Unit {0}) Unsaid → Type 0
IsInWords (Ok done) result = result ≡ Ok done
IsInWords (Err lacking) result = result ≡ Err unsaid.Unwritten

-- why a line was not carried out was put into words behind a text, or nothing is said of it
abbrev pub SaysFault : Numbered → LineFault → List ℕ → List ℕ → Result (Unit {0}) Unsaid → Type 0
SaysFault n (line.NoSpace used need limit) old new result =
    IsWritten (new ≡ old ++ line_answer_text (NoRoom n.number used need limit)) result
SaysFault n line.BadRecord old new result =
    IsWritten (new ≡ old ++ line_answer_text (BadRecord n.number (name_of n.line))) result
SaysFault n line.Disk old new result = result ≡ Err unsaid.Disk
SaysFault n line.NoMemory old new result = result ≡ Err unsaid.NoMemory

-- this is said of a line, and a text is what is said
pub record Words (n : Numbered) (before acts : ℕ) (old new : LogView) (text : List ℕ)
    : Type 0 where
  pub said : LineAnswer
  pub text_is : text ≡ line_answer_text said
  pub is : IsSaid n said before acts old new

-- something is said of a line
pub record HasSaid (n : Numbered) (before acts : ℕ) (old new : LogView) : Type 0 where
  pub said : LineAnswer
  pub is : IsSaid n said before acts old new

-- A line was carried out, and put into words; or memory lacked for the words; or the disk failed in
-- it; or memory lacked for it, and nothing changed, the disk's count of faults either.
abbrev pub SayEnds : Numbered → ℕ → ℕ → LogView → LogView → List ℕ → Result (Unit {0}) Unsaid
    → (disk_rose : Type 0) → Type 0
SayEnds n before acts old new text (Ok done) disk_rose = Words n before acts old new text
SayEnds n before acts old new text (Err unsaid.Unwritten) disk_rose = HasSaid n before acts old new
SayEnds n before acts old new text (Err unsaid.Disk) disk_rose =
    LeavesInDoubt n (store_of old) (store_of new) × disk_rose
SayEnds n before acts old new text (Err unsaid.NoMemory) disk_rose =
    (new ≡ old) × (acts ≡ before)

-- ---- one line is told

-- the sink failed at what is said of a line: status 8
pub record IsUnheard (n : Numbered) (before acts : ℕ) (old new : LogView) (sink_rose : Type 0)
    (put : List ℕ) (status : ℕ) : Type 0 where
  pub said : LineAnswer
  pub is : IsSaid n said before acts old new
  pub ended : status ≡ 8
  pub cause : sink_rose
  pub front : IsFront put (line_answer_text said)

-- memory lacked for the text of a line: status 9
pub record IsUnwritten (n : Numbered) (before acts : ℕ) (old new : LogView) (put : List ℕ)
    (status : ℕ) : Type 0 where
  pub said : LineAnswer
  pub is : IsSaid n said before acts old new
  pub ended : status ≡ 9
  pub silent : put ≡ []

-- the disk failed in a line: its count of faults rose in it
pub record FailsIn (n : Numbered) (old new : StoreView) (disk_rose sink_rose : Type 0)
    (put : List ℕ) (status : ℕ) : Type 0 where
  pub told : TellsFailure sink_rose n put status
  pub cause : disk_rose
  pub leaves : LeavesInDoubt n old new

-- memory lacked for a line, and nothing changed, the disk's count of faults either: status 9
pub record LacksIn (old new : LogView) (put : List ℕ) (status : ℕ) : Type 0 where
  pub ended : status ≡ 9
  pub silent : put ≡ []
  pub same : new ≡ old

-- a line was carried out and told; or the run ends at it
abbrev pub TellsLine : Numbered → ℕ → ℕ → LogView → LogView → (disk_rose sink_rose : Type 0)
    → List ℕ → Result (Unit {0}) ℕ → Type 0
TellsLine n before acts old new disk_rose sink_rose put (Ok done) =
    Words n before acts old new put
TellsLine n before acts old new disk_rose sink_rose put (Err status) =
    IsUnheard n before acts old new sink_rose put status
    ⊎ IsUnwritten n before acts old new put status
    ⊎ FailsIn n (store_of old) (store_of new) disk_rose sink_rose put status
    ⊎ LacksIn old new put status

-- ---- lines, one after another

-- what was said so far, in so much room, from a map that stands for a store, over the lines that
-- are no longer left
pub record SaysSoFar (t : Table) (room : ℕ) (from : Standing) (lines left : List Numbered)
    (said : List LineAnswer) (acts : ℕ) (now : LogView) : Type 0 where
  pub behind : Standing
  pub says : AnswersLines t room from lines said left behind
  pub counted : behind.plain.acts ≡ acts
  pub taken : behind.used ≡ now.used
  pub stands : Holds (store_of now) (λ u. StandsFor u behind.plain.store)

-- the lines but those that are left were carried out and told
pub record ToldSoFar (lines left : List Numbered) (acts : ℕ) (old now : LogView) (put : List ℕ)
    : Type 0 where
  pub said : List LineAnswer
  pub put_is : put ≡ texts_of said
  pub live : now.live ≡ true
  pub sound : Sound (store_of now)
  pub same : SameStore old now
  pub goes_on : GoesOn (store_of old) (store_of now)
  pub unreadable : Holds (store_of old) (λ t. Holds (store_of now) (SameUnreadable t))
  pub from : Holds (store_of old) (λ t. (store : Store) → StandsFor t store
      → SaysSoFar t old.room (standing store old.used) lines left said acts now)

-- lines were said in so much room from a map that stands for a store, with so much of the room used
pub record SaysFrom (t : Table) (room : ℕ) (from : Standing) (lines : List Numbered)
    (said : List LineAnswer) (left : List Numbered) (ending : Ending) (new : StoreView) : Type 0
  where
    pub now : Standing
    pub says : AnswersLines t room from lines said left now
    pub before : Now new (λ s. IsLeft now ending s.before)
    pub after_ : Now new (λ s. IsLeft now ending s.after)

-- Lines were carried out on a pool's store, and what is said of each was put before the next: what
-- was put, and the status.
pub record TellsLines (lines : List Numbered) (old new : LogView) (disk_rose sink_rose : Type 0)
    (put : List ℕ) (status : ℕ) : Type 0 where
  pub said : List LineAnswer
  pub left : List Numbered
  pub ending : Ending
  pub ends : EndsAs disk_rose sink_rose said left ending put status
  pub from : Holds (store_of old) (λ t. (store : Store) → StandsFor t store
      → SaysFrom t old.room (standing store old.used) lines said left ending (store_of new))
