-- How a run of accepted lines ends: on the base of the one pair, from what a crash left of it.
use Rattle.std.specs.Prelude.{◌≡◌, ◌≢◌, ◌⊎◌, ℕ, List, map, Option}
use Rattle.log_image.specs.Fronts.{IsBad, IsOf}
use Rattle.log_image.specs.Images.{HoldsLog}
use Rattle.log_store.specs.Opens.{OpeningStops, OpensAs}
use Rattle.obj_model.specs.declared.change.Pool.TheVariants.{Base}
use Rattle.obj_ops.specs.Stores.{Store}
use Rattle.report_text.specs.Faults.{bad_image_text, unbuilt_text, wrong_pair_text}
use Rattle.script_lang.specs.declared.line.Numbered as lang
use Rattle.store_face.specs.Tables.{Table}
use Rattle.store_face.specs.Views.{Durable}
use Rattle.tier_outside.specs.Causes.{Rose}
use Rattle.tier_outside.specs.Disk.{DiskMoment, EachImage, IsImage}
use Rattle.tier_outside.specs.DiskMoments.{Now, SomeImage}
use Rattle.tier_outside.specs.Streams.{Gains}
use Rattle.tier_tool.specs.Bases.{StandsFor}
use Rattle.tier_tool.specs.Lines.{EndsAs, Ending, IsLeft, LineAnswer, AnswersLines, Standing, given, lines_given}
use Rattle.tier_tool.specs.Lines.{standing}
use Rattle.tool_jobs.specs.Outside.{PairSeen, Targets, base_of, room_of}
use Rattle.tier_tool.specs.Plain.{plain}
use Rattle.tool_jobs.specs.Putting.{MakesAndPuts}
use Rattle.tier_tool.specs.Tasks.{IsFirstUnbuilt, as_line}
use Rattle.tier_tool.specs.declared.task.Numbered.{Numbered}

-- whatever a crash leaves of the disk now stands so to its moment before
abbrev pub BackLeaves : Option (List DiskMoment) → Option (List DiskMoment)
    → (DiskMoment → List ℕ → Type 0) → Type 0
BackLeaves old new Q = Now old (λ d. Now new (λ e. EachImage e (λ image. Q d image)))

-- whatever a crash leaves of the base's disk now stands so to its moment before
abbrev pub BaseLeaves : List PairSeen → List PairSeen → (DiskMoment → List ℕ → Type 0) → Type 0
BaseLeaves old new Q = BackLeaves (base_of old).moments (base_of new).moments Q

-- ---- the base is not opened

-- the base's disk failed while it was opened: status 6, and nothing is put
pub record BaseFailed (old new : Targets) (status : ℕ) : Type 0 where
  pub ended : status ≡ 6
  pub cause : Rose (base_of old.pairs).faults (base_of new.pairs).faults
  pub silent : new.out ≡ old.out
  pub base_kept : BaseLeaves old.pairs new.pairs (OpeningStops Base 257)

-- there was no memory to open the base, which may have been formatted: status 9, and nothing is put
pub record BaseLacks (old new : Targets) (status : ℕ) : Type 0 where
  pub ended : status ≡ 9
  pub silent : new.out ≡ old.out
  pub base_kept : BaseLeaves old.pairs new.pairs (OpeningStops Base 257)

-- what a crash left of the base's disk is no log of a base, by this offset
abbrev pub IsBadBase : Targets → List ℕ → Type 0
IsBadBase old why =
    (at : ℕ) × (why ≡ bad_image_text Base 0 at)
    × SomeImage (base_of old.pairs).moments (λ image. IsBad Base 257 image at)

-- what a crash left of the base's disk is of another pair
abbrev pub IsOtherBase : Targets → List ℕ → Type 0
IsOtherBase old why =
    (other : ℕ) × (why ≡ wrong_pair_text Base 0 other 257) × (other ≢ 257)
    × SomeImage (base_of old.pairs).moments (IsOf Base other)

-- the base's disk is refused, which is told with status 5; the disk stays as it was
pub record RefusesImage (old new : Targets) (status : ℕ) : Type 0 where
  pub why : List ℕ
  pub cause : IsBadBase old why ⊎ IsOtherBase old why
  pub base_kept : BaseLeaves old.pairs new.pairs IsImage
  pub told : MakesAndPuts why 5 old.out new.out status

-- ---- the lines are carried out

-- Whatever a crash leaves of the disk that is handed back is a log that stands so to what the lines
-- left.
abbrev pub IsKept : Standing → Ending → Option (List DiskMoment) → Type 0
IsKept now ending moments =
    Now moments (λ e. EachImage e (λ image. (log : Durable) × HoldsLog Base 257 image log
    × IsLeft now ending log))

-- Lines were said in so much room from a map that stands for a store, with so much of the room
-- used. What is answered is `plain` of the lines that were answered. Whatever a crash leaves of the
-- disk stands for the plain store behind the lines that were said, with as much of the room used;
-- or, where the disk failed in a line, for that store with its act too, and with the record of it
-- used. So an act that was told survives any crash.
pub record SaidFrom (t : Table) (room : ℕ) (store : Store) (used : ℕ) (lines : List Numbered)
    (said : List LineAnswer) (left : List Numbered) (ending : Ending)
    (base : Option (List DiskMoment)) : Type 0 where
  pub now : Standing
  pub says : AnswersLines t room (standing store used) lines said left now
  pub plainly : given said ≡ plain (lines_given lines said) store
  pub kept : IsKept now ending base

-- what was said was said from the log that an image of the base's disk was opened as, whichever
-- plain store its map stands for
abbrev pub SaysFromImage : List PairSeen → List PairSeen → List Numbered → List LineAnswer
    → List Numbered → Ending → Type 0
SaysFromImage old new lines said left ending =
    SomeImage (base_of old).moments (λ image. (log : Durable) × OpensAs Base 257 log image
    × ((store : Store) → StandsFor log.table store
    → SaidFrom log.table (room_of old) store log.used lines said left ending
    (base_of new).moments))

-- Lines are carried out on the base from the log that an image of its disk was opened as. The base
-- of the first pair has the number 257.
pub record CarriesLines (lines : List Numbered) (old new : Targets) (status : ℕ) : Type 0 where
  pub said : List LineAnswer
  pub left : List Numbered
  pub ending : Ending
  pub put : List ℕ
  pub taken : Gains old.out.bytes new.out.bytes put
  pub ends : EndsAs (Rose (base_of old.pairs).faults (base_of new.pairs).faults)
      (Rose old.out.faults new.out.faults) said left ending put status
  pub from : SaysFromImage old.pairs new.pairs lines said left ending

-- ---- the lines of an accepted script

-- the verb of a line is not built yet: the first such line is told, with status 4, and no disk is
-- touched
pub record TellsUnbuilt (lines : List lang.Numbered) (old new : Targets) (status : ℕ) : Type 0 where
  pub number : ℕ
  pub unbuilt : IsFirstUnbuilt lines number
  pub pairs_same : new.pairs ≡ old.pairs
  pub told : MakesAndPuts (unbuilt_text number) 4 old.out new.out status

-- there was no memory before the base was opened: status 9, and nothing is touched
pub record LacksBefore (old new : Targets) (status : ℕ) : Type 0 where
  pub ended : status ≡ 9
  pub untouched : new ≡ old

-- the base is opened, and these lines are carried out on it; or it could not be opened
abbrev pub RunsTasks : List Numbered → Targets → Targets → ℕ → Type 0
RunsTasks tasks old new status =
    BaseLacks old new status ⊎ BaseFailed old new status ⊎ RefusesImage old new status
    ⊎ CarriesLines tasks old new status

-- each verb of the lines is built, and what they ask was carried out
pub record RunsBuilt (lines : List lang.Numbered) (old new : Targets) (status : ℕ) : Type 0 where
  pub tasks : List Numbered
  pub built : lines ≡ map as_line tasks
  pub ends : RunsTasks tasks old new status

-- how a run of an accepted script ends, by its lines
abbrev pub RunsLines : List lang.Numbered → Targets → Targets → ℕ → Type 0
RunsLines lines old new status =
    TellsUnbuilt lines old new status ⊎ LacksBefore old new status ⊎ RunsBuilt lines old new status
