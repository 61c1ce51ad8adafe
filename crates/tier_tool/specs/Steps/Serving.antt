-- How a line that is carried out on the base's store ends.
use Rattle.std.specs.Prelude.{◌≡◌, ◌↔◌, ◌<◌, ◌≤◌, ℕ, ◌+◌, Bool, true, false, List, Result, Ok, Err}
use Rattle.std.specs.Prelude.{if◌then◌else◌}
use Rattle.log_store.specs.Views.{LogView, store_of}
use Rattle.obj_ops.specs.Stores.{Store}
use Rattle.store_face.specs.Calls.{Fails, Stays}
use Rattle.store_face.specs.Tables.{Table}
use Rattle.store_face.specs.Views.{CrashMaps, Holds, Now, StoreView}
use Rattle.tier_chron.specs.declared.answer.Answer.{Answer}
use Rattle.tier_outside.specs.Moments.{grown}
use Rattle.tier_tool.specs.Bases.{ActsOn, BeforeOrAfter, HasRoom, IsUnreadable, StandsFor}
use Rattle.tier_tool.specs.Costs.{cost}
use Rattle.tier_tool.specs.Plain.{Plain, after, answer}
use Rattle.tier_tool.specs.Tasks.{name_of}
use Rattle.tier_tool.specs.declared.base.LineFault.{LineFault}
use Rattle.tier_tool.specs.declared.base.LineFault.TheVariants as fault
use Rattle.tier_tool.specs.declared.task.Task.{Task}

-- the same names are unreadable
abbrev pub SameUnreadable : Table → Table → Type 0
SameUnreadable t u = (name : List ℕ) → IsUnreadable u name ↔ IsUnreadable t name

-- how many acts more there are
abbrev pub acts_more : Bool → ℕ
acts_more acted = if acted then 1 else 0

-- A line was answered from a map that stands for a store as the plain store answers it, and the map
-- now stands for the store after it.
pub record IsAnswered (line : Task) (t : Table) (new : StoreView) (a : Answer) (acted : Bool)
    : Type 0 where
  pub readable : ¬ IsUnreadable t (name_of line)
  pub unreadable : Holds new (SameUnreadable t)
  pub plainly : (p : Plain) → StandsFor t p.store
      → (a ≡ answer p line) × ((after p line).acts ≡ p.acts + acts_more acted)
      × Holds new (λ u. StandsFor u (after p line).store)

-- what a crash leaves where the disk failed in a line
abbrev pub InDoubt : Task → Table → (used : ℕ) → CrashMaps → Type 0
InDoubt line t used s =
    (p : Plain) → StandsFor t p.store
    → BeforeOrAfter p line used s.before × BeforeOrAfter p line used s.after

-- where no request acted nothing was written: no moment came
abbrev pub WritesOnlyIf : Bool → StoreView → StoreView → Type 0
WritesOnlyIf true old new = Unit {0}
WritesOnlyIf false old new = new.moments ≡ old.moments

-- a line would act, on any store that the map stands for
abbrev pub WouldAct : Task → Table → Type 0
WouldAct line t =
    (¬ IsUnreadable t (name_of line))
    × ((store : Store) → StandsFor t store → ActsOn store line)

-- What a line is answered, with whether it acted; or why it is not carried out. Only a disk that
-- failed may leave an act behind.
abbrev pub LineEnds : Task → StoreView → StoreView → Result (Answer × Bool) LineFault → Type 0
LineEnds line old new (Ok done) =
    Holds old (λ t. IsAnswered line t new done.0 done.1) × (new.live ≡ true)
    × (old.faults ≤ new.faults) × WritesOnlyIf done.1 old new
LineEnds line old new (Err (fault.NoSpace used need limit)) =
    Holds old (WouldAct line) × (limit < used + need) × Stays old new
LineEnds line old new (Err fault.BadRecord) =
    Holds old (λ t. IsUnreadable t (name_of line)) × Stays old new
LineEnds line old new (Err fault.Disk) =
    Holds old (λ t. Now new (InDoubt line t old.used)) × Fails old new
LineEnds line old new (Err fault.NoMemory) = Stays old new

-- more moments came; a store that does not tell its maps still does not
pub record GoesOn (old new : StoreView) : Type 0 where
  pub more : List CrashMaps
  pub grew : new.moments ≡ grown old.moments more

-- a line that acts takes its cost, and has room for it
abbrev pub TakesCost : Task → LogView → LogView → Table → Type 0
TakesCost line old new t =
    (store : Store) → StandsFor t store
    → HasRoom old.room old.used store line × (new.used ≡ old.used + cost store line)

-- A line that is carried out had room where it acts, and takes its cost; it is refused for space
-- exactly where it had none, with these numbers; and where nothing acted nothing was taken. Where
-- there was no memory for it, nothing changed, the disk's count of faults either.
abbrev pub LineUses : Task → LogView → LogView → Result (Answer × Bool) LineFault → Type 0
LineUses line old new (Ok done) = Holds (store_of old) (TakesCost line old new)
LineUses line old new (Err (fault.NoSpace used more limit)) =
    (used ≡ old.used) × (limit ≡ old.room) × (old.room < old.used + more) × (new.used ≡ old.used)
    × Holds (store_of old) (λ t. (store : Store) → StandsFor t store → more ≡ cost store line)
LineUses line old new (Err fault.BadRecord) = new.used ≡ old.used
LineUses line old new (Err fault.Disk) = Unit {0}
LineUses line old new (Err fault.NoMemory) = new ≡ old
