-- What a commit to a log leaves on its disk.
use Rattle.std.specs.Prelude.{◌≡◌, ◌⊎◌, ℕ, ◌+◌, List, Result, Ok, Err}
use Rattle.obj_model.specs.declared.change.Change.{Change}
use Rattle.obj_model.specs.declared.change.Pool.{Pool}
use Rattle.store_face.specs.declared.fault.StoreFault.{StoreFault}
use Rattle.store_face.specs.declared.fault.StoreFault.TheVariants.{Disk, BadImage, NoSpace, Worn, NoMemory}
use Rattle.store_face.specs.Rooms.{record_size}
use Rattle.store_face.specs.Tables.{changed_by}
use Rattle.store_face.specs.Views.{Durable}
use Rattle.log_image.specs.Images.{HoldsLog}
use Rattle.log_store.specs.Views.{LogView}

-- what a log holds with changes more: the map with them, and their record behind what was used
abbrev pub with_changes : List Change → Durable → Durable
with_changes changes d = record {
  table = changed_by d.table changes;
  used = d.used + record_size changes;
}

-- an image holds the log of before, or the one with the changes
abbrev pub WithOrWithout : Pool → ℕ → List Change → Durable → List ℕ → Type 0
WithOrWithout role pair changes d image =
    HoldsLog role pair image d ⊎ HoldsLog role pair image (with_changes changes d)

-- A commit that is refused for space or memory leaves all as it was, the disk and its count of
-- faults too. A log has no other refusal.
abbrev pub KeepsAll : LogView → LogView → Result (Unit {0}) StoreFault → Type 0
KeepsAll old new (Ok done) = Unit {0}
KeepsAll old new (Err Disk) = Unit {0}
KeepsAll old new (Err (NoSpace used need limit)) = new ≡ old
KeepsAll old new (Err NoMemory) = new ≡ old
KeepsAll old new (Err (BadImage at)) = ⊥
KeepsAll old new (Err (Worn limit)) = ⊥

-- the pool, the pair and the room stay
pub record SameStore (old new : LogView) : Type 0 where
  pub role : new.role ≡ old.role
  pub pair : new.pair ≡ old.pair
  pub room : new.room ≡ old.room
