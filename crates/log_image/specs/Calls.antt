-- How the reading of a log ends.
use Rattle.std.specs.Prelude.{◌≡◌, ℕ, ◌+◌, List, [], Option, Result, Ok, Err}
use Rattle.obj_model.specs.declared.change.Pool.{Pool}
use Rattle.store_face.specs.declared.fault.StoreFault.{StoreFault}
use Rattle.store_face.specs.declared.fault.StoreFault.TheVariants.{Disk, BadImage, NoSpace, Worn}
use Rattle.store_face.specs.declared.fault.StoreFault.TheVariants.{NoMemory}
use Rattle.tier_outside.specs.Disk.{DiskMoment, RangeStands}
use Rattle.tier_outside.specs.DiskMoments.{Now}
use Rattle.gate_journal.specs.declared.journal.Journal.{Journal}
use Rattle.pool_map.specs.Pools.{PoolView}
use Rattle.log_image.specs.Images.{HoldsLog}
use Rattle.log_image.specs.Fronts.{IsHeaded, IsNoLog}
use Rattle.log_image.specs.Standing.{IsLogJournal, LogStands}

-- A log was read: whichever pool and pair its head has, the bytes hold the map, and the log stands
-- where they are settled.
pub record Held (moments : Option (List DiskMoment)) (journal : Journal)
    (map : PoolView) : Type 0 where
  pub journal_is : IsLogJournal journal
  pub rested : map.ready ≡ []
  pub holds : Now moments (λ d. (role : Pool) (pair : ℕ) → IsHeaded role pair d.content
      → HoldsLog role pair d.content (record { table = map.table; used = journal.next + 1 }))
  pub stands : Now moments (λ d. (role : Pool) (pair : ℕ) → IsHeaded role pair d.content
      → RangeStands 0 (journal.next + 1) d → LogStands role pair journal map.table d)

-- A log is read. It is refused as none exactly at the place that breaks it; the disk is blamed only
-- where it failed.
abbrev pub ReadEnds : Option (List DiskMoment) → (failed : Type 0)
    → Result (Journal × PoolView) StoreFault → Type 0
ReadEnds moments failed (Ok read) = Held moments read.0 read.1
ReadEnds moments failed (Err (BadImage at)) = Now moments (λ d. IsNoLog d.content at)
ReadEnds moments failed (Err Disk) = failed
ReadEnds moments failed (Err NoMemory) = Unit {0}
ReadEnds moments failed (Err (NoSpace used need limit)) = ⊥
ReadEnds moments failed (Err (Worn limit)) = ⊥
