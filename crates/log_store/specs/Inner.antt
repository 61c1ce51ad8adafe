-- What a store keeps of itself.
use Rattle.std.specs.Prelude.{◌≡◌, ℕ, ◌+◌, Bool, true, List, [], Option}
use Rattle.obj_model.specs.declared.change.Pool.{Pool}
use Rattle.tier_outside.specs.Disk.{DiskMoment}
use Rattle.tier_outside.specs.DiskMoments.{Now}
use Rattle.tier_outside.specs.Moments as moments
use Rattle.gate_journal.specs.declared.journal.Journal.{Journal}
use Rattle.pool_map.specs.Pools.{PoolView}
use Rattle.store_face.specs.Tables.{Table}
use Rattle.store_face.specs.Views.{CrashMaps, Durable, alone, no_map}
use Rattle.log_image.specs.Standing.{IsLogJournal, LogStands}
use Rattle.log_store.specs.Views.{EachHolds}
use Rattle.log_store.specs.declared.moment.Held.{Held}
use Rattle.log_store.specs.declared.moment.Moment.{Moment}

-- what is kept of what a crash leaves, as the store tells it
abbrev pub durable_of : Held → Durable
durable_of h = record { table = h.map.value.table; used = h.used.value }

-- the same of a moment
abbrev pub crash_of : Moment → CrashMaps
crash_of m = record { before = durable_of m.before; after = durable_of m.after }

-- the last of the moments that are kept
abbrev pub last : List CrashMaps → CrashMaps
last past = moments.last no_map past

-- what a log holds that stands: its map, and what is used up to behind its closed gate
abbrev pub held : Journal → Table → Durable
held journal t = record { table = t; used = journal.next + 1 }

-- Whatever a crash leaves holds one of the two of the last moment. In a live store these are one,
-- with the map in memory, and its log stands on the disk.
pub record IsWhole (role : Pool) (pair : ℕ) (journal : Journal) (map : PoolView) (live : Bool)
    (disk : Option (List DiskMoment)) (past : List CrashMaps) : Type 0 where
  pub journal_is : IsLogJournal journal
  pub rested : map.ready ≡ []
  pub holds : EachHolds role pair disk (last past)
  pub stands : live ≡ true → Now disk (LogStands role pair journal map.table)
  pub one : live ≡ true → last past ≡ alone (held journal map.table)
