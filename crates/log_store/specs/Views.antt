-- A store over a log as its callers see it.
use Rattle.std.specs.Prelude.{◌⊎◌, ℕ, Bool, List, Option, refl}
use Rattle.std.specs.Coded.{Coded, code_by, coded×, coded_ℕ, coded_list, coded_option, coded_bool}
use Rattle.obj_model.specs.declared.change.Pool.{Pool}
use Rattle.obj_model.specs.contracts.change.Pool as pool
use Rattle.tier_outside.specs.Disk.{DiskMoment, EachImage}
use Rattle.tier_outside.specs.DiskMoments.{Now, coded_moment}
use Rattle.store_face.specs.Codes.{coded_crash}
use Rattle.store_face.specs.Rooms.{LogRoom}
use Rattle.store_face.specs.Views.{CrashMaps, StoreView}
use Rattle.log_image.specs.Images.{HoldsLog}

-- A store over a log: the moments of its disk and how often that failed; whether it is live; what
-- pool and pair it is of; the room for its log and the offset behind the log's last gate, in bytes;
-- and, moment by moment since it was opened, what a crash may leave.
pub record LogView : Type 0 where
  pub disk : Option (List DiskMoment)
  pub faults : ℕ
  pub live : Bool
  pub role : Pool
  pub pair : ℕ
  pub room : ℕ
  pub used : ℕ
  pub moments : Option (List CrashMaps)

-- it as every store is seen
abbrev pub store_of : LogView → StoreView
store_of v = record {
  moments = v.moments;
  live = v.live;
  faults = v.faults;
  room = LogRoom v.room;
  used = v.used;
}

-- an image is a log that holds one of the two
abbrev pub HoldsEither : Pool → ℕ → CrashMaps → List ℕ → Type 0
HoldsEither role pair s image = HoldsLog role pair image s.before ⊎ HoldsLog role pair image s.after

-- whatever a crash leaves of the disk is a log that holds one of the two
abbrev pub EachHolds : Pool → ℕ → Option (List DiskMoment) → CrashMaps → Type 0
EachHolds role pair moments s = Now moments (λ d. EachImage d (HoldsEither role pair s))

-- how it is written down as a value of contracts
abbrev pub coded_log : Coded LogView
coded_log =
    code_by ((Option (List DiskMoment) × (ℕ × Bool))
    × ((Pool × (ℕ × (ℕ × ℕ))) × Option (List CrashMaps)))
    (coded× (coded× (coded_option (coded_list coded_moment)) (coded× coded_ℕ coded_bool))
    (coded× (coded× pool.the_row.coded (coded× coded_ℕ (coded× coded_ℕ coded_ℕ)))
    (coded_option (coded_list coded_crash))))
    (λ v. ((v.disk, (v.faults, v.live)), ((v.role, (v.pair, (v.room, v.used))), v.moments)))
    (λ c. record {
      disk = c.0.0;
      faults = c.0.1.0;
      live = c.0.1.1;
      role = c.1.0.0;
      pair = c.1.0.1.0;
      room = c.1.0.1.1.0;
      used = c.1.0.1.1.1;
      moments = c.1.1;
    })
    (λ _. refl)
