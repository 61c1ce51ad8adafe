-- How what a store tells is written down as a value of contracts.
use Rattle.std.specs.Prelude.{◌≡◌, ℕ, zero, suc, Bool, List, Option, refl}
use Rattle.std.specs.FinMap as fin
use Rattle.std.specs.Coded.{Coded, code_by, coded×, coded_ℕ, coded_bool, coded_list, coded_option}
use Rattle.store_face.specs.Rooms.{Room, LogRoom, BlockRoom}
use Rattle.store_face.specs.Tables.{Table}
use Rattle.store_face.specs.Views.{CrashMaps, Durable, StoreView}

-- a map
abbrev pub coded_table : Coded Table
coded_table = fin.code (coded_list coded_ℕ) (coded_list coded_ℕ)

-- what a crash leaves
abbrev pub coded_durable : Coded Durable
coded_durable =
    code_by (Table × ℕ) (coded× coded_table coded_ℕ) (λ d. (d.table, d.used))
    (λ c. record { table = c.0; used = c.1 }) (λ _. refl)

-- what a crash may leave at one moment
abbrev pub coded_crash : Coded CrashMaps
coded_crash =
    code_by (Durable × Durable) (coded× coded_durable coded_durable) (λ s. (s.before, s.after))
    (λ c. record { before = c.0; after = c.1 }) (λ _. refl)

-- the parts of a room, and the room that they make
abbrev pub parts_of : Room → ℕ × (ℕ × ℕ)
parts_of (LogRoom limit) = (0, (limit, 0))
parts_of (BlockRoom blocks area) = (1, (blocks, area))

abbrev pub room_of : ℕ × (ℕ × ℕ) → Room
room_of p = elim (p.0) [ zero ↦ LogRoom p.1.0 | suc k ↦ BlockRoom p.1.0 p.1.1 ]

pub room_back : (r : Room) → room_of (parts_of r) ≡ r
room_back (LogRoom limit) = refl
room_back (BlockRoom blocks area) = refl

-- what a store tells
abbrev pub coded_store : Coded StoreView
coded_store =
    code_by ((Option (List CrashMaps) × (Bool × ℕ)) × ((ℕ × (ℕ × ℕ)) × ℕ))
    (coded× (coded× (coded_option (coded_list coded_crash)) (coded× coded_bool coded_ℕ))
    (coded× (coded× coded_ℕ (coded× coded_ℕ coded_ℕ)) coded_ℕ))
    (λ v. ((v.moments, (v.live, v.faults)), (parts_of v.room, v.used)))
    (λ c. record {
      moments = c.0.0;
      live = c.0.1.0;
      faults = c.0.1.1;
      room = room_of c.1.0;
      used = c.1.1;
    })
    (λ v i. record v { room = room_back v.room i })
