-- What is outside the program, as it is seen before and after: streams, disks, and their faults.
use Rattle.std.specs.Prelude.{◌≡◌, ◌≤◌, ◌^◌, ℕ, List, [], ◌∷◌, map, Option, None}
use Rattle.tier_outside.specs.Disk.{DiskMoment}
use Rattle.tier_outside.specs.Streams.{StreamState}
use Rattle.tool_jobs.specs.declared.pair.DiskPair.{DiskPair}

-- a disk: its moments, where it tells them, and how often it failed
pub record DiskSeen : Type 0 where
  pub moments : Option (List DiskMoment)
  pub faults : ℕ

-- a pair of pools: their disks, and the bytes that each pool may use of its own
pub record PairSeen : Type 0 where
  pub cache : DiskSeen
  pub base : DiskSeen
  pub cache_room : ℕ
  pub base_room : ℕ

-- what a run writes to: the sink, and the disks of its pairs
pub record Targets : Type 0 where
  pub out : StreamState
  pub pairs : List PairSeen

-- all that is outside: the source of the script, and what a run writes to
pub record Outside : Type 0 where
  pub script : StreamState
  pub targets : Targets

-- ---- as the values of the program tell it

-- a stream: what it has left or holds, and how often it failed
abbrev pub stream : {X : Type 0} → (X → Option (List ℕ)) → (X → ℕ) → X → StreamState
stream bytes faults x = record { bytes = bytes x; faults = faults x }

abbrev pub disk : {D : Type 0} → (D → Option (List DiskMoment)) → (D → ℕ) → D → DiskSeen
disk moments faults d = record { moments = moments d; faults = faults d }

abbrev pub pair_seen : {D : Type 0} → (D → Option (List DiskMoment)) → (D → ℕ) → DiskPair D
    → PairSeen
pair_seen moments faults pair = record {
  cache = disk moments faults pair.cache;
  base = disk moments faults pair.base;
  cache_room = pair.cache_room;
  base_room = pair.base_room;
}

abbrev pub pairs_seen : {D : Type 0} → (D → Option (List DiskMoment)) → (D → ℕ)
    → List (DiskPair D) → List PairSeen
pairs_seen moments faults pairs = map (pair_seen moments faults) pairs

abbrev pub targets : StreamState → List PairSeen → Targets
targets out pairs = record { out = out; pairs = pairs }

abbrev pub outside : StreamState → Targets → Outside
outside script there = record { script = script; targets = there }

-- ---- the one pair

-- no disk
abbrev pub no_disk : DiskSeen
no_disk = record { moments = None; faults = 0 }

-- the base of the first pair
abbrev pub base_of : List PairSeen → DiskSeen
base_of [] = no_disk
base_of (pair ∷ pairs) = pair.base

-- the room for the log of the first pair's base, in bytes
abbrev pub room_of : List PairSeen → ℕ
room_of [] = 0
room_of (pair ∷ pairs) = pair.base_room

-- a room that a log may have
abbrev pub IsRoom : ℕ → Type 0
IsRoom room = (64 ≤ room) × (room ≤ 2 ^ 40)

-- there is one pair, and its base has a room that a log may have
abbrev pub IsOnePair : {D : Type 0} → List (DiskPair D) → Type 0
IsOnePair [] = ⊥
IsOnePair (pair ∷ []) = IsRoom pair.base_room
IsOnePair (pair ∷ more ∷ pairs) = ⊥

-- the one pair is handed back: its cache, which is not used yet, and its rooms are as they were
abbrev pub IsHandedBack : {D : Type 0} → List (DiskPair D) → List (DiskPair D) → Type 0
IsHandedBack (pair ∷ []) (back ∷ []) =
    (back.cache ≡ pair.cache) × (back.cache_room ≡ pair.cache_room)
    × (back.base_room ≡ pair.base_room)
IsHandedBack old new = ⊥
