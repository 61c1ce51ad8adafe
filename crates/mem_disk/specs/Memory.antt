-- A disk in memory as its callers see it.
use Rattle.std.specs.Prelude.{◌≡◌, ◌≢◌, ◌⊎◌, ℕ, ◌+◌, ◌-◌, ◌/◌, Bool, false, ◌==◌, ◌||◌, nat_lt, nat_le, List, [], ◌∷◌, ◌++◌, Option, Some, None, Result, Ok, Err, if◌then◌else◌}
use Rattle.tier_outside.specs.Causes.{one_more, is_listed}
use Rattle.tier_outside.specs.Disk.{DiskMoment, IsImage, settled}
use Rattle.tier_outside.specs.DiskMoments.{last}
use Rattle.mem_disk.specs.Picks.{Picked}
use Rattle.mem_disk.specs.declared.pick.Pick.{Pick}
use Rattle.mem_disk.specs.declared.plan.Turn.{Turn}
use Rattle.mem_disk.specs.declared.plan.Turn.TheVariants.{Works, Torn, Off}

-- how many calls there were, which calls fail by their number, and from which call on the disk has
-- stopped
pub record Schedule : Type 0 where
  pub calls : ℕ
  pub fails : List ℕ
  pub stop : Option ℕ

-- a disk in memory: its moments, its faults, how many of these were for want of memory, which of
-- its calls fail, and what a restart leaves
pub record Memory : Type 0 where
  pub moments : List DiskMoment
  pub faults : ℕ
  pub starved : ℕ
  pub schedule : Schedule
  pub pick : Pick

-- a disk that was made of some bytes
abbrev pub fresh : List ℕ → List ℕ → Option ℕ → Pick → Memory
fresh bytes fails stop pick = record {
  moments = settled bytes ∷ [];
  faults = 0;
  starved = 0;
  schedule = record { calls = 0; fails = fails; stop = stop };
  pick = pick;
}

-- a disk in memory tells its moments
abbrev pub told : Memory → Option (List DiskMoment)
told m = Some m.moments

-- the moment now
abbrev pub now : Memory → DiskMoment
now m = last m.moments

-- ---- which calls work

-- the number of the next call
abbrev pub next : Schedule → ℕ
next s = one_more s.calls

-- the next call is one that fails once
abbrev pub fails_next : Schedule → Bool
fails_next s = is_listed (next s) s.fails

-- a call that is listed is torn, and any other works
abbrev pub torn_where : Bool → Turn
torn_where listed = if listed then Torn else Works

-- What the call of a number does, if it is no restart: from the call behind the stop on it is off,
-- and at the stop it is torn.
abbrev pub turn_at : Option ℕ → ℕ → Bool → Turn
turn_at None call listed = torn_where listed
turn_at (Some first) call listed = if nat_lt first call then Off else torn_where
    ((first == call) || listed)

-- what the next call does, if it is no restart
abbrev pub turn_of : Schedule → Turn
turn_of s = turn_at s.stop (next s) (fails_next s)

-- what the next call does, if it is a restart: a stop does not make it fail
abbrev pub restart_turn : Schedule → Turn
restart_turn s = torn_where (fails_next s)

-- one more call was counted
abbrev pub counted : Schedule → Schedule
counted s = record { calls = next s; fails = s.fails; stop = s.stop }

-- the stop began at this call or before
abbrev pub has_stopped : Option ℕ → ℕ → Bool
has_stopped None call = false
has_stopped (Some first) call = nat_le first call

-- a restart ended a stop that had begun
abbrev pub restarted : Schedule → Schedule
restarted s = record {
  calls = s.calls;
  fails = s.fails;
  stop = if has_stopped s.stop s.calls then None else s.stop;
}

-- ---- what a call leaves

-- it worked and changed nothing
abbrev pub answered : Memory → Memory
answered m = record m { schedule = counted m.schedule }

-- it failed and did nothing
abbrev pub refused : Memory → Memory
refused m = record m { faults = one_more m.faults; schedule = counted m.schedule }

-- it failed for want of memory and did nothing
abbrev pub starved : Memory → Memory
starved m = record m {
  faults = one_more m.faults;
  starved = one_more m.starved;
  schedule = counted m.schedule;
}

-- it worked, and the disk is as at this moment
abbrev pub worked : DiskMoment → Memory → Memory
worked d m = record m { moments = m.moments ++ d ∷ []; schedule = counted m.schedule }

-- it failed in the middle, and the disk is as at this moment
abbrev pub torn : DiskMoment → Memory → Memory
torn d m = record m {
  moments = m.moments ++ d ∷ [];
  faults = one_more m.faults;
  schedule = counted m.schedule;
}

-- it worked as a restart, and the disk has these bytes, all settled
abbrev pub woken : List ℕ → Memory → Memory
woken bytes m = record m {
  moments = m.moments ++ settled bytes ∷ [];
  schedule = restarted (counted m.schedule);
}

-- A call that changes nothing works in its turn, and else is refused.
abbrev pub Answers : {T E : Type 0} → Turn → Memory → Memory → Result T E → Type 0
Answers turn old new (Ok value) = (turn ≡ Works) × (new ≡ answered old)
Answers turn old new (Err fault) = (turn ≢ Works) × (new ≡ refused old)

-- A write or a cut does all of its work in its turn, and a part of it where it is torn; or it wants
-- memory and does nothing. After a stop it does nothing.
abbrev pub Changes : {E : Type 0} → Turn → (all part : DiskMoment) → Memory → Memory
    → Result (Unit {0}) E → Type 0
Changes turn all part old new (Ok done) = (turn ≡ Works) × (new ≡ worked all old)
Changes turn all part old new (Err fault) =
    ((turn ≡ Off) × (new ≡ refused old)) ⊎ ((turn ≡ Torn) × (new ≡ torn part old))
    ⊎ ((turn ≢ Off) × (new ≡ starved old))

-- A sync settles all in its turn, or wants memory and does nothing; else it is refused.
abbrev pub Settles : {E : Type 0} → Turn → Memory → Memory → Result (Unit {0}) E → Type 0
Settles turn old new (Ok done) = (turn ≡ Works) × (new ≡ worked (settled (now old).content) old)
Settles turn old new (Err fault) = ((turn ≢ Works) × (new ≡ refused old))
    ⊎ ((turn ≡ Works) × (new ≡ starved old))

-- A restart leaves what the pick says in its turn, or wants memory and does nothing; else it is
-- refused.
abbrev pub Wakes : {E : Type 0} → Turn → Memory → Memory → Result (Unit {0}) E → Type 0
Wakes turn old new (Ok done) =
    (turn ≡ Works) × ((bytes : List ℕ) × Picked old.pick (now old) bytes × (new ≡ woken bytes old))
Wakes turn old new (Err fault) = ((turn ≢ Works) × (new ≡ refused old))
    ⊎ ((turn ≡ Works) × (new ≡ starved old))

-- half of the way from a size to another
abbrev pub halfway : ℕ → ℕ → ℕ
halfway from to = if nat_lt from to then from + (to - from) / 2 else from - (from - to) / 2

-- what the disk reads as and what was settled are both images of the moment
pub record IsSound (d : DiskMoment) : Type 0 where
  pub reads : IsImage d d.content
  pub keeps : IsImage d d.stable
