-- The moments that the code keeps, as the moments of a disk.
use Rattle.std.specs.Prelude.{List, [], ◌∷◌, ◌++◌, map}
use Rattle.std.specs.declared.snapshot.Snapshot.{Snapshot}
use Rattle.tier_outside.specs.Disk.{DiskMoment}
use Rattle.mem_disk.specs.declared.state.State.{State}

-- a state is a moment
abbrev pub moment_of : State → DiskMoment
moment_of s = record {
  content = s.content.items;
  stable = s.stable.items;
  touched = s.touched.items;
  low = s.low;
  high = s.high;
}

-- the moments that are past, and now
abbrev pub moments_of : List (Snapshot State) → State → List DiskMoment
moments_of past now = map (λ s. moment_of s.value) past ++ moment_of now ∷ []
