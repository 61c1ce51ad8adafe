-- The steps of which a restart and a sync are made: bytes that are chosen, and bytes that are
-- copied.
use Rattle.std.specs.Prelude.{◌≡◌, ◌<◌, false, ℕ, Bool, ◌&&◌, nat_le, nat_lt, List, length, slice_index, if◌then◌else◌}
use Rattle.tier_outside.specs.Disk.{DiskMoment}
use Rattle.mem_disk.specs.declared.pick.Pick.{Pick}
use Rattle.mem_disk.specs.Picks.{chosen, is_unsettled}

-- the offset lies in this range
abbrev pub is_between : ℕ → ℕ → ℕ → Bool
is_between start end i = nat_le start i && nat_lt i end

-- where the test holds, the bytes are chosen between two lists; the others stay
pub record ChosenIn (pick : Pick) (test : ℕ → Bool) (stable old new : List ℕ) : Type 0 where
  pub size : length new ≡ length old
  pub bytes : (i : ℕ) → i < length old
      → slice_index new i ≡ (if test i then chosen pick i (slice_index stable i) (slice_index old i)
      else slice_index old i)

-- where the test holds, the bytes are those of another list; the others stay
pub record CopiedIn (test : ℕ → Bool) (from old new : List ℕ) : Type 0 where
  pub size : length new ≡ length old
  pub bytes : (i : ℕ) → i < length old
      → slice_index new i ≡ (if test i then slice_index from i else slice_index old i)

-- below the least size and outside of the ranges what the disk reads as is settled
abbrev pub SettledBelow : DiskMoment → Type 0
SettledBelow d = (i : ℕ) → i < length d.content → is_unsettled d.touched d.low i ≡ false
    → slice_index d.content i ≡ slice_index d.stable i
