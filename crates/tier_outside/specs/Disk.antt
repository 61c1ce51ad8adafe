-- A disk at one moment: what it reads as, what a stop may leave of it, and how a call changes both.
use Rattle.std.specs.Prelude.{◌≡◌, ℕ, ◌+◌, ◌-◌, ◌^◌, ◌<◌, ◌≤◌, Bool, false, ◌==◌, ◌&&◌, ◌||◌}
use Rattle.std.specs.Prelude.{nat_lt, nat_le, min, max, List, [], ◌∷◌, ◌++◌, length, take, drop}
use Rattle.std.specs.Prelude.{replicate, slice_index, if◌then◌else◌}

-- the longest disk, in bytes
abbrev pub disk_limit : ℕ
disk_limit = 2 ^ 41

-- One moment. Since the disk was last settled the ranges were written, each given by its first byte
-- and the byte behind its last, and its size was between the least and the greatest.
pub record DiskMoment : Type 0 where
  -- what it reads as
  pub content : List ℕ
  -- what it read as when it was last settled
  pub stable : List ℕ
  pub touched : List (ℕ × ℕ)
  pub low : ℕ
  pub high : ℕ

-- all of it is settled
abbrev pub settled : List ℕ → DiskMoment
settled bytes = record {
  content = bytes;
  stable = bytes;
  touched = [];
  low = length bytes;
  high = length bytes;
}

-- all that the disk reads as is settled
abbrev pub IsSettled : DiskMoment → Type 0
IsSettled d = d ≡ settled d.content

-- one of the ranges holds the byte
abbrev pub is_touched : List (ℕ × ℕ) → ℕ → Bool
is_touched [] i = false
is_touched (range ∷ ranges) i = (nat_le range.0 i && nat_lt i range.1) || is_touched ranges i

-- What a stop at this moment may leave: its size is any from the least to the greatest, and below
-- the least size a byte that no range holds is the settled one; every other byte may be anything.
pub record IsImage (d : DiskMoment) (image : List ℕ) : Type 0 where
  pub no_shorter : d.low ≤ length image
  pub no_longer : length image ≤ d.high
  pub kept : (i : ℕ) → i < d.low → is_touched d.touched i ≡ false
      → slice_index image i ≡ slice_index d.stable i

-- the bytes of a range are settled: no write since began among them, and the disk was never shorter
pub record RangeStands (from to : ℕ) (d : DiskMoment) : Type 0 where
  pub there : to ≤ length d.stable
  pub within : to ≤ d.low
  pub untouched : (i : ℕ) → from ≤ i → i < to → is_touched d.touched i ≡ false

-- each image of this moment has P
abbrev pub EachImage : DiskMoment → (List ℕ → Type 0) → Type 0
EachImage d P = (image : List ℕ) → IsImage d image → P image

-- filled with zeros up to a size
abbrev pub filled : ℕ → List ℕ → List ℕ
filled size bytes = bytes ++ replicate (size - length bytes) 0

-- other bytes stand at an offset
abbrev pub replaced : ℕ → List ℕ → List ℕ → List ℕ
replaced off bytes old = take off old ++ bytes ++ drop (off + length bytes) old

-- where a write of so many bytes ends; a write of none reaches nowhere
abbrev pub reach : ℕ → ℕ → ℕ
reach off count = if count == 0 then 0 else off + count

-- what a disk reads as after a write; a gap between its old end and the offset reads as zeros
abbrev pub written : ℕ → List ℕ → List ℕ → List ℕ
written off bytes old = replaced off bytes (filled (reach off (length bytes)) old)

-- what a disk reads as after a cut, which may also lengthen it, by zeros
abbrev pub resized : ℕ → List ℕ → List ℕ
resized size old = take size old ++ replicate (size - length old) 0

-- a write of so many bytes began, after which the disk reads as `now`
abbrev pub touch : ℕ → ℕ → List ℕ → DiskMoment → DiskMoment
touch off count now d = record {
  content = now;
  stable = d.stable;
  touched = d.touched ++ (off, off + count) ∷ [];
  low = d.low;
  high = max d.high (reach off count);
}

-- a stop might leave this image in one write to this range, and nothing outside of it
abbrev pub StopsIn : ℕ → ℕ → DiskMoment → List ℕ → Type 0
StopsIn off count d image = IsImage (touch off count d.content d) image

-- a cut began, after which the disk reads as `now`
abbrev pub trim : ℕ → List ℕ → DiskMoment → DiskMoment
trim size now d = record {
  content = now;
  stable = d.stable;
  touched = d.touched;
  low = min d.low size;
  high = max d.high size;
}

-- A write began, and any part of its work may be done: the disk reads as what a stop in this write
-- alone might leave of what it read as before.
pub record Writes (off count : ℕ) (d e : DiskMoment) : Type 0 where
  pub is : e ≡ touch off count e.content d
  pub part : IsImage (touch off count [] (settled d.content)) e.content

-- a cut began, and any part of its work may be done
pub record Cuts (size : ℕ) (d e : DiskMoment) : Type 0 where
  pub is : e ≡ trim size e.content d
  pub part : IsImage (trim size [] (settled d.content)) e.content

-- all that the disk reads as is settled
abbrev pub Syncs : DiskMoment → DiskMoment → Type 0
Syncs d e = e ≡ settled d.content

-- the disk reads as one of the images of the moment before, and all of it is settled
pub record Restarts (d e : DiskMoment) : Type 0 where
  pub is : e ≡ settled e.content
  pub image : IsImage d e.content

-- a read of some bytes at an offset into a buffer stops short only at the end, and leaves what
-- stands behind them
pub record Reads (off : ℕ) (d : DiskMoment) (count : ℕ) (old new : List ℕ) : Type 0 where
  pub count_is : count ≡ min (length old) (length d.content - off)
  pub bytes : take count new ≡ take count (drop off d.content)
  pub rest : drop count new ≡ drop count old
