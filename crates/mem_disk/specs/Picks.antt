-- What a stop leaves of the bytes that are not settled.
use Rattle.std.specs.Prelude.{◌≡◌, ◌<◌, ℕ, ◌/◌, ◌%◌, ◌^◌, Bool, ◌==◌, ◌||◌, nat_le, List, length, slice_index, if◌then◌else◌}
use Rattle.tier_outside.specs.Disk.{DiskMoment, is_touched}
use Rattle.mem_disk.specs.declared.pick.Pick.{Pick}
use Rattle.mem_disk.specs.declared.pick.Pick.TheVariants.{Old, New, Mixed, Junk}

-- the byte at an offset, of the settled one and the written one
abbrev pub chosen : Pick → ℕ → ℕ → ℕ → ℕ
chosen Old at old new = old
chosen New at old new = new
chosen (Mixed bits) at old new = if bits / 2 ^ (at % 64) % 2 == 0 then old else new
chosen (Junk byte) at old new = byte

-- the size: the settled one, or that which the disk had
abbrev pub picked_size : Pick → ℕ → ℕ → ℕ
picked_size Old old new = old
picked_size New old new = new
picked_size (Mixed bits) old new = new
picked_size (Junk byte) old new = new

-- the byte may change in a stop: it is in a range that was written, or past the least size
abbrev pub is_unsettled : List (ℕ × ℕ) → ℕ → ℕ → Bool
is_unsettled ranges low i = is_touched ranges i || nat_le low i

-- What a stop leaves by this pick: each byte that is not settled is the chosen one, where a byte
-- past an end counts as 0, and every other byte stays.
pub record Picked (pick : Pick) (d : DiskMoment) (image : List ℕ) : Type 0 where
  pub size : length image ≡ picked_size pick (length d.stable) (length d.content)
  pub bytes : (i : ℕ) → i < length image
      → slice_index image i ≡ (if is_unsettled d.touched d.low i then chosen pick i
      (slice_index d.stable i) (slice_index d.content i) else slice_index d.stable i)
