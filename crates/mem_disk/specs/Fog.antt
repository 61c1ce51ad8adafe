-- A disk that tells nothing of its content, as its callers see it.
use Rattle.std.specs.Prelude.{◌≡◌, ◌≤◌, ℕ, ◌-◌, Bool, false, nat_le, min, List, length, take, drop, Option, Some, None, if◌then◌else◌}
use Rattle.tier_outside.specs.Causes.{one_more}
use Rattle.mem_disk.specs.Memory.{Memory, now}

-- the disk that it stands on, how many calls there were, from which call on it lies, and the bytes
-- that it gives then
pub record Fog : Type 0 where
  pub inner : Memory
  pub calls : ℕ
  pub swap_at : Option ℕ
  pub with_bytes : List ℕ

-- one more call was counted
abbrev pub fog_counted : Fog → Fog
fog_counted f = record f { calls = one_more f.calls }

-- the call of this number or one before was that of the swap
abbrev pub is_swapped : Option ℕ → ℕ → Bool
is_swapped None call = false
is_swapped (Some first) call = nat_le first call

-- what the next call reads of it
abbrev pub seen : Fog → List ℕ
seen f = if is_swapped f.swap_at (one_more f.calls) then f.with_bytes else (now f.inner).content

-- the bytes of a list from an offset came into a buffer, as many as there are and fit
pub record ReadFrom (bytes : List ℕ) (off count : ℕ) (old new : List ℕ) : Type 0 where
  pub count_is : count ≡ min (length old) (length bytes - off)
  pub came : take count new ≡ take count (drop off bytes)
