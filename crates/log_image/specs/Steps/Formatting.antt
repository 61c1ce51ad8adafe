-- What stands of a log that is being formatted.
use Rattle.std.specs.Prelude.{◌≡◌, ℕ, ◌<◌, ◌^◌, length, take, drop, slice_index}
use Rattle.obj_model.specs.declared.change.Pool.{Pool}
use Rattle.tier_outside.specs.Disk.{DiskMoment, IsSettled}
use Rattle.log_image.specs.Images.{rest}

-- the disk begins with a zero, and is settled
pub record IsZeroed (d : DiskMoment) : Type 0 where
  pub settled : IsSettled d
  pub some : 0 < length d.content
  pub zero : slice_index d.content 0 ≡ 0

-- all that formatting writes behind the first byte stands there, settled
pub record RestStands (role : Pool) (pair : ℕ) (d : DiskMoment) : Type 0 where
  pub settled : IsSettled d
  pub fits : pair < 2 ^ 64
  pub behind : take 22 (drop 1 d.content) ≡ rest role pair
