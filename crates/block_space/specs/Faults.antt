-- Why blocks are not taken.
use Rattle.std.specs.Prelude.{◌≡◌, ℕ, ◌<◌, ◌≤◌}
use Rattle.block_space.specs.declared.fault.TakeFault.{TakeFault}
use Rattle.block_space.specs.declared.fault.TakeFault.TheVariants.{NoRoom, NoMemory}

-- the cause where so many blocks are asked for and so many are free: too few are free, and it tells
-- how many; or enough are, and memory ran out
abbrev pub IsCause : ℕ → ℕ → TakeFault → Type 0
IsCause count free (NoRoom told) = (free < count) × (told ≡ free)
IsCause count free NoMemory = count ≤ free
