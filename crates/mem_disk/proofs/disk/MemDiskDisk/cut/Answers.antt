use Rattle.std.specs.Prelude.{◌≡◌, refl}
use Rattle.tier_outside.specs.Disk.{resized}
use Rattle.mem_disk.proofs.Calls.{changes_done}
use Rattle.mem_disk.proofs.disk.MemDiskDisk.cut.Goals as goal

pub returns-clause-done : goal.returns-clause-done
returns-clause-done c =
    changes_done (λ d e. e.content ≡ resized c.args.size d.content) _ _ _ _ _ c.resize.result refl c.resize.ensures.changes
