use Rattle.mem_disk.proofs.Calls.{settles_done}
use Rattle.mem_disk.proofs.disk.MemDiskDisk.sync.Goals as goal

pub returns-clause-done : goal.returns-clause-done
returns-clause-done c = settles_done _ _ _ c.settle.result c.settle.ensures.settles
