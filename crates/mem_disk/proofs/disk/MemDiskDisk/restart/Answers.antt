use Rattle.mem_disk.specs.Memory.{restart_turn}
use Rattle.mem_disk.proofs.Calls.{wakes_done, wakes_step}
use Rattle.mem_disk.proofs.disk.MemDiskDisk.restart.Goals as goal

pub returns-clause-step : goal.returns-clause-step
returns-clause-step c =
    wakes_step (restart_turn c.args.self.now.schedule) c.args.self.now c.wake.new.self c.wake.result c.wake.ensures.was c.wake.ensures.wakes

pub returns-clause-done : goal.returns-clause-done
returns-clause-done c =
    wakes_done (restart_turn c.args.self.now.schedule) c.args.self.now c.wake.new.self c.wake.result c.wake.ensures.was c.wake.ensures.wakes
