use Rattle.std.specs.Prelude.{◌≡◌, ◌/◌, length, take, refl}
use Rattle.std.proofs.Common.{arith}
use Rattle.std.proofs.lemmas.List.{length-take}
use Rattle.tier_outside.specs.Disk.{Writes, written}
use Rattle.mem_disk.proofs.Calls.{changes_done, changes_step}
use Rattle.mem_disk.proofs.Pushed.{writes}
use Rattle.mem_disk.proofs.disk.MemDiskDisk.write_at.Goals as goal

pub returns-clause-step : goal.returns-clause-step
returns-clause-step c =
    let size = length c.args.bytes.now in
    let half = take (size / 2) c.args.bytes.now in
    changes_step (Writes c.args.off size) _ _ _ _ _ c.write.result
    (writes c.args.off size c.args.bytes.now _ _ (omega arith) refl)
    (writes c.args.off size half _ _ (omega (arith, length-take (size / 2) c.args.bytes.now)) refl)
    c.write.ensures.changes

pub returns-clause-done : goal.returns-clause-done
returns-clause-done c =
    changes_done (λ d e. e.content ≡ written c.args.off c.args.bytes.now d.content) _ _ _ _ _ c.write.result refl c.write.ensures.changes
