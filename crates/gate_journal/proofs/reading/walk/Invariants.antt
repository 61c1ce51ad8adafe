use Rattle.std.proofs.Common.{◌≡◌, ◌≤◌, ◌-◌, take}
use Rattle.tier_outside.specs.Disk.{disk_limit}
use Rattle.tier_outside.specs.DiskMoments.{Now}
use Rattle.gate_journal.specs.Journals.{AreRecords}
use Rattle.gate_journal.proofs.reading.walk.Given as goal

abbrev pub invariant-loop-payloads : goal.invariant-loop-payloads
invariant-loop-payloads g l = record {
  same : g.D.Disk.moments l.disk ≡ g.D.Disk.moments l.fn.disk;
  later : g.D.Disk.faults l.fn.disk ≤ g.D.Disk.faults l.disk;
  order : l.at ≤ l.next;
  below : l.next ≤ disk_limit;
  records : Now (g.D.Disk.moments l.fn.disk)
      (λ d. AreRecords (take l.limit d.content) l.at l.payloads l.next);
}

abbrev pub decreases-loop-payloads : goal.decreases-loop-payloads
decreases-loop-payloads g l = l.limit - l.next
