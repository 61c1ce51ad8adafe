use Rattle.tier_outside.specs.Disk.{RangeStands}
use Rattle.std.proofs.Common.{◌+◌, sym, subst}
use Rattle.tier_outside.specs.Causes.{Rose}
use Rattle.tier_outside.specs.DiskMoments.{Now}
use Rattle.gate_journal.specs.Stands.{StandsAs}
use Rattle.gate_journal.proofs.Walks.{err_is}
use Rattle.log_image.specs.Calls.{ReadEnds}
use Rattle.log_image.proofs.Found.{read_held, read_refused}
use Rattle.log_image.proofs.held.read_log.Goals as goal

pub returns-in_err-map-clause-read : goal.returns-in_err-map-clause-read
returns-in_err-map-clause-read g c =
    let moments = g.D.Disk.moments c.args.disk.now in
    let rose = Rose (g.D.Disk.faults c.args.disk.now) (g.D.Disk.faults c.walk.new.disk) in
    subst (ReadEnds moments rose)
    (sym (err_is c.from_residual-in_err-map.result c.in_err-map.field-0.0
    c.from_residual-in_err-map.ensures.1))
    (read_refused moments c.in_ok-journal.journal c.in_ok-journal.payloads rose
    c.in_err-map.field-0.0 c.requires.opened c.in_ok-journal.ensures.read c.in_err-map.ensures)

pub returns-clause-read : goal.returns-clause-read
returns-clause-read g c =
    let journal = c.in_ok-journal.journal in
    let payloads = c.in_ok-journal.payloads in
    read_held (g.D.Disk.moments c.args.disk.now) journal payloads c.in_ok-map.map
    c.in_ok-journal.ensures.read
    (subst (λ ms. Now ms (λ d. RangeStands 0 (journal.next + 1) d → StandsAs journal payloads d))
    c.in_ok-journal.ensures.same c.in_ok-journal.ensures.stands) c.in_ok-map.ensures
