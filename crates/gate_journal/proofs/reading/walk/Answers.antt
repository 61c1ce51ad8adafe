use Rattle.std.proofs.Common.{◌≡◌, ◌+◌, arith, ap, sym, subst, length, take, List, ℕ, Err, ◌∙◌}
use Rattle.tier_outside.specs.Causes.{Rose}
use Rattle.tier_outside.specs.DiskMoments.{Now}
use Rattle.gate_journal.specs.Calls.{WalkEnds}
use Rattle.gate_journal.specs.Journals.{AreRecords}
use Rattle.gate_journal.specs.Steps.Reading.{RecordRead}
use Rattle.gate_journal.proofs.Walks.{walk_push, walk_found, walk_stands, walk_refused}
use Rattle.gate_journal.proofs.Walks.{rose_earlier, err_is}
use Rattle.gate_journal.proofs.reading.walk.Goals as goal

pub returns-in_err-payload-clause-read : goal.returns-in_err-payload-clause-read
returns-in_err-payload-clause-read g c =
    let moments = g.D.Disk.moments c.args.disk.now in
    let invariant = c.loop-payloads.invariant in
    let rose = Rose (g.D.Disk.faults c.args.disk.now) (g.D.Disk.faults c.read_record.new.disk) in
    let later =
    Rose (g.D.Disk.faults c.loop-payloads.disk) (g.D.Disk.faults c.read_record.new.disk) in
    let fault = c.in_err-payload.field-0.0 in
    let read : RecordRead c.loop-payloads.next c.min-limit.result moments later (Err fault) =
    subst (λ ms. RecordRead c.loop-payloads.next c.min-limit.result ms later (Err fault))
    invariant.same c.in_err-payload.ensures.read in
    let is =
    err_is c.from_residual-in_err-payload.result fault
    c.from_residual-in_err-payload.ensures.1 in
    subst (λ r. WalkEnds c.args.at c.args.end moments rose r) (sym is)
    (walk_refused c.in_ok-size.field-0 c.args.end c.min-limit.result c.args.at c.loop-payloads.next
    c.loop-payloads.payloads moments
    later rose fault c.in_ok-size.ensures.value c.min-limit.ensures invariant.records
    (rose_earlier _ _ _ invariant.later) read)

pub loop-payloads-preserved : goal.loop-payloads-preserved
loop-payloads-preserved g c =
    let moments = g.D.Disk.moments c.args.disk.now in
    let invariant = c.loop-payloads.invariant in
    let read = rw (c.in-Some.is, invariant.same) at c.in_ok-payload.ensures.read in
    let payload : List ℕ = c.in-Some.payload in
    let long : length c.as_slice.result.now ≡ length payload = ap length c.as_slice.ensures in
    let place : c.loop-payloads.next + 5 + length payload
    ≡ c.loop-payloads.next + (5 + length c.as_slice.result.now) = omega arith in
    let pushed =
    walk_push c.min-limit.result c.args.at c.loop-payloads.next c.loop-payloads.payloads payload
    moments invariant.records read.1 in
    let small = read.0 in
    record {
      same = c.in_ok-payload.ensures.same ∙ invariant.same;
      later = omega (arith, invariant.later, c.in_ok-payload.ensures.later);
      order = omega (arith, invariant.order);
      below = omega (arith, small, c.min-limit.ensures, c.requires.limit);
      records =
          subst (λ (n : ℕ). Now moments
          (λ d. AreRecords (take c.min-limit.result d.content) c.args.at c.push.new.self n)) place
          (subst (λ (ps : List (List ℕ)). Now moments
          (λ d. AreRecords (take c.min-limit.result d.content) c.args.at ps
          (c.loop-payloads.next + 5 + length payload))) (sym c.in_ok-push.ensures.pushed) pushed);
    }

pub returns-clause-read : goal.returns-clause-read
returns-clause-read g c =
    let invariant = c.loop-payloads.invariant in
    let read = rw (c.in_default.is, invariant.same) at c.in_ok-payload.ensures.read in
    walk_found c.in_ok-size.field-0 c.args.end c.min-limit.result c.args.at c.loop-payloads.next
    c.loop-payloads.payloads (g.D.Disk.moments c.args.disk.now) c.in_ok-size.ensures.value
    c.min-limit.ensures invariant.records invariant.order read.0 read.1

pub returns-clause-stands : goal.returns-clause-stands
returns-clause-stands g c =
    let moments = g.D.Disk.moments c.args.disk.now in
    let invariant = c.loop-payloads.invariant in
    let read = rw (c.in_default.is, invariant.same) at c.in_ok-payload.ensures.read in
    let image = rw c.in_ok-size.ensures.same at c.in_ok-size.ensures.image in
    walk_stands c.args.end c.args.at c.loop-payloads.next c.loop-payloads.payloads moments
    (g.D.Disk.moments c.read_record.new.disk) (c.in_ok-payload.ensures.same ∙ invariant.same) image
    (walk_found c.in_ok-size.field-0 c.args.end c.min-limit.result c.args.at c.loop-payloads.next
    c.loop-payloads.payloads moments c.in_ok-size.ensures.value
    c.min-limit.ensures invariant.records invariant.order read.0 read.1)
