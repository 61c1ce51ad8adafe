use Rattle.std.proofs.Common.{◌⊎◌, ◌≡◌, inl, inr, slice_index, refl, subst}
use Rattle.tier_outside.specs.Disk.{IsImage, StopsIn}
use Rattle.tier_outside.specs.DiskMoments.{Now, Leaves}
use Rattle.gate_journal.proofs.Heads.{not_closed}
use Rattle.gate_journal.proofs.Steps.{close_leaves}
use Rattle.gate_journal.proofs.step.close_gate.Goals as goal
use Rattle.gate_journal.proofs.step.close_gate.Goals.{then-count-eq0-via-then-count-eq0}
use Rattle.gate_journal.proofs.step.close_gate.Goals.{then-count-eq0-via-else-count-eq0+then-gate-eq-OPEN}

pub returns-in_err-put-clause-any_moment : goal.returns-in_err-put-clause-any_moment
returns-in_err-put-clause-any_moment g c =
    let moments = g.D.Disk.moments c.args.disk.now in
    let how : (c.in_ok-count.count ≡ 0) ⊎ (slice_index c.read_at.new.buf 0 ≡ 1) =
    elim c.then-count-eq0.branch [
      | then-count-eq0-via-then-count-eq0 w ↦ inl w.if-count-eq0.true
      | then-count-eq0-via-else-count-eq0+then-gate-eq-OPEN w ↦ inr w.if-gate-eq-OPEN.true
    ] in
    close_leaves c.args.at moments (g.D.Disk.moments c.put.new.disk)
    (subst (λ ms. Leaves ms (g.D.Disk.moments c.put.new.disk) (StopsIn c.args.at 1))
    c.in_ok-count.ensures.same c.in_err-put.ensures.any_moment)
    (not_closed c.args.at c.in_ok-count.count moments _ c.read_at.new.buf refl
    c.in_ok-count.ensures.bytes how)
    (subst (λ ms. Now ms (λ d. IsImage d d.content)) c.in_ok-count.ensures.same
    c.in_ok-count.ensures.image)

pub returns-in_ok-put-clause-any_moment : goal.returns-in_ok-put-clause-any_moment
returns-in_ok-put-clause-any_moment g c =
    let moments = g.D.Disk.moments c.args.disk.now in
    let how : (c.in_ok-count.count ≡ 0) ⊎ (slice_index c.read_at.new.buf 0 ≡ 1) =
    elim c.then-count-eq0.branch [
      | then-count-eq0-via-then-count-eq0 w ↦ inl w.if-count-eq0.true
      | then-count-eq0-via-else-count-eq0+then-gate-eq-OPEN w ↦ inr w.if-gate-eq-OPEN.true
    ] in
    close_leaves c.args.at moments (g.D.Disk.moments c.put.new.disk)
    (subst (λ ms. Leaves ms (g.D.Disk.moments c.put.new.disk) (StopsIn c.args.at 1))
    c.in_ok-count.ensures.same c.in_ok-put.ensures.any_moment)
    (not_closed c.args.at c.in_ok-count.count moments _ c.read_at.new.buf refl
    c.in_ok-count.ensures.bytes how)
    (subst (λ ms. Now ms (λ d. IsImage d d.content)) c.in_ok-count.ensures.same
    c.in_ok-count.ensures.image)
