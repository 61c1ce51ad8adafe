use Rattle.std.proofs.Common.{◌∙◌, sym, subst, ap, arith, length, ◌∷◌}
use Rattle.std.specs.Vec.Iter.{into_iter_items, into_iter_len}
use Rattle.gate_journal.proofs.Walks.{err_is}
use Rattle.log_image.specs.Steps.Rebuilding.{RebuildEnds}
use Rattle.log_image.proofs.Rebuilt.{going_start, replay_done, rebuild_done, replay_refused}
use Rattle.log_image.proofs.held.rebuild.Goals as goal

pub loop-payload-init : goal.loop-payload-init
loop-payload-init c =
    let same = c.into_iter-payload-iterator.ensures.into_iter_gives in
    let items = ap into_iter_items same in
    let all =
    sym c.into_vec.ensures ∙ sym c.into_iter-rest.ensures.rest ∙ c.in-Some.ensures.cases.0
    ∙ ap (λ xs. c.in-Some.head ∷ xs) (sym items) in
    record {
      left = omega (
        arith,
        c.into_vec.result.ok,
        c.into_iter-rest.ensures.len,
        ap length c.into_iter-rest.ensures.rest,
        c.in-Some.ensures.cases.1,
        ap length c.in-Some.ensures.cases.0,
        ap into_iter_len same,
        ap length items,
      );
      going =
          going_start c.args.payloads c.in-Some.head
          (into_iter_items c.into_iter-payload-iterator.result) c.new-map.result
          c.behind-gate.result all c.new-map.ensures
          (rw c.as_slice.ensures at c.behind-gate.ensures);
    }

pub returns-in_err-replay : goal.returns-in_err-replay
returns-in_err-replay c =
    subst (RebuildEnds c.args.payloads)
    (sym (err_is c.from_residual.result c.in_err-replay.field-0.0 c.from_residual.ensures.1))
    (replay_refused c.args.payloads (into_iter_items c.loop-payload.payload-iterator)
    (into_iter_items c.next-in-loop-payload.new.self) c.in-Some-payload.payload
    c.as_slice-in-loop-payload.result.now c.loop-payload.map c.replay.new.map
    c.loop-payload.gate c.saturating_add-at.result c.in_err-replay.field-0.0
    c.loop-payload.invariant.going c.in-Some-payload.ensures.steps.0
    c.as_slice-in-loop-payload.ensures c.saturating_add-at.ensures c.in_err-replay.ensures)

pub loop-payload-preserved : goal.loop-payload-preserved
loop-payload-preserved c = record {
  left = omega (
    arith,
    c.loop-payload.invariant.left,
    c.in-Some-payload.ensures.steps.1,
    ap length c.in-Some-payload.ensures.steps.0,
  );
  going =
      replay_done c.args.payloads (into_iter_items c.loop-payload.payload-iterator)
      (into_iter_items c.next-in-loop-payload.new.self) c.in-Some-payload.payload
      c.as_slice-in-loop-payload.result.now
      c.as_slice-in-loop-payload-2.result.now c.loop-payload.map c.replay.new.map
      c.loop-payload.gate c.saturating_add-at.result c.behind-gate-in-loop-payload.result
      c.loop-payload.invariant.going
      c.in-Some-payload.ensures.steps.0 c.as_slice-in-loop-payload.ensures
      c.as_slice-in-loop-payload-2.ensures c.in_ok-replay.ensures
      c.behind-gate-in-loop-payload.ensures;
}

pub returns : goal.returns
returns c =
    rebuild_done c.args.payloads (into_iter_items c.loop-payload.payload-iterator)
    c.loop-payload.map c.loop-payload.gate c.loop-payload.invariant.going
    (omega (arith, c.loop-payload.invariant.left, c.in-None.ensures.steps.0))
