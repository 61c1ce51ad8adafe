use Rattle.std.proofs.Common.{true, refl}
use Rattle.std.proofs.lemmas.Result.{err_from_is_err_and}
use Rattle.rec_codec.proofs.Loops.{goes_on, ends, is_done}
use Rattle.req_codec.specs.Reading.{op_at, ops_at}
use Rattle.req_codec.proofs.reading.ops_at.Goals as goal

pub returns-in_err-op : goal.returns-in_err-op
returns-in_err-op c =
    let p = err_from_is_err_and c.from_residual.result c.from_residual.ensures.1 in
    rw (p.1, p.2) (ends op_at (λ _. tt {0}) (λ _ _. true) c.in_err-op.field-0.0 c.loop.list.items tt c.args.count c.loop.counter c.loop.rest.now (ops_at c.args.count c.args.bytes.now) c.loop-test.true c.in_err-op.ensures c.loop.invariant)

pub loop-preserved : goal.loop-preserved
loop-preserved c =
    rw c.in_ok-push.ensures.items (goes_on op_at (λ _. tt {0}) (λ _ _. true) c.loop.list.items tt c.args.count c.loop.counter c.loop.rest.now c.in_ok-op.op c.in_ok-op.after.now (ops_at c.args.count c.args.bytes.now) c.loop-test.true c.in_ok-op.ensures refl c.loop.invariant)

pub returns : goal.returns
returns c = is_done op_at (λ _. tt {0}) (λ _ _. true) c.loop.list.items tt c.args.count c.loop.counter c.loop.rest.now (ops_at c.args.count c.args.bytes.now) c.loop-test.false c.loop.invariant
