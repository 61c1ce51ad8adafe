use Rattle.std.proofs.Common.{List, Some, ltb, lt-ltb, le-ltb, sym, ap, ◌∙◌}
use Rattle.std.proofs.lemmas.Result.{err_from_is_err_and}
use Rattle.obj_model.specs.declared.reply.Kept.{Kept}
use Rattle.rec_codec.specs.Reading.{kept_at, kepts_at}
use Rattle.rec_codec.proofs.Loops.{goes_on, stops, ends, is_done}
use Rattle.rec_codec.proofs.reading.kepts_at.Goals as goal

pub returns-in_err-kept : goal.returns-in_err-kept
returns-in_err-kept c =
    let p = err_from_is_err_and c.from_residual.result c.from_residual.ensures.1 in
    rw (p.1, p.2) (ends kept_at (λ k. k.client) ltb c.in_err-kept.field-0.0 c.loop.list.items c.loop.last c.args.count c.loop.counter c.loop.rest.now (kepts_at 0 c.args.count c.args.bytes.now) c.loop-test.true c.in_err-kept.ensures c.loop.invariant)

pub returns-then-kept-last : goal.returns-then-kept-last
returns-then-kept-last c =
    stops kept_at (λ k. k.client) ltb c.loop.list.items c.loop.last c.args.count c.loop.counter c.loop.rest.now c.in_ok-kept.kept c.in_ok-kept.after.now (kepts_at 0 c.args.count c.args.bytes.now) c.loop-test.true c.in_ok-kept.ensures (le-ltb _ _ c.if-kept-last.true) c.loop.invariant

pub loop-preserved : goal.loop-preserved
loop-preserved c =
    rw c.in_ok-push.ensures.items (goes_on kept_at (λ k. k.client) ltb c.loop.list.items c.loop.last c.args.count c.loop.counter c.loop.rest.now c.in_ok-kept.kept c.in_ok-kept.after.now (kepts_at 0 c.args.count c.args.bytes.now) c.loop-test.true c.in_ok-kept.ensures (lt-ltb _ _ c.if-kept-last.false) c.loop.invariant)

pub returns : goal.returns
returns c =
    is_done kept_at (λ k. k.client) ltb c.loop.list.items c.loop.last c.args.count c.loop.counter c.loop.rest.now (kepts_at 0 c.args.count c.args.bytes.now) c.loop-test.false c.loop.invariant
    ∙ ap (λ (l : List Kept). Some (l, c.loop.rest.now)) (sym c.from_vec.ensures)
