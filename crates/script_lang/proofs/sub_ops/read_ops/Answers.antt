-- Each step of the loop is a lemma on what is left.
use Rattle.std.proofs.Common.{sym, ◌∙◌, rules}
use Rattle.std.proofs.lemmas.Result.{err_from_is_err_and}
use Rattle.script_lang.proofs.Vectors.{fault_told, after_last, after_more, after_other, fewer_left, pushed_items}
use Rattle.script_lang.proofs.sub_ops.read_ops.Goals as goal

pub returns-in_err-op : goal.returns-in_err-op
returns-in_err-op c =
    let p = err_from_is_err_and c.from_residual.result c.from_residual.ensures.1 in
    rw (
      p.1,
      p.2,
    ) (fault_told _ c.loop-ops.ops c.loop-ops.words c.args.words.now c.read_op.new.words
    c.loop-ops.invariant c.in_err-op.ensures)

pub returns-in-None : goal.returns-in-None
returns-in-None c =
    let items =
    pushed_items c.push.result c.push.new.self c.loop-ops.ops c.in_ok-op.op
    (sym c.is_err.ensures.value ∙ c.if-is_err.false) c.push.ensures.pushed in
    after_last c.loop-ops.ops c.push.new.self c.loop-ops.words c.args.words.now c.read_op.new.words
    c.in_ok-op.op c.loop-ops.invariant
    c.in_ok-op.ensures items (sym c.in-None.ensures.word)

pub loop-ops-smaller : goal.loop-ops-smaller
loop-ops-smaller c =
    fewer_left c.loop-ops.words c.read_op.new.words c.next.new.self c.in_ok-op.op c.in_ok-op.ensures
    c.next.ensures.rest

pub loop-ops-preserved : goal.loop-ops-preserved
loop-ops-preserved c =
    let items =
    pushed_items c.push.result c.push.new.self c.loop-ops.ops c.in_ok-op.op
    (sym c.is_err.ensures.value ∙ c.if-is_err.false) c.push.ensures.pushed in
    after_more c.loop-ops.ops c.push.new.self c.loop-ops.words c.args.words.now c.read_op.new.words
    c.next.new.self c.in_ok-op.op
    c.in-Some.word.now c.loop-ops.invariant c.in_ok-op.ensures items (sym c.in-Some.ensures.word)
    (search rules) c.next.ensures.rest

pub returns-in-Some-2 : goal.returns-in-Some-2
returns-in-Some-2 c =
    after_other c.loop-ops.ops c.loop-ops.words c.args.words.now c.read_op.new.words c.in_ok-op.op
    c.in-Some.word.now c.loop-ops.invariant c.in_ok-op.ensures (sym c.in-Some.ensures.word)
    (search rules)
