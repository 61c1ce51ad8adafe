use Rattle.std.proofs.Common.{◌++◌, length, ap, subst, ◌∙◌}
use Rattle.std.proofs.lemmas.List.Elements.{All-more}
use Rattle.byteorder.specs.Endian.{big_bytes}
use Rattle.obj_model.specs.declared.sub_op.SubOp.{SubOp}
use Rattle.rec_codec.specs.Spelling.{sub_op, IsFit}
use Rattle.rec_codec.proofs.Puts.{one_more}
use Rattle.req_codec.proofs.writing.put_ops.Goals as goal

pub loop-op-preserved : goal.loop-op-preserved
loop-op-preserved c =
    let o = c.op-item.result in
    let i = c.loop-op.op-index in
    record {
      put = one_more sub_op c.args.out.now.items (big_bytes 1 (length c.args.ops.now)) c.loop-op.out.items c.put_op.new.out.items c.args.ops.now i o c.loop-op-test.true c.loop-op.invariant.put
          (c.in_ok-put_op.ensures.put ∙ ap (λ (p : SubOp). c.loop-op.out.items ++ sub_op p) c.op-item.is);
      fit = All-more IsFit c.args.ops.now i o c.loop-op-test.true c.loop-op.invariant.fit (subst IsFit c.op-item.is c.in_ok-put_op.ensures.fit);
    }
