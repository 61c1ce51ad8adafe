use Rattle.std.proofs.Common.{length}
use Rattle.byteorder.specs.Endian.{big_bytes}
use Rattle.std.proofs.lemmas.List.Elements.{All-more}
use Rattle.obj_model.specs.declared.reply.Kept.{Kept}
use Rattle.obj_model.specs.declared.reply.Reply.TheVariants.{Done}
use Rattle.rec_codec.specs.Spelling.{kept, IsFitReply}
use Rattle.rec_codec.proofs.Puts.{one_more}
use Rattle.rec_codec.proofs.writing.put_kept_list.Goals as goal

pub loop-one-preserved : goal.loop-one-preserved
loop-one-preserved c =
    let d : Kept = record { client = 0; tid = 0; reply = Done 0 } in
    record {
      put = one_more kept c.args.out.now.items (big_bytes 2 (length c.args.list.now)) c.loop-one.out.items c.put_kept.new.out.items c.args.list.now c.loop-one.one-index d c.loop-one-test.true c.loop-one.invariant.put c.in_ok-put_kept.ensures.put;
      fit = All-more (λ k. IsFitReply k.reply) c.args.list.now c.loop-one.one-index d c.loop-one-test.true c.loop-one.invariant.fit c.put_kept.ensures.fit;
    }
