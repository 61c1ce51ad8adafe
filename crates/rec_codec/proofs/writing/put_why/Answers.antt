use Rattle.std.proofs.Common.{◌++◌, sym, ap, ◌∙◌}
use Rattle.obj_model.specs.declared.reply.Why.{Why}
use Rattle.rec_codec.specs.Spelling.{why}
use Rattle.rec_codec.proofs.Puts.{put_limit}
use Rattle.rec_codec.proofs.writing.put_why.Goals as goal

pub returns-in_ok-put_u64-in-TooBig-2-clause-put : goal.returns-in_ok-put_u64-in-TooBig-2-clause-put
returns-in_ok-put_u64-in-TooBig-2-clause-put c =
    put_limit c.in-TooBig.limit c.in-TooBig.asked c.args.out.now.items c.push-in-TooBig.new.self.items c.put_u64.new.out.items c.put_u64-in-TooBig.new.out.items c.in_ok-push-in-TooBig.ensures.items c.in_ok-put_u64-in-TooBig.ensures c.in_ok-put_u64-in-TooBig-2.ensures
    ∙ ap (λ (w : Why). c.args.out.now.items ++ why w) (sym c.in-TooBig.is)
