use Rattle.std.proofs.Common.{Err, ap, inl, inr, refl, subst}
use Rattle.tool_jobs.specs.Outside.{stream}
use Rattle.tool_jobs.specs.Putting.{Puts}
use Rattle.tier_tool.proofs.top.tier_main.Goals as goal

pub returns-in-Err-Refused-clause-ran : goal.returns-in-Err-Refused-clause-ran
returns-in-Err-Refused-clause-ran g c =
    let before = stream g.K.Sink.held g.K.Sink.faults c.args.out.now in
    let after = stream g.K.Sink.held g.K.Sink.faults c.tell.new.out in
    inr (inl (record {
      refused = c.in-Err-Refused.ensures.refused (ap Err c.in-Err-Refused.field-0-is);
      unread = refl;
      pairs_same = refl;
      told = subst (λ text. Puts text 2 before after c.tell.result) c.as_bytes.ensures.value
          c.tell.ensures.told;
    }))
