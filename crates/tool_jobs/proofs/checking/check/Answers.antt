use Rattle.std.proofs.Common.{ℕ, List, inr, subst}
use Rattle.tool_jobs.specs.Jobs.{Judges, TellsCount}
use Rattle.tool_jobs.specs.Outside.{stream, targets}
use Rattle.tool_jobs.proofs.checking.check.Goals as goal

pub returns-in-Ok-clause-ends : goal.returns-in-Ok-clause-ends
returns-in-Ok-clause-ends g c = λ pairs.
    let before = targets (stream g.K.Sink.held g.K.Sink.faults c.args.out.now) pairs in
    let after = targets (stream g.K.Sink.held g.K.Sink.faults c.check_script.new.out) pairs in
    inr (inr (record {
      script = c.in-Ok.bytes.items;
      given = c.in-Ok.ensures.given;
      whole = c.in-Ok.ensures.whole;
      ends = subst (λ bytes. Judges TellsCount bytes before after c.check_script.result)
          c.as_slice.ensures.value (c.check_script.ensures.ends pairs);
    }))
