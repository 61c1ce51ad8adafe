use Rattle.std.proofs.Common.{Option, ℕ, subst}
use Rattle.tier_node.proofs.Single.{doubting}
use Rattle.tier_node.specs.Steps.{TellsHeard}
use Rattle.tier_node.proofs.receiving.hear_fenced.Goals as goal

pub returns-clause-steps : goal.returns-clause-steps
returns-clause-steps g c = record {
  came = c.hear_fenced-heard.result;
  hears = c.hear_fenced-heard.ensures.heard;
  told = subst (λ (call : Option ℕ). TellsHeard c.hear_fenced-heard.result call c.hear_fenced-heard.new.self c.told_heard.result) c.call_kept-call.ensures c.told_heard.ensures;
}

pub returns-clause-run : goal.returns-clause-run
returns-clause-run g c = doubting c.args.g.now c.hear_fenced-heard.new.self c.hear_fenced-heard.ensures.step
