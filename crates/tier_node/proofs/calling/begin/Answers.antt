use Rattle.std.proofs.Common.{inl, subst}
use Rattle.tier_moves.specs.Begins.{ClientBegins}
use Rattle.tier_node.proofs.Single.{single}
use Rattle.tier_types.specs.declared.flight.Ask.{Ask}
use Rattle.tier_node.proofs.calling.begin.Goals as goal

pub returns-in-Ok-clause-steps : goal.returns-in-Ok-clause-steps
returns-in-Ok-clause-steps g c =
    inl (record {
      came = c.client_begin.result;
      begins = subst (λ (a : Ask).
          ClientBegins c.args.line a c.args.g.now c.client_begin.new.g c.client_begin.result)
          c.in-Ok.ensures c.client_begin.ensures.begins;
      told = c.told_begun.ensures;
    })

pub returns-in-Ok-clause-run : goal.returns-in-Ok-clause-run
returns-in-Ok-clause-run g c =
    single c.args.g.now c.client_begin.new.g c.client_begin.ensures.step
