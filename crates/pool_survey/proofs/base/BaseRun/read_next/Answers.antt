use Rattle.std.proofs.Common.{Ok, subst}
use Rattle.std.specs.Option.{option_copied}
use Rattle.pool_survey.specs.Steps.{Moves}
use Rattle.pool_survey.proofs.BaseReads.{base_entered, not_there}
use Rattle.pool_survey.proofs.base.BaseRun.read_next.Goals as goal

pub returns-in-Ok-clause-read : goal.returns-in-Ok-clause-read
returns-in-Ok-clause-read g c =
    let a = g.P.Store.state c.args.base.now in
    let b = g.P.Store.state c.read_value.new.base in
    base_entered (option_copied c.args.bound) c.args.self.now c.read_value.new.self
    c.take_in.new.self c.in-Ok-Some.value a b
    (subst (λ o. Moves (option_copied c.args.bound) c.args.self.now.cursor
    c.read_value.new.self.cursor a b (Ok o)) c.in-Ok-Some.field-0-is c.in-Ok-Some.ensures.moved)
    c.in-Ok-Some.ensures.epoch c.in-Ok-Some.ensures.found c.in-Ok-Some.ensures.wrong
    (not_there c.args.self.now.wrong c.is_some.result c.is_some.ensures c.if-is_some.false)
    c.in-Ok.ensures c.requires.so_far
