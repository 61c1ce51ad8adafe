use Rattle.std.proofs.Common.{Ok, subst}
use Rattle.std.specs.Option.{option_copied}
use Rattle.pool_survey.specs.Runs.{ReadsBase}
use Rattle.pool_survey.proofs.BaseReads.{reading_ended}
use Rattle.pool_survey.proofs.base.BaseRun.read_all.Goals as goal

pub returns-in-Ok-false-clause-read : goal.returns-in-Ok-false-clause-read
returns-in-Ok-false-clause-read g c =
    let b = g.P.Store.state c.loop.base in
    let d = g.P.Store.state c.read_next.new.base in
    reading_ended (option_copied c.args.bound) c.args.self.now c.loop.self c.read_next.new.self
    (g.P.Store.state c.args.base.now) b d c.loop.invariant.reading
    (subst (λ t. ReadsBase (option_copied c.args.bound) c.loop.self c.read_next.new.self b d (Ok t))
    c.in-Ok-false.field-0-test c.in-Ok-false.ensures.read)
