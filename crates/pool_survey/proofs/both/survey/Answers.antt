use Rattle.std.proofs.Common.{Ok, subst}
use Rattle.pool_survey.specs.Runs.{ReadsOn}
use Rattle.pool_survey.proofs.Endings.{survey_told}
use Rattle.pool_survey.proofs.both.survey.Goals as goal

pub returns-in-Ok-false-clause-told : goal.returns-in-Ok-false-clause-told
returns-in-Ok-false-clause-told g c =
    let b = g.C.Store.state c.loop.cache in
    let d = g.C.Store.state c.read_next.new.cache in
    let w = g.B.Store.state c.loop.base in
    let z = g.B.Store.state c.read_next.new.base in
    survey_told c.loop.run c.read_next.new.self c.finish.result (g.C.Store.state c.args.cache.now) b
    d (g.B.Store.state c.args.base.now) w z (g.B.Store.state c.finish.new.base)
    c.loop.invariant.stay c.in-Ok-false.ensures.cache_sound c.loop.invariant.cache_live
    (subst (λ t. ReadsOn c.loop.run c.read_next.new.self b d w z (Ok t))
    c.in-Ok-false.field-0-test c.in-Ok-false.ensures.read)
    c.finish.ensures.finished
