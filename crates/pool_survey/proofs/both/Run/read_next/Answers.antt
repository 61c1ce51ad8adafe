use Rattle.std.proofs.Common.{Ok, refl, subst}
use Rattle.pool_survey.specs.Runs.{ReadsNext}
use Rattle.pool_survey.proofs.BothReads.{both_epoch, both_taken}
use Rattle.pool_survey.proofs.both.Run.read_next.Goals as goal

pub returns-in-Ok-Epoch-clause-read : goal.returns-in-Ok-Epoch-clause-read
returns-in-Ok-Epoch-clause-read g c =
    let a = g.C.Store.state c.args.cache.now in
    let b = g.C.Store.state c.read_next.new.cache in
    both_epoch c.args.self.now
    (record { cache = c.read_next.new.self; base = c.args.self.now.base; unsound = c.args.self.now.unsound })
    a b (g.B.Store.state c.args.base.now)
    (subst (λ t. ReadsNext c.args.self.now.cache c.read_next.new.self a b (Ok t))
    c.in-Ok-Epoch.field-0-is c.in-Ok-Epoch.ensures.read)
    refl refl c.requires.so_far

pub returns-in-Ok-Record-clause-read : goal.returns-in-Ok-Record-clause-read
returns-in-Ok-Record-clause-read g c =
    let a = g.C.Store.state c.args.cache.now in
    let b = g.C.Store.state c.read_next.new.cache in
    both_taken c.args.self.now
    (record { cache = c.read_next.new.self; base = c.args.self.now.base; unsound = c.args.self.now.unsound })
    c.take_in.new.self c.in-Ok-Record.name c.in-Ok-Record.value c.in-Ok-Record.rec c.take_in.result
    a b (g.B.Store.state c.args.base.now) (g.B.Store.state c.take_in.new.base)
    (subst (λ t. ReadsNext c.args.self.now.cache c.read_next.new.self a b (Ok t))
    c.in-Ok-Record.field-0-is c.in-Ok-Record.ensures.read)
    refl refl c.take_in.ensures.taken c.requires.so_far
