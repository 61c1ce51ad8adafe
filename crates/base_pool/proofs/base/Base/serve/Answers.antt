use Rattle.std.proofs.Common.{subst, sym}
use Rattle.base_pool.specs.Serves.{Serves}
use Rattle.base_pool.specs.Steps.{base_of}
use Rattle.base_pool.proofs.Sounding.{served_whole}
use Rattle.base_pool.proofs.base.Base.serve.Goals as goal

pub invariant_of-self : goal.invariant_of-self
invariant_of-self g c = (
  served_whole c.args.message.now c.args.self.now (g.P.Store.state c.self.inside.store) (g.P.Store.state c.answer.new.store) c.self.inside.epoch c.answer.new.epoch
      c.self.inside.opened c.answer.result (sym c.self.view_is) c.requires.live c.self.invariant.0 (c.answer.ensures.served c.self.inside.opened) c.answer.ensures.sound,
  c.answer.ensures.kept,
)

pub returns-clause-served : goal.returns-clause-served
returns-clause-served g c =
    let o = c.self.inside.opened in
    subst (λ v. Serves c.args.message.now v (base_of (g.P.Store.state c.answer.new.store) c.answer.new.epoch o) c.answer.result) c.self.view_is
    (c.answer.ensures.served o)

pub returns-clause-sound : goal.returns-clause-sound
returns-clause-sound g c =
    served_whole c.args.message.now c.args.self.now (g.P.Store.state c.self.inside.store) (g.P.Store.state c.answer.new.store) c.self.inside.epoch c.answer.new.epoch
    c.self.inside.opened c.answer.result (sym c.self.view_is) c.requires.live c.self.invariant.0 (c.answer.ensures.served c.self.inside.opened) c.answer.ensures.sound
