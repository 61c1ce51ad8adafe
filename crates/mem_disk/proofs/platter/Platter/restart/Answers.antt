use Rattle.std.specs.Prelude.{◌++◌, ◌∷◌, []}
use Rattle.std.proofs.Common.{ap, ◌∙◌, subst, sym}
use Rattle.tier_outside.specs.Disk.{settled}
use Rattle.mem_disk.specs.Picks.{Picked}
use Rattle.mem_disk.proofs.Pushed.{pushed, seen_now}
use Rattle.mem_disk.proofs.platter.Platter.restart.Goals as goal

pub returns-clause-ok : goal.returns-clause-ok
returns-clause-ok c =
    let same = seen_now c.args.self.now c.self.inside.past.items c.self.inside.state c.self.view_is in (
      c.restart.new.state.content.items,
      subst (λ d. Picked c.args.pick d c.restart.new.state.content.items) (sym same) c.in_ok-restart.ensures.ok.0,
      pushed (λ d. settled c.restart.new.state.content.items)
          c.args.self.now c.self.inside.past.items c.push_reserved.new.self.items c.of-before.result c.self.inside.state c.restart.new.state c.self.view_is
          (c.push_reserved.ensures.items ∙ ap (λ xs. xs ++ c.of-before.result ∷ []) c.in_ok-reserve.ensures.items) c.of-before.ensures c.in_ok-restart.ensures.ok.1,
    )
