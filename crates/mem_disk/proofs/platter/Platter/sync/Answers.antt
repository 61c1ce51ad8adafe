use Rattle.std.specs.Prelude.{◌++◌, ◌∷◌, []}
use Rattle.std.proofs.Common.{ap, ◌∙◌}
use Rattle.tier_outside.specs.Disk.{settled}
use Rattle.mem_disk.proofs.Pushed.{pushed}
use Rattle.mem_disk.proofs.platter.Platter.sync.Goals as goal

pub returns-clause-ok : goal.returns-clause-ok
returns-clause-ok c =
    pushed (λ d. settled d.content)
    c.args.self.now c.self.inside.past.items c.push_reserved.new.self.items c.of-before.result c.self.inside.state c.settle.new.state c.self.view_is
    (c.push_reserved.ensures.items ∙ ap (λ xs. xs ++ c.of-before.result ∷ []) c.in_ok-reserve.ensures.items) c.of-before.ensures c.in_ok-settle.ensures.ok
