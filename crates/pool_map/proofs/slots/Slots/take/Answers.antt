use Rattle.std.proofs.Common.{◌∙◌, ap}
use Rattle.std.specs.FinMap as fin
use Rattle.pool_map.proofs.Rows.{taken_rows}
use Rattle.pool_map.proofs.slots.Slots.take.Goals as goal

pub returns : goal.returns
returns c =
    let u = c.remove.ensures.updates in
    taken_rows (λ k. k.items) c.args.key.now c.self.inside.inner.entries c.remove.new.self.entries u.1 u.3 ∙ ap (λ m. fin.remove m c.args.key.now) c.self.view_is
