use Rattle.std.proofs.Common.{◌∙◌, ap}
use Rattle.std.specs.FinMap as fin
use Rattle.pool_map.proofs.Rows.{get_rows}
use Rattle.pool_map.proofs.slots.Slots.slot.Goals as goal

pub returns : goal.returns
returns c = c.get.ensures.value ∙ get_rows (λ k. k.items) c.args.key.now c.self.inside.inner.entries ∙ ap (λ m. fin.get m c.args.key.now) c.self.view_is
