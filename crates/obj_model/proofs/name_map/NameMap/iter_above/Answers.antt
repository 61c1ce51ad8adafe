use Rattle.std.proofs.Common.{◌∙◌}
use Rattle.std.specs.Option.{option_copied}
use Rattle.obj_model.proofs.NameMaps.{range_above}
use Rattle.obj_model.proofs.name_map.NameMap.iter_above.Goals as goal

pub returns : goal.returns
returns g c =
    c.range.ensures.between tt
    ∙ range_above (option_copied c.args.after) _ c.self.inside.inner.entries c.args.self.now c.range.ensures.ordered c.self.view_is c.start_above.ensures
