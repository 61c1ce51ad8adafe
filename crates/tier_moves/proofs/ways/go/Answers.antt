use Rattle.std.proofs.Common.{◌∙◌, Bool, ap}
use Rattle.obj_model.specs.declared.tier.Mode.{Mode}
use Rattle.obj_model.specs.declared.tier.PoolValues.{PoolValues}
use Rattle.tier_moves.proofs.FullTold.{may_go_by}
use Rattle.tier_moves.specs.Ways.{way_of}
use Rattle.tier_moves.proofs.ways.go.Goals as goal

pub go_by-requires : goal.go_by-requires
go_by-requires g c =
    may_go_by c.args.g.now c.args.turn c.is_full_cache-full.result c.args.ask.now
    c.way_of-way.result c.requires c.is_full_cache-full.ensures.0
    (c.way_of-way.ensures
    ∙ (ap (λ (m : Mode). way_of c.is_full_cache-full.result m c.values.result.now.hit_set_count c.writes.result) c.mode.ensures
    ∙ (ap (λ (p : PoolValues). way_of c.is_full_cache-full.result c.args.g.now.agent.mode p.hit_set_count c.writes.result) c.values.ensures
    ∙ ap (λ (b : Bool). way_of c.is_full_cache-full.result c.args.g.now.agent.mode c.args.g.now.agent.values.hit_set_count b) c.writes.ensures)))
