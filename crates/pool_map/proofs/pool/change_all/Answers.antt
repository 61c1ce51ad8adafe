use Rattle.std.specs.Vec.Iter.{into_iter_items}
use Rattle.pool_map.proofs.Tidy.{goes_on, finds_room}
use Rattle.pool_map.proofs.pool.change_all.Goals as goal

pub loop-change-preserved : goal.loop-change-preserved
loop-change-preserved c =
    goes_on c.loop-change.slots c.change.new.self c.in-Some.change (into_iter_items c.next.new.self) (into_iter_items c.loop-change.change-iterator) _
    c.in-Some.ensures.steps.0 c.change.ensures c.loop-change.invariant

pub change-requires : goal.change-requires
change-requires c = finds_room c.loop-change.slots c.in-Some.change (into_iter_items c.next.new.self) (into_iter_items c.loop-change.change-iterator) _ c.in-Some.ensures.steps.0 c.loop-change.invariant
