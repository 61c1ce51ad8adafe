use Rattle.std.specs.Vec.Iter.{into_iter_items}
use Rattle.store_face.specs.Tables.{changed_by}
use Rattle.pool_map.specs.Slots.{filled}
use Rattle.pool_map.proofs.Tidy.{IsOnTheWay}
use Rattle.pool_map.proofs.pool.change_all.Given as goal

-- the changes that are left make of the map what all of them make of it
abbrev pub invariant-loop-change : goal.invariant-loop-change
invariant-loop-change l = IsOnTheWay l.slots (into_iter_items l.change-iterator) (changed_by (filled l.fn.slots) l.fn.changes.items)
