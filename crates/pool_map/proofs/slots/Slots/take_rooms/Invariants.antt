use Rattle.std.specs.Prelude.{◌≡◌, drop}
use Rattle.pool_map.specs.Slots.{filled, IsTidy}
use Rattle.pool_map.proofs.slots.Slots.take_rooms.Given as goal

-- the map stays, and the empty slots are those of the changes that are left
abbrev pub invariant-loop-change : goal.invariant-loop-change
invariant-loop-change l = record {
  kept : filled l.self ≡ filled l.fn.self;
  tidy : IsTidy l.fn.self l.changes → IsTidy l.self (drop l.change-index l.changes);
}
