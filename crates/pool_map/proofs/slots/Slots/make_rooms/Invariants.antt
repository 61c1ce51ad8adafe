use Rattle.std.specs.Prelude.{◌≡◌, [], take}
use Rattle.std.specs.List.{All}
use Rattle.pool_map.specs.Slots.{filled, HasRoom, IsTidy}
use Rattle.pool_map.proofs.slots.Slots.make_rooms.Given as goal

-- the map stays, the changes so far find room, and no slot is empty but for them
abbrev pub invariant-loop-change : goal.invariant-loop-change
invariant-loop-change l = record {
  kept : filled l.self ≡ filled l.fn.self;
  made : All (HasRoom l.self) (take l.change-index l.changes);
  tidy : IsTidy l.fn.self [] → IsTidy l.self l.changes;
}
