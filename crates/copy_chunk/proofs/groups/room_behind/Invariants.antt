use Rattle.std.specs.Prelude.{◌≡◌}
use Rattle.std.specs.FinMap as fin
use Rattle.copy_chunk.specs.Cuts.{room_behind}
use Rattle.copy_chunk.proofs.groups.room_behind.Given as goal

-- what is left decides
abbrev pub invariant-loop-name : goal.invariant-loop-name
invariant-loop-name l =
    room_behind l.room l.name-iterator l.key ≡ room_behind 65536 (fin.entries l.table) l.key
