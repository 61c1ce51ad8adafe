use Rattle.std.proofs.Common.{◌≡◌, ◌≤◌, length, take, drop, vec_len, vec_capacity}
use Rattle.block_space.specs.Views.{space_of}
use Rattle.block_space.proofs.space.BlockSpace.take.Given as goal

-- the lowest are in the list, one for each turn, and the others are free
abbrev pub invariant-loop : goal.invariant-loop
invariant-loop l = record {
  enough : l.count ≤ length l.fn.self.free;
  taken : l.blocks.items ≡ take l.counter l.fn.self.free;
  others : l.self ≡ space_of l.fn.self.limit (drop l.counter l.fn.self.free) l.fn.self.spare;
  len : vec_len l.blocks ≡ l.counter;
  room : l.count ≤ vec_capacity l.blocks;
}
