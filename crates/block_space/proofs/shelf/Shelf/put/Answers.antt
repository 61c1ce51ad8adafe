use Rattle.std.proofs.Common.{◌-◌, ℕ, List, ap, ◌∙◌}
use Rattle.std.specs.BinaryHeap.{heap_items}
use Rattle.block_space.specs.Numbers.{placed}
use Rattle.block_space.specs.Views.{Shelf, shelf_of}
use Rattle.block_space.proofs.Heap.{pushed}
use Rattle.block_space.proofs.shelf.Shelf.put.Goals as goal

pub returns : goal.returns
returns c =
    ap (λ (numbers : List ℕ). shelf_of numbers (c.self.inside.spare - 1)) (pushed (record { 0 = c.args.number }) (heap_items c.self.inside.heap) (heap_items c.push.new.self) c.in-Ok.ensures.permutation)
    ∙ ap (λ (s : Shelf). shelf_of (placed c.args.number s.numbers) (s.spare - 1)) c.self.view_is
