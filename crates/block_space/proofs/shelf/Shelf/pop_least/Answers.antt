use Rattle.std.proofs.Common.{ℕ, List, ap, sym, ◌∙◌}
use Rattle.std.specs.BinaryHeap.{heap_items}
use Rattle.block_space.specs.Views.{shelf_of}
use Rattle.block_space.proofs.Heap.{popped}
use Rattle.block_space.proofs.shelf.Shelf.pop_least.Goals as goal

pub returns : goal.returns
returns c =
    sym c.self.view_is
    ∙ ap (λ (numbers : List ℕ). shelf_of numbers c.self.inside.spare) (popped c.in-Some.least (heap_items c.self.inside.heap) (heap_items c.pop.new.self) c.in-Some.ensures.permutation (c.in-Some.ensures.below_top c.self.invariant.0))
