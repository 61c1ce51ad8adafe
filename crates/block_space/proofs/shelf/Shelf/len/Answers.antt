use Rattle.std.proofs.Common.{sym, ◌∙◌, ap, length, map}
use Rattle.std.proofs.lemmas.List.{length-map}
use Rattle.std.specs.BinaryHeap.{heap_items}
use Rattle.block_space.proofs.Order.{length-in_order}
use Rattle.block_space.proofs.shelf.Shelf.len.Goals as goal

pub returns : goal.returns
returns c =
    let items = heap_items c.self.inside.heap in
    ap length c.as_slice.ensures.value
    ∙ sym (length-in_order (map (λ r. r.0) items) ∙ length-map items (λ r. r.0))
    ∙ ap (λ s. length s.numbers) c.self.view_is
