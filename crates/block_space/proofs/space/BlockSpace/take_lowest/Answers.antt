use Rattle.std.proofs.Common.{◌≡◌, ◌<◌, ℕ, List, [], ◌∷◌, ◌++◌, ◌+◌, ◌-◌, length, ap, sym, ◌∙◌, subst, arith}
use Rattle.std.specs.List.{range_with_len}
use Rattle.std.proofs.lemmas.List.FromFn.{length-range_with_len}
use Rattle.block_space.specs.Numbers.{IsRisingWithin}
use Rattle.block_space.specs.Views.{Shelf, Space, space_of}
use Rattle.block_space.proofs.Rising.{rises_from, range_first}
use Rattle.block_space.proofs.space.BlockSpace.take_lowest.Goals as goal

pub invariant_of-self : goal.invariant_of-self
invariant_of-self c =
    let numbers = c.pop_least.new.self.numbers in
    let up = subst (λ (s : Shelf). IsRisingWithin 0 c.self.inside.next s.numbers) c.in-Some.ensures c.self.invariant.1 in
    (c.self.invariant.0, rises_from 0 (c.in-Some.block + 1) c.self.inside.next numbers (omega arith) up.2)

pub returns : goal.returns
returns c =
    let inside = c.self.inside in
    let range = range_with_len inside.next (inside.limit - inside.next) in
    let others = range_with_len (inside.next + 1) (inside.limit - (inside.next + 1)) in
    let none = rw c.in_default.is at c.pop_least.ensures in
    let empty : inside.returned.numbers ≡ [] = none.0 in
    let len : length (inside.returned.numbers ++ range) ≡ inside.limit - inside.next = rw empty (length-range_with_len inside.next (inside.limit - inside.next)) in
    let more : inside.next < inside.limit = omega (arith, len, ap (λ (v : Space). length v.free) c.self.view_is, c.requires) in
    let free : inside.returned.numbers ++ range ≡ inside.next ∷ (inside.returned.numbers ++ others) = rw empty (range_first inside.next inside.limit more) in
    sym c.self.view_is
    ∙ ap (λ (numbers : List ℕ). space_of inside.limit numbers inside.returned.spare) free
    ∙ ap (λ (s : Shelf). space_of inside.limit (inside.next ∷ (s.numbers ++ others)) s.spare) (sym none.1)
