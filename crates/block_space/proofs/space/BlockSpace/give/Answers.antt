use Rattle.std.proofs.Common.{ℕ, List, ◌∷◌, ◌++◌, ◌-◌, ap, sym, ◌∙◌, subst, arith}
use Rattle.std.specs.Prelude.{Contains, IsPermutation}
use Rattle.std.specs.List.{range_with_len}
use Rattle.block_space.specs.Numbers.{placed, IsRisingWithin}
use Rattle.block_space.specs.Views.{Shelf, Space, space_of}
use Rattle.block_space.proofs.Order.{placed_permutation}
use Rattle.block_space.proofs.Rising.{placed_rises, placed-append, given_before}
use Rattle.block_space.proofs.space.BlockSpace.give.Goals as goal

pub invariant_of-self : goal.invariant_of-self
invariant_of-self c =
    let inside = c.self.inside in
    let new : ¬ Contains (inside.returned.numbers ++ range_with_len inside.next (inside.limit - inside.next)) c.args.block = λ there. c.requires.taken (subst (λ (v : Space). Contains v.free c.args.block) c.self.view_is there) in
    let before = given_before inside.returned.numbers inside.next inside.limit c.args.block c.self.invariant.0 (omega (arith, ap (λ (v : Space). v.limit) c.self.view_is, c.requires.in_range)) new in
    (c.self.invariant.0, subst (λ (s : Shelf). IsRisingWithin 0 inside.next s.numbers) (sym c.put.ensures) (placed_rises 0 inside.next c.args.block inside.returned.numbers (omega arith) before.0 before.1 c.self.invariant.1))

pub returns-clause-given : goal.returns-clause-given
returns-clause-given c =
    let inside = c.self.inside in
    let block = c.args.block in
    let range = range_with_len inside.next (inside.limit - inside.next) in
    let new : ¬ Contains (inside.returned.numbers ++ range) block = λ there. c.requires.taken (subst (λ (v : Space). Contains v.free block) c.self.view_is there) in
    let before = given_before inside.returned.numbers inside.next inside.limit block c.self.invariant.0 (omega (arith, ap (λ (v : Space). v.limit) c.self.view_is, c.requires.in_range)) new in
    ap (λ (s : Shelf). space_of inside.limit (s.numbers ++ range) s.spare) c.put.ensures
    ∙ ap (λ (free : List ℕ). space_of inside.limit free (inside.returned.spare - 1)) (sym (placed-append block inside.next (inside.limit - inside.next) inside.returned.numbers before.0))
    ∙ ap (λ (v : Space). space_of v.limit (placed block v.free) (v.spare - 1)) c.self.view_is

pub returns-clause-one_more : goal.returns-clause-one_more
returns-clause-one_more c = subst (λ (v : Space). IsPermutation (c.args.block ∷ c.args.self.now.free) v.free) (sym (returns-clause-given c)) (placed_permutation c.args.block c.args.self.now.free)
