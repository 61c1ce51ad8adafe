use Rattle.std.proofs.Common.{◌≡◌, ◌<◌, ℕ, ◌++◌, ◌+◌, ◌-◌, length, ap, sym, ◌∙◌, subst, arith, length-append}
use Rattle.std.specs.Prelude.{All}
use Rattle.std.specs.List.{range_with_len}
use Rattle.std.specs.List.Sorted.{IsStrictlyIncreasing}
use Rattle.std.proofs.lemmas.List.FromFn.{length-range_with_len}
use Rattle.block_space.specs.Numbers.{IsRisingWithin}
use Rattle.block_space.specs.Views.{Space}
use Rattle.block_space.proofs.Rising.{length-rising, rises_on, rising_increases, rising_below}
use Rattle.block_space.proofs.space.BlockSpace.free.Goals as goal

pub overflow_cast-result : goal.overflow_cast-result
overflow_cast-result c = omega (arith, c.len.ensures, length-rising 0 c.self.inside.next c.self.inside.returned.numbers (omega arith) c.self.invariant.1)

pub overflow_add-result : goal.overflow_add-result
overflow_add-result c = omega (arith, c.len.ensures, length-rising 0 c.self.inside.next c.self.inside.returned.numbers (omega arith) c.self.invariant.1)

pub returns-clause-count : goal.returns-clause-count
returns-clause-count c =
    let inside = c.self.inside in
    let range = range_with_len inside.next (inside.limit - inside.next) in
    ap (λ (n : ℕ). n + (inside.limit - inside.next)) c.len.ensures
    ∙ sym (length-append inside.returned.numbers range ∙ ap (λ (n : ℕ). length inside.returned.numbers + n) (length-range_with_len inside.next (inside.limit - inside.next)))
    ∙ ap (λ (v : Space). length v.free) c.self.view_is

pub returns-clause-rising : goal.returns-clause-rising
returns-clause-rising c =
    let inside = c.self.inside in
    let len = inside.limit - inside.next in
    subst (λ (v : Space). IsStrictlyIncreasing v.free) c.self.view_is
    (rising_increases 0 (inside.next + len) (inside.returned.numbers ++ range_with_len inside.next len) (rises_on 0 inside.next len inside.returned.numbers (omega arith) c.self.invariant.1))

pub returns-clause-below : goal.returns-clause-below
returns-clause-below c =
    let inside = c.self.inside in
    let len = inside.limit - inside.next in
    let free = inside.returned.numbers ++ range_with_len inside.next len in
    let top : inside.next + len ≡ inside.limit = omega arith in
    let up : IsRisingWithin 0 inside.limit free = subst (λ (high : ℕ). IsRisingWithin 0 high free) top (rises_on 0 inside.next len inside.returned.numbers (omega arith) c.self.invariant.1) in
    subst (λ (v : Space). All (λ block. block < v.limit) v.free) c.self.view_is (rising_below 0 inside.limit free up)
