use Rattle.std.proofs.Common.{◌≡◌, ℕ, List, [], ◌∷◌, ◌++◌, ◌+◌, take, drop, ap, sym, ◌∙◌, subst, arith}
use Rattle.std.specs.Prelude.{All, Contains}
use Rattle.std.proofs.lemmas.List.Elements.{All-same}
use Rattle.block_space.specs.Views.{Space, space_of}
use Rattle.block_space.proofs.Rising.{taken_more, front_apart}
use Rattle.block_space.proofs.space.BlockSpace.take.Goals as goal

pub loop-preserved : goal.loop-preserved
loop-preserved c =
    let was = c.args.self.now in
    let new = c.take_lowest-block.new.self in
    let block = c.take_lowest-block.result in
    let count = c.loop.counter in
    let kept = c.loop.invariant in
    let left : drop count was.free ≡ block ∷ new.free = sym (ap (λ (v : Space). v.free) kept.others) ∙ ap (λ (v : Space). v.free) c.take_lowest-block.ensures in
    let more = taken_more was.free count block new.free left in
    let limit : new.limit ≡ was.limit = sym (ap (λ (v : Space). v.limit) c.take_lowest-block.ensures) ∙ ap (λ (v : Space). v.limit) kept.others in
    let spare : new.spare ≡ was.spare = sym (ap (λ (v : Space). v.spare) c.take_lowest-block.ensures) ∙ ap (λ (v : Space). v.spare) kept.others in
    record {
      enough = kept.enough;
      taken = c.push_reserved.ensures.items ∙ ap (λ (l : List ℕ). l ++ block ∷ []) kept.taken ∙ sym more.0;
      others = ap (λ (n : ℕ). space_of n new.free new.spare) limit
          ∙ ap (λ (free : List ℕ). space_of was.limit free new.spare) (sym more.1)
          ∙ ap (λ (n : ℕ). space_of was.limit (drop (count + 1) was.free) n) spare;
      len = omega arith;
      room = omega arith;
    }

pub returns-clause-gone : goal.returns-clause-gone
returns-clause-gone c =
    let was = c.args.self.now in
    let count = c.loop.counter in
    let apart = subst (λ (v : Space). All (λ block. ¬ Contains v.free block) (take count was.free)) (sym c.loop.invariant.others) (front_apart count was.free c.free-free.ensures.rising) in
    All-same (λ block. ¬ Contains c.loop.self.free block) c.loop.blocks.items (take count was.free) c.loop.invariant.taken apart
