use Rattle.hit_sets.specs.Past.{names_of}
use Rattle.hit_sets.proofs.Filters.{zeros_have_no_bits}
use Rattle.hit_sets.proofs.bloom.BloomHits.new.Goals as goal

pub invariant_of-result : goal.invariant_of-result
invariant_of-result c = zeros_have_no_bits c.args.fpp c.size_of.result c.in_ok-vec.field-0.items (names_of c.new.result)
    c.size_of.ensures.value (c.in_ok-vec.ensures.items_if_clones_equal (λ _ same. same)) c.new.ensures
