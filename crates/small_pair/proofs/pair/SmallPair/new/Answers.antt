use Rattle.small_pair.proofs.Installs.{empty_sound}
use Rattle.small_pair.proofs.pair.SmallPair.new.Goals as goal

pub invariant_of-result : goal.invariant_of-result
invariant_of-result c =
    rw (
      c.new.ensures,
      c.new-2.ensures,
      c.new-3.ensures,
      c.new-4.ensures,
      c.new-5.ensures,
      c.new-6.ensures.items,
      c.new-7.ensures.items,
    )
    empty_sound
