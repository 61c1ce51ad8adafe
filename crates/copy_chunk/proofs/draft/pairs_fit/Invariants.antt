use Rattle.std.specs.Prelude.{◌≡◌, drop}
use Rattle.std.specs.Option.{option_copied}
use Rattle.copy_chunk.specs.Gathers.{pairs_fit}
use Rattle.copy_chunk.proofs.draft.pairs_fit.Given as goal

-- what is left decides
abbrev pub invariant-loop-pair : goal.invariant-loop-pair
invariant-loop-pair l =
    pairs_fit (option_copied l.before) (drop l.pair-index l.pairs)
    ≡ pairs_fit (option_copied l.last) l.pairs
