use Rattle.std.specs.Prelude.{◌≡◌, drop}
use Rattle.copy_chunk.specs.Gathers.{kepts_fit}
use Rattle.copy_chunk.proofs.draft.kepts_fit.Given as goal

-- what is left decides
abbrev pub invariant-loop-kept : goal.invariant-loop-kept
invariant-loop-kept l = kepts_fit l.last (drop l.kept-index l.list) ≡ kepts_fit 0 l.list
