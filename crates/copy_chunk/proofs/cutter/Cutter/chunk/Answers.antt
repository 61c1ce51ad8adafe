use Rattle.copy_chunk.proofs.Known.{remembered, next_there, given}
use Rattle.copy_chunk.proofs.cutter.Cutter.chunk.Goals as goal

pub cut-requires : goal.cut-requires
cut-requires c =
    λ yes. remembered c.self.inside.state c.self.inside.next c.args.at.now c.self.invariant
    (c.is_next-known.ensures yes)

pub invariant_of-self : goal.invariant_of-self
invariant_of-self c =
    next_there c.self.inside.state c.args.at.now c.in_ok-chunk.chunk c.in_ok-self-inside.field-0
    c.in_ok-chunk.ensures c.in_ok-self-inside.ensures

pub returns-clause-chunk : goal.returns-clause-chunk
returns-clause-chunk c =
    given c.self.inside.state c.args.self.now c.args.at.now c.in_ok-chunk.chunk
    c.in_ok-chunk.ensures c.self.view_is
