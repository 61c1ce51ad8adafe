use Rattle.std.proofs.Common.{Option, Some, refl, sym, ap, subst, ◌∙◌}
use Rattle.copy_chunk.specs.declared.chunk.Cursor.{Cursor}
use Rattle.copy_chunk.specs.Gathers.{joined}
use Rattle.copy_chunk.specs.Steps.{state_of, IsGathered}
use Rattle.copy_chunk.proofs.Gathering.{values, gathered_whole, gathered_part}
use Rattle.copy_chunk.proofs.gather.Gather.finish.Goals as goal

pub returns-in-Some-clause-exact : goal.returns-in-Some-clause-exact
returns-in-Some-clause-exact c =
    let cs = values c.self.inside.chunks.items in (
      refl,
      ap joined (sym c.self.view_is)
          ∙ gathered_part (state_of c.self.inside.draft) c.in-Some.field-0 cs
          (subst (λ (at : Option Cursor). IsGathered (state_of c.self.inside.draft) at cs)
          c.in-Some.is
          c.self.invariant),
    )

pub returns-in-None-clause-exact : goal.returns-in-None-clause-exact
returns-in-None-clause-exact c =
    let cs = values c.self.inside.chunks.items in
    ap joined (sym c.self.view_is)
    ∙ gathered_whole (state_of c.self.inside.draft) cs
    (subst (λ (at : Option Cursor). IsGathered (state_of c.self.inside.draft) at cs)
    c.in-None.is c.self.invariant) ∙ ap Some (sym c.into_state.ensures)
