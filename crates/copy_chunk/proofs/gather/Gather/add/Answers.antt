use Rattle.std.proofs.Common.{List, [], ◌∷◌, ◌++◌, refl, sym, ap, ◌∙◌}
use Rattle.copy_chunk.specs.declared.chunk.Chunk.{Chunk}
use Rattle.copy_chunk.specs.Gathers.{wanted, fits}
use Rattle.copy_chunk.specs.Steps.{state_of}
use Rattle.copy_chunk.proofs.Gathering.{values, values_same, values_more, gathered_still}
use Rattle.copy_chunk.proofs.Gathering.{gathered_more, unfit_place, unfit_part, fit_part}
use Rattle.copy_chunk.proofs.gather.Gather.add.Goals as goal

pub returns-then-not-leads-clause-added : goal.returns-then-not-leads-clause-added
returns-then-not-leads-clause-added c = (
  ap wanted (sym c.self.view_is) ∙ sym c.self.invariant.place
      ∙ c.is_at.ensures.yes c.if-not-is_at.false,
  unfit_place c.args.self.now c.args.chunk (sym c.leads.ensures ∙ c.if-not-leads.true),
  refl,
)

pub invariant_of-self : goal.invariant_of-self
invariant_of-self c =
    gathered_still (state_of c.self.inside.draft)
    (state_of c.self.inside.draft) c.self.inside.wanted (values c.self.inside.chunks.items)
    (values c.reserve.new.self.items) c.self.invariant refl
    (values_same c.self.inside.chunks.items c.reserve.new.self.items c.reserve.ensures.items)

pub invariant_of-self-in_err-put : goal.invariant_of-self-in_err-put
invariant_of-self-in_err-put c =
    gathered_still (state_of c.self.inside.draft) (state_of c.put.new.self) c.self.inside.wanted
    (values c.self.inside.chunks.items)
    (values c.reserve.new.self.items) c.self.invariant c.in_err-put.ensures.refused
    (values_same c.self.inside.chunks.items c.reserve.new.self.items c.reserve.ensures.items)

pub invariant_of-self-then-not-branch : goal.invariant_of-self-then-not-branch
invariant_of-self-then-not-branch c =
    gathered_still (state_of c.self.inside.draft) (state_of c.put.new.self) c.self.inside.wanted
    (values c.self.inside.chunks.items) (values c.reserve.new.self.items) c.self.invariant
    (rw c.if-not-branch.true at c.in_ok-put.ensures.put).1
    (values_same c.self.inside.chunks.items c.reserve.new.self.items c.reserve.ensures.items)

pub returns-then-not-branch-clause-added : goal.returns-then-not-branch-clause-added
returns-then-not-branch-clause-added c = (
  ap wanted (sym c.self.view_is) ∙ sym c.self.invariant.place
      ∙ c.is_at.ensures.yes c.if-not-is_at.false,
  ap (λ (l : List Chunk). fits l c.args.chunk) (sym c.self.view_is)
      ∙ unfit_part (state_of c.self.inside.draft) (state_of c.put.new.self) c.self.inside.wanted
      (values c.self.inside.chunks.items) c.args.chunk c.self.invariant
      (rw c.if-not-branch.true at c.in_ok-put.ensures.put),
  values_same c.self.inside.chunks.items c.reserve.new.self.items c.reserve.ensures.items
      ∙ c.self.view_is,
)

pub invariant_of-self-2 : goal.invariant_of-self-2
invariant_of-self-2 c =
    gathered_more (state_of c.self.inside.draft) (state_of c.put.new.self) c.self.inside.wanted
    (values c.self.inside.chunks.items)
    (values c.push_reserved.new.self.items) c.args.chunk c.self.invariant
    (c.is_at.ensures.yes c.if-not-is_at.false) (rw c.if-not-branch.false at c.in_ok-put.ensures.put)
    (values_more c.self.inside.chunks.items c.reserve.new.self.items c.push_reserved.new.self.items
    c.of-taken.result c.args.chunk c.reserve.ensures.items c.push_reserved.ensures.items
    c.of-taken.ensures)

pub returns-clause-added : goal.returns-clause-added
returns-clause-added c = (
  ap wanted (sym c.self.view_is) ∙ sym c.self.invariant.place
      ∙ c.is_at.ensures.yes c.if-not-is_at.false,
  ap (λ (l : List Chunk). fits l c.args.chunk) (sym c.self.view_is)
      ∙ fit_part (state_of c.self.inside.draft) (state_of c.put.new.self) c.self.inside.wanted
      (values c.self.inside.chunks.items) c.args.chunk c.self.invariant
      (sym c.leads.ensures ∙ c.if-not-leads.false)
      (rw c.if-not-branch.false at c.in_ok-put.ensures.put),
  values_more c.self.inside.chunks.items c.reserve.new.self.items c.push_reserved.new.self.items
      c.of-taken.result c.args.chunk c.reserve.ensures.items c.push_reserved.ensures.items
      c.of-taken.ensures ∙ ap (λ (l : List Chunk). l ++ c.args.chunk ∷ []) c.self.view_is,
)
