use Rattle.std.proofs.Common.{[], ◌++◌, inl, inr, refl, ap, ◌∙◌}
use Rattle.tier_tool.specs.Lines.{disk_fault_text}
use Rattle.tier_tool.proofs.LineAnswer.{tells_failure}
use Rattle.tool_jobs.proofs.Told.{gains_none}
use Rattle.tier_tool.proofs.telling.tell_disk_fault.Goals as goal

pub returns-in-Ok-clause-told : goal.returns-in-Ok-clause-told
returns-in-Ok-clause-told g c =
    tells_failure c.args.numbered.now c.as_slice.result.now _ _ _
    (c.as_slice.ensures ∙ c.in-Ok.ensures
    ∙ ap (λ w. w ++ disk_fault_text c.args.numbered.now.number) c.clear.ensures)
    c.tell.ensures.told

pub returns-in-Err-clause-told : goal.returns-in-Err-clause-told
returns-in-Err-clause-told g c = ([], gains_none _, inl (refl, inr refl))
