use Rattle.std.proofs.Common.{[], take, inl, inr, refl, sym, subst}
use Rattle.tier_tool.specs.Steps.Telling.{Words}
use Rattle.tier_tool.proofs.LineAnswer.{unheard_is, unwritten_is}
use Rattle.tool_jobs.proofs.Told.{gains_none}
use Rattle.tier_tool.proofs.telling.tell_line.Goals as goal

pub returns-in-Err-clause-told : goal.returns-in-Err-clause-told
returns-in-Err-clause-told g c =
    let failed = c.in-Err.ensures in
    let words = subst (Words c.args.numbered.now c.args.acts.now _ _ _) (sym c.as_slice.ensures)
    c.in-Ok.ensures.said in (
      take failed.bytes.count c.as_slice.result.now,
      failed.bytes.gained,
      inl (unheard_is _ _ _ _ _ _ _ _ failed.cause.failed words),
    )

pub returns-in-Err-Disk-clause-told : goal.returns-in-Err-Disk-clause-told
returns-in-Err-Disk-clause-told g c =
    let told = c.tell_disk_fault.ensures.told in
    let said = rw c.in-Err-Disk.field-0-is at c.in-Err-Disk.ensures.said in (
      told.0,
      told.1,
      inr (inr (inl (record { told = told.2; cause = said.1; leaves = said.0 }))),
    )

pub returns-in-Err-NoMemory-clause-told : goal.returns-in-Err-NoMemory-clause-told
returns-in-Err-NoMemory-clause-told g c =
    let said = rw c.in-Err-NoMemory.field-0-is at c.in-Err-NoMemory.ensures.said in (
      [],
      gains_none _,
      inr (inr (inr (record { ended = refl; silent = refl; same = said.0 }))),
    )

pub returns-in-Err-Unwritten-clause-told : goal.returns-in-Err-Unwritten-clause-told
returns-in-Err-Unwritten-clause-told g c =
    let said = rw c.in-Err-Unwritten.field-0-is at c.in-Err-Unwritten.ensures.said in
    ([], gains_none _, inr (inl (unwritten_is _ _ _ _ _ said)))
