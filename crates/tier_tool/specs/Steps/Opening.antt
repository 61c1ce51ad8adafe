-- Why the base is not opened is told.
use Rattle.std.specs.Prelude.{◌≡◌, ℕ}
use Rattle.log_store.specs.declared.fault.AttachFault.{AttachFault}
use Rattle.log_store.specs.declared.fault.AttachFault.TheVariants as fault
use Rattle.obj_model.specs.declared.change.Pool.TheVariants.{Base}
use Rattle.report_text.specs.Faults.{bad_image_text, wrong_pair_text}
use Rattle.tier_outside.specs.Streams.{StreamState}
use Rattle.tool_jobs.specs.Putting.{MakesAndPuts}

-- why the base was not opened is told
abbrev pub TellsUnopened : AttachFault → StreamState → StreamState → ℕ → Type 0
TellsUnopened fault.Disk old new status = (status ≡ 6) × (new ≡ old)
TellsUnopened (fault.BadImage at) old new status =
    MakesAndPuts (bad_image_text Base 0 at) 5 old new status
TellsUnopened (fault.WrongPair found want) old new status =
    MakesAndPuts (wrong_pair_text Base 0 found want) 5 old new status
TellsUnopened fault.NoMemory old new status = (status ≡ 9) × (new ≡ old)
