use Rattle.script_laws.proofs.Unique.{script_has_no_fault}
use Rattle.script_laws.proofs.once.script_has_no_fault.Goals as goal

pub returns : goal.returns
returns c = script_has_no_fault c.args._bytes.now
