use Rattle.script_laws.proofs.Unique.{reading_is_one}
use Rattle.script_laws.proofs.once.reading_is_one.Goals as goal

pub returns : goal.returns
returns c = reading_is_one c.args._bytes.now
