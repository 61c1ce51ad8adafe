use Rattle.log_image.proofs.LogLaws.{one_log}
use Rattle.log_image.proofs.laws.one_log.Goals as goal

pub returns : goal.returns
returns c = one_log
