use Rattle.log_image.proofs.LogLaws.{a_log_is_headed}
use Rattle.log_image.proofs.laws.a_log_is_headed.Goals as goal

pub returns : goal.returns
returns c = a_log_is_headed
