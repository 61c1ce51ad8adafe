use Rattle.rec_codec.proofs.Whole.{states_apart}
use Rattle.rec_codec.proofs.laws.state_spellings.Goals as goal

pub returns : goal.returns
returns c = states_apart
