use Rattle.req_codec.proofs.ReqLaws.{reqs_apart}
use Rattle.req_codec.proofs.laws.req_spellings.Goals as goal

pub returns : goal.returns
returns c = reqs_apart
