use Rattle.rec_codec.proofs.TxnLaws.{txns_apart}
use Rattle.rec_codec.proofs.laws.txn_spellings.Goals as goal

pub returns : goal.returns
returns c = txns_apart
