use Rattle.std.proofs.Common.{◌∙◌, arith}
use Rattle.std.proofs.lemmas.Result.{IfOk-weaker}
use Rattle.rec_codec.proofs.TxnLaws.{only_txn, txn_found, txn_none}
use Rattle.rec_codec.proofs.txn.read_txn.Goals as goal

pub returns-clause-found : goal.returns-clause-found
returns-clause-found c = IfOk-weaker c.txn_or_none.result _ _ (λ o h. txn_found c.args.bytes.now o (λ i. omega (arith, c.type_inv.bytes i)) h) c.txn_or_none.ensures

pub returns-clause-only : goal.returns-clause-only
returns-clause-only c = λ cs h. IfOk-weaker c.txn_or_none.result _ _ (λ o e. e ∙ only_txn c.args.bytes.now cs h) c.txn_or_none.ensures

pub returns-clause-none : goal.returns-clause-none
returns-clause-none c = IfOk-weaker c.txn_or_none.result _ _ (λ o h. txn_none c.args.bytes.now o h) c.txn_or_none.ensures
