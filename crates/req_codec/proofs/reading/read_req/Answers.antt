use Rattle.std.proofs.Common.{◌∙◌, arith}
use Rattle.std.proofs.lemmas.Result.{IfOk-weaker}
use Rattle.req_codec.proofs.ReqLaws.{only_req, req_found, req_none}
use Rattle.req_codec.proofs.reading.read_req.Goals as goal

pub returns-clause-found : goal.returns-clause-found
returns-clause-found c = IfOk-weaker c.req_or_none.result _ _ (λ o h. req_found c.args.bytes.now o (λ i. omega (arith, c.type_inv.bytes i)) h) c.req_or_none.ensures

pub returns-clause-only : goal.returns-clause-only
returns-clause-only c = λ r h. IfOk-weaker c.req_or_none.result _ _ (λ o e. e ∙ only_req c.args.bytes.now r h) c.req_or_none.ensures

pub returns-clause-none : goal.returns-clause-none
returns-clause-none c = IfOk-weaker c.req_or_none.result _ _ (λ o h. req_none c.args.bytes.now o h) c.req_or_none.ensures
