use Rattle.std.proofs.Common.{◌∙◌, arith}
use Rattle.std.proofs.lemmas.Result.{IfOk-weaker}
use Rattle.rec_codec.proofs.Whole.{only_state, state_found, state_none}
use Rattle.rec_codec.proofs.reading.read_state.Goals as goal

pub returns-clause-found : goal.returns-clause-found
returns-clause-found c = IfOk-weaker c.state_or_none.result _ _ (λ o h. state_found c.args.bytes.now o (λ i. omega (arith, c.type_inv.bytes i)) h) c.state_or_none.ensures

pub returns-clause-only : goal.returns-clause-only
returns-clause-only c = λ s h. IfOk-weaker c.state_or_none.result _ _ (λ o e. e ∙ only_state c.args.bytes.now s h) c.state_or_none.ensures

pub returns-clause-none : goal.returns-clause-none
returns-clause-none c = IfOk-weaker c.state_or_none.result _ _ (λ o h. state_none c.args.bytes.now o h) c.state_or_none.ensures
