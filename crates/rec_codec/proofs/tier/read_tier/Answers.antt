use Rattle.std.proofs.Common.{◌∙◌, arith}
use Rattle.std.proofs.lemmas.Result.{IfOk-weaker}
use Rattle.rec_codec.proofs.TierLaws.{only_tier, tier_found, tier_none}
use Rattle.rec_codec.proofs.tier.read_tier.Goals as goal

pub returns-clause-found : goal.returns-clause-found
returns-clause-found c = IfOk-weaker c.tier_or_none.result _ _ (λ o h. tier_found c.args.bytes.now o (λ i. omega (arith, c.type_inv.bytes i)) h) c.tier_or_none.ensures

pub returns-clause-only : goal.returns-clause-only
returns-clause-only c = λ r h. IfOk-weaker c.tier_or_none.result _ _ (λ o e. e ∙ only_tier c.args.bytes.now r h) c.tier_or_none.ensures

pub returns-clause-none : goal.returns-clause-none
returns-clause-none c = IfOk-weaker c.tier_or_none.result _ _ (λ o h. tier_none c.args.bytes.now o h) c.tier_or_none.ensures
