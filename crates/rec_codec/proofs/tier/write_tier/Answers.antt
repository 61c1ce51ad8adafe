use Rattle.std.proofs.lemmas.Result.{IfOk-weaker}
use Rattle.rec_codec.proofs.Lengths.{tier_short}
use Rattle.rec_codec.proofs.tier.write_tier.Goals as goal

pub returns-clause-short : goal.returns-clause-short
returns-clause-short c =
    IfOk-weaker c.tier_spelled.result _ _ (λ bytes h. tier_short bytes.items c.args.state.now c.args.dirty c.args.mtime h) c.tier_spelled.ensures
