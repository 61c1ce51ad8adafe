use Rattle.std.proofs.lemmas.Result.{IfOk-weaker}
use Rattle.rec_codec.proofs.Lengths.{state_short}
use Rattle.rec_codec.proofs.writing.write_state.Goals as goal

pub returns-clause-short : goal.returns-clause-short
returns-clause-short c =
    IfOk-weaker c.state_spelled.result _ _ (λ bytes h. state_short bytes.items c.args.state.now h) c.state_spelled.ensures
