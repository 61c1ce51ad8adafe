use Rattle.std.proofs.Common.{◌∙◌, ap, rules, tests}
use Rattle.std.specs.Prelude.{filter}
use Rattle.tier_flight.specs.Ends.{is_other}
use Rattle.tier_flight.proofs.Retained.{filtered}
use Rattle.tier_flight.proofs.ending.others_of.Goals as goal

pub returns : goal.returns
returns c =
    filtered _ (is_other c.args.call) _ (λ x b q k. search (rules, tests)) _ _
    c.retain.ensures.filtered
    ∙ ap (filter (is_other c.args.call)) c.into_vec-reads.ensures
