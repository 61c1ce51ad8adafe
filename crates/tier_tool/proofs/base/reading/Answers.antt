use Rattle.std.proofs.Common.{◌∙◌, ap, false}
use Rattle.log_store.specs.Views.{store_of}
use Rattle.tier_tool.specs.Answers.{of_reading}
use Rattle.tier_tool.proofs.Rooms.{reading_uses}
use Rattle.tier_tool.proofs.Outcomes.{ends_reading}
use Rattle.tier_tool.proofs.base.reading.Goals as goal

pub returns-in_ok-look-in-Ok-clause-ended : goal.returns-in_ok-look-in-Ok-clause-ended
returns-in_ok-look-in-Ok-clause-ended g c = λ client.
    let found = c.in-Ok.ensures.found in
    ends_reading client c.args.name.now c.args.vector.now c.in-Ok.state c.of_reading.result (store_of c.args.pool.now) (store_of c.state_of.new.pool)
    (c.of_reading.ensures ∙ ap of_reading c.in_ok-look-in-Ok.ensures) found.1 found.2 c.requires.live

pub returns-in_ok-look-in-Ok-clause-uses : goal.returns-in_ok-look-in-Ok-clause-uses
returns-in_ok-look-in-Ok-clause-uses g c = λ client. reading_uses client c.args.name.now c.args.vector.now c.args.pool.now c.state_of.new.pool (c.of_reading.result, false) c.in-Ok.ensures.same
