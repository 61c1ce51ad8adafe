use Rattle.std.proofs.Common.{ap, sym}
use Rattle.std.specs.Option.{option_copied}
use Rattle.tier_promote.proofs.Feeds.{one_promotes}
use Rattle.tier_promote.proofs.gathering.promotion_on.Goals as goal

pub returns-in_ok-copy-in-Some-caller_on : goal.returns-in_ok-copy-in-Some-caller_on
returns-in_ok-copy-in-Some-caller_on c =
    one_promotes c.args.flights.now c.args.opid (option_copied c.args.found) c.requires c.in-Some.name.now c.in_ok-copy-in-Some-caller_on.field-0
    c.in-Some-caller_on.call (ap option_copied c.in-Some.is) c.in_ok-copy-in-Some-caller_on.ensures (sym c.in-Some-caller_on.ensures)
