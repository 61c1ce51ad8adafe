use Rattle.std.proofs.Common.{ap, sym}
use Rattle.std.specs.Option.{option_copied}
use Rattle.tier_core.proofs.Told.{one_drives}
use Rattle.tier_core.proofs.lands.told_on.Goals as goal

pub returns-in_ok-copy-in-Some-driven_on : goal.returns-in_ok-copy-in-Some-driven_on
returns-in_ok-copy-in-Some-driven_on c =
    one_drives c.args.flights.now c.args.wrote (option_copied c.args.found) c.requires c.in-Some.name.now c.in_ok-copy-in-Some-driven_on.field-0
    c.in-Some-driven_on.driver c.in-Some-driven_on.owner (ap option_copied c.in-Some.is) c.in_ok-copy-in-Some-driven_on.ensures (sym c.in-Some-driven_on.ensures)
