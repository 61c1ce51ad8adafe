use Rattle.tier_view.proofs.Refusals.{entries_ask_what_is_wanted}
use Rattle.tier_view.proofs.lies.entries_ask_what_is_wanted.Goals as goal

pub returns : goal.returns
returns c = entries_ask_what_is_wanted
