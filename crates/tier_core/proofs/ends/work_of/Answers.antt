use Rattle.std.specs.Option.{option_copied}
use Rattle.tier_core.proofs.ends.work_of.Goals as goal

pub returns : goal.returns
returns c = record {
  found = option_copied c.by_call-found.result;
  named = c.by_call-found.ensures;
  is = c.dropped_on.ensures;
}
