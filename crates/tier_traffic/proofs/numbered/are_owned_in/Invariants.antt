use Rattle.std.proofs.Common.{◌≡◌}
use Rattle.std.specs.List.{list_any}
use Rattle.tier_traffic.specs.Messages.{is_owned_at}
use Rattle.tier_traffic.proofs.numbered.are_owned_in.Given as goal

abbrev pub invariant-loop-number : goal.invariant-loop-number
invariant-loop-number l = list_any (λ e. is_owned_at l.call e.1) l.number-iterator ≡ list_any (λ e. is_owned_at l.call e.1) l.places.entries
