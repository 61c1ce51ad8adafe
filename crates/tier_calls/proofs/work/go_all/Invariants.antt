use Rattle.std.proofs.Common.{◌≡◌, map, ◌++◌, take, drop, vec_capacity, vec_len}
use Rattle.tier_view.specs.Stops.{gone_at}
use Rattle.tier_calls.proofs.work.go_all.Given as goal

abbrev pub invariant-loop-place : goal.invariant-loop-place
invariant-loop-place l =
    (l.flown.items ≡ map (gone_at l.now) (take l.place l.fn.flown.items)
    ++ drop l.place l.fn.flown.items)
    × (vec_len l.flown ≡ vec_len l.fn.flown) × (vec_capacity l.flown ≡ vec_capacity l.fn.flown)
