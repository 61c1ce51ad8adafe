-- What a stop of the cache makes of the parts.
use Rattle.std.specs.Prelude.{ℕ, false, map}
use Rattle.tier_calls.specs.Tables.{TableView}
use Rattle.tier_core.specs.declared.parts.Start.{Start}
use Rattle.tier_types.specs.declared.phase.Phase.TheVariants.{Down}
use Rattle.tier_view.specs.Stops.{gone_at}

-- all work has gone, at this number of answers or before
abbrev pub all_gone : (now : ℕ) → TableView → TableView
all_gone now t =
    record t { calls = record t.calls { flown = map (gone_at now) t.calls.flown } }

-- the cache is down
abbrev pub down : Start → Start
down s = record s { phase = Down; fenced = false }
