-- What is between the pools, as its callers see it.
use Rattle.std.specs.Coded.{Coded, code_by, coded×, coded_bool}
use Rattle.std.specs.Prelude.{Bool, refl}
use Rattle.tier_flight.specs.Ends.{FlightMap}
use Rattle.tier_view.specs.Codes.{coded_traffic}
use Rattle.tier_view.specs.Traffic.{Traffic}

-- the traffic, and whether there is memory for the next message and for the next reply
pub record WiresView : Type 0 where
  pub traffic : Traffic
  pub message_room : Bool
  pub reply_room : Bool

-- how both are written down as a value of contracts
abbrev pub coded_wires : Coded WiresView
coded_wires =
    code_by (Traffic × (Bool × Bool)) (coded× coded_traffic (coded× coded_bool coded_bool))
    (λ w. (w.traffic, (w.message_room, w.reply_room)))
    (λ c. record { traffic = c.0; message_room = c.1.0; reply_room = c.1.1 }) (λ _. refl)

-- the same with this traffic
abbrev pub carrying : Traffic → WiresView → WiresView
carrying t w = record w { traffic = t }

-- the same with this work
abbrev pub with_flights : FlightMap → WiresView → WiresView
with_flights flights w = carrying (record w.traffic { flights = flights }) w
