-- How a pair is written down as a value of contracts.
use Rattle.std.specs.Prelude.{ℕ, Bool, List, refl}
use Rattle.std.specs.FinMap as map
use Rattle.std.specs.Coded.{Coded, code_by, coded×, coded_ℕ, coded_bool, coded_list}
use Rattle.obj_model.specs.declared.req.Req.{Req}
use Rattle.obj_model.specs.contracts.req.Req as req
use Rattle.obj_model.specs.contracts.state.NameState as state
use Rattle.obj_ops.specs.Stores.{Store}
use Rattle.tier_types.specs.contracts.flight.Flight as flight
use Rattle.tier_types.specs.contracts.message.BaseMsg as message
use Rattle.tier_types.specs.contracts.message.BaseReply as reply
use Rattle.tier_types.specs.contracts.phase.Phase as phase
use Rattle.tier_types.specs.contracts.record.TierRec as rec
use Rattle.tier_protocol.specs.Tiers.{BaseMsg, BaseReply, Flights, Net, Phase, Recs, Tier}

abbrev pub coded_store : Coded Store
coded_store = map.code (coded_list coded_ℕ) state.the_row.coded

abbrev pub coded_recs : Coded Recs
coded_recs = map.code (coded_list coded_ℕ) rec.the_row.coded

abbrev pub coded_flights : Coded Flights
coded_flights = map.code (coded_list coded_ℕ) flight.the_row.coded

abbrev pub coded_net : Coded Net
coded_net =
    code_by ((List BaseMsg × List BaseReply) × ((ℕ × ℕ) × (ℕ × (Phase × Bool))))
    (coded× (coded× (coded_list message.the_row.coded) (coded_list reply.the_row.coded))
    (coded× (coded× coded_ℕ coded_ℕ) (coded× coded_ℕ (coded× phase.the_row.coded coded_bool))))
    (λ n. (
      (n.wire, n.replies),
      (
        (n.cache_epoch, n.base_epoch),
        (n.next_opid, (n.phase, n.fenced)),
      ),
    ))
    (λ p. record {
      wire = p.0.0;
      replies = p.0.1;
      cache_epoch = p.1.0.0;
      base_epoch = p.1.0.1;
      next_opid = p.1.1.0;
      phase = p.1.1.1.0;
      fenced = p.1.1.1.1;
    }) (λ _. refl)

abbrev pub coded_tier : Coded Tier
coded_tier =
    code_by ((Recs × Store) × ((Flights × Store) × (List Req × Net)))
    (coded× (coded× coded_recs coded_store)
    (coded× (coded× coded_flights coded_store) (coded× (coded_list req.the_row.coded) coded_net)))
    (λ t. ((t.recs, t.base), ((t.flights, t.opening), (t.acts, t.net))))
    (λ p. record {
      recs = p.0.0;
      base = p.0.1;
      flights = p.1.0.0;
      opening = p.1.0.1;
      acts = p.1.1.0;
      net = p.1.1.1;
    }) (λ _. refl)
