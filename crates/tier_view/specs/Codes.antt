-- How the parts of a group are written down as values of contracts.
use Rattle.std.specs.Prelude.{ℕ, Bool, List, Option, refl}
use Rattle.std.specs.Coded.{Coded, code_by, coded×, coded_ℕ, coded_list, coded_option, coded_bool}
use Rattle.std.specs.FinMap as fin
use Rattle.agent_state.specs.contracts.modes.Modes as modes
use Rattle.agent_state.specs.contracts.totals.Share as share
use Rattle.agent_state.specs.contracts.totals.Totals as totals
use Rattle.agent_state.specs.declared.modes.Modes.{Modes}
use Rattle.agent_state.specs.declared.totals.Share.{Share}
use Rattle.agent_state.specs.declared.totals.Totals.{Totals}
use Rattle.obj_model.specs.contracts.tier.Mode as mode
use Rattle.obj_model.specs.contracts.tier.PoolValues as values
use Rattle.obj_model.specs.declared.tier.Mode.{Mode}
use Rattle.obj_model.specs.declared.tier.PoolValues.{PoolValues}
use Rattle.store_face.specs.Codes.{coded_store}
use Rattle.store_face.specs.Views.{StoreView}
use Rattle.tier_chron.specs.Logs.{Log, coded_log}
use Rattle.tier_protocol.specs.Tiers.{Flights, Phase}
use Rattle.tier_types.specs.contracts.flight.Flight as flight
use Rattle.tier_types.specs.contracts.phase.Phase as phase
use Rattle.tier_view.specs.Agents.{Agents}
use Rattle.tier_view.specs.Calls.{Calls, Entry, Flown}
use Rattle.tier_view.specs.Standing.{KeptFence, Standing}
use Rattle.tier_view.specs.Stores.{Pending, Stores}
use Rattle.tier_view.specs.Traffic.{Awaited, Begun, Noted, Replied, Sent, Traffic}
use Rattle.tier_view.specs.Views.{GroupView}
use Rattle.tier_view.specs.contracts.parts.Awaited as awaited
use Rattle.tier_view.specs.contracts.parts.Begun as begun
use Rattle.tier_view.specs.contracts.parts.Entry as entry
use Rattle.tier_view.specs.contracts.parts.Flown as flown
use Rattle.tier_view.specs.contracts.parts.KeptFence as kept
use Rattle.tier_view.specs.contracts.parts.Noted as noted
use Rattle.tier_view.specs.contracts.parts.Pending as pending
use Rattle.tier_view.specs.contracts.parts.Replied as replied
use Rattle.tier_view.specs.contracts.parts.Sent as sent

-- ---- stores

abbrev pub coded_stores : Coded Stores
coded_stores =
    code_by ((StoreView × StoreView) × ((Bool × Bool) × Option Pending))
    (coded× (coded× coded_store coded_store)
    (coded× (coded× coded_bool coded_bool) (coded_option pending.the_row.coded)))
    (λ v. ((v.cache, v.base), ((v.cache_stopped, v.base_stopped), v.pending)))
    (λ c. record {
      cache = c.0.0;
      base = c.0.1;
      cache_stopped = c.1.0.0;
      base_stopped = c.1.0.1;
      pending = c.1.1;
    })
    (λ _. refl)

-- ---- calls, and what is between the pools

abbrev pub coded_calls : Coded Calls
coded_calls =
    code_by (List Entry × (ℕ × List Flown))
    (coded× (coded_list entry.the_row.coded) (coded× coded_ℕ (coded_list flown.the_row.coded)))
    (λ v. (v.entries, (v.last, v.flown)))
    (λ c. record { entries = c.0; last = c.1.0; flown = c.1.1 }) (λ _. refl)

abbrev pub coded_flights : Coded Flights
coded_flights = fin.code (coded_list coded_ℕ) flight.the_row.coded

abbrev pub coded_traffic : Coded Traffic
coded_traffic =
    code_by
    (((Flights × List Begun) × (List Sent × List Replied))
    × ((ℕ × ℕ) × (List Awaited × List Noted)))
    (coded× (coded× (coded× coded_flights (coded_list begun.the_row.coded))
    (coded× (coded_list sent.the_row.coded) (coded_list replied.the_row.coded)))
    (coded× (coded× coded_ℕ coded_ℕ)
    (coded× (coded_list awaited.the_row.coded) (coded_list noted.the_row.coded))))
    (λ v. (
      ((v.flights, v.begun), (v.messages, v.replies)),
      ((v.next_message, v.next_reply), (v.awaited, v.noted)),
    ))
    (λ c. record {
      flights = c.0.0.0;
      begun = c.0.0.1;
      messages = c.0.1.0;
      replies = c.0.1.1;
      next_message = c.1.0.0;
      next_reply = c.1.0.1;
      awaited = c.1.1.0;
      noted = c.1.1.1;
    })
    (λ _. refl)

-- ---- the rest

abbrev pub coded_standing : Coded Standing
coded_standing =
    code_by ((ℕ × (ℕ × ℕ)) × (Phase × (Bool × Option KeptFence)))
    (coded× (coded× coded_ℕ (coded× coded_ℕ coded_ℕ))
    (coded× phase.the_row.coded (coded× coded_bool (coded_option kept.the_row.coded))))
    (λ v. ((v.cache_epoch, (v.base_epoch, v.next_opid)), (v.phase, (v.fenced, v.kept))))
    (λ c. record {
      cache_epoch = c.0.0;
      base_epoch = c.0.1.0;
      next_opid = c.0.1.1;
      phase = c.1.0;
      fenced = c.1.1.0;
      kept = c.1.1.1;
    })
    (λ _. refl)

abbrev pub coded_agent : Coded Agents
coded_agent =
    code_by (((PoolValues × Share) × (Mode × Modes)) × (ℕ × (Option (List ℕ) × Totals)))
    (coded× (coded× (coded× values.the_row.coded share.the_row.coded)
    (coded× mode.the_row.coded modes.the_row.coded))
    (coded× coded_ℕ (coded× (coded_option (coded_list coded_ℕ)) totals.the_row.coded)))
    (λ v. (((v.values, v.share), (v.mode, v.modes)), (v.moment, (v.cursor, v.totals))))
    (λ c. record {
      values = c.0.0.0;
      share = c.0.0.1;
      mode = c.0.1.0;
      modes = c.0.1.1;
      moment = c.1.0;
      cursor = c.1.1.0;
      totals = c.1.1.1;
    })
    (λ _. refl)

-- a group
abbrev pub coded_group : Coded GroupView
coded_group =
    code_by ((Stores × (Log × Calls)) × (Traffic × (Standing × Agents)))
    (coded× (coded× coded_stores (coded× coded_log coded_calls))
    (coded× coded_traffic (coded× coded_standing coded_agent)))
    (λ v. ((v.stores, (v.log, v.calls)), (v.traffic, (v.standing, v.agent))))
    (λ c. record {
      stores = c.0.0;
      log = c.0.1.0;
      calls = c.0.1.1;
      traffic = c.1.0;
      standing = c.1.1.0;
      agent = c.1.1.1;
    })
    (λ _. refl)
