-- A write request that goes to the base.
use Rattle.std.specs.Prelude.{◌≡◌, ◌<◌, ◌+◌, ℕ, Some, None}
use Rattle.std.specs.FinMap as fin
use Rattle.obj_model.specs.Limits.{number_limit}
use Rattle.obj_model.specs.declared.req.Req.{Req}
use Rattle.tier_chron.specs.Shapes.{HasNoAct}
use Rattle.tier_chron.specs.declared.asked.Asked.TheVariants.{Write}
use Rattle.tier_core.specs.Turns.{IsTurn}
use Rattle.tier_core.specs.declared.parts.Start.{Start}
use Rattle.tier_core.specs.declared.turns.Turn.{Turn}
use Rattle.tier_flight.specs.Numbers.{IsIdle}
use Rattle.tier_join.specs.Steps.{HasRec}
use Rattle.tier_protocol.specs.Tiers.{BaseMsg, Flight, Phase}
use Rattle.tier_traffic.specs.Messages as messages
use Rattle.tier_traffic.specs.Waits.{awaiting}
use Rattle.tier_view.specs.Steps.{begun_write, sent_now}
use Rattle.tier_view.specs.Traffic.{Traffic}
use Rattle.tier_view.specs.Views.{GroupView, joined}

-- a call awaits the reply to this message, and to no other
abbrev pub awaits : (call number : ℕ) → GroupView → GroupView
awaits call number v = record v {
  traffic = record v.traffic { awaited = awaiting call number v.traffic.awaited };
}

-- The Write of a request is sent, of the present epoch and this operation, for the call that drives
-- it, which awaits the reply. It is its owner's.
abbrev pub write_sent : (driver owner line op : ℕ) → Req → GroupView → GroupView
write_sent driver owner line op r v =
    awaits driver v.traffic.next_message
    (sent_now (BaseMsg.Write v.standing.cache_epoch op r)
    (Some (record { call = owner; line = line })) v)

-- the write request of this turn's call begins, under the next operation's number, and is sent
abbrev pub write_begun : Turn → Req → GroupView → GroupView
write_begun turn r v =
    write_sent turn.call turn.call turn.line v.standing.next_opid r (begun_write turn.call r v)

-- The write request of this turn's call may go to the base: the cache is up, and no commit is in
-- doubt; the call asked this, has no act, and waits for no work; and its name has no record and no
-- work.
pub record MayGo (v : GroupView) (turn : Turn) (r : Req) : Type 0 where
  pub settled : v.stores.pending ≡ None
  pub up : v.standing.phase ≡ Phase.Up
  pub low : v.standing.next_opid < number_limit
  pub turn_is : IsTurn v turn (Write r)
  pub first : HasNoAct turn.call v.log.acts
  pub idle : IsIdle turn.call v.traffic.flights
  pub bare : HasRec (joined v) r.name None
  pub free : fin.get v.traffic.flights r.name ≡ None

-- ---- the parts

-- what is between the pools where the request began and was sent
abbrev pub write_flies : Turn → (epoch op : ℕ) → Req → Traffic → Traffic
write_flies turn epoch op r t =
    messages.sent_for turn.call (BaseMsg.Write epoch op r)
    (Some (record { call = turn.call; line = turn.line }))
    (record t {
      flights = fin.insert t.flights r.name (Flight.Write (Some turn.call) turn.call op r);
    })

-- one more operation has its number
abbrev pub counted : Start → Start
counted s = record s { next_opid = s.next_opid + 1 }
