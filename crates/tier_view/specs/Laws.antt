-- What is proved of the steps.
use Rattle.std.specs.Prelude.{◌≡◌, ℕ, true, List, Option, Some, None}
use Rattle.std.specs.FinMap as fin
use Rattle.agent_state.specs.declared.totals.Totals.{Totals}
use Rattle.obj_model.specs.declared.change.Pool.{Pool}
use Rattle.obj_model.specs.declared.reply.Reply.{Reply}
use Rattle.obj_model.specs.declared.req.Req.{Req}
use Rattle.obj_model.specs.declared.state.NameState.{NameState}
use Rattle.obj_ops.specs.Stores.{Store}
use Rattle.store_face.specs.Views.{StoreView}
use Rattle.tier_chron.specs.Calls.{call_of}
use Rattle.tier_chron.specs.Shapes.{HasNoAct}
use Rattle.tier_chron.specs.declared.asked.Asked.{Asked}
use Rattle.tier_chron.specs.declared.entries.Act.{Act}
use Rattle.tier_chron.specs.declared.entries.First.{First}
use Rattle.tier_join.specs.Group.{ShowsIn}
use Rattle.tier_join.specs.Promises.{as_it_is, with_req}
use Rattle.tier_join.specs.Steps.{Has, HasRec, Outcome, with_doubt}
use Rattle.tier_protocol.specs.Tiers.{BaseMsg, Flight, Phase}
use Rattle.tier_view.specs.Calls.{IsInFlight}
use Rattle.tier_view.specs.Delivers.{ActsThere, CommitsThere, acted_there}
use Rattle.tier_view.specs.Grows.{Grows, Wanted}
use Rattle.tier_view.specs.Settles.{Reopens, settled, settled_with}
use Rattle.tier_view.specs.Steps.{begun_write, opened_call, sent_now}
use Rattle.tier_view.specs.Tables.{goes_without}
use Rattle.tier_view.specs.Traffic.{Owner, Sent}
use Rattle.tier_view.specs.Views.{GroupView, asking_of, calls_in, joined}
use Rattle.tier_view.specs.Whole.{IsWhole}

-- the step keeps what always holds, and grows as a step may
abbrev pub Keeps : (Store → Store) → Option Wanted → (old new : GroupView) → Type 0
Keeps other wanted old new = IsWhole new × Grows other wanted old new

-- a call is entered, at any moment; what a client asks has a line
abbrev pub OpeningCallsKeeps : Type 0
OpeningCallsKeeps =
    (v : GroupView) (line : Option ℕ) (asked : Asked) → IsWhole v
    → (line ≡ None → goes_without asked ≡ true)
    → Keeps (with_doubt (joined v).doubt) (Some (record { line = line; asked = asked })) v
    (opened_call line asked v)

-- the call asked this request, on this line
abbrev pub HasAsked : GroupView → (call line : ℕ) → Req → Type 0
HasAsked v call line r =
    asking_of (call_of (calls_in v.calls.entries) call) ≡ Some (record { line = line; req = r })

-- the write request of a call in flight, which has no act, begins on a name without a record
abbrev pub BeginningWritesKeeps : Type 0
BeginningWritesKeeps =
    (v : GroupView) (owner line : ℕ) (r : Req) → IsWhole v → v.stores.pending ≡ None
    → v.standing.phase ≡ Phase.Up → HasRec (joined v) r.name None
    → fin.get v.traffic.flights r.name ≡ None → HasAsked v owner line r
    → IsInFlight v.calls.entries owner → HasNoAct owner v.log.acts
    → Keeps as_it_is None v (begun_write owner r v)

-- The Write of a request that is under way is sent, at first, again, or by a call that took it
-- over; it is its owner's.
abbrev pub SendingWritesKeeps : Type 0
SendingWritesKeeps =
    (v : GroupView) (driver : Option ℕ) (owner line op : ℕ) (r : Req) → IsWhole v
    → v.stores.pending ≡ None
    → fin.get v.traffic.flights r.name ≡ Some (Flight.Write driver owner op r)
    → HasAsked v owner line r
    → Keeps as_it_is None v
    (sent_now (BaseMsg.Write v.standing.cache_epoch op r)
    (Some (record { call = owner; line = line })) v)

-- A Write reaches the base and acts, also when its call has ended: its commit is made, in doubt, or
-- not made.
abbrev pub DeliveringActsKeeps : Type 0
DeliveringActsKeeps =
    (v : GroupView) (m : Sent) (o : Owner) (op : ℕ) (r : Req) (b t : NameState) (answer : Reply)
    (first : Option First) (bytes : List ℕ) (s : StoreView) (result : Outcome) → IsWhole v
    → v.stores.pending ≡ None → ActsThere v m o op r b t answer first
    → CommitsThere v r t bytes s result
    → Keeps (with_req r) None v
    (acted_there m.number op first
    (record { call = o.call; line = o.line; req = r; reply = answer }) t.seq s result v)

-- A store is opened anew, and what it shows settles the act in doubt: it enters the history, under
-- the call whose act it is, exactly where it is there.
abbrev pub SettlingActsKeeps : Type 0
SettlingActsKeeps =
    (pool : Pool) (v : GroupView) (first : Option First) (a : Act) (seq : ℕ) (s : StoreView)
    (totals : Totals) → IsWhole v → Reopens pool v first a seq s totals
    → (Has s (ShowsIn pool a.req.name seq)
    → Keeps (with_doubt (joined v).doubt) None v (settled_with pool s totals first a v))
    × (Has s (λ t. ShowsIn pool a.req.name seq t → ⊥)
    → Keeps (with_doubt (joined v).doubt) None v (settled pool s totals v))
