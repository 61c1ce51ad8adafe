-- A client's call is served from the record of its name, or not.
use Rattle.std.proofs.Common.{◌≡◌, ◌≤◌, ◌<◌, ℕ, true, false, length, Option, Some, None, refl, sym, ap, subst, ◌∙◌, arith}
use Rattle.std.specs.Prelude.{Result}
use Rattle.std.specs.FinMap as fin
use Rattle.cache_pool.specs.Reads.{ReadsRecord}
use Rattle.cache_pool.specs.declared.fault.CacheFault.{CacheFault}
use Rattle.cache_pool.specs.declared.fault.CacheFault.TheVariants as cache
use Rattle.store_face.specs.Calls.{ReadFails}
use Rattle.obj_model.specs.declared.change.Pool.TheVariants.{Cache}
use Rattle.obj_model.specs.declared.tier.Path.TheVariants.{Hit}
use Rattle.store_face.specs.Views.{StoreView}
use Rattle.store_face.specs.declared.fault.StoreFault.{StoreFault}
use Rattle.store_face.specs.declared.fault.StoreFault.TheVariants as store
use Rattle.tier_core.specs.Serves.{MayBeServed, Serves, ServesRead, asked_of}
use Rattle.tier_core.specs.Turns.{IsTurn}
use Rattle.tier_core.specs.declared.serving.Served.{Served}
use Rattle.tier_core.specs.declared.serving.Served.TheVariants as served
use Rattle.tier_core.specs.declared.turns.Turn.{Turn}
use Rattle.tier_moves.proofs.FaultsTold.{IsMet, has_room, met_ends}
use Rattle.tier_moves.proofs.OneSteps.{ask_step, ask_step_ends}
use Rattle.tier_moves.proofs.Untouched.{Leaves, absent_is, answered_epoch, leaves_itself, leaves_twice, uncommitted_is, unread_is}
use Rattle.tier_moves.specs.Asks.{writes}
use Rattle.tier_moves.specs.Begins.{IsEnteredNow, IsStepOf, MayEndBy, told_of, told_unread}
use Rattle.tier_moves.specs.Stands.{stand_of}
use Rattle.tier_moves.specs.Ways.{MayGo}
use Rattle.tier_moves.specs.declared.standing.Stand.TheVariants.{Clear}
use Rattle.tier_types.specs.Flights.{lets_write, name_asked}
use Rattle.tier_types.specs.declared.flight.Flight.{Flight}
use Rattle.tier_types.specs.declared.flight.Ask.{Ask}
use Rattle.tier_types.specs.declared.record.TierRec.{TierRec}
use Rattle.tier_view.specs.Answers.{KeepsQuietly}
use Rattle.tier_view.specs.Views.{GroupView}
use Rattle.tier_view.specs.Whole.{IsWhole, faults_told}

-- ---- it may be served

lets : (f : Option Flight) → stand_of f true ≡ Clear → lets_write f ≡ true
lets None h = refl
lets (Some (Flight.Promote call op gather ask)) h = absurd (cc)
lets (Some (Flight.Write (Some driver) owner op req)) h = absurd (cc)
lets (Some (Flight.Write None owner op req)) h = absurd (cc)
lets (Some (Flight.Reads list)) h = absurd (cc)
lets (Some (Flight.Flush call op seq true drain)) h = absurd (cc)
lets (Some (Flight.Flush call op seq false drain)) h = refl

pub may_be_served : (ask : Ask) (v : GroupView) (turn : Turn) → IsEnteredNow v turn ask
    → stand_of (fin.get v.traffic.flights (name_asked ask)) (writes ask) ≡ Clear
    → MayBeServed v turn.call ask
may_be_served (Ask.Write req) v turn h clear = record {
  up = h.ready.up;
  lets = lets (fin.get v.traffic.flights req.name) clear;
  free = h.fresh.fresh.may;
}
may_be_served (Ask.Read client name vector) v turn h clear = tt

-- ---- what a call that was not answered leaves

module _ (turn : Turn) (ask : Ask) (v w : GroupView) (whole : IsWhole v)
    (h : IsEnteredNow v turn ask) where
  turn_stays : Leaves v w → IsTurn w turn (asked_of ask)
  turn_stays k =
      subst (λ (x : GroupView). IsTurn x turn (asked_of ask)) (sym k.is)
      (record {
        entry = h.turn_is.entry;
        is = h.turn_is.is;
        turn_is = h.turn_is.turn_is;
        asked_is = h.turn_is.asked_is;
      })

  -- the disk failed more often than answers tell, where its count rose since it was read
  room : Leaves v w → (between : ℕ) → v.stores.cache.faults ≤ between → (now : ℕ)
      → IsMet between now store.Disk → faults_told Cache w.log.answers < now
  room k between later now rose =
      subst (λ (x : GroupView). faults_told Cache x.log.answers < now) (sym k.is)
      (has_room v.log.answers v.stores.cache.faults between now whole.counted.cache later rose h.few)

  module _ (came : Served) (s : Serves turn ask v w came) where
    read_leaves : Leaves v s.between
    read_leaves = record { store = s.between.stores.cache; doubt = None; is = s.read.is }

    read_later : v.stores.cache.faults ≤ s.between.stores.cache.faults
    read_later = s.reading.1.cache_faults

    -- the call ends behind it
    pub silent_ends : Leaves v w → (new : GroupView) → KeepsQuietly w new → IsStepOf v new
    silent_ends k new quiet =
        ask_step_ends turn ask v w new h.turn_is s.step
        (ap (λ (x : GroupView). x.standing.cache_epoch) k.is)
        (ap (λ (x : GroupView). x.log.answers) k.is)
        (ap (λ (x : GroupView). length x.calls.flown) k.is) quiet

    -- the call was answered
    pub answered_step : came ≡ served.Answered → IsStepOf v w
    answered_step is =
        ask_step turn v w ask h.turn_is s.step
        (answered_epoch turn ask s.between w s.found
        (subst (λ (x : Served). ServesRead turn ask s.found s.between w x) is s.served)
        ∙ ap (λ (x : GroupView). x.standing.cache_epoch) s.read.is)

  pub absent_leaves : Serves turn ask v w served.Absent → Leaves v w
  absent_leaves s =
      leaves_twice v s.between w (read_leaves served.Absent s)
      (leaves_itself s.between w (absent_is turn ask s.between w s.found s.served))

  -- the call may go the way of its mode
  pub absent_may_go : stand_of (fin.get v.traffic.flights (name_asked ask)) (writes ask) ≡ Clear
      → Serves turn ask v w served.Absent → MayGo w turn ask
  absent_may_go clear s =
      let same = absent_is turn ask s.between w s.found s.served ∙ s.read.is in
      subst (λ (x : GroupView). MayGo x turn ask) (sym same)
      (record {
        turn_is = record {
          entry = h.turn_is.entry;
          is = h.turn_is.is;
          turn_is = h.turn_is.turn_is;
          asked_is = h.turn_is.asked_is;
        };
        settled = refl;
        fresh = h.fresh.fresh;
        clear = clear;
      })

  pub uncommitted_leaves : (fault : StoreFault) → Serves turn ask v w (served.Uncommitted fault)
      → Leaves v w
  uncommitted_leaves fault s =
      leaves_twice v s.between w (read_leaves (served.Uncommitted fault) s)
      (uncommitted_is turn ask s.between w s.found fault s.served).uncommitted.leaves

  pub unread_leaves : (fault : CacheFault) → Serves turn ask v w (served.Unread fault)
      → Leaves v w
  unread_leaves fault s =
      leaves_twice v s.between w (read_leaves (served.Unread fault) s)
      (leaves_itself s.between w (unread_is turn ask s.between w s.found fault s.served).same)

  -- ---- its fault may be answered

  pub uncommitted_ends : (fault : StoreFault) → Serves turn ask v w (served.Uncommitted fault)
      → MayEndBy w turn (Some Hit) (told_of fault)
  uncommitted_ends fault s =
      let k = uncommitted_leaves fault s in
      met_ends w turn ask (Some Hit) s.between.stores.cache.faults fault (turn_stays k) tt
      (λ rose. room k s.between.stores.cache.faults (read_later (served.Uncommitted fault) s)
      w.stores.cache.faults rose)
      (uncommitted_is turn ask s.between w s.found fault s.served).uncommitted.met

  read_met : (old new : StoreView) (fault : StoreFault) → ReadFails fault old new
      → IsMet old.faults new.faults fault
  read_met old new store.Disk r = r.0.rose
  read_met old new (store.BadImage at) r = absurd r
  read_met old new (store.NoSpace used need limit) r = absurd r
  read_met old new (store.Worn limit) r = absurd r
  read_met old new store.NoMemory r = tt

  pub unread_ends : (fault : CacheFault) → Serves turn ask v w (served.Unread fault)
      → MayEndBy w turn None (told_unread fault)
  unread_ends (cache.Store fault) s =
      let k = unread_leaves (cache.Store fault) s in
      let u = unread_is turn ask s.between w s.found (cache.Store fault) s.served in
      let fails : ReadFails fault v.stores.cache w.stores.cache =
      subst (λ (x : GroupView). ReadFails fault v.stores.cache x.stores.cache) (sym u.same)
      (subst (λ (f : Result (Option TierRec) CacheFault).
      ReadsRecord (name_asked ask) v.stores.cache s.between.stores.cache f) u.found_is
      s.read.read) in
      met_ends w turn ask None v.stores.cache.faults fault (turn_stays k) tt
      (λ rose. room k v.stores.cache.faults (omega arith) w.stores.cache.faults rose)
      (read_met v.stores.cache w.stores.cache fault fails)
  unread_ends (cache.BadRecord name) s =
      record {
        ask = ask;
        turn_is = turn_stays (unread_leaves (cache.BadRecord name) s);
        way_is = tt;
        fault = tt;
      }
