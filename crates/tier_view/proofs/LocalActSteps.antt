-- A request acts in the cache: the step, by its worlds.
use Rattle.std.proofs.Common.{◌≡◌, ◌≢◌, inl, inr, ℕ, true, List, [], ◌∷◌, ◌++◌, map, length, Option, Some, None, Ok, Err, refl, sym, ap, subst, ◌∙◌}
use Rattle.std.specs.FinMap as fin
use Rattle.std.proofs.lemmas.List.{append-nil, map-append}
use Rattle.agent_state.specs.declared.totals.Totals.{Totals}
use Rattle.obj_model.specs.declared.change.Change.{Change}
use Rattle.obj_model.specs.declared.change.Pool.TheVariants.{Cache}
use Rattle.obj_model.specs.declared.reply.Reply.{Reply}
use Rattle.obj_model.specs.declared.req.Req.{Req}
use Rattle.obj_model.specs.declared.state.NameState.{NameState}
use Rattle.obj_ops.specs.Acts.{act}
use Rattle.obj_ops.specs.Stores.{Store, state_of}
use Rattle.obj_ops.specs.declared.request.Acted.TheVariants.{Fresh}
use Rattle.pool_keys.specs.Keys.{record_key}
use Rattle.pool_keys.specs.Values.{IsRecOf}
use Rattle.store_face.specs.Calls.{Made, MayBeMade, Stays as StoreStays}
use Rattle.store_face.specs.Views.{StoreView}
use Rattle.store_face.specs.declared.fault.StoreFault.TheVariants.{Disk}
use Rattle.tier_chron.specs.Calls.{call_of}
use Rattle.tier_chron.specs.Laws.{IsNamedFor, IsOpeningFor, MayAct}
use Rattle.tier_chron.specs.Logs.{opened}
use Rattle.tier_chron.specs.Places.{behind}
use Rattle.tier_chron.specs.Shapes.{is_fault}
use Rattle.tier_chron.specs.declared.entries.Act.{Act}
use Rattle.tier_chron.specs.declared.entries.First.{First}
use Rattle.tier_chron.proofs.Lists.{all_imply}
use Rattle.tier_chron.proofs.Staying.{act_keeps_shape}
use Rattle.tier_join.specs.Group.{HasRecordAt, Memory, ShowsIn, TwoMaps, View, AreLeft, BothTell, changed_in, map_in, with_act}
use Rattle.tier_join.specs.Promises.{Promises, with_req}
use Rattle.tier_join.specs.Steps.{Outcome, behind as left_behind, sets, unless_disk}
use Rattle.tier_join.proofs.Commits.{some_maps}
use Rattle.tier_join.proofs.Keys.{set_is}
use Rattle.tier_join.proofs.Left.{rests_left}
use Rattle.tier_join.specs.declared.doubt.Doubt.{Doubt}
use Rattle.tier_protocol.specs.Owners.{IsOpen, Ledger, with_call_act}
use Rattle.tier_protocol.specs.Tiers.{Flights, Name, TierRec}
use Rattle.tier_protocol.proofs.Cells.{get_here}
use Rattle.tier_rec.specs.Records.{acted_record, totals_after}
use Rattle.tier_view.specs.Grows.{Extends, HaveCome, Remains, in_cache, no_commit}
use Rattle.tier_view.specs.Laws.{Keeps}
use Rattle.tier_view.specs.Calls.{Flown}
use Rattle.tier_view.specs.Locals.{ActsOn, PutsRec, with_cache}
use Rattle.tier_view.specs.Tables.{SoundFlights}
use Rattle.tier_view.specs.Stores.{Pending}
use Rattle.tier_view.specs.Views.{GroupView, act_in, calls_in, joined, ledger_in}
use Rattle.tier_view.specs.Whole.{IsWhole}
use Rattle.tier_view.specs.Worlds.{Began, IsOwned, IsOwnedWith}
use Rattle.tier_view.proofs.Beginning.{surely_owned}
use Rattle.tier_view.proofs.Delivering.{history_acts, named_of, opened_more, opening_for}
use Rattle.tier_view.proofs.Finding.{going_unanswered, no_acts, not_closed}
use Rattle.tier_view.proofs.LocalMaps.{cache_made_from, cache_torn_from}
use Rattle.tier_view.proofs.LocalSteps.{cache_grows, cache_keeps, cache_owes, sums_failed, sums_put, sums_rest}
use Rattle.tier_view.proofs.Owning.{knows_more}
use Rattle.tier_view.proofs.ServingOwners.{asked_by}
use Rattle.tier_view.proofs.Resting.{extends_same, remains_itself}

-- ---- who may act

-- a call in flight that asked a request, and has no act, may act so
pub may_act : (v : GroupView) (h : IsWhole v) (call line : ℕ) (q : Req) (b t : NameState) (answer : Reply) (first : Option First) → ActsOn v call line q b t answer first
    → MayAct (calls_in v.calls.entries) v.log (record { call = call; line = line; req = q; reply = answer })
may_act v h call line q b t answer first a = record {
  asked = asked_by (call_of (calls_in v.calls.entries) call) (record { call = call; line = line; req = q; reply = answer }) a.asked;
  first = a.actless;
  free = all_imply (λ l. l.call ≢ call) (λ l. l.call ≡ call → is_fault l.answer ≡ true) (λ l apart same. absurd (apart same)) v.log.answers
      (going_unanswered v.calls.last v.standing.cache_epoch v.log.answers v.calls.entries call h.calls a.going);
}

pub free_to_act : (v : GroupView) (h : IsWhole v) (call line : ℕ) (q : Req) (b t : NameState) (answer : Reply) (first : Option First) → ActsOn v call line q b t answer first → IsOpen (ledger_in v) call
free_to_act v h call line q b t answer first a =
    (no_acts call v.log.acts a.actless, not_closed call v.log.answers (going_unanswered v.calls.last v.standing.cache_epoch v.log.answers v.calls.entries call h.calls a.going))

record_at : (o : Option (List ℕ)) (r : TierRec) → IsRecOf o (Some r) → HasRecordAt r.state.seq o
record_at None r h = absurd h
record_at (Some bytes) r h = (r, h, refl)

-- the map behind the commit shows the act
pub shown_by : (name : Name) (o : Option (List ℕ)) (t : NameState) (moment : ℕ) (z : TwoMaps) → IsRecOf o (Some (acted_record t moment)) → ShowsIn Cache name t.seq (map_in Cache (changed_in Cache (sets (record_key name) o) z))
shown_by name o t moment z spelled =
    subst (λ x. HasRecordAt t.seq (fin.get x (record_key name))) (sym (set_is z.cache (record_key name) o))
    (subst (HasRecordAt t.seq) (sym (get_here z.cache (record_key name) o)) (record_at o (acted_record t moment) spelled))

module _ (v : GroupView) (call line : ℕ) (q : Req) (old : Option TierRec) (b t : NameState) (answer : Reply) (first : Option First) (moment : ℕ) (o : Option (List ℕ)) (s : StoreView)
    (flights : Flights) (flown : List Flown) (h : IsWhole v) (none : v.stores.pending ≡ None) (a : ActsOn v call line q b t answer first)
    (sound : SoundFlights v.calls.entries flown flights v.traffic.begun v.standing.cache_epoch (length v.log.answers))
    (work : Extends (Remains (length v.log.answers) (length v.log.answers)) (HaveCome v.calls.entries v.calls.entries (length v.log.answers) v.standing v.standing) v.calls.flown flown) where
  abbrev A : Act
  A = record { call = call; line = line; req = q; reply = answer }

  abbrev Mem : Memory
  Mem = (joined v).memory

  -- the memory where the work is gone
  abbrev Rest : Memory
  Rest = record Mem { flights = flights }

  abbrev L : Ledger
  L = ledger_in v

  abbrev New : TierRec
  New = acted_record t moment

  abbrev Cs : List Change
  Cs = sets (record_key q.name) o

  abbrev Puts : Outcome → Type 0
  Puts result = PutsRec v q.name old (Some New) o s result

  may : MayAct (calls_in v.calls.entries) v.log A
  may = may_act v h call line q b t answer first a

  named : IsNamedFor v.log.opening A first
  named = named_of v.log.opening A b first a.opening

  more : (xs : List First) × (opened first v.log.opening ≡ v.log.opening ++ xs)
  more = opened_more v.log.opening A first named

  abbrev B : Option Pending → List First → List Act → Totals → GroupView
  B p opening as_acts totals = record v {
    stores = record v.stores { cache = s; pending = p };
    log = record { opening = opening; acts = as_acts; answers = v.log.answers };
    calls = record v.calls { flown = flown };
    traffic = record v.traffic { flights = flights };
    agent = record v.agent { totals = totals };
  }

  abbrev Promised : Outcome → Type 0
  Promised result =
      (w : View) → w.cache ≡ s → w ≡ left_behind Cache (with_act q Rest) (unless_disk Rest Mem) (Doubt.Act Cache q t.seq) result (joined v) w → Promises (with_req q) (joined v) w

  module _ (put : (start : Store) (z : TwoMaps) → AreLeft (joined v) z → IsOwned start Mem L z → IsOwned start (with_act q Rest) (with_call_act (act_in A) L) (changed_in Cache Cs z))
      (kept : (start : Store) (z : TwoMaps) → AreLeft (joined v) z → IsOwned start Mem L z → IsOwned start Rest L z)
      (stands : (start : Store) (z : TwoMaps) → AreLeft (joined v) z → IsOwned start Mem L z → state_of (behind start v.log.acts) q.name ≡ b) where
    -- the store at which the group began
    module _ (start : Store) (told : BothTell (joined v)) (g : Began start v) where
      old_world : (z : TwoMaps) → AreLeft (joined v) z → IsOwned start Mem L z
      old_world z i = surely_owned start v z none (g.owners z i)

      some : (z : TwoMaps) × AreLeft (joined v) z
      some = some_maps (joined v) told

      plain : state_of (behind start v.log.acts) q.name ≡ b
      plain = stands start some.0 some.1 (old_world some.0 some.1)

      fresh : act (state_of (behind start v.log.acts) q.name) q ≡ Fresh t answer
      fresh = ap (λ x. act x q) plain ∙ a.acts

      opens : IsOpeningFor (behind start v.log.acts) v.log.opening A first
      opens = opening_for (behind start v.log.acts) v.log.opening A b first plain a.opening

    -- ---- it was made
    pub acted_made : (done : Unit {0}) → Puts (Ok done) → Promised (Ok done) → Keeps (with_req q) None v (B None (opened first v.log.opening) (v.log.acts ++ A ∷ []) (totals_after v.agent.totals old (Some New)))
    acted_made done puts promised =
        cache_keeps v h none s None (opened first v.log.opening) more.0 (v.log.acts ++ A ∷ []) (A ∷ []) flights flown Sums (with_req q)
        (cache_grows v h none s None (opened first v.log.opening) more.0 (v.log.acts ++ A ∷ []) (A ∷ []) flights flown Sums (with_req q) made.later promises began more.1 refl
        work (in_cache (inl (Cs, made.between)) refl))
        (cache_owes v h none s None (opened first v.log.opening) more.0 (v.log.acts ++ A ∷ []) (A ∷ []) flights flown Sums made.later
        (λ sh. act_keeps_shape A (calls_in v.calls.entries) v.log first sh may named) tt sound (sums_put v h none s q.name old (Some New) o done puts))
      where
        Sums : Totals
        Sums = totals_after v.agent.totals old (Some New)

        made : Made Cs v.stores.cache s
        made = puts.committed

        W : GroupView
        W = B None (opened first v.log.opening) (v.log.acts ++ A ∷ []) (totals_after v.agent.totals old (Some New))

        acts_are : map (λ (x : Act). x.req) (v.log.acts ++ A ∷ []) ≡ Mem.acts ++ q ∷ []
        acts_are = map-append (λ (x : Act). x.req) v.log.acts (A ∷ [])

        promises : Promises (with_req q) (joined v) (joined W)
        promises = promised (joined W) refl (ap {A = List Req} {B = View} (λ xs. record (joined W) { memory = record Rest { acts = xs } }) acts_are)

        fit : (start : Store) (z : TwoMaps) → IsOwned start (with_act q Rest) (with_call_act (act_in A) L) z → IsOwned start (joined W).memory (ledger_in W) z
        fit start z k = subst (λ xs. IsOwned start (record Rest { acts = xs }) (ledger_in W) z) (sym acts_are)
            (record {
              spells = k.spells;
              owners = knows_more _ (with_call_act (act_in A) L) (ledger_in W) (record { owned = refl; acts = map-append act_in v.log.acts (A ∷ []); asks = λ c x e. e; closed = λ c e. e }) k.owners;
            })

        began : (start : Store) → BothTell (joined v) → Began start v → Began start W
        began start told g = record {
          pools = promises.began start told g.pools;
          owners = λ z i.
              let from = cache_made_from Cs v s made z i.0 i.1 in
              fit start z (subst (IsOwned start (with_act q Rest) (with_call_act (act_in A) L)) (sym from.2) (put start from.0 from.1 (old_world start told g from.0 from.1)));
          history = history_acts start (calls_in v.calls.entries) v.log A first g.history may (t, fresh start told g) (opens start told g) named;
          next = tt;
        }

    -- ---- the disk failed
    pub acted_torn : Puts (Err Disk) → Promised (Err Disk) → Keeps (with_req q) None v (B (Some (Pending.Act Cache first A t.seq)) v.log.opening v.log.acts v.agent.totals)
    acted_torn puts promised =
        cache_keeps v h none s Doubted v.log.opening [] v.log.acts [] flights flown v.agent.totals (with_req q)
        (cache_grows v h none s Doubted v.log.opening [] v.log.acts [] flights flown v.agent.totals (with_req q) made.fails.closes.later promises began
        (sym (append-nil v.log.opening)) (sym (append-nil v.log.acts)) work (in_cache (inl (Cs, made.between)) refl))
        (cache_owes v h none s Doubted v.log.opening [] v.log.acts [] flights flown v.agent.totals made.fails.closes.later
        (λ sh. sh) (may, named) sound (sums_failed v h none s made.fails.closes.live Doubted v.agent))
      where
        Doubted : Option Pending
        Doubted = Some (Pending.Act Cache first A t.seq)

        made : MayBeMade Cs v.stores.cache s
        made = puts.committed

        W : GroupView
        W = B (Some (Pending.Act Cache first A t.seq)) v.log.opening v.log.acts v.agent.totals

        promises : Promises (with_req q) (joined v) (joined W)
        promises = promised (joined W) refl refl

        began : (start : Store) → BothTell (joined v) → Began start v → Began start W
        began start told g = record {
          pools = promises.began start told g.pools;
          owners = λ z i. elim (cache_torn_from Cs v s made z i.0 i.1) [
            | inl was ↦ inl (kept start z was (old_world start told g z was))
            | inr from ↦ inr (subst (IsOwnedWith start Rest L (Pending.Act Cache first A t.seq)) (sym from.2) (
              shown_by q.name o t moment from.0 puts.spelled,
              put start from.0 from.1 (old_world start told g from.0 from.1),
            ))
          ];
          history = g.history;
          next = ((t, fresh start told g, refl), opens start told g);
        }

-- ---- no map changed, and the work stays
pub acted_rests : (v : GroupView) (h : IsWhole v) (none : v.stores.pending ≡ None) (q : Req) (s : StoreView) → StoreStays v.stores.cache s → Promises (with_req q) (joined v) (joined (with_cache s None v))
    → Keeps (with_req q) None v (with_cache s None v)
acted_rests v h none q s stays promises =
    cache_keeps v h none s None v.log.opening [] v.log.acts [] v.traffic.flights v.calls.flown v.agent.totals (with_req q)
    (cache_grows v h none s None v.log.opening [] v.log.acts [] v.traffic.flights v.calls.flown v.agent.totals (with_req q) stays.later promises
    (λ start told g. record {
      pools = promises.began start told g.pools;
      owners = λ z i. surely_owned start v z none (g.owners z (rests_left v.stores.cache s stays.moments z.cache i.0, i.1));
      history = g.history;
      next = tt;
    })
    (sym (append-nil v.log.opening)) (sym (append-nil v.log.acts))
    (extends_same (Remains (length v.log.answers) (length v.log.answers)) (HaveCome v.calls.entries v.calls.entries (length v.log.answers) v.standing v.standing)
    (remains_itself (length v.log.answers) (length v.log.answers)) v.calls.flown (inl (refl, refl))) (no_commit stays.moments refl))
    (cache_owes v h none s None v.log.opening [] v.log.acts [] v.traffic.flights v.calls.flown v.agent.totals stays.later
    (λ sh. sh) tt h.flights (sums_rest v h none s stays.moments stays.live None))
