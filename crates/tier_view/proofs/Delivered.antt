-- A Write reaches the base and acts: the step, whole, for each outcome of its commit.
use Rattle.std.proofs.Common.{◌≡◌, ◌≤◌, inl, inr, ℕ, ◌+◌, false, List, [], ◌∷◌, ◌++◌, length, Option, Some, None, Ok, Err, refl, sym, ap, subst, ◌∙◌, arith}
use Rattle.std.specs.Option.{option_map}
use Rattle.std.proofs.lemmas.List.{append-nil, map-append}
use Rattle.obj_model.specs.declared.change.Change.{Change}
use Rattle.obj_model.specs.declared.change.Pool.TheVariants.{Base, Cache}
use Rattle.obj_model.specs.declared.reply.Reply.{Reply}
use Rattle.obj_model.specs.declared.req.Req.{Req}
use Rattle.obj_model.specs.declared.state.NameState.{NameState}
use Rattle.obj_ops.specs.Acts.{act}
use Rattle.obj_ops.specs.Stores.{Store, state_of}
use Rattle.obj_ops.specs.declared.request.Acted.TheVariants.{Fresh}
use Rattle.pool_keys.specs.Keys.{state_key}
use Rattle.pool_keys.specs.Left.{IsLeft}
use Rattle.store_face.specs.Calls.{Committed, Made, MayBeMade, Stays as StoreStays}
use Rattle.store_face.specs.Views.{StoreView}
use Rattle.store_face.specs.declared.fault.StoreFault.TheVariants.{Disk, BadImage, NoSpace, Worn, NoMemory}
use Rattle.tier_chron.specs.Laws.{IsNamedFor, IsOpeningFor}
use Rattle.tier_chron.specs.Logs.{opened}
use Rattle.tier_chron.specs.Places.{behind}
use Rattle.tier_chron.specs.Shapes.{IsShaped}
use Rattle.tier_chron.specs.declared.entries.Act.{Act}
use Rattle.tier_chron.specs.declared.entries.First.{First}
use Rattle.tier_chron.proofs.Staying.{act_keeps_shape}
use Rattle.tier_join.specs.Group.{Memory, TwoMaps, View, AreLeft, BothTell, tier_of}
use Rattle.tier_join.specs.Promises.{Promises, with_req}
use Rattle.tier_join.specs.Steps.{Outcome, after, behind as left_behind, doubt_of, no_space, sets}
use Rattle.tier_join.proofs.BaseSteps.{putting_promises}
use Rattle.tier_join.proofs.Commits.{some_maps}
use Rattle.tier_join.proofs.Left.{rests_left}
use Rattle.tier_owners.proofs.Quiets.{filling_quiet}
use Rattle.tier_protocol.specs.Moves.{filled, with_served}
use Rattle.tier_protocol.specs.Owners.{with_call_act}
use Rattle.tier_protocol.specs.Tiers.{BaseActed, BaseMsg, BaseReply}
use Rattle.tier_protocol.proofs.Delivers.{filling}
use Rattle.tier_protocol.proofs.Owners.{quiet_keeps}
use Rattle.tier_types.specs.Serving.{Served}
use Rattle.tier_view.specs.Delivers.{ActsThere, CommitsThere, acted_there, replied_now}
use Rattle.tier_view.specs.Grows.{AreEntered, Grows, HaveCome, OneCommit, Remains, Stays, in_base, no_commit}
use Rattle.tier_view.specs.Laws.{DeliveringActsKeeps, Keeps}
use Rattle.tier_view.specs.Owed.{Owes}
use Rattle.tier_view.specs.Stores.{Pending, doubt_in}
use Rattle.tier_view.specs.Tables.{IsUnanswered, SoundFlights}
use Rattle.tier_view.specs.Traffic.{Owner, Sent, Traffic}
use Rattle.tier_view.specs.Views.{GroupView, act_in, calls_in, joined, ledger_in}
use Rattle.tier_view.specs.Whole.{IsElsewhere, IsWhole, SoundTraffic}
use Rattle.tier_view.specs.Worlds.{Began, IsOwned, IsOwnedWith, MayPend}
use Rattle.tier_view.proofs.Beginning.{surely_owned}
use Rattle.tier_view.proofs.Delivering as deliver
use Rattle.tier_view.proofs.Keeping.{steps_keep}
use Rattle.tier_view.proofs.Owning.{knows_more}
use Rattle.tier_view.proofs.Resting.{all_of, extends_same, remains_itself, stays_itself}

module _ (v : GroupView) (m : Sent) (o : Owner) (op : ℕ) (r : Req) (b t : NameState) (answer : Reply) (first : Option First) (bytes : List ℕ) (s : StoreView)
    (h : IsWhole v) (none : v.stores.pending ≡ None) (acts : ActsThere v m o op r b t answer first) where
  abbrev E : ℕ
  E = v.standing.base_epoch

  abbrev M : BaseMsg
  M = BaseMsg.Write E op r

  abbrev A : Act
  A = record { call = o.call; line = o.line; req = r; reply = answer }

  abbrev Out : Served
  Out = record { epoch = E; put = Some t; reply = BaseReply.Wrote E op (BaseActed.Fresh answer) }

  abbrev Mem : Memory
  Mem = (joined v).memory

  abbrev Cs : List Change
  Cs = sets (state_key r.name) (Some bytes)

  -- whatever comes of it
  abbrev G : Option Pending → List First → List Act → Traffic → GroupView
  G p opening as_acts traffic = record v {
    stores = record v.stores { base = s; pending = p };
    log = record { opening = opening; acts = as_acts; answers = v.log.answers };
    traffic = traffic;
  }

  module _ (result : Outcome) (commits : CommitsThere v r t bytes s result) where
    promised : (w : View) → w.base ≡ s → w ≡ left_behind Base (after (with_served M Out) Mem) (no_space M Mem) (doubt_of M t.seq) result (joined v) w → Promises (with_req r) (joined v) w
    promised w at same =
        putting_promises (joined v) w M r.name b t Out bytes result (ap (option_map doubt_in) none) (deliver.on v m o op r b t answer first acts) refl acts.has
        (deliver.is v m o op r b t answer first acts) refl refl acts.named commits.spelled commits.over
        (record { committed = subst (λ x. Committed Cs v.stores.base x result) (sym at) commits.committed; same = same })

  module _ (p : Option Pending) (opening more : List First) (as_acts behind_acts : List Act) (traffic : Traffic) where
    abbrev W : GroupView
    W = G p opening as_acts traffic

    grows_by : Promises (with_req r) (joined v) (joined W) → ((start : Store) → BothTell (joined v) → Began start v → Began start W)
        → opening ≡ v.log.opening ++ more → as_acts ≡ v.log.acts ++ behind_acts → OneCommit v.stores W.stores → v.stores.base.faults ≤ s.faults
        → Grows (with_req r) None v W
    grows_by promises began is_opening is_acts commit later = record {
      pools = promises;
      began = began;
      log = record { opening = more; acts = behind_acts; answers = []; is_opening = is_opening; is_acts = is_acts; is_answers = sym (append-nil v.log.answers); ends = tt };
      one_answer = tt;
      calls = extends_same Stays (AreEntered (v.calls.last + 1) v.standing.cache_epoch (length v.log.acts) v.calls.last None) stays_itself v.calls.entries refl;
      flown = extends_same (Remains (length v.log.answers) (length v.log.answers)) (HaveCome v.calls.entries v.calls.entries (length v.log.answers) v.standing v.standing)
          (remains_itself (length v.log.answers) (length v.log.answers)) v.calls.flown (inl (refl, refl));
      commit = commit;
      epoch = omega arith;
      cache_faults = omega arith;
      base_faults = later;
      share = refl;
      values = refl;
    }

    owes_by : (IsShaped (calls_in v.calls.entries) v.log → IsShaped (calls_in v.calls.entries) W.log) → MayPend v.calls.entries W.log p
        → SoundFlights v.calls.entries v.calls.flown traffic.flights traffic.begun v.standing.cache_epoch (length v.log.answers) → SoundTraffic v.calls.entries traffic
        → v.stores.base.faults ≤ s.faults → Owes [] v W
    owes_by shaped pending flights sound later = record {
      logs = sym (append-nil v.log.answers);
      shaped = shaped;
      pending = pending;
      over = all_of (λ e. e.ended ≡ false → IsUnanswered e.number []) (λ e _. tt) v.calls.entries;
      flights = flights;
      traffic = sound;
      causes = tt;
      cache_failed = omega arith;
      base_failed = omega (arith, later);
      stops = record { cache = h.stops.cache; base = h.stops.base };
      totals = λ k. h.totals (record { live = k.live; runs = k.runs; sure = subst (IsElsewhere Cache) (sym none) tt });
    }

    keeps_by : Grows (with_req r) None v W → Owes [] v W → Keeps (with_req r) None v W
    keeps_by g owed = (steps_keep (with_req r) None [] v W h g owed, g)

  replied_sound : (reply : BaseReply) → SoundTraffic v.calls.entries (replied_now m.number reply v.traffic)
  replied_sound reply = record {
    messages = h.traffic.messages;
    replies = (omega arith, h.traffic.replies);
    answers = (deliver.below_next v.traffic.next_message v.traffic.messages m h.traffic.messages acts.on, h.traffic.answers);
    owned = h.traffic.owned;
    begun = h.traffic.begun;
    awaited = h.traffic.awaited;
  }

  named : IsNamedFor v.log.opening A first
  named = deliver.named_there v A first acts.opening

  more : (xs : List First) × (opened first v.log.opening ≡ v.log.opening ++ xs)
  more = deliver.opened_more v.log.opening A first named

  -- the store at which the group began: what the act does there
  module _ (start : Store) (told : BothTell (joined v)) (g : Began start v) where
    some : (z : TwoMaps) × AreLeft (joined v) z
    some = some_maps (joined v) told

    old_world : (z : TwoMaps) → AreLeft (joined v) z → IsOwned start Mem (ledger_in v) z
    old_world z i = surely_owned start v z none (g.owners z i)

    plain : state_of (behind start v.log.acts) r.name ≡ b
    plain = deliver.plain_here v m o op r b t answer first acts start some.0 some.1 (old_world some.0 some.1)

    fresh : act (state_of (behind start v.log.acts) r.name) r ≡ Fresh t answer
    fresh = ap (λ x. act x r) plain ∙ acts.acts

    opens : IsOpeningFor (behind start v.log.acts) v.log.opening A first
    opens = deliver.opening_for (behind start v.log.acts) v.log.opening A b first plain
        (deliver.first_here v m o op r b t answer first acts start some.0 some.1 (old_world some.0 some.1))

  -- ---- it was made
  made_keeps : (done : Unit {0}) → CommitsThere v r t bytes s (Ok done) → Keeps (with_req r) None v (acted_there m.number op first A t.seq s (Ok done) v)
  made_keeps done commits =
      keeps_by None (opened first v.log.opening) more.0 (v.log.acts ++ A ∷ []) (A ∷ []) (replied_now m.number Out.reply v.traffic)
      (grows_by None (opened first v.log.opening) more.0 (v.log.acts ++ A ∷ []) (A ∷ []) (replied_now m.number Out.reply v.traffic) promises began more.1 refl
      (in_base refl (inl (Cs, made.between))) made.later)
      (owes_by None (opened first v.log.opening) more.0 (v.log.acts ++ A ∷ []) (A ∷ []) (replied_now m.number Out.reply v.traffic)
      (λ sh. act_keeps_shape A (calls_in v.calls.entries) v.log first sh acts.may named) tt h.flights (replied_sound Out.reply) made.later)
    where
      made : Made Cs v.stores.base s
      made = commits.committed

      promises : Promises (with_req r) (joined v) (joined (acted_there m.number op first A t.seq s (Ok done) v))
      promises = promised (Ok done) commits (joined (acted_there m.number op first A t.seq s (Ok done) v)) refl
          (ap {A = List Req} {B = View} (λ xs. record (joined (acted_there m.number op first A t.seq s (Ok done) v)) { memory = record (after (with_served M Out) Mem) { acts = xs } })
          (map-append (λ (a : Act). a.req) v.log.acts (A ∷ [])))

      fit : (start : Store) (z : TwoMaps) → IsOwned start (after (with_served M Out) Mem) (with_call_act (act_in A) (ledger_in v)) z
          → IsOwned start (joined (acted_there m.number op first A t.seq s (Ok done) v)).memory (ledger_in (acted_there m.number op first A t.seq s (Ok done) v)) z
      fit start z k =
          subst (λ xs. IsOwned start (record (after (with_served M Out) Mem) { acts = xs }) (ledger_in (acted_there m.number op first A t.seq s (Ok done) v)) z)
          (sym (map-append (λ (a : Act). a.req) v.log.acts (A ∷ [])))
          (record {
            spells = k.spells;
            owners = knows_more _ (with_call_act (act_in A) (ledger_in v)) (ledger_in (acted_there m.number op first A t.seq s (Ok done) v))
                (record { owned = refl; acts = map-append act_in v.log.acts (A ∷ []); asks = λ c a e. e; closed = λ c e. e }) k.owners;
          })

      began : (start : Store) → BothTell (joined v) → Began start v → Began start (acted_there m.number op first A t.seq s (Ok done) v)
      began start told g = record {
        pools = promises.began start told g.pools;
        owners = λ z i.
            let from = deliver.made_from Cs v s made z i.0 i.1 in
            fit start z (subst (IsOwned start (after (with_served M Out) Mem) (with_call_act (act_in A) (ledger_in v))) (sym from.2)
            (deliver.made_owned v m o op r b t answer first acts bytes s (Ok done) commits start from.0 from.1 (old_world start told g from.0 from.1)));
        history = deliver.history_acts start (calls_in v.calls.entries) v.log A first g.history acts.may (t, fresh start told g)
            (opens start told g) named;
        next = tt;
      }

  -- ---- the disk failed: it may be there or not
  torn_keeps : CommitsThere v r t bytes s (Err Disk) → Keeps (with_req r) None v (acted_there m.number op first A t.seq s (Err Disk) v)
  torn_keeps commits =
      keeps_by Doubted v.log.opening [] v.log.acts [] v.traffic
      (grows_by Doubted v.log.opening [] v.log.acts [] v.traffic promises began (sym (append-nil v.log.opening)) (sym (append-nil v.log.acts))
      (in_base refl (inl (Cs, made.between))) made.fails.closes.later)
      (owes_by Doubted v.log.opening [] v.log.acts [] v.traffic (λ sh. sh) (acts.may, named) h.flights h.traffic made.fails.closes.later)
    where
      Doubted : Option Pending
      Doubted = Some (Pending.Act Base first A t.seq)

      made : MayBeMade Cs v.stores.base s
      made = commits.committed

      promises : Promises (with_req r) (joined v) (joined (acted_there m.number op first A t.seq s (Err Disk) v))
      promises = promised (Err Disk) commits (joined (acted_there m.number op first A t.seq s (Err Disk) v)) refl refl

      began : (start : Store) → BothTell (joined v) → Began start v → Began start (acted_there m.number op first A t.seq s (Err Disk) v)
      began start told g = record {
        pools = promises.began start told g.pools;
        owners = λ z i. elim (deliver.torn_from Cs v s made z i.0 i.1) [
          | inl was ↦ inl (old_world start told g z was)
          | inr from ↦ inr (subst (IsOwnedWith start Mem (ledger_in v) (Pending.Act Base first A t.seq)) (sym from.2) (
            deliver.shown v m o op r b t answer first acts bytes s (Err Disk) commits start from.0 from.1 (old_world start told g from.0 from.1),
            deliver.torn_owned v m o op r b t answer first acts bytes s (Err Disk) commits start from.0 from.1 (old_world start told g from.0 from.1),
          ))
        ];
        history = g.history;
        next = ((t, fresh start told g, refl), opens start told g);
      }

  -- ---- no map changed
  module _ (stays : StoreStays v.stores.base s) where
    was_left : (z : TwoMaps) → IsLeft v.stores.cache z.cache × IsLeft s z.base → AreLeft (joined v) z
    was_left z i = (i.0, rests_left v.stores.base s stays.moments z.base i.1)

    rests_keep : (result : Outcome) → CommitsThere v r t bytes s result → Promises (with_req r) (joined v) (joined (G None v.log.opening v.log.acts v.traffic))
        → Keeps (with_req r) None v (G None v.log.opening v.log.acts v.traffic)
    rests_keep result commits promises =
        keeps_by None v.log.opening [] v.log.acts [] v.traffic
        (grows_by None v.log.opening [] v.log.acts [] v.traffic promises began (sym (append-nil v.log.opening)) (sym (append-nil v.log.acts)) (no_commit refl stays.moments) stays.later)
        (owes_by None v.log.opening [] v.log.acts [] v.traffic (λ sh. sh) tt h.flights h.traffic stays.later)
      where
        began : (start : Store) → BothTell (joined v) → Began start v → Began start (G None v.log.opening v.log.acts v.traffic)
        began start told g = record {
          pools = promises.began start told g.pools;
          owners = λ z i. old_world start told g z (was_left z i);
          history = g.history;
          next = tt;
        }

  -- ---- there was no room, and the base says so
  full_keeps : (used need limit : ℕ) → CommitsThere v r t bytes s (Err (NoSpace used need limit)) → Keeps (with_req r) None v (acted_there m.number op first A t.seq s (Err (NoSpace used need limit)) v)
  full_keeps used need limit commits =
      keeps_by None v.log.opening [] v.log.acts [] Now
      (grows_by None v.log.opening [] v.log.acts [] Now promises began (sym (append-nil v.log.opening)) (sym (append-nil v.log.acts)) (no_commit refl stays.moments) stays.later)
      (owes_by None v.log.opening [] v.log.acts [] Now (λ sh. sh) tt h.flights (replied_sound Full) stays.later)
    where
      Full : BaseReply
      Full = BaseReply.NoSpace v.standing.base_epoch op used need limit

      Now : Traffic
      Now = replied_now m.number (BaseReply.NoSpace v.standing.base_epoch op used need limit) v.traffic

      stays : StoreStays v.stores.base s
      stays = commits.committed.1

      promises : Promises (with_req r) (joined v) (joined (acted_there m.number op first A t.seq s (Err (NoSpace used need limit)) v))
      promises = promised (Err (NoSpace used need limit)) commits (joined (acted_there m.number op first A t.seq s (Err (NoSpace used need limit)) v)) refl refl

      filled_owned : (start : Store) (z : TwoMaps) → IsOwned start Mem (ledger_in v) z → IsOwned start (after (filled M used need limit) Mem) (ledger_in v) z
      filled_owned start z k =
          let sound = filling (tier_of start Mem k.spells.recs k.spells.base) M used need limit k.spells.sound (record { on = deliver.on v m o op r b t answer first acts; over = commits.over used need limit refl }) in
          record {
            spells = record { recs = k.spells.recs; base = k.spells.base; cached = k.spells.cached; based = k.spells.based; sound = sound };
            owners = quiet_keeps (tier_of start Mem k.spells.recs k.spells.base) (filled M used need limit (tier_of start Mem k.spells.recs k.spells.base)) (ledger_in v) k.owners
                (filling_quiet (tier_of start Mem k.spells.recs k.spells.base) M used need limit);
          }

      began : (start : Store) → BothTell (joined v) → Began start v → Began start (acted_there m.number op first A t.seq s (Err (NoSpace used need limit)) v)
      began start told g = record {
        pools = promises.began start told g.pools;
        owners = λ z i. filled_owned start z (old_world start told g z (was_left stays z i));
        history = g.history;
        next = tt;
      }

  -- ---- each outcome
  by_result : (result : Outcome) → CommitsThere v r t bytes s result → Keeps (with_req r) None v (acted_there m.number op first A t.seq s result v)
  by_result (Ok done) commits = made_keeps done commits
  by_result (Err Disk) commits = torn_keeps commits
  by_result (Err (BadImage at)) commits = absurd commits.committed
  by_result (Err (NoSpace used need limit)) commits = full_keeps used need limit commits
  by_result (Err (Worn limit)) commits =
      rests_keep commits.committed.3 (Err (Worn limit)) commits (promised (Err (Worn limit)) commits (joined (acted_there m.number op first A t.seq s (Err (Worn limit)) v)) refl refl)
  by_result (Err NoMemory) commits =
      rests_keep commits.committed (Err NoMemory) commits (promised (Err NoMemory) commits (joined (acted_there m.number op first A t.seq s (Err NoMemory) v)) refl refl)

pub delivering_acts_keeps : DeliveringActsKeeps
delivering_acts_keeps v m o op r b t answer first bytes s result h none acts commits = by_result v m o op r b t answer first bytes s h none acts result commits
