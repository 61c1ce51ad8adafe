-- A message reaches the base: each outcome but a failure of its disk.
use Rattle.std.proofs.Common.{◌≡◌, ◌≤◌, ◌<◌, ◌⊎◌, inl, inr, ℕ, ◌+◌, false, List, [], ◌∷◌, length, Option, None, Ok, Err, refl, sym, ap, subst, ◌∙◌, arith}
use Rattle.std.specs.Option.{option_map}
use Rattle.std.proofs.lemmas.List.{append-nil}
use Rattle.obj_model.specs.declared.change.Change.{Change}
use Rattle.obj_model.specs.declared.change.Pool.TheVariants.{Cache}
use Rattle.obj_model.specs.declared.req.Req.{Req}
use Rattle.obj_model.specs.declared.state.NameState.{NameState}
use Rattle.obj_ops.specs.Stores.{Store}
use Rattle.pool_keys.specs.Maps.{SpellsBase}
use Rattle.store_face.specs.Calls.{Committed, Fails, Stays as StoreStays}
use Rattle.store_face.specs.Tables.{changed_by}
use Rattle.store_face.specs.Views.{StoreView}
use Rattle.store_face.specs.declared.fault.StoreFault.TheVariants.{NoSpace}
use Rattle.tier_join.specs.Group.{Memory, TwoMaps, View, AreLeft, BothTell, tier_of}
use Rattle.tier_join.specs.Promises.{Promises, StandsFor, as_it_is}
use Rattle.tier_join.specs.Steps.{HasStateFor, IsOver, Outcome, Rests as ViewRests, act_of}
use Rattle.tier_join.proofs.BaseSteps.{answering_promises, fencing_promises, putting_promises}
use Rattle.tier_join.proofs.Left.{rests_left}
use Rattle.tier_join.proofs.MemoryMoves.{no_space_memory}
use Rattle.tier_join.proofs.Rests.{memory_promises}
use Rattle.tier_owners.specs.Calls.{is_write_message}
use Rattle.tier_owners.proofs.Quiets.{filling_quiet}
use Rattle.tier_protocol.specs.Moves.{acts_with, filled}
use Rattle.tier_protocol.specs.Tiers.{BaseMsg, BaseReply, IsIn}
use Rattle.tier_protocol.proofs.Delivers.{filling}
use Rattle.tier_protocol.proofs.Owners.{quiet_keeps}
use Rattle.tier_types.specs.Serving.{Served, epoch_in, name_in, opid_in, replies, served}
use Rattle.tier_view.specs.Delivers.{with_base}
use Rattle.tier_view.specs.Grows.{AreEntered, Grows, HaveCome, OneCommit, Remains, Stays, in_base, no_commit}
use Rattle.tier_view.specs.Laws.{Keeps}
use Rattle.tier_view.specs.Owed.{Owes}
use Rattle.tier_view.specs.Serves.{ActlessKeeps, AnsweringThereKeeps, LackingThereKeeps, LacksRoomThere, LeavingBaseKeeps, NeedsChange, OnlyAnswers, TakesThere, TakingThereKeeps, answered_there, puts, refused_there, rises, served_there, taken_there}
use Rattle.tier_view.specs.Stores.{Pending, doubt_in}
use Rattle.tier_view.specs.Tables.{IsUnanswered}
use Rattle.tier_view.specs.Traffic.{Replied, Sent}
use Rattle.tier_view.specs.Views.{GroupView, joined, ledger_in}
use Rattle.tier_view.specs.Whole.{IsElsewhere, IsWhole, SoundTraffic}
use Rattle.tier_view.specs.Worlds.{Began, HasOwners, IsNextAct, IsOwned, MayPend}
use Rattle.tier_view.proofs.Beginning.{surely_owned}
use Rattle.tier_view.proofs.Delivering.{below_next, made_from, on_wire}
use Rattle.tier_view.proofs.Keeping.{steps_keep}
use Rattle.tier_view.proofs.Resting.{all_of, extends_same, log_rests, remains_itself, stays_itself}
use Rattle.tier_view.proofs.ServingWorlds.{acts_none, acts_still, fence_is, name_epoch, needs_based, put_now, told_owned, unput}

-- ---- what a step makes of the plain store

pub promises_as : (f g : Store → Store) (v w : View) → ((x : Store) → f x ≡ g x) → Promises f v w → Promises g v w
promises_as f g v w same h = record {
  history = h.history;
  memory = h.memory;
  tell = h.tell;
  told = h.told;
  began = h.began;
  stops = λ start told b z i. elim (h.stops start told b z i) [ inl was ↦ inl was | inr other ↦ inr (subst (StandsFor z) (same _) other) ];
}

pub promises_any : (g : Store → Store) (v w : View) → Promises as_it_is v w → Promises g v w
promises_any g v w h = record {
  history = h.history;
  memory = h.memory;
  tell = h.tell;
  told = h.told;
  began = h.began;
  stops = λ start told b z i. elim (h.stops start told b z i) [ inl was ↦ inl was | inr other ↦ inl other ];
}

pub actless_keeps : ActlessKeeps
actless_keeps other v w h = (
  h.0,
  record {
    pools = promises_any other (joined v) (joined w) h.1.pools;
    began = h.1.began;
    log = h.1.log;
    one_answer = h.1.one_answer;
    calls = h.1.calls;
    flown = h.1.flown;
    commit = h.1.commit;
    epoch = h.1.epoch;
    cache_faults = h.1.cache_faults;
    base_faults = h.1.base_faults;
    share = h.1.share;
    values = h.1.values;
  },
)

act_plain : (msg : BaseMsg) → is_write_message msg ≡ false → (x : Store) → act_of msg x ≡ x
act_plain (BaseMsg.Fence e) h x = refl
act_plain (BaseMsg.GetChunk e op k at) h x = refl
act_plain (BaseMsg.Look e op k v) h x = refl
act_plain (BaseMsg.Write e op r) h x = absurd (cc)
act_plain (BaseMsg.Install e op k s) h x = refl

-- ---- the group behind it

module _ (v : GroupView) (h : IsWhole v) (none : v.stores.pending ≡ None) (s : StoreView) (later : v.stores.base.faults ≤ s.faults) where
  abbrev Mem : Memory
  Mem = (joined v).memory

  -- with this doubt, these replies and this epoch of the base
  abbrev G : Option Pending → List Replied → (next : ℕ) → (epoch : ℕ) → GroupView
  G p rs n e = record v {
    stores = record v.stores { base = s; pending = p };
    traffic = record v.traffic { replies = rs; next_reply = n };
    standing = record v.standing { base_epoch = e };
  }

  module _ (p : Option Pending) (rs : List Replied) (n e : ℕ) where
    pub base_grows : (other : Store → Store) → Promises other (joined v) (joined (G p rs n e)) → ((start : Store) → BothTell (joined v) → Began start v → Began start (G p rs n e))
        → OneCommit v.stores (G p rs n e).stores → Grows other None v (G p rs n e)
    base_grows other promises began commit = record {
      pools = promises;
      began = began;
      log = log_rests v.log;
      one_answer = tt;
      calls = extends_same Stays (AreEntered (v.calls.last + 1) v.standing.cache_epoch (length v.log.acts) v.calls.last None) stays_itself v.calls.entries refl;
      flown = extends_same (Remains (length v.log.answers) (length v.log.answers)) (HaveCome v.calls.entries v.calls.entries (length v.log.answers) v.standing (G p rs n e).standing)
          (remains_itself (length v.log.answers) (length v.log.answers)) v.calls.flown (inl (refl, refl));
      commit = commit;
      epoch = omega arith;
      cache_faults = omega arith;
      base_faults = later;
      share = refl;
      values = refl;
    }

    pub base_owes : MayPend v.calls.entries v.log p → SoundTraffic v.calls.entries (G p rs n e).traffic → Owes [] v (G p rs n e)
    base_owes pending sound = record {
      logs = sym (append-nil v.log.answers);
      shaped = λ sh. sh;
      pending = pending;
      over = all_of (λ x. x.ended ≡ false → IsUnanswered x.number []) (λ x _. tt) v.calls.entries;
      flights = h.flights;
      traffic = sound;
      causes = tt;
      cache_failed = omega arith;
      base_failed = omega (arith, later);
      stops = record { cache = h.stops.cache; base = h.stops.base };
      totals = λ k. h.totals (record { live = k.live; runs = k.runs; sure = subst (IsElsewhere Cache) (sym none) tt });
    }

    pub base_keeps : (other : Store → Store) → MayPend v.calls.entries v.log p → SoundTraffic v.calls.entries (G p rs n e).traffic → Promises other (joined v) (joined (G p rs n e))
        → ((start : Store) → BothTell (joined v) → Began start v → (z : TwoMaps) → AreLeft (joined (G p rs n e)) z → HasOwners start (G p rs n e) z)
        → ((start : Store) → BothTell (joined v) → Began start v → IsNextAct start v.log p) → OneCommit v.stores (G p rs n e).stores → Keeps other None v (G p rs n e)
    base_keeps other pending sound promises owners next commit =
        let g : Grows other None v (G p rs n e) = base_grows other promises
        (λ start told b. record { pools = promises.began start told b.pools; owners = owners start told b; history = b.history; next = next start told b }) commit in
        (steps_keep other None [] v (G p rs n e) h g (base_owes pending sound), g)

  pub no_doubt_was : (joined v).doubt ≡ None
  no_doubt_was = ap (option_map doubt_in) none

  -- the same traffic
  pub same_sound : SoundTraffic v.calls.entries v.traffic
  same_sound = h.traffic

  -- one reply more
  module _ (m : Sent) (on : IsIn m v.traffic.messages) (reply : BaseReply) where
    abbrev pub Rs : List Replied
    Rs = record { number = v.traffic.next_reply; answers = m.number; reply = reply } ∷ v.traffic.replies

    pub replied_sound : SoundTraffic v.calls.entries (record v.traffic { replies = Rs; next_reply = v.traffic.next_reply + 1 })
    replied_sound = record {
      messages = h.traffic.messages;
      replies = (omega arith, h.traffic.replies);
      answers = (below_next v.traffic.next_message v.traffic.messages m h.traffic.messages on, h.traffic.answers);
      owned = h.traffic.owned;
      begun = h.traffic.begun;
      awaited = h.traffic.awaited;
    }

  -- a world before it
  pub old_world : (start : Store) → Began start v → (z : TwoMaps) → AreLeft (joined v) z → IsOwned start Mem (ledger_in v) z
  old_world start b z i = surely_owned start v z none (b.owners z i)

  -- where no map changed
  pub was_left : s.moments ≡ v.stores.base.moments → (z : TwoMaps) → AreLeft (joined (with_base s None v)) z → AreLeft (joined v) z
  was_left same z i = (i.0, rests_left v.stores.base s same z.base i.1)

  pub rests_so : s.moments ≡ v.stores.base.moments → (w : View) → w.cache ≡ v.stores.cache → w.base ≡ s → w.doubt ≡ None → ViewRests (joined v) w
  rests_so same w cache base doubt = record { cache = ap (λ x. x.moments) cache; base = ap (λ x. x.moments) base ∙ same; doubt = doubt ∙ sym no_doubt_was }

-- ---- the base only answers

module _ (v : GroupView) (m : Sent) (b : NameState) (s : StoreView) (h : IsWhole v) (none : v.stores.pending ≡ None) (a : OnlyAnswers v m b s) where
  abbrev Out : Served
  Out = served_there v b m.message

  abbrev W : GroupView
  W = answered_there m b s v

  abbrev M0 : Memory
  M0 = (joined v).memory

  -- the memory behind it, at this epoch
  abbrev At : ℕ → Memory
  At e = record M0 { net = record M0.net { base_epoch = e; replies = Out.reply ∷ M0.net.replies } }

  quiet : acts_with m.message Out.put M0.acts ≡ M0.acts
  quiet = acts_none m.message Out.put a.none.put M0.acts

  answered_promises : Promises as_it_is (joined v) (joined W)
  answered_promises =
      answering_promises (joined v) (joined W) m.message b Out (ap (option_map doubt_in) none) (on_wire v.traffic.messages m a.on) a.reads refl a.none.put a.none.epoch
      (record { cache = refl; base = a.stays.moments; doubt = sym (ap (option_map doubt_in) none) })
      (ap At (sym a.none.epoch) ∙ ap {A = List Req} {B = Memory} (λ xs. record (At Out.epoch) { acts = xs }) (sym quiet))

  answered_owned : (start : Store) → Began start v → (z : TwoMaps) → AreLeft (joined W) z → IsOwned start (At v.standing.base_epoch) (ledger_in v) z
  answered_owned start g z i =
      let was : AreLeft (joined v) z = (i.0, rests_left v.stores.base s a.stays.moments z.base i.1) in
      let k = surely_owned start v z none (g.owners z was) in
      subst (λ e. IsOwned start (At e) (ledger_in v) z) a.none.epoch
      (told_owned v m b Out a.on a.reads refl quiet start z was k z.base
      (subst (λ x. SpellsBase z.base x Out.epoch) (sym (unput (name_in m.message) Out.put a.none.put k.spells.base))
      (subst (λ e. SpellsBase z.base k.spells.base e) (sym a.none.epoch) k.spells.based)))

  pub answered_keeps : Keeps as_it_is None v W
  answered_keeps =
      base_keeps v h none s a.stays.later None (Rs v h none s a.stays.later m a.on Out.reply) (v.traffic.next_reply + 1) v.standing.base_epoch as_it_is tt
      (replied_sound v h none s a.stays.later m a.on Out.reply) answered_promises (λ start told g z i. answered_owned start g z i) (λ start told g. tt)
      (no_commit refl a.stays.moments)

pub answering_there_keeps : AnsweringThereKeeps
answering_there_keeps v m b s h none a = answered_keeps v m b s h none a

-- ---- the base commits

module _ (v : GroupView) (m : Sent) (b : NameState) (cs : List Change) (s : StoreView) (h : IsWhole v) (none : v.stores.pending ≡ None) (a : TakesThere v m b cs s) where
  abbrev Gave : Served
  Gave = served_there v b m.message

  abbrev V : GroupView
  V = taken_there m b s v

  abbrev M1 : Memory
  M1 = (joined v).memory

  still : acts_with m.message Gave.put M1.acts ≡ M1.acts
  still = acts_still m.message Gave.put a.no_request M1.acts

  -- the pools behind it, with these acts
  abbrev Behind : List Req → View
  Behind xs = record (joined V) { memory = record (joined V).memory { acts = xs } }

  over : (used need limit : ℕ) → ◌≡◌ {A = Outcome} (Ok tt) (Err (NoSpace used need limit)) → limit < used + need
  over used need limit e = absurd (cc)

  took_promises : NeedsChange v m.message b cs → Promises as_it_is (joined v) (joined V)
  took_promises (puts k t bytes name put spelled named is) =
      promises_as (act_of m.message) as_it_is (joined v) (joined V) (act_plain m.message a.no_request)
      (putting_promises (joined v) (joined V) m.message k b t Gave bytes (Ok tt) (ap (option_map doubt_in) none) (on_wire v.traffic.messages m a.on) name
      (subst (λ n. HasStateFor (joined v) n b) name (a.reads (put_now v.standing.base_epoch b t m.message k name put))) refl put (name_epoch v.standing.base_epoch b m.message k name) named spelled over
      (record { committed = subst (λ c. Committed c v.stores.base s (Ok tt)) is a.made; same = ap Behind (sym still) }))
  took_promises (rises e bytes same up spelled is) =
      let gives : Gave ≡ replies e (BaseReply.Fenced e) = ap (served v.standing.base_epoch b) same ∙ fence_is v.standing.base_epoch e b up in
      fencing_promises (joined v) (joined V) e bytes (Ok tt) (ap (option_map doubt_in) none) (subst (λ x. IsIn x M1.net.wire) same (on_wire v.traffic.messages m a.on)) up spelled over
      (record {
        committed = subst (λ c. Committed c v.stores.base s (Ok tt)) is a.made;
        same = ap {A = Served} {B = View} (λ o. record (joined V) { memory = record M1 { net = record M1.net { base_epoch = o.epoch; replies = o.reply ∷ M1.net.replies } } }) gives;
      })

  took_owned : (start : Store) → Began start v → (z : TwoMaps) → AreLeft (joined V) z → IsOwned start (joined V).memory (ledger_in v) z
  took_owned start g z i =
      let from = made_from cs v s a.made z i.0 i.1 in
      let k = surely_owned start v from.0 none (g.owners from.0 from.1) in
      subst (IsOwned start (joined V).memory (ledger_in v)) (sym from.2)
      (told_owned v m b Gave a.on a.reads refl still start from.0 from.1 k (changed_by from.0.base cs) (needs_based v m.message b cs from.0.base k.spells.base a.needs k.spells.based))

  pub took_keeps : Keeps as_it_is None v V
  took_keeps =
      base_keeps v h none s a.made.later None (Rs v h none s a.made.later m a.on Gave.reply) (v.traffic.next_reply + 1) Gave.epoch as_it_is tt
      (replied_sound v h none s a.made.later m a.on Gave.reply) (took_promises a.needs) (λ start told g z i. took_owned start g z i) (λ start told g. tt)
      (in_base refl (inl (cs, a.made.between)))

pub taking_there_keeps : TakingThereKeeps
taking_there_keeps v m b cs s h none a = took_keeps v m b cs s h none a

-- ---- there is no room

module _ (v : GroupView) (m : Sent) (used need limit : ℕ) (s : StoreView) (h : IsWhole v) (none : v.stores.pending ≡ None) (a : LacksRoomThere v m used need limit s) where
  abbrev Full : BaseReply
  Full = BaseReply.NoSpace (epoch_in m.message) (opid_in m.message) used need limit

  abbrev X : GroupView
  X = refused_there m used need limit s v

  abbrev M2 : Memory
  M2 = (joined v).memory

  wired : IsIn m.message M2.net.wire
  wired = on_wire v.traffic.messages m a.on

  filled_owned : (start : Store) (z : TwoMaps) → IsOwned start M2 (ledger_in v) z → IsOwned start (joined X).memory (ledger_in v) z
  filled_owned start z k =
      let t = tier_of start M2 k.spells.recs k.spells.base in
      record {
        spells = record {
          recs = k.spells.recs;
          base = k.spells.base;
          cached = k.spells.cached;
          based = k.spells.based;
          sound = filling t m.message used need limit k.spells.sound (record { on = wired; over = a.over });
        };
        owners = quiet_keeps t (filled m.message used need limit t) (ledger_in v) k.owners (filling_quiet t m.message used need limit);
      }

  is_over : IsOver (Err (NoSpace used need limit))
  is_over x y z e =
      let first : used ≡ x = cc in
      let second : need ≡ y = cc in
      let third : limit ≡ z = cc in
      omega (arith, a.over, first, second, third)

  full_promises : Promises as_it_is (joined v) (joined X)
  full_promises =
      memory_promises (joined v) (joined X)
      (record {
        settled = ap (option_map doubt_in) none;
        moves = λ start z i k. record {
          recs = k.recs;
          base = k.base;
          cached = k.cached;
          based = k.based;
          sound = filling (tier_of start M2 k.recs k.base) m.message used need limit k.sound (record { on = wired; over = a.over });
        };
        acts = refl;
        memory = no_space_memory M2 m.message (Err (NoSpace used need limit)) (NoSpace used need limit) wired is_over refl;
      })
      (record { cache = refl; base = a.stays.moments; doubt = sym (ap (option_map doubt_in) none) })

  pub full_keeps : Keeps as_it_is None v X
  full_keeps =
      base_keeps v h none s a.stays.later None (Rs v h none s a.stays.later m a.on Full) (v.traffic.next_reply + 1) v.standing.base_epoch as_it_is tt
      (replied_sound v h none s a.stays.later m a.on Full) full_promises
      (λ start told g z i. let was : AreLeft (joined v) z = (i.0, rests_left v.stores.base s a.stays.moments z.base i.1) in filled_owned start z (surely_owned start v z none (g.owners z was)))
      (λ start told g. tt) (no_commit refl a.stays.moments)

pub lacking_there_keeps : LackingThereKeeps
lacking_there_keeps v m used need limit s h none a = full_keeps v m used need limit s h none a

-- ---- nothing comes of it

pub rises_on : (old new : StoreView) → StoreStays old new ⊎ Fails old new → old.faults ≤ new.faults
rises_on old new (inl stays) = stays.later
rises_on old new (inr fails) = fails.closes.later

pub leaving_base_keeps : LeavingBaseKeeps
leaving_base_keeps v s h none a =
    base_keeps v h none s (rises_on v.stores.base s a.later) None v.traffic.replies v.traffic.next_reply v.standing.base_epoch as_it_is tt h.traffic
    (memory_promises (joined v) (joined (with_base s None v))
    (record { settled = ap (option_map doubt_in) none; moves = λ start z i k. k; acts = refl; memory = λ k. k })
    (record { cache = refl; base = a.moments; doubt = sym (ap (option_map doubt_in) none) }))
    (λ start told g z i. surely_owned start v z none (g.owners z (i.0, rests_left v.stores.base s a.moments z.base i.1)))
    (λ start told g. tt) (no_commit refl a.moments)
