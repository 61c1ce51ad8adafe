-- A base that serves a message behind a reading, or does not come to serve it.
use Rattle.std.proofs.Common.{◌≡◌, inl, inr, ℕ, Bool, true, List, [], ◌∷◌, Some, None, Result, Ok, Err, refl, sym, ap, subst, ◌∙◌}
use Rattle.std.proofs.lemmas.Bool.{eq-eqb}
use Rattle.base_pool.specs.Opens.{ReadsState}
use Rattle.base_pool.specs.Serves.{Answers, Commits, FailsBase, Faults, HasFor, IsDamaged, IsOn, IsUnreadable, Makes, Replies, Serves, StaysBase, changes_by, is_taken}
use Rattle.base_pool.specs.Views.{BaseView}
use Rattle.base_pool.specs.declared.fault.BaseFault.{BaseFault}
use Rattle.base_pool.specs.declared.fault.BaseFault.TheVariants.{Store, BadRecord}
use Rattle.base_pool.proofs.Later.{as_before, lacks_later, made_later, may_be_later}
use Rattle.obj_model.specs.declared.change.Change.{Change}
use Rattle.obj_model.specs.declared.req.Req.{Req}
use Rattle.obj_model.specs.declared.state.NameState.{NameState}
use Rattle.store_face.proofs.Later.{fails_later, holds_back, stays_twice}
use Rattle.store_face.specs.Calls.{Stays}
use Rattle.store_face.specs.Rooms.{IsWornOut}
use Rattle.store_face.specs.Views.{Holds, StoreView}
use Rattle.store_face.specs.declared.fault.StoreFault.{StoreFault}
use Rattle.store_face.specs.declared.fault.StoreFault.TheVariants as store
use Rattle.tier_types.specs.declared.message.BaseMsg.{BaseMsg}
use Rattle.tier_types.specs.declared.message.BaseReply.{BaseReply}

-- ---- behind a reading that changed nothing but the count of faults

module _ (msg : BaseMsg) (a b : StoreView) (e : ℕ) (o : Bool) (new : BaseView) (h : Stays a b) where
  -- the base before, and behind the reading
  abbrev A : BaseView
  A = record { store = a; epoch = e; opened = o }

  abbrev B : BaseView
  B = record { store = b; epoch = e; opened = o }

  on_back : (s : NameState) → IsOn msg B s → IsOn msg A s
  on_back s on = record { lawful = on.lawful; read = λ taken. holds_back a b (HasFor msg s) h (on.read taken) }

  makes_back : (cs : List Change) → Makes cs b new.store → Makes cs a new.store
  makes_back [] m = stays_twice a b new.store h m
  makes_back (c ∷ cs) m = made_later a b new.store (c ∷ cs) h m

  stays_back : StaysBase B new → StaysBase A new
  stays_back s = record { store = stays_twice a b new.store h s.store; epoch = s.epoch; opened = s.opened }

  fails_back : FailsBase B new → FailsBase A new
  fails_back f = record { fails = fails_later a b new.store h f.fails; epoch = f.epoch; opened = f.opened }

  answers_back : (reply : BaseReply) → Answers msg B new reply → Answers msg A new reply
  answers_back reply x = record {
    state = x.state;
    on = on_back x.state x.on;
    told = x.told;
    epoch = x.epoch;
    low = x.low;
    spelled = x.spelled;
    makes = makes_back (changes_by e x.state msg) x.makes;
    opened = x.opened;
  }

  commits_back : (s : NameState) → Commits msg B s → Commits msg A s
  commits_back s c = record { taken = c.taken; on = on_back s c.on; low = c.low; spelled = c.spelled; some = c.some }

  replies_back : (reply : BaseReply) → Replies msg B new reply → Replies msg A new reply
  replies_back (BaseReply.Fenced i) x = answers_back (BaseReply.Fenced i) x
  replies_back (BaseReply.Chunk i op chunk) x = answers_back (BaseReply.Chunk i op chunk) x
  replies_back (BaseReply.Looked i op looked) x = answers_back (BaseReply.Looked i op looked) x
  replies_back (BaseReply.Wrote i op acted) x = answers_back (BaseReply.Wrote i op acted) x
  replies_back (BaseReply.Installed i op seq) x = answers_back (BaseReply.Installed i op seq) x
  replies_back (BaseReply.NoSpace i op used need limit) x = record {
    state = x.state;
    commits = commits_back x.state x.commits;
    lacks = lacks_later a b (changes_by e x.state msg) (Some (record { used = used; need = need; limit = limit })) h x.lacks;
    epoch_is = x.epoch_is;
    opid_is = x.opid_is;
    stays = stays_back x.stays;
  }
  replies_back (BaseReply.OldEpoch have got) x = answers_back (BaseReply.OldEpoch have got) x
  replies_back (BaseReply.NotFenced have got) x = answers_back (BaseReply.NotFenced have got) x

  faults_back : (fault : StoreFault) → Faults msg B new fault → Faults msg A new fault
  faults_back store.Disk (inl x) = inl (record { taken = x.taken; named = x.named; same = x.same ∙ h.moments; fails = fails_back x.fails })
  faults_back store.Disk (inr x) = inr (record {
    state = x.state;
    commits = commits_back x.state x.commits;
    made = may_be_later a b new.store (changes_by e x.state msg) h x.made;
    fails = fails_back x.fails;
  })
  faults_back (store.BadImage at) x = absurd x
  faults_back (store.NoSpace used need limit) x = absurd x
  faults_back (store.Worn limit) (inl x) = inl (record { taken = x.taken; fence = x.fence; high = x.high; limit_is = x.limit_is; stays = stays_back x.stays })
  faults_back (store.Worn limit) (inr x) = inr (record {
    state = x.state;
    commits = commits_back x.state x.commits;
    fits = lacks_later a b (changes_by e x.state msg) None h x.fits;
    worn = as_before (λ (s : StoreView). IsWornOut s.room s.used) a b h x.worn;
    limit_is = x.limit_is;
    stays = stays_back x.stays;
  })
  faults_back store.NoMemory x = record { taken = x.taken; stays = stays_back x.stays }

  damaged_back : (name : List ℕ) → IsDamaged msg B new name → IsDamaged msg A new name
  damaged_back name x = record {
    taken = x.taken;
    named = x.named;
    unreadable = holds_back a b (IsUnreadable name) h x.unreadable;
    stays = stays_back x.stays;
  }

  same_back : (answer : Result BaseReply BaseFault) → Serves msg B new answer → Serves msg A new answer
  same_back (Ok reply) x = replies_back reply x
  same_back (Err (Store fault)) x = faults_back fault x
  same_back (Err (BadRecord name)) x = damaged_back name x

pub serves_back : (msg : BaseMsg) (old between new : BaseView) (answer : Result BaseReply BaseFault) → StaysBase old between → Serves msg between new answer → Serves msg old new answer
serves_back msg old between new answer stays served =
    same_back msg old.store between.store old.epoch old.opened new stays.store answer
    (subst (λ (x : Bool). Serves msg (record { store = between.store; epoch = old.epoch; opened = x }) new answer) stays.opened
    (subst (λ (x : ℕ). Serves msg (record { store = between.store; epoch = x; opened = between.opened }) new answer) stays.epoch served))

-- ---- a base that was open is open still

pub still_opened : (msg : BaseMsg) (old new : BaseView) (answer : Result BaseReply BaseFault) → Serves msg old new answer → new.opened ≡ old.opened
still_opened msg old new (Ok (BaseReply.Fenced i)) x = x.opened
still_opened msg old new (Ok (BaseReply.Chunk i op chunk)) x = x.opened
still_opened msg old new (Ok (BaseReply.Looked i op looked)) x = x.opened
still_opened msg old new (Ok (BaseReply.Wrote i op acted)) x = x.opened
still_opened msg old new (Ok (BaseReply.Installed i op seq)) x = x.opened
still_opened msg old new (Ok (BaseReply.NoSpace i op used need limit)) x = x.stays.opened
still_opened msg old new (Ok (BaseReply.OldEpoch have got)) x = x.opened
still_opened msg old new (Ok (BaseReply.NotFenced have got)) x = x.opened
still_opened msg old new (Err (Store store.Disk)) (inl x) = x.fails.opened
still_opened msg old new (Err (Store store.Disk)) (inr x) = x.fails.opened
still_opened msg old new (Err (Store (store.BadImage at))) x = absurd x
still_opened msg old new (Err (Store (store.NoSpace used need limit))) x = absurd x
still_opened msg old new (Err (Store (store.Worn limit))) (inl x) = x.stays.opened
still_opened msg old new (Err (Store (store.Worn limit))) (inr x) = x.stays.opened
still_opened msg old new (Err (Store store.NoMemory)) x = x.stays.opened
still_opened msg old new (Err (BadRecord name)) x = x.stays.opened

-- a base that failed is at its epoch still
pub epoch_stays : (msg : BaseMsg) (old new : BaseView) (fault : BaseFault) → Serves msg old new (Err fault) → new.epoch ≡ old.epoch
epoch_stays msg old new (Store store.Disk) (inl x) = x.fails.epoch
epoch_stays msg old new (Store store.Disk) (inr x) = x.fails.epoch
epoch_stays msg old new (Store (store.BadImage at)) x = absurd x
epoch_stays msg old new (Store (store.NoSpace used need limit)) x = absurd x
epoch_stays msg old new (Store (store.Worn limit)) (inl x) = x.stays.epoch
epoch_stays msg old new (Store (store.Worn limit)) (inr x) = x.stays.epoch
epoch_stays msg old new (Store store.NoMemory) x = x.stays.epoch
epoch_stays msg old new (BadRecord name) x = x.stays.epoch

-- ---- a Write that is not served, since the state of its name was not read

module _ (op : ℕ) (r : Req) (old new : BaseView) where
  abbrev W : BaseMsg
  W = BaseMsg.Write old.epoch op r

  taken : is_taken old.epoch W ≡ true
  taken = eq-eqb old.epoch old.epoch refl

  pub unread_serves : (fault : BaseFault) → ReadsState r.name old new (Err fault) → Serves W old new (Err fault)
  unread_serves (Store store.Disk) x =
      inl (record { taken = taken; named = refl; same = x.0.1; fails = record { fails = x.0.0; epoch = x.1; opened = x.2 } })
  unread_serves (Store (store.BadImage at)) x = absurd x.0
  unread_serves (Store (store.NoSpace used need limit)) x = absurd x.0
  unread_serves (Store (store.Worn limit)) x = absurd x.0
  unread_serves (Store store.NoMemory) x = record { taken = taken; stays = record { store = x.0; epoch = x.1; opened = x.2 } }
  unread_serves (BadRecord other) x = record {
    taken = taken;
    named = ap {A = List ℕ} Some (sym x.0);
    unreadable = subst (λ (k : List ℕ). Holds old.store (IsUnreadable k)) (sym x.0) x.1;
    stays = x.2;
  }
