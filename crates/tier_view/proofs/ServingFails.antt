-- The base's disk fails over a message.
use Rattle.std.proofs.Common.{◌≡◌, ◌≤◌, ◌<◌, ◌⊎◌, inl, inr, ℕ, ◌+◌, true, false, List, Option, Some, None, Err, refl, sym, ap, subst, ◌∙◌, arith}
use Rattle.std.specs.FinMap as fin
use Rattle.std.specs.Option.{option_map}
use Rattle.obj_model.specs.declared.change.Change.{Change}
use Rattle.obj_model.specs.declared.change.Pool.TheVariants.{Base}
use Rattle.obj_model.specs.declared.reply.Reply.{Reply}
use Rattle.obj_model.specs.declared.req.Req.{Req}
use Rattle.obj_model.specs.declared.state.NameState.{NameState}
use Rattle.obj_ops.specs.Acts.{act}
use Rattle.obj_ops.specs.Stores.{Store, replay}
use Rattle.pool_keys.specs.Keys.{state_key}
use Rattle.pool_keys.specs.Left.{AreTold, Tells}
use Rattle.pool_keys.specs.Values.{SpellsEpoch}
use Rattle.pool_keys.proofs.Bases.{state_one}
use Rattle.rec_codec.specs.Spelling.{SpellsState}
use Rattle.store_face.specs.Calls.{Between, Committed, MayBeMade}
use Rattle.store_face.specs.Tables.{changed_by}
use Rattle.store_face.specs.Views.{CrashMaps, StoreView}
use Rattle.store_face.specs.declared.fault.StoreFault.TheVariants.{Disk, NoSpace}
use Rattle.tier_chron.specs.declared.entries.Act.{Act}
use Rattle.tier_chron.specs.declared.entries.First.{First}
use Rattle.tier_chron.specs.Places.{behind}
use Rattle.tier_join.specs.declared.doubt.Doubt.{Doubt}
use Rattle.tier_join.specs.Group.{ActIsNext, EpochIsNext, Memory, Spells, TwoMaps, View, AreLeft, BothTell, changed_in, tier_of}
use Rattle.tier_join.specs.Promises.{Promises, as_it_is}
use Rattle.tier_join.specs.Steps.{HasState, HasStateFor, Outcome, act_of, doubt_of, sets}
use Rattle.tier_join.proofs.BaseSteps.{fencing_promises, putting_promises, state_is}
use Rattle.tier_join.proofs.Commits.{stands, surely}
use Rattle.tier_join.proofs.Left.{rests_left, rests_since, some_left, tells_on}
use Rattle.tier_owners.specs.Calls.{is_write_message}
use Rattle.tier_protocol.proofs.Delivers.{acts_on_plain}
use Rattle.tier_protocol.specs.Tiers.{BaseMsg, BaseReply, IsIn, Name}
use Rattle.tier_types.specs.Serving.{Served, in_epoch, name_in, replies, served}
use Rattle.tier_view.specs.Delivers.{ActsThere, with_base}
use Rattle.tier_view.specs.Grows.{OneCommit, in_base, no_commit}
use Rattle.tier_view.specs.Laws.{Keeps}
use Rattle.tier_view.specs.Serves.{FailingThereKeeps, FailsThere, IsInDoubt, NeedsChange, NeedsNone, ReadsThere, Tears, act_doubt, is_reading, no_doubt, put_doubt, puts, reading_doubt, rise_doubt, rises, served_there, stray_doubt}
use Rattle.tier_view.specs.Stores.{Pending, doubt_in}
use Rattle.tier_view.specs.Traffic.{Owner, Sent}
use Rattle.tier_view.specs.Views.{GroupView, joined, ledger_in}
use Rattle.tier_view.specs.Whole.{IsWhole}
use Rattle.tier_view.specs.Worlds.{Began, HasOwners, IsNextAct, IsOwned, IsOwnedBy, MayPend}
use Rattle.tier_view.proofs.Beginning.{surely_owned}
use Rattle.tier_view.proofs.Delivered.{delivering_acts_keeps}
use Rattle.tier_view.proofs.Delivering as deliver
use Rattle.tier_view.proofs.Serving.{base_keeps, promises_any}
use Rattle.tier_view.proofs.ServingOwners.{owners_may_act}
use Rattle.tier_view.proofs.ServingWorlds.{acts_still, fence_is, in_each, name_epoch, needs_based, on_net, put_now, torn_owned}

-- ---- what the doubt says

-- either world, where it is the one without the doubt
pub without_doubt : (start : Store) (v : GroupView) (p : Option Pending) (z : TwoMaps) → IsOwned start (joined v).memory (ledger_in v) z → IsOwnedBy start (joined v).memory (ledger_in v) p z
without_doubt start v None z k = k
without_doubt start v (Some p) z k = inl k

-- what it has to be, of memory and of the plain store
pub record IsNextDoubt (v : GroupView) (p : Option Pending) : Type 0 where
  pub pends : MayPend v.calls.entries v.log p
  pub epochs : EpochIsNext (joined v).memory.net (option_map doubt_in p)
  pub acts : (start : Store) (z : TwoMaps) → AreLeft (joined v) z → Spells start (joined v).memory z → ActIsNext (replay start (joined v).memory.acts) (option_map doubt_in p)
  pub next : (start : Store) (z : TwoMaps) → AreLeft (joined v) z → IsOwned start (joined v).memory (ledger_in v) z → IsNextAct start v.log p

pub next_as : (v : GroupView) (p q : Option Pending) → p ≡ q → IsNextDoubt v q → IsNextDoubt v p
next_as v p q same h = subst (IsNextDoubt v) (sym same) h

act_next : (v : GroupView) (m : Sent) (o : Owner) (op : ℕ) (r : Req) (b t : NameState) (answer : Reply) (first : Option First) (acts : ActsThere v m o op r b t answer first)
    → IsNextDoubt v (Some (Pending.Act Base first (record { call = o.call; line = o.line; req = r; reply = answer }) t.seq))
act_next v m o op r b t answer first acts = record {
  pends = (acts.may, deliver.named_there v A first acts.opening);
  epochs = tt;
  acts = λ start z i k. (
    t,
    answer,
    acts_on_plain (tier_of start (joined v).memory k.recs k.base) v.standing.base_epoch op r t answer k.sound (deliver.on v m o op r b t answer first acts) refl
        (ap (λ x. act x r) (state_is start (joined v) z r.name b acts.has i k) ∙ acts.acts),
    refl,
  );
  next = λ start z i k.
      let plain = deliver.plain_here v m o op r b t answer first acts start z i k in
      ((t, ap (λ x. act x r) plain ∙ acts.acts, refl), deliver.opening_for (behind start v.log.acts) v.log.opening A b first plain (deliver.first_here v m o op r b t answer first acts start z i k));
}
  where
    A : Act
    A = record { call = o.call; line = o.line; req = r; reply = answer }

pub next_doubt : (v : GroupView) (m : Sent) (b : NameState) (p : Option Pending) → IsInDoubt v m b p → IsNextDoubt v p
next_doubt v m b p (act_doubt o op r t answer first acts is) = next_as v p _ is (act_next v m o op r b t answer first acts)
next_doubt v m b p (put_doubt e op k t is same) = next_as v p (Some (Pending.Plain Base k)) same (record { pends = tt; epochs = tt; acts = λ start z i k. tt; next = λ start z i k. tt })
next_doubt v m b p (rise_doubt e is later same) = next_as v p (Some (Pending.Epoch Base e)) same (record { pends = tt; epochs = later; acts = λ start z i k. tt; next = λ start z i k. tt })
next_doubt v m b p (stray_doubt o op r t answer a same) = next_as v p None same (record { pends = tt; epochs = tt; acts = λ start z i k. tt; next = λ start z i k. tt })
next_doubt v m b p (reading_doubt reads same) = next_as v p None same (record { pends = tt; epochs = tt; acts = λ start z i k. tt; next = λ start z i k. tt })
next_doubt v m b p (no_doubt reads n same) = next_as v p None same (record { pends = tt; epochs = tt; acts = λ start z i k. tt; next = λ start z i k. tt })

module _ (v : GroupView) (h : IsWhole v) (none : v.stores.pending ≡ None) (s : StoreView) (later : v.stores.base.faults ≤ s.faults) (p : Option Pending) (next : IsNextDoubt v p) where
  abbrev Mem : Memory
  Mem = (joined v).memory

  abbrev W : GroupView
  W = with_base s p v

  nothing : (joined v).doubt ≡ None
  nothing = ap (option_map doubt_in) none

  -- some step that leaves memory as it is
  fails_by : (other : Store → Store) → Promises other (joined v) (joined W) → ((start : Store) → BothTell (joined v) → Began start v → (z : TwoMaps) → AreLeft (joined W) z → HasOwners start W z)
      → OneCommit v.stores W.stores → ((start : Store) → BothTell (joined v) → Began start v → IsNextAct start v.log p) → Keeps other None v W
  fails_by other promises owners commit follows =
      base_keeps v h none s later p v.traffic.replies v.traffic.next_reply v.standing.base_epoch other next.pends h.traffic promises owners follows commit

  -- ---- no map changed
  module _ (same : s.moments ≡ v.stores.base.moments) where
    left_was : (z : TwoMaps) → AreLeft (joined W) z → AreLeft (joined v) z
    left_was z i = (i.0, rests_left v.stores.base s same z.base i.1)

    rests_promises : Promises as_it_is (joined v) (joined W)
    rests_promises = record {
      history = inl refl;
      memory = λ r. record { sound = r.sound; epochs = next.epochs };
      tell = λ t. (t.0, subst AreTold (sym same) t.1);
      told = λ t. (t.0, subst AreTold same t.1);
      began = λ start told b. record {
        holds = λ z i. inl (surely start (joined v) nothing b z (left_was z i));
        acts = let some = deliver_some told in next.acts start some.0 some.1 (surely start (joined v) nothing b some.0 some.1);
        epochs = next.epochs;
      };
      stops = λ start told b z i.
          inl (stands start Mem z (surely start (joined v) nothing b z (rests_since v.stores.cache v.stores.cache refl z.cache i.0, rests_since v.stores.base s same z.base i.1)));
    }
      where
        deliver_some : BothTell (joined v) → (z : TwoMaps) × AreLeft (joined v) z
        deliver_some told =
            let x = some_left v.stores.cache told.0 in
            let y = some_left v.stores.base told.1 in
            (record { cache = x.0; base = y.0 }, (x.1, y.1))

    pub rests_fail : (other : Store → Store) → Keeps other None v W
    rests_fail other =
        fails_by other (promises_any other (joined v) (joined W) rests_promises)
        (λ start told b z i. without_doubt start v p z (surely_owned start v z none (b.owners z (left_was z i))))
        (no_commit refl same)
        (λ start told b.
        let x = some_left v.stores.cache told.0 in
        let y = some_left v.stores.base told.1 in
        let z : TwoMaps = record { cache = x.0; base = y.0 } in
        next.next start z (x.1, y.1) (surely_owned start v z none (b.owners z (x.1, y.1))))

  -- ---- the base tells nothing
  module _ (cs : List Change) (between : Between cs v.stores.base s) (untold : BothTell (joined v) → ⊥) where
    pub untold_fail : (other : Store → Store) → Keeps other None v W
    untold_fail other =
        fails_by other
        (record {
          history = inl refl;
          memory = λ r. record { sound = r.sound; epochs = next.epochs };
          tell = λ t. absurd (untold t);
          told = λ t. absurd (untold (t.0, (tells_on v.stores.base s _ between).1 t.1));
          began = λ start told b. absurd (untold told);
          stops = λ start told b z i. absurd (untold told);
        })
        (λ start told b. absurd (untold told))
        (in_base refl (inl (cs, between)))
        (λ start told b. absurd (untold told))

-- ---- the commit of a message that is no request

module _ (v : GroupView) (m : Sent) (b : NameState) (cs : List Change) (s : StoreView) (h : IsWhole v) (none : v.stores.pending ≡ None) (on : IsIn m v.traffic.messages) (reads : ReadsThere v m.message b)
    (needs : NeedsChange v m.message b cs) (made : MayBeMade cs v.stores.base s) (still : is_write_message m.message ≡ false) where
  abbrev Gave : Served
  Gave = served_there v b m.message

  abbrev Kept : Memory
  Kept = (joined v).memory

  -- memory at this epoch of the base
  abbrev At : ℕ → Memory
  At e = record Kept { net = record Kept.net { base_epoch = e } }

  torn_at : (start : Store) → Began start v → (z : TwoMaps) → (y : TwoMaps) → AreLeft (joined v) y → z ≡ changed_in Base cs y → IsOwned start (At Gave.epoch) (ledger_in v) z
  torn_at start g z y i is =
      let k = surely_owned start v y none (g.owners y i) in
      subst (IsOwned start (At Gave.epoch) (ledger_in v)) (sym is)
      (torn_owned v m b Gave on reads refl (acts_still m.message Gave.put still Kept.acts) start y i k (changed_by y.base cs) (needs_based v m.message b cs y.base k.spells.base needs k.spells.based))

  fault_less : (used need limit : ℕ) → ◌≡◌ {A = Outcome} (Err Disk) (Err (NoSpace used need limit)) → limit < used + need
  fault_less used need limit e = absurd (cc)

  -- a state that was installed
  pub put_fails : (e op : ℕ) (k : Name) (t : NameState) → m.message ≡ BaseMsg.Install e op k t → Keeps (act_of m.message) None v (with_base s (Some (Pending.Plain Base k)) v)
  put_fails e op k t is = by needs
    where
      name : name_in m.message ≡ Some k
      name = ap name_in is

      W : GroupView
      W = with_base s (Some (Pending.Plain Base k)) v

      doubt_is : (seq : ℕ) → doubt_of m.message seq ≡ Doubt.Plain Base k
      doubt_is seq = ap (λ x. doubt_of x seq) is

      all_of_it : Promises (act_of m.message) (joined v) (joined W) → Gave.epoch ≡ v.standing.base_epoch → Keeps (act_of m.message) None v W
      all_of_it promises epoch =
          base_keeps v h none s made.fails.closes.later (Some (Pending.Plain Base k)) v.traffic.replies v.traffic.next_reply v.standing.base_epoch (act_of m.message) tt h.traffic promises
          (λ start told g z i. elim (deliver.torn_from cs v s made z i.0 i.1) [
            | inl was ↦ inl (surely_owned start v z none (g.owners z was))
            | inr from ↦ inl (subst (λ n. IsOwned start (At n) (ledger_in v) z) epoch (torn_at start g z from.0 from.1 from.2))
          ])
          (λ start told g. tt) (in_base refl (inl (cs, made.between)))

      by : NeedsChange v m.message b cs → Keeps (act_of m.message) None v W
      by (puts n u bytes named put spelled lawful cs_is) =
          all_of_it
          (putting_promises (joined v) (joined W) m.message n b u Gave bytes (Err Disk) (ap (option_map doubt_in) none) (on_net v m b Gave on reads refl (acts_still m.message Gave.put still Kept.acts)) named
          (subst (λ x. HasStateFor (joined v) x b) named (reads (put_now v.standing.base_epoch b u m.message n named put))) refl put (name_epoch v.standing.base_epoch b m.message n named) lawful spelled fault_less
          (record {
            committed = subst (λ c. Committed c v.stores.base s (Err Disk)) cs_is made;
            same = ap {A = Doubt} {B = View} (λ d. record (joined W) { doubt = Some d }) (sym (doubt_is u.seq));
          }))
          (name_epoch v.standing.base_epoch b m.message n named)
      by (rises f bytes fence up spelled cs_is) = let no : BaseMsg.Fence f ≡ BaseMsg.Install e op k t = sym fence ∙ is in absurd (cc)

  -- the epoch of a Fence
  pub rise_fails : (e : ℕ) → m.message ≡ BaseMsg.Fence e → v.standing.base_epoch < e → Keeps (act_of m.message) None v (with_base s (Some (Pending.Epoch Base e)) v)
  rise_fails e is up = by needs
    where
      W : GroupView
      W = with_base s (Some (Pending.Epoch Base e)) v

      gives : Gave ≡ replies e (BaseReply.Fenced e)
      gives = ap (served v.standing.base_epoch b) is ∙ fence_is v.standing.base_epoch e b up

      fits : Promises as_it_is (joined v) (joined W) → Keeps (act_of m.message) None v W
      fits promises =
          base_keeps v h none s made.fails.closes.later (Some (Pending.Epoch Base e)) v.traffic.replies v.traffic.next_reply v.standing.base_epoch (act_of m.message) tt h.traffic
          (promises_any (act_of m.message) (joined v) (joined W) promises)
          (λ start told g z i. elim (deliver.torn_from cs v s made z i.0 i.1) [
            | inl was ↦ inl (surely_owned start v z none (g.owners z was))
            | inr from ↦ inr (subst (λ o. IsOwned start (At o.epoch) (ledger_in v) z) gives (torn_at start g z from.0 from.1 from.2))
          ])
          (λ start told g. tt) (in_base refl (inl (cs, made.between)))

      by : NeedsChange v m.message b cs → Keeps (act_of m.message) None v W
      by (puts n u bytes named put spelled lawful cs_is) = let no : ◌≡◌ {A = Option Name} None (Some n) = sym (ap name_in is) ∙ named in absurd (cc)
      by (rises f bytes fence later spelled cs_is) =
          let one : BaseMsg.Fence f ≡ BaseMsg.Fence e = sym fence ∙ is in
          let same : f ≡ e = cc in
          fits (fencing_promises (joined v) (joined W) e bytes (Err Disk) (ap (option_map doubt_in) none)
          (subst (λ x. IsIn x Kept.net.wire) is (on_net v m b Gave on reads refl (acts_still m.message Gave.put still Kept.acts))) up (subst (SpellsEpoch bytes) same spelled) fault_less
          (record { committed = subst (λ c. Committed c v.stores.base s (Err Disk)) cs_is made; same = refl }))

-- ---- a request, whose state was read twice

told_or_not : (o : Option (List CrashMaps)) → AreTold o ⊎ (AreTold o → ⊥)
told_or_not None = inr (λ x. x)
told_or_not (Some ss) = inl tt

pub both_or_not : (v : View) → BothTell v ⊎ (BothTell v → ⊥)
both_or_not v = elim (told_or_not v.cache.moments) [
  | inr gap ↦ inr (λ t. gap t.0)
  | inl cache ↦ elim (told_or_not v.base.moments) [
    | inr gap ↦ inr (λ t. gap t.1)
    | inl base ↦ inl (cache, base)
  ]
]

one_read : (v : View) (k : Name) (b c : NameState) → Tells v.base → HasState v k b → HasState v k c → b ≡ c
one_read v k b c told has also = let some = some_left v.base told in state_one (fin.get some.0 (state_key k)) b c (has some.0 some.1) (also some.0 some.1)

-- a message that reads puts nothing
puts_none : (have e : ℕ) (reply : BaseReply) (t : NameState) → (in_epoch have e (replies have reply)).put ≡ Some t → ⊥
puts_none have e reply t put =
    let off : (in_epoch have e (replies have reply)).put ≡ None = in_each (λ x. x.put ≡ None) have e (replies have reply) refl refl (λ same. refl) in
    let bad : ◌≡◌ {A = Option NameState} None (Some t) = sym off ∙ put in
    absurd (cc)

reads_only : (v : GroupView) (msg : BaseMsg) (b : NameState) (cs : List Change) → is_reading msg ≡ true → NeedsChange v msg b cs → ⊥
reads_only v (BaseMsg.Fence e) b cs reads needs = absurd (cc)
reads_only v (BaseMsg.GetChunk e op k at) b cs reads (puts n t bytes name put spelled named is) = puts_none v.standing.base_epoch e _ t put
reads_only v (BaseMsg.GetChunk e op k at) b cs reads (rises f bytes fence up spelled is) = absurd (cc)
reads_only v (BaseMsg.Look e op k w) b cs reads (puts n t bytes name put spelled named is) = puts_none v.standing.base_epoch e _ t put
reads_only v (BaseMsg.Look e op k w) b cs reads (rises f bytes fence up spelled is) = absurd (cc)
reads_only v (BaseMsg.Write e op r) b cs reads needs = absurd (cc)
reads_only v (BaseMsg.Install e op k t) b cs reads needs = absurd (cc)

module _ (v : GroupView) (m : Sent) (b : NameState) (s : StoreView) (p : Option Pending) (h : IsWhole v) (none : v.stores.pending ≡ None) (a : FailsThere v m b s p) (t : Tears v m s) where
  later : v.stores.base.faults ≤ s.faults
  later = a.fails.closes.later

  next : IsNextDoubt v p
  next = next_doubt v m b p a.doubt

  untold : (BothTell (joined v) → ⊥) → Keeps (act_of m.message) None v (with_base s p v)
  untold gap = untold_fail v h none s later p next t.changes t.made.between gap (act_of m.message)

  -- the request acts on the state that both readings gave
  acts_so : (o : Owner) (op : ℕ) (r : Req) (u : NameState) (answer : Reply) (first : Option First) → ActsThere v m o op r b u answer first
      → p ≡ Some (Pending.Act Base first (record { call = o.call; line = o.line; req = r; reply = answer }) u.seq) → NeedsChange v m.message t.state t.changes
      → Keeps (act_of m.message) None v (with_base s p v)
  acts_so o op r u answer first acts is (rises e bytes fence up spelled cs_is) = let no : BaseMsg.Fence e ≡ BaseMsg.Write v.standing.base_epoch op r = sym fence ∙ acts.message in absurd (cc)
  acts_so o op r u answer first acts is (puts k w bytes name put spelled named cs_is) = elim (both_or_not (joined v)) [
    | inr gap ↦ untold gap
    | inl told ↦
        let at : ◌≡◌ {A = Option Name} (Some r.name) (Some k) = sym (ap name_in acts.message) ∙ name in
        let key : r.name ≡ k = cc in
        let also : HasState (joined v) k t.state = subst (λ x. HasStateFor (joined v) x t.state) name (t.reads (put_now v.standing.base_epoch t.state w m.message k name put)) in
        let one : b ≡ t.state = one_read (joined v) r.name b t.state told.1 acts.has (subst (λ n. HasState (joined v) n t.state) (sym key) also) in
        let gives : (served_there v t.state m.message).put ≡ Some u =
        subst (λ x. (served_there v x m.message).put ≡ Some u) one
        (subst (λ x. (served_there v b x).put ≡ Some u) (sym acts.message) (ap (λ x. x.put) (deliver.is v m o op r b u answer first acts))) in
        let puts_one : ◌≡◌ {A = Option NameState} (Some u) (Some w) = sym gives ∙ put in
        let state : u ≡ w = cc in
        let cs : t.changes ≡ sets (state_key r.name) (Some bytes) = cs_is ∙ ap (λ n. sets (state_key n) (Some bytes)) (sym key) in
        subst (λ x. Keeps (act_of m.message) None v (with_base s x v)) (sym is)
        (subst (λ x. Keeps (act_of x) None v (with_base s (Some (Pending.Act Base first (record { call = o.call; line = o.line; req = r; reply = answer }) u.seq)) v)) (sym acts.message)
        (delivering_acts_keeps v m o op r b u answer first bytes s (Err Disk) h none acts
        (record { spelled = subst (SpellsState bytes) (sym state) spelled; over = λ used need limit e. absurd (cc); committed = subst (λ c. Committed c v.stores.base s (Err Disk)) cs t.made })))
  ]

  -- nothing was to be committed, by the first reading
  none_so : ReadsThere v m.message b → NeedsNone v m.message b → NeedsChange v m.message t.state t.changes → Keeps (act_of m.message) None v (with_base s p v)
  none_so reads n (rises e bytes fence up spelled cs_is) =
      let gives : (served_there v b m.message).epoch ≡ e = ap (λ x. (served_there v b x).epoch) fence ∙ ap (λ x. x.epoch) (fence_is v.standing.base_epoch e b up) in
      absurd (omega (arith, gives, n.epoch, up))
  none_so reads n (puts k w bytes name put spelled named cs_is) = elim (both_or_not (joined v)) [
    | inr gap ↦ untold gap
    | inl told ↦
        let now = put_now v.standing.base_epoch t.state w m.message k name put in
        let one : b ≡ t.state = one_read (joined v) k b t.state told.1 (subst (λ x. HasStateFor (joined v) x b) name (reads now)) (subst (λ x. HasStateFor (joined v) x t.state) name (t.reads now)) in
        let no : ◌≡◌ {A = Option NameState} None (Some w) = sym n.put ∙ ap (λ x. (served_there v x m.message).put) one ∙ put in
        absurd (cc)
  ]

  pub torn_fails : IsInDoubt v m b p → Keeps (act_of m.message) None v (with_base s p v)
  torn_fails (act_doubt o op r u answer first acts is) = acts_so o op r u answer first acts is t.needs
  torn_fails (put_doubt e op k u is same) =
      subst (λ x. Keeps (act_of m.message) None v (with_base s x v)) (sym same)
      (put_fails v m t.state t.changes s h none a.on t.reads t.needs t.made (ap is_write_message is) e op k u is)
  torn_fails (rise_doubt e is up same) =
      subst (λ x. Keeps (act_of m.message) None v (with_base s x v)) (sym same)
      (rise_fails v m t.state t.changes s h none a.on t.reads t.needs t.made (ap is_write_message is) e is up)
  torn_fails (no_doubt reads n same) = none_so reads n t.needs
  torn_fails (reading_doubt reads same) = absurd (reads_only v m.message t.state t.changes reads t.needs)
  torn_fails (stray_doubt o op r u answer st same) = elim (both_or_not (joined v)) [
    | inr gap ↦ untold gap
    | inl told ↦ absurd (st.stray (owners_may_act v m o op r b u answer h none told st.on st.message st.owner st.has st.acts))
  ]

pub failing_there_keeps : FailingThereKeeps
failing_there_keeps v m b s p h none a = elim a.maps [
  | inl same ↦ rests_fail v h none s a.fails.closes.later p (next_doubt v m b p a.doubt) same (act_of m.message)
  | inr torn ↦ torn_fails v m b s p h none a torn a.doubt
]
