-- Messages that the base is given.
use Rattle.std.proofs.Common.{◌≡◌, ◌⊎◌, ◌≤◌, inl, inr, ℕ, Bool, true, false, List, Option, Some, None, Err, refl, sym, ap, ap₂, subst, ◌∙◌, arith}
use Rattle.std.specs.Prelude.{nat_lt, if◌then◌else◌}
use Rattle.std.specs.FinMap as fin
use Rattle.std.proofs.lemmas.Bool.{le-ltb, ltb-false}
use Rattle.copy_chunk.specs.Chunks.{chunk_at, chunks_of}
use Rattle.obj_model.specs.Names.{name_fault}
use Rattle.obj_model.specs.States.{unknown}
use Rattle.obj_model.specs.declared.change.Pool.TheVariants.{Base}
use Rattle.obj_model.specs.declared.reply.Reply.{Reply}
use Rattle.obj_model.specs.declared.req.Req.{Req}
use Rattle.obj_model.specs.declared.state.NameState.{NameState}
use Rattle.obj_ops.specs.declared.request.Acted.{Acted}
use Rattle.obj_ops.specs.declared.request.Acted.TheVariants.{Fresh, Again, Stale, Worn as WornActed}
use Rattle.obj_ops.specs.Acts.{act, look}
use Rattle.obj_ops.specs.Stores.{Store, replay, state_of}
use Rattle.rec_codec.specs.Spelling.{SpellsState}
use Rattle.store_face.specs.declared.fault.StoreFault.{StoreFault}
use Rattle.store_face.specs.declared.fault.StoreFault.TheVariants.{Disk, BadImage, NoSpace, Worn, NoMemory}
use Rattle.tier_types.specs.Serving.{Served, epoch_in, in_epoch, name_in, put_by, replies, served, told_of}
use Rattle.tier_protocol.specs.Tiers.{Name, BaseMsg, BaseReply, IsIn, Tier}
use Rattle.tier_protocol.specs.Sound.{IsSound}
use Rattle.tier_protocol.specs.Moves.{acts_with, delivered, put_at, state_for, with_served}
use Rattle.tier_protocol.proofs.Cells.{get_here}
use Rattle.tier_protocol.proofs.Delivers.{acts_on_plain, delivering, filling, in_epoch_by}
use Rattle.tier_protocol.proofs.Requests.{replay_more}
use Rattle.tier_protocol.proofs.Worlds.{doubt_keeps}
use Rattle.tier_join.specs.Group.{Doubt, Memory, TwoMaps, View, ActIsNext, AreLeft, EpochIsNext, HasStateAt, Spells, SpellsDoubt, changed_in, tier_of}
use Rattle.pool_keys.proofs.Bases.{state_one}
use Rattle.pool_keys.specs.Keys.{epoch_key, state_key}
use Rattle.pool_keys.specs.Maps.{SpellsBase}
use Rattle.tier_join.specs.Promises.{OneMore, as_it_is}
use Rattle.tier_join.specs.Laws.{AnsweringPromises, FencingPromises, PuttingPromises}
use Rattle.tier_join.specs.Steps.{HasState, HasStateFor, IsOver, Outcome, Owes, OwesMemory, act_of, after, doubt_of, no_space, sets}
use Rattle.tier_join.proofs.Commits.{commit_promises}
use Rattle.tier_join.proofs.Keys.{base_at, base_with}
use Rattle.tier_join.proofs.MemoryMoves.{no_space_memory, served_memory}
use Rattle.tier_join.proofs.Rests.{memory_promises}

-- ---- what was read

pub state_is : (start : Store) (v : View) (z : TwoMaps) (k : Name) (s : NameState) → HasState v k s → AreLeft v z → (h : Spells start v.memory z) → state_of h.base k ≡ s
state_is start v z k s has i h = state_one (fin.get z.base (state_key k)) (state_of h.base k) s (h.based.each k) (has z.base i.1)

in_epoch_same : (have e : ℕ) (a b : Served) → (e ≡ have → a ≡ b) → in_epoch have e a ≡ in_epoch have e b
in_epoch_same have e a b same = by (nat_lt e have) (nat_lt have e) refl refl
  where
    by : (c d : Bool) → nat_lt e have ≡ c → nat_lt have e ≡ d
        → (if c then replies have (BaseReply.OldEpoch have e) else if d then replies have (BaseReply.NotFenced have e) else a)
        ≡ (if c then replies have (BaseReply.OldEpoch have e) else if d then replies have (BaseReply.NotFenced have e) else b)
    by true d lt gt = refl
    by false true lt gt = refl
    by false false lt gt = same (omega (arith, ltb-false e have lt, ltb-false have e gt))

-- a message is served alike on two states that are one where it is of the base's epoch
served_same : (have : ℕ) (a s : NameState) (msg : BaseMsg) → (epoch_in msg ≡ have → (k : Name) → name_in msg ≡ Some k → a ≡ s) → served have a msg ≡ served have s msg
served_same have a s (BaseMsg.Fence e) one = refl
served_same have a s (BaseMsg.GetChunk e op k at) one =
    in_epoch_same have e _ _ (λ same. ap {A = NameState} {B = Served} (λ x. replies have (BaseReply.Chunk e op (chunk_at (chunks_of x) at))) (one same k refl))
served_same have a s (BaseMsg.Look e op k v) one =
    in_epoch_same have e _ _ (λ same. ap {A = NameState} {B = Served} (λ x. replies have (BaseReply.Looked e op (look x v))) (one same k refl))
served_same have a s (BaseMsg.Write e op r) one =
    in_epoch_same have e _ _ (λ same. ap {A = NameState} {B = Served} (λ x. record { epoch = have; put = put_by (act x r); reply = BaseReply.Wrote e op (told_of (act x r)) }) (one same r.name refl))
served_same have a s (BaseMsg.Install e op k t) one =
    in_epoch_same have e _ _ (λ same. ap {A = NameState} {B = Served} (λ x. record { epoch = have; put = if nat_lt x.seq t.seq then Some t else None; reply = BaseReply.Installed e op t.seq }) (one same k refl))

-- the state that was read for a message is the pair's
state_for_is : (start : Store) (v : View) (z : TwoMaps) (name : Option Name) (s : NameState) → HasStateFor v name s → AreLeft v z → (h : Spells start v.memory z) → (k : Name) → name ≡ Some k → state_for name h.base ≡ s
state_for_is start v z None s has i h k is = absurd (cc)
state_for_is start v z (Some n) s has i h k is = state_is start v z n s has i h

-- a message is served by what was read
module _ (start : Store) (v : View) (z : TwoMaps) (msg : BaseMsg) (s : NameState) (out : Served)
    (on : IsIn msg v.memory.net.wire) (has : epoch_in msg ≡ v.memory.net.base_epoch → HasStateFor v (name_in msg) s) (is : served v.memory.net.base_epoch s msg ≡ out)
    (i : AreLeft v z) (h : Spells start v.memory z) where
  abbrev T : Tier
  T = tier_of start v.memory h.recs h.base

  pub is_delivered : delivered msg T ≡ with_served msg out T
  is_delivered =
      ap {A = Served} {B = Tier} (λ o. with_served msg o T)
      (served_same v.memory.net.base_epoch (state_for (name_in msg) h.base) s msg (λ same k name. state_for_is start v z (name_in msg) s (has same) i h k name) ∙ is)

  pub served_sound : IsSound (with_served msg out T)
  served_sound = subst IsSound is_delivered (delivering T msg h.sound on)

  -- nobody was told
  pub taken_sound : IsSound (tier_of start (record v.memory { acts = acts_with msg out.put v.memory.acts; net = record v.memory.net { base_epoch = out.epoch } }) h.recs (put_at (name_in msg) out.put h.base))
  taken_sound =
      subst (λ d. IsSound (record d { net = record d.net { wire = v.memory.net.wire; replies = v.memory.net.replies } })) is_delivered
      (doubt_keeps T msg h.sound on).within

-- ---- a message that changes nothing

acts_none : (msg : BaseMsg) (p : Option NameState) → p ≡ None → (acts : List Req) → acts_with msg p acts ≡ acts
acts_none (BaseMsg.Fence e) p none acts = refl
acts_none (BaseMsg.GetChunk e op k at) p none acts = refl
acts_none (BaseMsg.Look e op k x) p none acts = refl
acts_none (BaseMsg.Write e op r) None none acts = refl
acts_none (BaseMsg.Write e op r) (Some t) none acts = absurd (cc)
acts_none (BaseMsg.Install e op k t) p none acts = refl

pub answering_promises : AnsweringPromises
answering_promises v w msg s out none on has is put epoch rests same =
    memory_promises v w (subst (OwesMemory v) (sym same) (record {
      settled = none;
      moves = λ start z i h. record {
        recs = h.recs;
        base = h.base;
        cached = h.cached;
        based = subst (SpellsBase z.base h.base) (sym epoch) h.based;
        sound = subst (λ b. IsSound (tier_of start (after (with_served msg out) v.memory) h.recs b)) (unput (name_in msg) out.put put h.base) (served_sound start v z msg s out on has is i h);
      };
      acts = acts_none msg out.put put v.memory.acts;
      memory = served_memory v.memory msg s out on is;
    })) rests
  where
    unput : (name : Option Name) (p : Option NameState) → p ≡ None → (base : Store) → put_at name p base ≡ base
    unput None p e base = refl
    unput (Some k) None e base = refl
    unput (Some k) (Some t) e base = absurd (cc)

-- ---- a commit that finds no space

no_space_spells : (start : Store) (m : Memory) (z : TwoMaps) (msg : BaseMsg) (result : Outcome) (fault : StoreFault) → IsIn msg m.net.wire → IsOver result → result ≡ Err fault → Spells start m z → Spells start (no_space msg m fault) z
no_space_spells start m z msg result Disk on over is h = h
no_space_spells start m z msg result (BadImage at) on over is h = h
no_space_spells start m z msg result (NoSpace used need limit) on over is h = record {
  recs = h.recs;
  base = h.base;
  cached = h.cached;
  based = h.based;
  sound = filling (tier_of start m h.recs h.base) msg used need limit h.sound (record { on = on; over = over used need limit is });
}
no_space_spells start m z msg result (Worn limit) on over is h = h
no_space_spells start m z msg result NoMemory on over is h = h

no_space_acts : (m : Memory) (msg : BaseMsg) (fault : StoreFault) → (no_space msg m fault).acts ≡ m.acts
no_space_acts m msg Disk = refl
no_space_acts m msg (BadImage at) = refl
no_space_acts m msg (NoSpace used need limit) = refl
no_space_acts m msg (Worn limit) = refl
no_space_acts m msg NoMemory = refl

-- ---- a message that puts a state

in_epoch_puts_none : (have e : ℕ) (done : Served) → done.put ≡ None → (in_epoch have e done).put ≡ None
in_epoch_puts_none have e done none = by (nat_lt e have) (nat_lt have e)
  where
    by : (b c : Bool) → (if b then replies have (BaseReply.OldEpoch have e) else if c then replies have (BaseReply.NotFenced have e) else done).put ≡ None
    by true c = refl
    by false true = refl
    by false false = none

puts_by : (a : Acted) (t : NameState) → put_by a ≡ Some t → (answer : Reply) × (a ≡ Fresh t answer)
puts_by (Fresh s answer) t e = let same : s ≡ t = cc in (answer, ap (λ x. Fresh x answer) same)
puts_by (Again answer) t e = absurd (cc)
puts_by (Stale kept) t e = absurd (cc)
puts_by (WornActed limit) t e = absurd (cc)

-- a Write that puts a state is of the base's epoch, and acts
abbrev ActsSo : (have e : ℕ) → NameState → Req → NameState → Type 0
ActsSo have e s r t = (e ≡ have) × ((answer : Reply) × (act s r ≡ Fresh t answer))

write_acts : (have e op : ℕ) (s t : NameState) (r : Req) → e ≤ have → (served have s (BaseMsg.Write e op r)).put ≡ Some t → ActsSo have e s r t
write_acts have e op s t r low put =
    in_epoch_by (λ x. x.put ≡ Some t → ActsSo have e s r t) have e _ low (λ lt no. absurd (cc)) (λ same is. (same, puts_by (act s r) t is)) put

-- which of the messages it is
data Putting (msg : BaseMsg) (k : Name) : Type 0 where
  Acts : (e op : ℕ) (r : Req) → msg ≡ BaseMsg.Write e op r → r.name ≡ k → Putting msg k
  Installs : (e op : ℕ) (s : NameState) → msg ≡ BaseMsg.Install e op k s → Putting msg k

putting : (msg : BaseMsg) (k : Name) (have : ℕ) (s t : NameState) → name_in msg ≡ Some k → (served have s msg).put ≡ Some t → Putting msg k
putting (BaseMsg.Fence e) k have s t name put = absurd (cc)
putting (BaseMsg.GetChunk e op n at) k have s t name put = let bad : ◌≡◌ {A = Option NameState} None (Some t) = sym (in_epoch_puts_none have e _ refl) ∙ put in absurd (cc)
putting (BaseMsg.Look e op n v) k have s t name put = let bad : ◌≡◌ {A = Option NameState} None (Some t) = sym (in_epoch_puts_none have e _ refl) ∙ put in absurd (cc)
putting (BaseMsg.Write e op r) k have s t name put = Acts e op r refl (cc)
putting (BaseMsg.Install e op n x) k have s t name put = let same : n ≡ k = cc in Installs e op x (ap (λ y. BaseMsg.Install e op y x) same)

acts_more : (msg : BaseMsg) (k : Name) (p : Option NameState) (t : NameState) → p ≡ Some t → Putting msg k → (acts : List Req) (start : Store) → replay start (acts_with msg p acts) ≡ act_of msg (replay start acts)
acts_more msg k None t e which acts start = absurd (cc)
acts_more msg k (Some u) t e (Acts f op r is same) acts start =
    subst (λ x. replay start (acts_with x (Some u) acts) ≡ act_of x (replay start acts)) (sym is) (replay_more acts start r)
acts_more msg k (Some u) t e (Installs f op s is) acts start =
    subst (λ x. replay start (acts_with x (Some u) acts) ≡ act_of x (replay start acts)) (sym is) refl

acts_one : (msg : BaseMsg) (k : Name) (p : Option NameState) (t : NameState) → p ≡ Some t → Putting msg k → (acts : List Req) → OneMore acts (acts_with msg p acts)
acts_one msg k None t e which acts = absurd (cc)
acts_one msg k (Some u) t e (Acts f op r is same) acts = subst (λ x. OneMore acts (acts_with x (Some u) acts)) (sym is) (inr (r, refl))
acts_one msg k (Some u) t e (Installs f op s is) acts = subst (λ x. OneMore acts (acts_with x (Some u) acts)) (sym is) (inl refl)

module _ (v : View) (msg : BaseMsg) (k : Name) (s t : NameState) (out : Served) (bytes : List ℕ) (result : Outcome)
    (none : v.doubt ≡ None) (on : IsIn msg v.memory.net.wire) (name : name_in msg ≡ Some k) (has : HasState v k s)
    (is : served v.memory.net.base_epoch s msg ≡ out) (put : out.put ≡ Some t) (epoch : out.epoch ≡ v.memory.net.base_epoch)
    (named : name_fault k ≡ None) (spelled : SpellsState bytes t) (over : IsOver result) where
  has_for : epoch_in msg ≡ v.memory.net.base_epoch → HasStateFor v (name_in msg) s
  has_for same = subst (λ n. HasStateFor v n s) (sym name) has

  which : Putting msg k
  which = putting msg k v.memory.net.base_epoch s t name (ap (λ o. o.put) is ∙ put)

  abbrev Cs : TwoMaps → TwoMaps
  Cs z = changed_in Base (sets (state_key k) (Some bytes)) z

  put_is : (base : Store) → put_at (name_in msg) out.put base ≡ fin.insert base k t
  put_is base = ap₂ {A = Option Name} {B = Option NameState} {C = Store} (λ n p. put_at n p base) name put

  based : (z : TwoMaps) (base : Store) → SpellsBase z.base base v.memory.net.base_epoch → SpellsBase (Cs z).base (fin.insert base k t) v.memory.net.base_epoch
  based z base h = base_with z.base base v.memory.net.base_epoch k bytes t spelled named h

  puts : (start : Store) (z : TwoMaps) → AreLeft v z → Spells start v.memory z → Spells start (after (with_served msg out) v.memory) (Cs z)
  puts start z i h = record {
    recs = h.recs;
    base = fin.insert h.base k t;
    cached = h.cached;
    based = subst (SpellsBase (Cs z).base (fin.insert h.base k t)) (sym epoch) (based z h.base h.based);
    sound = subst (λ b. IsSound (tier_of start (after (with_served msg out) v.memory) h.recs b)) (put_is h.base) (served_sound start v z msg s out on has_for is i h);
  }

  -- the same, where nobody was told
  puts_quietly : (start : Store) (z : TwoMaps) → AreLeft v z → Spells start v.memory z → Spells start (record v.memory { acts = acts_with msg out.put v.memory.acts }) (Cs z)
  puts_quietly start z i h = record {
    recs = h.recs;
    base = fin.insert h.base k t;
    cached = h.cached;
    based = based z h.base h.based;
    sound = subst (λ e. IsSound (tier_of start (record v.memory { acts = acts_with msg out.put v.memory.acts; net = record v.memory.net { base_epoch = e } }) h.recs (fin.insert h.base k t))) epoch
        (subst (λ b. IsSound (tier_of start (record v.memory { acts = acts_with msg out.put v.memory.acts; net = record v.memory.net { base_epoch = out.epoch } }) h.recs b)) (put_is h.base)
        (taken_sound start v z msg s out on has_for is i h));
  }

  torn_by : (start : Store) (z : TwoMaps) → Putting msg k → Spells start (record v.memory { acts = acts_with msg (Some t) v.memory.acts }) (Cs z) → Spells start v.memory (Cs z) ⊎ SpellsDoubt start v.memory (doubt_of msg t.seq) (Cs z)
  torn_by start z (Acts e op r at same) h =
      subst (λ x. Spells start (record v.memory { acts = acts_with x (Some t) v.memory.acts }) (Cs z) → Spells start v.memory (Cs z) ⊎ SpellsDoubt start v.memory (doubt_of x t.seq) (Cs z)) (sym at)
      (λ g. inr (subst (λ n. HasStateAt t.seq (fin.get (Cs z).base (state_key n))) (sym same) (subst (HasStateAt t.seq) (sym (get_here z.base (state_key k) (Some bytes))) (t, spelled, refl)), g)) h
  torn_by start z (Installs e op x at) h =
      subst (λ x. Spells start (record v.memory { acts = acts_with x (Some t) v.memory.acts }) (Cs z) → Spells start v.memory (Cs z) ⊎ SpellsDoubt start v.memory (doubt_of x t.seq) (Cs z)) (sym at) (λ g. inl g) h

  next_by : (start : Store) (z : TwoMaps) → AreLeft v z → Spells start v.memory z → Putting msg k → ActIsNext (replay start v.memory.acts) (Some (doubt_of msg t.seq))
  next_by start z i h (Acts e op r at same) =
      let low : e ≤ v.memory.net.base_epoch = h.sound.epochs.known (BaseMsg.Write e op r) (subst (λ x. IsIn x v.memory.net.wire) at on) in
      let acts : ActsSo v.memory.net.base_epoch e s r t = write_acts v.memory.net.base_epoch e op s t r low (subst (λ x. (served v.memory.net.base_epoch s x).put ≡ Some t) at (ap (λ o. o.put) is ∙ put)) in
      let here : state_of h.base r.name ≡ s = state_is start v z r.name s (subst (λ n. HasState v n s) (sym same) has) i h in
      subst (λ x. ActIsNext (replay start v.memory.acts) (Some (doubt_of x t.seq))) (sym at) (
        t,
        acts.1.0,
        acts_on_plain (tier_of start v.memory h.recs h.base) e op r t acts.1.0 h.sound (subst (λ x. IsIn x v.memory.net.wire) at on) acts.0 (subst (λ b. act b r ≡ Fresh t acts.1.0) (sym here) acts.1.1),
        refl,
      )
  next_by start z i h (Installs e op x at) = subst (λ y. ActIsNext (replay start v.memory.acts) (Some (doubt_of y t.seq))) (sym at) tt

  epochs_by : Putting msg k → EpochIsNext v.memory.net (Some (doubt_of msg t.seq))
  epochs_by (Acts e op r at same) = subst (λ x. EpochIsNext v.memory.net (Some (doubt_of x t.seq))) (sym at) tt
  epochs_by (Installs e op x at) = subst (λ y. EpochIsNext v.memory.net (Some (doubt_of y t.seq))) (sym at) tt

  pub put_owes : Owes Base (sets (state_key k) (Some bytes)) (after (with_served msg out) v.memory) (no_space msg v.memory) (doubt_of msg t.seq) result v
  put_owes = record {
    settled = none;
    makes = puts;
    stays = λ start z fault e i h. no_space_spells start v.memory z msg result fault on over e h;
    torn = λ start z i h. torn_by start z which (subst (λ p. Spells start (record v.memory { acts = acts_with msg p v.memory.acts }) (Cs z)) put (puts_quietly start z i h));
    acts = λ start z i h. next_by start z i h which;
    epochs = epochs_by which;
    history = acts_one msg k out.put t put which v.memory.acts;
    kept = λ fault e. no_space_acts v.memory msg fault;
    made = served_memory v.memory msg s out on is;
    failed = λ fault e h. no_space_memory v.memory msg result fault on over e h;
  }

  pub put_acts : (start : Store) → replay start (acts_with msg out.put v.memory.acts) ≡ act_of msg (replay start v.memory.acts)
  put_acts start = acts_more msg k out.put t put which v.memory.acts start

pub putting_promises : PuttingPromises
putting_promises v w msg k s t out bytes result none on name has is put epoch named spelled over step =
    commit_promises Base (sets (state_key k) (Some bytes)) (after (with_served msg out) v.memory) (no_space msg v.memory) (doubt_of msg t.seq) result v w
    (put_owes v msg k s t out bytes result none on name has is put epoch named spelled over) step (act_of msg)
    (put_acts v msg k s t out bytes result none on name has is put epoch named spelled over)

-- ---- a Fence of a later epoch

pub fencing_promises : FencingPromises
fencing_promises v w e bytes result none on later spelled over step =
    commit_promises Base (sets epoch_key (Some bytes)) (after (with_served (BaseMsg.Fence e) out) v.memory) (no_space (BaseMsg.Fence e) v.memory) (Doubt.Epoch Base e) result v w
    (record {
      settled = none;
      makes = λ start z i h. record {
        recs = h.recs;
        base = h.base;
        cached = h.cached;
        based = base_at z.base h.base v.memory.net.base_epoch e bytes spelled h.based;
        sound = served_sound start v z (BaseMsg.Fence e) unknown out on (λ same. tt) is i h;
      };
      stays = λ start z fault same i h. no_space_spells start v.memory z (BaseMsg.Fence e) result fault on over same h;
      torn = λ start z i h. inr (record {
        recs = h.recs;
        base = h.base;
        cached = h.cached;
        based = base_at z.base h.base v.memory.net.base_epoch e bytes spelled h.based;
        sound = taken_sound start v z (BaseMsg.Fence e) unknown out on (λ same. tt) is i h;
      });
      acts = λ start z i h. tt;
      epochs = later;
      history = inl refl;
      kept = λ fault same. no_space_acts v.memory (BaseMsg.Fence e) fault;
      made = served_memory v.memory (BaseMsg.Fence e) unknown out on is;
      failed = λ fault same h. no_space_memory v.memory (BaseMsg.Fence e) result fault on over same h;
    })
    step as_it_is (λ start. refl)
  where
    out : Served
    out = replies e (BaseReply.Fenced e)

    is : (if nat_lt e v.memory.net.base_epoch then replies v.memory.net.base_epoch (BaseReply.OldEpoch v.memory.net.base_epoch e) else replies e (BaseReply.Fenced e)) ≡ out
    is = let low : nat_lt e v.memory.net.base_epoch ≡ false = le-ltb e v.memory.net.base_epoch (omega (arith, later)) in rw (low) refl
