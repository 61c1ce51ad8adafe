-- No message lowers the epoch or the `seq` of a name.
use Rattle.std.proofs.Common.{◌≡◌, ◌≢◌, ◌⊎◌, inl, inr, ℕ, Bool, true, false, cond, List, [], ◌∷◌, ◌++◌, Option, None, Some, Result, Ok, Err, refl, sym, ap, subst, ◌∙◌, ◌<◌, ◌≤◌, ◌+◌, arith}
use Rattle.std.specs.Prelude.{nat_lt, ◌==◌}
use Rattle.std.specs.FinMap as fin
use Rattle.std.specs.Ordering.{eq_by_cmp}
use Rattle.std.specs.Cmp.{Equal-is}
use Rattle.std.specs.Cmp.Lexicographic.{nat_list_cmp_total}
use Rattle.std.proofs.lemmas.Bool.{eq-eqb, ltb-false, ltb-true}
use Rattle.byteorder.specs.Endian.{big_bytes}
use Rattle.obj_model.specs.Limits.{number_limit}
use Rattle.obj_model.specs.Names.{name_cmp}
use Rattle.obj_model.specs.declared.change.Change.TheVariants.{Put}
use Rattle.obj_model.specs.declared.reply.Reply.{Reply}
use Rattle.obj_model.specs.declared.reply.Reply.TheVariants.{Done, Refused}
use Rattle.obj_model.specs.declared.state.NameState.{NameState}
use Rattle.obj_ops.specs.Acts.{act, state_after}
use Rattle.obj_ops.specs.Laws.{Counts, CountsAround}
use Rattle.obj_ops.specs.declared.request.Acted.{Acted}
use Rattle.obj_ops.specs.declared.request.Acted.TheVariants.{Fresh, Again, Stale, Worn}
use Rattle.obj_ops.proofs.Replays.{counts_rise}
use Rattle.pool_keys.specs.Keys.{epoch_key, state_key}
use Rattle.pool_keys.specs.Left.{IsBefore, IsBeforeBy, IsLeft, IsLeftBy, IsLeftSince}
use Rattle.pool_keys.specs.Values.{IsAtEpoch, IsEpochOf, IsStateOf}
use Rattle.pool_keys.proofs.Bases.{state_one}
use Rattle.pool_keys.proofs.Epochs.{epoch_one}
use Rattle.pool_keys.proofs.Leaving.{live_one}
use Rattle.rec_codec.proofs.Readers.{some_is}
use Rattle.rec_codec.specs.Spelling.{SpellsState, state_bytes}
use Rattle.store_face.specs.Tables.{Table, changed_by}
use Rattle.store_face.specs.Views.{CrashMaps, Holds, StoreView}
use Rattle.tier_types.specs.Serving.{Served, epoch_in, in_epoch, name_in, put_by, replies, served}
use Rattle.tier_types.specs.declared.message.BaseMsg.{BaseMsg}
use Rattle.tier_types.specs.declared.message.BaseReply.{BaseReply}
use Rattle.base_pool.specs.Laws.{IsNoLower, IsServedTo, LowersNothing, NothingFalls}
use Rattle.base_pool.specs.Serves.{IsSpelled, Serves, epoch_put, is_taken, state_put}
use Rattle.base_pool.specs.Views.{BaseView, Has, IsLive, SoundBase}
use Rattle.base_pool.specs.declared.fault.BaseFault.{BaseFault}
use Rattle.base_pool.proofs.Outcomes.{before_has, serve_cases}
use Rattle.base_pool.proofs.Sounding.{epoch_changed, epoch_rises}
use Rattle.base_pool.proofs.Words.{HasBy, stops_between}

-- ---- what is put is newer

fresh_newer : (s t : NameState) (x : Acted) → CountsAround s (state_after s x) x → put_by x ≡ Some t → s.seq < t.seq
fresh_newer s t (Fresh u (Done ver)) counts e = let same = some_is u t e in omega (arith, counts.0, ap (λ (y : NameState). y.seq) same)
fresh_newer s t (Fresh u (Refused at why ver)) counts e = let same = some_is u t e in omega (arith, counts.0, ap (λ (y : NameState). y.seq) same)
fresh_newer s t (Again reply) counts e = absurd (cc)
fresh_newer s t (Stale kept) counts e = absurd (cc)
fresh_newer s t (Worn limit) counts e = absurd (cc)

newer_by : (s u t : NameState) (b : Bool) → nat_lt s.seq u.seq ≡ b → cond b (Some u) None ≡ Some t → s.seq < t.seq
newer_by s u t true less e = let same = some_is u t e in omega (arith, ltb-true s.seq u.seq less, ap (λ (y : NameState). y.seq) same)
newer_by s u t false less e = absurd (cc)

-- a message that puts a state is of the base's own epoch
in_put : (have e : ℕ) (x : Served) (t : NameState) (b c : Bool) → nat_lt e have ≡ b → nat_lt have e ≡ c → (in_epoch have e x).put ≡ Some t
    → ((e == have) ≡ true) × (x.put ≡ Some t)
in_put have e x t true c low high put =
    let none : ◌≡◌ {A = Option NameState} None (Some t)
    = sym (ap (λ b. (cond b (replies have (BaseReply.OldEpoch have e)) (cond (nat_lt have e) (replies have (BaseReply.NotFenced have e)) x)).put) low) ∙ put in
    absurd (cc)
in_put have e x t false true low high put =
    let none : ◌≡◌ {A = Option NameState} None (Some t)
    = sym (ap (λ b. (cond b (replies have (BaseReply.OldEpoch have e)) (cond (nat_lt have e) (replies have (BaseReply.NotFenced have e)) x)).put) low
    ∙ ap (λ b. (cond b (replies have (BaseReply.NotFenced have e)) x).put) high) ∙ put in
    absurd (cc)
in_put have e x t false false low high put = (
  eq-eqb e have (omega (arith, ltb-false e have low, ltb-false have e high)),
  sym (ap (λ b. (cond b (replies have (BaseReply.OldEpoch have e)) (cond (nat_lt have e) (replies have (BaseReply.NotFenced have e)) x)).put) low
      ∙ ap (λ b. (cond b (replies have (BaseReply.NotFenced have e)) x).put) high) ∙ put,
)

fence_put : (have e : ℕ) (s t : NameState) (b : Bool) → nat_lt e have ≡ b → (served have s (BaseMsg.Fence e)).put ≡ Some t → ⊥
fence_put have e s t true low put =
    let none : ◌≡◌ {A = Option NameState} None (Some t) = sym (ap (λ b. (cond b (replies have (BaseReply.OldEpoch have e)) (replies e (BaseReply.Fenced e))).put) low) ∙ put in
    absurd (cc)
fence_put have e s t false low put =
    let none : ◌≡◌ {A = Option NameState} None (Some t) = sym (ap (λ b. (cond b (replies have (BaseReply.OldEpoch have e)) (replies e (BaseReply.Fenced e))).put) low) ∙ put in
    absurd (cc)

own_put : (have e : ℕ) (x : Served) (t : NameState) → (in_epoch have e x).put ≡ Some t → ((e == have) ≡ true) × (x.put ≡ Some t)
own_put have e x t put = in_put have e x t (nat_lt e have) (nat_lt have e) refl refl put

-- a state that a message puts has had more requests than the one before
pub put_newer : (have : ℕ) (s t : NameState) (msg : BaseMsg) → (served have s msg).put ≡ Some t → (is_taken have msg ≡ true) × (s.seq < t.seq)
put_newer have s t (BaseMsg.Fence e) put = absurd (fence_put have e s t (nat_lt e have) refl put)
put_newer have s t (BaseMsg.GetChunk e op name at) put = let h = (own_put have e _ t put).1 in absurd (cc)
put_newer have s t (BaseMsg.Look e op name v) put = let h = (own_put have e _ t put).1 in absurd (cc)
put_newer have s t (BaseMsg.Write e op r) put =
    let h = own_put have e _ t put in
    (h.0, fresh_newer s t (act s r) (counts_rise s r).0 h.1)
put_newer have s t (BaseMsg.Install e op name u) put =
    let h = own_put have e _ t put in
    (h.0, newer_by s u t (nat_lt s.seq u.seq) refl h.1)

-- ---- one name of a map with a message's changes

same_seq : (s r : NameState) → s ≡ r → s.seq ≤ r.seq
same_seq s r e = let f : s.seq ≡ r.seq = ap (λ (y : NameState). y.seq) e in omega (arith, f)

here_or_there : (t : Table) (name other : List ℕ) (s r x : NameState) (b : Bool) → eq_by_cmp name_cmp name other ≡ b → SpellsState (state_bytes x) x
    → ((q : NameState) → Has other q t → q.seq ≤ x.seq) → Has name s t → IsStateOf (cond b (Some (state_bytes x)) (fin.get t (state_key name))) r → s.seq ≤ r.seq
here_or_there t name other s r x true tied spelled newer has is =
    let same : name ≡ other = fin.slice_cmp-IsAntisymmetric fin.nat_cmp-IsAntisymmetric name other ((Equal-is (name_cmp name other)).0 tied) in
    let one = state_one (Some (state_bytes x)) x r spelled is in
    let low = newer s (subst (λ n. Has n s t) same has) in
    omega (arith, low, ap (λ (y : NameState). y.seq) one)
here_or_there t name other s r x false tied spelled newer has is = same_seq s r (state_one (fin.get t (state_key name)) s r has is)

-- what a message puts is newer than what the map has of its name
abbrev IsNewer : Option (List ℕ) → Option NameState → Table → Type 0
IsNewer name put t = (n : List ℕ) (x : NameState) → name ≡ Some n → put ≡ Some x → (q : NameState) → Has n q t → q.seq ≤ x.seq

state_seq : (of : Option (List ℕ)) (put : Option NameState) (t : Table) (name : List ℕ) (s r : NameState) → IsSpelled put → IsNewer of put t
    → Has name s t → Has name r (changed_by t (state_put of put)) → s.seq ≤ r.seq
state_seq None put t name s r spelled newer has is = same_seq s r (state_one (fin.get t (state_key name)) s r has is)
state_seq (Some other) None t name s r spelled newer has is = same_seq s r (state_one (fin.get t (state_key name)) s r has is)
state_seq (Some other) (Some x) t name s r spelled newer has is =
    here_or_there t name other s r x (eq_by_cmp name_cmp name other) refl spelled (newer other x refl refl) has
    (subst (λ o. IsStateOf o r) (fin.get-insert nat_list_cmp_total t (state_key other) (state_bytes x) (state_key name)) is)

-- the key of the epoch is that of no name
name_stays : (t : Table) (name v : List ℕ) → fin.get (fin.insert t epoch_key v) (state_key name) ≡ fin.get t (state_key name)
name_stays t name v = fin.get-insert nat_list_cmp_total t epoch_key v (state_key name)

changed_seq : (epoch : ℕ) (of : Option (List ℕ)) (put : Option NameState) (t : Table) (name : List ℕ) (s r : NameState) (raised : Bool) → IsSpelled put → IsNewer of put t
    → Has name s t → Has name r (changed_by t (cond raised (Put epoch_key (big_bytes 8 epoch) ∷ []) [] ++ state_put of put)) → s.seq ≤ r.seq
changed_seq epoch of put t name s r false spelled newer has is = state_seq of put t name s r spelled newer has is
changed_seq epoch of put t name s r true spelled newer has is =
    state_seq of put (fin.insert t epoch_key (big_bytes 8 epoch)) name s r spelled
    (λ n x e f q there. newer n x e f q (subst (λ o. IsStateOf o q) (name_stays t n (big_bytes 8 epoch)) there))
    (subst (λ o. IsStateOf o s) (sym (name_stays t name (big_bytes 8 epoch))) has) is

-- ---- the whole map

before_one : (a : Option (List CrashMaps)) (t u : Table) → IsBeforeBy a t → IsBeforeBy a u → t ≡ u
before_one None t u h k = absurd h
before_one (Some ss) t u h k = h ∙ sym k

before_left : (a : Option (List CrashMaps)) (t : Table) → IsBeforeBy a t → IsLeftBy a t
before_left None t h = h
before_left (Some ss) t h = inl h

lower_itself : (t u : Table) → t ≡ u → IsNoLower t u
lower_itself t u same = record {
  epochs = λ e f at is. let one = epoch_one (fin.get u epoch_key) e f (subst (IsAtEpoch e) same at) is in omega (arith, one);
  seqs = λ name s r has is. same_seq s r (state_one (fin.get u (state_key name)) s r (subst (Has name s) same has) is);
}

-- what a message puts is newer than what the map before has
newer_than : (msg : BaseMsg) (old : BaseView) (t : Table) (h : IsServedTo msg old t) → IsNewer (name_in msg) (served old.epoch h.state msg).put h.was
newer_than msg old t h n x named put q has =
    let p = put_newer old.epoch h.state x msg put in
    let there : Has n h.state h.was = subst (λ o. HasBy o h.state h.was) named (before_has old.store (HasBy (name_in msg) h.state) h.was h.before (h.on.read p.0)) in
    let one = state_one (fin.get h.was (state_key n)) q h.state has there in
    omega (arith, p.1, ap (λ (y : NameState). y.seq) one)

lower_served : (msg : BaseMsg) (old : BaseView) (u : Table) (h : IsServedTo msg old u) → IsLive old → SoundBase old → IsNoLower h.was u
lower_served msg old u h on sound =
    let x = served old.epoch h.state msg in
    let at : IsAtEpoch old.epoch h.was = before_has old.store (IsAtEpoch old.epoch) h.was h.before (sound.epoch on.opened on.live) in
    let rises = epoch_rises old.epoch h.state msg in
    record {
      epochs = λ e f was is.
          let one = epoch_one (fin.get h.was epoch_key) e old.epoch was at in
          let two = epoch_one (fin.get u epoch_key) f x.epoch is
          (subst (IsAtEpoch x.epoch) (sym h.is) (epoch_changed old.epoch x.epoch (name_in msg) x.put h.was rises (h.low sound.low) at)) in
          omega (arith, one, two, rises);
      seqs = λ name s r has is.
          changed_seq x.epoch (name_in msg) x.put h.was name s r (nat_lt old.epoch x.epoch) h.spelled (newer_than msg old u h) has (subst (Has name r) h.is is);
    }

memory_rises : (msg : BaseMsg) (old new : BaseView) (result : Result BaseReply BaseFault) → Serves msg old new result → old.epoch ≤ new.epoch
memory_rises msg old new result h =
    serve_cases msg old new (λ _. old.epoch ≤ new.epoch)
    (λ reply a. omega (arith, epoch_rises old.epoch a.state msg, a.epoch))
    (λ e op used need limit l. omega (arith, l.stays.epoch))
    (λ fault taken stays. omega (arith, stays.epoch))
    (λ r. omega (arith, r.fails.epoch))
    (λ c. omega (arith, c.fails.epoch))
    result h

pub nothing_falls : NothingFalls
nothing_falls msg old new result h on sound = record {
  epoch = memory_rises msg old new result h;
  maps = λ t u before left. elim (stops_between msg old new result h u left) [
    | inl was ↦ lower_itself t u ((live_one old.store sound.sound on.live).only t u (before_left old.store.moments t before) was)
    | inr to ↦ subst (λ w. IsNoLower w u) (before_one old.store.moments to.was t to.before before) (lower_served msg old u to on sound)
  ];
}
