-- What follows of a base: refusals, installations, requests that come again, readings, chunks.
use Rattle.std.proofs.Common.{◌≡◌, ◌≢◌, ◌⊎◌, inl, inr, ℕ, Bool, true, false, cond, List, [], ◌∷◌, ◌++◌, Option, None, Some, Result, Ok, Err, refl, sym, ap, subst, ◌∙◌, ◌<◌, ◌≤◌, arith}
use Rattle.std.specs.Prelude.{nat_lt}
use Rattle.std.specs.FinMap as fin
use Rattle.std.proofs.lemmas.Bool.{le-ltb, true≢false}
use Rattle.tier_outside.specs.Moments.{Now as NowBy, grown}
use Rattle.tier_outside.proofs.Moments.{now_two}
use Rattle.copy_chunk.specs.Chunks.{chunk_at, chunks_of}
use Rattle.copy_chunk.specs.Gathers.{IsFront, joined, wanted}
use Rattle.copy_chunk.specs.declared.chunk.Chunk.{Chunk}
use Rattle.copy_chunk.specs.declared.chunk.Cursor.{Cursor}
use Rattle.copy_chunk.proofs.Fronts.{chunks_join, front_goes_on, whole_front}
use Rattle.obj_model.specs.Limits.{number_limit}
use Rattle.obj_model.specs.declared.reply.Reply.{Reply}
use Rattle.obj_model.specs.declared.req.Req.{Req}
use Rattle.obj_model.specs.declared.state.NameState.{NameState}
use Rattle.obj_ops.specs.Acts.{act}
use Rattle.obj_ops.specs.declared.request.Acted.{Acted}
use Rattle.obj_ops.specs.declared.request.Acted.TheVariants.{Fresh, Again, Stale, Worn}
use Rattle.obj_ops.proofs.Replays.{acted_kept}
use Rattle.pool_keys.specs.Keys.{state_key}
use Rattle.pool_keys.specs.Values.{IsStateOf}
use Rattle.pool_keys.specs.Laws.{IsChanged}
use Rattle.pool_keys.specs.Left.{AreTold, IsBefore, IsLeft, IsLeftSince, Tells}
use Rattle.pool_keys.proofs.Bases.{state_one}
use Rattle.pool_keys.proofs.Leaving.{commit_leaves, reading_leaves}
use Rattle.rec_codec.specs.Spelling.{SpellsState, state_bytes}
use Rattle.store_face.specs.Calls.{Made, Stays}
use Rattle.store_face.specs.Tables.{Table, changed_by}
use Rattle.store_face.specs.Views.{CrashMaps, Holds, StoreView, no_map}
use Rattle.store_face.specs.declared.fault.StoreFault.TheVariants as store
use Rattle.tier_types.specs.Serving.{Served, epoch_in, in_epoch, name_in, put_by, replies, served, told_of}
use Rattle.tier_types.specs.declared.message.BaseActed.{BaseActed}
use Rattle.tier_types.specs.declared.message.BaseMsg.{BaseMsg}
use Rattle.tier_types.specs.declared.message.BaseReply.{BaseReply}
use Rattle.base_pool.specs.Laws.{AheadIsRefused, ChunksGather, GoesOn, IsServedTo, LeavesMap, LowerInstallLeaves, OldIsRefused, ReadingsLeave, StopsBetween, WritesOnce}
use Rattle.base_pool.specs.Serves.{Answers, Commits, FailsCommit, FailsReading, IsOn, IsSpelled, LacksRoom, Makes, Serves, StaysBase, changes_by, is_taken, state_put}
use Rattle.base_pool.specs.Views.{BaseView, Has}
use Rattle.base_pool.specs.declared.fault.BaseFault.{BaseFault}
use Rattle.base_pool.specs.declared.fault.BaseFault.TheVariants.{Store, BadRecord}
use Rattle.base_pool.proofs.Acting.{put_at, served_install, served_write}
use Rattle.base_pool.proofs.Outcomes.{ahead_served, ahead_untaken, before_has, makes_leave, old_served, old_untaken, quiet_needs, quiet_stays, reply_cases, serve_cases, stays_leave}
use Rattle.base_pool.proofs.Readings.{not_below, own_changes, own_epoch, own_taken}
use Rattle.base_pool.proofs.Sounding.{get_put, made_holds}
use Rattle.base_pool.proofs.Taking.{nothing_put}

-- ---- what a stop leaves

served_to : (msg : BaseMsg) (old : BaseView) (s : NameState) (u : Table) → IsOn msg old s
    → (old.epoch ≤ number_limit → (served old.epoch s msg).epoch ≤ number_limit) → IsSpelled (served old.epoch s msg).put
    → IsLeft old.store u ⊎ IsChanged (changes_by old.epoch s msg) old.store u → IsLeft old.store u ⊎ IsServedTo msg old u
served_to msg old s u on low spelled (inl left) = inl left
served_to msg old s u on low spelled (inr h) = inr (record { was = h.was; before = h.before; state = s; on = on; low = low; spelled = spelled; is = h.is })

pub stops_between : StopsBetween
stops_between msg old new result h u =
    serve_cases msg old new (λ _. IsLeftSince old.store new.store u → IsLeft old.store u ⊎ IsServedTo msg old u)
    (λ reply a left. served_to msg old a.state u a.on (λ few. subst (λ e. e ≤ number_limit) a.epoch (a.low few)) a.spelled (makes_leave (changes_by old.epoch a.state msg) old.store new.store a.makes u left))
    (λ e op used need limit l left. inl (stays_leave old.store new.store l.stays.store u left))
    (λ fault taken stays left. inl (stays_leave old.store new.store stays.store u left))
    (λ r left. inl ((reading_leaves [] old.store new.store (Err store.Disk) (r.fails.fails, r.same)).since u left))
    (λ c left. served_to msg old c.state u c.commits.on (λ _. c.commits.low) c.commits.spelled (commit_leaves (changes_by old.epoch c.state msg) old.store new.store (Err store.Disk) c.made u left))
    result h

-- ---- refusals

pub old_is_refused : OldIsRefused
old_is_refused msg old new result h less =
    let off = old_untaken old.epoch msg less in
    serve_cases msg old new (λ r. (r ≡ Ok (BaseReply.OldEpoch old.epoch (epoch_in msg))) × StaysBase old new)
    (λ reply a. let q = quiet_stays msg old new reply a (BaseReply.OldEpoch old.epoch (epoch_in msg)) (old_served old.epoch a.state msg less) in (ap Ok q.0, q.1))
    (λ e op used need limit l. absurd (true≢false (sym l.commits.taken ∙ off)))
    (λ fault taken stays. absurd (true≢false (sym taken ∙ off)))
    (λ r. absurd (true≢false (sym r.taken ∙ off)))
    (λ c. absurd (true≢false (sym c.commits.taken ∙ off)))
    result h

pub ahead_is_refused : AheadIsRefused
ahead_is_refused msg old new result h named more =
    let off = ahead_untaken old.epoch msg named more in
    serve_cases msg old new (λ r. (r ≡ Ok (BaseReply.NotFenced old.epoch (epoch_in msg))) × StaysBase old new)
    (λ reply a. let q = quiet_stays msg old new reply a (BaseReply.NotFenced old.epoch (epoch_in msg)) (ahead_served old.epoch a.state msg named more) in (ap Ok q.0, q.1))
    (λ e op used need limit l. absurd (true≢false (sym l.commits.taken ∙ off)))
    (λ fault taken stays. absurd (true≢false (sym taken ∙ off)))
    (λ r. absurd (true≢false (sym r.taken ∙ off)))
    (λ c. absurd (true≢false (sym c.commits.taken ∙ off)))
    result h

-- ---- installations

-- a name, where there is one, has the state
abbrev pub HasBy : Option (List ℕ) → NameState → Table → Type 0
HasBy name s t = elim name [ None ↦ Unit {0} | Some n ↦ Has n s t ]

-- the state that a message was answered on is the one that its name has
pub on_state : (msg : BaseMsg) (old : BaseView) (name : List ℕ) (s t : NameState) (m : Table) → is_taken old.epoch msg ≡ true → name_in msg ≡ Some name → IsOn msg old s
    → IsBefore old.store m → Has name t m → s ≡ t
on_state msg old name s t m taken named on before has =
    state_one (fin.get m (state_key name)) s t (before_has old.store (Has name s) m before (subst (λ n. Holds old.store (HasBy n s)) named (on.read taken))) has

pub lower_install : LowerInstallLeaves
lower_install op name t s old new reply m h before has low =
    let msg = BaseMsg.Install old.epoch op name t in
    let told = BaseReply.Installed old.epoch op t.seq in
    let at : (x : NameState) → IsOn msg old x → served old.epoch x msg ≡ replies old.epoch told
    = λ x on. let same = on_state msg old name x s m (own_taken old.epoch) refl on before has in
    served_install old.epoch op name x t None (ap (λ c. cond c (Some t) None) (le-ltb x.seq t.seq (omega (arith, low, ap (λ (y : NameState). y.seq) same)))) in
    reply_cases msg old new (λ r. (r ≡ told) × StaysBase old new)
    (λ r a. quiet_stays msg old new r a told (at a.state a.on))
    (λ e o used need limit l. absurd (quiet_needs msg old l.state told (at l.state l.commits.on) l.commits))
    reply h

-- ---- requests

-- a request that is told as fresh acted
pub acted_of : (have op : ℕ) (reply : Reply) (x : Acted) → BaseReply.Wrote have op (BaseActed.Fresh reply) ≡ BaseReply.Wrote have op (told_of x) → (t : NameState) × (x ≡ Fresh t reply)
acted_of have op reply (Fresh t other) e = (t, ap (Fresh t) (same reply other e))
  where
    same : (a b : Reply) → BaseReply.Wrote have op (BaseActed.Fresh a) ≡ BaseReply.Wrote have op (BaseActed.Fresh b) → b ≡ a
    same a b e = cc
acted_of have op reply (Again other) e = absurd (cc)
acted_of have op reply (Stale kept) e = absurd (cc)
acted_of have op reply (Worn limit) e = absurd (cc)

pub anything : (v : StoreView) → Holds v (λ _. Unit {0})
anything v = by_moments v.moments
  where
    by_moments : (ms : Option (List CrashMaps)) → NowBy no_map ms (λ _. Unit {0})
    by_moments None = tt
    by_moments (Some ms) = tt

-- what two facts of the map now say of plain values
said_by : (X : Type 0) (ms : Option (List CrashMaps)) → AreTold ms → NowBy no_map ms (λ _. X) → X
said_by X None told h = absurd told
said_by X (Some ms) told h = h

told_grown : (a b : Option (List CrashMaps)) (more : List CrashMaps) → b ≡ grown a more → AreTold a → AreTold b
told_grown None b more e h = absurd h
told_grown (Some ms) None more e h = absurd (cc)
told_grown (Some ms) (Some ns) more e h = tt

-- the state that a request left is there
left_there : (r : Req) (t : NameState) (a b : StoreView) → SpellsState (state_bytes t) t → Made (put_at r.name t ∷ []) a b → Holds b (Has r.name t)
left_there r t a b spelled made =
    made_holds (put_at r.name t ∷ []) a b (λ _. Unit {0}) (Has r.name t) made
    (λ m _. subst (λ o. IsStateOf o t) (sym (get_put m (state_key r.name) (state_bytes t))) spelled) (anything a)

-- the request that comes again, behind the one that acted
again_told : (op : ℕ) (r : Req) (reply : Reply) (t s : NameState) (e : ℕ) (mid new : BaseView) (told : BaseReply) → mid.epoch ≡ e → act t r ≡ Again reply
    → Tells mid.store → Holds mid.store (Has r.name t) → Serves (BaseMsg.Write e op r) mid new (Ok told)
    → (told ≡ BaseReply.Wrote e op (BaseActed.Again reply)) × StaysBase mid new
again_told op r reply t s e mid new told here acts tells has h =
    let msg = BaseMsg.Write e op r in
    let answer = BaseReply.Wrote e op (BaseActed.Again reply) in
    let taken : is_taken mid.epoch msg ≡ true = subst (λ x. is_taken x msg ≡ true) (sym here) (own_taken e) in
    let at : (x : NameState) → IsOn msg mid x → served mid.epoch x msg ≡ replies mid.epoch answer
    = λ x on.
    let same : x ≡ t = said_by (x ≡ t) mid.store.moments tells
    (now_two no_map mid.store.moments (λ m. Has r.name x m.before.table) (λ m. Has r.name t m.before.table) (λ _. x ≡ t)
    (λ m p q. state_one (fin.get m.before.table (state_key r.name)) x t p q) (on.read taken) has) in
    subst (λ y. served y x msg ≡ replies y answer) (sym here) (served_write e op r x (Again reply) (ap (λ y. act y r) same ∙ acts)) in
    reply_cases msg mid new (λ a. (a ≡ answer) × StaysBase mid new)
    (λ a w. quiet_stays msg mid new a w answer (at w.state w.on))
    (λ f o used need limit l. absurd (quiet_needs msg mid l.state answer (at l.state l.commits.on) l.commits))
    told h

pub writes_once : WritesOnce
writes_once op again r reply old mid new told first second tells =
    let msg = BaseMsg.Write old.epoch op r in
    let plain = served_write old.epoch op r first.state (act first.state r) refl in
    let acted = acted_of old.epoch op reply (act first.state r) (first.told ∙ ap (λ (x : Served). x.reply) plain) in
    let is = served_write old.epoch op r first.state (Fresh acted.0 reply) acted.1 in
    let made : Made (put_at r.name acted.0 ∷ []) old.store mid.store
    = subst (λ cs. Makes cs old.store mid.store) (own_changes msg old.epoch first.state (Some acted.0) (BaseReply.Wrote old.epoch op (BaseActed.Fresh reply)) is) first.makes in
    let spelled : SpellsState (state_bytes acted.0) acted.0 = subst (λ (x : Served). IsSpelled x.put) is first.spelled in
    again_told again r reply acted.0 first.state old.epoch mid new told (first.epoch ∙ ap (λ (x : Served). x.epoch) is)
    (acted_kept first.state r acted.0 reply acted.1) (told_grown old.store.moments mid.store.moments made.between.more made.between.grew tells)
    (left_there r acted.0 old.store mid.store spelled made) second

-- ---- readings

-- a message that only replies, of whatever epoch
quiet_by : (have e : ℕ) (y : BaseReply) (b c : Bool) → nat_lt e have ≡ b → nat_lt have e ≡ c → (r : BaseReply) × (in_epoch have e (replies have y) ≡ replies have r)
quiet_by have e y true c low high = (
  BaseReply.OldEpoch have e,
  ap (λ t. cond t (replies have (BaseReply.OldEpoch have e)) (cond (nat_lt have e) (replies have (BaseReply.NotFenced have e)) (replies have y))) low,
)
quiet_by have e y false true low high = (
  BaseReply.NotFenced have e,
  ap (λ t. cond t (replies have (BaseReply.OldEpoch have e)) (cond (nat_lt have e) (replies have (BaseReply.NotFenced have e)) (replies have y))) low
      ∙ ap (λ t. cond t (replies have (BaseReply.NotFenced have e)) (replies have y)) high,
)
quiet_by have e y false false low high = (
  y,
  ap (λ t. cond t (replies have (BaseReply.OldEpoch have e)) (cond (nat_lt have e) (replies have (BaseReply.NotFenced have e)) (replies have y))) low
      ∙ ap (λ t. cond t (replies have (BaseReply.NotFenced have e)) (replies have y)) high,
)

-- it leaves the map, however it ends
leaves : (msg : BaseMsg) (old new : BaseView) (result : Result BaseReply BaseFault) → ((s : NameState) → (r : BaseReply) × (served old.epoch s msg ≡ replies old.epoch r))
    → Serves msg old new result → LeavesMap old new
leaves msg old new result quiet h =
    serve_cases msg old new (λ _. LeavesMap old new)
    (λ reply a. let q = quiet a.state in let s = (quiet_stays msg old new reply a q.0 q.1).1 in record { moments = s.store.moments; epoch = s.epoch })
    (λ e op used need limit l. record { moments = l.stays.store.moments; epoch = l.stays.epoch })
    (λ fault taken stays. record { moments = stays.store.moments; epoch = stays.epoch })
    (λ r. record { moments = r.same; epoch = r.fails.epoch })
    (λ c. let q = quiet c.state in absurd (quiet_needs msg old c.state q.0 q.1 c.commits))
    result h

pub readings_leave : ReadingsLeave
readings_leave = record {
  looks = λ e op name v old new result h.
      leaves (BaseMsg.Look e op name v) old new result (λ s. quiet_by old.epoch e _ (nat_lt e old.epoch) (nat_lt old.epoch e) refl refl) h;
  chunks = λ e op name at old new result h.
      leaves (BaseMsg.GetChunk e op name at) old new result (λ s. quiet_by old.epoch e _ (nat_lt e old.epoch) (nat_lt old.epoch e) refl refl) h;
}

-- ---- chunks

chunk_told : (have op : ℕ) (a b : Option Chunk) → BaseReply.Chunk have op a ≡ BaseReply.Chunk have op b → a ≡ b
chunk_told have op a b e = cc

pub chunks_gather : ChunksGather
chunks_gather = record {
  more = λ op name at cs s chunk old new m h before has front want.
      let msg = BaseMsg.GetChunk old.epoch op name at in
      let same = on_state msg old name h.state s m (own_taken old.epoch) refl h.on before has in
      let reply : BaseReply.Chunk old.epoch op chunk ≡ BaseReply.Chunk old.epoch op (chunk_at (chunks_of s) at)
      = h.told ∙ ap (λ (x : Served). x.reply) (own_epoch old.epoch (replies old.epoch (BaseReply.Chunk old.epoch op (chunk_at (chunks_of h.state) at))))
      ∙ ap (λ x. BaseReply.Chunk old.epoch op (chunk_at (chunks_of x) at)) same in
      let goes = front_goes_on cs s at front want in
      record {
        next = goes.chunk;
        came = chunk_told old.epoch op chunk (chunk_at (chunks_of s) at) reply ∙ goes.there;
        front = goes.front;
      };
  all = λ cs s front want. ap joined (whole_front s cs front want) ∙ chunks_join s;
}
