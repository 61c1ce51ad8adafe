-- How messages end, case by case; and what holds of the map before.
use Rattle.std.proofs.Common.{◌≡◌, ◌≢◌, ◌⊎◌, inl, inr, ℕ, Bool, true, false, not, cond, List, [], ◌∷◌, ◌++◌, Option, None, Some, Result, Ok, Err, refl, sym, ap, subst, ◌∙◌, ◌<◌, ◌≤◌, arith}
use Rattle.std.specs.Prelude.{nat_lt, ◌==◌, is_some}
use Rattle.std.proofs.lemmas.Bool.{le-ltb, lt-ltb, ne_eqb, true≢false}
use Rattle.obj_model.specs.declared.change.Change.{Change}
use Rattle.obj_model.specs.declared.state.NameState.{NameState}
use Rattle.pool_keys.specs.Left.{IsBefore, IsBeforeBy, IsLeft, IsLeftSince}
use Rattle.pool_keys.specs.Laws.{IsChanged}
use Rattle.pool_keys.proofs.Leaving.{commit_leaves}
use Rattle.store_face.specs.Calls.{Stays}
use Rattle.store_face.specs.Rooms.{Lack}
use Rattle.store_face.specs.Tables.{Table}
use Rattle.store_face.specs.Views.{CrashMaps, Holds, StoreView, no_map}
use Rattle.store_face.specs.declared.fault.StoreFault.{StoreFault}
use Rattle.store_face.specs.declared.fault.StoreFault.TheVariants as store
use Rattle.tier_outside.specs.Moments.{Now as NowBy}
use Rattle.tier_types.specs.Serving.{Served, epoch_in, in_epoch, name_in, replies, served}
use Rattle.tier_types.specs.declared.message.BaseMsg.{BaseMsg}
use Rattle.tier_types.specs.declared.message.BaseReply.{BaseReply}
use Rattle.base_pool.specs.Serves.{Answers, Commits, FailsCommit, FailsReading, Faults, IsDamaged, LacksMemory, LacksRoom, Makes, Replies, Serves, StaysBase, WearsEpoch, WearsStore, changes_by, epoch_put, is_taken, state_put}
use Rattle.base_pool.specs.Views.{BaseView}
use Rattle.base_pool.specs.declared.fault.BaseFault.{BaseFault}
use Rattle.base_pool.specs.declared.fault.BaseFault.TheVariants.{Store, BadRecord}
use Rattle.base_pool.proofs.Readings.{no_raise, own_changes}
use Rattle.base_pool.proofs.Taking.{nothing_put}

-- what follows of each way in which a message may be answered
pub reply_cases : (msg : BaseMsg) (old new : BaseView) (P : BaseReply → Type 0)
    → ((reply : BaseReply) → Answers msg old new reply → P reply)
    → ((e op used need limit : ℕ) → LacksRoom msg old new e op (record { used = used; need = need; limit = limit }) → P (BaseReply.NoSpace e op used need limit))
    → (reply : BaseReply) → Replies msg old new reply → P reply
reply_cases msg old new P done lacks (BaseReply.Fenced e) h = done (BaseReply.Fenced e) h
reply_cases msg old new P done lacks (BaseReply.Chunk e op chunk) h = done (BaseReply.Chunk e op chunk) h
reply_cases msg old new P done lacks (BaseReply.Looked e op looked) h = done (BaseReply.Looked e op looked) h
reply_cases msg old new P done lacks (BaseReply.Wrote e op acted) h = done (BaseReply.Wrote e op acted) h
reply_cases msg old new P done lacks (BaseReply.Installed e op seq) h = done (BaseReply.Installed e op seq) h
reply_cases msg old new P done lacks (BaseReply.NoSpace e op used need limit) h = lacks e op used need limit h
reply_cases msg old new P done lacks (BaseReply.OldEpoch have got) h = done (BaseReply.OldEpoch have got) h
reply_cases msg old new P done lacks (BaseReply.NotFenced have got) h = done (BaseReply.NotFenced have got) h

-- what follows of each way in which a message may end: answered; nothing changed; a reading failed; a
-- commit did
pub serve_cases : (msg : BaseMsg) (old new : BaseView) (P : Result BaseReply BaseFault → Type 0)
    → ((reply : BaseReply) → Answers msg old new reply → P (Ok reply))
    → ((e op used need limit : ℕ) → LacksRoom msg old new e op (record { used = used; need = need; limit = limit }) → P (Ok (BaseReply.NoSpace e op used need limit)))
    → ((fault : BaseFault) → is_taken old.epoch msg ≡ true → StaysBase old new → P (Err fault))
    → (FailsReading msg old new → P (Err (Store store.Disk)))
    → (FailsCommit msg old new → P (Err (Store store.Disk)))
    → (result : Result BaseReply BaseFault) → Serves msg old new result → P result
serve_cases msg old new P done lacks stays reading commit (Ok reply) h = reply_cases msg old new (λ r. P (Ok r)) done lacks reply h
serve_cases msg old new P done lacks stays reading commit (Err (Store store.Disk)) (inl h) = reading h
serve_cases msg old new P done lacks stays reading commit (Err (Store store.Disk)) (inr h) = commit h
serve_cases msg old new P done lacks stays reading commit (Err (Store (store.BadImage at))) h = absurd h
serve_cases msg old new P done lacks stays reading commit (Err (Store (store.NoSpace used need limit))) h = absurd h
serve_cases msg old new P done lacks stays reading commit (Err (Store (store.Worn limit))) (inl h) = stays (Store (store.Worn limit)) h.taken h.stays
serve_cases msg old new P done lacks stays reading commit (Err (Store (store.Worn limit))) (inr h) = stays (Store (store.Worn limit)) h.commits.taken h.stays
serve_cases msg old new P done lacks stays reading commit (Err (Store store.NoMemory)) h = stays (Store store.NoMemory) h.taken h.stays
serve_cases msg old new P done lacks stays reading commit (Err (BadRecord name)) h = stays (BadRecord name) h.taken h.stays

-- ---- the map before

before_by : (a : Option (List CrashMaps)) (P : Table → Type 0) (t : Table) → IsBeforeBy a t → NowBy no_map a (λ s. P s.before.table) → P t
before_by None P t is h = absurd is
before_by (Some ss) P t is h = subst P (sym is) h

-- what a store holds, its map before has
pub before_has : (v : StoreView) (P : Table → Type 0) (t : Table) → IsBefore v t → Holds v P → P t
before_has v P t is h = before_by v.moments P t is h

-- ---- what is left

pub makes_leave : (changes : List Change) (a b : StoreView) → Makes changes a b → (u : Table) → IsLeftSince a b u → IsLeft a u ⊎ IsChanged changes a u
makes_leave [] a b stays u left = inl (commit_leaves [] a b (Err store.NoMemory) stays u left)
makes_leave (c ∷ cs) a b made u left = commit_leaves (c ∷ cs) a b (Ok tt) made u left

pub stays_leave : (a b : StoreView) → Stays a b → (u : Table) → IsLeftSince a b u → IsLeft a u
stays_leave a b stays u left = commit_leaves [] a b (Err store.NoMemory) stays u left

-- ---- messages that change nothing

-- where nothing is changed nothing moves
pub quiet_stays : (msg : BaseMsg) (old new : BaseView) (reply : BaseReply) (h : Answers msg old new reply) (told : BaseReply)
    → served old.epoch h.state msg ≡ replies old.epoch told → (reply ≡ told) × StaysBase old new
quiet_stays msg old new reply h told e = (
  h.told ∙ ap (λ (x : Served). x.reply) e,
  record {
    store = subst (λ cs. Makes cs old.store new.store) (own_changes msg old.epoch h.state None told e ∙ nothing_put (name_in msg)) h.makes;
    epoch = h.epoch ∙ ap (λ (x : Served). x.epoch) e;
    opened = h.opened;
  },
)

-- such a message needs no commit
pub quiet_needs : (msg : BaseMsg) (old : BaseView) (s : NameState) (told : BaseReply) → served old.epoch s msg ≡ replies old.epoch told → Commits msg old s → ⊥
quiet_needs msg old s told e h = h.some (own_changes msg old.epoch s None told e ∙ nothing_put (name_in msg))

-- ---- messages of older epochs

old_served_by : (have e : ℕ) (x : Served) → e < have → in_epoch have e x ≡ replies have (BaseReply.OldEpoch have e)
old_served_by have e x less =
    ap (λ t. cond t (replies have (BaseReply.OldEpoch have e)) (cond (nat_lt have e) (replies have (BaseReply.NotFenced have e)) x)) (lt-ltb e have less)

pub old_served : (have : ℕ) (s : NameState) (msg : BaseMsg) → epoch_in msg < have → served have s msg ≡ replies have (BaseReply.OldEpoch have (epoch_in msg))
old_served have s (BaseMsg.Fence e) less = ap (λ t. cond t (replies have (BaseReply.OldEpoch have e)) (replies e (BaseReply.Fenced e))) (lt-ltb e have less)
old_served have s (BaseMsg.GetChunk e op name at) less = old_served_by have e _ less
old_served have s (BaseMsg.Look e op name v) less = old_served_by have e _ less
old_served have s (BaseMsg.Write e op r) less = old_served_by have e _ less
old_served have s (BaseMsg.Install e op name t) less = old_served_by have e _ less

apart : (have e : ℕ) → e < have → (e == have) ≡ false
apart have e less = ne_eqb e have (λ same. omega (arith, same, less))

pub old_untaken : (have : ℕ) (msg : BaseMsg) → epoch_in msg < have → is_taken have msg ≡ false
old_untaken have (BaseMsg.Fence e) less = ap not (lt-ltb e have less)
old_untaken have (BaseMsg.GetChunk e op name at) less = apart have e less
old_untaken have (BaseMsg.Look e op name v) less = apart have e less
old_untaken have (BaseMsg.Write e op r) less = apart have e less
old_untaken have (BaseMsg.Install e op name t) less = apart have e less

-- ---- messages of epochs that the base was not told of

ahead_served_by : (have e : ℕ) (x : Served) → have < e → in_epoch have e x ≡ replies have (BaseReply.NotFenced have e)
ahead_served_by have e x more =
    ap (λ t. cond t (replies have (BaseReply.OldEpoch have e)) (cond (nat_lt have e) (replies have (BaseReply.NotFenced have e)) x)) (le-ltb e have (omega (arith, more)))
    ∙ ap (λ t. cond t (replies have (BaseReply.NotFenced have e)) x) (lt-ltb have e more)

pub ahead_served : (have : ℕ) (s : NameState) (msg : BaseMsg) → is_some (name_in msg) ≡ true → have < epoch_in msg
    → served have s msg ≡ replies have (BaseReply.NotFenced have (epoch_in msg))
ahead_served have s (BaseMsg.Fence e) named more = absurd (true≢false (sym named))
ahead_served have s (BaseMsg.GetChunk e op name at) named more = ahead_served_by have e _ more
ahead_served have s (BaseMsg.Look e op name v) named more = ahead_served_by have e _ more
ahead_served have s (BaseMsg.Write e op r) named more = ahead_served_by have e _ more
ahead_served have s (BaseMsg.Install e op name t) named more = ahead_served_by have e _ more

above : (have e : ℕ) → have < e → (e == have) ≡ false
above have e more = ne_eqb e have (λ same. omega (arith, same, more))

pub ahead_untaken : (have : ℕ) (msg : BaseMsg) → is_some (name_in msg) ≡ true → have < epoch_in msg → is_taken have msg ≡ false
ahead_untaken have (BaseMsg.Fence e) named more = absurd (true≢false (sym named))
ahead_untaken have (BaseMsg.GetChunk e op name at) named more = above have e more
ahead_untaken have (BaseMsg.Look e op name v) named more = above have e more
ahead_untaken have (BaseMsg.Write e op r) named more = above have e more
ahead_untaken have (BaseMsg.Install e op name t) named more = above have e more
