-- Messages that put a state: what their commit makes of them.
use Rattle.std.proofs.Common.{◌≡◌, ◌≢◌, inl, inr, ◌<◌, ◌≤◌, ℕ, Bool, true, false, cond, List, [], ◌∷◌, ◌++◌, Option, None, Some, Result, Ok, Err, refl, sym, ap, subst, ◌∙◌, arith}
use Rattle.std.specs.Prelude.{nat_lt}
use Rattle.std.proofs.lemmas.Bool.{lt-ltb, le-ltb}
use Rattle.obj_model.specs.Limits.{number_limit}
use Rattle.obj_model.specs.States.{IsState}
use Rattle.obj_model.specs.declared.change.Change.{Change}
use Rattle.obj_model.specs.declared.change.Change.TheVariants.{Put}
use Rattle.obj_model.specs.declared.reply.Reply.{Reply}
use Rattle.obj_model.specs.declared.req.Req.{Req}
use Rattle.obj_model.specs.declared.state.NameState.{NameState}
use Rattle.obj_ops.specs.Acts.{LeavesLawful, act, state_after}
use Rattle.obj_ops.specs.declared.request.Acted.{Acted}
use Rattle.obj_ops.specs.declared.request.Acted.TheVariants.{Fresh, Again, Stale, Worn}
use Rattle.pool_keys.specs.Keys.{state_key}
use Rattle.rec_codec.specs.Spelling.{state_bytes}
use Rattle.store_face.specs.Calls.{Committed, MayBeMade, Stays}
use Rattle.store_face.specs.Rooms.{Lack}
use Rattle.store_face.specs.Views.{Holds, Lacks, StoreView}
use Rattle.store_face.specs.declared.fault.StoreFault.{StoreFault}
use Rattle.store_face.specs.declared.fault.StoreFault.TheVariants as store
use Rattle.tier_types.specs.Serving.{Served, epoch_in, name_in, opid_in, put_by, served, told_of}
use Rattle.tier_types.specs.declared.message.BaseActed.{BaseActed}
use Rattle.tier_types.specs.declared.message.BaseMsg.{BaseMsg}
use Rattle.tier_types.specs.declared.message.BaseReply.{BaseReply}
use Rattle.base_pool.specs.Serves.{Commits, HasFor, IsSpelled, Serves, changes_by, is_taken, state_put}
use Rattle.base_pool.specs.Steps.{Recalls, Spells, base_of, refused_by}
use Rattle.base_pool.specs.Views.{BaseView, Has}
use Rattle.base_pool.specs.declared.fault.BaseFault.{BaseFault}
use Rattle.base_pool.specs.declared.kept.Kept.{Kept}
use Rattle.base_pool.proofs.Later.{commit_later}
use Rattle.base_pool.proofs.Readings.{kept_given, kept_on, no_memory_then, own_answers, own_changes, own_epoch, own_failed, own_taken}

-- ---- a commit that failed

-- a message with this one change needs a commit
pub needs : (msg : BaseMsg) (v : BaseView) (s : NameState) (c : Change) → is_taken v.epoch msg ≡ true → IsState s → Holds v.store (HasFor msg s)
    → (served v.epoch s msg).epoch ≤ number_limit → IsSpelled (served v.epoch s msg).put → changes_by v.epoch s msg ≡ c ∷ [] → Commits msg v s
needs msg v s c taken lawful has low spelled e = record {
  taken = taken;
  on = record { lawful = lawful; read = λ _. has };
  low = low;
  spelled = spelled;
  some = λ none. let f : c ∷ [] ≡ [] = sym e ∙ none in absurd (cc);
}

-- this holds where the fault is no want of memory
abbrev pub Unless : StoreFault → Type 0 → Type 0
Unless store.Disk X = X
Unless (store.BadImage at) X = X
Unless (store.NoSpace used need limit) X = X
Unless (store.Worn limit) X = X
Unless store.NoMemory X = Unit {0}

pub unless_by : (fault : StoreFault) (s : NameState) (X : Type 0) → Spells s (Err fault) → (IsSpelled (Some s) → X) → Unless fault X
unless_by store.Disk s X h f = f h
unless_by (store.BadImage at) s X h f = f h
unless_by (store.NoSpace used need limit) s X h f = f h
unless_by (store.Worn limit) s X h f = f h
unless_by store.NoMemory s X h f = tt

pub unless_all : (fault : StoreFault) (X : Type 0) → X → Unless fault X
unless_all store.Disk X h = h
unless_all (store.BadImage at) X h = h
unless_all (store.NoSpace used need limit) X h = h
unless_all (store.Worn limit) X h = h
unless_all store.NoMemory X h = tt

-- what is told of a commit that failed
pub refused_serves : (msg : BaseMsg) (have : ℕ) (o : Bool) (a b : StoreView) (s : NameState) (c : Change) (fault : StoreFault)
    → is_taken have msg ≡ true → Unless fault (Commits msg (base_of a have o) s) → changes_by have s msg ≡ c ∷ [] → Committed (c ∷ []) a b (Err fault)
    → Serves msg (base_of a have o) (base_of b have o) (refused_by fault (epoch_in msg) (opid_in msg))
refused_serves msg have o a b s c store.Disk taken commits e h = inr (record {
  state = s;
  commits = commits;
  made = subst (λ cs. MayBeMade cs a b) (sym e) h;
  fails = record { fails = h.fails; epoch = refl; opened = refl };
})
refused_serves msg have o a b s c (store.BadImage at) taken commits e h = absurd h
refused_serves msg have o a b s c (store.NoSpace used need limit) taken commits e h = record {
  state = s;
  commits = commits;
  lacks = subst (λ cs. Lacks a cs (Some (record { used = used; need = need; limit = limit }))) (sym e) h.0;
  epoch_is = refl;
  opid_is = refl;
  stays = record { store = h.1; epoch = refl; opened = refl };
}
refused_serves msg have o a b s c (store.Worn limit) taken commits e h = inr (record {
  state = s;
  commits = commits;
  fits = subst (λ cs. Lacks a cs None) (sym e) h.0;
  worn = h.1;
  limit_is = h.2;
  stays = record { store = h.3; epoch = refl; opened = refl };
})
refused_serves msg have o a b s c store.NoMemory taken commits e h =
    record { taken = taken; stays = record { store = h; epoch = refl; opened = refl } }

-- the change that gives a name a state
abbrev pub put_at : List ℕ → NameState → Change
put_at name t = Put (state_key name) (state_bytes t)

own_refused : (msg : BaseMsg) (have : ℕ) (o : Bool) (a b : StoreView) (s : NameState) (name : List ℕ) (t : NameState) (reply : BaseReply) (fault : StoreFault)
    → is_taken have msg ≡ true → name_in msg ≡ Some name → served have s msg ≡ record { epoch = have; put = Some t; reply = reply } → IsState s → Holds a (HasFor msg s)
    → have ≤ number_limit → Spells t (Err fault) → Committed (put_at name t ∷ []) a b (Err fault) → Serves msg (base_of a have o) (base_of b have o) (refused_by fault (epoch_in msg) (opid_in msg))
own_refused msg have o a b s name t reply fault taken named e lawful has few spells h =
    let low : (served have s msg).epoch ≤ number_limit = subst (λ (x : Served). x.epoch ≤ number_limit) (sym e) few in
    let changes : changes_by have s msg ≡ put_at name t ∷ [] = own_changes msg have s (Some t) reply e ∙ ap (λ n. state_put n (Some t)) named in
    refused_serves msg have o a b s (put_at name t) fault taken (unless_by fault t (Commits msg (base_of a have o) s) spells (λ spelled. needs msg (base_of a have o) s (put_at name t) taken lawful has low (subst (λ (x : Served). IsSpelled x.put) (sym e) spelled) changes)) changes h

-- ---- requests

-- what serving a request makes, by what it does
pub served_write : (have op : ℕ) (r : Req) (s : NameState) (x : Acted) → act s r ≡ x
    → served have s (BaseMsg.Write have op r) ≡ record { epoch = have; put = put_by x; reply = BaseReply.Wrote have op (told_of x) }
served_write have op r s x e =
    own_epoch have (record { epoch = have; put = put_by (act s r); reply = BaseReply.Wrote have op (told_of (act s r)) })
    ∙ ap (λ y. record { epoch = have; put = put_by y; reply = BaseReply.Wrote have op (told_of y) }) e

pub fresh_done : (have op : ℕ) (r : Req) (s t : NameState) (reply : Reply) (o : Bool) (a m b : StoreView) → Stays a m → IsState s → Holds a (Has r.name s)
    → act s r ≡ Fresh t reply → Spells t (Ok tt) → Committed (state_put (Some r.name) (Some t)) m b (Ok tt)
    → Serves (BaseMsg.Write have op r) (base_of a have o) (base_of b have o) (Ok (BaseReply.Wrote have op (BaseActed.Fresh reply)))
fresh_done have op r s t reply o a m b stays lawful has e spells h =
    own_answers (BaseMsg.Write have op r) have o a b s (Some t) (BaseReply.Wrote have op (BaseActed.Fresh reply)) (served_write have op r s (Fresh t reply) e) lawful has spells
    (commit_later a m b (put_at r.name t ∷ []) (Ok tt) stays h)

pub fresh_refused : (have op : ℕ) (r : Req) (s t : NameState) (reply : Reply) (fault : StoreFault) (o : Bool) (a m b : StoreView) → Stays a m → IsState s → Holds a (Has r.name s)
    → act s r ≡ Fresh t reply → have ≤ number_limit → Spells t (Err fault) → Committed (state_put (Some r.name) (Some t)) m b (Err fault)
    → Serves (BaseMsg.Write have op r) (base_of a have o) (base_of b have o) (refused_by fault have op)
fresh_refused have op r s t reply fault o a m b stays lawful has e few spells h =
    own_refused (BaseMsg.Write have op r) have o a b s r.name t (BaseReply.Wrote have op (BaseActed.Fresh reply)) fault (own_taken have) refl
    (served_write have op r s (Fresh t reply) e) lawful has few spells (commit_later a m b (put_at r.name t ∷ []) (Err fault) stays h)

pub fresh_lawful : (s t : NameState) (r : Req) (reply : Reply) → LeavesLawful s r → r.tid ≤ number_limit → IsState s → act s r ≡ Fresh t reply → IsState t
fresh_lawful s t r reply leaves low lawful e = subst (λ x. IsState (state_after s x)) e (leaves low lawful)

-- a request that did not act changes nothing
pub unacted_given : (have op : ℕ) (r : Req) (x : Acted) (o : Bool) (a b : StoreView) (k : Kept) → put_by x ≡ None → Recalls r.name a b (Ok k) → act k.state r ≡ x
    → Serves (BaseMsg.Write have op r) (base_of a have o) (base_of b have o) (Ok (BaseReply.Wrote have op (told_of x)))
unacted_given have op r x o a b k none h e =
    own_answers (BaseMsg.Write have op r) have o a b k.state None (BaseReply.Wrote have op (told_of x))
    (served_write have op r k.state x e ∙ ap (λ p. record { epoch = have; put = p; reply = BaseReply.Wrote have op (told_of x) }) none) h.1 h.2 tt h.3

pub write_failed : (have op : ℕ) (r : Req) (o : Bool) (a b : StoreView) (fault : BaseFault) → Recalls r.name a b (Err fault)
    → Serves (BaseMsg.Write have op r) (base_of a have o) (base_of b have o) (Err fault)
write_failed have op r o a b fault h = own_failed (BaseMsg.Write have op r) have o a b r.name fault (own_taken have) refl h

-- ---- installations

pub served_install : (have op : ℕ) (name : List ℕ) (s t : NameState) (put : Option NameState) → cond (nat_lt s.seq t.seq) (Some t) None ≡ put
    → served have s (BaseMsg.Install have op name t) ≡ record { epoch = have; put = put; reply = BaseReply.Installed have op t.seq }
served_install have op name s t put e =
    own_epoch have (record { epoch = have; put = cond (nat_lt s.seq t.seq) (Some t) None; reply = BaseReply.Installed have op t.seq })
    ∙ ap (λ p. record { epoch = have; put = p; reply = BaseReply.Installed have op t.seq }) e

newer : (s t : NameState) → s.seq < t.seq → cond (nat_lt s.seq t.seq) (Some t) None ≡ Some t
newer s t less = ap (λ b. cond b (Some t) None) (lt-ltb s.seq t.seq less)

pub install_done : (have op : ℕ) (name : List ℕ) (s t : NameState) (o : Bool) (a m b : StoreView) → Stays a m → IsState s → Holds a (Has name s) → s.seq < t.seq
    → Spells t (Ok tt) → Committed (state_put (Some name) (Some t)) m b (Ok tt)
    → Serves (BaseMsg.Install have op name t) (base_of a have o) (base_of b have o) (Ok (BaseReply.Installed have op t.seq))
install_done have op name s t o a m b stays lawful has less spells h =
    own_answers (BaseMsg.Install have op name t) have o a b s (Some t) (BaseReply.Installed have op t.seq) (served_install have op name s t (Some t) (newer s t less)) lawful has spells
    (commit_later a m b (put_at name t ∷ []) (Ok tt) stays h)

pub install_refused : (have op : ℕ) (name : List ℕ) (s t : NameState) (fault : StoreFault) (o : Bool) (a m b : StoreView) → Stays a m → IsState s → Holds a (Has name s)
    → s.seq < t.seq → have ≤ number_limit → Spells t (Err fault) → Committed (state_put (Some name) (Some t)) m b (Err fault)
    → Serves (BaseMsg.Install have op name t) (base_of a have o) (base_of b have o) (refused_by fault have op)
install_refused have op name s t fault o a m b stays lawful has less few spells h =
    own_refused (BaseMsg.Install have op name t) have o a b s name t (BaseReply.Installed have op t.seq) fault (own_taken have) refl
    (served_install have op name s t (Some t) (newer s t less)) lawful has few spells (commit_later a m b (put_at name t ∷ []) (Err fault) stays h)

pub install_left : (have op : ℕ) (name : List ℕ) (t : NameState) (o : Bool) (a b : StoreView) (k : Kept) → Recalls name a b (Ok k) → t.seq ≤ k.state.seq
    → Serves (BaseMsg.Install have op name t) (base_of a have o) (base_of b have o) (Ok (BaseReply.Installed have op t.seq))
install_left have op name t o a b k h less =
    own_answers (BaseMsg.Install have op name t) have o a b k.state None (BaseReply.Installed have op t.seq)
    (served_install have op name k.state t None (ap (λ c. cond c (Some t) None) (le-ltb k.state.seq t.seq less))) h.1 h.2 tt h.3

pub install_failed : (have op : ℕ) (name : List ℕ) (t : NameState) (o : Bool) (a b : StoreView) (fault : BaseFault) → Recalls name a b (Err fault)
    → Serves (BaseMsg.Install have op name t) (base_of a have o) (base_of b have o) (Err fault)
install_failed have op name t o a b fault h = own_failed (BaseMsg.Install have op name t) have o a b name fault (own_taken have) refl h

-- what the answer to a request rests on
pub ruleset write_rules = (fresh_lawful, unacted_given, write_failed, no_memory_then, kept_given)

-- what the answer to an installation rests on
pub ruleset install_rules = (install_left, install_failed, kept_on)
