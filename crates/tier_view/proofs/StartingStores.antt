-- Steps that change a store, and how far the group is started; the stores behind an opening.
use Rattle.std.proofs.Common.{◌≡◌, ◌≤◌, inr, ◌+◌, Bool, false, [], length, Option, None, refl, sym, true≢false, arith}
use Rattle.std.proofs.lemmas.List.{append-nil}
use Rattle.agent_state.specs.declared.totals.Totals.{Totals}
use Rattle.obj_model.specs.declared.change.Pool.{Pool}
use Rattle.obj_model.specs.declared.change.Pool.TheVariants.{Base, Cache}
use Rattle.obj_ops.specs.Stores.{Store}
use Rattle.store_face.specs.Calls.{Among}
use Rattle.store_face.specs.Tables.{Table}
use Rattle.store_face.specs.Views.{StoreView}
use Rattle.tier_join.specs.Group.{Memory, TwoMaps, AreLeft, map_in, store_in, with_store}
use Rattle.tier_join.specs.Promises.{Promises}
use Rattle.tier_join.specs.Steps.{Has, settled as left_settled}
use Rattle.tier_join.proofs.Left.{among_since, now_since}
use Rattle.tier_view.specs.Grows.{AreEntered, Grows, HaveCome, OneCommit, Remains, Stays, in_base, in_cache}
use Rattle.tier_view.specs.Laws.{Keeps}
use Rattle.tier_view.specs.Owed.{Owes}
use Rattle.tier_view.specs.Settles.{reopened}
use Rattle.tier_view.specs.Standing.{Standing}
use Rattle.tier_view.specs.Starts.{placed, running}
use Rattle.tier_view.specs.Stores.{Pending, Stores}
use Rattle.tier_view.specs.Tables.{IsUnanswered, SoundFlights}
use Rattle.tier_view.specs.Views.{GroupView, joined, joined_of}
use Rattle.tier_view.specs.Whole.{AreSums, IsWhole, SoundStops}
use Rattle.tier_view.specs.Worlds.{Began, HasOwners, IsNextAct, MayPend}
use Rattle.tier_view.proofs.Keeping.{steps_keep}
use Rattle.tier_view.proofs.Resting.{all_of, extends_same, log_rests, remains_itself, stays_itself}

-- ---- such a step

-- the group with these stores, this far, and with these totals
abbrev pub changed : Stores → Standing → Totals → GroupView → GroupView
changed x st totals v = record v { stores = x; standing = st; agent = record v.agent { totals = totals } }

-- what such a step has to show
pub record StoreStep (other : Store → Store) (v : GroupView) (x : Stores) (st : Standing) (totals : Totals) : Type 0 where
  pub promises : Promises other (joined v) (joined (changed x st totals v))
  pub worlds : (start : Store) → Began start v → (z : TwoMaps) → AreLeft (joined (changed x st totals v)) z → HasOwners start (changed x st totals v) z
  pub next : (start : Store) → Began start v → IsNextAct start v.log x.pending
  pub pending : MayPend v.calls.entries v.log x.pending
  pub commit : OneCommit v.stores x
  pub come : HaveCome v.calls.entries v.calls.entries (length v.log.answers) v.standing st []
  pub epoch : v.standing.cache_epoch ≤ st.cache_epoch
  pub flights : SoundFlights v.calls.entries v.calls.flown v.traffic.flights v.traffic.begun st.cache_epoch (length v.log.answers)
  pub cache_faults : v.stores.cache.faults ≤ x.cache.faults
  pub base_faults : v.stores.base.faults ≤ x.base.faults
  pub stops : SoundStops x st
  pub summed : AreSums x (record v.agent { totals = totals })

pub stores_keep : (other : Store → Store) (v : GroupView) (x : Stores) (st : Standing) (totals : Totals) → IsWhole v → StoreStep other v x st totals → Keeps other None v (changed x st totals v)
stores_keep other v x st totals h step = (steps_keep other None [] v W h grows owes, grows)
  where
    W : GroupView
    W = changed x st totals v

    grows : Grows other None v W
    grows = record {
      pools = step.promises;
      began = λ start told b. record {
        pools = step.promises.began start told b.pools;
        owners = step.worlds start b;
        history = b.history;
        next = step.next start b;
      };
      log = log_rests v.log;
      one_answer = tt;
      calls = extends_same Stays (AreEntered (v.calls.last + 1) st.cache_epoch (length v.log.acts) v.calls.last None) stays_itself v.calls.entries refl;
      flown = extends_same (Remains (length v.log.answers) (length v.log.answers)) (HaveCome v.calls.entries v.calls.entries (length v.log.answers) v.standing st)
          (remains_itself (length v.log.answers) (length v.log.answers)) v.calls.flown step.come;
      commit = step.commit;
      epoch = step.epoch;
      cache_faults = step.cache_faults;
      base_faults = step.base_faults;
      share = refl;
      values = refl;
    }

    owes : Owes [] v W
    owes = record {
      logs = sym (append-nil v.log.answers);
      shaped = λ s. s;
      pending = step.pending;
      over = all_of (λ e. e.ended ≡ false → IsUnanswered e.number []) (λ e _. tt) v.calls.entries;
      flights = step.flights;
      traffic = h.traffic;
      causes = tt;
      cache_failed = omega (arith, step.cache_faults);
      base_failed = omega (arith, step.base_faults);
      stops = step.stops;
      totals = step.summed;
    }

-- ---- the stores behind an opening

abbrev pub cache_in : Pool → (opened was : StoreView) → StoreView
cache_in Cache opened was = opened
cache_in Base opened was = was

abbrev pub base_in : Pool → (opened was : StoreView) → StoreView
base_in Cache opened was = was
base_in Base opened was = opened

-- a pool's store is this one, with these flags and this doubt
abbrev pub put_in : Pool → StoreView → (cache_stopped base_stopped : Bool) → Option Pending → Stores → Stores
put_in pool s cs bs p x = record {
  cache = cache_in pool s x.cache;
  base = base_in pool s x.base;
  cache_stopped = cs;
  base_stopped = bs;
  pending = p;
}

-- the flags where a pool runs again
abbrev pub cache_flag : Pool → Bool → Bool
cache_flag Cache b = false
cache_flag Base b = b

abbrev pub base_flag : Pool → Bool → Bool
base_flag Cache b = b
base_flag Base b = false

pub placed_is : (pool : Pool) (s : StoreView) (x : Stores) → put_in pool s x.cache_stopped x.base_stopped x.pending x ≡ placed pool s x
placed_is Cache s x = refl
placed_is Base s x = refl

pub running_is : (pool : Pool) (s : StoreView) (x : Stores) → put_in pool s (cache_flag pool x.cache_stopped) (base_flag pool x.base_stopped) x.pending x ≡ running pool s x
running_is Cache s x = refl
running_is Base s x = refl

pub reopened_is : (pool : Pool) (s : StoreView) (x : Stores) → put_in pool s (cache_flag pool x.cache_stopped) (base_flag pool x.base_stopped) None x ≡ reopened pool s x
reopened_is Cache s x = refl
reopened_is Base s x = refl

pub stops_run : (pool : Pool) (s : StoreView) (p : Option Pending) (x : Stores) (st : Standing) → SoundStops x st → SoundStops (put_in pool s (cache_flag pool x.cache_stopped) (base_flag pool x.base_stopped) p x) st
stops_run Cache s p x st h = record { cache = λ e. absurd (true≢false (sym e)); base = h.base }
stops_run Base s p x st h = record { cache = h.cache; base = λ e. absurd (true≢false (sym e)) }

module _ (pool : Pool) (s : StoreView) (cs bs : Bool) (p : Option Pending) (x : Stores) (m : Memory) (among : Among (store_in pool (joined_of x m)) s) where
  abbrev X : Stores
  X = put_in pool s cs bs p x

  pub put_commit : OneCommit x X
  put_commit = by pool among
    where
      by : (q : Pool) → Among (store_in q (joined_of x m)) s → OneCommit x (put_in q s cs bs p x)
      by Cache among = in_cache (inr among) refl
      by Base among = in_base refl (inr among)

  pub put_left : (n : Memory) (z : TwoMaps) → AreLeft (joined_of X n) z → AreLeft (joined_of x m) z
  put_left n z i = by pool among i
    where
      by : (q : Pool) → Among (store_in q (joined_of x m)) s → AreLeft (joined_of (put_in q s cs bs p x) n) z → AreLeft (joined_of x m) z
      by Cache among i = (among_since x.cache s among z.cache (now_since x.cache s _ among z.cache i.0), i.1)
      by Base among i = (i.0, among_since x.base s among z.base (now_since x.base s _ among z.base i.1))

pub put_own : (pool : Pool) (s : StoreView) (cs bs : Bool) (p : Option Pending) (x : Stores) (n : Memory) (P : Table → Type 0) → Has s P → (z : TwoMaps) → AreLeft (joined_of (put_in pool s cs bs p x) n) z → P (map_in pool z)
put_own Cache s cs bs p x n P has z i = has z.cache i.0
put_own Base s cs bs p x n P has z i = has z.base i.1

pub put_faults : (pool : Pool) (s : StoreView) (x : Stores) (m : Memory) → (store_in pool (joined_of x m)).faults ≤ s.faults
    → (x.cache.faults ≤ (cache_in pool s x.cache).faults) × (x.base.faults ≤ (base_in pool s x.base).faults)
put_faults Cache s x m later = (later, omega arith)
put_faults Base s x m later = (omega arith, later)

-- as the crate of the two pools has them
pub put_store : (pool : Pool) (s : StoreView) (cs bs : Bool) (p : Option Pending) (x : Stores) (n : Memory) → store_in pool (joined_of (put_in pool s cs bs p x) n) ≡ s
put_store Cache s cs bs p x n = refl
put_store Base s cs bs p x n = refl

pub put_placed : (pool : Pool) (s : StoreView) (cs bs : Bool) (x : Stores) (m : Memory)
    → joined_of (put_in pool s cs bs x.pending x) m ≡ with_store pool (store_in pool (joined_of (put_in pool s cs bs x.pending x) m)) (joined_of x m)
put_placed Cache s cs bs x m = refl
put_placed Base s cs bs x m = refl

pub put_settled : (pool : Pool) (s : StoreView) (cs bs : Bool) (x : Stores) (m n : Memory)
    → joined_of (put_in pool s cs bs None x) n ≡ left_settled pool (joined_of x m) (joined_of (put_in pool s cs bs None x) n) n
put_settled Cache s cs bs x m n = refl
put_settled Base s cs bs x m n = refl
