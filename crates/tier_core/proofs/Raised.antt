-- The cache's epoch is raised.
use Rattle.std.proofs.Common.{◌≡◌, ◌≤◌, ◌⊎◌, inl, inr, ℕ, ◌+◌, Bool, true, false, List, [], ◌∷◌, length, IsSome, Option, Some, None, refl, sym, ap, subst, ◌∙◌, arith}
use Rattle.std.specs.Prelude.{Result, Ok, Err}
use Rattle.std.specs.FinMap as fin
use Rattle.std.specs.List.{AllByRecursion}
use Rattle.base_pool.proofs.Later.{commit_later}
use Rattle.base_pool.specs.Views.{BaseView}
use Rattle.cache_pool.specs.Puts.{Commits, epoch_put}
use Rattle.cache_pool.specs.Reads.{ReadsEpoch}
use Rattle.cache_pool.specs.declared.fault.CacheFault.{CacheFault}
use Rattle.cache_pool.specs.declared.fault.CacheFault.TheVariants.{Store, BadRecord}
use Rattle.obj_model.specs.Limits.{number_limit}
use Rattle.obj_model.specs.declared.tier.Kind.{Kind}
use Rattle.pool_keys.specs.Values.{IsAtEpoch}
use Rattle.store_face.proofs.Later.{stays_same}
use Rattle.store_face.specs.Calls.{Fails, Stays}
use Rattle.store_face.specs.Views.{Holds, Sound, StoreView}
use Rattle.store_face.specs.declared.fault.StoreFault.TheVariants.{Disk, BadImage, NoSpace, Worn, NoMemory}
use Rattle.tier_calls.specs.Tables.{TableView}
use Rattle.tier_calls.specs.Turns.{HasGone}
use Rattle.tier_chron.specs.Logs.{Log}
use Rattle.tier_join.proofs.Left.{read_is_left}
use Rattle.tier_join.specs.Promises.{as_it_is}
use Rattle.tier_join.specs.Steps.{Has, Outcome}
use Rattle.tier_protocol.proofs.Flying.{free_unless_up}
use Rattle.tier_protocol.specs.Tiers.{Flight, Flights, Name, Phase}
use Rattle.tier_view.proofs.LocalFrees.{leaving_cache_keeps}
use Rattle.tier_view.proofs.StartingRaises.{raising_there_keeps}
use Rattle.tier_view.specs.Calls.{Calls}
use Rattle.tier_view.specs.declared.parts.Entry.{Entry}
use Rattle.tier_view.specs.declared.parts.Flown.{Flown}
use Rattle.tier_view.specs.Laws.{Keeps}
use Rattle.tier_view.specs.Locals.{with_cache}
use Rattle.tier_view.specs.Starts.{raised_there}
use Rattle.tier_view.specs.Tables.{IsOfKind, SoundFlown}
use Rattle.tier_view.specs.Traffic.{Traffic}
use Rattle.tier_view.specs.Views.{GroupView, joined}
use Rattle.tier_view.specs.Whole.{IsWhole}
use Rattle.tier_view.specs.declared.parts.Pending.{Pending}
use Rattle.tier_core.specs.Keeps.{IsKept}
use Rattle.tier_core.specs.Parts.{group_of, stores_of}
use Rattle.tier_core.specs.Raises.{CommitsEpoch, Raises, calls_raised, next_epoch, pending_raised, start_raised, told_raised}
use Rattle.tier_core.specs.declared.parts.Agent.{Agent}
use Rattle.tier_core.specs.declared.parts.Start.{Start}
use Rattle.tier_core.specs.declared.raising.RaiseFault.{RaiseFault}
use Rattle.tier_core.proofs.Kept.{kept_on}

-- ---- while the cache is down all work has gone

no_work : (o : Option Flight) (k : Kind) (op : ℕ) → o ≡ None → IsOfKind o k op → ⊥
no_work None k op none is = is
no_work (Some f) k op none is = absurd (cc)

has_gone : (went : Option ℕ) → (went ≡ None → ⊥) → IsSome went
has_gone None h = absurd (h refl)
has_gone (Some at) h = refl

each_gone : (entries : List Entry) (flights : Flights) (count : ℕ) (flown : List Flown) → ((n : Name) → fin.get flights n ≡ None)
    → AllByRecursion (SoundFlown entries flights count) flown → AllByRecursion HasGone flown
each_gone entries flights count [] free h = tt
each_gone entries flights count (f ∷ fs) free h = (
  has_gone f.went (λ none. no_work (fin.get flights f.name) f.kind f.opid (free f.name) (h.0.stands none)),
  each_gone entries flights count fs free h.1,
)

down_not_up : (p : Phase) → p ≡ Phase.Down → p ≡ Phase.Up → ⊥
down_not_up p down up = absurd (cc)

pub all_gone : (v : GroupView) → IsWhole v → v.standing.phase ≡ Phase.Down → AllByRecursion HasGone v.calls.flown
all_gone v h down =
    each_gone v.calls.entries v.traffic.flights (length v.log.answers) v.calls.flown
    (λ n. free_unless_up n (fin.get v.traffic.flights n) (joined v).memory.net (h.memory.sound.each n) (down_not_up v.standing.phase down)) h.flights.table

-- ---- the parts, and the group

module _ (s t : StoreView) (base : BaseView) (cache_stopped base_stopped : Bool) (log : Log) (calls : TableView) (traffic : Traffic) (start : Start) (agent : Agent) (e : ℕ) where
  -- the group before, with this doubt
  abbrev Old : Option Pending → GroupView
  Old p = group_of (stores_of s base cache_stopped base_stopped p) log calls.calls traffic start agent

  -- the group behind it
  abbrev New : Option Pending → TableView → Start → GroupView
  New p u x = group_of (stores_of t base cache_stopped base_stopped p) log u.calls traffic x agent

  by_outcome : (result : Outcome) → New (pending_raised e result None) (calls_raised result calls) (start_raised e result start) ≡ raised_there e t result (Old None)
  by_outcome (Ok made) = refl
  by_outcome (Err Disk) = refl
  by_outcome (Err (BadImage at)) = refl
  by_outcome (Err (NoSpace used need limit)) = refl
  by_outcome (Err (Worn limit)) = refl
  by_outcome (Err NoMemory) = refl

  pub raised_is : (result : Outcome) (p q : Option Pending) (u : TableView) (x : Start)
      → p ≡ None → q ≡ pending_raised e result p → u ≡ calls_raised result calls → x ≡ start_raised e result start → New q u x ≡ raised_there e t result (Old p)
  raised_is result p q u x none pending counted started =
      ap (λ (o : Option Pending). New o u x) (pending ∙ ap (pending_raised e result) none)
      ∙ ap (λ (y : TableView). New (pending_raised e result None) y x) counted
      ∙ ap (λ (y : Start). New (pending_raised e result None) (calls_raised result calls) y) started
      ∙ by_outcome result
      ∙ sym (ap (λ (o : Option Pending). raised_there e t result (Old o)) none)

-- ---- the step

-- what is known before the epoch is read
pub record IsDown (v : GroupView) : Type 0 where
  pub live : v.stores.cache.live ≡ true
  pub runs : v.stores.cache_stopped ≡ false
  pub settled : v.stores.pending ≡ None
  pub down : v.standing.phase ≡ Phase.Down

has_epoch : (s : StoreView) (was : ℕ) → Sound s → s.live ≡ true → Holds s (IsAtEpoch was) → Has s (IsAtEpoch was)
has_epoch s was sound live holds = λ x left. read_is_left s (IsAtEpoch was) sound live holds x left

-- operations count from 1
anew : (m n : ℕ) → m ≡ n → 1 + m ≡ n + 1
anew m n same = omega (arith, same)

module _ (v : GroupView) (base : BaseView) (table : TableView) (between t : StoreView) (e was : ℕ) (result : Outcome) (is : IsDown v) (h : IsKept v base table)
    (next : e ≡ next_epoch v) (low : e ≤ number_limit) (read : ReadsEpoch v.stores.cache between (Ok was)) (put : Commits (epoch_put e) between t result) (sound : Sound t) where
  committed : Commits (epoch_put e) v.stores.cache t result
  committed = record { committed = commit_later v.stores.cache between t (epoch_put e) result read.2 put.committed; over = put.over }

  pub raised_step : Keeps as_it_is None v (raised_there e t result v)
  raised_step = raising_there_keeps v e was _ t result h.whole is.settled (record {
    down = is.down;
    next = next;
    spelled = record { spelled = refl; least = omega (arith, next); most = low };
    live = is.live;
    runs = is.runs;
    has = has_epoch v.stores.cache was h.cached is.live read.1;
    committed = committed.committed;
  })

  pub raised_kept : table.calls ≡ v.calls → IsKept (raised_there e t result v) base (calls_raised result table)
  raised_kept same = by result raised_step
    where
      by : (o : Outcome) → Keeps as_it_is None v (raised_there e t o v) → IsKept (raised_there e t o v) base (calls_raised o table)
      by (Ok made) step = record {
        whole = step.0;
        cached = sound;
        based = h.based;
        level = h.level;
        counted = anew (length table.calls.flown) (length v.calls.flown) (ap (λ (c : Calls). length c.flown) same);
        messages = h.messages;
        asked = h.asked;
      }
      by (Err Disk) step = kept_on v (raised_there e t (Err Disk) v) base table h step.0 sound refl refl refl
      by (Err (BadImage at)) step = kept_on v (raised_there e t (Err (BadImage at)) v) base table h step.0 sound refl refl refl
      by (Err (NoSpace used need limit)) step = kept_on v (raised_there e t (Err (NoSpace used need limit)) v) base table h step.0 sound refl refl refl
      by (Err (Worn limit)) step = kept_on v (raised_there e t (Err (Worn limit)) v) base table h step.0 sound refl refl refl
      by (Err NoMemory) step = kept_on v (raised_there e t (Err NoMemory) v) base table h step.0 sound refl refl refl

  -- what is told of it
  pub raised_told : (w : GroupView) → w ≡ raised_there e t result v → w.stores.cache ≡ t → Raises v w (told_raised e result)
  raised_told w same store = by result commits
    where
      commits : CommitsEpoch v w result
      commits = record {
        low = subst (λ (n : ℕ). n ≤ number_limit) next low;
        put = subst (λ (n : ℕ). Commits (epoch_put n) v.stores.cache w.stores.cache result) next
            (subst (λ (x : StoreView). Commits (epoch_put e) v.stores.cache x result) (sym store) committed);
        is = subst (λ (n : ℕ). w ≡ raised_there n w.stores.cache result v) next (subst (λ (x : StoreView). w ≡ raised_there e x result v) (sym store) same);
      }

      by : (o : Outcome) → CommitsEpoch v w o → Raises v w (told_raised e o)
      by (Ok made) c = (next, c)
      by (Err f) c = c

-- what the commit leaves of a group
pub record Raised (v w : GroupView) (base : BaseView) (table : TableView) (result : Result ℕ RaiseFault) : Type 0 where
  pub kept : IsKept w base table
  pub is : Raises v w result
  pub step : Keeps as_it_is None v w

module _ (s between t : StoreView) (base : BaseView) (cache_stopped base_stopped : Bool) (p q : Option Pending) (log : Log) (calls u : TableView) (traffic : Traffic) (start x : Start) (agent : Agent)
    (e was : ℕ) (made : Outcome) (result : Result ℕ RaiseFault) where
  -- the group before, and behind it
  abbrev V : GroupView
  V = group_of (stores_of s base cache_stopped base_stopped p) log calls.calls traffic start agent

  abbrev W : GroupView
  W = group_of (stores_of t base cache_stopped base_stopped q) log u.calls traffic x agent

  pub raised_all : IsDown V → IsKept V base calls → e ≡ next_epoch V → e ≤ number_limit → ReadsEpoch s between (Ok was) → Commits (epoch_put e) between t made → Sound t
      → q ≡ pending_raised e made p → u ≡ calls_raised made calls → x ≡ start_raised e made start → result ≡ told_raised e made → Raised V W base u result
  raised_all is h next low read put sound pending counted started told =
      let same : W ≡ raised_there e t made V =
      raised_is s t base cache_stopped base_stopped log calls traffic start agent e made p q u x is.settled pending counted started in
      let kept : IsKept (raised_there e t made V) base (calls_raised made calls) = raised_kept V base calls between t e was made is h next low read put sound refl in
      record {
        kept = subst (λ (w : GroupView). IsKept w base u) (sym same) (subst (λ (y : TableView). IsKept (raised_there e t made V) base y) (sym counted) kept);
        is = subst (λ (r : Result ℕ RaiseFault). Raises V W r) (sym told) (raised_told V base calls between t e was made is h next low read put sound W same refl);
        step = subst (λ (w : GroupView). Keeps as_it_is None V w) (sym same) (raised_step V base calls between t e was made is h next low read put sound);
      }

-- ---- the epoch was not read

-- no map changed, and the store stays or its disk failed
unread : (s t : StoreView) (fault : CacheFault) → ReadsEpoch s t (Err fault) → (t.moments ≡ s.moments) × (Stays s t ⊎ Fails s t)
unread s t (Store Disk) h = (h.1, inr h.0)
unread s t (Store (BadImage at)) h = absurd h
unread s t (Store (NoSpace used need limit)) h = absurd h
unread s t (Store (Worn limit)) h = absurd h
unread s t (Store NoMemory) h = (h.moments, inl h)
unread s t (BadRecord name) h = (h.2.moments, inl h.2)

pub unread_step : (v : GroupView) (t : StoreView) (fault : CacheFault) → IsWhole v → v.stores.pending ≡ None → ReadsEpoch v.stores.cache t (Err fault) → Keeps as_it_is None v (with_cache t None v)
unread_step v t fault whole none read =
    let l = unread v.stores.cache t fault read in
    leaving_cache_keeps v t whole none (record { moments = l.0; later = l.1 })

pub unread_kept : (v : GroupView) (base : BaseView) (table : TableView) (t : StoreView) (fault : CacheFault) → IsKept v base table → v.stores.pending ≡ None
    → ReadsEpoch v.stores.cache t (Err fault) → Sound t → IsKept (with_cache t None v) base table
unread_kept v base table t fault h none read sound = kept_on v (with_cache t None v) base table h (unread_step v t fault h.whole none read).0 sound refl refl refl

-- ---- nothing is read

pub unraised_step : (v : GroupView) → IsWhole v → v.stores.pending ≡ None → Keeps as_it_is None v v
unraised_step v whole none =
    subst (λ (p : Option Pending). Keeps as_it_is None v (with_cache v.stores.cache p v)) (sym none)
    (leaving_cache_keeps v v.stores.cache whole none (record { moments = refl; later = inl (stays_same v.stores.cache) }))
