-- The base is read.
use Rattle.std.proofs.Common.{◌≡◌, Bool, true, false, if◌then◌else◌, List, ℕ, Option, None, refl, sym, ap, subst, ◌∙◌, true≢false}
use Rattle.std.specs.Prelude.{Result, Ok, Err, IfOk}
use Rattle.base_pool.specs.Opens.{ReadsState}
use Rattle.base_pool.specs.Views.{BaseView, IsLive, SoundBase}
use Rattle.base_pool.specs.declared.fault.BaseFault.{BaseFault}
use Rattle.base_pool.specs.declared.fault.BaseFault.TheVariants.{Store, BadRecord}
use Rattle.obj_model.specs.States.{IsState}
use Rattle.obj_model.specs.declared.state.NameState.{NameState}
use Rattle.store_face.specs.Views.{StoreView}
use Rattle.tier_calls.specs.Tables.{TableView}
use Rattle.tier_chron.specs.Logs.{Log}
use Rattle.tier_join.specs.Promises.{as_it_is}
use Rattle.tier_join.specs.Steps.{HasState}
use Rattle.tier_serve.proofs.Agreeing.{reading_leaves}
use Rattle.tier_serve.specs.Bridges.{HasRead, base_of}
use Rattle.tier_view.specs.Calls.{Calls}
use Rattle.tier_view.specs.Delivers.{with_base}
use Rattle.tier_view.specs.Laws.{Keeps}
use Rattle.tier_view.specs.Serves.{LeavesBase}
use Rattle.tier_view.specs.Traffic.{Traffic}
use Rattle.tier_view.specs.Views.{GroupView, joined}
use Rattle.tier_view.specs.declared.parts.Pending.{Pending}
use Rattle.tier_view.proofs.Serving.{leaving_base_keeps}
use Rattle.tier_core.specs.Keeps.{IsKept}
use Rattle.tier_core.specs.Parts.{group_of, seen_base, stores_of}
use Rattle.tier_core.specs.declared.parts.Agent.{Agent}
use Rattle.tier_core.specs.declared.parts.Start.{Start}
use Rattle.tier_core.proofs.Kept.{seen_opened}

-- ---- the base, as the group sees it

both_true : (o l : Bool) → (if o then l else false) ≡ true → (o ≡ true) × (l ≡ true)
both_true true l e = (refl, e)
both_true false l e = absurd (true≢false (sym e))

-- a base that counts as live is live
pub live_base : (b : BaseView) → (seen_base b).live ≡ true → IsLive b
live_base b live = let both = both_true b.opened b.store.live live in record { opened = both.0; live = both.1 }

-- it is the one that its crate sees
pub base_is : (v : GroupView) (b : BaseView) → b.opened ≡ true → b.epoch ≡ v.standing.base_epoch → v.stores.base ≡ seen_base b → base_of true v ≡ b
base_is v b opened epoch is =
    ap (λ (s : StoreView). record { store = s; epoch = v.standing.base_epoch; opened = true }) (is ∙ seen_opened b opened)
    ∙ ap (λ (n : ℕ). record { store = b.store; epoch = n; opened = true }) (sym epoch)
    ∙ ap (λ (o : Bool). record { store = b.store; epoch = b.epoch; opened = o }) (sym opened)

-- the parts with another base, where no commit is in doubt
pub base_in : (cache : StoreView) (b new : BaseView) (cache_stopped base_stopped : Bool) (pending : Option Pending) (log : Log) (calls : Calls) (traffic : Traffic) (start : Start) (agent : Agent)
    → pending ≡ None
    → group_of (stores_of cache new cache_stopped base_stopped pending) log calls traffic start agent
    ≡ with_base (seen_base new) None (group_of (stores_of cache b cache_stopped base_stopped pending) log calls traffic start agent)
base_in cache b new cache_stopped base_stopped pending log calls traffic start agent none =
    ap (λ (p : Option Pending). group_of (stores_of cache new cache_stopped base_stopped p) log calls traffic start agent) none

-- ---- what was read

still_open : (name : List ℕ) (b new : BaseView) (result : Result NameState BaseFault) → ReadsState name b new result → new.opened ≡ b.opened
still_open name b new (Ok s) h = h.2.opened
still_open name b new (Err (Store fault)) h = h.2
still_open name b new (Err (BadRecord other)) h = h.2.opened

pub state_lawful : (name : List ℕ) (b new : BaseView) (result : Result NameState BaseFault) → ReadsState name b new result → IfOk result IsState
state_lawful name b new (Ok s) h = h.0
state_lawful name b new (Err fault) h = tt

if_read : (w : GroupView) (name : List ℕ) (result : Result NameState BaseFault) → HasRead w name result → IfOk result (λ s. HasState (joined w) name s)
if_read w name (Ok s) h = h
if_read w name (Err fault) h = tt

module _ (v : GroupView) (b new : BaseView) (table : TableView) (name : List ℕ) (result : Result NameState BaseFault) (h : IsKept v b table)
    (is : v.stores.base ≡ seen_base b) (live : v.stores.base.live ≡ true) (none : v.stores.pending ≡ None) (read : ReadsState name b new result) (sound : SoundBase new) where
  alive : IsLive b
  alive = live_base b (subst (λ (s : StoreView). s.live ≡ true) is live)

  same : base_of true v ≡ b
  same = base_is v b alive.opened (h.level alive) is

  leaves : LeavesBase v new.store × HasRead (with_base new.store None v) name result × (base_of new.opened (with_base new.store None v) ≡ new)
  leaves =
      reading_leaves v true new name result (subst IsLive (sym same) alive) (subst SoundBase (sym same) h.based)
      (subst (λ (x : BaseView). ReadsState name x new result) (sym same) read)

  opened : new.opened ≡ true
  opened = still_open name b new result read ∙ alive.opened

  seen : seen_base new ≡ new.store
  seen = seen_opened new opened

  epoch : new.epoch ≡ v.standing.base_epoch
  epoch = sym (ap (λ (x : BaseView). x.epoch) leaves.2)

  pub there_step : Keeps as_it_is None v (with_base (seen_base new) None v)
  there_step = leaving_base_keeps v (seen_base new) h.whole none (subst (LeavesBase v) (sym seen) leaves.0)

  pub there_kept : IsKept (with_base (seen_base new) None v) new table
  there_kept = record {
    whole = there_step.0;
    cached = h.cached;
    based = sound;
    level = λ now. epoch;
    counted = h.counted;
    messages = h.messages;
    asked = h.asked;
  }

  pub there_found : IfOk result (λ s. HasState (joined (with_base (seen_base new) None v)) name s)
  there_found = if_read (with_base (seen_base new) None v) name result (subst (λ (s : StoreView). HasRead (with_base s None v) name result) (sym seen) leaves.1)

  pub there_read : ReadsState name (base_of true v) (base_of true (with_base (seen_base new) None v)) result
  there_read =
      subst (λ (x : BaseView). ReadsState name x (base_of true (with_base (seen_base new) None v)) result) (sym same)
      (subst (λ (x : BaseView). ReadsState name b x result) (sym (base_is (with_base (seen_base new) None v) new opened epoch refl)) read)
