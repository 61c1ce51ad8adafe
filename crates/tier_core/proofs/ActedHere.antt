-- A request acts on a record of the cache.
use Rattle.std.proofs.Common.{◌≡◌, inl, Bool, true, ℕ, List, Option, Some, None, refl, sym, ap, subst, ◌∙◌}
use Rattle.std.specs.Prelude.{Ok, Err}
use Rattle.agent_state.specs.declared.totals.Totals.{Totals}
use Rattle.base_pool.specs.Views.{BaseView}
use Rattle.cache_pool.specs.Puts.{Commits, IsSpelled, record_bytes, record_put}
use Rattle.obj_model.specs.Names.{name_fault}
use Rattle.obj_model.specs.declared.change.Change.{Change}
use Rattle.obj_model.specs.declared.state.NameState.{NameState}
use Rattle.store_face.proofs.Later.{stays_same}
use Rattle.store_face.specs.Views.{Sound, StoreView}
use Rattle.store_face.specs.declared.fault.StoreFault.TheVariants.{Disk, BadImage, NoSpace, Worn, NoMemory}
use Rattle.tier_calls.specs.Tables.{TableView}
use Rattle.tier_chron.specs.Logs.{Log}
use Rattle.tier_chron.specs.declared.entries.Act.{Act}
use Rattle.tier_chron.specs.declared.entries.First.{First}
use Rattle.tier_join.specs.Promises.{with_req}
use Rattle.tier_join.specs.Steps.{HasRec, Outcome}
use Rattle.tier_rec.specs.Records.{acted_record, totals_after}
use Rattle.tier_types.specs.declared.record.TierRec.{TierRec}
use Rattle.tier_view.specs.Calls.{Calls}
use Rattle.tier_view.specs.Laws.{Keeps}
use Rattle.tier_view.specs.Locals.{ActsHere, PutsRec, acted_locally, with_cache}
use Rattle.tier_view.specs.Traffic.{Traffic}
use Rattle.tier_view.specs.Views.{GroupView, joined}
use Rattle.tier_view.specs.Whole.{IsWhole}
use Rattle.tier_view.specs.declared.parts.Pending.{Pending}
use Rattle.tier_view.proofs.LocalActs.{acting_here_keeps}
use Rattle.tier_view.proofs.LocalFew.{sound_is_few}
use Rattle.tier_view.proofs.LocalFrees.{leaving_cache_keeps}
use Rattle.tier_view.proofs.Serving.{actless_keeps}
use Rattle.tier_core.specs.Acts.{first_for, log_after, pending_after, totals_behind}
use Rattle.tier_core.specs.Keeps.{IsKept}
use Rattle.tier_core.specs.Parts.{group_of, stores_of}
use Rattle.tier_core.specs.declared.parts.Agent.{Agent}
use Rattle.tier_core.specs.declared.parts.Start.{Start}
use Rattle.tier_core.proofs.Kept.{kept_on}

-- ---- the parts, and the group

module _ (s t : StoreView) (base : BaseView) (cache_stopped base_stopped : Bool) (log : Log) (calls : Calls) (traffic : Traffic) (start : Start) (agent : Agent) where
  -- the group before, with this doubt
  abbrev Old : Option Pending → GroupView
  Old p = group_of (stores_of s base cache_stopped base_stopped p) log calls traffic start agent

  -- the group behind it
  abbrev New : Option Pending → Log → Totals → GroupView
  New p l sums = group_of (stores_of t base cache_stopped base_stopped p) l calls traffic start (record agent { totals = sums })

  module _ (o : Option First) (a : Act) (r : TierRec) (n : NameState) where
    -- the sums where the commit is made
    abbrev Sums : Totals
    Sums = totals_after agent.totals (Some r) (Some (acted_record n agent.moment))

    by_outcome : (result : Outcome)
        → New (pending_after o a n.seq result None) (log_after o a result log) (totals_behind Sums result agent.totals)
        ≡ acted_locally o a r n agent.moment t result (Old None)
    by_outcome (Ok made) = refl
    by_outcome (Err Disk) = refl
    by_outcome (Err (BadImage at)) = refl
    by_outcome (Err (NoSpace used need limit)) = refl
    by_outcome (Err (Worn limit)) = refl
    by_outcome (Err NoMemory) = refl

    pub acted_is : (result : Outcome) (p q : Option Pending) (m l : Log) (f : Option First) (was sums : Totals)
        → p ≡ None → f ≡ o → m ≡ log → was ≡ Sums → q ≡ pending_after f a n.seq result p → l ≡ log_after f a result m → sums ≡ totals_behind was result agent.totals
        → New q l sums ≡ acted_locally o a r n agent.moment t result (Old p)
    acted_is result p q m l f was sums none first same summed pending logged totals =
        ap (λ (x : Option Pending). New x l sums)
        (pending ∙ ap (λ (x : Option First). pending_after x a n.seq result p) first ∙ ap (λ (x : Option Pending). pending_after o a n.seq result x) none)
        ∙ ap (λ (x : Log). New (pending_after o a n.seq result None) x sums)
        (logged ∙ ap (λ (x : Option First). log_after x a result m) first ∙ ap (λ (x : Log). log_after o a result x) same)
        ∙ ap (λ (x : Totals). New (pending_after o a n.seq result None) (log_after o a result log) x)
        (totals ∙ ap (λ (x : Totals). totals_behind x result agent.totals) summed)
        ∙ by_outcome result
        ∙ sym (ap (λ (x : Option Pending). acted_locally o a r n agent.moment t result (Old x)) none)

-- ---- the step

-- what is known of an act before its commit
pub record IsReady (v : GroupView) (a : Act) (r : TierRec) (n : NameState) : Type 0 where
  pub live : v.stores.cache.live ≡ true
  pub settled : v.stores.pending ≡ None
  pub on : ActsHere v a.call a.line a.req r n a.reply (first_for v.log.opening a.req.name r.state)
  pub has : HasRec (joined v) a.req.name (Some r)
  pub named : name_fault a.req.name ≡ None

module _ (v : GroupView) (a : Act) (r : TierRec) (n : NameState) (t : StoreView) (is : IsReady v a r n) (sound : Sound t) where
  abbrev Made : Outcome → GroupView
  Made result = acted_locally (first_for v.log.opening a.req.name r.state) a r n v.agent.moment t result v

  abbrev Put : TierRec
  Put = acted_record n v.agent.moment

  module _ (whole : IsWhole v) where
    put : (result : Outcome) → PutsRec v a.req.name (Some r) (Some Put) (Some (record_bytes Put)) t result → Keeps (with_req a.req) None v (Made result)
    put result puts =
        acting_here_keeps v a.call a.line a.req r n a.reply (first_for v.log.opening a.req.name r.state) v.agent.moment (Some (record_bytes Put)) t result whole is.settled is.on puts

    pub acted_step : (result : Outcome) → Commits (record_put a.req.name Put) v.stores.cache t result → IsSpelled Put result → Keeps (with_req a.req) None v (Made result)
    acted_step (Ok made) h spelled =
        put (Ok made) (record { live = is.live; has = is.has; named = is.named; spelled = spelled; committed = h.committed; few = λ live. sound_is_few t sound live })
    acted_step (Err Disk) h spelled =
        put (Err Disk) (record { live = is.live; has = is.has; named = is.named; spelled = spelled; committed = h.committed; few = λ live. sound_is_few t sound live })
    acted_step (Err (BadImage at)) h spelled = absurd h.committed
    acted_step (Err (NoSpace used need limit)) h spelled =
        put (Err (NoSpace used need limit)) (record { live = is.live; has = is.has; named = is.named; spelled = spelled; committed = h.committed; few = λ live. sound_is_few t sound live })
    acted_step (Err (Worn limit)) h spelled =
        put (Err (Worn limit)) (record { live = is.live; has = is.has; named = is.named; spelled = spelled; committed = h.committed; few = λ live. sound_is_few t sound live })
    acted_step (Err NoMemory) h spelled =
        actless_keeps (with_req a.req) v (with_cache t None v) (leaving_cache_keeps v t whole is.settled (record { moments = h.committed.moments; later = inl h.committed }))

  -- what it leaves of the group
  leaves_rest : (result : Outcome) → ((Made result).standing ≡ v.standing) × ((Made result).calls ≡ v.calls) × ((Made result).traffic ≡ v.traffic) × ((Made result).stores.cache ≡ t)
  leaves_rest (Ok made) = (refl, refl, refl, refl)
  leaves_rest (Err Disk) = (refl, refl, refl, refl)
  leaves_rest (Err (BadImage at)) = (refl, refl, refl, refl)
  leaves_rest (Err (NoSpace used need limit)) = (refl, refl, refl, refl)
  leaves_rest (Err (Worn limit)) = (refl, refl, refl, refl)
  leaves_rest (Err NoMemory) = (refl, refl, refl, refl)

  pub acted_kept : (base : BaseView) (table : TableView) (result : Outcome) → IsKept v base table → Keeps (with_req a.req) None v (Made result) → IsKept (Made result) base table
  acted_kept base table result h step =
      let rest = leaves_rest result in
      kept_on v (Made result) base table h step.0 (subst Sound (sym rest.3) sound) rest.0 rest.1 rest.2

-- ---- nothing is done

-- without memory for it
pub unacted_step : (v : GroupView) (a : Act) → IsWhole v → v.stores.pending ≡ None → Keeps (with_req a.req) None v (with_cache v.stores.cache None v)
unacted_step v a whole none =
    actless_keeps (with_req a.req) v (with_cache v.stores.cache None v)
    (leaving_cache_keeps v v.stores.cache whole none (record { moments = refl; later = inl (stays_same v.stores.cache) }))

pub unput : (changes : List Change) (s : StoreView) → Commits changes s s (Err NoMemory)
unput changes s = record { committed = stays_same s; over = λ used need limit is. absurd (cc) }
