-- The cache of a group is opened anew.
use Rattle.std.proofs.Common.{◌≡◌, ◌≢◌, inl, inr, ℕ, ◌+◌, Bool, false, List, [], ◌∷◌, length, Option, Some, None, IsSome, refl, sym, ap, subst, ◌∙◌, true≢false, arith}
use Rattle.std.specs.FinMap as fin
use Rattle.std.specs.List.{AllByRecursion}
use Rattle.std.specs.Option.{option_map}
use Rattle.std.specs.Prelude.{Result, Ok, Err}
use Rattle.agent_state.specs.declared.totals.Totals.{Totals}
use Rattle.base_pool.specs.Serves.{IsMsg}
use Rattle.base_pool.specs.Views.{BaseView}
use Rattle.obj_model.specs.declared.change.Pool.TheVariants.{Base, Cache}
use Rattle.store_face.specs.Views.{Sound, StoreView}
use Rattle.store_face.specs.declared.fault.StoreFault.TheVariants.{NoMemory}
use Rattle.tier_calls.specs.Tables.{TableView}
use Rattle.tier_calls.specs.Turns.{HasGone}
use Rattle.tier_chron.specs.Logs.{Log}
use Rattle.tier_core.proofs.LookedThere.{among_same}
use Rattle.tier_core.proofs.OpenedThere.{counted_on, runs_comes, table_calls}
use Rattle.tier_view.specs.Calls.{Calls}
use Rattle.tier_core.proofs.Stopped.{count_gone}
use Rattle.tier_core.specs.Keeps.{IsKept, MayBeAsked}
use Rattle.tier_core.specs.Opens.{CacheComesTo, IsFound, IsOfCache, IsReopened, LooksHere, MaySettle, OpensCache, RunsAgain, calls_halted, log_settled, pending_settled, start_halted, start_settled, stopped_here, table_settled, wires_halted}
use Rattle.tier_core.specs.Parts.{group_of, stores_of}
use Rattle.tier_core.specs.Steps.{IsStep}
use Rattle.tier_core.specs.declared.opening.Found.{Found}
use Rattle.tier_core.specs.declared.opening.Found.TheVariants as found
use Rattle.tier_core.specs.declared.opening.OpenFault.{OpenFault}
use Rattle.tier_core.specs.declared.opening.OpenFault.TheVariants as fault
use Rattle.tier_core.specs.declared.parts.Agent.{Agent}
use Rattle.tier_core.specs.declared.parts.Start.{Start}
use Rattle.tier_join.specs.Group.{EpochIsNext}
use Rattle.tier_protocol.proofs.Memory.{free_unless_up}
use Rattle.obj_model.specs.declared.tier.Kind.{Kind}
use Rattle.tier_protocol.specs.Tiers.{Flight, Flights, Name, Phase}
use Rattle.tier_traffic.specs.Wires.{WiresView}
use Rattle.tier_view.proofs.StartingOpenings.{opening_stores_keeps}
use Rattle.tier_view.proofs.StartingReady.{unopened_caches_ask_no_sums}
use Rattle.tier_view.specs.Starts.{ComesTo, fails, halts, pool_in}
use Rattle.tier_view.specs.Stores.{doubt_in}
use Rattle.tier_view.specs.Tables.{IsOfKind, SoundFlown}
use Rattle.tier_view.specs.Views.{GroupView, joined}
use Rattle.tier_view.specs.Whole.{AreSums, IsWhole}
use Rattle.tier_view.specs.declared.parts.Entry.{Entry}
use Rattle.tier_view.specs.declared.parts.Flown.{Flown}
use Rattle.tier_view.specs.declared.parts.Pending.{Pending}
use Rattle.tier_view.specs.declared.parts.Sent.{Sent}

-- ---- a raise in doubt comes where all work has gone

none_stands : (f : Option Flight) (k : Kind) (op : ℕ) → f ≡ None → IsOfKind f k op → ⊥
none_stands f k op none h = subst (λ (o : Option Flight). IsOfKind o k op → ⊥) (sym none) (λ x. x) h

went_is : (o : Option ℕ) → (o ≡ None → ⊥) → IsSome o
went_is None h = absurd (h refl)
went_is (Some n) h = refl

all_went : (entries : List Entry) (flights : Flights) (count : ℕ) → ((n : Name) → fin.get flights n ≡ None) → (fs : List Flown) → AllByRecursion (SoundFlown entries flights count) fs
    → AllByRecursion HasGone fs
all_went entries flights count free [] h = tt
all_went entries flights count free (f ∷ fs) h =
    (went_is f.went (λ there. none_stands (fin.get flights f.name) f.kind f.opid (free f.name) (h.0.stands there)), all_went entries flights count free fs h.1)

-- where a raise of the cache is in doubt, no work is under way
pub raise_is_free : (v : GroupView) (e : ℕ) → IsWhole v → v.stores.pending ≡ Some (Pending.Epoch Cache e) → AllByRecursion HasGone v.calls.flown
raise_is_free v e h is = all_went v.calls.entries v.traffic.flights (length v.log.answers) free v.calls.flown h.flights.table
  where
    next : EpochIsNext (joined v).memory.net (Some (doubt_in (Pending.Epoch Cache e)))
    next = subst (λ (o : Option Pending). EpochIsNext (joined v).memory.net (option_map doubt_in o)) is h.memory.epochs

    not_up : v.standing.phase ≢ Phase.Up
    not_up up = let down = next.2 in absurd (cc)

    free : (n : Name) → fin.get v.traffic.flights n ≡ None
    free n = free_unless_up n (fin.get v.traffic.flights n) (joined v).memory.net (h.memory.sound.each n) not_up

pub cache_may_settle : (v : GroupView) (p : Option Pending) (f : Found) → IsWhole v → v.stores.pending ≡ p → MaySettle f p v.calls.flown
cache_may_settle v p found.Nothing h is = tt
cache_may_settle v p found.Gone h is = tt
cache_may_settle v None found.There h is = tt
cache_may_settle v (Some (Pending.Plain pool name)) found.There h is = tt
cache_may_settle v (Some (Pending.Act pool first a seq)) found.There h is = tt
cache_may_settle v (Some (Pending.Epoch Base e)) found.There h is = tt
cache_may_settle v (Some (Pending.Epoch Cache e)) found.There h is = raise_is_free v e h is

-- ---- what is settled keeps the base's epoch

level_here : (f : Found) (p : Option Pending) (s : StoreView) (start : Start) → IsFound Cache p s f → (start_settled f p start).base_epoch ≡ start.base_epoch
level_here found.Nothing p s start h = refl
level_here found.Gone p s start h = refl
level_here found.There None s start h = refl
level_here found.There (Some (Pending.Plain pool name)) s start h = refl
level_here found.There (Some (Pending.Act pool first a seq)) s start h = refl
level_here found.There (Some (Pending.Epoch Cache e)) s start h = refl
level_here found.There (Some (Pending.Epoch Base e)) s start h = absurd (cc)

-- ---- the group

-- what the opening of the cache leaves of a group
pub record CacheOpened (old new : GroupView) (base : BaseView) (table : TableView) (result : Result (Unit {0}) OpenFault) : Type 0 where
  pub kept : IsKept new base table
  pub is : OpensCache old new result
  pub step : IsStep None old new

module _ (c d : StoreView) (base : BaseView) (cs bs : Bool) (p : Option Pending) (log : Log) (start : Start) (agent : Agent) (table : TableView) (wires : WiresView) where
  -- the group with this store of the cache, and these parts
  abbrev With : StoreView → Bool → Option Pending → Log → TableView → WiresView → Start → Agent → GroupView
  With s stopped q l t w st ag = group_of (stores_of s base stopped bs q) l t.calls w.traffic st ag

  abbrev Old : GroupView
  Old = With c cs p log table wires start agent

  -- behind an opening that found this, with these sums
  abbrev Runs : Found → Totals → GroupView
  Runs f totals = With d false (pending_settled f p) (log_settled f p log) table wires (start_settled f p start) (record agent { totals = totals })

  -- behind one that failed
  abbrev Failed : OpenFault → GroupView
  Failed f = With d (stopped_here f cs) p log (calls_halted f (length log.answers) table) (wires_halted f wires) (start_halted f start) agent

  module _ (h : IsKept Old base table) (sound : Sound d) where
    -- the step, and what is kept, by what the opening comes to
    opened : (w : GroupView) (result : Result (Unit {0}) OpenFault) (totals : Totals) (t : TableView) → IsReopened c d → w.stores.cache ≡ d → AreSums w.stores w.agent → ComesTo Cache d totals Old w
        → CacheComesTo Old w result → w.standing.base_epoch ≡ start.base_epoch → w.standing.next_opid + t.earlier ≡ length w.calls.flown + 1
        → w.traffic.messages ≡ wires.traffic.messages → w.calls.entries ≡ table.calls.entries → CacheOpened Old w base t result
    opened w result totals t reopened is sums comes to level counted between entries =
        let keeps = opening_stores_keeps Cache d totals Old w h.whole (record { among = reopened.among; later = reopened.later; summed = sums; comes = comes }) in
        record {
          kept = record {
            whole = keeps.0;
            cached = subst Sound (sym is) sound;
            based = h.based;
            level = λ live. h.level live ∙ sym level;
            counted = counted;
            messages = subst (λ (x : List Sent). AllByRecursion (λ (m : Sent). IsMsg m.message) x) (sym between) h.messages;
            asked = subst (λ (x : List Entry). AllByRecursion (λ (e : Entry). MayBeAsked e.asked) x) (sym entries) h.asked;
          };
          is = record { store = subst (IsReopened c) (sym is) reopened; comes = to };
          step = keeps;
        }

    -- it runs again
    runs : (totals : Totals) (f : Found) → IsFound Cache p d f → RunsAgain Cache p d totals Old (Runs f totals)
    runs totals f k = by p f k
      where
        by : (q : Option Pending) (f : Found) → IsFound Cache q d f
            → RunsAgain Cache q d totals (With c cs q log table wires start agent)
            (With d false (pending_settled f q) (log_settled f q log) table wires (start_settled f q start) (record agent { totals = totals }))
        by None found.Nothing k = refl
        by None found.There k = absurd (cc)
        by None found.Gone k = absurd (cc)
        by (Some q) found.Nothing k = inl (k, refl)
        by (Some (Pending.Plain Cache name)) found.There k = inr (refl, (k.1, refl))
        by (Some (Pending.Plain Base name)) found.There k = absurd (cc)
        by (Some (Pending.Act Cache first a seq)) found.There k = inr (refl, inl (k.1, refl))
        by (Some (Pending.Act Base first a seq)) found.There k = absurd (cc)
        by (Some (Pending.Epoch Cache e)) found.There k = inr (refl, inl (k.1, refl))
        by (Some (Pending.Epoch Base e)) found.There k = absurd (cc)
        by (Some (Pending.Plain pool name)) found.Gone k = absurd k.1
        by (Some (Pending.Act Cache first a seq)) found.Gone k = inr (refl, inr (k.1, refl))
        by (Some (Pending.Act Base first a seq)) found.Gone k = absurd (cc)
        by (Some (Pending.Epoch Cache e)) found.Gone k = inr (refl, inr (k.1, refl))
        by (Some (Pending.Epoch Base e)) found.Gone k = absurd (cc)

    pub cache_runs : (f : Found) (totals : Totals) → LooksHere p c d (Ok (f, totals)) → CacheOpened Old (Runs f totals) base (table_settled f p table) (Ok tt)
    cache_runs f totals k =
        let again = runs totals f k.1 in
        opened (Runs f totals) (Ok tt) totals (table_settled f p table) (record { among = k.0.among; room = k.0.room; later = k.0.later }) refl
        (λ known x left recs epoch spelled. k.2 x left recs epoch spelled)
        (runs_comes Cache p d totals Old (Runs f totals) refl again) (k.0.live, k.2, again)
        (level_here f p d start k.1) (counted_on f p start table h.counted) refl refl

    of_cache : (q : Option Pending) → IsOfCache q → (r : Pending) × (q ≡ Some r) × (pool_in r ≡ Cache)
    of_cache None k = absurd k
    of_cache (Some r) k = (r, refl, k)

    pub cache_fails : (f : OpenFault) → LooksHere p c d (Err f) → CacheOpened Old (Failed f) base (calls_halted f (length log.answers) table) (Err f)
    cache_fails (fault.Store f) k =
        opened (Failed (fault.Store f)) (Err (fault.Store f)) agent.totals table k.0 refl
        (unopened_caches_ask_no_sums Old d (elim k.2 [ inl dead ↦ inl dead | inr of ↦ inr (inr (of_cache p of)) ]))
        (fails refl) (refl, k.1) refl h.counted refl refl
    cache_fails (fault.BadRecord name) k =
        opened (Failed (fault.BadRecord name)) (Err (fault.BadRecord name)) agent.totals table k.0 refl
        (unopened_caches_ask_no_sums Old d (inr (inr (of_cache p k.2))))
        (fails refl) (refl, k.1) refl h.counted refl refl
    cache_fails (fault.Sums f) k =
        opened (Failed (fault.Sums f)) (Err (fault.Sums f)) agent.totals (calls_halted (fault.Sums f) (length log.answers) table) k.0 refl
        (λ known. absurd (true≢false known.runs))
        (halts refl) (refl, k.1) refl (h.counted ∙ ap (λ (n : ℕ). n + 1) (sym (count_gone (length log.answers) table.calls.flown))) refl refl
    cache_fails (fault.OtherEpoch e) k = absurd k

    -- the same of the parts as they are left
    pub cache_failed : (f : OpenFault) (after : Bool) (l : Log) (t : TableView) (w : WiresView) (s : Start) → after ≡ stopped_here f cs → l ≡ log → t ≡ calls_halted f (length l.answers) table
        → w ≡ wires_halted f wires → s ≡ start_halted f start → LooksHere p c d (Err f) → CacheOpened Old (With d after p l t w s agent) base t (Err f)
    cache_failed f after l t w s stopped same tables lines starts k =
        let halted : t ≡ calls_halted f (length log.answers) table = tables ∙ ap (λ (x : Log). calls_halted f (length x.answers) table) same in
        let eq : With d after p l t w s agent ≡ Failed f =
        ap (λ (x : Bool). With d x p l t w s agent) stopped
        ∙ ap (λ (x : Log). With d (stopped_here f cs) p x t w s agent) same
        ∙ ap (λ (x : TableView). With d (stopped_here f cs) p log x w s agent) halted
        ∙ ap (λ (x : WiresView). With d (stopped_here f cs) p log (calls_halted f (length log.answers) table) x s agent) lines
        ∙ ap (λ (x : Start). With d (stopped_here f cs) p log (calls_halted f (length log.answers) table) (wires_halted f wires) x agent) starts in
        subst (λ (x : GroupView). CacheOpened Old x base t (Err f)) (sym eq) (subst (λ (x : TableView). CacheOpened Old (Failed f) base x (Err f)) (sym halted) (cache_fails f k))

    pub cache_ran : (f : Found) (totals : Totals) (q : Option Pending) (l m : Log) (s : Start) (t : TableView) → q ≡ pending_settled f p → l ≡ log → m ≡ log_settled f p l → s ≡ start_settled f p start
        → t ≡ table_settled f p table → LooksHere p c d (Ok (f, totals))
        → CacheOpened Old (With d false q m t wires s (record agent { totals = totals })) base t (Ok tt)
    cache_ran f totals q l m s t doubts same logs starts tables k =
        let ag : Agent = record agent { totals = totals } in
        let calls : t.calls ≡ table.calls = ap (λ (x : TableView). x.calls) tables ∙ table_calls f p table in
        let eq : With d false q m t wires s ag ≡ Runs f totals =
        ap (λ (x : Calls). group_of (stores_of d base false bs q) m x wires.traffic s ag) calls
        ∙ ap (λ (x : Option Pending). With d false x m table wires s ag) doubts
        ∙ ap (λ (x : Log). With d false (pending_settled f p) x table wires s ag) (logs ∙ ap (log_settled f p) same)
        ∙ ap (λ (x : Start). With d false (pending_settled f p) (log_settled f p log) table wires x ag) starts in
        subst (λ (x : GroupView). CacheOpened Old x base t (Ok tt)) (sym eq) (subst (λ (x : TableView). CacheOpened Old (Runs f totals) base x (Ok tt)) (sym tables) (cache_runs f totals k))

  -- there was no memory for the act in doubt
  pub cache_lacks : (l : Log) → l ≡ log → IsKept Old base table → CacheOpened Old (With c cs p l table wires start agent) base table (Err (fault.Store NoMemory))
  cache_lacks l same h =
      let reopened : IsReopened c c = record { among = among_same c c refl; room = refl; later = omega arith } in
      subst (λ (x : Log). CacheOpened Old (With c cs p x table wires start agent) base table (Err (fault.Store NoMemory))) (sym same) (record {
        kept = h;
        is = record { store = reopened; comes = (refl, tt) };
        step = opening_stores_keeps Cache c agent.totals Old Old h.whole (record { among = reopened.among; later = reopened.later; summed = h.whole.totals; comes = fails refl });
      })

-- ---- from the group that its contract speaks of

pub cache_opened_from : (v old new : GroupView) (base : BaseView) (table : TableView) (result : Result (Unit {0}) OpenFault) → old ≡ v → CacheOpened old new base table result
    → OpensCache v new result × IsStep None v new
cache_opened_from v old new base table result is h = subst (λ (x : GroupView). OpensCache x new result × IsStep None x new) is (h.is, h.step)
