-- The base of a group is opened anew.
use Rattle.std.proofs.Common.{◌≡◌, inl, inr, ◌+◌, Bool, true, false, if◌then◌else◌, length, List, Option, Some, None, refl, sym, ap, subst, ◌∙◌, true≢false, arith}
use Rattle.std.specs.List.{AllByRecursion}
use Rattle.std.specs.Prelude.{Result, Ok, Err}
use Rattle.base_pool.specs.Serves.{IsMsg}
use Rattle.base_pool.specs.Views.{BaseView, IsLive, SoundBase}
use Rattle.obj_model.specs.declared.change.Pool.{Pool}
use Rattle.obj_model.specs.declared.change.Pool.TheVariants.{Base, Cache}
use Rattle.store_face.specs.Views.{Sound, StoreView}
use Rattle.store_face.specs.declared.fault.StoreFault.{StoreFault}
use Rattle.store_face.specs.declared.fault.StoreFault.TheVariants.{Disk, BadImage, NoSpace, Worn, NoMemory}
use Rattle.tier_calls.specs.Tables.{TableView}
use Rattle.tier_chron.specs.Logs.{Log}
use Rattle.tier_core.proofs.Kept.{seen_opened}
use Rattle.tier_core.proofs.OtherEpochs.{tells_no_other}
use Rattle.tier_core.proofs.LookedThere.{among_same}
use Rattle.tier_core.specs.Keeps.{IsKept, MayBeAsked}
use Rattle.tier_core.specs.Opens.{BaseComesTo, IsFound, IsReopened, LooksThere, MaySettle, OpenFails, OpensBase, RunsAgain, epoch_found, halted_there, log_settled, pending_settled, start_settled, stopped_there, table_settled}
use Rattle.tier_core.specs.Parts.{group_of, seen_base, stores_of}
use Rattle.tier_core.specs.Steps.{IsStep}
use Rattle.tier_core.specs.declared.opening.Found.{Found}
use Rattle.tier_core.specs.declared.opening.Found.TheVariants as found
use Rattle.tier_core.specs.declared.opening.OpenFault.{OpenFault}
use Rattle.tier_core.specs.declared.opening.OpenFault.TheVariants as fault
use Rattle.tier_core.specs.declared.parts.Agent.{Agent}
use Rattle.tier_core.specs.declared.parts.Start.{Start}
use Rattle.agent_state.specs.declared.totals.Totals.{Totals}
use Rattle.tier_view.specs.Calls.{Calls}
use Rattle.tier_view.specs.declared.parts.Entry.{Entry}
use Rattle.tier_view.specs.declared.parts.Flown.{Flown}
use Rattle.tier_view.specs.declared.parts.Sent.{Sent}
use Rattle.tier_view.specs.Starts.{ComesTo, fails, halts, opens, pool_in, settles}
use Rattle.tier_view.specs.Traffic.{Traffic}
use Rattle.tier_view.specs.Views.{GroupView}
use Rattle.tier_view.specs.Whole.{AreSums, IsElsewhere}
use Rattle.tier_view.specs.declared.parts.Pending.{Pending}
use Rattle.tier_core.proofs.LookedThere.{elsewhere_of}
use Rattle.tier_view.proofs.StartingOpenings.{opening_stores_keeps}

-- ---- what was found, and the doubt

-- where a pool runs again, that is an outcome of its opening
pub runs_comes : (pool : Pool) (p : Option Pending) (s : StoreView) (totals : Totals) (v w : GroupView) → v.stores.pending ≡ p → RunsAgain pool p s totals v w → ComesTo pool s totals v w
runs_comes pool None s totals v w is h = opens (subst (IsElsewhere pool) (sym is) tt) h
runs_comes pool (Some p) s totals v w is (inl h) = opens (subst (IsElsewhere pool) (sym is) (elsewhere_of pool p h.0)) h.1
runs_comes pool (Some p) s totals v w is (inr h) = settles p is h.0 h.1

-- a commit of the base is none of the cache
base_is_elsewhere : (p : Pending) → pool_in p ≡ Base → IsElsewhere Cache (Some p)
base_is_elsewhere p is = elsewhere_of Cache p (λ same. absurd (cc))

-- where the cache is sure behind it, it was before
pub was_sure : (p : Option Pending) (s : StoreView) (f : Found) → IsFound Base p s f → IsElsewhere Cache (pending_settled f p) → IsElsewhere Cache p
was_sure None s f h sure = tt
was_sure (Some p) s found.Nothing h sure = sure
was_sure (Some p) s found.There h sure = base_is_elsewhere p h.0
was_sure (Some p) s found.Gone h sure = base_is_elsewhere p h.0

-- what is found in the base raises no cache
pub base_may_settle : (p : Option Pending) (s : StoreView) (f : Found) (flown : List Flown) → IsFound Base p s f → MaySettle f p flown
base_may_settle None s found.Nothing flown h = tt
base_may_settle None s found.There flown h = tt
base_may_settle None s found.Gone flown h = tt
base_may_settle (Some p) s found.Nothing flown h = tt
base_may_settle (Some p) s found.Gone flown h = tt
base_may_settle (Some (Pending.Plain pool name)) s found.There flown h = tt
base_may_settle (Some (Pending.Act pool first a seq)) s found.There flown h = tt
base_may_settle (Some (Pending.Epoch Base e)) s found.There flown h = tt
base_may_settle (Some (Pending.Epoch Cache e)) s found.There flown h = absurd (cc)

-- ---- what is settled keeps the counts

pub table_calls : (f : Found) (p : Option Pending) (t : TableView) → (table_settled f p t).calls ≡ t.calls
table_calls found.Nothing p t = refl
table_calls found.Gone p t = refl
table_calls found.There None t = refl
table_calls found.There (Some (Pending.Plain pool name)) t = refl
table_calls found.There (Some (Pending.Act pool first a seq)) t = refl
table_calls found.There (Some (Pending.Epoch Cache e)) t = refl
table_calls found.There (Some (Pending.Epoch Base e)) t = refl

pub counted_on : (f : Found) (p : Option Pending) (s : Start) (t : TableView) → s.next_opid + t.earlier ≡ length t.calls.flown + 1
    → (start_settled f p s).next_opid + (table_settled f p t).earlier ≡ length t.calls.flown + 1
counted_on found.Nothing p s t h = h
counted_on found.Gone p s t h = h
counted_on found.There None s t h = h
counted_on found.There (Some (Pending.Plain pool name)) s t h = h
counted_on found.There (Some (Pending.Act pool first a seq)) s t h = h
counted_on found.There (Some (Pending.Epoch Cache e)) s t h = omega arith
counted_on found.There (Some (Pending.Epoch Base e)) s t h = h

pub level_on : (f : Found) (p : Option Pending) (s : Start) → (start_settled f p s).base_epoch ≡ epoch_found f p s.base_epoch
level_on found.Nothing p s = refl
level_on found.Gone p s = refl
level_on found.There None s = refl
level_on found.There (Some (Pending.Plain pool name)) s = refl
level_on found.There (Some (Pending.Act pool first a seq)) s = refl
level_on found.There (Some (Pending.Epoch Cache e)) s = refl
level_on found.There (Some (Pending.Epoch Base e)) s = refl

-- ---- the group

-- what the opening of the base leaves of a group
pub record BaseOpened (old new : GroupView) (base : BaseView) (table : TableView) (result : Result (Unit {0}) OpenFault) : Type 0 where
  pub kept : IsKept new base table
  pub is : OpensBase old new result
  pub step : IsStep None old new

-- as the group sees it
seen_dead : (b : BaseView) → b.store.live ≡ false → (seen_base b).live ≡ false
seen_dead b dead = by b.opened
  where
    by : (o : Bool) → (if o then b.store.live else false) ≡ false
    by true = dead
    by false = refl

pub seen_shut : (b : BaseView) → b.opened ≡ false → (seen_base b).live ≡ false
seen_shut b shut = ap (λ (o : Bool). if o then b.store.live else false) shut

seen_reopened : (b new : BaseView) → IsReopened b.store new.store → IsReopened (seen_base b) (seen_base new)
seen_reopened b new h = record { among = record { more = h.among.more; grew = h.among.grew; each = h.among.each }; room = h.room; later = h.later }

seen_fails : (f : StoreFault) (b new : BaseView) → OpenFails f b.store new.store → OpenFails f (seen_base b) (seen_base new)
seen_fails Disk b new h = (h.0, seen_dead new h.1)
seen_fails (BadImage at) b new h = (h.0, h.1, seen_dead new h.2)
seen_fails (NoSpace used need limit) b new h = h
seen_fails (Worn limit) b new h = h
seen_fails NoMemory b new h = h

module _ (cache : StoreView) (b new : BaseView) (cs bs : Bool) (p : Option Pending) (log : Log) (traffic : Traffic) (start : Start) (agent : Agent) (table : TableView) where
  -- the group with this base, and these parts
  abbrev With : BaseView → Bool → Option Pending → Log → Start → GroupView
  With base stopped q l s = group_of (stores_of cache base cs stopped q) l table.calls traffic s agent

  abbrev Old : GroupView
  Old = With b bs p log start

  -- behind an opening that found this
  abbrev Runs : Found → GroupView
  Runs f = With new false (pending_settled f p) (log_settled f p log) (start_settled f p start)

  -- behind one that failed
  abbrev Failed : OpenFault → GroupView
  Failed f = With new (stopped_there f bs) p log (halted_there f start)

  module _ (h : IsKept Old b table) (sound : SoundBase new) where
    -- the step, and what is kept, by what the opening comes to
    opened : (w : GroupView) (result : Result (Unit {0}) OpenFault) (t : TableView) → IsReopened (seen_base b) (seen_base new) → w.stores.base ≡ seen_base new → w.stores.cache ≡ cache
        → AreSums w.stores w.agent → ComesTo Base (seen_base new) Old.agent.totals Old w → BaseComesTo Old w result
        → (IsLive new → new.epoch ≡ w.standing.base_epoch) → w.standing.next_opid + t.earlier ≡ length w.calls.flown + 1
        → w.traffic ≡ traffic → w.calls.entries ≡ table.calls.entries → BaseOpened Old w new t result
    opened w result t reopened is same sums comes to level counted between entries =
        let keeps = opening_stores_keeps Base (seen_base new) Old.agent.totals Old w h.whole (record { among = reopened.among; later = reopened.later; summed = sums; comes = comes }) in
        record {
          kept = record {
            whole = keeps.0;
            cached = subst Sound (sym same) h.cached;
            based = sound;
            level = level;
            counted = counted;
            messages = subst (λ (x : Traffic). AllByRecursion (λ (m : Sent). IsMsg m.message) x.messages) (sym between) h.messages;
            asked = subst (λ (x : List Entry). AllByRecursion (λ (e : Entry). MayBeAsked e.asked) x) (sym entries) h.asked;
          };
          is = record { store = subst (IsReopened (seen_base b)) (sym is) reopened; comes = to };
          step = keeps;
        }

    -- it runs again
    runs : (f : Found) → IsFound Base p (seen_base new) f → RunsAgain Base p (seen_base new) Old.agent.totals Old (Runs f)
    runs f k = by p f k
      where
        by : (q : Option Pending) (f : Found) → IsFound Base q (seen_base new) f → RunsAgain Base q (seen_base new) Old.agent.totals (With b bs q log start) (With new false (pending_settled f q) (log_settled f q log) (start_settled f q start))
        by None found.Nothing k = refl
        by None found.There k = absurd (cc)
        by None found.Gone k = absurd (cc)
        by (Some q) found.Nothing k = inl (k, refl)
        by (Some (Pending.Plain Base name)) found.There k = inr (refl, (k.1, refl))
        by (Some (Pending.Plain Cache name)) found.There k = absurd (cc)
        by (Some (Pending.Act Base first a seq)) found.There k = inr (refl, inl (k.1, refl))
        by (Some (Pending.Act Cache first a seq)) found.There k = absurd (cc)
        by (Some (Pending.Epoch Base e)) found.There k = inr (refl, inl (k.1, refl))
        by (Some (Pending.Epoch Cache e)) found.There k = absurd (cc)
        by (Some (Pending.Plain pool name)) found.Gone k = absurd k.1
        by (Some (Pending.Act Base first a seq)) found.Gone k = inr (refl, inr (k.1, refl))
        by (Some (Pending.Act Cache first a seq)) found.Gone k = absurd (cc)
        by (Some (Pending.Epoch Base e)) found.Gone k = inr (refl, inr (k.1, refl))
        by (Some (Pending.Epoch Cache e)) found.Gone k = absurd (cc)

    pub base_runs : (f : Found) → LooksThere p start.base_epoch b new (Ok f) → BaseOpened Old (Runs f) new (table_settled f p table) (Ok tt)
    base_runs f k =
        let seen : seen_base new ≡ new.store = seen_opened new k.1 in
        let there : IsFound Base p (seen_base new) f = subst (λ (s : StoreView). IsFound Base p s f) (sym seen) k.3 in
        let again = runs f there in
        opened (Runs f) (Ok tt) (table_settled f p table) (seen_reopened b new (record { among = k.0.among; room = k.0.room; later = k.0.later })) refl refl
        (λ known. h.whole.totals (record { live = known.live; runs = known.runs; sure = was_sure p (seen_base new) f there known.sure }))
        (runs_comes Base p (seen_base new) Old.agent.totals Old (Runs f) refl again)
        (subst (λ (s : StoreView). s.live ≡ true) (sym seen) k.0.live, again)
        (λ live. k.2 ∙ sym (level_on f p start))
        (counted_on f p start table h.counted)
        refl refl

    pub base_fails : (f : OpenFault) → LooksThere p start.base_epoch b new (Err f) → BaseOpened Old (Failed f) new table (Err f)
    base_fails (fault.Store f) k =
        opened (Failed (fault.Store f)) (Err (fault.Store f)) table (seen_reopened b new k.0) refl refl
        (λ known. h.whole.totals (record { live = known.live; runs = known.runs; sure = known.sure }))
        (fails refl) (refl, seen_fails f b new k.2) k.1 h.counted refl refl
    base_fails (fault.BadRecord name) k =
        opened (Failed (fault.BadRecord name)) (Err (fault.BadRecord name)) table (seen_reopened b new k.0) refl refl
        (λ known. h.whole.totals (record { live = known.live; runs = known.runs; sure = known.sure }))
        (fails refl) (refl, k.2) k.1 h.counted refl refl
    base_fails (fault.OtherEpoch e) k =
        opened (Failed (fault.OtherEpoch e)) (Err (fault.OtherEpoch e)) table (seen_reopened b new k.0) refl refl
        (λ known. h.whole.totals (record { live = known.live; runs = known.runs; sure = known.sure }))
        (halts refl) (refl, seen_shut new k.1, k.2, k.3, k.4, tells_no_other Old (seen_base new) e h.whole (seen_reopened b new k.0).among k.2 k.3 k.4)
        (λ live. absurd (true≢false (sym live.opened ∙ k.1))) h.counted refl refl
    base_fails (fault.Sums f) k = absurd k

    -- the same of the parts as they are left
    pub base_failed : (f : OpenFault) (after : Bool) (l : Log) (s : Start) → after ≡ stopped_there f bs → l ≡ log → s ≡ halted_there f start → LooksThere p start.base_epoch b new (Err f)
        → BaseOpened Old (With new after p l s) new table (Err f)
    base_failed f after l s stopped same starts k =
        let eq : With new after p l s ≡ Failed f =
        ap (λ (x : Bool). With new x p l s) stopped
        ∙ ap (λ (x : Log). With new (stopped_there f bs) p x s) same
        ∙ ap (λ (x : Start). With new (stopped_there f bs) p log x) starts in
        subst (λ (w : GroupView). BaseOpened Old w new table (Err f)) (sym eq) (base_fails f k)

    pub base_ran : (f : Found) (q : Option Pending) (l m : Log) (s : Start) (t : TableView) → q ≡ pending_settled f p → l ≡ log → m ≡ log_settled f p l → s ≡ start_settled f p start
        → t ≡ table_settled f p table → LooksThere p start.base_epoch b new (Ok f)
        → BaseOpened Old (group_of (stores_of cache new cs false q) m t.calls traffic s agent) new t (Ok tt)
    base_ran f q l m s t doubts same logs starts tables k =
        let calls : t.calls ≡ table.calls = ap (λ (x : TableView). x.calls) tables ∙ table_calls f p table in
        let eq : group_of (stores_of cache new cs false q) m t.calls traffic s agent ≡ Runs f =
        ap (λ (x : Calls). group_of (stores_of cache new cs false q) m x traffic s agent) calls
        ∙ ap (λ (x : Option Pending). With new false x m s) doubts
        ∙ ap (λ (x : Log). With new false (pending_settled f p) x s) (logs ∙ ap (log_settled f p) same)
        ∙ ap (λ (x : Start). With new false (pending_settled f p) (log_settled f p log) x) starts in
        subst (λ (w : GroupView). BaseOpened Old w new t (Ok tt)) (sym eq) (subst (λ (x : TableView). BaseOpened Old (Runs f) new x (Ok tt)) (sym tables) (base_runs f k))

-- there was no memory for the act in doubt
module _ (cache : StoreView) (b : BaseView) (cs bs : Bool) (p : Option Pending) (log : Log) (traffic : Traffic) (start : Start) (agent : Agent) (table : TableView) where
  abbrev Same : Log → GroupView
  Same l = group_of (stores_of cache b cs bs p) l table.calls traffic start agent

  pub base_lacks : (l : Log) → l ≡ log → IsKept (Same log) b table → BaseOpened (Same log) (Same l) b table (Err (fault.Store NoMemory))
  base_lacks l same h =
      let reopened : IsReopened (seen_base b) (seen_base b) = record { among = among_same (seen_base b) (seen_base b) refl; room = refl; later = omega arith } in
      subst (λ (x : Log). BaseOpened (Same log) (Same x) b table (Err (fault.Store NoMemory))) (sym same) (record {
        kept = h;
        is = record { store = reopened; comes = (refl, tt) };
        step = opening_stores_keeps Base (seen_base b) agent.totals (Same log) (Same log) h.whole (record { among = reopened.among; later = reopened.later; summed = h.whole.totals; comes = fails refl });
      })

-- ---- from the group that its contract speaks of

pub base_opened_from : (v old new : GroupView) (base : BaseView) (table : TableView) (result : Result (Unit {0}) OpenFault) → old ≡ v → BaseOpened old new base table result
    → OpensBase v new result × IsStep None v new
base_opened_from v old new base table result is h =
    subst (λ (x : GroupView). OpensBase x new result × IsStep None x new) is (h.is, h.step)
