-- A step that commits in the cache: what is left to show of it.
use Rattle.std.proofs.Common.{◌≡◌, ◌≤◌, ℕ, ◌+◌, true, false, List, [], ◌++◌, length, Option, None, Ok, refl, sym, subst, ◌∙◌, true≢false, arith}
use Rattle.std.proofs.lemmas.List.{append-nil}
use Rattle.agent_state.specs.declared.totals.Totals.{Totals}
use Rattle.obj_model.specs.declared.change.Pool.TheVariants.{Cache}
use Rattle.obj_ops.specs.Stores.{Store}
use Rattle.pool_keys.specs.Keys.{record_key}
use Rattle.pool_keys.specs.Maps.{SpellsCache}
use Rattle.store_face.specs.Calls.{Made}
use Rattle.store_face.specs.Views.{StoreView}
use Rattle.tier_chron.specs.Shapes.{IsShaped}
use Rattle.tier_chron.specs.declared.entries.Act.{Act}
use Rattle.tier_chron.specs.declared.entries.First.{First}
use Rattle.tier_join.specs.Group.{BothTell}
use Rattle.tier_join.specs.Promises.{Promises}
use Rattle.tier_join.specs.Steps.{sets}
use Rattle.tier_join.proofs.Keys.{set_is}
use Rattle.tier_join.proofs.Left.{made_left, rests_left}
use Rattle.tier_protocol.specs.Tiers.{Flights, Name, TierRec}
use Rattle.tier_view.specs.Agents.{Agents}
use Rattle.tier_view.specs.Calls.{Flown}
use Rattle.tier_view.specs.Grows.{AreEntered, Extends, Grows, HaveCome, OneCommit, Remains, Stays}
use Rattle.tier_view.specs.Laws.{Keeps}
use Rattle.tier_view.specs.Locals.{PutsRec, resummed}
use Rattle.tier_view.specs.Owed.{Owes}
use Rattle.tier_view.specs.Stores.{Pending}
use Rattle.tier_view.specs.Tables.{IsUnanswered, SoundFlights}
use Rattle.tier_view.specs.Views.{GroupView, calls_in, joined}
use Rattle.tier_view.specs.Whole.{AreSums, IsElsewhere, IsKnown, IsWhole}
use Rattle.tier_view.specs.Worlds.{Began, MayPend}
use Rattle.tier_view.proofs.Keeping.{steps_keep}
use Rattle.tier_view.proofs.LocalMaps.{sums_after}
use Rattle.tier_view.proofs.Resting.{all_of, extends_same, stays_itself}

module _ (v : GroupView) (h : IsWhole v) (none : v.stores.pending ≡ None) (s : StoreView) where
  -- with this doubt, history, work, table of work, and sums
  abbrev G : Option Pending → List First → List Act → Flights → List Flown → Totals → GroupView
  G p opening acts flights flown totals = record v {
    stores = record v.stores { cache = s; pending = p };
    log = record { opening = opening; acts = acts; answers = v.log.answers };
    calls = record v.calls { flown = flown };
    traffic = record v.traffic { flights = flights };
    agent = record v.agent { totals = totals };
  }

  module _ (p : Option Pending) (opening more : List First) (acts last : List Act) (flights : Flights) (flown : List Flown) (totals : Totals) where
    abbrev W : GroupView
    W = G p opening acts flights flown totals

    pub cache_grows : (other : Store → Store) → v.stores.cache.faults ≤ s.faults → Promises other (joined v) (joined W) → ((start : Store) → BothTell (joined v) → Began start v → Began start W)
        → opening ≡ v.log.opening ++ more → acts ≡ v.log.acts ++ last
        → Extends (Remains (length v.log.answers) (length v.log.answers)) (HaveCome v.calls.entries v.calls.entries (length v.log.answers) v.standing v.standing) v.calls.flown flown
        → OneCommit v.stores W.stores → Grows other None v W
    cache_grows other later promises began is_opening is_acts work commit = record {
      pools = promises;
      began = began;
      log = record { opening = more; acts = last; answers = []; is_opening = is_opening; is_acts = is_acts; is_answers = sym (append-nil v.log.answers); ends = tt };
      one_answer = tt;
      calls = extends_same Stays (AreEntered (v.calls.last + 1) v.standing.cache_epoch (length v.log.acts) v.calls.last None) stays_itself v.calls.entries refl;
      flown = work;
      commit = commit;
      epoch = omega arith;
      cache_faults = later;
      base_faults = omega arith;
      share = refl;
      values = refl;
    }

    pub cache_owes : v.stores.cache.faults ≤ s.faults → (IsShaped (calls_in v.calls.entries) v.log → IsShaped (calls_in v.calls.entries) W.log) → MayPend v.calls.entries W.log p
        → SoundFlights v.calls.entries flown flights v.traffic.begun v.standing.cache_epoch (length v.log.answers) → AreSums W.stores W.agent → Owes [] v W
    cache_owes later shaped pending work sums = record {
      logs = sym (append-nil v.log.answers);
      shaped = shaped;
      pending = pending;
      over = all_of (λ e. e.ended ≡ false → IsUnanswered e.number []) (λ e _. tt) v.calls.entries;
      flights = work;
      traffic = record { messages = h.traffic.messages; replies = h.traffic.replies; answers = h.traffic.answers; owned = h.traffic.owned; begun = h.traffic.begun; awaited = h.traffic.awaited };
      causes = tt;
      cache_failed = omega (arith, later);
      base_failed = omega arith;
      stops = record { cache = h.stops.cache; base = h.stops.base };
      totals = sums;
    }

    pub cache_keeps : (other : Store → Store) → Grows other None v W → Owes [] v W → Keeps other None v W
    cache_keeps other g owed = (steps_keep other None [] v W h g owed, g)

  -- ---- the sums

  known_before : (p : Option Pending) → v.stores.cache.live ≡ true → IsKnown (record v.stores { cache = s; pending = p }) → IsKnown v.stores
  known_before p live k = record { live = live; runs = k.runs; sure = subst (IsElsewhere Cache) (sym none) tt }

  -- no map changed
  pub sums_rest : s.moments ≡ v.stores.cache.moments → s.live ≡ v.stores.cache.live → (p : Option Pending) → AreSums (record v.stores { cache = s; pending = p }) v.agent
  sums_rest same live p k x left recs epoch spelled = h.totals (known_before p (sym live ∙ k.live) k) x (rests_left v.stores.cache s same x left) recs epoch spelled

  -- the store failed
  pub sums_failed : s.live ≡ false → (p : Option Pending) (agent : Agents) → AreSums (record v.stores { cache = s; pending = p }) agent
  sums_failed dead p agent k = absurd (true≢false (sym k.live ∙ dead))

  -- a record was put
  module _ (k : Name) (old new : Option TierRec) (o : Option (List ℕ)) (done : Unit {0}) (puts : PutsRec v k old new o s (Ok done)) where
    pub sums_put : AreSums (record v.stores { cache = s; pending = None }) (resummed old new v.agent)
    sums_put know x left recs epoch spelled =
        let made : Made (sets (record_key k) o) v.stores.cache s = puts.committed in
        let from = made_left (sets (record_key k) o) v.stores.cache s made x left in
        sums_after v.agent.totals from.0 recs epoch k o old new (puts.has from.0 from.1) puts.named puts.spelled
        (subst (λ t. SpellsCache t recs epoch) (from.2 ∙ set_is from.0 (record_key k) o) spelled)
        (λ was. h.totals (known_before None puts.live know) from.0 from.1 _ epoch was)
        (puts.few know.live x left recs epoch spelled)
