-- The cache stops.
use Rattle.std.proofs.Common.{◌≡◌, ◌≤◌, ◌⊎◌, inl, inr, ℕ, ◌+◌, false, List, [], ◌∷◌, map, length, Option, Some, None, refl, sym, true≢false, arith}
use Rattle.std.specs.FinMap as fin
use Rattle.std.specs.List.{AllByRecursion}
use Rattle.std.proofs.lemmas.List.{append-nil}
use Rattle.obj_model.specs.declared.change.Pool.TheVariants.{Base, Cache}
use Rattle.obj_model.specs.Names.{name_cmp}
use Rattle.obj_ops.specs.Stores.{Store}
use Rattle.tier_join.specs.Group.{Memory, TwoMaps, tier_of, with_epoch}
use Rattle.tier_join.specs.Promises.{Promises}
use Rattle.tier_join.specs.Steps.{after, with_doubt}
use Rattle.tier_join.proofs.MemorySteps.{stopping_promises}
use Rattle.tier_protocol.specs.Moves.{stopped_cache}
use Rattle.tier_protocol.specs.Owners.{Ledger}
use Rattle.tier_protocol.specs.Tiers.{Flights}
use Rattle.tier_protocol.proofs.Owners.{losses_quiet, quiet_keeps}
use Rattle.tier_protocol.proofs.Starts.{stopping}
use Rattle.tier_view.specs.Calls.{Entry, Flown}
use Rattle.tier_view.specs.Grows.{AreEntered, Extends, Grows, HaveCome, Remains, Stays, no_commit}
use Rattle.tier_view.specs.Owed.{Owes}
use Rattle.tier_view.specs.Stops.{StoppingCacheKeeps, gone_at, gone_by, with_cache_stopped}
use Rattle.tier_view.specs.Stores.{Pending}
use Rattle.tier_view.specs.Tables.{IsTimed, IsUnanswered, SoundFlown}
use Rattle.tier_view.specs.Views.{GroupView, joined, ledger_in}
use Rattle.tier_view.specs.Whole.{IsWhole}
use Rattle.tier_view.specs.Worlds.{IsOwned, IsOwnedBy, IsOwnedWith}
use Rattle.tier_view.proofs.Keeping.{steps_keep}
use Rattle.tier_view.proofs.Resting.{all_of, extends_same, log_rests, stays_itself}

-- ---- the worlds

one_stopped : (start : Store) (m : Memory) (l : Ledger) (z : TwoMaps) → IsOwned start m l z → IsOwned start (after stopped_cache m) l z
one_stopped start m l z k =
    let t = tier_of start m k.spells.recs k.spells.base in
    record {
      spells = record { recs = k.spells.recs; base = k.spells.base; cached = k.spells.cached; based = k.spells.based; sound = (stopping t k.spells.sound).0 };
      owners = quiet_keeps t (stopped_cache t) l k.owners (losses_quiet t k.spells.sound).1;
    }

with_stopped : (start : Store) (m : Memory) (l : Ledger) (p : Pending) (z : TwoMaps) → IsOwnedWith start m l p z → IsOwnedWith start (after stopped_cache m) l p z
with_stopped start m l (Pending.Plain pool name) z h = h
with_stopped start m l (Pending.Act pool first a seq) z h = (h.0, one_stopped start _ _ z h.1)
with_stopped start m l (Pending.Epoch Cache e) z h = one_stopped start (with_epoch Cache e m) l z h
with_stopped start m l (Pending.Epoch Base e) z h = one_stopped start (with_epoch Base e m) l z h

by_stopped : (start : Store) (m : Memory) (l : Ledger) (o : Option Pending) (z : TwoMaps) → IsOwnedBy start m l o z → IsOwnedBy start (after stopped_cache m) l o z
by_stopped start m l None z h = one_stopped start m l z h
by_stopped start m l (Some p) z (inl h) = inl (one_stopped start m l z h)
by_stopped start m l (Some p) z (inr h) = inr (with_stopped start m l p z h)

-- ---- the table of work

remains_gone : (count : ℕ) (f : Flown) → Remains count count f (gone_at count f)
remains_gone count f = record { call = refl; kind = refl; name = refl; opid = refl; came = refl; went = by f.went }
  where
    by : (o : Option ℕ) → (gone_by count o ≡ o) ⊎ ((o ≡ None) × ((at : ℕ) × (gone_by count o ≡ Some at) × (count ≤ at) × (at ≤ count)))
    by None = inr (refl, (count, refl, omega arith, omega arith))
    by (Some at) = inl refl

extends_gone : (count : ℕ) (More : List Flown → Type 0) (fs : List Flown) → More [] → Extends (Remains count count) More fs (map (gone_at count) fs)
extends_gone count More [] h = h
extends_gone count More (f ∷ fs) h = (remains_gone count f, extends_gone count More fs h)

timed_gone : (count came : ℕ) (o : Option ℕ) → IsTimed count came o → IsTimed count came (gone_by count o)
timed_gone count came None h = (h, omega arith)
timed_gone count came (Some at) h = h

none_there : (count : ℕ) (o : Option ℕ) → gone_by count o ≡ None → ⊥
none_there count None e = absurd (cc)
none_there count (Some at) e = absurd (cc)

table_gone : (es : List Entry) (flights : Flights) (count : ℕ) (fs : List Flown) → AllByRecursion (SoundFlown es flights count) fs → AllByRecursion (SoundFlown es fin.empty count) (map (gone_at count) fs)
table_gone es flights count [] h = tt
table_gone es flights count (f ∷ fs) h = (
  record { known = h.0.known; timed = timed_gone count f.came f.went h.0.timed; stands = λ there. absurd (none_there count f.went there) },
  table_gone es flights count fs h.1,
)

no_flight : {X : Type 0} (o : Option X) (x : X) → o ≡ None → o ≡ Some x → ⊥
no_flight o x none some = absurd (cc)

-- ---- the step

module _ (v : GroupView) (h : IsWhole v) where
  abbrev W : GroupView
  W = with_cache_stopped v

  promises : Promises (with_doubt (joined v).doubt) (joined v) (joined W)
  promises = (stopping_promises (joined v) (joined W) (record { cache = refl; base = refl; doubt = refl })).0 refl

  grows : Grows (with_doubt (joined v).doubt) None v W
  grows = record {
    pools = promises;
    began = λ start told b. record {
      pools = promises.began start told b.pools;
      owners = λ z i. by_stopped start (joined v).memory (ledger_in v) v.stores.pending z (b.owners z i);
      history = b.history;
      next = b.next;
    };
    log = log_rests v.log;
    one_answer = tt;
    calls = extends_same Stays (AreEntered (v.calls.last + 1) v.standing.cache_epoch (length v.log.acts) v.calls.last None) stays_itself v.calls.entries refl;
    flown = extends_gone (length v.log.answers) (HaveCome v.calls.entries v.calls.entries (length v.log.answers) v.standing W.standing) v.calls.flown (inl (refl, refl));
    commit = no_commit refl refl;
    epoch = omega arith;
    cache_faults = omega arith;
    base_faults = omega arith;
    share = refl;
    values = refl;
  }

  owes : Owes [] v W
  owes = record {
    logs = sym (append-nil v.log.answers);
    shaped = λ s. s;
    pending = h.pending;
    over = all_of (λ e. e.ended ≡ false → IsUnanswered e.number []) (λ e _. tt) v.calls.entries;
    flights = record {
      listed = λ n f is. absurd (no_flight (fin.get fin.empty n) f (fin.get-empty name_cmp n) is);
      table = table_gone v.calls.entries v.traffic.flights (length v.log.answers) v.calls.flown h.flights.table;
    };
    traffic = record { messages = h.traffic.messages; replies = h.traffic.replies; answers = h.traffic.answers; owned = h.traffic.owned; begun = h.traffic.begun; awaited = h.traffic.awaited };
    causes = tt;
    cache_failed = omega arith;
    base_failed = omega arith;
    stops = record { cache = λ e. refl; base = λ e. refl };
    totals = λ k. absurd (true≢false k.runs);
  }

pub stopping_cache_keeps : StoppingCacheKeeps
stopping_cache_keeps v h = let g = grows v h in (steps_keep (with_doubt (joined v).doubt) None [] v (with_cache_stopped v) h g (owes v h), g)
