-- Steps that leave what the stores have, the history and the tables; and the base's stop.
use Rattle.std.proofs.Common.{◌≡◌, inl, inr, ℕ, ◌+◌, Bool, true, false, [], length, Option, Some, None, refl, sym, arith}
use Rattle.std.proofs.lemmas.List.{append-nil}
use Rattle.obj_model.specs.declared.change.Pool.{Pool}
use Rattle.obj_model.specs.declared.change.Pool.TheVariants.{Base, Cache}
use Rattle.obj_ops.specs.Stores.{Store}
use Rattle.tier_chron.specs.declared.entries.Act.{Act}
use Rattle.tier_join.specs.Group.{Memory, TwoMaps, tier_of, with_act, with_epoch}
use Rattle.tier_join.specs.Promises.{Promises}
use Rattle.tier_join.specs.Steps.{after, with_doubt}
use Rattle.tier_join.proofs.MemorySteps.{stopping_promises}
use Rattle.tier_protocol.specs.Moves.{stopped_base}
use Rattle.tier_protocol.specs.Owners.{Ledger, with_call_act}
use Rattle.tier_protocol.proofs.Owners.{losses_quiet, quiet_keeps}
use Rattle.tier_protocol.proofs.Starts.{stopping}
use Rattle.tier_view.specs.Grows.{AreEntered, Grows, HaveCome, Remains, Stays, no_commit}
use Rattle.tier_view.specs.Laws.{Keeps}
use Rattle.tier_view.specs.Owed.{Owes}
use Rattle.tier_view.specs.Standing.{Standing}
use Rattle.tier_view.specs.Starts.{StoppingBaseKeeps, with_base_stopped}
use Rattle.tier_view.specs.Stores.{Pending}
use Rattle.tier_view.specs.Tables.{IsUnanswered, SoundFlights}
use Rattle.tier_view.specs.Traffic.{Traffic}
use Rattle.tier_view.specs.Views.{GroupView, act_in, joined, ledger_in}
use Rattle.tier_view.specs.Whole.{IsWhole, SoundStops, SoundTraffic}
use Rattle.tier_view.specs.Worlds.{Began, HasOwners, IsOwned, IsOwnedBy, IsOwnedWith}
use Rattle.tier_view.proofs.Keeping.{steps_keep}
use Rattle.tier_view.proofs.Resting.{all_of, extends_same, log_rests, remains_itself, stays_itself}

-- ---- both worlds of a doubt

-- what is done for the world without the commit, with an act, and at another epoch
pub by_worlds : (start : Store) (m n : Memory) (l k : Ledger) (z : TwoMaps) → (IsOwned start m l z → IsOwned start n k z)
    → ((a : Act) → IsOwned start (with_act a.req m) (with_call_act (act_in a) l) z → IsOwned start (with_act a.req n) (with_call_act (act_in a) k) z)
    → (o : Option Pending) → ((pool : Pool) (e : ℕ) → o ≡ Some (Pending.Epoch pool e) → IsOwned start (with_epoch pool e m) l z → IsOwned start (with_epoch pool e n) k z)
    → IsOwnedBy start m l o z → IsOwnedBy start n k o z
by_worlds start m n l k z one act None epoch h = one h
by_worlds start m n l k z one act (Some p) epoch (inl h) = inl (one h)
by_worlds start m n l k z one act (Some p) epoch (inr h) = inr (by p epoch h)
  where
    by : (p : Pending) → ((pool : Pool) (e : ℕ) → Some p ≡ Some (Pending.Epoch pool e) → IsOwned start (with_epoch pool e m) l z → IsOwned start (with_epoch pool e n) k z)
        → IsOwnedWith start m l p z → IsOwnedWith start n k p z
    by (Pending.Plain pool name) epoch h = h
    by (Pending.Act pool first a seq) epoch h = (h.0, act a h.1)
    by (Pending.Epoch pool e) epoch h = epoch pool e refl h

-- ---- such a step

-- the group with this traffic, and this far; the base is stopped or not
abbrev pub rested : Bool → Traffic → Standing → GroupView → GroupView
rested stopped t s v = record v { stores = record v.stores { base_stopped = stopped }; traffic = t; standing = s }

module _ (v : GroupView) (h : IsWhole v) (stopped : Bool) (t : Traffic) (s : Standing) (other : Store → Store) where
  abbrev W : GroupView
  W = rested stopped t s v

  pub rests_keeps : Promises other (joined v) (joined W)
      → ((start : Store) → Began start v → (z : TwoMaps) → HasOwners start v z → HasOwners start W z)
      → s.cache_epoch ≡ v.standing.cache_epoch → s.next_opid ≡ v.standing.next_opid
      → SoundFlights v.calls.entries v.calls.flown t.flights t.begun s.cache_epoch (length v.log.answers)
      → SoundTraffic v.calls.entries t → SoundStops W.stores s → Keeps other None v W
  rests_keeps promises worlds epoch next flights traffic stops = (steps_keep other None [] v W h grows owes, grows)
    where
      grows : Grows other None v W
      grows = record {
        pools = promises;
        began = λ start told b. record {
          pools = promises.began start told b.pools;
          owners = λ z i. worlds start b z (b.owners z i);
          history = b.history;
          next = b.next;
        };
        log = log_rests v.log;
        one_answer = tt;
        calls = extends_same Stays (AreEntered (v.calls.last + 1) s.cache_epoch (length v.log.acts) v.calls.last None) stays_itself v.calls.entries refl;
        flown = extends_same (Remains (length v.log.answers) (length v.log.answers)) (HaveCome v.calls.entries v.calls.entries (length v.log.answers) v.standing s)
            (remains_itself (length v.log.answers) (length v.log.answers)) v.calls.flown (inl (epoch, next));
        commit = no_commit refl refl;
        epoch = omega (arith, epoch);
        cache_faults = omega arith;
        base_faults = omega arith;
        share = refl;
        values = refl;
      }

      owes : Owes [] v W
      owes = record {
        logs = sym (append-nil v.log.answers);
        shaped = λ x. x;
        pending = h.pending;
        over = all_of (λ e. e.ended ≡ false → IsUnanswered e.number []) (λ e _. tt) v.calls.entries;
        flights = flights;
        traffic = traffic;
        causes = tt;
        cache_failed = omega arith;
        base_failed = omega arith;
        stops = stops;
        totals = λ k. h.totals (record { live = k.live; runs = k.runs; sure = k.sure });
      }

-- ---- the base stops

one_stopped : (start : Store) (m : Memory) (l : Ledger) (z : TwoMaps) → IsOwned start m l z → IsOwned start (after stopped_base m) l z
one_stopped start m l z k =
    let t = tier_of start m k.spells.recs k.spells.base in
    record {
      spells = record { recs = k.spells.recs; base = k.spells.base; cached = k.spells.cached; based = k.spells.based; sound = (stopping t k.spells.sound).1 };
      owners = quiet_keeps t (stopped_base t) l k.owners (losses_quiet t k.spells.sound).2;
    }

epoch_stopped : (start : Store) (m : Memory) (l : Ledger) (z : TwoMaps) (pool : Pool) (e : ℕ) → IsOwned start (with_epoch pool e m) l z → IsOwned start (with_epoch pool e (after stopped_base m)) l z
epoch_stopped start m l z Cache e h = one_stopped start (with_epoch Cache e m) l z h
epoch_stopped start m l z Base e h = one_stopped start (with_epoch Base e m) l z h

pub stopping_base_keeps : StoppingBaseKeeps
stopping_base_keeps v h =
    rests_keeps v h true v.traffic (record v.standing { fenced = false }) (with_doubt (joined v).doubt)
    ((stopping_promises (joined v) (joined (with_base_stopped v)) (record { cache = refl; base = refl; doubt = refl })).1 refl)
    (λ start b z k. by_worlds start (joined v).memory (after stopped_base (joined v).memory) (ledger_in v) (ledger_in v) z (one_stopped start (joined v).memory (ledger_in v) z)
    (λ a. one_stopped start (with_act a.req (joined v).memory) (with_call_act (act_in a) (ledger_in v)) z)
    v.stores.pending (λ pool e is. epoch_stopped start (joined v).memory (ledger_in v) z pool e) k)
    refl refl h.flights h.traffic (record { cache = h.stops.cache; base = λ e. refl })
