-- Work that is no write request begins and is sent, as one step.
use Rattle.std.proofs.Common.{◌≡◌, ◌<◌, ℕ, ◌+◌, false, List, [], ◌∷◌, ◌++◌, length, Option, Some, None, refl, sym, subst, arith}
use Rattle.std.specs.FinMap as fin
use Rattle.std.specs.List.{AllByRecursion}
use Rattle.std.proofs.lemmas.List.{append-nil}
use Rattle.obj_model.specs.declared.tier.Kind.{Kind}
use Rattle.obj_ops.specs.Stores.{Store}
use Rattle.tier_join.specs.Group.{AreLeft, Spells, TwoMaps, tier_of}
use Rattle.tier_join.specs.Promises.{Promises, as_it_is}
use Rattle.tier_join.specs.Steps.{HasRec, HasRecFor, seen, subject}
use Rattle.tier_join.proofs.MemorySteps.{beginning_promises, sending_promises}
use Rattle.tier_join.proofs.Rests.{then_rests}
use Rattle.tier_owners.specs.Calls.{is_write_message}
use Rattle.tier_owners.proofs.Quiets.{quiet_begun}
use Rattle.tier_owners.proofs.Sending.{sending_owned}
use Rattle.tier_protocol.specs.Moves.{MayBegin, MaySend, begun, sent}
use Rattle.tier_protocol.specs.Owners.{SoundOwners}
use Rattle.tier_protocol.specs.Tiers.{BaseMsg, Flight, Name, Phase, Tier, TierRec}
use Rattle.tier_protocol.proofs.Owners.{quiet_keeps}
use Rattle.tier_protocol.proofs.Steps.{beginning, sending}
use Rattle.tier_types.specs.Flights.{is_write}
use Rattle.tier_view.specs.Calls.{IsInFlight, entry_of}
use Rattle.tier_view.specs.declared.parts.Flown.{Flown}
use Rattle.tier_view.specs.Grows.{AreEntered, Grows, HaveCome, Remains, Stays, no_commit}
use Rattle.tier_view.specs.Laws.{Keeps}
use Rattle.tier_view.specs.Owed.{Owes}
use Rattle.tier_view.specs.Steps.{sent_now}
use Rattle.tier_view.specs.Tables.{IsUnanswered, SoundFlights}
use Rattle.tier_view.specs.declared.parts.Begun.{Begun}
use Rattle.tier_view.specs.Views.{GroupView, joined, ledger_in}
use Rattle.tier_view.specs.Whole.{IsWhole}
use Rattle.tier_view.specs.Worlds.{IsOwned}
use Rattle.tier_view.proofs.Beginning.{owned_surely, surely_owned}
use Rattle.tier_view.proofs.Finding.{is_known, not_over}
use Rattle.tier_view.proofs.Keeping.{steps_keep}
use Rattle.tier_view.proofs.Resting.{all_of, extends_push, extends_same, log_rests, remains_itself, stays_itself}
use Rattle.tier_works.specs.Flushes.{with_begun}
use Rattle.tier_works.specs.Works.{begun_work, flown_now}
use Rattle.tier_works.proofs.QuietSteps.{no_doubt}
use Rattle.tier_works.proofs.Sendings.{not_owned, same_owned, traffic_sent}

module _ (v : GroupView) (call : ℕ) (kd : Kind) (k : Name) (f : Flight) (rec : Option TierRec)
    (m : BaseMsg) (bs : List Begun) (h : IsWhole v) (none : v.stores.pending ≡ None)
    (up : v.standing.phase ≡ Phase.Up) (going : IsInFlight v.calls.entries call)
    (has : HasRec (joined v) k rec) (may : MayBegin (seen (joined v).memory k rec) k f)
    (quiet : is_write (Some f) ≡ false) (plain : is_write_message m ≡ false) where
  -- it begins
  abbrev B : GroupView
  B = begun_work call kd k f v

  -- and is sent
  abbrev W : GroupView
  W = with_begun bs (sent_now m None B)

  abbrev E : Flown
  E = flown_now call kd k v

  module _ (has_for : HasRecFor (joined B) m rec)
      (may_send : MaySend (seen (joined B).memory (subject m) rec) m)
      (begins_at : (start : Store) (z : TwoMaps) → AreLeft (joined v) z
      → (s : Spells start (joined v).memory z)
      → MayBegin (tier_of start (joined v).memory s.recs s.base) k f)
      (sends_at : (start : Store) (z : TwoMaps) → AreLeft (joined v) z
      → (s : Spells start (joined v).memory z)
      → MaySend (begun k f (tier_of start (joined v).memory s.recs s.base)) m) where
    begun_promises : Promises as_it_is (joined v) (joined B)
    begun_promises =
        beginning_promises (joined v) (joined B) k f rec (no_doubt v none) has up may
        (record { cache = refl; base = refl; doubt = refl }) refl

    promises : Promises as_it_is (joined v) (joined W)
    promises =
        then_rests as_it_is as_it_is (joined v) (joined B) (joined W) begun_promises
        (record { cache = refl; base = refl; doubt = refl })
        (sending_promises (joined B) (joined W) m rec (no_doubt v none) has_for may_send
        (record { cache = refl; base = refl; doubt = refl }) refl)
        refl

    owned : (start : Store) (z : TwoMaps) → AreLeft (joined v) z
        → IsOwned start (joined v).memory (ledger_in v) z
        → IsOwned start (joined W).memory (ledger_in W) z
    owned start z i w =
        let t : Tier = tier_of start (joined v).memory w.spells.recs w.spells.base in
        let u : Tier = begun k f t in
        let sound = beginning t k f w.spells.sound up (begins_at start z i w.spells) in
        let sends : MaySend u m = sends_at start z i w.spells in
        let owners : SoundOwners u (ledger_in v) =
        quiet_keeps t u (ledger_in v) w.owners (quiet_begun t k f quiet) in
        record {
          spells = record {
            recs = w.spells.recs;
            base = w.spells.base;
            cached = w.spells.cached;
            based = w.spells.based;
            sound = sending u m sound sends;
          };
          owners = subst (λ os. SoundOwners (sent m u) (record (ledger_in v) { owned = os }))
              (sym (same_owned m v.traffic.messages plain))
              (sending_owned u (ledger_in v) m sound owners sends plain);
        }

    grows : Grows as_it_is None v W
    grows = record {
      pools = promises;
      began = λ start told b. record {
        pools = promises.began start told b.pools;
        owners = λ z i.
            owned_surely start W z none
            (owned start z i (surely_owned start v z none (b.owners z i)));
        history = b.history;
        next = b.next;
      };
      log = log_rests v.log;
      one_answer = tt;
      calls = extends_same Stays
          (AreEntered (v.calls.last + 1) v.standing.cache_epoch (length v.log.acts) v.calls.last
          None) stays_itself v.calls.entries refl;
      flown = extends_push (Remains (length v.log.answers) (length v.log.answers))
          (HaveCome v.calls.entries v.calls.entries (length v.log.answers) v.standing W.standing)
          (remains_itself (length v.log.answers) (length v.log.answers)) v.calls.flown (E ∷ []) (
            refl,
            refl,
            record {
              opid = refl;
              came = refl;
              stands = refl;
              known = is_known v.calls.entries call going;
              going = not_over (entry_of v.calls.entries call) going;
            },
          );
      commit = no_commit refl refl;
      epoch = omega arith;
      cache_faults = omega arith;
      base_faults = omega arith;
      share = refl;
      values = refl;
    }

    owes : SoundFlights v.calls.entries (v.calls.flown ++ E ∷ []) (fin.insert v.traffic.flights k f)
        bs v.standing.cache_epoch (length v.log.answers)
        → AllByRecursion (λ b. b.message < v.traffic.next_message + 1) bs → Owes [] v W
    owes flights begun = record {
      logs = sym (append-nil v.log.answers);
      shaped = λ s. s;
      pending = h.pending;
      over = all_of (λ e. e.ended ≡ false → IsUnanswered e.number []) (λ e _. tt) v.calls.entries;
      flights = flights;
      traffic = traffic_sent v.calls.entries B.traffic m None bs (not_owned v.calls.entries m plain)
          begun (record {
            messages = h.traffic.messages;
            replies = h.traffic.replies;
            answers = h.traffic.answers;
            owned = h.traffic.owned;
            begun = h.traffic.begun;
            awaited = h.traffic.awaited;
          });
      causes = tt;
      cache_failed = omega arith;
      base_failed = omega arith;
      stops = record { cache = h.stops.cache; base = h.stops.base };
      totals = h.totals;
    }

    pub flies : SoundFlights v.calls.entries (v.calls.flown ++ E ∷ [])
        (fin.insert v.traffic.flights k f) bs v.standing.cache_epoch (length v.log.answers)
        → AllByRecursion (λ b. b.message < v.traffic.next_message + 1) bs → Keeps as_it_is None v W
    flies flights begun = (steps_keep as_it_is None [] v W h grows (owes flights begun), grows)
