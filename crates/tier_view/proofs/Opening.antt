-- A call is entered: the step, whole.
use Rattle.std.proofs.Common.{◌≡◌, inl, ℕ, ◌+◌, true, false, [], ◌∷◌, length, Option, Some, None, refl, sym, arith}
use Rattle.std.proofs.lemmas.List.{append-nil}
use Rattle.obj_ops.specs.Stores.{Store}
use Rattle.tier_chron.specs.Calls.{call_of}
use Rattle.tier_chron.specs.declared.asked.Asked.{Asked}
use Rattle.tier_join.specs.Group.{BothTell}
use Rattle.tier_join.specs.Steps.{with_doubt}
use Rattle.tier_view.specs.Calls.{Entry}
use Rattle.tier_view.specs.Grows.{AreEntered, Grows, HaveCome, no_commit, Remains, Stays, Wanted}
use Rattle.tier_view.specs.Laws.{OpeningCallsKeeps}
use Rattle.tier_view.specs.Owed.{Owes}
use Rattle.tier_view.specs.Steps.{entry_for, opened_call}
use Rattle.tier_view.specs.Tables.{IsUnanswered, goes_without}
use Rattle.tier_view.specs.Views.{GroupView, calls_in, joined, ledger_in, memory_of}
use Rattle.tier_view.specs.Whole.{IsWhole}
use Rattle.tier_view.specs.Worlds.{Began}
use Rattle.tier_view.proofs.Entering.{asks_more, flights_more, history_more, pending_more, shape_more, traffic_more}
use Rattle.tier_view.proofs.Keeping.{none_above, steps_keep}
use Rattle.tier_view.proofs.Owning.{owned_more}
use Rattle.tier_view.proofs.Resting.{all_of, extends_push, extends_same, log_rests, remains_itself, rests_promises, stays_itself}

module _ (v : GroupView) (line : Option ℕ) (asked : Asked) (h : IsWhole v) (lined : line ≡ None → goes_without asked ≡ true) where
  abbrev E : Entry
  E = entry_for line asked v

  abbrev W : GroupView
  W = opened_call line asked v

  abbrev What : Option Wanted
  What = Some (record { line = line; asked = asked })

  unused : call_of (calls_in v.calls.entries) E.number ≡ None
  unused = none_above v.calls.last v.standing.cache_epoch v.log.answers v.calls.entries E.number h.calls (omega arith)

  began : (start : Store) → BothTell (joined v) → Began start v → Began start W
  began start told b = record {
    pools = b.pools;
    owners = λ z i.
        owned_more start (memory_of v.log v.traffic v.standing) (ledger_in v) (ledger_in W) v.stores.pending z
        (record { owned = refl; acts = refl; asks = λ call a k. asks_more v.calls.entries E call a k; closed = λ call k. k }) (b.owners z i);
    history = history_more start v.calls.entries E v.log b.history unused refl;
    next = b.next;
  }

  grows : Grows (with_doubt (joined v).doubt) What v W
  grows = record {
    pools = rests_promises (joined v);
    began = began;
    log = log_rests v.log;
    one_answer = tt;
    calls = extends_push Stays (AreEntered (v.calls.last + 1) v.standing.cache_epoch (length v.log.acts) (v.calls.last + 1) What) stays_itself v.calls.entries (E ∷ [])
        (refl, record { number = refl; epoch = refl; begin = refl; wanted = refl; lined = lined });
    flown = extends_same (Remains (length v.log.answers) (length v.log.answers)) (HaveCome v.calls.entries W.calls.entries (length v.log.answers) v.standing v.standing)
        (remains_itself (length v.log.answers) (length v.log.answers)) v.calls.flown (inl (refl, refl));
    commit = no_commit refl refl;
    epoch = omega arith;
    cache_faults = omega arith;
    base_faults = omega arith;
    share = refl;
    values = refl;
  }

  owes : Owes [] v W
  owes = record {
    logs = sym (append-nil v.log.answers);
    shaped = λ s. shape_more v.calls.entries E v.log s unused refl;
    pending = pending_more v.calls.entries E v.log v.stores.pending h.pending;
    over = all_of (λ e. e.ended ≡ false → IsUnanswered e.number []) (λ e going. tt) W.calls.entries;
    flights = flights_more v.calls.entries E v.calls.flown v.traffic.flights v.traffic.begun v.standing.cache_epoch (length v.log.answers) h.flights;
    traffic = traffic_more v.calls.entries E v.traffic h.traffic;
    causes = tt;
    cache_failed = omega arith;
    base_failed = omega arith;
    stops = h.stops;
    totals = h.totals;
  }

pub opening_calls_keeps : OpeningCallsKeeps
opening_calls_keeps v line asked h lined =
    let g = grows v line asked h lined in
    (steps_keep (with_doubt (joined v).doubt) (What v line asked h lined) [] v (opened_call line asked v) h g (owes v line asked h lined), g)
