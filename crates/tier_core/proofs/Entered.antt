-- A call is entered.
use Rattle.std.proofs.Common.{◌≡◌, ℕ, ◌+◌, true, false, [], ◌∷◌, length, Option, Some, None, sym, subst}
use Rattle.std.specs.Prelude.{Result, Ok, Err, OnOk, OnErr}
use Rattle.base_pool.specs.Views.{BaseView}
use Rattle.tier_calls.specs.Tables.{TableView}
use Rattle.tier_chron.specs.Logs.{Log}
use Rattle.tier_chron.specs.declared.asked.Asked.{Asked}
use Rattle.tier_view.specs.declared.parts.Entry.{Entry}
use Rattle.tier_view.specs.Steps.{with_call}
use Rattle.tier_view.specs.Stores.{Stores}
use Rattle.tier_view.specs.Tables.{goes_without}
use Rattle.tier_view.specs.Traffic.{Traffic}
use Rattle.tier_view.specs.Views.{GroupView}
use Rattle.tier_view.proofs.Keeping.{all_append}
use Rattle.tier_view.proofs.Opening.{opening_calls_keeps}
use Rattle.tier_core.specs.Keeps.{IsKept, MayBeAsked}
use Rattle.tier_core.specs.Parts.{group_of}
use Rattle.tier_core.specs.Steps.{IsStep}
use Rattle.tier_core.specs.declared.parts.Agent.{Agent}
use Rattle.tier_core.specs.declared.parts.Start.{Start}

-- the entry of a call that begins at so many acts
abbrev pub entered : (epoch begin : ℕ) → Option ℕ → Asked → TableView → Entry
entered epoch begin line asked t = record {
  number = t.calls.last + 1;
  line = line;
  asked = asked;
  epoch = epoch;
  begin = begin;
  adopted = false;
  ended = false;
}

-- the table with it
abbrev pub entered_in : (epoch begin : ℕ) → Option ℕ → Asked → TableView → TableView
entered_in epoch begin line asked t = record t { calls = with_call (entered epoch begin line asked t) t.calls }

module _ (stores : Stores) (log : Log) (traffic : Traffic) (start : Start) (agent : Agent) (base : BaseView) (line : Option ℕ) (asked : Asked) (begin : ℕ) (old : TableView) where
  abbrev pub at : TableView → GroupView
  at t = group_of stores log t.calls traffic start agent

  entered_now : (line ≡ None → goes_without asked ≡ true) → MayBeAsked asked → IsKept (at old) base old
      → IsKept (at (entered_in start.cache_epoch (length log.acts) line asked old)) base (entered_in start.cache_epoch (length log.acts) line asked old)
  entered_now lined lawful h = record {
    whole = (opening_calls_keeps (at old) line asked h.whole lined).0;
    cached = h.cached;
    based = h.based;
    level = h.level;
    counted = h.counted;
    messages = h.messages;
    asked = all_append (λ (e : Entry). MayBeAsked e.asked) old.calls.entries (entered start.cache_epoch (length log.acts) line asked old ∷ []) h.asked (lawful, tt);
  }

  -- by what the table's own call answers
  module _ (begins : begin ≡ length log.acts) (lined : line ≡ None → goes_without asked ≡ true) (h : IsKept (at old) base old) where
    pub enter_kept : {X E : Type 0} (result : Result X E) (new : TableView) → MayBeAsked asked
        → OnOk result (new ≡ entered_in start.cache_epoch begin line asked old) → OnErr result (new ≡ old) → IsKept (at new) base new
    enter_kept (Ok x) new lawful ok err =
        subst (λ t. IsKept (at t) base t) (sym ok)
        (subst (λ n. IsKept (at (entered_in start.cache_epoch n line asked old)) base (entered_in start.cache_epoch n line asked old)) (sym begins) (entered_now lined lawful h))
    enter_kept (Err x) new lawful ok err = subst (λ t. IsKept (at t) base t) (sym err) h

    pub enter_step : {X E : Type 0} (result : Result X E) (new : TableView) → OnOk result (new ≡ entered_in start.cache_epoch begin line asked old)
        → OnOk result (IsStep (Some (record { line = line; asked = asked })) (at old) (at new))
    enter_step (Ok x) new ok =
        subst (λ t. IsStep (Some (record { line = line; asked = asked })) (at old) (at t)) (sym ok)
        (subst (λ n. IsStep (Some (record { line = line; asked = asked })) (at old) (at (entered_in start.cache_epoch n line asked old))) (sym begins)
        (opening_calls_keeps (at old) line asked h.whole lined))
    enter_step (Err x) new ok = tt
