-- A call's entry and the step behind it are one step.
use Rattle.std.proofs.Common.{◌≡◌, ◌≤◌, ℕ, ◌+◌, ◌==◌, cond, Bool, true, false, List, [], ◌∷◌, ◌++◌, length, Option, Some, None, refl, sym, ap, subst, ◌∙◌, arith}
use Rattle.tier_chron.specs.declared.asked.Asked.{Asked}
use Rattle.tier_view.specs.Calls.{Entry, Flown, entry_of}
use Rattle.tier_view.specs.Grows.{AreEntered, Extends, Grows, HaveCome, IsComing, IsNew, IsNotOver, Remains, Stays, Wanted}
use Rattle.tier_view.specs.Joining.{OpeningLeadsStep}
use Rattle.tier_view.specs.Standing.{Standing}
use Rattle.tier_view.specs.Steps.{entry_for, opened_call}
use Rattle.tier_view.specs.Tables.{goes_without}
use Rattle.tier_view.proofs.Opening.{opening_calls_keeps}

-- what comes behind a list may be said otherwise
extends_as : {X : Type 0} (Same : X → X → Type 0) (More Other : List X → Type 0) → ((xs : List X) → More xs → Other xs) → (xs ys : List X) → Extends Same More xs ys → Extends Same Other xs ys
extends_as Same More Other f [] ys h = f ys h
extends_as Same More Other f (x ∷ xs) [] h = absurd h
extends_as Same More Other f (x ∷ xs) (y ∷ ys) h = (h.0, extends_as Same More Other f xs ys h.1)

-- ---- the table of calls

module _ (E : Entry) (count last last' epoch : ℕ) (asked : Asked) (line : Option ℕ) (number : E.number ≡ last + 1) (at : E.epoch ≡ epoch) (begun : E.begin ≡ count)
    (of : E.line ≡ line) (what : E.asked ≡ asked) (lined : line ≡ None → goes_without asked ≡ true) where
  abbrev What : Option Wanted
  What = Some (record { line = line; asked = asked })

  stays_new : (f : Entry) → Stays E f → IsNew (last + 1) epoch count What f
  stays_new f s = record {
    number = s.number ∙ number;
    epoch = s.epoch ∙ at;
    begin = s.begin ∙ begun;
    wanted = ap (λ l. Some (record { line = l; asked = asked })) (sym (s.line ∙ of)) ∙ ap (λ a. Some (record { line = f.line; asked = a })) (sym (s.asked ∙ what));
    lined = λ none. ap goes_without (s.asked ∙ what) ∙ lined (sym (s.line ∙ of) ∙ none);
  }

  -- no second call came
  none_more : (fs : List Entry) → AreEntered (last + 1 + 1) epoch count last' None fs → (fs ≡ []) × (last' ≡ last + 1)
  none_more [] h = (refl, omega (arith, h))
  none_more (g ∷ []) h = let no : ◌≡◌ {A = Option Wanted} None (Some (record { line = g.line; asked = g.asked })) = h.1.wanted in absurd (cc)
  none_more (g ∷ k ∷ gs) h = absurd h

  entered_behind : (es fs : List Entry) → Extends Stays (AreEntered (last + 1 + 1) epoch count last' None) (es ++ E ∷ []) fs → Extends Stays (AreEntered (last + 1) epoch count last' What) es fs
  entered_behind [] [] h = absurd h
  entered_behind [] (f ∷ fs) h =
      let none = none_more fs h.1 in
      subst (λ gs. AreEntered (last + 1) epoch count last' What (f ∷ gs)) (sym none.0) (none.1, stays_new f h.0)
  entered_behind (e ∷ es) [] h = absurd h
  entered_behind (e ∷ es) (f ∷ fs) h = (h.0, entered_behind es fs h.1)

-- ---- the table of work

over_beside : (b : Bool) (e : Entry) (o p : Option Entry) → (IsNotOver p → IsNotOver o) → IsNotOver (cond b (Some e) p) → IsNotOver (cond b (Some e) o)
over_beside true e o p rest h = h
over_beside false e o p rest h = rest h

-- a call that is not over was not over before another was entered
not_over_before : (es : List Entry) (e : Entry) (n : ℕ) → IsNotOver (entry_of (es ++ e ∷ []) n) → IsNotOver (entry_of es n)
not_over_before [] e n h = tt
not_over_before (d ∷ es) e n h = over_beside (d.number == n) d (entry_of es n) (entry_of (es ++ e ∷ []) n) (not_over_before es e n) h

come_before : (es now : List Entry) (e : Entry) (count : ℕ) (old new : Standing) (fs : List Flown) → HaveCome (es ++ e ∷ []) now count old new fs → HaveCome es now count old new fs
come_before es now e count old new [] h = h
come_before es now e count old new (f ∷ []) h = (
  h.0,
  h.1,
  record {
    opid = h.2.opid;
    came = h.2.came;
    stands = h.2.stands;
    known = h.2.known;
    going = not_over_before es e f.call h.2.going;
  },
)
come_before es now e count old new (f ∷ g ∷ fs) h = absurd h

-- ---- all of it

pub opening_leads_step : OpeningLeadsStep
opening_leads_step other v w line asked h lined same g =
    let first = opening_calls_keeps v line asked h lined in
    record {
      pools = g.pools;
      began = λ start told b. g.began start told (first.1.began start told b);
      log = g.log;
      one_answer = g.one_answer;
      calls = entered_behind (entry_for line asked v) (length v.log.acts) v.calls.last w.calls.last w.standing.cache_epoch asked line refl (sym same) refl refl refl lined
          v.calls.entries w.calls.entries g.calls;
      flown = extends_as (Remains (length v.log.answers) (length w.log.answers))
          (HaveCome (opened_call line asked v).calls.entries w.calls.entries (length v.log.answers) v.standing w.standing)
          (HaveCome v.calls.entries w.calls.entries (length v.log.answers) v.standing w.standing)
          (come_before v.calls.entries w.calls.entries (entry_for line asked v) (length v.log.answers) v.standing w.standing)
          v.calls.flown w.calls.flown g.flown;
      commit = g.commit;
      epoch = g.epoch;
      cache_faults = g.cache_faults;
      base_faults = g.base_faults;
      share = g.share;
      values = g.values;
    }
