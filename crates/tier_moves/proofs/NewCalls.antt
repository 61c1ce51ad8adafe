-- A call that was entered just now.
use Rattle.std.proofs.Common.{◌≡◌, ◌≢◌, ◌≤◌, ◌+◌, ◌==◌, ◌||◌, inl, inr, ℕ, Bool, true, false, true≢false, List, [], ◌∷◌, length, Option, Some, None, refl, sym, ap, subst, ◌∙◌, arith}
use Rattle.std.specs.List.{AllByRecursion, list_any}
use Rattle.std.specs.Prelude.{◌↔◌, IsTrue}
use Rattle.std.proofs.Math.Nat.{lt_of_not-le}
use Rattle.std.proofs.lemmas.Bool.{eqb-true}
use Rattle.tier_chron.proofs.Lists.{all_imply, either_way}
use Rattle.tier_chron.specs.Calls.{call_of}
use Rattle.tier_chron.specs.Laws.{MayStillAct}
use Rattle.tier_chron.specs.Shapes.{is_fault}
use Rattle.tier_chron.specs.Weights.{entries_of}
use Rattle.tier_chron.specs.declared.entries.Logged.{Logged}
use Rattle.tier_core.specs.Held.{IsFull, IsWorn, entries_limit, held_of}
use Rattle.tier_core.specs.Serves.{asked_of}
use Rattle.tier_moves.specs.Begins.{BeginsEntered, EntersCall, IsEnteredNow, entered, turn_next}
use Rattle.tier_moves.specs.Stands.{IsFreshOn}
use Rattle.tier_moves.specs.declared.begun.Begun.{Begun}
use Rattle.tier_protocol.specs.Tiers.{BaseMsg, IsIn}
use Rattle.tier_traffic.specs.Messages.{is_owned, is_owner}
use Rattle.tier_types.specs.declared.flight.Ask.{Ask}
use Rattle.tier_view.proofs.AnsweringBlocked.{new_calls_have_no_work}
use Rattle.tier_view.proofs.Keeping.{new_unanswered, none_above}
use Rattle.tier_view.specs.Steps.{entry_for}
use Rattle.tier_view.specs.Views.{GroupView, asking_of, calls_in}
use Rattle.tier_view.specs.Whole.{HasOwner, IsReady, IsWhole}
use Rattle.tier_view.specs.declared.parts.Entry.{Entry}
use Rattle.tier_view.specs.declared.parts.Flown.{Flown}
use Rattle.tier_view.specs.declared.parts.Owner.{Owner}
use Rattle.tier_view.specs.declared.parts.Sent.{Sent}
use Rattle.tier_works.proofs.JoinSteps.{new_calls_are_free}
use Rattle.tier_works.specs.Joins.{IsEntered}

-- ---- no message is its own

module _ (es : List Entry) (n : ℕ) (none : call_of (calls_in es) n ≡ None) where
  -- who asked a request is another call
  asks_not : (o : Owner) → asking_of (call_of (calls_in es) o.call) ≢ None
      → (o.call == n) ≡ false
  asks_not o asks =
      either_way (o.call == n)
      (λ same. absurd (asks (ap (λ (k : ℕ). asking_of (call_of (calls_in es) k))
      (eqb-true o.call n same) ∙ ap asking_of none)))
      (λ other. other)

  nobodys : (o : Option Owner) → o ≡ None → is_owner n o ≡ false
  nobodys o is = ap (is_owner n) is

  not_owner : (m : BaseMsg) (o : Option Owner) → HasOwner es m o → is_owner n o ≡ false
  not_owner (BaseMsg.Write e op r) None h = absurd h
  not_owner (BaseMsg.Write e op r) (Some o) h = asks_not o (λ no. absurd (cc))
  not_owner (BaseMsg.Fence e) o h = nobodys o h
  not_owner (BaseMsg.GetChunk e op k at) o h = nobodys o h
  not_owner (BaseMsg.Look e op k vector) o h = nobodys o h
  not_owner (BaseMsg.Install e op k s) o h = nobodys o h

  pub no_message : (ms : List Sent) → AllByRecursion (λ s. HasOwner es s.message s.owner) ms
      → list_any (is_owned n) ms ≡ false
  no_message [] h = refl
  no_message (m ∷ ms) h =
      ap (λ (b : Bool). b || list_any (is_owned n) ms) (not_owner m.message m.owner h.0)
      ∙ no_message ms h.1

-- ---- no work is its own

others : (n : ℕ) (fs : List Flown) → AllByRecursion (λ f. f.call ≢ n) fs → (f : Flown) → IsIn f fs
    → f.call ≢ n
others n [] h f on = absurd on
others n (g ∷ fs) h f (inl same) = subst (λ (x : Flown). x.call ≢ n) (sym same) h.0
others n (g ∷ fs) h f (inr on) = others n fs h.1 f on

-- ---- all of it

module _ (line : ℕ) (ask : Ask) (v : GroupView) (whole : IsWhole v) where
  abbrev N : ℕ
  N = v.calls.last + 1

  unknown : call_of (calls_in v.calls.entries) N ≡ None
  unknown =
      none_above v.calls.last v.standing.cache_epoch v.log.answers v.calls.entries N whole.calls
      (omega arith)

  free : IsEntered v (Some line) (asked_of ask)
  free = new_calls_are_free v (Some line) (asked_of ask) whole

  may : MayStillAct N v.log
  may = record {
    first = free.actless;
    free = all_imply (λ (l : Logged). l.call ≢ N)
        (λ (l : Logged). l.call ≡ N → is_fault l.answer ≡ true)
        (λ l other same. absurd (other same)) v.log.answers
        (new_unanswered (calls_in v.calls.entries) v.log.acts v.log.answers N unknown
        whole.shaped.answered);
  }

  fresh : IsFreshOn (entered line ask v) N
  fresh = record {
    fresh = record {
      idle = free.idle;
      silent = no_message v.calls.entries N unknown v.traffic.messages whole.traffic.owned;
      may = may;
    };
    other = λ op f on stands. others N v.calls.flown (new_calls_have_no_work v whole) f on;
  }

  pub entered_now : IsReady v.stores v.standing → length v.log.answers ≤ entries_limit
      → IsEnteredNow (entered line ask v) (turn_next line v) ask
  entered_now ready few = record {
    ready = ready;
    turn_is = record {
      entry = entry_for (Some line) (asked_of ask) v;
      is = free.found;
      turn_is = record { going = refl; line = refl; begin = refl };
      asked_is = refl;
    };
    fresh = fresh;
    few = few;
  }

-- a history that is not full has few answers
pub few_answers : (v : GroupView) → (IsFull v → ⊥) → length v.log.answers ≤ entries_limit
few_answers v room =
    omega (
      arith,
      lt_of_not-le {n = entries_limit + 1} {m = entries_of v.log + held_of v + 3}
          (λ most. room (inl (omega (arith, most)))),
    )

-- ---- behind the entry

module _ (line : ℕ) (ask : Ask) (old mid new : GroupView) (told : Begun) where
  -- it is the call that is entered next
  pub entered_call : (worn : Bool) (call begin : ℕ) → mid ≡ entered line ask old
      → call ≡ old.calls.last + 1 → begin ≡ length old.log.acts
      → BeginsEntered worn (record { call = call; line = line; begin = begin }) ask mid new told
      → BeginsEntered worn (turn_next line old) ask (entered line ask old) new told
  entered_call worn call begin is number count h =
      subst (λ (v : GroupView). BeginsEntered worn (turn_next line old) ask v new told) is
      (subst (λ (n : ℕ).
      BeginsEntered worn (record { call = old.calls.last + 1; line = line; begin = n }) ask mid new
      told) count
      (subst (λ (n : ℕ).
      BeginsEntered worn (record { call = n; line = line; begin = begin }) ask mid new told) number
      h))

pub entered_so : (line : ℕ) (ask : Ask) (old mid : GroupView) (call begin : ℕ) → IsWhole old
    → IsReady old.stores old.standing → length old.log.answers ≤ entries_limit
    → mid ≡ entered line ask old → call ≡ old.calls.last + 1 → begin ≡ length old.log.acts
    → IsEnteredNow mid (record { call = call; line = line; begin = begin }) ask
entered_so line ask old mid call begin whole ready few is number count =
    subst (λ (v : GroupView).
    IsEnteredNow v (record { call = call; line = line; begin = begin }) ask) (sym is)
    (subst (λ (n : ℕ).
    IsEnteredNow (entered line ask old) (record { call = call; line = line; begin = n }) ask)
    (sym count)
    (subst (λ (n : ℕ).
    IsEnteredNow (entered line ask old)
    (record { call = n; line = line; begin = length old.log.acts }) ask) (sym number)
    (entered_now line ask old whole ready few)))

-- numbers at their end decide
pub enters_by : (line : ℕ) (ask : Ask) (old new : GroupView) (told : Begun) (worn : Bool)
    → (IsTrue worn ↔ IsWorn old)
    → BeginsEntered worn (turn_next line old) ask (entered line ask old) new told
    → EntersCall line ask old new told
enters_by line ask old new told true is h = inl (inl (is.0 refl, h))
enters_by line ask old new told false is h =
    inl (inr (λ w. true≢false (sym (is.1 w)), h))
