-- Histories with one more call.
use Rattle.std.proofs.Common.{◌≡◌, ◌≢◌, ◌≤◌, ℕ, zero, suc, cond, ◌==◌, List, [], ◌∷◌, ◌++◌, take, Option, Some, None, sym, ap, subst, ◌∙◌, arith}
use Rattle.std.proofs.lemmas.Bool.{eqb-false}
use Rattle.std.specs.List.{AllByRecursion}
use Rattle.std.specs.Option.{option_or}
use Rattle.std.proofs.lemmas.List.Folds.{find-append}
use Rattle.tier_chron.specs.Calls.{Call, call_of}
use Rattle.tier_chron.specs.Fits.{TellsCall}
use Rattle.tier_chron.specs.Laws.{BeginsAnywhere, CallKeeps}
use Rattle.tier_chron.specs.Logs.{Log}
use Rattle.tier_chron.specs.Shapes.{AreInTurn, HasNoAct, IsAnswered, IsAskedBy, IsBegun}
use Rattle.tier_chron.specs.declared.entries.Act.{Act}
use Rattle.tier_chron.proofs.Lists.{all_imply, all_push, either_way}

pub all_front : {X : Type 0} (P : X → Type 0) (xs : List X) (n : ℕ) → AllByRecursion P xs → AllByRecursion P (take n xs)
all_front P [] n h = take_none P n
  where
    take_none : {X : Type 0} (P : X → Type 0) (n : ℕ) → AllByRecursion P (take n [])
    take_none P zero = tt
    take_none P (suc n) = tt
all_front P (x ∷ xs) zero h = tt
all_front P (x ∷ xs) (suc n) h = (h.0, all_front P xs n h.1)

-- what is said of a call that is there is said of it still
found_by : (P : Option Call → Type 0) (found more : Option Call) → (P None → ⊥) → P found → P (option_or found more)
found_by P None more none h = absurd (none h)
found_by P (Some c) more none h = h

call_stays : (P : Option Call → Type 0) (calls : List Call) (c : Call) (number : ℕ) → (P None → ⊥) → P (call_of calls number) → P (call_of (calls ++ c ∷ []) number)
call_stays P calls c number none h =
    subst P (sym (find-append (λ d. d.number == number) calls (c ∷ []))) (found_by P (call_of calls number) (call_of (c ∷ []) number) none h)

-- a number without a call has no act
pub no_act : (calls : List Call) (number : ℕ) (acts : List Act) → call_of calls number ≡ None → AllByRecursion (λ a. IsAskedBy a (call_of calls a.call)) acts → HasNoAct number acts
no_act calls number acts none h =
    all_imply (λ a. IsAskedBy a (call_of calls a.call)) (λ a. a.call ≢ number) (λ a asked same. subst (IsAskedBy a) (ap (call_of calls) same ∙ none) asked) acts h

-- ---- numbers and begins

pub unfound : (calls : List Call) (number : ℕ) → call_of calls number ≡ None → AllByRecursion (λ d. d.number ≢ number) calls
unfound [] number e = tt
unfound (c ∷ calls) number e =
    either_way (c.number == number)
    (λ h. let no : Some c ≡ None = sym (ap (λ b. cond b (Some c) (call_of calls number)) h) ∙ e in absurd (cc))
    (λ h. (eqb-false c.number number h, unfound calls number (sym (ap (λ b. cond b (Some c) (call_of calls number)) h) ∙ e)))

pub turn_push : (calls : List Call) (c : Call) → AllByRecursion (λ d. d.begin ≤ c.begin) calls → AllByRecursion (λ d. d.number ≢ c.number) calls
    → AreInTurn calls → AreInTurn (calls ++ c ∷ [])
turn_push [] c b n h = (tt, tt)
turn_push (d ∷ calls) c b n h = (
  all_push (λ e. (d.begin ≤ e.begin) × (e.number ≢ d.number)) calls c h.0 (b.0, λ same. n.0 (sym same)),
  turn_push calls c b.1 n.1 h.1,
)

-- a history goes on when a call begins
pub call_keeps : (log : Log) → CallKeeps log
call_keeps log start calls c h new now = record {
  shaped = record {
    ordered = h.shaped.ordered;
    in_turn = turn_push calls c (all_imply (IsBegun log.acts) (λ d. d.begin ≤ c.begin) (λ d k. omega (arith, k.begun, now)) calls h.shaped.begun)
        (unfound calls c.number new) h.shaped.in_turn;
    begun = all_push (IsBegun log.acts) calls c h.shaped.begun (record {
      begun = omega (arith, now);
      later = all_front (λ a. a.call ≢ c.number) log.acts c.begin (no_act calls c.number log.acts new h.shaped.asked);
    });
    single = h.shaped.single;
    asked = all_imply (λ a. IsAskedBy a (call_of calls a.call)) (λ a. IsAskedBy a (call_of (calls ++ c ∷ []) a.call))
        (λ a k. call_stays (IsAskedBy a) calls c a.call (λ x. x) k) log.acts h.shaped.asked;
    answered = all_imply (λ l. IsAnswered log.acts l (call_of calls l.call)) (λ l. IsAnswered log.acts l (call_of (calls ++ c ∷ []) l.call))
        (λ l k. call_stays (IsAnswered log.acts l) calls c l.call (λ x. x) k) log.answers h.shaped.answered;
  };
  legal = h.legal;
  told = all_imply (λ l. TellsCall start log.acts l (call_of calls l.call)) (λ l. TellsCall start log.acts l (call_of (calls ++ c ∷ []) l.call))
      (λ l k. call_stays (TellsCall start log.acts l) calls c l.call (λ x. x) k) log.answers h.told;
}

-- nothing happened yet
pub begins_anywhere : BeginsAnywhere
begins_anywhere start = record {
  shaped = record {
    ordered = record { opened = record { once = tt; touched = tt; all = tt }; placed = tt; in_order = tt };
    in_turn = tt;
    begun = tt;
    single = tt;
    asked = tt;
    answered = tt;
  };
  legal = record { ordered = record { opened = record { once = tt; touched = tt; all = tt }; placed = tt; in_order = tt }; fresh = tt; first = tt };
  told = tt;
}
