-- The calls that may act no more, as they are held in a set.
use Rattle.std.proofs.Common.{◌≡◌, ◌↔◌, ◌∙◌, sym, ap, refl, ℕ, Bool, true, false, cond, not, ◌&&◌, ◌||◌, ◌==◌, List, [], ◌∷◌, ◌++◌, nat_eq, true≢false}
use Rattle.std.specs.Prelude.{IsTrue}
use Rattle.std.specs.List.{list_any}
use Rattle.std.proofs.lemmas.Bool.{eq-eqb, eqb-true, ne_eqb}
use Rattle.std.proofs.lemmas.List.Folds.{list_any-append}
use Rattle.tier_chron.specs.Laws.{MayStillAct}
use Rattle.tier_chron.specs.Logs.{Log}
use Rattle.tier_chron.specs.Shapes.{HasNoAct, HasOnlyFaults, is_fault}
use Rattle.tier_chron.specs.Steps.Histories.{AreClosed, has_acted, is_done}
use Rattle.tier_chron.specs.declared.entries.Act.{Act}
use Rattle.tier_chron.specs.declared.entries.Logged.{Logged}

-- ---- one more

or_last : (a b p : Bool) → ((a || (p || false)) || b) ≡ cond p true (a || b)
or_last true b true = refl
or_last true b false = refl
or_last false b true = refl
or_last false b false = refl

or_behind : (a b p : Bool) → (a || (b || (p || false))) ≡ cond p true (a || b)
or_behind true b true = refl
or_behind true b false = refl
or_behind false true true = refl
or_behind false true false = refl
or_behind false false true = refl
or_behind false false false = refl

-- an act closes its call
pub closed_act : (old new : List ℕ) (acts : List Act) (answers : List Logged) (a : Act) →
    AreClosed old acts answers →
    ((k : ℕ) → list_any (nat_eq k) new ≡ cond (a.call == k) true (list_any (nat_eq k) old)) →
    AreClosed new (acts ++ a ∷ []) answers
closed_act old new acts answers a right put k =
    put k ∙ ap (λ b. cond (a.call == k) true b) (right k)
    ∙ sym (or_last (has_acted k acts) (is_done k answers) (a.call == k))
    ∙ sym (ap (λ b. b || is_done k answers) (list_any-append (λ (x : Act). x.call == k) acts (a ∷ [])))

-- an answer for good closes its call
pub closed_answer : (old new : List ℕ) (acts : List Act) (answers : List Logged) (l : Logged) →
    AreClosed old acts answers →
    ((k : ℕ) → list_any (nat_eq k) new
    ≡ cond ((l.call == k) && not (is_fault l.answer)) true (list_any (nat_eq k) old)) →
    AreClosed new acts (answers ++ l ∷ [])
closed_answer old new acts answers l right put k =
    let test : Logged → Bool = λ x. (x.call == k) && not (is_fault x.answer) in
    put k ∙ ap (λ b. cond (test l) true b) (right k)
    ∙ sym (or_behind (has_acted k acts) (is_done k answers) (test l))
    ∙ sym (ap (λ b. has_acted k acts || b) (list_any-append test answers (l ∷ [])))

-- ---- what the set tells

neither : (a b : Bool) → (a || b) ≡ false → (a ≡ false) × (b ≡ false)
neither true b e = absurd (true≢false e)
neither false b e = (refl, e)

none_of : (a b : Bool) → a ≡ false → b ≡ false → (a || b) ≡ false
none_of true b e f = absurd (true≢false e)
none_of false b e f = f

no_act : (call : ℕ) (acts : List Act) → has_acted call acts ≡ false → HasNoAct call acts
no_act call [] e = tt
no_act call (a ∷ acts) e =
    let k = neither (a.call == call) (has_acted call acts) e in
    ((λ same. true≢false (sym (eq-eqb a.call call same) ∙ k.0)), no_act call acts k.1)

none_acted : (call : ℕ) (acts : List Act) → HasNoAct call acts → has_acted call acts ≡ false
none_acted call [] h = refl
none_acted call (a ∷ acts) h =
    none_of (a.call == call) (has_acted call acts) (ne_eqb a.call call h.0) (none_acted call acts h.1)

fault_there : (b f : Bool) → (b && not f) ≡ false → b ≡ true → f ≡ true
fault_there true true e same = refl
fault_there true false e same = absurd (true≢false e)
fault_there false f e same = absurd (true≢false (sym same))

not_done : (b f : Bool) → (b ≡ true → f ≡ true) → (b && not f) ≡ false
not_done true true h = refl
not_done true false h = absurd (true≢false (sym (h refl)))
not_done false f h = refl

only_faults : (call : ℕ) (answers : List Logged) → is_done call answers ≡ false →
    HasOnlyFaults call answers
only_faults call [] e = tt
only_faults call (l ∷ answers) e =
    let k = neither ((l.call == call) && not (is_fault l.answer)) (is_done call answers) e in (
      (λ same. fault_there (l.call == call) (is_fault l.answer) k.0 (eq-eqb l.call call same)),
      only_faults call answers k.1,
    )

none_done : (call : ℕ) (answers : List Logged) → HasOnlyFaults call answers →
    is_done call answers ≡ false
none_done call [] h = refl
none_done call (l ∷ answers) h =
    none_of ((l.call == call) && not (is_fault l.answer)) (is_done call answers)
    (not_done (l.call == call) (is_fault l.answer) (λ same. h.0 (eqb-true l.call call same)))
    (none_done call answers h.1)

not_true : (b : Bool) → not b ≡ true → b ≡ false
not_true true e = absurd (true≢false (sym e))
not_true false e = refl

-- a call that is not in the set may act, and no other
pub may_still_act : (closed : List ℕ) (log : Log) (call : ℕ) →
    AreClosed closed log.acts log.answers →
    IsTrue (not (list_any (nat_eq call) closed)) ↔ MayStillAct call log
may_still_act closed log call right = (
  (λ yes_. let k = neither (has_acted call log.acts) (is_done call log.answers)
      (sym (right call) ∙ not_true (list_any (nat_eq call) closed) yes_) in record {
        first = no_act call log.acts k.0;
        free = only_faults call log.answers k.1;
      }),
  (λ may. ap not (right call ∙ none_of (has_acted call log.acts) (is_done call log.answers)
      (none_acted call log.acts may.first) (none_done call log.answers may.free))),
)
