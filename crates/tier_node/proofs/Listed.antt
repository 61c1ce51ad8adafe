-- Events of a list, one behind the other.
use Rattle.std.proofs.Common.{◌≡◌, ◌<◌, ◌+◌, ℕ, suc, List, [], ◌∷◌, ◌++◌, length, drop, get_or, refl, sym, ap, subst, ◌∙◌, add-one, drop-cons}
use Rattle.tier_node.specs.Runs.{IsRun, Runs}
use Rattle.tier_node.specs.Steps.{Steps}
use Rattle.tier_node.specs.declared.event.Event.{Event}
use Rattle.tier_node.specs.declared.outcome.Outcome.{Outcome}
use Rattle.tier_view.specs.Views.{GroupView}

-- one outcome more
one_more : (xs : List Outcome) (x : Outcome) (ys : List Outcome)
    → (xs ++ x ∷ []) ++ ys ≡ xs ++ x ∷ ys
one_more [] x ys = refl
one_more (z ∷ xs) x ys = ap (λ (us : List Outcome). z ∷ us) (one_more xs x ys)

-- one event more of those that are left
next_of : (events : List Event) (i : ℕ) (e : Event) (u v w : GroupView) (o : Outcome)
    (outcomes : List Outcome) → i < length events → e ≡ get_or events i e → Steps e u v o
    → IsRun u v → Runs (drop (i + 1) events) v w outcomes
    → Runs (drop i events) u w (o ∷ outcomes)
next_of events i e u v w o outcomes within is made run rest =
    let later : Runs (drop (suc i) events) v w outcomes =
    subst (λ (k : ℕ). Runs (drop k events) v w outcomes) (add-one i) rest in
    subst (λ (es : List Event). Runs es u w (o ∷ outcomes))
    (sym (drop-cons events i e within
    ∙ ap (λ (x : Event). x ∷ drop (suc i) events) (sym is)))
    (v, made, run, later)

-- what is left goes on with what was done
abbrev pub GoesOn : List Event → (start now : GroupView) → ℕ → List Outcome → Type 0
GoesOn events start now i told =
    (w : GroupView) (outcomes : List Outcome) → Runs (drop i events) now w outcomes
    → Runs events start w (told ++ outcomes)

pub went_on : (events : List Event) (i : ℕ) (e : Event) (start u v : GroupView) (o : Outcome)
    (told : List Outcome) → i < length events → e ≡ get_or events i e → Steps e u v o → IsRun u v
    → GoesOn events start u i told → GoesOn events start v (i + 1) (told ++ o ∷ [])
went_on events i e start u v o told within is made run on w outcomes rest =
    subst (λ (os : List Outcome). Runs events start w os) (sym (one_more told o outcomes))
    (on w (o ∷ outcomes) (next_of events i e u v w o outcomes within is made run rest))

pub ended : (events : List Event) (start v : GroupView) (i : ℕ) (told : List Outcome)
    → drop i events ≡ [] → told ++ [] ≡ told → GoesOn events start v i told
    → Runs events start v told
ended events start v i told none same on =
    subst (λ (os : List Outcome). Runs events start v os) same
    (on v [] (subst (λ (es : List Event). Runs es v v []) (sym none) refl))
