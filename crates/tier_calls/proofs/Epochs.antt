-- Work by epochs: what goes, and what has gone.
use Rattle.std.proofs.Common.{◌≡◌, ℕ, zero, suc, ◌==◌, ◌+◌, ◌-◌, ◌<◌, ◌≤◌, Bool, cond, true, false, true≢false, inl, inr, List, [], ◌∷◌, ◌++◌, length, map, Option, Some, None, IsSome, refl, sym, ap, subst, ◌∙◌, arith, set, get_or, take, drop}
use Rattle.std.specs.List.{AllByRecursion}
use Rattle.tier_view.specs.declared.parts.Flown.{Flown}
use Rattle.tier_view.specs.Changes.{gone_in}
use Rattle.tier_view.specs.Stops.{gone_at, gone_by}
use Rattle.tier_calls.specs.Turns.{AreByEpoch, HasGone, HasNoPlace}
use Rattle.tier_calls.proofs.Found.{changed_at, changed_nowhere, turn_map, turn_push}

abbrev opid_of : Flown → ℕ
opid_of f = f.opid

same_time : (now : ℕ) (went : Option ℕ) → IsSome went → gone_by now went ≡ went
same_time now None h = absurd (true≢false (sym h))
same_time now (Some at) h = refl

-- what has gone stays as it is
pub stays_gone : (now : ℕ) (f : Flown) → HasGone f → gone_at now f ≡ f
stays_gone now f h = ap (λ (w : Option ℕ). record f { went = w }) (same_time now f.went h)

either : (b : Bool) (f g : Flown) → g ≡ f → cond b g f ≡ f
either true f g same = same
either false f g same = refl

-- the earlier entries are among all
pub within : (k : ℕ) (fs : List Flown) → AreByEpoch k fs → k ≤ length fs
within zero fs h = omega arith
within (suc k) [] h = absurd h
within (suc k) (f ∷ fs) h = let below = within k fs h.1 in omega arith

one_less : (op n k : ℕ) → HasNoPlace op (suc n - suc k) → HasNoPlace op (n - k)
one_less op n k (inl is) = inl is
one_less op n k (inr past) = inr (omega (arith, past))

-- an operation goes at its place behind the earlier entries
goes_at : (now k i op j : ℕ) (d : Flown) (fs : List Flown) → op ≡ 1 + i → j ≡ k + i → j < length fs → AreByEpoch k fs
    → gone_in now op fs ≡ set fs j (gone_at now (get_or fs j d))
goes_at now zero i op j d fs is place there h = changed_at opid_of (gone_at now) op fs 1 j d (omega (arith, is, place)) there h
goes_at now (suc k) i op j d [] is place there h = absurd h
goes_at now (suc k) i op zero d (f ∷ fs) is place there h = absurd (omega (arith, place))
goes_at now (suc k) i op (suc j) d (f ∷ fs) is place there h =
    ap (λ g. g ∷ gone_in now op fs) (either (f.opid == op) f (gone_at now f) (stays_gone now f h.0))
    ∙ ap (λ gs. f ∷ gs) (goes_at now k i op j d fs is (omega (arith, place)) (omega (arith, there)) h.1)

-- the same of the entry that was read there
pub goes_read : (now k i op : ℕ) (x : Flown) (fs : List Flown) → op ≡ 1 + i → k + i < length fs → x ≡ get_or fs (k + i) x → AreByEpoch k fs
    → set fs (k + i) (gone_at now x) ≡ gone_in now op fs
goes_read now k i op x fs is there read h =
    ap (λ y. set fs (k + i) (gone_at now y)) read ∙ sym (goes_at now k i op (k + i) x fs is refl there h)

-- an operation that is not of the present epoch changes nothing
pub goes_nowhere : (now k op : ℕ) (fs : List Flown) → HasNoPlace op (length fs - k) → AreByEpoch k fs → fs ≡ gone_in now op fs
goes_nowhere now zero op fs none h = changed_nowhere opid_of (gone_at now) op fs (subst (HasNoPlace op) (omega arith) none) h
goes_nowhere now (suc k) op [] none h = refl
goes_nowhere now (suc k) op (f ∷ fs) none h =
    ap (λ gs. f ∷ gs) (goes_nowhere now k op fs (one_less op (length fs) k none) h.1)
    ∙ ap (λ g. g ∷ gone_in now op fs) (sym (either (f.opid == op) f (gone_at now f) (stays_gone now f h.0)))

-- the earlier entries have gone
pub goes_first : (now k : ℕ) (fs : List Flown) → AreByEpoch k fs → fs ≡ map (gone_at now) (take k fs) ++ drop k fs
goes_first now zero fs h = refl
goes_first now (suc k) [] h = refl
goes_first now (suc k) (f ∷ fs) h =
    ap (λ g. g ∷ fs) (sym (stays_gone now f h.0)) ∙ ap (λ gs. gone_at now f ∷ gs) (goes_first now k fs h.1)

went : (now : ℕ) (w : Option ℕ) → IsSome (gone_by now w)
went now None = refl
went now (Some at) = refl

-- all has gone then
pub all_gone : (now : ℕ) (fs : List Flown) → AllByRecursion HasGone (map (gone_at now) fs)
all_gone now [] = tt
all_gone now (f ∷ fs) = (went now f.went, all_gone now fs)

-- entries stay by epochs where they change so
module _ (g : Flown → Flown) (same : (f : Flown) → (g f).opid ≡ f.opid) (more : (f : Flown) → HasGone f → HasGone (g f)) where
  pub by_epoch : (k : ℕ) (fs : List Flown) → AreByEpoch k fs → AreByEpoch k (map g fs)
  by_epoch zero fs h = turn_map opid_of g same fs 1 h
  by_epoch (suc k) [] h = absurd h
  by_epoch (suc k) (f ∷ fs) h = (more f h.0, by_epoch k fs h.1)

-- an operation goes
pub by_epoch_in : (now op k : ℕ) (fs : List Flown) → AreByEpoch k fs → AreByEpoch k (gone_in now op fs)
by_epoch_in now op = by_epoch (λ f. cond (f.opid == op) (gone_at now f) f)
    (λ f. elim (f.opid == op) as (λ b. (cond b (gone_at now f) f).opid ≡ f.opid) [ true ↦ refl | false ↦ refl ])
    (λ f h. elim (f.opid == op) as (λ b. HasGone (cond b (gone_at now f) f)) [ true ↦ went now f.went | false ↦ h ])

-- all goes
pub by_epoch_all : (now k : ℕ) (fs : List Flown) → AreByEpoch k fs → AreByEpoch k (map (gone_at now) fs)
by_epoch_all now = by_epoch (gone_at now) (λ f. refl) (λ f h. went now f.went)

-- the next operation comes
pub by_epoch_push : (k : ℕ) (fs : List Flown) (f : Flown) → f.opid + k ≡ length fs + 1 → AreByEpoch k fs → AreByEpoch k (fs ++ f ∷ [])
by_epoch_push zero fs f next h = turn_push opid_of fs f 1 (omega (arith, next)) h
by_epoch_push (suc k) [] f next h = absurd h
by_epoch_push (suc k) (g ∷ fs) f next h = (h.0, by_epoch_push k fs f (omega (arith, next)) h.1)

-- all is of earlier epochs
pub by_epoch_new : (fs : List Flown) → AllByRecursion HasGone fs → AreByEpoch (length fs) fs
by_epoch_new [] h = tt
by_epoch_new (f ∷ fs) h = (h.0, by_epoch_new fs h.1)

-- one entry more goes
pub goes_on : (now : ℕ) (all : List Flown) (i : ℕ) (x : Flown) → i < length all → x ≡ get_or (map (gone_at now) (take i all) ++ drop i all) i x
    → set (map (gone_at now) (take i all) ++ drop i all) i (gone_at now x) ≡ map (gone_at now) (take (suc i) all) ++ drop (suc i) all
goes_on now [] i x there read = absurd (omega (arith, there))
goes_on now (f ∷ fs) zero x there read = ap (λ g. gone_at now g ∷ fs) read
goes_on now (f ∷ fs) (suc i) x there read = ap (λ gs. gone_at now f ∷ gs) (goes_on now fs i x (omega (arith, there)) read)
