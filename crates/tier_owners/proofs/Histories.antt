-- What moves do to the history: it grows, by acts of calls that are open, and no request id acts
-- twice.
use Rattle.std.proofs.Common.{◌≡◌, ℕ, true, false, List, [], ◌∷◌, ◌++◌, Some, unwrap_or, refl, sym, ap, subst, ◌∙◌, arith, inl, inr}
use Rattle.obj_model.specs.States.{unknown}
use Rattle.obj_model.specs.declared.req.Req.{Req}
use Rattle.obj_ops.specs.declared.request.Acted.{Acted}
use Rattle.obj_ops.specs.declared.request.Acted.TheVariants.{Fresh, Again, Stale, Worn}
use Rattle.obj_ops.specs.Acts.{act, kept_of}
use Rattle.obj_ops.specs.Stores.{Store, replay, state_of, store_after}
use Rattle.obj_laws.specs.Requests.{HasTid}
use Rattle.obj_laws.proofs.Requesting.{acts_count, tids_stay}
use Rattle.tier_protocol.specs.Tiers.{IsIn}
use Rattle.tier_protocol.specs.Sound.{AreFresh, Covers, is_fresh, is_past}
use Rattle.tier_protocol.specs.Owners.{CallAct, IsOpen}
use Rattle.tier_protocol.proofs.Cells.{get_here}
use Rattle.tier_protocol.proofs.Owners.{in_more}
use Rattle.tier_protocol.proofs.Requests.{keeps_past}
use Rattle.tier_owners.specs.Moving.{IsHeld, IsRun, System}
use Rattle.tier_owners.specs.Runs.{ClosedActNoMore, GoesOn, HaveOneId, HistoryGrows, LegalActOnce}
use Rattle.tier_owners.proofs.Effects.{Effect, effect}
use Rattle.tier_owners.proofs.Keeping.{moves_keep}

-- ---- the history goes on

all_of : {X : Type 0} (xs : List X) → xs ≡ xs ++ []
all_of [] = refl
all_of (x ∷ xs) = ap (λ l. x ∷ l) (all_of xs)

join : {X : Type 0} (xs ys zs : List X) → (xs ++ ys) ++ zs ≡ xs ++ (ys ++ zs)
join [] ys zs = refl
join (x ∷ xs) ys zs = ap (λ l. x ∷ l) (join xs ys zs)

one_on : (s u : System) → Effect s u → GoesOn s u
one_on s u x = elim x.acts [
  | inl same ↦ record { opening = x.opening; more = []; acts = same ∙ all_of s.ledger.acts }
  | inr one ↦ record { opening = x.opening; more = one.new ∷ []; acts = one.acts }
]

further : (s v u : System) → GoesOn s v → GoesOn v u → GoesOn s u
further s v u first second = record {
  opening = second.opening ∙ first.opening;
  more = first.more ++ second.more;
  acts = second.acts ∙ ap (λ l. l ++ second.more) first.acts
      ∙ join s.ledger.acts first.more second.more;
}

run_grows : (us : List System) (s : System) → IsRun s us → (u : System) → IsIn u us → GoesOn s u
run_grows [] s run u on = absurd on
run_grows (v ∷ us) s run u (inl same) = subst (GoesOn s) (sym same) (one_on s v (effect s v run.0))
run_grows (v ∷ us) s run u (inr on) =
    further s v u (one_on s v (effect s v run.0)) (run_grows us v run.1 u on)

pub history_grows : HistoryGrows
history_grows s us run u on = run_grows us s run u on

-- ---- calls that were answered for good

open_or_closed : (s : System) (call : ℕ) → s.ledger.closed call ≡ true → IsOpen s.ledger call → ⊥
open_or_closed s call shut free = let e : true ≡ false = sym shut ∙ free.1 in absurd (cc)

one_closed : (s u : System) (call : ℕ) → IsHeld s → Effect s u → s.ledger.closed call ≡ true
    → (a : CallAct) → IsIn a u.ledger.acts → a.call ≡ call → IsIn a s.ledger.acts
one_closed s u call h x shut a on mine = elim x.acts [
  | inl same ↦ subst (IsIn a) same on
  | inr one ↦ elim (in_more s.ledger.acts one.new a (subst (IsIn a) one.acts on)) [
    | inl old ↦ old
    | inr last ↦ absurd (open_or_closed s call shut
        (subst (IsOpen s.ledger) (sym (ap (λ y. y.call) last) ∙ mine) (one.free h)))
  ]
]

run_closed : (us : List System) (s : System) (call : ℕ) → IsHeld s → IsRun s us
    → s.ledger.closed call ≡ true → (u : System) → IsIn u us → (a : CallAct) → IsIn a u.ledger.acts
    → a.call ≡ call → IsIn a s.ledger.acts
run_closed [] s call h run shut u on a is mine = absurd on
run_closed (v ∷ us) s call h run shut u (inl same) a is mine =
    one_closed s v call h (effect s v run.0) shut a (subst (λ x. IsIn a x.ledger.acts) same is) mine
run_closed (v ∷ us) s call h run shut u (inr on) a is mine =
    one_closed s v call h (effect s v run.0) shut a
    (run_closed us v call (moves_keep s v h run.0) run.1
    ((effect s v run.0).closed call shut) u on a is mine)
    mine

pub closed_act_no_more : ClosedActNoMore
closed_act_no_more s us call h run shut u on a is mine = run_closed us s call h run shut u on a is
    mine

-- ---- request ids

-- what is behind a front of a legal history is legal on what the front leaves
legal_behind : (xs ys : List Req) (store : Store) → AreFresh store (xs ++ ys)
    → AreFresh (replay store xs) ys
legal_behind [] ys store h = h
legal_behind (x ∷ xs) ys store h =
    legal_behind xs ys (store_after store x.name (act (state_of store x.name) x)) h.1

past_not_fresh : (a : Acted) → is_past a ≡ true → is_fresh a ≡ true → ⊥
past_not_fresh (Fresh s reply) past fresh = absurd (cc)
past_not_fresh (Again reply) past fresh = absurd (cc)
past_not_fresh (Stale kept) past fresh = absurd (cc)
past_not_fresh (Worn limit) past fresh = absurd (cc)

-- where a request acted its tid is kept
acted_has : (store : Store) (r : Req) (a : Acted) → act (state_of store r.name) r ≡ a
    → is_fresh a ≡ true
    → HasTid r.tid (kept_of r.client (state_of (store_after store r.name a) r.name).seen)
acted_has store r (Fresh t reply) e fresh =
    subst (λ s. HasTid r.tid (kept_of r.client s.seen))
    (sym (ap (λ o. unwrap_or o unknown) (get_here store r.name (Some t))))
    (subst (HasTid r.tid) (sym (acts_count (state_of store r.name) r t reply e).kept) (omega arith))
acted_has store r (Again reply) e fresh = absurd (cc)
acted_has store r (Stale kept) e fresh = absurd (cc)
acted_has store r (Worn limit) e fresh = absurd (cc)

twice : (store : Store) (between behind : List Req) (r q : Req)
    → AreFresh store (r ∷ (between ++ q ∷ behind)) → HaveOneId r q → ⊥
twice store between behind r q h one =
    past_not_fresh (act (state_of later q.name) q) covers (legal_behind between
    (q ∷ behind) first h.1).0
  where
    first : Store
    first = store_after store r.name (act (state_of store r.name) r)

    later : Store
    later = replay first between

    has : HasTid r.tid (kept_of r.client (state_of later r.name).seen)
    has =
        tids_stay r.name r.client first between r.tid
        (acted_has store r (act (state_of store r.name) r) refl h.0)

    has_too : HasTid q.tid (kept_of q.client (state_of later q.name).seen)
    has_too =
        subst (λ n. HasTid q.tid (kept_of q.client (state_of later n).seen)) one.name
        (subst (λ c. HasTid q.tid (kept_of c (state_of later r.name).seen)) one.client
        (subst (λ i. HasTid i (kept_of r.client (state_of later r.name).seen)) one.tid has))

    covers : Covers (state_of later q.name) q
    covers = keeps_past (state_of later q.name) q has_too

pub legal_act_once : LegalActOnce
legal_act_once plain acts h before between behind r q same one =
    twice (replay plain before) between behind r q
    (legal_behind before (r ∷ (between ++ q ∷ behind)) plain (subst (AreFresh plain) same h)) one
