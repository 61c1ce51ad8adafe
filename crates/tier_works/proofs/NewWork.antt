-- Work of the next number is new.
use Rattle.std.proofs.Common.{◌≡◌, ◌<◌, inl, inr, ℕ, ◌==◌, ◌||◌, Bool, true, false, true≢false, List, [], ◌∷◌, Option, Some, refl, sym, ap, subst, ◌∙◌, arith}
use Rattle.std.specs.FinMap as fin
use Rattle.std.proofs.lemmas.Bool.{eqb-true}
use Rattle.tier_flight.specs.Ends.{is_call}
use Rattle.tier_flight.specs.Numbers.{IsSingle, has_call, has_opid, reads_call}
use Rattle.tier_flight.proofs.WorkLaws.{opids_are_tested}
use Rattle.tier_protocol.specs.Tiers.{Flight, IsIn, ReadFlight}
use Rattle.tier_types.specs.Flights.{HasOpid}
use Rattle.tier_view.specs.Views.{GroupView}
use Rattle.tier_works.specs.Works.{IsOfNow, NewWorkIsNew}

unless_true : (b : Bool) → (b ≡ true → ⊥) → b ≡ false
unless_true true h = absurd (h refl)
unless_true false h = refl

or_left : (b : Bool) → (b || false) ≡ true → b ≡ true
or_left true e = refl
or_left false e = absurd (true≢false (sym e))

one_single : (list : List ReadFlight) (r : ReadFlight) → list ≡ r ∷ []
    → IsSingle (Flight.Reads list)
one_single list r is = subst (λ l. IsSingle (Flight.Reads l)) (sym is) tt

one_in : (q r : ReadFlight) (list : List ReadFlight) → list ≡ r ∷ [] → IsIn q list → q ≡ r
one_in q r list is on = by (subst (IsIn q) is on)
  where
    by : IsIn q (r ∷ []) → q ≡ r
    by (inl same) = same
    by (inr none) = absurd none

module _ (v : GroupView) (call : ℕ) where
  single : (work : Flight) → IsOfNow v call work → IsSingle work
  single (Flight.Promote c op gather ask) of = tt
  single (Flight.Write driver owner op r) of = tt
  single (Flight.Reads list) of = one_single list of.0 of.1
  single (Flight.Flush waiter op seq blocking drain) of = tt

  -- its number is the next
  is_next : (work : Flight) → IsOfNow v call work → (k : ℕ) → HasOpid (Some work) k
      → k ≡ v.standing.next_opid
  is_next (Flight.Promote c op gather ask) of k has = has ∙ of.1
  is_next (Flight.Write driver owner op r) of k has = has ∙ of.1
  is_next (Flight.Reads list) of k has =
      has.2 ∙ ap (λ q. q.opid) (one_in has.0 of.0 list of.1 has.1) ∙ of.3
  is_next (Flight.Flush waiter op seq blocking drain) of k has = has ∙ of.1

  -- its call is this
  waits_some : (k : ℕ) (driver : Option ℕ) → driver ≡ Some call → is_call k driver ≡ true
      → k ≡ call
  waits_some k driver is e =
      sym (eqb-true call k (subst (λ o. is_call k o ≡ true) is e))

  waits_one : (k : ℕ) (list : List ReadFlight) (r : ReadFlight) → list ≡ r ∷ [] → r.call ≡ call
      → reads_call k list ≡ true → k ≡ call
  waits_one k list r is own e =
      sym (eqb-true r.call k (or_left (r.call == k) (subst (λ l. reads_call k l ≡ true) is e)))
      ∙ own

  is_own : (work : Flight) → IsOfNow v call work → (k : ℕ) → has_call (Some work) k ≡ true
      → k ≡ call
  is_own (Flight.Promote c op gather ask) of k e = sym (eqb-true c k e) ∙ of.0
  is_own (Flight.Write driver owner op r) of k e = waits_some k driver of.0 e
  is_own (Flight.Reads list) of k e = waits_one k list of.0 of.1 of.2 e
  is_own (Flight.Flush waiter op seq blocking drain) of k e = elim of.0 [
    | inl waits ↦ waits_some k waiter waits e
    | inr nobody ↦ absurd (true≢false (sym e ∙ ap (is_call k) nobody))
  ]

pub new_work_is_new : NewWorkIsNew
new_work_is_new v call work h idle of = (
  single v call work of,
  λ k has n. unless_true (has_opid (fin.get v.traffic.flights n) k)
      (λ stands.
      let next : k ≡ v.standing.next_opid = is_next v call work of k
      ((opids_are_tested (Some work) k).0 has) in
      let there : HasOpid (fin.get v.traffic.flights n) k =
      (opids_are_tested (fin.get v.traffic.flights n) k).0 stands in
      let below : (0 < k) × (k < v.standing.next_opid) =
      (h.memory.sound.each n).counted k there in
      absurd (omega (arith, next, below.1))),
  λ k has n. subst (λ c. has_call (fin.get v.traffic.flights n) c ≡ false)
      (sym (is_own v call work of k has)) (idle n),
)
