-- The calls that wait for work when one of them ends, and what that leaves of all work.
use Rattle.std.proofs.Common.{◌≡◌, ◌≢◌, ◌∙◌, sym, ap, refl, subst, ℕ, Bool, true, false, cond, List, [], ◌∷◌, Option, Some, None, not, ◌&&◌, ◌||◌, ◌==◌, true≢false, inl, inr}
use Rattle.std.specs.Prelude.{if◌then◌else◌}
use Rattle.std.specs.List.{list_any}
use Rattle.std.specs.FinMap as fin
use Rattle.std.proofs.lemmas.Bool.{eq-eqb, eqb-true}
use Rattle.tier_types.specs.declared.flight.Flight.{Flight}
use Rattle.tier_types.specs.declared.flight.Flight.TheVariants as flight
use Rattle.tier_types.specs.declared.flight.ReadFlight.{ReadFlight}
use Rattle.tier_flight.specs.declared.index.Index.{Index}
use Rattle.tier_flight.specs.Changes.{IsDroppedIn, dropped_at}
use Rattle.tier_flight.specs.Ends.{FlightMap, is_call, is_other, left_at, others_of, put_left, reads_left}
use Rattle.tier_flight.specs.Indexes.{IsIndexBy, name_in}
use Rattle.tier_flight.specs.Numbers.{has_call, has_opid, reads_call, reads_opid}
use Rattle.tier_flight.proofs.Indexed.{get_here, get_there, same_or_not}
use Rattle.tier_flight.proofs.NumbersLeft.{any_const, any_kept, any_split, left_opid}

-- ---- the calls that are left

none_both : (t : Bool) → false ≡ (t && not t)
none_both true = refl
none_both false = refl

-- a number that stays where it is not the call's
stays : (a c k : ℕ) (b : Bool) → (a == c) ≡ b → cond b false (a == k) ≡ ((a == k) && not (c == k))
stays a c k true e = none_both (a == k) ∙ ap (λ x. (a == k) && not (x == k)) (eqb-true a c e)
stays a c k false e = by (a == k) refl (c == k) refl
  where
    by : (s : Bool) → (a == k) ≡ s → (t : Bool) → (c == k) ≡ t → s ≡ (s && not t)
    by true f true g = absurd
        (true≢false (sym (eq-eqb a c (eqb-true a k f ∙ sym (eqb-true c k g))) ∙ e))
    by true f false g = refl
    by false f t g = refl

only_if : (call : ℕ) (c : ℕ) (f : Flight) (k : ℕ) (b : Bool) →
    has_call (if b then None else Some f) k ≡ cond b false (has_call (Some f) k)
only_if call c f k true = refl
only_if call c f k false = refl

without : (d k : ℕ) (b : Bool) → is_call k (if b then None else Some d) ≡ cond b false (d == k)
without d k true = refl
without d k false = refl

left_call_reads : (k : ℕ) (xs : List ReadFlight) → has_call (reads_left xs) k ≡ reads_call k xs
left_call_reads k [] = refl
left_call_reads k (r ∷ rs) = refl

swapped : (a b c : Bool) → (not a && b) ≡ (b && c) → (not a && b) ≡ (true && (b && c))
swapped a b c e = e

-- one read of another call
other_read : (a c k : ℕ) (b : Bool) → (a == c) ≡ b →
    (not b && (a == k)) ≡ ((a == k) && not (c == k))
other_read a c k true e = stays a c k true e
other_read a c k false e = stays a c k false e

-- the calls that wait for what is left are those that waited, but for the one that ends
pub left_call : (call : ℕ) (w : Option Flight) (k : ℕ) →
    has_call (left_at call w) k ≡ (has_call w k && not (call == k))
left_call call None k = refl
left_call call (Some (flight.Promote c o g a)) k =
    only_if call c (flight.Promote c o g a) k (c == call) ∙ stays c call k (c == call) refl
left_call call (Some (flight.Write None w o r)) k = refl
left_call call (Some (flight.Write (Some d) w o r)) k = without d k (d == call)
    ∙ stays d call k (d == call) refl
left_call call (Some (flight.Reads list)) k =
    left_call_reads k (others_of call list)
    ∙ sym (any_kept (is_other call) (λ (r : ReadFlight). r.call == k) list)
    ∙ (λ i. list_any (λ (r : ReadFlight). other_read r.call call k (r.call == call) refl i) list)
    ∙ any_const (λ (r : ReadFlight). true) (λ (r : ReadFlight). r.call == k) (not (call == k)) list
left_call call (Some (flight.Flush None o s b d)) k = refl
left_call call (Some (flight.Flush (Some c) o s b d)) k =
    only_if call c (flight.Flush (Some c) o s b d) k (c == call) ∙ stays c call k (c == call) refl

both_first : (a b : Bool) → (a && b) ≡ true → a ≡ true
both_first true b e = refl
both_first false b e = e

-- none of them is new
pub left_call_in : (call : ℕ) (w : Option Flight) (k : ℕ) → has_call (left_at call w) k ≡ true →
    has_call w k ≡ true
left_call_in call w k e = both_first (has_call w k) (not (call == k)) (sym (left_call call w k) ∙ e)

one_out : (h t l : Bool) → (t ≡ true → h ≡ true) → l ≡ (h && not t) → t ≡ (h && not l)
one_out true true l inner e = ap not (sym e)
one_out true false l inner e = ap not (sym e)
one_out false true l inner e = absurd (true≢false (sym (inner refl)))
one_out false false l inner e = refl

-- where the call waits for the work, it is the one that is taken out
pub call_out : (call : ℕ) (w : Option Flight) (k : ℕ) → has_call w call ≡ true →
    (call == k) ≡ (has_call w k && not (has_call (left_at call w) k))
call_out call w k waits = one_out (has_call w k) (call == k) (has_call (left_at call w) k)
    (λ e. ap (has_call w) (sym (eqb-true call k e)) ∙ waits) (left_call call w k)

-- ---- the operations that are left

kept_if : (f : Flight) (k : ℕ) (b : Bool) → has_opid (if b then None else Some f) k ≡ true →
    has_opid (Some f) k ≡ true
kept_if f k true e = absurd (true≢false (sym e))
kept_if f k false e = e

or_true : (a b c : Bool) → c ≡ (a || b) → a ≡ true → c ≡ true
or_true a b c e f = e ∙ ap (λ x. x || b) f

-- none of them is new
pub left_opid_in : (call : ℕ) (w : Option Flight) (k : ℕ) → has_opid (left_at call w) k ≡ true →
    has_opid w k ≡ true
left_opid_in call None k e = e
left_opid_in call (Some (flight.Promote c o g a)) k e =
    kept_if (flight.Promote c o g a) k (c == call) e
left_opid_in call (Some (flight.Write d w o r)) k e = e
left_opid_in call (Some (flight.Reads list)) k e =
    or_true (list_any (λ (r : ReadFlight). is_other call r && (r.opid == k)) list)
    (list_any (λ (r : ReadFlight). not (is_other call r) && (r.opid == k)) list)
    (reads_opid k list)
    (any_split (is_other call) (λ (r : ReadFlight). r.opid == k) list)
    (any_kept (is_other call) (λ (r : ReadFlight). r.opid == k) list
    ∙ sym (left_opid k (others_of call list)) ∙ e)
left_opid_in call (Some (flight.Flush c o s b d)) k e =
    kept_if (flight.Flush c o s b d) k (is_call call c) e

-- ---- all work

module _ (calls : Index) (m new : FlightMap) (call : ℕ) (name : List ℕ)
    (right : IsIndexBy has_call calls m) (found : name_in calls call ≡ Some name)
    (left : new ≡ put_left m name (left_at call (fin.get m name))) where
  -- the call waits for this name's work
  pub waits : has_call (fin.get m name) call ≡ true
  waits = (right call name).0 found

  here_left : fin.get new name ≡ dropped_at call (fin.get m name)
  here_left = ap (λ u. fin.get u name) left ∙ get_here m name (left_at call (fin.get m name))
      ∙ sym (ap (λ (b : Bool). if b then left_at call (fin.get m name) else fin.get m name) waits)

  free : (q : List ℕ) → q ≢ name → (b : Bool) → has_call (fin.get m q) call ≡ b →
      fin.get m q ≡ dropped_at call (fin.get m q)
  free q ne true e = let one : Some q ≡ Some name = sym ((right call q).1 e) ∙ found in
      absurd (ne (cc))
  free q ne false e = sym
      (ap (λ (b : Bool). if b then left_at call (fin.get m q) else fin.get m q) e)

  -- what its end leaves
  pub dropped : IsDroppedIn call m new
  dropped q = elim (same_or_not q name) [
    | inl same ↦ subst (λ (p : List ℕ). fin.get new p ≡ dropped_at call (fin.get m p)) (sym same)
        here_left
    | inr other ↦ ap (λ u. fin.get u q) left
        ∙ get_there m name (left_at call (fin.get m name)) q other
        ∙ free q other (has_call (fin.get m q) call) refl
  ]
