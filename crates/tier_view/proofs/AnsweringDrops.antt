-- The one work that goes when a call ends.
use Rattle.std.proofs.Common.{◌≡◌, ◌≢◌, ◌⊎◌, inl, inr, ℕ, ◌==◌, ◌||◌, cond, not, Bool, true, false, List, [], ◌∷◌, Option, Some, None, refl, sym, ap, subst, ◌∙◌, true≢false}
use Rattle.std.specs.Prelude.{if◌then◌else◌}
use Rattle.std.specs.FinMap as fin
use Rattle.std.proofs.lemmas.Bool.{eq-eqb, eqb-false, eqb-true, ne_eqb}
use Rattle.tier_flight.specs.Changes.{IsDroppedIn, dropped_at}
use Rattle.tier_flight.specs.Ends.{is_call, is_other, left_at, others_of, reads_left}
use Rattle.tier_flight.specs.Numbers.{HasOneRead, IsNameBy, has_call, reads_call}
use Rattle.tier_flight.proofs.WorkLaws.{ends_leave}
use Rattle.tier_protocol.specs.Tiers.{Flight, Flights, Name, ReadFlight, IsIn}
use Rattle.tier_types.specs.Flights.{HasOpid, IsLeftOf}
use Rattle.tier_view.specs.Answers.{DropsWork, OneWorkIsDropped, dropped_on, dropped_op, read_of}
use Rattle.tier_view.specs.Views.{GroupView}
use Rattle.tier_view.specs.Whole.{IsWhole}
use Rattle.tier_view.proofs.AnsweringWork.{calls_on}

abbrev IsRead : ℕ → List ReadFlight → ℕ → Type 0
IsRead call list op = (r : ReadFlight) × IsIn r list × (r.call ≡ call) × (r.opid ≡ op)

one_op : (a b : ℕ) → Some a ≡ Some b → a ≡ b
one_op a b e = cc

found_step : (b : Bool) (call : ℕ) (r : ReadFlight) (rs : List ReadFlight) (op : ℕ) → (r.call == call) ≡ b → (read_of call rs ≡ Some op → IsRead call rs op)
    → (if b then Some r.opid else read_of call rs) ≡ Some op → IsRead call (r ∷ rs) op
found_step true call r rs op same rest k = (r, inl refl, eqb-true r.call call same, one_op r.opid op k)
found_step false call r rs op other rest k = let q = rest k in (q.0, inr q.1, q.2, q.3)

some_step : (b : Bool) (call : ℕ) (q r : ReadFlight) (qs : List ReadFlight) → (q.call == call) ≡ b → IsIn r (q ∷ qs) → r.call ≡ call → (IsIn r qs → (op : ℕ) × (read_of call qs ≡ Some op))
    → (op : ℕ) × ((if b then Some q.opid else read_of call qs) ≡ Some op)
some_step true call q r qs same on is rest = (q.opid, refl)
some_step false call q r qs other (inl one) is rest = absurd (eqb-false q.call call other (sym (ap (λ x. x.call) one) ∙ is))
some_step false call q r qs other (inr there) is rest = rest there

keep_step : (b : Bool) (call : ℕ) (q r : ReadFlight) (qs some : List ReadFlight) → (q.call == call) ≡ b → IsIn r (q ∷ qs) → r.call ≢ call → (IsIn r qs → IsIn r some) → IsIn r (cond (not b) (q ∷ some) some)
keep_step true call q r qs some same (inl one) ne rest = absurd (ne (ap (λ x. x.call) one ∙ eqb-true q.call call same))
keep_step true call q r qs some same (inr there) ne rest = rest there
keep_step false call q r qs some other (inl one) ne rest = inl one
keep_step false call q r qs some other (inr there) ne rest = inr (rest there)

are_step : (b : Bool) (call : ℕ) (q r : ReadFlight) (qs some : List ReadFlight) → (q.call == call) ≡ b → (IsIn r some → IsIn r qs × (r.call ≢ call)) → IsIn r (cond (not b) (q ∷ some) some) → IsIn r (q ∷ qs) × (r.call ≢ call)
are_step true call q r qs some same rest there = let k = rest there in (inr k.0, k.1)
are_step false call q r qs some other rest (inl one) = (inl one, λ is. eqb-false q.call call other (sym (ap (λ x. x.call) one) ∙ is))
are_step false call q r qs some other rest (inr there) = let k = rest there in (inr k.0, k.1)

-- the call's read is found
read_found : (call : ℕ) (list : List ReadFlight) (op : ℕ) → read_of call list ≡ Some op → (r : ReadFlight) × IsIn r list × (r.call ≡ call) × (r.opid ≡ op)
read_found call [] op e = absurd (cc)
read_found call (r ∷ rs) op e = found_step (r.call == call) call r rs op refl (read_found call rs op) e

some_read : (call : ℕ) (list : List ReadFlight) (r : ReadFlight) → IsIn r list → r.call ≡ call → (op : ℕ) × (read_of call list ≡ Some op)
some_read call [] r on is = absurd on
some_read call (q ∷ qs) r on is = some_step (q.call == call) call q r qs refl on is (λ there. some_read call qs r there is)

others_keep : (call : ℕ) (list : List ReadFlight) (r : ReadFlight) → IsIn r list → r.call ≢ call → IsIn r (others_of call list)
others_keep call [] r on ne = absurd on
others_keep call (q ∷ qs) r on ne = keep_step (q.call == call) call q r qs (others_of call qs) refl on ne (λ there. others_keep call qs r there ne)

others_are : (call : ℕ) (list : List ReadFlight) (r : ReadFlight) → IsIn r (others_of call list) → IsIn r list × (r.call ≢ call)
others_are call [] r on = absurd on
others_are call (q ∷ qs) r on = are_step (q.call == call) call q r qs (others_of call qs) refl (others_are call qs r) on

reads_have : (xs : List ReadFlight) (r : ReadFlight) (op : ℕ) → IsIn r xs → op ≡ r.opid → HasOpid (reads_left xs) op
reads_have [] r op on is = absurd on
reads_have (x ∷ xs) r op on is = (r, on, is)

reads_were : (xs : List ReadFlight) (op : ℕ) → HasOpid (reads_left xs) op → (r : ReadFlight) × IsIn r xs × (op ≡ r.opid)
reads_were [] op h = absurd h
reads_were (x ∷ xs) op h = h

one_number : {a b : ℕ} → a ≡ b → Some a ≡ Some b
one_number e = ap Some e

-- ---- what stays, on a name whose work waits for the call

module _ (call : ℕ) where
  cond_stays : (b : Bool) (f : Flight) (o op : ℕ) → op ≡ o → (if b then Some o else None) ≢ Some op → HasOpid (Some f) op → HasOpid (if b then None else Some f) op
  cond_stays true f o op is ne h = absurd (ne (ap Some (sym is)))
  cond_stays false f o op is ne h = h

  read_stays : (list : List ReadFlight) (op : ℕ) → HasOneRead call (Some (Flight.Reads list)) → (h : HasOpid (Some (Flight.Reads list)) op) → read_of call list ≢ Some op → (b : Bool) → (h.0.call == call) ≡ b
      → HasOpid (reads_left (others_of call list)) op
  read_stays list op one h ne true same =
      let mine : h.0.call ≡ call = eqb-true h.0.call call same in
      let some = some_read call list h.0 h.1 mine in
      let found = read_found call list some.0 some.1 in
      let this : found.0 ≡ h.0 = one found.0 h.0 found.1 h.1 found.2 mine in
      absurd (ne (some.1 ∙ ap Some (sym found.3 ∙ ap (λ x. x.opid) this ∙ sym h.2)))
  read_stays list op one h ne false other = reads_have (others_of call list) h.0 op (others_keep call list h.0 h.1 (eqb-false h.0.call call other)) h.2

  stays_in : (w : Option Flight) (op : ℕ) → HasOneRead call w → HasOpid w op → dropped_op call w ≢ Some op → HasOpid (left_at call w) op
  stays_in None op one h ne = absurd h
  stays_in (Some (Flight.Promote c o gather ask)) op one h ne = cond_stays (c == call) (Flight.Promote c o gather ask) o op h ne h
  stays_in (Some (Flight.Write driver owner o r)) op one h ne = h
  stays_in (Some (Flight.Reads list)) op one h ne = read_stays list op one h ne (h.0.call == call) refl
  stays_in (Some (Flight.Flush c o seq blocking drain)) op one h ne = cond_stays (is_call call c) (Flight.Flush c o seq blocking drain) o op h ne h

  -- ---- what goes

  cond_goes : (b : Bool) (f : Flight) (o op : ℕ) → HasOpid (if b then None else Some f) op → (if b then Some o else None) ≡ Some op → ⊥
  cond_goes true f o op h e = absurd h
  cond_goes false f o op h e = absurd (cc)

  goes_from : (w : Option Flight) (op : ℕ) → ((list : List ReadFlight) (r q : ReadFlight) → w ≡ Some (Flight.Reads list) → IsIn r list → IsIn q list → r.opid ≡ q.opid → r ≡ q)
      → HasOpid (left_at call w) op → dropped_op call w ≡ Some op → ⊥
  goes_from None op single h e = absurd h
  goes_from (Some (Flight.Promote c o gather ask)) op single h e = cond_goes (c == call) (Flight.Promote c o gather ask) o op h e
  goes_from (Some (Flight.Write driver owner o r)) op single h e = absurd (cc)
  goes_from (Some (Flight.Reads list)) op single h e =
      let was = reads_were (others_of call list) op h in
      let other = others_are call list was.0 was.1 in
      let found = read_found call list op e in
      let same : was.0 ≡ found.0 = single list was.0 found.0 refl other.0 found.1 (sym was.2 ∙ sym found.3) in
      other.1 (ap (λ x. x.call) same ∙ found.2)
  goes_from (Some (Flight.Flush c o seq blocking drain)) op single h e = cond_goes (is_call call c) (Flight.Flush c o seq blocking drain) o op h e

  -- what goes was of the work, and the work waits for the call
  cond_was : (b : Bool) (o op : ℕ) → (if b then Some o else None) ≡ Some op → (b ≡ true) × (op ≡ o)
  cond_was true o op e = (refl, cc)
  cond_was false o op e = absurd (cc)

  was_of : (w : Option Flight) (op : ℕ) → dropped_op call w ≡ Some op → (has_call w call ≡ true) × HasOpid w op
  was_of None op e = absurd (cc)
  was_of (Some (Flight.Promote c o gather ask)) op e = cond_was (c == call) o op e
  was_of (Some (Flight.Write driver owner o r)) op e = absurd (cc)
  was_of (Some (Flight.Reads list)) op e = let found = read_found call list op e in (calls_on call list found.0 found.1 found.2, (found.0, found.1, sym found.3))
  was_of (Some (Flight.Flush c o seq blocking drain)) op e = cond_was (is_call call c) o op e

part_has : (w left : Option Flight) (op : ℕ) → IsLeftOf w left → HasOpid left op → HasOpid w op
part_has w None op part h = absurd h
part_has w (Some (Flight.Promote c o gather ask)) op part h = subst (λ x. HasOpid x op) (sym part) h
part_has w (Some (Flight.Write driver owner o r)) op part h = subst (λ x. HasOpid x op) (sym part.1) h
part_has w (Some (Flight.Reads list)) op part h = subst (λ x. HasOpid x op) (sym part.1) (h.0, part.2 h.0 h.1, h.2)
part_has w (Some (Flight.Flush c o seq blocking drain)) op part h = subst (λ x. HasOpid x op) (sym part.1) h

module _ (v : GroupView) (call : ℕ) (found : Option Name) (left : Flights) (h : IsWhole v) (is : IsNameBy has_call v.traffic.flights call found)
    (one : (n : Name) → HasOneRead call (fin.get v.traffic.flights n)) (d : IsDroppedIn call v.traffic.flights left) where
  abbrev old : Name → Option Flight
  old n = fin.get v.traffic.flights n

  stays : (n : Name) (op : ℕ) → HasOpid (old n) op → dropped_on call v.traffic.flights found ≢ Some op → HasOpid (fin.get left n) op
  stays n op has ne = subst (λ w. HasOpid w op) (sym (d n)) (by (has_call (old n) call) refl)
    where
      by : (b : Bool) → has_call (old n) call ≡ b → HasOpid (if b then left_at call (old n) else old n) op
      by true waits = stays_in call (old n) op (one n) has (λ e. ne (ap (dropped_on call v.traffic.flights) ((is n).1 waits) ∙ e))
      by false idle = has

  goes_on : (n : Name) (op : ℕ) → HasOpid (fin.get left n) op → (o : Option Name) → found ≡ o → dropped_on call v.traffic.flights o ≡ Some op → ⊥
  goes_on n op has None same e = absurd (cc)
  goes_on n op has (Some m) same e =
      let was = was_of call (old m) op e in
      let there : HasOpid (dropped_at call (old n)) op = subst (λ w. HasOpid w op) (d n) has in
      let name : n ≡ m = h.memory.sound.apart n m op (part_has (old n) (dropped_at call (old n)) op (ends_leave call (old n)) there) was.1 in
      let here : HasOpid (dropped_at call (old m)) op = subst (λ k. HasOpid (dropped_at call (old k)) op) name there in
      goes_from call (old m) op (h.memory.sound.each m).single (subst (λ b. HasOpid (if b then left_at call (old m) else old m) op) was.0 here) e

  one_work : DropsWork call v.traffic.flights left (dropped_on call v.traffic.flights found)
  one_work = record { left = d; stays = stays; goes = λ n op has e. goes_on n op has found refl e }

pub one_work_is_dropped : OneWorkIsDropped
one_work_is_dropped = one_work
