-- What is left of work when a call ends: the table of work, and who drives what stands.
use Rattle.std.proofs.Common.{◌≡◌, ◌≢◌, ◌≤◌, ◌⊎◌, inl, inr, ℕ, ◌+◌, ◌==◌, ◌&&◌, ◌||◌, cond, not, Bool, true, false, List, [], ◌∷◌, map, Option, Some, None, refl, sym, ap, subst, ◌∙◌, true≢false, arith}
use Rattle.std.specs.Prelude.{if◌then◌else◌}
use Rattle.std.specs.FinMap as fin
use Rattle.std.specs.List.{AllByRecursion, list_any}
use Rattle.std.proofs.lemmas.Bool.{eq-eqb, eqb-false, eqb-true, ne_eqb}
use Rattle.obj_model.specs.declared.req.Req.{Req}
use Rattle.obj_model.specs.declared.tier.Kind.{Kind}
use Rattle.obj_model.specs.declared.tier.Kind.TheVariants as kind
use Rattle.tier_chron.proofs.Lists.{all_imply}
use Rattle.tier_chron.specs.declared.entries.Logged.{Logged}
use Rattle.tier_flight.specs.Changes.{dropped_at}
use Rattle.tier_flight.specs.Ends.{is_call, is_other, left_at, left_of, others_of, reads_left, without_call}
use Rattle.tier_flight.specs.Numbers.{has_call, reads_call}
use Rattle.tier_flight.proofs.CallEnds.{call_out}
use Rattle.tier_flight.proofs.WorkLaws.{ends_leave}
use Rattle.tier_protocol.specs.Tiers.{Flight, Flights, Name, ReadFlight, AreIn, IsIn}
use Rattle.tier_types.specs.Flights.{HasOpid, IsLeftOf}
use Rattle.tier_view.specs.Answers.{DropsWork, NoMore, gone_some}
use Rattle.tier_view.specs.Calls.{Entry, Flown, IsGoing, IsInFlight, call_in, entry_of}
use Rattle.tier_view.specs.Changes.{ended_in, gone_in}
use Rattle.tier_view.specs.Grows.{Extends, Remains, Stays}
use Rattle.tier_view.specs.Stops.{gone_at, gone_by}
use Rattle.tier_view.specs.Tables.{HasCome, IsDriven, IsListed, IsOfKind, IsTimed, IsUnanswered, SoundFlights, SoundFlown}
use Rattle.tier_view.specs.Traffic.{Begun}
use Rattle.tier_view.specs.Views.{calls_in}
use Rattle.tier_view.proofs.Answering.{found_stays}
use Rattle.tier_view.proofs.Growth.{entry_stays}
use Rattle.tier_view.proofs.Resting.{stays_itself}

-- ---- the table of calls, where one is over

abbrev over_if : Bool → Entry → Entry
over_if b e = if b then record e { ended = true } else e

pub same_calls : (call : ℕ) (es : List Entry) → calls_in (ended_in call es) ≡ calls_in es
same_calls call [] = refl
same_calls call (e ∷ es) = ap (λ cs. call_in (over_if (e.number == call) e) ∷ cs) (same_calls call es) ∙ ap (λ c. c ∷ calls_in es) (one (e.number == call))
  where
    one : (b : Bool) → call_in (over_if b e) ≡ call_in e
    one true = refl
    one false = refl

pub entries_end : (call : ℕ) (es : List Entry) → Extends Stays NoMore es (ended_in call es)
entries_end call [] = refl
entries_end call (e ∷ es) = (one (e.number == call), entries_end call es)
  where
    one : (b : Bool) → Stays e (over_if b e)
    one true = record { number = refl; line = refl; asked = refl; epoch = refl; begin = refl; adopted = λ h. h; ended = λ h. refl }
    one false = stays_itself e

-- other calls stay in flight
going_step : (call n : ℕ) (e : Entry) (es : List Entry) → n ≢ call → (IsInFlight es n → IsInFlight (ended_in call es) n) → IsInFlight (e ∷ es) n → IsInFlight (ended_in call (e ∷ es)) n
going_step call n e es other rest h = by (e.number == call) refl
  where
    same_or : (b : Bool) → IsGoing (cond b (Some e) (entry_of es n)) → IsGoing (cond b (Some e) (entry_of (ended_in call es) n))
    same_or true k = k
    same_or false k = rest k

    by : (b : Bool) → (e.number == call) ≡ b → IsGoing (cond ((over_if b e).number == n) (Some (over_if b e)) (entry_of (ended_in call es) n))
    by true same =
        let no : (e.number == n) ≡ false = ne_eqb e.number n (λ is. other (sym is ∙ eqb-true e.number call same)) in
        subst (λ c. IsGoing (cond c (Some (record e { ended = true })) (entry_of (ended_in call es) n))) (sym no) (rest (subst (λ c. IsGoing (cond c (Some e) (entry_of es n))) no h))
    by false other = same_or (e.number == n) h

pub going_still : (call n : ℕ) (es : List Entry) → n ≢ call → IsInFlight es n → IsInFlight (ended_in call es) n
going_still call n [] other h = absurd h
going_still call n (e ∷ es) other h = going_step call n e es other (going_still call n es other) h

pub known_still : (call n : ℕ) (es : List Entry) → entry_of es n ≢ None → entry_of (ended_in call es) n ≢ None
known_still call n es = found_stays (entry_of es n) (entry_of (ended_in call es) n) (entry_stays NoMore es (ended_in call es) (entries_end call es) n)

-- no call that goes on is that of the answer
pub none_answered : (call : ℕ) (l : Logged) → l.call ≡ call → (es : List Entry) → AllByRecursion (λ e. e.ended ≡ false → IsUnanswered e.number (l ∷ [])) (ended_in call es)
none_answered call l own [] = tt
none_answered call l own (e ∷ es) = (by (e.number == call) refl, none_answered call l own es)
  where
    by : (b : Bool) → (e.number == call) ≡ b → (over_if b e).ended ≡ false → IsUnanswered (over_if b e).number (l ∷ [])
    by true same going = absurd (true≢false going)
    by false other going = (λ is. eqb-false e.number call other (sym is ∙ own), tt)

-- ---- the table of work, where some has gone

remains_gone : (now later : ℕ) (f : Flown) → now ≤ later → Remains now later f (gone_at now f)
remains_gone now later f le = record { call = refl; kind = refl; name = refl; opid = refl; came = refl; went = by f.went }
  where
    by : (o : Option ℕ) → (gone_by now o ≡ o) ⊎ ((o ≡ None) × ((at : ℕ) × (gone_by now o ≡ Some at) × (now ≤ at) × (at ≤ later)))
    by None = inr (refl, (now, refl, omega arith, le))
    by (Some at) = inl refl

remains_still : (now later : ℕ) (f : Flown) → Remains now later f f
remains_still now later f = record { call = refl; kind = refl; name = refl; opid = refl; came = refl; went = inl refl }

pub flown_goes : (now later : ℕ) (o : Option ℕ) (fs : List Flown) → now ≤ later → Extends (Remains now later) NoMore fs (gone_some now o fs)
flown_goes now later None [] le = refl
flown_goes now later None (f ∷ fs) le = (remains_still now later f, flown_goes now later None fs le)
flown_goes now later (Some op) [] le = refl
flown_goes now later (Some op) (f ∷ fs) le = (one (f.opid == op), flown_goes now later (Some op) fs le)
  where
    one : (b : Bool) → Remains now later f (if b then gone_at now f else f)
    one true = remains_gone now later f le
    one false = remains_still now later f

in_map : {X : Type 0} (g : X → X) (x : X) (xs : List X) → IsIn x xs → IsIn (g x) (map g xs)
in_map g x [] on = absurd on
in_map g x (y ∷ ys) (inl is) = inl (ap g is)
in_map g x (y ∷ ys) (inr on) = inr (in_map g x ys on)

abbrev goes_if : (now : ℕ) → Bool → Flown → Flown
goes_if now b f = if b then gone_at now f else f

-- what came and has not gone, of another number
pub come_still : (now : ℕ) (o : Option ℕ) (fs : List Flown) (k : Kind) (n : Name) (op : ℕ) (by : Flown → Type 0) → o ≢ Some op → HasCome fs k n op by → HasCome (gone_some now o fs) k n op by
come_still now None fs k n op by ne h = h
come_still now (Some p) fs k n op by ne h = record {
  entry = h.entry;
  on = subst (λ f. IsIn f (gone_in now p fs)) (ap (λ b. goes_if now b h.entry) (ne_eqb h.entry.opid p (λ is. ne (ap Some (sym is ∙ h.standing.opid)))))
      (in_map (λ f. goes_if now (f.opid == p) f) h.entry fs h.on);
  standing = h.standing;
  whose = h.whose;
}

timed_later : (count later came : ℕ) (o : Option ℕ) → count ≤ later → IsTimed count came o → IsTimed later came o
timed_later count later came None le h = omega (arith, h, le)
timed_later count later came (Some at) le h = (h.0, omega (arith, h.1, le))

timed_gone : (count later came : ℕ) (o : Option ℕ) → count ≤ later → IsTimed count came o → IsTimed later came (gone_by count o)
timed_gone count later came None le h = (h, le)
timed_gone count later came (Some at) le h = (h.0, omega (arith, h.1, le))

none_stands : (count : ℕ) (o : Option ℕ) → gone_by count o ≡ None → ⊥
none_stands count None e = absurd (cc)
none_stands count (Some at) e = absurd (cc)

module _ (es fs : List Entry) (flights left : Flights) (count later : ℕ) (o : Option ℕ) (le : count ≤ later) (known : (n : ℕ) → entry_of es n ≢ None → entry_of fs n ≢ None)
    (kept : (n : Name) (k : Kind) (op : ℕ) → o ≢ Some op → IsOfKind (fin.get flights n) k op → IsOfKind (fin.get left n) k op) where
  sound_still : (f : Flown) → o ≢ Some f.opid → SoundFlown es flights count f → SoundFlown fs left later f
  sound_still f ne h = record { known = known f.call h.known; timed = timed_later count later f.came f.went le h.timed; stands = λ there. kept f.name f.kind f.opid ne (h.stands there) }

  sound_gone : (f : Flown) → SoundFlown es flights count f → SoundFlown fs left later (gone_at count f)
  sound_gone f h = record { known = known f.call h.known; timed = timed_gone count later f.came f.went le h.timed; stands = λ there. absurd (none_stands count f.went there) }

  one_sound : (f : Flown) (p : ℕ) → o ≡ Some p → (b : Bool) → (f.opid == p) ≡ b → SoundFlown es flights count f → SoundFlown fs left later (goes_if count b f)
  one_sound f p is true same h = sound_gone f h
  one_sound f p is false other h = sound_still f (λ e. eqb-false f.opid p other (one_number (sym e ∙ is))) h
    where
      one_number : {a b : ℕ} → Some a ≡ Some b → a ≡ b
      one_number e = cc

  table_by : (p : Option ℕ) → o ≡ p → (gs : List Flown) → AllByRecursion (SoundFlown es flights count) gs → AllByRecursion (SoundFlown fs left later) (gone_some count p gs)
  table_by None none gs h = all_imply (SoundFlown es flights count) (SoundFlown fs left later) (λ f k. sound_still f (λ e. let no : None ≡ Some f.opid = sym none ∙ e in absurd (cc)) k) gs h
  table_by (Some p) is [] h = tt
  table_by (Some p) is (f ∷ gs) h = (one_sound f p is (f.opid == p) refl h.0, table_by (Some p) is gs h.1)

  pub table_left : (gs : List Flown) → AllByRecursion (SoundFlown es flights count) gs → AllByRecursion (SoundFlown fs left later) (gone_some count o gs)
  table_left gs h = table_by o refl gs h

-- ---- work by its kind and number

pub of_number : (w : Option Flight) (k : Kind) (op : ℕ) → IsOfKind w k op → HasOpid w op
of_number None kind.Promote op h = absurd h
of_number None kind.Write op h = absurd h
of_number None kind.Read op h = absurd h
of_number None kind.Flush op h = absurd h
of_number (Some (Flight.Promote call o gather ask)) kind.Promote op h = sym h
of_number (Some (Flight.Promote call o gather ask)) kind.Write op h = absurd h
of_number (Some (Flight.Promote call o gather ask)) kind.Read op h = absurd h
of_number (Some (Flight.Promote call o gather ask)) kind.Flush op h = absurd h
of_number (Some (Flight.Write driver owner o r)) kind.Promote op h = absurd h
of_number (Some (Flight.Write driver owner o r)) kind.Write op h = sym h
of_number (Some (Flight.Write driver owner o r)) kind.Read op h = absurd h
of_number (Some (Flight.Write driver owner o r)) kind.Flush op h = absurd h
of_number (Some (Flight.Reads list)) kind.Promote op h = absurd h
of_number (Some (Flight.Reads list)) kind.Write op h = absurd h
of_number (Some (Flight.Reads list)) kind.Read op h = (h.0, h.1, sym h.2)
of_number (Some (Flight.Reads list)) kind.Flush op h = absurd h
of_number (Some (Flight.Flush call o seq blocking drain)) kind.Promote op h = absurd h
of_number (Some (Flight.Flush call o seq blocking drain)) kind.Write op h = absurd h
of_number (Some (Flight.Flush call o seq blocking drain)) kind.Read op h = absurd h
of_number (Some (Flight.Flush call o seq blocking drain)) kind.Flush op h = sym h

-- what is left of work is of its kind
still_write : (was driver : Option ℕ) (owner o : ℕ) (r : Req) (j : Kind) (op : ℕ) → IsOfKind (Some (Flight.Write was owner o r)) j op → IsOfKind (Some (Flight.Write driver owner o r)) j op
still_write was driver owner o r kind.Promote op x = absurd x
still_write was driver owner o r kind.Write op x = x
still_write was driver owner o r kind.Read op x = absurd x
still_write was driver owner o r kind.Flush op x = absurd x

still_reads : (was list : List ReadFlight) (j : Kind) (op : ℕ) → HasOpid (Some (Flight.Reads list)) op → IsOfKind (Some (Flight.Reads was)) j op → IsOfKind (Some (Flight.Reads list)) j op
still_reads was list kind.Promote op has x = absurd x
still_reads was list kind.Write op has x = absurd x
still_reads was list kind.Read op has x = (has.0, has.1, sym has.2)
still_reads was list kind.Flush op has x = absurd x

still_flush : (was call : Option ℕ) (o seq : ℕ) (blocking drain : Bool) (j : Kind) (op : ℕ) → IsOfKind (Some (Flight.Flush was o seq blocking drain)) j op → IsOfKind (Some (Flight.Flush call o seq blocking drain)) j op
still_flush was call o seq blocking drain kind.Promote op x = absurd x
still_flush was call o seq blocking drain kind.Write op x = absurd x
still_flush was call o seq blocking drain kind.Read op x = absurd x
still_flush was call o seq blocking drain kind.Flush op x = x

pub still_of : (w left : Option Flight) (k : Kind) (op : ℕ) → IsLeftOf w left → HasOpid left op → IsOfKind w k op → IsOfKind left k op
still_of w None k op part has h = absurd has
still_of w (Some (Flight.Promote call o gather ask)) k op part has h = subst (λ x. IsOfKind x k op) part h
still_of w (Some (Flight.Write driver owner o r)) k op part has h = still_write part.0 driver owner o r k op (subst (λ x. IsOfKind x k op) part.1 h)
still_of w (Some (Flight.Reads list)) k op part has h = still_reads part.0 list k op has (subst (λ x. IsOfKind x k op) part.1 h)
still_of w (Some (Flight.Flush call o seq blocking drain)) k op part has h = still_flush part.0 call o seq blocking drain k op (subst (λ x. IsOfKind x k op) part.1 h)

-- ---- who drives what stands

abbrev Part : List Entry → List Flown → List Begun → ℕ → Name → Option Flight → Type 0
Part es flown begun epoch n None = Unit {0}
Part es flown begun epoch n (Some f) = IsListed es flown begun epoch n f

or_second : (a b : Bool) → b ≡ true → (a || b) ≡ true
or_second true b e = refl
or_second false b e = e

pub calls_on : (k : ℕ) (list : List ReadFlight) (r : ReadFlight) → IsIn r list → r.call ≡ k → reads_call k list ≡ true
calls_on k [] r on is = absurd on
calls_on k (q ∷ qs) r (inl same) is = ap (λ b. b || reads_call k qs) (eq-eqb q.call k (sym (ap (λ x. x.call) same) ∙ is))
calls_on k (q ∷ qs) r (inr on) is = or_second (q.call == k) (reads_call k qs) (calls_on k qs r on is)

in_cond : (b : Bool) (r q : ReadFlight) (some all : List ReadFlight) → (IsIn r some → IsIn r all) → IsIn r (cond b (q ∷ some) some) → IsIn r (q ∷ all)
in_cond true r q some all more (inl is) = inl is
in_cond true r q some all more (inr there) = inr (more there)
in_cond false r q some all more there = inr (more there)

others_in : (call : ℕ) (list : List ReadFlight) → AreIn (others_of call list) list
others_in call [] r on = absurd on
others_in call (q ∷ qs) r on = in_cond (is_other call q) r q (others_of call qs) qs (others_in call qs r) on

-- work stays listed where its calls stay in flight, and what came of it has not gone
pub listed_still : (es fs : List Entry) (flown gone : List Flown) (begun : List Begun) (epoch : ℕ) (n : Name) (f : Flight)
    → ((c : ℕ) → has_call (Some f) c ≡ true → IsInFlight es c → IsInFlight fs c)
    → ((k : Kind) (op : ℕ) (by : Flown → Type 0) → HasOpid (Some f) op → HasCome flown k n op by → HasCome gone k n op by)
    → IsListed es flown begun epoch n f → IsListed fs gone begun epoch n f
listed_still es fs flown gone begun epoch n (Flight.Promote call op gather ask) drives comes h = (drives call (eq-eqb call call refl) h.0, comes kind.Promote op _ refl h.1)
listed_still es fs flown gone begun epoch n (Flight.Write None owner op r) drives comes h = (tt, comes kind.Write op _ refl h.1)
listed_still es fs flown gone begun epoch n (Flight.Write (Some d) owner op r) drives comes h = (drives d (eq-eqb d d refl) h.0, comes kind.Write op _ refl h.1)
listed_still es fs flown gone begun epoch n (Flight.Reads list) drives comes h =
    λ r on. (drives r.call (calls_on r.call list r on refl) (h r on).0, comes kind.Read r.opid _ (r, on, refl) (h r on).1)
listed_still es fs flown gone begun epoch n (Flight.Flush None op seq blocking drain) drives comes h = (tt, h.1, comes kind.Flush op _ refl h.2)
listed_still es fs flown gone begun epoch n (Flight.Flush (Some c) op seq blocking drain) drives comes h = (drives c (eq-eqb c c refl) h.0, tt, comes kind.Flush op _ refl h.2)

module _ (call : ℕ) (es : List Entry) (flown : List Flown) (begun : List Begun) (epoch : ℕ) (n : Name) where
  abbrev P : Option Flight → Type 0
  P = Part es flown begun epoch n

  part_if : (b : Bool) (f : Flight) (left : Option Flight) → P left → P (Some f) → P (if b then left else Some f)
  part_if true f left h k = h
  part_if false f left h k = k

  part_reads : (xs all : List ReadFlight) → AreIn xs all → P (Some (Flight.Reads all)) → P (reads_left xs)
  part_reads [] all within h = tt
  part_reads (r ∷ rs) all within h = λ q on. h q (within q on)

  part_driven : (o : Option ℕ) → IsDriven es o → IsDriven es (without_call call o)
  part_driven None h = tt
  part_driven (Some d) h = by (d == call)
    where
      by : (b : Bool) → IsDriven es (if b then None else Some d)
      by true = tt
      by false = h

  part_of : (f : Flight) → P (Some f) → P (left_of call f)
  part_of (Flight.Promote c op gather ask) h = part_if (c == call) (Flight.Promote c op gather ask) None tt h
  part_of (Flight.Write driver owner op r) h = (part_driven driver h.0, h.1)
  part_of (Flight.Reads list) h = part_reads (others_of call list) list (others_in call list) h
  part_of (Flight.Flush c op seq blocking drain) h = part_if (is_call call c) (Flight.Flush c op seq blocking drain) None tt h

  pub part_dropped : (w : Option Flight) → ((f : Flight) → w ≡ Some f → IsListed es flown begun epoch n f) → P (dropped_at call w)
  part_dropped None h = tt
  part_dropped (Some f) h = part_if (has_call (Some f) call) f (left_of call f) (part_of f (h f refl)) (h f refl)

-- no work that is left waits for the call
pub not_waiting : (call : ℕ) (w : Option Flight) → has_call (dropped_at call w) call ≡ false
not_waiting call w = by (has_call w call) refl
  where
    gone : (b : Bool) → true ≡ (true && not b) → b ≡ false
    gone true e = absurd (true≢false e)
    gone false e = refl

    by : (b : Bool) → has_call w call ≡ b → has_call (if b then left_at call w else w) call ≡ false
    by true waits = gone (has_call (left_at call w) call)
        (sym (eq-eqb call call refl) ∙ call_out call w call waits ∙ ap (λ b. b && not (has_call (left_at call w) call)) waits)
    by false idle = idle

-- ---- all of it

pub flights_left : (call : ℕ) (es : List Entry) (flown : List Flown) (flights left : Flights) (begun : List Begun) (epoch count later : ℕ) (o : Option ℕ) → count ≤ later → DropsWork call flights left o
    → SoundFlights es flown flights begun epoch count → SoundFlights (ended_in call es) (gone_some count o flown) left begun epoch later
flights_left call es flown flights left begun epoch count later o le d h = record {
  listed = λ n f is.
      let whole : IsListed es flown begun epoch n f = subst (Part es flown begun epoch n) (sym (d.left n) ∙ is) (part_dropped call es flown begun epoch n (fin.get flights n) (h.listed n)) in
      let idle : has_call (Some f) call ≡ false = subst (λ w. has_call w call ≡ false) (sym (d.left n) ∙ is) (not_waiting call (fin.get flights n)) in
      listed_still es (ended_in call es) flown (gone_some count o flown) begun epoch n f
      (λ c waits going. going_still call c es (λ same. true≢false (sym waits ∙ ap (has_call (Some f)) same ∙ idle)) going)
      (λ k op by has come. come_still count o flown k n op by (d.goes n op (subst (λ w. HasOpid w op) (sym is) has)) come)
      whole;
  table = table_left es (ended_in call es) flights left count later o le (λ n. known_still call n es)
      (λ n k op ne of. still_of (fin.get flights n) (fin.get left n) k op (subst (IsLeftOf (fin.get flights n)) (sym (d.left n)) (ends_leave call (fin.get flights n)))
      (d.stays n op (of_number (fin.get flights n) k op of) ne) of)
      flown h.table;
}
