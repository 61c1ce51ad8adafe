-- A call has one read on a name at most, whatever comes and goes.
use Rattle.std.proofs.Common.{◌≡◌, ◌⊎◌, ◌∙◌, sym, ap, refl, subst, ℕ, Bool, true, false, cond, List, [], ◌∷◌, ◌++◌, Option, Some, None, Result, Ok, Err, ◌||◌, ◌==◌, inl, inr, true≢false}
use Rattle.std.specs.Prelude.{if◌then◌else◌, IfOk, OnErr}
use Rattle.std.specs.FinMap as fin
use Rattle.std.proofs.lemmas.Bool.{eq-eqb}
use Rattle.copy_chunk.specs.declared.chunk.Chunk.{Chunk}
use Rattle.copy_chunk.specs.declared.gather.Added.{Added}
use Rattle.obj_model.specs.declared.memory.NoMemory.{NoMemory}
use Rattle.tier_types.specs.Flights.{IsIn}
use Rattle.tier_types.specs.declared.flight.Flight.{Flight}
use Rattle.tier_types.specs.declared.flight.Flight.TheVariants as flight
use Rattle.tier_types.specs.declared.flight.ReadFlight.{ReadFlight}
use Rattle.tier_flight.specs.Changes.{IsFedIn, fed_at, gathered, held_at}
use Rattle.tier_flight.specs.Ends.{FlightMap, is_call, is_other, left_at, others_of, put_left, reads_left}
use Rattle.tier_flight.specs.Joins.{MayJoin, joined}
use Rattle.tier_flight.specs.Numbers.{HasOneRead, HaveOneRead, IsSingle, has_call, reads_call}
use Rattle.tier_flight.proofs.Indexed.{get_here, get_there, same_or_not}

-- ---- one name's work

-- a read that is there waits for its call
called : (list : List ReadFlight) (r : ReadFlight) (k : ℕ) → IsIn r list → r.call ≡ k →
    reads_call k list ≡ true
called [] r k on is = absurd on
called (x ∷ xs) r k (inl one) is =
    ap (λ b. b || reads_call k xs)
    (eq-eqb x.call k (sym (ap (λ (y : ReadFlight). y.call) one) ∙ is))
called (x ∷ xs) r k (inr on) is = or_later (x.call == k) (called xs r k on is)
  where
    or_later : (b : Bool) {c : Bool} → c ≡ true → (b || c) ≡ true
    or_later true e = refl
    or_later false e = e

in_push : (list : List ReadFlight) (last r : ReadFlight) → IsIn r (list ++ last ∷ []) →
    IsIn r list ⊎ (r ≡ last)
in_push [] last r (inl one) = inr one
in_push [] last r (inr on) = absurd on
in_push (x ∷ xs) last r (inl one) = inl (inl one)
in_push (x ∷ xs) last r (inr on) = elim (in_push xs last r on) [
  | inl there ↦ inl (inr there)
  | inr one ↦ inr one
]

-- a read of a call that has none there comes behind them
one_pushed : (call : ℕ) (list : List ReadFlight) (last : ReadFlight) →
    ((k : ℕ) → reads_call k (last ∷ []) ≡ true → reads_call k list ≡ false) →
    HasOneRead call (Some (flight.Reads list)) →
    HasOneRead call (Some (flight.Reads (list ++ last ∷ [])))
one_pushed call list last fresh one r q on there is same =
    by (in_push list last r on) (in_push list last q there)
  where
    none_there : (p : ReadFlight) → IsIn p list → p.call ≡ call → last.call ≡ call → ⊥
    none_there p in_list its mine = true≢false (sym (called list p call in_list its)
        ∙ fresh call (called (last ∷ []) last call (inl refl) mine))

    by : IsIn r list ⊎ (r ≡ last) → IsIn q list ⊎ (q ≡ last) → r ≡ q
    by (inl a) (inl b) = one r q a b is same
    by (inl a) (inr b) = absurd
        (none_there r a is (sym (ap (λ (y : ReadFlight). y.call) b) ∙ same))
    by (inr a) (inl b) = absurd
        (none_there q b same (sym (ap (λ (y : ReadFlight). y.call) a) ∙ is))
    by (inr a) (inr b) = a ∙ sym b

-- work that came
pub one_joined : (call : ℕ) (stood : Option Flight) (work : Flight) → MayJoin stood work →
    IsSingle work → ((k : ℕ) → has_call (Some work) k ≡ true → has_call stood k ≡ false) →
    HasOneRead call stood → HasOneRead call (Some (joined stood work))
one_joined call None (flight.Reads []) may single fresh one = absurd single
one_joined call None (flight.Reads (r ∷ [])) may single fresh one =
    one_pushed call [] r (λ k is. refl) (λ p q on. absurd on)
one_joined call None (flight.Reads (r ∷ (q ∷ rs))) may single fresh one = absurd single
one_joined call None (flight.Promote c o g a) may single fresh one = tt
one_joined call None (flight.Write d w o r) may single fresh one = tt
one_joined call None (flight.Flush c o s b d) may single fresh one = tt
one_joined call (Some (flight.Reads list)) (flight.Reads []) may single fresh one = absurd single
one_joined call (Some (flight.Reads list)) (flight.Reads (r ∷ [])) may single fresh one =
    one_pushed call list r fresh one
one_joined call (Some (flight.Reads list)) (flight.Reads (r ∷ (q ∷ rs))) may single fresh one =
    absurd single
one_joined call (Some (flight.Reads list)) (flight.Promote c o g a) may single fresh one =
    absurd may
one_joined call (Some (flight.Reads list)) (flight.Write d w o r) may single fresh one = absurd may
one_joined call (Some (flight.Reads list)) (flight.Flush c o s b d) may single fresh one =
    absurd may
one_joined call (Some (flight.Promote c o g a)) work may single fresh one = absurd may
one_joined call (Some (flight.Write d w o r)) work may single fresh one = absurd may
one_joined call (Some (flight.Flush c o s b d)) work may single fresh one = absurd may

-- work that a call takes over
pub one_held : (by call : ℕ) (w : Option Flight) → HasOneRead call w →
    HasOneRead call (held_at by w)
one_held by call None one = tt
one_held by call (Some (flight.Promote c o g a)) one = tt
one_held by call (Some (flight.Write d w o r)) one = tt
one_held by call (Some (flight.Reads list)) one = one
one_held by call (Some (flight.Flush c o s b d)) one = tt

-- work that a chunk came for
one_fed : (chunks : List Chunk) (call : ℕ) (w : Option Flight) → HasOneRead call w →
    HasOneRead call (fed_at chunks w)
one_fed chunks call None one = tt
one_fed chunks call (Some (flight.Promote c o g a)) one = tt
one_fed chunks call (Some (flight.Write d w o r)) one = tt
one_fed chunks call (Some (flight.Reads list)) one = one
one_fed chunks call (Some (flight.Flush c o s b d)) one = tt

kept_in : (b : Bool) (r x : ReadFlight) (xs some : List ReadFlight) →
    (IsIn r some → IsIn r xs) → IsIn r (cond b (x ∷ some) some) → IsIn r (x ∷ xs)
kept_in true r x xs some rest (inl one) = inl one
kept_in true r x xs some rest (inr on) = inr (rest on)
kept_in false r x xs some rest on = inr (rest on)

others_in : (ended : ℕ) (list : List ReadFlight) (r : ReadFlight) → IsIn r (others_of ended list) →
    IsIn r list
others_in ended [] r on = on
others_in ended (x ∷ xs) r on =
    kept_in (is_other ended x) r x xs (others_of ended xs) (others_in ended xs r) on

one_left_read : (call : ℕ) (list some : List ReadFlight) →
    ((r : ReadFlight) → IsIn r some → IsIn r list) → HasOneRead call (Some (flight.Reads list)) →
    HasOneRead call (reads_left some)
one_left_read call list [] among one = tt
one_left_read call list (x ∷ xs) among one =
    λ r q on there. one r q (among r on) (among q there)

one_if : (call : ℕ) (f : Flight) (b : Bool) → HasOneRead call (Some f) →
    HasOneRead call (if b then None else Some f)
one_if call f true one = tt
one_if call f false one = one

-- what is left of work when a call ends
pub one_left : (ended call : ℕ) (w : Option Flight) → HasOneRead call w →
    HasOneRead call (left_at ended w)
one_left ended call None one = tt
one_left ended call (Some (flight.Promote c o g a)) one =
    one_if call (flight.Promote c o g a) (c == ended) tt
one_left ended call (Some (flight.Write d w o r)) one = tt
one_left ended call (Some (flight.Reads list)) one =
    one_left_read call list (others_of ended list) (others_in ended list) one
one_left ended call (Some (flight.Flush c o s b d)) one =
    one_if call (flight.Flush c o s b d) (is_call ended c) tt

-- ---- all work

-- one name's work changed
pub one_put : (m new : FlightMap) (n : List ℕ) (left : Option Flight) → new ≡ put_left m n left →
    HaveOneRead m → ((call : ℕ) → HasOneRead call left) → HaveOneRead new
one_put m new n left changed right this call q = elim (same_or_not q n) [
  | inl same ↦ subst (λ (w : Option Flight). HasOneRead call w)
      (sym (ap (fin.get new) same ∙ ap (λ u. fin.get u n) changed ∙ get_here m n left)) (this call)
  | inr other ↦ subst (λ (w : Option Flight). HasOneRead call w)
      (sym (ap (λ u. fin.get u q) changed ∙ get_there m n left q other)) (right call q)
]

-- a chunk changes no read
pub fed_one : (m new : FlightMap) (name : List ℕ) (chunk : Chunk) (r : Result Added NoMemory) →
    HaveOneRead m → IfOk r (λ a. IsFedIn name chunk a m new) → OnErr r (new ≡ m) → HaveOneRead new
fed_one m new name chunk (Ok a) right fed same = one_put m new name _ fed.stays right
    (λ call. one_fed (gathered (fin.get new name)) call (fin.get m name) (right call name))
fed_one m new name chunk (Err e) right fed same = subst HaveOneRead (sym same) right

-- no work has no read
pub no_reads : HaveOneRead (fin.empty {K = List ℕ} {X = Flight} {R = _})
no_reads call q = subst (λ (w : Option Flight). HasOneRead call w) (sym (fin.get-empty _ q)) tt
