-- The numbers that are left when a call ends, and those that come.
use Rattle.std.proofs.Common.{rules, ◌≡◌, ◌∙◌, sym, ap, refl, ℕ, Bool, true, false, cond, List, [], ◌∷◌, Option, Some, None, not, ◌&&◌, ◌||◌, ◌==◌}
use Rattle.std.specs.Prelude.{filter}
use Rattle.std.specs.List.{list_any}
use Rattle.std.proofs.lemmas.List.Folds.{list_any-append}
use Rattle.tier_types.specs.declared.flight.Flight.{Flight}
use Rattle.tier_types.specs.declared.flight.Flight.TheVariants as flight
use Rattle.tier_types.specs.declared.flight.ReadFlight.{ReadFlight}
use Rattle.tier_flight.specs.Ends.{is_other, others_of, reads_left}
use Rattle.tier_flight.specs.Indexes.{ends_opid, ends_reads, other_opid}
use Rattle.tier_flight.specs.Joins.{MayJoin, joined}
use Rattle.tier_flight.specs.Numbers.{has_call, has_opid, reads_opid}

kept_first : {X : Type 0} (test : X → Bool) (b : Bool) (x : X) (xs : List X) (rest : Bool) →
    rest ≡ list_any test xs → ((b && test x) || rest) ≡ list_any test (cond b (x ∷ xs) xs)
kept_first test true x xs rest e = ap (λ r. test x || r) e
kept_first test false x xs rest e = e

-- a test of those that a filter keeps
pub any_kept : {X : Type 0} (keep test : X → Bool) (xs : List X) →
    list_any (λ x. keep x && test x) xs ≡ list_any test (filter keep xs)
any_kept keep test [] = refl
any_kept keep test (x ∷ xs) = kept_first test (keep x) x (filter keep xs)
    (list_any (λ y. keep y && test y) xs) (any_kept keep test xs)

split_first : (a b p o r : Bool) → r ≡ (p || o) →
    (b || r) ≡ (((a && b) || p) || ((not a && b) || o))
split_first true true p o r e = refl
split_first false true true o r e = refl
split_first false true false o r e = refl
split_first true false p o r e = e
split_first false false p o r e = e

-- what passes a test passes another too, or not
pub any_split : {X : Type 0} (a b : X → Bool) (xs : List X) →
    list_any b xs ≡ (list_any (λ x. a x && b x) xs || list_any (λ x. not (a x) && b x) xs)
any_split a b [] = refl
any_split a b (x ∷ xs) = split_first (a x) (b x) (list_any (λ y. a y && b y) xs)
    (list_any (λ y. not (a y) && b y) xs) (list_any b xs) (any_split a b xs)

const_first : (a b c p r : Bool) → r ≡ (p && c) → ((a && (b && c)) || r) ≡ (((a && b) || p) && c)
const_first true true true p r e = refl
const_first true true false true r e = e
const_first true true false false r e = e
const_first true false c p r e = e
const_first false b c p r e = e

-- a test beside one that is the same for all
pub any_const : {X : Type 0} (a b : X → Bool) (c : Bool) (xs : List X) →
    list_any (λ x. a x && (b x && c)) xs ≡ (list_any (λ x. a x && b x) xs && c)
any_const a b c [] = refl
any_const a b c (x ∷ xs) = const_first (a x) (b x) c (list_any (λ y. a y && b y) xs)
    (list_any (λ y. a y && (b y && c)) xs) (any_const a b c xs)

without_others : (p o r : Bool) → r ≡ (p || o) → (p && not o) ≡ (r && not o)
without_others true o r e = ap (λ b. b && not o) (sym e)
without_others false true r e = ap (λ b. b && false) (sym e)
without_others false false r e = ap (λ b. b && true) (sym e)

at_equal : (f : ℕ → Bool) (x k : ℕ) → ((x == k) && f x) ≡ ((x == k) && f k)
at_equal f x k = by (x == k) refl
  where
    by : (b : Bool) → (x == k) ≡ b → (b && f x) ≡ (b && f k)
    by true e = let same : x ≡ k = search (rules, e) in ap f same
    by false e = refl

-- the reads that are left have these operations
pub left_opid : (k : ℕ) (xs : List ReadFlight) → has_opid (reads_left xs) k ≡ reads_opid k xs
left_opid k [] = refl
left_opid k (r ∷ rs) = refl

-- the reads of other calls, in both ways to say it
other_is : (call k : ℕ) (list : List ReadFlight) →
    other_opid call list k ≡ has_opid (reads_left (others_of call list)) k
other_is call k list = any_kept (is_other call) (λ r. r.opid == k) list
    ∙ sym (left_opid k (others_of call list))

-- the operations of reads that a call's end ends
pub reads_end : (call : ℕ) (list : List ReadFlight) (k : ℕ) →
    ends_reads call list list k ≡ ends_opid call (Some (flight.Reads list)) k
reads_end call list k =
    (λ i. list_any
    (λ (r : ReadFlight). (r.call == call) && at_equal (λ o. not (other_opid call list o)) r.opid
    k i) list)
    ∙ any_const (λ (r : ReadFlight). r.call == call) (λ (r : ReadFlight). r.opid == k)
    (not (other_opid call list k)) list
    ∙ without_others (list_any (λ (r : ReadFlight). (r.call == call) && (r.opid == k)) list)
    (other_opid call list k) (reads_opid k list)
    (any_split (λ (r : ReadFlight). r.call == call) (λ (r : ReadFlight). r.opid == k) list)
    ∙ ap (λ b. reads_opid k list && not b) (other_is call k list)

-- ---- work that joins

-- the operations of work to which other work came
pub joined_opid : (stood : Option Flight) (work : Flight) → MayJoin stood work → (k : ℕ) →
    has_opid (Some (joined stood work)) k ≡ (has_opid stood k || has_opid (Some work) k)
joined_opid None work m k = refl
joined_opid (Some (flight.Reads list)) (flight.Reads more) m k =
    list_any-append (λ (r : ReadFlight). r.opid == k) list more
joined_opid (Some (flight.Reads list)) (flight.Promote c o g a) m k = absurd m
joined_opid (Some (flight.Reads list)) (flight.Write d w o r) m k = absurd m
joined_opid (Some (flight.Reads list)) (flight.Flush c o s b d) m k = absurd m
joined_opid (Some (flight.Promote c o g a)) work m k = absurd m
joined_opid (Some (flight.Write d w o r)) work m k = absurd m
joined_opid (Some (flight.Flush c o s b d)) work m k = absurd m

-- its calls
pub joined_call : (stood : Option Flight) (work : Flight) → MayJoin stood work → (k : ℕ) →
    has_call (Some (joined stood work)) k ≡ (has_call stood k || has_call (Some work) k)
joined_call None work m k = refl
joined_call (Some (flight.Reads list)) (flight.Reads more) m k =
    list_any-append (λ (r : ReadFlight). r.call == k) list more
joined_call (Some (flight.Reads list)) (flight.Promote c o g a) m k = absurd m
joined_call (Some (flight.Reads list)) (flight.Write d w o r) m k = absurd m
joined_call (Some (flight.Reads list)) (flight.Flush c o s b d) m k = absurd m
joined_call (Some (flight.Promote c o g a)) work m k = absurd m
joined_call (Some (flight.Write d w o r)) work m k = absurd m
joined_call (Some (flight.Flush c o s b d)) work m k = absurd m
