-- How many works pass a test, where the work on one name changes.
use Rattle.std.proofs.Common.{◌≡◌, ◌≢◌, ℕ, ◌+◌, ◌<◌, ◌≤◌, ◌^◌, Bool, true, false, true≢false, cond, List, [], ◌∷◌, ◌++◌, Option, Some, None, ◌-◌, ◌==◌, ◌⊎◌, inl, inr, refl, sym, ap, subst, ◌∙◌, arith}
use Rattle.std.specs.Prelude.{IfOk, OnErr, Result, Ok, Err, if◌then◌else◌}
use mir.Val.{bool_byte}
use Rattle.std.specs.List.{count_by}
use Rattle.std.specs.FinMap as fin
use Rattle.std.specs.FinMap.{same_map, slice_cmp-IsAntisymmetric, nat_cmp-IsAntisymmetric}
use Rattle.std.specs.Cmp.Lexicographic.{nat_list_cmp_total}
use Rattle.std.proofs.lemmas.List.Sums.{count_by-le-length, sum_by-append, sum_by-cons}
use Rattle.copy_chunk.specs.declared.chunk.Chunk.{Chunk}
use Rattle.copy_chunk.specs.declared.gather.Added.{Added}
use Rattle.obj_model.specs.Names.{name_cmp}
use Rattle.tier_flight.specs.Changes.{IsDroppedIn, IsFedIn, IsTakenIn, IsUnheld, fed_at, gathered, held_at}
use Rattle.tier_flight.specs.Ends.{FlightMap, is_call, left_at, others_of, put_left, reads_left}
use Rattle.tier_flight.specs.Joins.{IsJoinedIn, MayJoin, joined}
use Rattle.tier_flight.specs.Numbers.{IsNameBy, has_call}
use Rattle.tier_flight.proofs.Indexed.{get_here, get_there, same_or_not}
use Rattle.tier_types.specs.declared.flight.Ask.{Ask}
use Rattle.tier_types.specs.declared.flight.Flight.{Flight}
use Rattle.tier_types.specs.declared.flight.Flight.TheVariants as flight
use Rattle.tier_types.specs.declared.flight.ReadFlight.{ReadFlight}
use Rattle.tier_view.proofs.LocalPlaces.{Place, none_found, place, put_anew}
use Rattle.tier_traffic.specs.Left.{AreCounted, Drives, drives_on, is_driven, is_left, left_writes, passes, works_by}

abbrev Name : Type 0
Name = List ℕ

abbrev one_if : Bool → ℕ
one_if b = cond b 1 0

-- the weight of a name's work: 1 where it passes the test
abbrev pub weight : (Flight → Bool) → Option Flight → ℕ
weight test o = cond (passes test o) 1 0

same_flights : (m n : FlightMap) → ((k : Name) → fin.get m k ≡ fin.get n k) → m ≡ n
same_flights m n same = same_map nat_list_cmp_total (slice_cmp-IsAntisymmetric nat_cmp-IsAntisymmetric) m n same

-- a map with what it has is the same
put_same : (m : FlightMap) (k : Name) → put_left m k (fin.get m k) ≡ m
put_same m k = same_flights (put_left m k (fin.get m k)) m (λ n. by n (same_or_not n k))
  where
    by : (n : Name) → (n ≡ k) ⊎ (n ≢ k) → fin.get (put_left m k (fin.get m k)) n ≡ fin.get m n
    by n (inl same) = subst (λ j. fin.get (put_left m k (fin.get m k)) j ≡ fin.get m j) (sym same) (get_here m k (fin.get m k))
    by n (inr other) = get_there m k (fin.get m k) n other

module _ (test : Flight → Bool) (m : FlightMap) (k : Name) where
  abbrev one : Name × Flight → ℕ
  one e = cond (test e.1) 1 0

  abbrev P : Place k (fin.entries (fin.remove m k))
  P = place k (fin.entries (fin.remove m k)) (none_found m k)

  abbrev rest : ℕ
  rest = count_by (λ e. test e.1) P.before + count_by (λ e. test e.1) P.behind

  parts : (v : Option Flight) → works_by test (put_left m k v) ≡ weight test v + rest
  parts None = omega (arith, ap (count_by (λ e. test e.1)) P.is, sum_by-append one P.before P.behind)
  parts (Some x) =
      let all : works_by test (fin.insert m k x) ≡ count_by (λ e. test e.1) (P.before ++ (k, x) ∷ P.behind) =
      ap (works_by test) (put_anew m k x) ∙ ap (count_by (λ e. test e.1)) (fin.entries-insert nat_list_cmp_total (fin.remove m k) k x ∙ P.there x) in
      omega (arith, all, sum_by-append one P.before ((k, x) ∷ P.behind), sum_by-cons one (k, x) P.behind)

  -- the work on one name gives place to another, or to none
  pub counted_put : (v : Option Flight) → works_by test (put_left m k v) + weight test (fin.get m k) ≡ works_by test m + weight test v
  counted_put v = omega (arith, parts v, parts (fin.get m k), ap (works_by test) (put_same m k))

-- ---- what passes

-- it is driven, or left, or neither
pub one_kind : (f : Flight) → cond (is_driven f) 1 0 + cond (is_left f) 1 0 ≤ 1
one_kind (flight.Write None owner opid req) = omega arith
one_kind (flight.Write (Some call) owner opid req) = omega arith
one_kind (flight.Promote call opid gather ask) = omega arith
one_kind (flight.Reads list) = omega arith
one_kind (flight.Flush call opid seq blocking drain) = omega arith

-- ---- work comes

module _ (test : Flight → Bool) (reads : (list : List ReadFlight) → test (flight.Reads list) ≡ false) where
  joins : (old : Option Flight) (work : Flight) → MayJoin old work → weight test (Some (joined old work)) ≡ weight test old + weight test (Some work)
  joins None work h = omega arith
  joins (Some (flight.Reads list)) (flight.Reads more) h =
      omega (arith, ap one_if (reads list), ap one_if (reads more), ap one_if (reads (list ++ more)))
  joins (Some (flight.Reads list)) (flight.Promote call opid gather ask) h = absurd h
  joins (Some (flight.Reads list)) (flight.Write driver owner opid req) h = absurd h
  joins (Some (flight.Reads list)) (flight.Flush call opid seq blocking drain) h = absurd h
  joins (Some (flight.Promote call opid gather ask)) work h = absurd h
  joins (Some (flight.Write driver owner opid req)) work h = absurd h
  joins (Some (flight.Flush call opid seq blocking drain)) work h = absurd h

  counted_joined : (m after : FlightMap) (k : Name) (work : Flight) → MayJoin (fin.get m k) work → IsJoinedIn k work m after
      → works_by test after ≡ works_by test m + weight test (Some work)
  counted_joined m after k work may is =
      omega (arith, ap (works_by test) is, counted_put test m k (Some (joined (fin.get m k) work)), joins (fin.get m k) work may)

pub add_counts : (driven left : ℕ) (m after : FlightMap) (k : Name) (work : Flight) → AreCounted driven left m → driven + left ≢ 2 ^ 64 - 1
    → MayJoin (fin.get m k) work → IsJoinedIn k work m after → AreCounted (driven + cond (is_driven work) 1 0) (left + cond (is_left work) 1 0) after
add_counts driven left m after k work h room may is = record {
  driven_is = omega (arith, h.driven_is, counted_joined is_driven (λ list. refl) m after k work may is);
  left_is = omega (arith, h.left_is, counted_joined is_left (λ list. refl) m after k work may is);
  few = omega (arith, h.few, room, one_kind work);
}

-- ---- work goes

pub remove_counts : (driven left : ℕ) (m after : FlightMap) (k : Name) → AreCounted driven left m → after ≡ fin.remove m k
    → AreCounted (driven - weight is_driven (fin.get m k)) (left - weight is_left (fin.get m k)) after
    × (weight is_driven (fin.get m k) ≤ driven) × (weight is_left (fin.get m k) ≤ left)
remove_counts driven left m after k h is =
    let d : works_by is_driven (fin.remove m k) + weight is_driven (fin.get m k) ≡ works_by is_driven m + 0 = counted_put is_driven m k None in
    let l : works_by is_left (fin.remove m k) + weight is_left (fin.get m k) ≡ works_by is_left m + 0 = counted_put is_left m k None in (
      record {
        driven_is = omega (arith, h.driven_is, d, ap (works_by is_driven) is);
        left_is = omega (arith, h.left_is, l, ap (works_by is_left) is);
        few = omega (arith, h.few);
      },
      omega (arith, h.driven_is, d),
      omega (arith, h.left_is, l),
    )

-- ---- work is fed

feeds : (test : Flight → Bool) → ((call opid : ℕ) (g : List Chunk) (ask : Ask) → test (flight.Promote call opid g ask) ≡ false)
    → (chunks : List Chunk) (o : Option Flight) → weight test (fed_at chunks o) ≡ weight test o
feeds test promotes chunks None = refl
feeds test promotes chunks (Some (flight.Promote call opid g ask)) =
    ap one_if (promotes call opid chunks ask) ∙ sym (ap one_if (promotes call opid g ask))
feeds test promotes chunks (Some (flight.Write driver owner opid req)) = refl
feeds test promotes chunks (Some (flight.Reads list)) = refl
feeds test promotes chunks (Some (flight.Flush call opid seq blocking drain)) = refl

pub feed_counts : (driven left : ℕ) (m after : FlightMap) (k : Name) (chunks : List Chunk) → AreCounted driven left m
    → after ≡ put_left m k (fed_at chunks (fin.get m k)) → AreCounted driven left after
feed_counts driven left m after k chunks h is = record {
  driven_is = omega (arith, h.driven_is, ap (works_by is_driven) is, counted_put is_driven m k (fed_at chunks (fin.get m k)), feeds is_driven (λ c o g a. refl) chunks (fin.get m k));
  left_is = omega (arith, h.left_is, ap (works_by is_left) is, counted_put is_left m k (fed_at chunks (fin.get m k)), feeds is_left (λ c o g a. refl) chunks (fin.get m k));
  few = h.few;
}

-- ---- a write request is taken over

takes_left : (call : ℕ) (o : Option Flight) → weight is_left (held_at call o) ≡ 0
takes_left call None = refl
takes_left call (Some (flight.Promote c opid g ask)) = refl
takes_left call (Some (flight.Write driver owner opid req)) = refl
takes_left call (Some (flight.Reads list)) = refl
takes_left call (Some (flight.Flush c opid seq blocking drain)) = refl

takes_driven : (call : ℕ) (o : Option Flight) → IsUnheld o → weight is_driven (held_at call o) ≡ weight is_driven o + weight is_left o
takes_driven call None h = absurd h
takes_driven call (Some (flight.Promote c opid g ask)) h = absurd h
takes_driven call (Some (flight.Write None owner opid req)) h = omega arith
takes_driven call (Some (flight.Write (Some c) owner opid req)) h = absurd h
takes_driven call (Some (flight.Reads list)) h = absurd h
takes_driven call (Some (flight.Flush None opid seq blocking drain)) h = omega arith
takes_driven call (Some (flight.Flush (Some c) opid seq blocking drain)) h = absurd h

pub take_counts : (driven left call : ℕ) (m after : FlightMap) (k : Name) → AreCounted driven left m → IsUnheld (fin.get m k) → IsTakenIn call k m after
    → AreCounted (driven + weight is_left (fin.get m k)) (left - weight is_left (fin.get m k)) after
    × (weight is_left (fin.get m k) ≤ left) × (driven + weight is_left (fin.get m k) < 2 ^ 64)
take_counts driven left call m after k h free is =
    let d : works_by is_driven after + weight is_driven (fin.get m k) ≡ works_by is_driven m + weight is_driven (held_at call (fin.get m k)) =
    ap (λ x. works_by is_driven x + weight is_driven (fin.get m k)) is ∙ counted_put is_driven m k (held_at call (fin.get m k)) in
    let l : works_by is_left after + weight is_left (fin.get m k) ≡ works_by is_left m + weight is_left (held_at call (fin.get m k)) =
    ap (λ x. works_by is_left x + weight is_left (fin.get m k)) is ∙ counted_put is_left m k (held_at call (fin.get m k)) in
    let there : weight is_left (fin.get m k) ≤ left = omega (arith, h.left_is, l, takes_left call (fin.get m k)) in (
      record {
        driven_is = omega (arith, h.driven_is, d, takes_driven call (fin.get m k) free);
        left_is = omega (arith, h.left_is, l, takes_left call (fin.get m k));
        few = omega (arith, h.few, there);
      },
      there,
      omega (arith, h.few, there),
    )

-- ---- a call ends

-- what the end leaves of the work that the call waits for
record IsLet (o left : Option Flight) : Type 0 where
  driven : weight is_driven left ≡ 0
  before : weight is_left o ≡ 0
  left_is : weight is_left left ≡ weight is_driven o

lets_reads : (rs : List ReadFlight) (list : List ReadFlight) → IsLet (Some (flight.Reads list)) (reads_left rs)
lets_reads [] list = record { driven = refl; before = refl; left_is = refl }
lets_reads (r ∷ rs) list = record { driven = refl; before = refl; left_is = refl }

lets : (call : ℕ) (o : Option Flight) → has_call o call ≡ true → IsLet o (left_at call o)
lets call None h = absurd (true≢false (sym h))
lets call (Some (flight.Promote c opid g ask)) h =
    elim (c == call) as (λ b. IsLet (Some (flight.Promote c opid g ask)) (if b then None else Some (flight.Promote c opid g ask))) [
      | true ↦ record { driven = refl; before = refl; left_is = refl }
      | false ↦ record { driven = refl; before = refl; left_is = refl }
    ]
lets call (Some (flight.Write None owner opid req)) h = absurd (true≢false (sym h))
lets call (Some (flight.Write (Some c) owner opid req)) h =
    subst (λ b. IsLet (Some (flight.Write (Some c) owner opid req)) (Some (flight.Write (if b then None else Some c) owner opid req))) (sym h)
    (record { driven = refl; before = refl; left_is = refl })
lets call (Some (flight.Reads list)) h = lets_reads (others_of call list) list
lets call (Some (flight.Flush c opid seq blocking drain)) h =
    elim (is_call call c) as (λ b. IsLet (Some (flight.Flush c opid seq blocking drain)) (if b then None else Some (flight.Flush c opid seq blocking drain))) [
      | true ↦ record { driven = refl; before = refl; left_is = refl }
      | false ↦ record { driven = refl; before = refl; left_is = refl }
    ]

-- so many of the driven write requests are left then
record MovesOver (moved : ℕ) (old new : FlightMap) : Type 0 where
  driven : works_by is_driven new + moved ≡ works_by is_driven old
  left : left_writes new ≡ left_writes old + moved

module _ (call : ℕ) (old new : FlightMap) (is : IsDroppedIn call old new) where
  idle_stays : (n : Name) (b : Bool) → has_call (fin.get old n) call ≡ b → b ≡ false → fin.get new n ≡ fin.get old n
  idle_stays n b has idle = is n ∙ ap (λ (t : Bool). if t then left_at call (fin.get old n) else fin.get old n) (has ∙ idle)

  -- no work was the call's
  none_waits : IsNameBy has_call old call None → new ≡ old
  none_waits named = same_flights new old (λ n. by n (has_call (fin.get old n) call) refl)
    where
      by : (n : Name) (b : Bool) → has_call (fin.get old n) call ≡ b → fin.get new n ≡ fin.get old n
      by n true has = let no : ◌≡◌ {A = Option Name} None (Some n) = (named n).1 has in absurd (cc)
      by n false has = idle_stays n false has refl

  -- the work on one name was
  one_waits : (k : Name) → IsNameBy has_call old call (Some k) → new ≡ put_left old k (left_at call (fin.get old k))
  one_waits k named = same_flights new (put_left old k (left_at call (fin.get old k))) (λ n. by n (same_or_not n k))
    where
      here : fin.get new k ≡ left_at call (fin.get old k)
      here = is k ∙ ap (λ (t : Bool). if t then left_at call (fin.get old k) else fin.get old k) ((named k).0 refl)

      other : (n : Name) → n ≢ k → (b : Bool) → has_call (fin.get old n) call ≡ b → fin.get new n ≡ fin.get old n
      other n ne true has = let same : ◌≡◌ {A = Option Name} (Some k) (Some n) = (named n).1 has in absurd (ne (sym (cc)))
      other n ne false has = idle_stays n false has refl

      by : (n : Name) → (n ≡ k) ⊎ (n ≢ k) → fin.get new n ≡ fin.get (put_left old k (left_at call (fin.get old k))) n
      by n (inl same) = subst (λ j. fin.get new j ≡ fin.get (put_left old k (left_at call (fin.get old k))) j) (sym same)
          (here ∙ sym (get_here old k (left_at call (fin.get old k))))
      by n (inr ne) = other n ne (has_call (fin.get old n) call) refl ∙ sym (get_there old k (left_at call (fin.get old k)) n ne)

  moves : (found : Option Name) → IsNameBy has_call old call found → MovesOver (cond (drives_on old found) 1 0) old new
  moves None named = record {
    driven = omega (arith, ap (works_by is_driven) (none_waits named));
    left = omega (arith, ap left_writes (none_waits named));
  }
  moves (Some k) named =
      let let_ = lets call (fin.get old k) ((named k).0 refl) in
      record {
        driven = omega (arith, ap (works_by is_driven) (one_waits k named), counted_put is_driven old k (left_at call (fin.get old k)), let_.driven);
        left = omega (arith, ap left_writes (one_waits k named), counted_put is_left old k (left_at call (fin.get old k)), let_.before, let_.left_is);
      }

  pub drop_counts : (driven left : ℕ) (was : Bool) → AreCounted driven left old → Drives call old was
      → AreCounted (driven - cond was 1 0) (left + cond was 1 0) new × (cond was 1 0 ≤ driven) × (left + cond was 1 0 < 2 ^ 64)
  drop_counts driven left was h d =
      let m : MovesOver (cond was 1 0) old new = subst (λ b. MovesOver (cond b 1 0) old new) (sym d.is) (moves d.found d.named) in
      let there : cond was 1 0 ≤ driven = omega (arith, h.driven_is, m.driven) in (
        record {
          driven_is = omega (arith, h.driven_is, m.driven);
          left_is = omega (arith, h.left_is, m.left);
          few = omega (arith, h.few, there);
        },
        there,
        omega (arith, h.few, there),
      )

no_works : (test : Flight → Bool) → works_by test fin.empty ≡ 0
no_works test =
    omega (arith, count_by-le-length (λ e. test e.1) (fin.entries (fin.empty {X = Flight} {R = name_cmp})), fin.len-entries (fin.empty {X = Flight} {R = name_cmp}), fin.len-empty name_cmp Flight)

-- there is no work
pub none_counted : AreCounted 0 0 fin.empty
none_counted = record { driven_is = sym (no_works is_driven); left_is = sym (no_works is_left); few = omega arith }

-- ---- the same of what the code tests

byte : (b : Bool) → bool_byte b ≡ cond b 1 0
byte true = refl
byte false = refl

byte_of : (a b : Bool) → a ≡ b → cond b 1 0 ≡ bool_byte a
byte_of a b is = sym (byte a ∙ ap one_if is)

pub added : (driven left : ℕ) (m after : FlightMap) (k : Name) (work : Flight) (d l : Bool) → AreCounted driven left m → driven + left ≢ 2 ^ 64 - 1
    → MayJoin (fin.get m k) work → IsJoinedIn k work m after → d ≡ is_driven work → l ≡ is_left work → AreCounted (driven + bool_byte d) (left + bool_byte l) after
added driven left m after k work d l h room may is drives leaves =
    subst (λ x. AreCounted (driven + x) (left + bool_byte l) after) (byte_of d (is_driven work) drives)
    (subst (λ y. AreCounted (driven + one_if (is_driven work)) (left + y) after) (byte_of l (is_left work) leaves)
    (add_counts driven left m after k work h room may is))

module _ (driven left : ℕ) (m after : FlightMap) (k : Name) (h : AreCounted driven left m) where
  pub taken : (call : ℕ) (l : Bool) → IsUnheld (fin.get m k) → IsTakenIn call k m after → l ≡ passes is_left (fin.get m k)
      → AreCounted (driven + bool_byte l) (left - bool_byte l) after × (bool_byte l ≤ left) × (driven + bool_byte l < 2 ^ 64)
  taken call l free is leaves =
      subst (λ x. AreCounted (driven + x) (left - x) after × (x ≤ left) × (driven + x < 2 ^ 64)) (byte_of l (passes is_left (fin.get m k)) leaves)
      (take_counts driven left call m after k h free is)

  pub removed : (work : Flight) (d l : Bool) → after ≡ fin.remove m k → fin.get m k ≡ Some work → d ≡ is_driven work → l ≡ is_left work
      → AreCounted (driven - bool_byte d) (left - bool_byte l) after × (bool_byte d ≤ driven) × (bool_byte l ≤ left)
  removed work d l is there drives leaves =
      subst (λ x. AreCounted (driven - x) (left - bool_byte l) after × (x ≤ driven) × (bool_byte l ≤ left)) (byte_of d (passes is_driven (fin.get m k)) (drives ∙ sym (ap (passes is_driven) there)))
      (subst (λ y. AreCounted (driven - weight is_driven (fin.get m k)) (left - y) after × (weight is_driven (fin.get m k) ≤ driven) × (y ≤ left)) (byte_of l (passes is_left (fin.get m k)) (leaves ∙ sym (ap (passes is_left) there)))
      (remove_counts driven left m after k h is))

  pub not_removed : after ≡ fin.remove m k → fin.get m k ≡ None → AreCounted driven left after
  not_removed is none =
      subst (λ x. AreCounted x left after) (omega arith)
      (subst (λ y. AreCounted (driven - 0) y after) (omega arith)
      (subst (λ o. AreCounted (driven - weight is_driven o) (left - weight is_left o) after) none (remove_counts driven left m after k h is).0))

  pub fed : {E : Type 0} (result : Result Added E) (chunk : Chunk) → IfOk result (λ a. IsFedIn k chunk a m after) → OnErr result (after ≡ m) → AreCounted driven left after
  fed (Ok a) chunk ok err = feed_counts driven left m after k (gathered (fin.get after k)) h ok.stays
  fed (Err e) chunk ok err = subst (AreCounted driven left) (sym err) h

pub dropped : (call : ℕ) (old new : FlightMap) → IsDroppedIn call old new → (driven left : ℕ) (was : Bool) → AreCounted driven left old → Drives call old was
    → AreCounted (driven - bool_byte was) (left + bool_byte was) new × (bool_byte was ≤ driven) × (left + bool_byte was < 2 ^ 64)
dropped call old new is driven left was h d =
    subst (λ x. AreCounted (driven - x) (left + x) new × (x ≤ driven) × (left + x < 2 ^ 64)) (sym (byte was)) (drop_counts call old new is driven left was h d)
