-- A chunk that comes, and the promotion that wants it.
use Rattle.std.proofs.Common.{◌≡◌, inl, inr, ℕ, true, List, [], ◌∷◌, ◌++◌, Option, Some, None, refl, sym, ap, subst, ◌∙◌}
use Rattle.std.specs.Prelude.{Result, Ok, Err, IfOk}
use Rattle.std.specs.FinMap as fin
use Rattle.std.specs.Cmp.Lexicographic.{nat_list_cmp_total}
use Rattle.std.proofs.lemmas.Bool.{eqb-true, eq-eqb}
use Rattle.copy_chunk.specs.Gathers.{fits, wanted}
use Rattle.copy_chunk.specs.declared.chunk.Chunk.{Chunk}
use Rattle.copy_chunk.specs.declared.gather.Added.TheVariants.{Taken, Ignored, Unfit}
use Rattle.tier_flight.specs.Changes.{IsFedIn, fed_at, gathered}
use Rattle.tier_flight.specs.Ends.{put_left}
use Rattle.tier_flight.specs.Numbers.{IsNameBy, has_opid}
use Rattle.tier_protocol.proofs.Cells.{get_here, get_there, same_or_not}
use Rattle.tier_protocol.specs.Tiers.{Ask, Flight, Flights, Name}
use Rattle.tier_traffic.specs.Messages.{replied_of}
use Rattle.tier_traffic.specs.Wires.{WiresView, carrying, with_flights}
use Rattle.tier_view.specs.Changes.{without_reply}
use Rattle.tier_view.specs.Traffic.{Traffic}
use Rattle.tier_promote.specs.Gathers.{FeedsTo, GathersIn, IsBrought, IsNoPromotion, IsOnePromotion, IsPromotion, IsUnwanted, brought_in, caller_on}
use Rattle.tier_promote.specs.declared.gathering.Brought.{Brought}
use Rattle.tier_promote.specs.declared.gathering.Gathered.{Gathered}
use Rattle.tier_promote.specs.declared.gathering.Gathered.TheVariants as made
use Rattle.tier_promote.specs.declared.gathering.Promotion.{Promotion}

-- ---- the promotion that is an operation

one_name : (n k : Name) → Some n ≡ Some k → n ≡ k
one_name n k e = cc

one_call : (n k : ℕ) → Some n ≡ Some k → n ≡ k
one_call n k e = cc

-- the work that has a caller is a promotion
caller_is : (f : Option Flight) (c : ℕ) → caller_on f ≡ Some c → (op : ℕ) × (g : List Chunk) × (ask : Ask) × (f ≡ Some (Flight.Promote c op g ask))
caller_is None c e = absurd (cc)
caller_is (Some (Flight.Promote call op g ask)) c e = (op, g, ask, ap (λ n. Some (Flight.Promote n op g ask)) (one_call call c e))
caller_is (Some (Flight.Write driver owner op r)) c e = absurd (cc)
caller_is (Some (Flight.Reads list)) c e = absurd (cc)
caller_is (Some (Flight.Flush call op seq blocking drain)) c e = absurd (cc)

module _ (flights : Flights) (op : ℕ) (found : Option Name) (named : IsNameBy has_opid flights op found) where
  -- the name of the promotion is the one that was found
  its_name : (p : Promotion) → IsPromotion flights op p → found ≡ Some p.name
  its_name p is = (named p.name).1 (subst (λ (o : Option Flight). has_opid o op ≡ true) (sym is.flight) (eq-eqb op op refl))

  pub none_found : found ≡ None → IsNoPromotion flights op
  none_found none p is = let no : None ≡ Some p.name = sym none ∙ its_name p is in absurd (cc)

  pub none_promotes : (name : Name) → found ≡ Some name → caller_on (fin.get flights name) ≡ None → IsNoPromotion flights op
  none_promotes name at none p is =
      let same : name ≡ p.name = one_name name p.name (sym at ∙ its_name p is) in
      let no : None ≡ Some p.call = sym none ∙ ap caller_on (ap (fin.get flights) same ∙ is.flight) in
      absurd (cc)

  pub one_promotes : (name copy : Name) (call : ℕ) → found ≡ Some name → copy ≡ name → caller_on (fin.get flights name) ≡ Some call
      → IsOnePromotion flights op (record { name = copy; call = call })
  one_promotes name copy call at is calls =
      let f = caller_is (fin.get flights name) call calls in
      let o : f.0 ≡ op = eqb-true f.0 op (subst (λ (x : Option Flight). has_opid x op ≡ true) f.3 ((named name).0 at)) in
      record {
        is = record { gather = f.1; ask = f.2; flight = ap (fin.get flights) is ∙ f.3 ∙ ap (λ n. Some (Flight.Promote call n f.1 f.2)) o };
        one = λ q h. one_name q.name copy (sym (its_name q h) ∙ at ∙ ap Some (sym is));
      }

-- ---- a chunk is given to it

-- what a name's work is put in place of itself changes nothing
put_same : (flights : Flights) (k : Name) (f : Flight) → fin.get flights k ≡ Some f → fin.insert flights k f ≡ flights
put_same flights k f is =
    fin.same_map nat_list_cmp_total (fin.slice_cmp-IsAntisymmetric fin.nat_cmp-IsAntisymmetric) (fin.insert flights k f) flights
    (λ n. elim (same_or_not n k) [
      | inl same ↦ ap (fin.get (fin.insert flights k f)) same ∙ get_here flights k (Some f) ∙ sym (ap (fin.get flights) same ∙ is)
      | inr other ↦ get_there flights k (Some f) n other
    ])

module _ (w a : WiresView) (p : Promotion) (b : Brought) (is : IsPromotion w.traffic.flights b.opid p) (frame : a ≡ with_flights a.traffic.flights w) where
  abbrev Old : Option Flight
  Old = fin.get w.traffic.flights p.name

  -- the promotion with these chunks
  abbrev With : List Chunk → Flight
  With g = Flight.Promote p.call b.opid g is.ask

  abbrev Now : List Chunk
  Now = gathered (fin.get a.traffic.flights p.name)

  had : gathered Old ≡ is.gather
  had = ap gathered is.flight

  stays_is : (g : List Chunk) → Now ≡ g → a.traffic.flights ≡ put_left w.traffic.flights p.name (fed_at Now Old) → a.traffic.flights ≡ fin.insert w.traffic.flights p.name (With g)
  stays_is g now stays =
      stays ∙ ap (λ (o : Option Flight). put_left w.traffic.flights p.name (fed_at Now o)) is.flight
      ∙ ap (λ (x : List Chunk). fin.insert w.traffic.flights p.name (With x)) now

  traffic_is : (g : List Chunk) → a.traffic.flights ≡ fin.insert w.traffic.flights p.name (With g) → a.traffic ≡ record w.traffic { flights = fin.insert w.traffic.flights p.name (With g) }
  traffic_is g flights = ap (λ (x : WiresView). x.traffic) frame ∙ ap (λ (f : Flights). record w.traffic { flights = f }) flights

  same_is : Now ≡ gathered Old → a.traffic.flights ≡ put_left w.traffic.flights p.name (fed_at Now Old) → a.traffic ≡ w.traffic
  same_is now stays =
      traffic_is is.gather (stays_is is.gather (now ∙ had) stays)
      ∙ ap (λ (f : Flights). record w.traffic { flights = f }) (put_same w.traffic.flights p.name (With is.gather) is.flight)

  pub fed_taken : (number : ℕ) (c : WiresView) → IsFedIn p.name b.chunk Taken w.traffic.flights a.traffic.flights → c ≡ carrying (without_reply number a.traffic) a
      → FeedsTo number p b w.traffic c.traffic (made.Taken p.call)
  fed_taken number c fed forgot = (
    is.gather,
    is.ask,
    is.flight,
    refl,
    ap wanted (sym had) ∙ fed.adds.0,
    ap (λ (x : WiresView). x.traffic) forgot
        ∙ ap (without_reply number) (traffic_is (is.gather ++ b.chunk ∷ []) (stays_is (is.gather ++ b.chunk ∷ []) (fed.adds.2 ∙ ap (λ (g : List Chunk). g ++ b.chunk ∷ []) had) fed.stays)),
  )

  pub fed_unfit : (number : ℕ) → IsFedIn p.name b.chunk Unfit w.traffic.flights a.traffic.flights → FeedsTo number p b w.traffic a.traffic (made.Unfit p.call)
  fed_unfit number fed = (
    is.gather,
    is.ask,
    is.flight,
    refl,
    ap wanted (sym had) ∙ fed.adds.0,
    ap (λ (g : List Chunk). fits g b.chunk) (sym had) ∙ fed.adds.1,
    same_is fed.adds.2 fed.stays,
  )

  pub fed_nothing : (number : ℕ) → IsFedIn p.name b.chunk Ignored w.traffic.flights a.traffic.flights → FeedsTo number p b w.traffic a.traffic made.Nothing
  fed_nothing number fed = (
    same_is fed.adds.1 fed.stays,
    λ call g ask at wants. fed.adds.0 (ap wanted (ap gathered at) ∙ wants),
  )

-- ---- what came of a reply

one_brought : (a b : Brought) → Some a ≡ Some b → a ≡ b
one_brought a b e = cc

module _ (t u : Traffic) (epoch number : ℕ) where
  pub none_brought : brought_in epoch (replied_of t.replies number) ≡ None → IsUnwanted t epoch number
  none_brought none b p is wants = let no : None ≡ Some b = sym none ∙ is.brought in absurd (cc)

  module _ (b : Brought) (at : brought_in epoch (replied_of t.replies number) ≡ Some b) where
    -- what it brings is for this operation
    is_for : (c : Brought) (p : Promotion) (is : IsBrought t epoch number c p) → fin.get t.flights p.name ≡ Some (Flight.Promote p.call b.opid is.gather is.ask)
    is_for c p is = is.flight ∙ ap (λ (x : Brought). Some (Flight.Promote p.call x.opid is.gather is.ask)) (one_brought c b (sym is.brought ∙ at))

    pub none_gathers : IsNoPromotion t.flights b.opid → IsUnwanted t epoch number
    none_gathers none c p is wants = none p (record { gather = is.gather; ask = is.ask; flight = is_for c p is })

    module _ (p : Promotion) (one : IsOnePromotion t.flights b.opid p) where
      pub gathers_by : {E : Type 0} (result : Result Gathered E) → IfOk result (FeedsTo number p b t u) → IfOk result (GathersIn epoch number t u)
      gathers_by (Ok (made.Taken call)) h = record {
        b = b;
        p = p;
        is = record { brought = at; gather = h.0; ask = h.1; flight = h.2 };
        caller = h.3;
        wants = h.4;
        taken = h.5;
      }
      gathers_by (Ok (made.Unfit call)) h = record {
        b = b;
        p = p;
        is = record { brought = at; gather = h.0; ask = h.1; flight = h.2 };
        caller = h.3;
        wants = h.4;
        unfit = h.5;
        same = h.6;
      }
      gathers_by (Ok made.Nothing) h = (
        h.0,
        λ c q is wants.
            h.1 q.call is.gather is.ask
            (ap (fin.get t.flights) (sym (one.one q (record { gather = is.gather; ask = is.ask; flight = is_for c q is }))) ∙ is_for c q is)
            (wants ∙ ap (λ (x : Brought). Some x.chunk.at) (one_brought c b (sym is.brought ∙ at))),
      )
      gathers_by (Err e) h = tt
