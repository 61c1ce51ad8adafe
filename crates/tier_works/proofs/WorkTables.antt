-- Work that stands and the table of it, where the work on one name changes.
use Rattle.std.proofs.Common.{◌≡◌, ◌≢◌, inl, inr, ℕ, false, List, [], ◌∷◌, ◌++◌, Option, Some, None, refl, sym, ap, subst, ◌∙◌, arith}
use Rattle.std.specs.FinMap as fin
use Rattle.std.specs.List.{AllByRecursion}
use Rattle.obj_model.specs.declared.tier.Kind.{Kind}
use Rattle.obj_model.specs.declared.tier.Kind.TheVariants as kind
use Rattle.tier_chron.proofs.Lists.{all_imply, all_push}
use Rattle.tier_protocol.specs.Tiers.{Flight, Flights, IsIn, Name}
use Rattle.tier_protocol.proofs.ActLists.{in_last, in_old}
use Rattle.tier_protocol.proofs.Cells.{get_here, get_there, same_or_not}
use Rattle.tier_view.specs.Calls.{IsGoing, IsInFlight, entry_of}
use Rattle.tier_view.specs.declared.parts.Entry.{Entry}
use Rattle.tier_view.specs.declared.parts.Flown.{Flown}
use Rattle.tier_view.specs.Tables.{HasCome, IsBegunAlone, IsDriven, IsListed, IsOfKind, IsTimed, SoundFlights, SoundFlown}
use Rattle.tier_view.specs.declared.parts.Begun.{Begun}

-- ---- a call that was found in flight

pub in_flight : (es : List Entry) (call : ℕ) (e : Entry) → entry_of es call ≡ Some e
    → e.ended ≡ false → IsInFlight es call
in_flight es call e found going = subst IsGoing (sym found) going

-- ---- work of other names stays listed

-- where calls in flight stay so, what came and stands does, and flushes of these names that were
-- begun alone do
module _ (es fs : List Entry) (flown later : List Flown) (bs cs : List Begun) (epoch : ℕ)
    (going : (c : ℕ) → IsInFlight es c → IsInFlight fs c)
    (comes : (k : Kind) (n : Name) (op : ℕ) (by : Flown → Type 0) → HasCome flown k n op by
    → HasCome later k n op by) where
  driven_still : (o : Option ℕ) → IsDriven es o → IsDriven fs o
  driven_still None h = h
  driven_still (Some c) h = going c h

  alone_still : (n : Name) (o : Option ℕ)
      → ((b : Begun) → IsIn b bs → b.name ≡ n → IsIn b cs) → IsBegunAlone bs epoch n o
      → IsBegunAlone cs epoch n o
  alone_still n None begun h = (h.0, begun h.0 h.1 h.2, h.2, h.3)
  alone_still n (Some c) begun h = h

  pub listed_later : (n : Name) (f : Flight)
      → ((b : Begun) → IsIn b bs → b.name ≡ n → IsIn b cs) → IsListed es flown bs epoch n f
      → IsListed fs later cs epoch n f
  listed_later n (Flight.Promote call op gather ask) begun h =
      (going call h.0, comes kind.Promote n op _ h.1)
  listed_later n (Flight.Write driver owner op r) begun h =
      (driven_still driver h.0, comes kind.Write n op _ h.1)
  listed_later n (Flight.Reads list) begun h =
      λ r on. (going r.call (h r on).0, comes kind.Read n r.opid _ (h r on).1)
  listed_later n (Flight.Flush call op seq blocking drain) begun h =
      (driven_still call h.0, alone_still n call begun h.1, comes kind.Flush n op _ h.2)

-- ---- the work on one name is another

one_work : (f g : Flight) → Some f ≡ Some g → f ≡ g
one_work f g e = cc

module _ (es fs : List Entry) (flights : Flights) (bs cs : List Begun) (epoch count : ℕ) (k : Name)
    (f : Flight) (going : (c : ℕ) → IsInFlight es c → IsInFlight fs c)
    (known : (c : ℕ) → entry_of es c ≢ None → entry_of fs c ≢ None)
    (others : (b : Begun) → IsIn b bs → b.name ≢ k → IsIn b cs)
    (kinds : (j : Kind) (op : ℕ) → IsOfKind (fin.get flights k) j op → IsOfKind (Some f) j op) where
  abbrev W : Flights
  W = fin.insert flights k f

  here : fin.get W k ≡ Some f
  here = get_here flights k (Some f)

  still : (n : Name) (j : Kind) (op : ℕ) → IsOfKind (fin.get flights n) j op
      → IsOfKind (fin.get W n) j op
  still n j op h = elim (same_or_not n k) [
    | inl same ↦ subst (λ o. IsOfKind o j op) (sym (ap (fin.get W) same ∙ here))
        (kinds j op (subst (λ m. IsOfKind (fin.get flights m) j op) same h))
    | inr other ↦ subst (λ o. IsOfKind o j op) (sym (get_there flights k (Some f) n other)) h
  ]

  table_on : (flown : List Flown) → AllByRecursion (SoundFlown es flights count) flown
      → AllByRecursion (SoundFlown fs W count) flown
  table_on flown h =
      all_imply (SoundFlown es flights count) (SoundFlown fs W count)
      (λ g s. record {
        known = known g.call s.known;
        timed = s.timed;
        stands = λ there. still g.name g.kind g.opid (s.stands there);
      }) flown h

  listed_on : (flown later : List Flown)
      → ((j : Kind) (n : Name) (op : ℕ) (by : Flown → Type 0) → HasCome flown j n op by
      → HasCome later j n op by)
      → IsListed fs later cs epoch k f
      → ((n : Name) (g : Flight) → fin.get flights n ≡ Some g → IsListed es flown bs epoch n g)
      → (n : Name) (g : Flight) → fin.get W n ≡ Some g → IsListed fs later cs epoch n g
  listed_on flown later comes mine h n g is = elim (same_or_not n k) [
    | inl same ↦
        let one : f ≡ g = one_work f g (sym here ∙ ap (fin.get W) (sym same) ∙ is) in
        subst (λ m. IsListed fs later cs epoch m g) (sym same)
        (subst (IsListed fs later cs epoch k) one mine)
    | inr other ↦
        listed_later es fs flown later bs cs epoch going comes n g
        (λ b on named. others b on (λ is. other (sym named ∙ is)))
        (h n g (sym (get_there flights k (Some f) n other) ∙ is))
  ]

  -- no work comes to the table
  pub work_changes : (flown : List Flown) → IsListed fs flown cs epoch k f
      → SoundFlights es flown flights bs epoch count → SoundFlights fs flown W cs epoch count
  work_changes flown mine h = record {
    listed = listed_on flown flown (λ j n op by come. come) mine h.listed;
    table = table_on flown h.table;
  }

  -- this work does
  pub work_comes : (flown : List Flown) (e : Flown) → entry_of fs e.call ≢ None → e.came ≡ count
      → e.went ≡ None → e.name ≡ k → IsOfKind (Some f) e.kind e.opid
      → IsListed fs (flown ++ e ∷ []) cs epoch k f
      → SoundFlights es flown flights bs epoch count
      → SoundFlights fs (flown ++ e ∷ []) W cs epoch count
  work_comes flown e there came went named of mine h = record {
    listed = listed_on flown (flown ++ e ∷ [])
        (λ j n op by come. record {
          entry = come.entry;
          on = in_old flown e come.entry come.on;
          standing = come.standing;
          whose = come.whose;
        }) mine h.listed;
    table = all_push (SoundFlown fs W count) flown e (table_on flown h.table) (record {
      known = there;
      timed = subst (IsTimed count e.came) (sym went) (omega (arith, came));
      stands = λ stands. subst (λ o. IsOfKind o e.kind e.opid)
          (sym (ap (fin.get W) named ∙ here)) of;
    });
  }

-- work that comes, in the table
pub has_come : (flown : List Flown) (e : Flown) (by : Flown → Type 0) → e.went ≡ None → by e
    → HasCome (flown ++ e ∷ []) e.kind e.name e.opid by
has_come flown e by went whose = record {
  entry = e;
  on = in_last flown e;
  standing = record { kind = refl; name = refl; opid = refl; there = went };
  whose = whose;
}
