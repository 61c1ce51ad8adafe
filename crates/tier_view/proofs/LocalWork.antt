-- The work on a name goes, in the table too.
use Rattle.std.proofs.Common.{◌≡◌, ◌≢◌, ◌≤◌, ◌⊎◌, inl, inr, ℕ, ◌==◌, Bool, true, false, List, [], ◌∷◌, map, Option, Some, None, refl, sym, ap, subst, ◌∙◌, arith}
use Rattle.std.specs.Prelude.{if◌then◌else◌}
use Rattle.std.specs.FinMap as fin
use Rattle.std.specs.List.{AllByRecursion}
use Rattle.std.proofs.lemmas.Bool.{eqb-false, ne_eqb}
use Rattle.obj_model.specs.declared.tier.Kind.{Kind}
use Rattle.tier_protocol.specs.Memory.{AreApart}
use Rattle.tier_protocol.specs.Moves.{set_at}
use Rattle.tier_protocol.specs.Tiers.{Flight, Flights, IsIn, Name}
use Rattle.tier_protocol.proofs.Cells.{get_here, get_there, same_or_not}
use Rattle.tier_types.specs.Flights.{HasOpid}
use Rattle.tier_view.specs.Calls.{Entry, Flown}
use Rattle.tier_view.specs.Changes.{gone_in}
use Rattle.tier_view.specs.Grows.{Extends, Remains}
use Rattle.tier_view.specs.Stops.{gone_at, gone_by}
use Rattle.tier_view.specs.Tables.{HasCome, IsListed, IsOfKind, IsTimed, SoundFlights, SoundFlown}
use Rattle.tier_view.specs.Traffic.{Begun}
use Rattle.tier_view.proofs.Resting.{remains_itself}

abbrev goes_if : (now : ℕ) → Bool → Flown → Flown
goes_if now b f = if b then gone_at now f else f

-- ---- the table grows so

gone_remains : (count : ℕ) (f : Flown) → Remains count count f (gone_at count f)
gone_remains count f = record { call = refl; kind = refl; name = refl; opid = refl; came = refl; went = by f.went }
  where
    by : (o : Option ℕ) → (gone_by count o ≡ o) ⊎ ((o ≡ None) × ((at : ℕ) × (gone_by count o ≡ Some at) × (count ≤ at) × (at ≤ count)))
    by None = inr (refl, (count, refl, omega arith, omega arith))
    by (Some at) = inl refl

pub flown_gone : (count op : ℕ) (More : List Flown → Type 0) (fs : List Flown) → More [] → Extends (Remains count count) More fs (gone_in count op fs)
flown_gone count op More [] h = h
flown_gone count op More (f ∷ fs) h = (one (f.opid == op), flown_gone count op More fs h)
  where
    one : (b : Bool) → Remains count count f (goes_if count b f)
    one true = gone_remains count f
    one false = remains_itself count count f

-- ---- what stands still

in_map : {X : Type 0} (g : X → X) (x : X) (xs : List X) → IsIn x xs → IsIn (g x) (map g xs)
in_map g x [] on = absurd on
in_map g x (y ∷ ys) (inl is) = inl (ap g is)
in_map g x (y ∷ ys) (inr on) = inr (in_map g x ys on)

come_still : (now p : ℕ) (fs : List Flown) (k : Kind) (n : Name) (op : ℕ) (by : Flown → Type 0) → op ≢ p → HasCome fs k n op by → HasCome (gone_in now p fs) k n op by
come_still now p fs k n op by ne h = record {
  entry = h.entry;
  on = subst (λ f. IsIn f (gone_in now p fs)) (ap (λ b. goes_if now b h.entry) (ne_eqb h.entry.opid p (λ is. ne (sym h.standing.opid ∙ is))))
      (in_map (λ f. goes_if now (f.opid == p) f) h.entry fs h.on);
  standing = h.standing;
  whose = h.whose;
}

listed_still : (es : List Entry) (fs : List Flown) (begun : List Begun) (epoch now p : ℕ) (n : Name) (f : Flight) → ((op : ℕ) → HasOpid (Some f) op → op ≢ p)
    → IsListed es fs begun epoch n f → IsListed es (gone_in now p fs) begun epoch n f
listed_still es fs begun epoch now p n (Flight.Promote call op gather ask) ne h = (h.0, come_still now p fs _ n op _ (ne op refl) h.1)
listed_still es fs begun epoch now p n (Flight.Write driver owner op r) ne h = (h.0, come_still now p fs _ n op _ (ne op refl) h.1)
listed_still es fs begun epoch now p n (Flight.Reads list) ne h = λ r on. ((h r on).0, come_still now p fs _ n r.opid _ (ne r.opid (r, on, refl)) (h r on).1)
listed_still es fs begun epoch now p n (Flight.Flush call op seq blocking drain) ne h = (h.0, h.1, come_still now p fs _ n op _ (ne op refl) h.2)

-- ---- the work goes

none_here : (flights : Flights) (k : Name) (f : Flight) → fin.get (set_at flights k None) k ≡ Some f → ⊥
none_here flights k f is = let no : ◌≡◌ {A = Option Flight} None (Some f) = sym (get_here flights k None) ∙ is in absurd (cc)

none_stands : (count : ℕ) (o : Option ℕ) → gone_by count o ≡ None → ⊥
none_stands count None e = absurd (cc)
none_stands count (Some at) e = absurd (cc)

timed_gone : (count came : ℕ) (o : Option ℕ) → IsTimed count came o → IsTimed count came (gone_by count o)
timed_gone count came None h = (h, omega arith)
timed_gone count came (Some at) h = h

module _ (es : List Entry) (flights : Flights) (begun : List Begun) (epoch count p : ℕ) (k : Name) (apart : AreApart flights) (own : HasOpid (fin.get flights k) p)
    (only : (kd : Kind) (op : ℕ) → IsOfKind (fin.get flights k) kd op → op ≡ p) where
  still_of_kind : (n : Name) (kd : Kind) (op : ℕ) → op ≢ p → IsOfKind (fin.get flights n) kd op → IsOfKind (fin.get (set_at flights k None) n) kd op
  still_of_kind n kd op ne h = elim (same_or_not n k) [
    | inl same ↦ absurd (ne (only kd op (subst (λ m. IsOfKind (fin.get flights m) kd op) same h)))
    | inr other ↦ subst (λ o. IsOfKind o kd op) (sym (get_there flights k None n other)) h
  ]

  one_gone : (f : Flown) (b : Bool) → (f.opid == p) ≡ b → SoundFlown es flights count f → SoundFlown es (set_at flights k None) count (goes_if count b f)
  one_gone f true same h = record { known = h.known; timed = timed_gone count f.came f.went h.timed; stands = λ there. absurd (none_stands count f.went there) }
  one_gone f false apart_is h = record { known = h.known; timed = h.timed; stands = λ there. still_of_kind f.name f.kind f.opid (eqb-false f.opid p apart_is) (h.stands there) }

  table_gone : (fs : List Flown) → AllByRecursion (SoundFlown es flights count) fs → AllByRecursion (SoundFlown es (set_at flights k None) count) (gone_in count p fs)
  table_gone [] h = tt
  table_gone (f ∷ fs) h = (one_gone f (f.opid == p) refl h.0, table_gone fs h.1)

  pub work_gone : (fs : List Flown) → SoundFlights es fs flights begun epoch count → SoundFlights es (gone_in count p fs) (set_at flights k None) begun epoch count
  work_gone fs h = record {
    listed = λ n f is. elim (same_or_not n k) [
      | inl same ↦ absurd (none_here flights k f (subst (λ m. fin.get (set_at flights k None) m ≡ Some f) same is))
      | inr other ↦
          let was : fin.get flights n ≡ Some f = sym (get_there flights k None n other) ∙ is in
          listed_still es fs begun epoch count p n f
          (λ op has same. other (apart n k p (subst (λ o. HasOpid o p) (sym was) (subst (HasOpid (Some f)) same has)) own))
          (h.listed n f was)
    ];
    table = table_gone fs h.table;
  }

-- work of one number on the name
pub one_number : (flights : Flights) (k : Name) (f : Flight) (p : ℕ) → ((kd : Kind) (op : ℕ) → IsOfKind (Some f) kd op → op ≡ p) → fin.get flights k ≡ Some f
    → (kd : Kind) (op : ℕ) → IsOfKind (fin.get flights k) kd op → op ≡ p
one_number flights k f p each is kd op h = each kd op (subst (λ o. IsOfKind o kd op) is h)
