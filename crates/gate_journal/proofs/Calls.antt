-- The clauses of `start` and `append`, from those of their steps.
use Rattle.std.specs.Prelude.{◌≡◌, ◌⊎◌, ◌≤◌, ◌<◌, ◌+◌, ◌^◌, ℕ, List, [], ◌∷◌, ◌++◌, length}
use Rattle.std.specs.Prelude.{Option, Some, None, refl}
use Rattle.std.proofs.Common.{◌∙◌, sym, subst, ap, arith, inl, inr}
use Rattle.std.proofs.lemmas.List.{length-take}
use Rattle.tier_outside.specs.Disk.{DiskMoment, IsImage, settled, written, StopsIn}
use Rattle.tier_outside.specs.DiskMoments.{last, grown, Now, Then, Leaves}
use Rattle.tier_outside.proofs.DiskMoments.{now_weaker}
use Rattle.gate_journal.specs.declared.journal.Journal.{Journal}
use Rattle.gate_journal.specs.Journals.{IsClosed, behind_gate}
use Rattle.gate_journal.specs.Stands.{Standing, StandsAs, HoldsWithOrWithout, gate_alone}
use Rattle.gate_journal.specs.Stands.{recorded}
use Rattle.gate_journal.specs.Steps.Writing.{AddStops, GateCloses, GateStops, staged, opened}
use Rattle.gate_journal.proofs.Adds.{with_or_without, stands_added, add_outside, once_opened}
use Rattle.gate_journal.proofs.Adds.{there_opened, settled_stands, spelled_more}
use Rattle.gate_journal.proofs.Images.{stops_wider, stops_again}
use Rattle.gate_journal.proofs.Records.{ThereAt, index_take, length_behind}
use Rattle.gate_journal.proofs.Steps.{leaves_weaker, leaves_both, then_weaker}
use Rattle.gate_journal.proofs.Walks.{stands_same}
use Rattle.gate_journal.proofs.Writes.{written_over}

-- a record was added
abbrev pub Added : ℕ → List ℕ → DiskMoment → DiskMoment → Type 0
Added gate body d e =
    (e ≡ settled (opened gate body d.content))
    × StopsIn (gate + 1) (length body) d (staged gate body d.content)

pub append_moments : (journal : Journal) (payload body : List ℕ) (a b : Option (List DiskMoment))
    → body ≡ behind_gate payload → length payload < 2 ^ 32
    → journal.next + 6 + length payload ≤ journal.end
    → Leaves a b (AddStops journal.next body)
    → Leaves a b (λ d image. (payloads : List (List ℕ)) → StandsAs journal payloads d
    → HoldsWithOrWithout journal payloads payload image)
append_moments journal payload body a b is small fits left =
    leaves_weaker a b (AddStops journal.next body)
    (λ d image. (payloads : List (List ℕ)) → StandsAs journal payloads d
    → HoldsWithOrWithout journal payloads payload image)
    (λ d image stops payloads stands. with_or_without journal payloads payload d image small fits
    stands (subst (λ x. AddStops journal.next x d image) is stops)) left

pub append_outside : (gate : ℕ) (payload body : List ℕ) (a b : Option (List DiskMoment))
    → body ≡ behind_gate payload → Leaves a b (AddStops gate body)
    → Leaves a b (StopsIn gate (length payload + 6))
append_outside gate payload body a b is left =
    leaves_weaker a b (AddStops gate body) (StopsIn gate (length payload + 6))
    (λ d image stops. add_outside gate payload d image
    (subst (λ x. AddStops gate x d image) is stops)) left

pub append_written : (gate : ℕ) (payload body : List ℕ) (a b : Option (List DiskMoment))
    → body ≡ behind_gate payload → Then a b (Added gate body)
    → Then a b (λ d e. e ≡ settled (recorded gate payload d.content))
append_written gate payload body a b is done =
    then_weaker a b (Added gate body) (λ d e. e ≡ settled (recorded gate payload d.content))
    (λ d e added. added.0 ∙ ap (λ x. settled (opened gate x d.content)) is
    ∙ ap settled (once_opened gate payload d.content)) done

pub append_stands : (journal : Journal) (next : ℕ) (payload body : List ℕ)
    (a b : Option (List DiskMoment)) → body ≡ behind_gate payload → length payload < 2 ^ 32
    → next ≡ journal.next + 5 + length payload
    → Then a b (Added journal.next body)
    → Then a b (λ d e. (payloads : List (List ℕ)) → StandsAs journal payloads d
    → StandsAs (record { start = journal.start; next = next; end = journal.end })
    (payloads ++ payload ∷ []) e)
append_stands journal next payload body a b is small place done =
    then_weaker a b (Added journal.next body)
    (λ d e. (payloads : List (List ℕ)) → StandsAs journal payloads d
    → StandsAs (record { start = journal.start; next = next; end = journal.end })
    (payloads ++ payload ∷ []) e)
    (λ d e added payloads stands.
    let whole = subst (λ x. Added journal.next x d e) is added in
    subst (λ n. StandsAs (record { start = journal.start; next = n; end = journal.end })
    (payloads ++ payload ∷ []) e) (sym place)
    (stands_added journal payloads payload d e small stands whole.1 whole.0)) done

-- a closed gate that stands reads as closed
closed_read : (at end : ℕ) (d : DiskMoment) → StandsAs (gate_alone at end) [] d
    → IsImage d d.content → IsClosed d.content at
closed_read at end d stands is =
    let same = stands_same at (at + 1) d d.content stands.settled is in
    record {
      there = omega (arith, is.no_shorter, stands.settled.within);
      closed =
          λ one. stands.spelled.gate.closed
          (index_take (at + 1) d.stable at (omega arith)
          ∙ sym (same.same at (omega arith) (omega arith)) ∙ one);
    }

-- a closed gate that is settled stands
closed_stands : (at end : ℕ) (e : DiskMoment) → e ≡ settled e.content → IsClosed e.content at
    → StandsAs (gate_alone at end) [] e
closed_stands at end e is closed = subst (StandsAs (gate_alone at end) []) (sym is) record {
  settled = settled_stands at (at + 1) e.content (omega (arith, closed.there));
  spelled = record {
    records = refl;
    gate = record {
      there = omega (arith, closed.there, length-take (at + 1) e.content);
      closed = λ one. closed.closed (sym (index_take (at + 1) e.content at (omega arith)) ∙ one);
    };
  };
}

-- what stands after a gate was closed
gate_stands : (at end : ℕ) (d e : DiskMoment) → GateCloses at d e
    → (e ≡ d) ⊎ StandsAs (gate_alone at end) [] e
gate_stands at end d e closes =
    elim closes.either [
      | inl same ↦ inl same
      | inr put ↦ inr (closed_stands at end e
          (put.0 ∙ ap settled (sym (ap (λ x. x.content) put.0))) closes.closed)
    ]

-- a stop where a closed gate stood
abbrev pub ClosedBefore : ℕ → ℕ → List ℕ → DiskMoment → List ℕ → Type 0
ClosedBefore at end first d image =
    StandsAs (gate_alone at end) [] d → HoldsWithOrWithout (gate_alone at end) [] first image

-- a stop where none was read
abbrev pub OpenBefore : ℕ → ℕ → List ℕ → DiskMoment → List ℕ → Type 0
OpenBefore at end first d image =
    ¬ IsClosed d.content at → StopsIn at 1 d image
    ⊎ HoldsWithOrWithout (gate_alone at end) [] first image

pub close_closed : (at end : ℕ) (first : List ℕ) (a b : Option (List DiskMoment))
    → Leaves a b (GateStops at) → Leaves a b (ClosedBefore at end first)
close_closed at end first a b left =
    leaves_weaker a b (GateStops at) (ClosedBefore at end first)
    (λ d image stops stands. absurd (stops.opening (closed_read at end d stands stops.read))) left

pub close_open : (at end : ℕ) (first : List ℕ) (a b : Option (List DiskMoment))
    → Leaves a b (GateStops at) → Leaves a b (OpenBefore at end first)
close_open at end first a b left =
    leaves_weaker a b (GateStops at) (OpenBefore at end first)
    (λ d image stops opening. inl stops.stops) left

pub close_outside : (at : ℕ) (first : List ℕ) (a b : Option (List DiskMoment))
    → Leaves a b (GateStops at) → Leaves a b (StopsIn at (length first + 6))
close_outside at first a b left =
    leaves_weaker a b (GateStops at) (StopsIn at (length first + 6))
    (λ d image stops. stops_wider at 1 at (length first + 6) d image (omega arith)
    (omega arith) stops.stops) left

pub start_closed : (at end : ℕ) (first body : List ℕ) (a b c : Option (List DiskMoment))
    → body ≡ behind_gate first → length first < 2 ^ 32 → at + 6 + length first ≤ end
    → Leaves a b (GateStops at) → Then a b (GateCloses at) → Leaves b c (AddStops at body)
    → Leaves a c (ClosedBefore at end first)
start_closed at end first body a b c is small fits left closed added =
    leaves_both a b c (ClosedBefore at end first) (AddStops at body) (GateCloses at)
    (close_closed at end first a b left) closed added
    (λ d e image closes stops stands.
    let there : StandsAs (gate_alone at end) [] e =
    elim (gate_stands at end d e closes) [
      | inl same ↦ subst (StandsAs (gate_alone at end) []) (sym same) stands
      | inr now ↦ now
    ] in
    with_or_without (gate_alone at end) [] first e image small fits there
    (subst (λ x. AddStops at x e image) is stops))

pub start_open : (at end : ℕ) (first body : List ℕ) (a b c : Option (List DiskMoment))
    → body ≡ behind_gate first → length first < 2 ^ 32 → at + 6 + length first ≤ end
    → Leaves a b (GateStops at) → Then a b (GateCloses at) → Leaves b c (AddStops at body)
    → Leaves a c (OpenBefore at end first)
start_open at end first body a b c is small fits left closed added =
    leaves_both a b c (OpenBefore at end first) (AddStops at body) (GateCloses at)
    (close_open at end first a b left) closed added
    (λ d e image closes stops opening.
    elim (gate_stands at end d e closes) [
      | inl same ↦ absurd (opening (subst (λ x. IsClosed x.content at) same closes.closed))
      | inr now ↦ inr (with_or_without (gate_alone at end) [] first e image small fits now
          (subst (λ x. AddStops at x e image) is stops))
    ])

pub start_outside : (at : ℕ) (first body : List ℕ) (a b c : Option (List DiskMoment))
    → body ≡ behind_gate first
    → Leaves a b (GateStops at) → Then a b (GateCloses at) → Leaves b c (AddStops at body)
    → Leaves a c (StopsIn at (length first + 6))
start_outside at first body a b c is left closed added =
    leaves_both a b c (StopsIn at (length first + 6)) (AddStops at body) (GateCloses at)
    (close_outside at first a b left) closed added
    (λ d e image closes stops.
    let there : StopsIn at (length first + 6) e image =
    add_outside at first e image (subst (λ x. AddStops at x e image) is stops) in
    elim closes.either [
      | inl same ↦ subst (λ x. StopsIn at (length first + 6) x image) same there
      | inr put ↦
          stops_again at (length first + 6) d (written at (0 ∷ []) d.content) image
          (stops_wider at 1 at (length first + 6) d (written at (0 ∷ []) d.content) (omega arith)
          (omega arith) put.1)
          (subst (λ x. StopsIn at (length first + 6) x image) put.0 there)
    ])

-- a disk that does not tell still does not
no_more : (ds : List DiskMoment) (Q : DiskMoment → List ℕ → Type 0) → Leaves (Some ds) None Q → ⊥
no_more ds Q left = impossible left.grew
  where
    impossible : None ≡ grown (Some ds) left.more → ⊥
    impossible same = cc

pub start_written : (at : ℕ) (first body : List ℕ) (a b c : Option (List DiskMoment))
    → body ≡ behind_gate first → Leaves a b (GateStops at) → Then a b (GateCloses at)
    → Then b c (Added at body)
    → Then a c (λ d e. e ≡ settled (recorded at first d.content))
start_written at first body None b c is left closed added = tt
start_written at first body (Some ds) None c is left closed added =
    absurd (no_more ds (GateStops at) left)
start_written at first body (Some ds) (Some es) None is left closed added = tt
start_written at first body (Some ds) (Some es) (Some fs) is left closed added =
    let e : List ℕ = (last es).content in
    let now : last fs ≡ settled (recorded at first e) =
    added.0 ∙ ap (λ x. settled (opened at x e)) is ∙ ap settled (once_opened at first e) in
    let same : recorded at first e ≡ recorded at first (last ds).content =
    elim closed.either [
      | inl same ↦ ap (λ x. recorded at first x.content) same
      | inr put ↦ ap (λ x. recorded at first x.content) put.0
          ∙ written_over at (0 ∷ []) (1 ∷ behind_gate first) (last ds).content (omega arith)
    ] in
    now ∙ ap settled same

-- the journal of one payload stands
first_stands : (at next end : ℕ) (first old : List ℕ) → length first < 2 ^ 32
    → next ≡ at + 5 + length first
    → StandsAs (record { start = at; next = next; end = end }) (first ∷ [])
    (settled (opened at (behind_gate first) old))
first_stands at next end first old small place =
    let there : ThereAt (opened at (behind_gate first) old) at (1 ∷ behind_gate first) =
    there_opened at first old in
    subst (λ n. StandsAs (record { start = at; next = n; end = end }) (first ∷ [])
    (settled (opened at (behind_gate first) old))) (sym place) record {
      settled =
          settled_stands at (at + 5 + length first + 1) (opened at (behind_gate first) old)
          (omega (arith, there.long, length_behind first));
      spelled =
          spelled_more at at (at + 5 + length first + 1)
          (opened at (behind_gate first) old) [] first small refl there (omega arith);
    }

pub start_stands : (at next end : ℕ) (first body : List ℕ) (b c : Option (List DiskMoment))
    → body ≡ behind_gate first → length first < 2 ^ 32 → next ≡ at + 5 + length first
    → Leaves b c (AddStops at body)
    → Then b c (Added at body) → Now c
    (StandsAs (record { start = at; next = next; end = end }) (first ∷ []))
start_stands at next end first body None c is small place left added =
    subst (λ ms. Now ms (StandsAs (record { start = at; next = next; end = end }) (first ∷ [])))
    (sym left.grew) tt
start_stands at next end first body (Some es) c is small place left added =
    now_weaker c (Added at body (last es))
    (StandsAs (record { start = at; next = next; end = end }) (first ∷ []))
    (λ f done. subst (StandsAs (record { start = at; next = next; end = end }) (first ∷ []))
    (sym (done.0 ∙ ap (λ x. settled (opened at x (last es).content)) is))
    (first_stands at next end first (last es).content small place)) added

-- it stands with some payloads
pub some_stands : (journal : Journal) (payloads : List (List ℕ)) (a : Option (List DiskMoment))
    → Now a (StandsAs journal payloads) → Now a (Standing journal)
some_stands journal payloads a now =
    now_weaker a (StandsAs journal payloads) (Standing journal) (λ d stands. (payloads, stands)) now

pub append_standing : (journal next : Journal) (payload : List ℕ) (a b : Option (List DiskMoment))
    (Q : DiskMoment → List ℕ → Type 0) → Now a (Standing journal) → Leaves a b Q
    → Then a b (λ d e. (payloads : List (List ℕ)) → StandsAs journal payloads d
    → StandsAs next (payloads ++ payload ∷ []) e) → Now b (Standing next)
append_standing journal next payload None b Q was left done =
    subst (λ ms. Now ms (Standing next)) (sym left.grew) tt
append_standing journal next payload (Some ds) None Q was left done = tt
append_standing journal next payload (Some ds) (Some es) Q was left done =
    (was.0 ++ payload ∷ [], done was.0 was.1)
