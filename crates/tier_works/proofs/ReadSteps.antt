-- A proxied read begins, and its Look is sent.
use Rattle.std.proofs.Common.{◌≡◌, ◌⊎◌, inl, inr, ℕ, true, true≢false, List, [], ◌∷◌, ◌++◌, length, Option, Some, None, refl, sym, subst}
use Rattle.std.specs.FinMap as fin
use Rattle.obj_model.specs.declared.sub_op.SubOp.{SubOp}
use Rattle.obj_model.specs.declared.tier.Kind.{Kind}
use Rattle.obj_model.specs.declared.tier.Kind.TheVariants as kind
use Rattle.tier_join.specs.Promises.{as_it_is}
use Rattle.tier_join.proofs.CacheSteps.{rec_is}
use Rattle.tier_protocol.specs.Moves.{reads_with, set_at}
use Rattle.tier_protocol.specs.Tiers.{BaseMsg, Flight, IsIn, Name, ReadFlight, TierRec}
use Rattle.tier_protocol.proofs.ActLists.{in_last, in_more, in_old}
use Rattle.tier_protocol.proofs.Cells.{get_here}
use Rattle.tier_types.specs.Flights.{lets_read}
use Rattle.tier_view.specs.Calls.{IsInFlight}
use Rattle.tier_view.specs.declared.parts.Entry.{Entry}
use Rattle.tier_view.specs.declared.parts.Flown.{Flown}
use Rattle.tier_view.specs.Laws.{Keeps}
use Rattle.tier_view.specs.Tables.{HasCome, IsListed, IsOfKind}
use Rattle.tier_view.specs.declared.parts.Begun.{Begun}
use Rattle.tier_view.specs.Views.{GroupView, joined}
use Rattle.tier_view.specs.Whole.{IsWhole}
use Rattle.tier_view.proofs.Beginning.{listed_then}
use Rattle.tier_view.proofs.Finding.{is_known}
use Rattle.tier_works.specs.ProxyReads.{BeginsRead, ReadsFlyKeeps, ReadsJoinLast, SendingLooksKeeps, flown_read, read_now, reads_now}
use Rattle.tier_works.specs.Works.{flown_now}
use Rattle.tier_works.proofs.Beginnings.{flies}
use Rattle.tier_works.proofs.Sendings.{begun_later, sent_quietly}
use Rattle.tier_works.proofs.WorkTables.{has_come, in_flight, work_comes}

-- ---- its Look is sent again

pub sending_looks_keeps : SendingLooksKeeps
sending_looks_keeps v k list r h none flies on =
    sent_quietly v (BaseMsg.Look v.standing.cache_epoch r.opid k r.vector) None h none refl tt
    (refl, (list, r, flies, on, refl, refl))
    (λ start z i s. (refl, (list, r, flies, on, refl, refl)))

-- ---- it joins the reads of its name

reads_of_kind : (list more : List ReadFlight)
    → ((r : ReadFlight) → IsIn r list → IsIn r more) → (j : Kind) (op : ℕ)
    → IsOfKind (Some (Flight.Reads list)) j op → IsOfKind (Some (Flight.Reads more)) j op
reads_of_kind list more within kind.Promote op h = absurd h
reads_of_kind list more within kind.Write op h = absurd h
reads_of_kind list more within kind.Read op h = (h.0, within h.0 h.1, h.2)
reads_of_kind list more within kind.Flush op h = absurd h

none_of : (j : Kind) (op : ℕ) (f : Flight) → IsOfKind None j op → IsOfKind (Some f) j op
none_of kind.Promote op f h = absurd h
none_of kind.Write op f h = absurd h
none_of kind.Read op f h = absurd h
none_of kind.Flush op f h = absurd h

join_kinds : (work : Option Flight) (r : ReadFlight) → lets_read work ≡ true → (j : Kind) (op : ℕ)
    → IsOfKind work j op → IsOfKind (Some (Flight.Reads (reads_with work r))) j op
join_kinds None r lets j op h = none_of j op (Flight.Reads (reads_with None r)) h
join_kinds (Some (Flight.Promote call o gather ask)) r lets j op h =
    absurd (true≢false (sym lets))
join_kinds (Some (Flight.Write driver owner o q)) r lets j op h = absurd (true≢false (sym lets))
join_kinds (Some (Flight.Reads list)) r lets j op h =
    reads_of_kind list (list ++ r ∷ []) (λ q on. in_old list r q on) j op h
join_kinds (Some (Flight.Flush call o seq blocking drain)) r lets j op h =
    absurd (true≢false (sym lets))

last_read : (work : Option Flight) (r : ReadFlight) → lets_read work ≡ true
    → IsIn r (reads_with work r)
last_read None r lets = inl refl
last_read (Some (Flight.Promote call o gather ask)) r lets = absurd (true≢false (sym lets))
last_read (Some (Flight.Write driver owner o q)) r lets = absurd (true≢false (sym lets))
last_read (Some (Flight.Reads list)) r lets = in_last list r
last_read (Some (Flight.Flush call o seq blocking drain)) r lets = absurd (true≢false (sym lets))

-- each read of its name is of a call in flight, and in the table
module _ (es : List Entry) (flown : List Flown) (e : Flown) (bs : List Begun) (epoch : ℕ) (k : Name)
    (r : ReadFlight) (going : IsInFlight es r.call)
    (came : HasCome (flown ++ e ∷ []) kind.Read k r.opid (λ f. f.call ≡ r.call)) where
  one_listed : (list : List ReadFlight)
      → ((q : ReadFlight) → IsIn q list → (q ≡ r) ⊎ (IsInFlight es q.call
      × HasCome (flown ++ e ∷ []) kind.Read k q.opid (λ f. f.call ≡ q.call)))
      → IsListed es (flown ++ e ∷ []) bs epoch k (Flight.Reads list)
  one_listed list h q on = elim (h q on) [
    | inl is ↦
        subst (λ x. IsInFlight es x.call
        × HasCome (flown ++ e ∷ []) kind.Read k x.opid (λ f. f.call ≡ x.call)) (sym is)
        (going, came)
    | inr old ↦ old
  ]

  join_listed : (work : Option Flight) → lets_read work ≡ true
      → ((f : Flight) → work ≡ Some f → IsListed es flown bs epoch k f)
      → IsListed es (flown ++ e ∷ []) bs epoch k (Flight.Reads (reads_with work r))
  join_listed None lets h = one_listed (r ∷ []) (λ q on. elim on [
    | inl is ↦ inl is
    | inr none ↦ absurd none
  ])
  join_listed (Some (Flight.Promote call o gather ask)) lets h = absurd (true≢false (sym lets))
  join_listed (Some (Flight.Write driver owner o q)) lets h = absurd (true≢false (sym lets))
  join_listed (Some (Flight.Reads list)) lets h =
      one_listed (list ++ r ∷ []) (λ q on. elim (in_more list r q on) [
        | inl old ↦
            inr (listed_then es flown e bs epoch k (Flight.Reads list)
            (h (Flight.Reads list) refl) q old)
        | inr is ↦ inl is
      ])
  join_listed (Some (Flight.Flush call o seq blocking drain)) lets h =
      absurd (true≢false (sym lets))

-- ---- it begins, and its Look is sent

module _ (v : GroupView) (call : ℕ) (k : Name) (vector : List SubOp) (h : IsWhole v)
    (b : BeginsRead v call k vector) where
  abbrev R : ReadFlight
  R = read_now call vector v

  abbrev F : Flight
  F = reads_now call k vector v

  abbrev E : Flown
  E = flown_now call kind.Read k v

  going : IsInFlight v.calls.entries call
  going = in_flight v.calls.entries call b.may.entry b.may.found b.may.going

  on : IsIn R (reads_with (fin.get v.traffic.flights k) R)
  on = last_read (fin.get v.traffic.flights k) R b.lets

  there : fin.get (fin.insert v.traffic.flights k F) k ≡ Some F
  there = get_here v.traffic.flights k (Some F)

  bare : fin.get (set_at {X = TierRec} fin.empty k None) k ≡ None
  bare = get_here {X = TierRec} fin.empty k None

  pub read_flies : Keeps as_it_is None v (flown_read call k vector v)
  read_flies =
      flies v call kind.Read k F None (BaseMsg.Look v.standing.cache_epoch R.opid k vector)
      v.traffic.begun h b.may.settled b.may.up going b.bare (b.lets, bare, (R, refl, refl)) refl
      refl tt (refl, (reads_with (fin.get v.traffic.flights k) R, R, there, on, refl, refl))
      (λ start z i s. (b.lets, rec_is start (joined v) z k None b.bare i s, (R, refl, refl)))
      (λ start z i s. (
        refl,
        (
          reads_with (fin.get v.traffic.flights k) R,
          R,
          there,
          on,
          refl,
          refl,
        ),
      ))
      (work_comes v.calls.entries v.calls.entries v.traffic.flights v.traffic.begun v.traffic.begun
      v.standing.cache_epoch (length v.log.answers) k F (λ c g. g) (λ c g. g)
      (λ x there other. there)
      (join_kinds (fin.get v.traffic.flights k) R b.lets) v.calls.flown E
      (is_known v.calls.entries call going) refl refl refl (R, on, refl)
      (join_listed v.calls.entries v.calls.flown E v.traffic.begun v.standing.cache_epoch k R going
      (has_come v.calls.flown E (λ f. f.call ≡ call) refl refl) (fin.get v.traffic.flights k)
      b.lets (h.flights.listed k)) h.flights)
      (begun_later v.traffic.next_message v.traffic.begun h.traffic.begun)

pub reads_fly_keeps : ReadsFlyKeeps
reads_fly_keeps = read_flies

pub reads_join_last : ReadsJoinLast
reads_join_last None r lets = (tt, refl)
reads_join_last (Some (Flight.Promote call o gather ask)) r lets = absurd (true≢false (sym lets))
reads_join_last (Some (Flight.Write driver owner o q)) r lets = absurd (true≢false (sym lets))
reads_join_last (Some (Flight.Reads list)) r lets = (tt, refl)
reads_join_last (Some (Flight.Flush call o seq blocking drain)) r lets =
    absurd (true≢false (sym lets))
