-- A flush begins, by a call that waits for it or alone, and its Install is sent; and a call comes
-- for one that was begun alone.
use Rattle.std.proofs.Common.{◌≡◌, ◌≢◌, ◌<◌, ◌⊎◌, inl, inr, ℕ, ◌+◌, Bool, false, true≢false, List, [], ◌∷◌, length, Option, Some, None, refl, sym, subst, ◌∙◌, arith}
use Rattle.std.specs.FinMap as fin
use Rattle.std.specs.List.{AllByRecursion}
use Rattle.obj_model.specs.declared.tier.Kind.{Kind}
use Rattle.obj_model.specs.declared.tier.Kind.TheVariants as kind
use Rattle.tier_chron.specs.declared.asked.Asked.{Asked}
use Rattle.tier_join.specs.Promises.{Promises, as_it_is}
use Rattle.tier_join.specs.Steps.{with_doubt}
use Rattle.tier_join.proofs.CacheSteps.{rec_is}
use Rattle.tier_join.proofs.MemorySteps.{losing_promises}
use Rattle.tier_protocol.specs.Moves.{begun, set_at}
use Rattle.tier_protocol.specs.Tiers.{BaseMsg, Flight, IsIn, Name, TierRec}
use Rattle.tier_protocol.proofs.Cells.{get_here, get_there, names_by, same_or_not}
use Rattle.tier_types.specs.Flights.{IsLeftOf}
use Rattle.tier_view.specs.Answers.{KeepsQuietly}
use Rattle.tier_view.specs.Calls.{IsInFlight}
use Rattle.tier_view.specs.declared.parts.Entry.{Entry}
use Rattle.tier_view.specs.declared.parts.Flown.{Flown}
use Rattle.tier_view.specs.Laws.{Keeps}
use Rattle.tier_view.specs.Tables.{AnyCall, IsBegunAlone, IsDriven, IsListed, IsOfKind}
use Rattle.tier_view.specs.declared.parts.Begun.{Begun}
use Rattle.tier_view.specs.Views.{GroupView, joined, ledger_in}
use Rattle.tier_view.specs.Whole.{IsWhole}
use Rattle.tier_view.proofs.AnsweringEnds.{by_dropped}
use Rattle.tier_view.proofs.Beginning.{none_of_kind}
use Rattle.tier_view.proofs.Finding.{is_known}
use Rattle.tier_view.proofs.Resting.{rests_promises}
use Rattle.tier_works.specs.Flushes.{FlushesFlyAloneKeeps, FlushesFlyKeeps, IsFlushable, SendingInstallsKeeps, TakesFlush, TakingFlushesKeeps, TakingOldFlushesKeeps, begun_now, flush_now, is_alone, sent_flush, taken_flush, with_begun}
use Rattle.tier_works.specs.Works.{MayFly, flown_now}
use Rattle.tier_works.proofs.Beginnings.{flies}
use Rattle.tier_works.proofs.QuietSteps.{quiet_step, same_entries, same_flown}
use Rattle.tier_works.proofs.Sendings.{begun_later, sent_quietly}
use Rattle.tier_works.proofs.WorkTables.{has_come, in_flight, work_changes, work_comes}
use Rattle.tier_works.proofs.WriteSteps.{left_same}

-- ---- its Install is sent again

pub sending_installs_keeps : SendingInstallsKeeps
sending_installs_keeps v k call op seq blocking drain r h none flies has =
    sent_quietly v (BaseMsg.Install v.standing.cache_epoch op k r.state) (Some r) h none refl has (
      refl,
      (
        call,
        seq,
        blocking,
        drain,
        r,
        flies,
        get_here {X = TierRec} fin.empty k (Some r),
        refl,
      ),
    )
    (λ start z i s. (
      refl,
      (
        call,
        seq,
        blocking,
        drain,
        r,
        flies,
        rec_is start (joined v) z k (Some r) has i s,
        refl,
      ),
    ))

-- ---- it begins

module _ (v : GroupView) (call : ℕ) (waiter : Option ℕ) (k : Name) (r : TierRec)
    (blocking drain : Bool) (bs : List Begun) (wants : Asked → Type 0) (h : IsWhole v)
    (may : MayFly v call wants) (on : IsFlushable v k r) where
  abbrev F : Flight
  F = flush_now waiter r blocking drain v

  abbrev E : Flown
  E = flown_now call kind.Flush k v

  going : IsInFlight v.calls.entries call
  going = in_flight v.calls.entries call may.entry may.found may.going

  there : fin.get (fin.insert v.traffic.flights k F) k ≡ Some F
  there = get_here v.traffic.flights k (Some F)

  shown : fin.get (set_at {X = TierRec} fin.empty k (Some r)) k ≡ Some r
  shown = get_here {X = TierRec} fin.empty k (Some r)

  -- where somebody in flight waits for it, or it is among those that were begun alone
  pub flush_flies : IsDriven v.calls.entries waiter
      → IsBegunAlone bs v.standing.cache_epoch k waiter
      → ((b : Begun) → IsIn b v.traffic.begun → b.name ≢ k → IsIn b bs)
      → AllByRecursion (λ b. b.message < v.traffic.next_message + 1) bs
      → Keeps as_it_is None v (with_begun bs (sent_flush call waiter k r blocking drain v))
  flush_flies driven alone others sent =
      flies v call kind.Flush k F (Some r)
      (BaseMsg.Install v.standing.cache_epoch v.standing.next_opid k r.state) bs h may.settled
      may.up going on.has (on.free, refl, (r, shown, on.dirty, refl)) refl refl on.has
      (refl, (waiter, r.state.seq, blocking, drain, r, there, shown, refl))
      (λ start z i s. (
        on.free,
        refl,
        (r, rec_is start (joined v) z k (Some r) on.has i s, on.dirty, refl),
      ))
      (λ start z i s. (
        refl,
        (
          waiter,
          r.state.seq,
          blocking,
          drain,
          r,
          there,
          rec_is start (joined v) z k (Some r) on.has i s,
          refl,
        ),
      ))
      (work_comes v.calls.entries v.calls.entries v.traffic.flights v.traffic.begun bs
      v.standing.cache_epoch (length v.log.answers) k F (λ c g. g) (λ c g. g) others
      (λ j o of. absurd (none_of_kind j o (subst (λ x. IsOfKind x j o) on.free of)))
      v.calls.flown E (is_known v.calls.entries call going) refl refl refl refl
      (driven, alone, has_come v.calls.flown E AnyCall refl tt) h.flights)
      sent

-- ---- a call waits for it

pub flushes_fly_keeps : FlushesFlyKeeps
flushes_fly_keeps v call k r blocking drain h b =
    flush_flies v call (Some call) k r blocking drain v.traffic.begun _ h b.may b.on
    (in_flight v.calls.entries call b.may.entry b.may.found b.may.going) tt
    (λ x on other. on) (begun_later v.traffic.next_message v.traffic.begun h.traffic.begun)

-- ---- nobody waits for it

all_below : (next : ℕ) (old new : List Begun) (this : Begun) → this.message < next
    → AllByRecursion (λ b. b.message < next) old
    → ((b : Begun) → IsIn b new → (b ≡ this) ⊎ IsIn b old)
    → AllByRecursion (λ b. b.message < next) new
all_below next old [] this less h only = tt
all_below next old (b ∷ new) this less h only = (
  elim (only b (inl refl)) [
    | inl is ↦ subst (λ x. x.message < next) (sym is) less
    | inr on ↦ one old h on
  ],
  all_below next old new this less h (λ x on. only x (inr on)),
)
  where
    one : (xs : List Begun) → AllByRecursion (λ b. b.message < next) xs → IsIn b xs
        → b.message < next
    one [] h on = absurd on
    one (x ∷ xs) h (inl is) = subst (λ y. y.message < next) (sym is) h.0
    one (x ∷ xs) h (inr on) = one xs h.1 on

pub flushes_fly_alone_keeps : FlushesFlyAloneKeeps
flushes_fly_alone_keeps v call k r blocking begun h b =
    flush_flies v call None k r blocking false begun _ h b.may b.on tt
    (begun_now k v, b.enters.this, refl, refl)
    (λ x on other. elim (b.enters.others x on) [
      | inl same ↦ absurd (other same)
      | inr there ↦ there
    ])
    (all_below (v.traffic.next_message + 1) v.traffic.begun begun (begun_now k v)
    (omega arith)
    (begun_later v.traffic.next_message v.traffic.begun h.traffic.begun) b.enters.only)

-- ---- a call comes for it

flush_kinds : (was waiter : Option ℕ) (op seq : ℕ) (blocking drain : Bool) (j : Kind) (o : ℕ)
    → IsOfKind (Some (Flight.Flush was op seq blocking drain)) j o
    → IsOfKind (Some (Flight.Flush waiter op seq blocking drain)) j o
flush_kinds was waiter op seq blocking drain kind.Promote o h = absurd h
flush_kinds was waiter op seq blocking drain kind.Write o h = absurd h
flush_kinds was waiter op seq blocking drain kind.Read o h = absurd h
flush_kinds was waiter op seq blocking drain kind.Flush o h = h

fewer_below : (next : ℕ) (old new : List Begun) → AllByRecursion (λ b. b.message < next) old
    → ((b : Begun) → IsIn b new → IsIn b old) → AllByRecursion (λ b. b.message < next) new
fewer_below next old new h only = by new only
  where
    one : (b : Begun) (xs : List Begun) → AllByRecursion (λ x. x.message < next) xs → IsIn b xs
        → b.message < next
    one b [] h on = absurd on
    one b (x ∷ xs) h (inl is) = subst (λ y. y.message < next) (sym is) h.0
    one b (x ∷ xs) h (inr on) = one b xs h.1 on

    by : (xs : List Begun) → ((b : Begun) → IsIn b xs → IsIn b old)
        → AllByRecursion (λ x. x.message < next) xs
    by [] only = tt
    by (x ∷ xs) only = (one x old h (only x (inl refl)), by xs (λ b on. only b (inr on)))

module _ (v : GroupView) (call : ℕ) (k : Name) (op seq : ℕ) (blocking drain : Bool)
    (begun : List Begun) (h : IsWhole v) (q : TakesFlush v call k op seq blocking drain begun) where
  abbrev W : GroupView
  W = taken_flush call k op seq blocking drain begun v

  abbrev G : Flight
  G = Flight.Flush (Some call) op seq blocking drain

  are_left : (n : Name) → IsLeftOf (fin.get v.traffic.flights n) (fin.get W.traffic.flights n)
  are_left =
      names_by (λ n. IsLeftOf (fin.get v.traffic.flights n) (fin.get W.traffic.flights n)) k
      (subst (IsLeftOf (fin.get v.traffic.flights k))
      (sym (get_here v.traffic.flights k (Some G))) (None, q.alone))
      (λ n other. subst (IsLeftOf (fin.get v.traffic.flights n))
      (sym (get_there v.traffic.flights k (Some G) n other))
      (left_same (fin.get v.traffic.flights n)))

  promises : Promises (with_doubt (joined v).doubt) (joined v) (joined W)
  promises =
      losing_promises (joined v) (joined W) W.traffic.flights (joined v).memory.net.wire
      (joined v).memory.net.replies are_left (λ m on. on) (λ p on. on)
      (record { cache = refl; base = refl; doubt = refl }) refl

  taken_quietly : KeepsQuietly v W
  taken_quietly =
      quiet_step v h v.calls.entries v.calls.flown W.traffic v.agent promises
      (λ start b z i o. by_dropped start (joined v).memory W.traffic.flights are_left (ledger_in v)
      (ledger_in W) z v.stores.pending
      (record { owned = refl; acts = refl; asks = λ c a e. e; closed = λ c e. e }) o)
      refl (same_entries v) (same_flown v) refl refl
      (work_changes v.calls.entries v.calls.entries v.traffic.flights v.traffic.begun begun
      v.standing.cache_epoch (length v.log.answers) k G (λ c g. g) (λ c g. g)
      (λ x on other. elim (q.leaves.others x on) [
        | inl same ↦ absurd (other same)
        | inr there ↦ there
      ])
      (λ j o of. flush_kinds None (Some call) op seq blocking drain j o
      (subst (λ x. IsOfKind x j o) q.alone of))
      v.calls.flown (
        in_flight v.calls.entries call q.entry q.found q.going,
        tt,
        (h.flights.listed k (Flight.Flush None op seq blocking drain) q.alone).2,
      ) h.flights)
      (record {
        messages = h.traffic.messages;
        replies = h.traffic.replies;
        answers = h.traffic.answers;
        owned = h.traffic.owned;
        begun = fewer_below v.traffic.next_message v.traffic.begun begun h.traffic.begun
            q.leaves.only;
        awaited = h.traffic.awaited;
      })
      h.totals

pub taking_flushes_keeps : TakingFlushesKeeps
taking_flushes_keeps = taken_quietly

-- ---- one of an epoch that is over

-- a flush for which nobody waits is on another name
not_alone : (w : Option Flight) (f : Flight) → is_alone w ≡ false → w ≡ Some f
    → is_alone (Some f) ≡ false
not_alone w f none is = subst (λ x. is_alone x ≡ false) is none

module _ (es : List Entry) (flown : List Flown) (bs cs : List Begun) (epoch : ℕ) (k : Name)
    (others : (b : Begun) → IsIn b bs → (b.name ≡ k) ⊎ IsIn b cs) where
  still_listed : (n : Name) (f : Flight) → (n ≡ k) ⊎ (n ≢ k)
      → (n ≡ k → is_alone (Some f) ≡ false) → IsListed es flown bs epoch n f
      → IsListed es flown cs epoch n f
  still_listed n (Flight.Promote call op gather ask) either free h = h
  still_listed n (Flight.Write driver owner op r) either free h = h
  still_listed n (Flight.Reads list) either free h = h
  still_listed n (Flight.Flush (Some call) op seq blocking drain) either free h = h
  still_listed n (Flight.Flush None op seq blocking drain) (inl same) free h =
      absurd (true≢false (free same))
  still_listed n (Flight.Flush None op seq blocking drain) (inr other) free h = (
    tt,
    (
      h.1.0,
      elim (others h.1.0 h.1.1) [
        | inl same ↦ absurd (other (sym h.1.2 ∙ same))
        | inr there ↦ there
      ],
      h.1.2,
      h.1.3,
    ),
    h.2,
  )

pub taking_old_flushes_keeps : TakingOldFlushesKeeps
taking_old_flushes_keeps v k begun h free is =
    quiet_step v h v.calls.entries v.calls.flown (record v.traffic { begun = begun }) v.agent
    (rests_promises (joined v)) (λ start b z i o. o) refl (same_entries v) (same_flown v) refl refl
    (record {
      listed = λ n f there.
          still_listed v.calls.entries v.calls.flown v.traffic.begun begun v.standing.cache_epoch k
          is.others n f (same_or_not n k)
          (λ same. not_alone (fin.get v.traffic.flights n) f
          (subst (λ m. is_alone (fin.get v.traffic.flights m) ≡ false) (sym same) free) there)
          (h.flights.listed n f there);
      table = h.flights.table;
    })
    (record {
      messages = h.traffic.messages;
      replies = h.traffic.replies;
      answers = h.traffic.answers;
      owned = h.traffic.owned;
      begun = fewer_below v.traffic.next_message v.traffic.begun begun h.traffic.begun is.only;
      awaited = h.traffic.awaited;
    })
    h.totals
