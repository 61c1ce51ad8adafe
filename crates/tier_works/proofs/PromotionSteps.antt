-- A promotion begins, its chunks are gathered, and it is removed when it is whole.
use Rattle.std.proofs.Common.{◌≡◌, ℕ, List, [], ◌∷◌, ◌++◌, length, Some, None, refl, sym, subst}
use Rattle.std.specs.FinMap as fin
use Rattle.copy_chunk.specs.Gathers.{wanted}
use Rattle.copy_chunk.specs.declared.chunk.Chunk.{Chunk}
use Rattle.copy_chunk.specs.declared.chunk.Cursor.TheVariants.{Head}
use Rattle.obj_model.specs.declared.state.NameState.{NameState}
use Rattle.obj_model.specs.declared.tier.Kind.{Kind}
use Rattle.obj_model.specs.declared.tier.Kind.TheVariants as kind
use Rattle.obj_ops.specs.Stores.{Store}
use Rattle.tier_join.specs.Group.{TwoMaps, tier_of}
use Rattle.tier_join.specs.Promises.{Promises, as_it_is}
use Rattle.tier_join.specs.Steps.{with_doubt}
use Rattle.tier_join.proofs.CacheSteps.{rec_is}
use Rattle.tier_join.proofs.MemorySteps.{gathering_promises, losing_promises}
use Rattle.tier_owners.proofs.Quiets.{gathering_quiet}
use Rattle.tier_protocol.specs.Moves.{gathered, set_at}
use Rattle.tier_protocol.specs.Tiers.{Ask, BaseMsg, Flight, Name, Tier, TierRec}
use Rattle.tier_protocol.proofs.Cells.{get_here, get_there, names_by}
use Rattle.tier_protocol.proofs.Owners.{quiet_keeps}
use Rattle.tier_protocol.proofs.Steps.{gathering}
use Rattle.tier_types.specs.Flights.{HasOpid, IsLeftOf, name_asked}
use Rattle.tier_view.specs.Answers.{KeepsQuietly, NoMore}
use Rattle.tier_view.specs.Calls.{IsInFlight}
use Rattle.tier_view.specs.declared.parts.Flown.{Flown}
use Rattle.tier_view.specs.Laws.{Keeps}
use Rattle.tier_view.specs.Locals.{PromotesHere, freed}
use Rattle.tier_view.specs.Tables.{IsOfKind}
use Rattle.tier_view.specs.Views.{GroupView, joined, ledger_in}
use Rattle.tier_view.specs.Whole.{IsWhole}
use Rattle.tier_view.specs.Worlds.{IsOwned}
use Rattle.tier_view.proofs.AnsweringEnds.{by_dropped}
use Rattle.tier_view.proofs.Beginning.{none_of_kind, owned_surely, surely_owned}
use Rattle.tier_view.proofs.Finding.{is_known}
use Rattle.tier_view.proofs.LocalWork.{flown_gone, one_number, work_gone}
use Rattle.tier_works.specs.Promotions.{AskingChunksKeeps, BeginsPromotion, FeedingAsksKeeps, FeedingKeeps, Feeds, PromotionsFlyKeeps, RemovingPromotionsKeeps, chunk_asked, fed_promotion, flown_promotion}
use Rattle.tier_works.specs.Works.{flown_now}
use Rattle.tier_works.proofs.WriteSteps.{left_same}
use Rattle.tier_works.proofs.Beginnings.{flies}
use Rattle.tier_works.proofs.QuietSteps.{promises_as_doubted, no_doubt, quiet_step, quietly_both, same_entries, same_flown}
use Rattle.tier_works.proofs.Sendings.{begun_later, sent_quietly}
use Rattle.tier_works.proofs.WorkTables.{has_come, in_flight, work_changes, work_comes}

-- ---- a chunk is asked for

pub asking_chunks_keeps : AskingChunksKeeps
asking_chunks_keeps v k call op gather ask at h none flies wants =
    sent_quietly v (BaseMsg.GetChunk v.standing.cache_epoch op k at) None h none refl tt
    (refl, (call, gather, ask, flies, wants))
    (λ start z i s. (refl, (call, gather, ask, flies, wants)))

-- ---- a promotion begins

wants_head : wanted [] ≡ Some Head
unfolding wanted
wants_head = refl

promote_kinds : (call op : ℕ) (old gather : List Chunk) (ask : Ask) (j : Kind) (o : ℕ)
    → IsOfKind (Some (Flight.Promote call op old ask)) j o
    → IsOfKind (Some (Flight.Promote call op gather ask)) j o
promote_kinds call op old gather ask kind.Promote o h = h
promote_kinds call op old gather ask kind.Write o h = absurd h
promote_kinds call op old gather ask kind.Read o h = absurd h
promote_kinds call op old gather ask kind.Flush o h = absurd h

module _ (v : GroupView) (call : ℕ) (ask : Ask) (h : IsWhole v) (b : BeginsPromotion v call ask)
  where
    abbrev K : Name
    K = name_asked ask

    abbrev F : Flight
    F = Flight.Promote call v.standing.next_opid [] ask

    abbrev E : Flown
    E = flown_now call kind.Promote K v

    going : IsInFlight v.calls.entries call
    going = in_flight v.calls.entries call b.may.entry b.may.found b.may.going

    there : fin.get (fin.insert v.traffic.flights K F) K ≡ Some F
    there = get_here v.traffic.flights K (Some F)

    bare : fin.get (set_at {X = TierRec} fin.empty K None) K ≡ None
    bare = get_here {X = TierRec} fin.empty K None

    pub promotion_flies : Keeps as_it_is None v (flown_promotion call ask v)
    promotion_flies =
        flies v call kind.Promote K F None
        (BaseMsg.GetChunk v.standing.cache_epoch v.standing.next_opid K Head) v.traffic.begun h
        b.may.settled b.may.up going b.bare (b.free, bare, refl, refl, refl) refl refl tt
        (refl, (call, [], ask, there, wants_head))
        (λ start z i s. (b.free, rec_is start (joined v) z K None b.bare i s, refl, refl, refl))
        (λ start z i s. (refl, (call, [], ask, there, wants_head)))
        (work_comes v.calls.entries v.calls.entries v.traffic.flights v.traffic.begun
        v.traffic.begun v.standing.cache_epoch (length v.log.answers) K F (λ c g. g) (λ c g. g)
        (λ x on other. on)
        (λ j o of. absurd (none_of_kind j o (subst (λ x. IsOfKind x j o) b.free of)))
        v.calls.flown E (is_known v.calls.entries call going) refl refl refl refl
        (going, has_come v.calls.flown E (λ f. f.call ≡ call) refl refl) h.flights)
        (begun_later v.traffic.next_message v.traffic.begun h.traffic.begun)

pub promotions_fly_keeps : PromotionsFlyKeeps
promotions_fly_keeps = promotion_flies

-- ---- a chunk is gathered

module _ (v : GroupView) (k : Name) (call op : ℕ) (gather : List Chunk) (ask : Ask) (x : Chunk)
    (h : IsWhole v) (f : Feeds v k call op gather ask x) where
  abbrev W : GroupView
  W = fed_promotion k call op gather ask x v

  abbrev G : Flight
  G = Flight.Promote call op (gather ++ x ∷ []) ask

  fed_promises : Promises as_it_is (joined v) (joined W)
  fed_promises =
      gathering_promises (joined v) (joined W) k call op gather ask x (no_doubt v f.settled)
      (record { flight = f.flight; wanted = f.wanted; reply = f.reply })
      (record { cache = refl; base = refl; doubt = refl }) refl

  fed_owned : (start : Store) (z : TwoMaps) → IsOwned start (joined v).memory (ledger_in v) z
      → IsOwned start (joined W).memory (ledger_in W) z
  fed_owned start z w =
      let t : Tier = tier_of start (joined v).memory w.spells.recs w.spells.base in
      record {
        spells = record {
          recs = w.spells.recs;
          base = w.spells.base;
          cached = w.spells.cached;
          based = w.spells.based;
          sound = gathering t k call op gather ask x w.spells.sound
              (record { flight = f.flight; wanted = f.wanted; reply = f.reply });
        };
        owners = quiet_keeps t (gathered k call op gather ask x t) (ledger_in v) w.owners
            (gathering_quiet t k call op gather ask x);
      }

  pub fed_quietly : KeepsQuietly v W
  fed_quietly =
      quiet_step v h v.calls.entries v.calls.flown W.traffic v.agent
      (promises_as_doubted v W f.settled fed_promises)
      (λ start b z i w.
      owned_surely start W z f.settled (fed_owned start z (surely_owned start v z f.settled w)))
      refl (same_entries v) (same_flown v) refl refl
      (work_changes v.calls.entries v.calls.entries v.traffic.flights v.traffic.begun
      v.traffic.begun v.standing.cache_epoch (length v.log.answers) k G (λ c g. g) (λ c g. g)
      (λ b on other. on)
      (λ j o of. promote_kinds call op gather (gather ++ x ∷ []) ask j o
      (subst (λ w. IsOfKind w j o) f.flight of))
      v.calls.flown (h.flights.listed k (Flight.Promote call op gather ask) f.flight) h.flights)
      (record {
        messages = h.traffic.messages;
        replies = h.traffic.replies;
        answers = h.traffic.answers;
        owned = h.traffic.owned;
        begun = h.traffic.begun;
        awaited = h.traffic.awaited;
      })
      h.totals

pub feeding_keeps : FeedingKeeps
feeding_keeps = fed_quietly

pub feeding_asks_keeps : FeedingAsksKeeps
feeding_asks_keeps v k call op gather ask x at h f wants =
    let u : GroupView = fed_promotion k call op gather ask x v in
    let fed = feeding_keeps v k call op gather ask x h f in
    quietly_both v u (chunk_asked k op at u) fed
    (asking_chunks_keeps u k call op (gather ++ x ∷ []) ask at fed.0 f.settled
    (get_here v.traffic.flights k (Some (Flight.Promote call op (gather ++ x ∷ []) ask))) wants)
    refl

-- ---- it is removed

only_promote : (call op : ℕ) (gather : List Chunk) (ask : Ask) (j : Kind) (o : ℕ)
    → IsOfKind (Some (Flight.Promote call op gather ask)) j o → o ≡ op
only_promote call op gather ask kind.Promote o h = sym h
only_promote call op gather ask kind.Write o h = absurd h
only_promote call op gather ask kind.Read o h = absurd h
only_promote call op gather ask kind.Flush o h = absurd h

module _ (v : GroupView) (k : Name) (call op : ℕ) (gather : List Chunk) (ask : Ask) (s : NameState)
    (h : IsWhole v) (p : PromotesHere v k call op gather ask s) where
  abbrev X : GroupView
  X = freed k (Some op) v

  are_left : (n : Name) → IsLeftOf (fin.get v.traffic.flights n) (fin.get X.traffic.flights n)
  are_left =
      names_by (λ n. IsLeftOf (fin.get v.traffic.flights n) (fin.get X.traffic.flights n)) k
      (subst (IsLeftOf (fin.get v.traffic.flights k)) (sym (get_here v.traffic.flights k None))
      (subst (λ o. IsLeftOf o None) (sym p.flight) refl))
      (λ n other. subst (IsLeftOf (fin.get v.traffic.flights n))
      (sym (get_there v.traffic.flights k None n other)) (left_same (fin.get v.traffic.flights n)))

  promises : Promises (with_doubt (joined v).doubt) (joined v) (joined X)
  promises =
      losing_promises (joined v) (joined X) X.traffic.flights (joined v).memory.net.wire
      (joined v).memory.net.replies are_left (λ m on. on) (λ p on. on)
      (record { cache = refl; base = refl; doubt = refl }) refl

  pub removed_quietly : KeepsQuietly v X
  removed_quietly =
      quiet_step v h v.calls.entries X.calls.flown X.traffic v.agent promises
      (λ start b z i o. by_dropped start (joined v).memory X.traffic.flights are_left (ledger_in v)
      (ledger_in X) z v.stores.pending
      (record { owned = refl; acts = refl; asks = λ c a e. e; closed = λ c e. e }) o)
      refl (same_entries v)
      (flown_gone (length v.log.answers) op NoMore v.calls.flown refl) refl refl
      (work_gone v.calls.entries v.traffic.flights v.traffic.begun v.standing.cache_epoch
      (length v.log.answers) op k h.memory.sound.apart
      (subst (λ o. HasOpid o op) (sym p.flight) refl)
      (one_number v.traffic.flights k (Flight.Promote call op gather ask) op
      (only_promote call op gather ask) p.flight) v.calls.flown h.flights)
      (record {
        messages = h.traffic.messages;
        replies = h.traffic.replies;
        answers = h.traffic.answers;
        owned = h.traffic.owned;
        begun = h.traffic.begun;
        awaited = h.traffic.awaited;
      })
      h.totals

pub removing_promotions_keeps : RemovingPromotionsKeeps
removing_promotions_keeps = removed_quietly
