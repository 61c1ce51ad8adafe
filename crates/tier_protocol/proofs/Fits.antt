-- The moves fit one another.
use Rattle.std.proofs.Common.{◌≡◌, ◌<◌, ℕ, ◌+◌, max, false, [], ◌∷◌, ◌++◌, Option, Some, None, refl, sym, ap, subst, ◌∙◌, arith, inl}
use Rattle.std.specs.Prelude.{if◌then◌else◌, nat_lt}
use Rattle.std.proofs.lemmas.Bool.{le-ltb}
use Rattle.copy_chunk.specs.Chunks.{chunk_at, chunks_of}
use Rattle.copy_chunk.specs.declared.chunk.Chunk.{Chunk}
use Rattle.copy_chunk.proofs.Fronts.{front_goes_on}
use Rattle.obj_ops.specs.declared.request.Acted.{Acted}
use Rattle.obj_ops.specs.declared.request.Acted.TheVariants.{Fresh}
use Rattle.obj_ops.specs.Acts.{act}
use Rattle.obj_ops.specs.Stores.{state_of}
use Rattle.tier_types.specs.Serving.{Served, in_epoch, put_by, replies, told_of}
use Rattle.tier_protocol.specs.Tiers.{Flight, BaseMsg, BaseReply, BaseActed, Net, Tier, cell_of}
use Rattle.tier_protocol.specs.Sound.{IsSound, is_dirty}
use Rattle.tier_protocol.specs.Moves.{begun, delivered, raised, sent, went_up, with_flight, with_net, with_served, MayClean, MayGather, MayLand}
use Rattle.tier_protocol.specs.Fitting.{FlushesClean, PromotionsGoOn, StartsAreUp, WritesLand, flush_asked, write_asked}
use Rattle.tier_protocol.proofs.Cells.{flight_here, rec_here}
use Rattle.tier_protocol.proofs.Delivers.{delivering}
use Rattle.tier_protocol.proofs.Steps.{beginning, going_up, raising, sending}

-- a message of the base's own epoch is served
in_epoch_same : (have e : ℕ) (done : Served) → e ≡ have → in_epoch have e done ≡ done
in_epoch_same have e done same = rw (
  le-ltb e have (omega (arith, same)),
  le-ltb have e (omega
      (arith, same)),
) refl

pub starts_up : StartsAreUp
starts_up t h down = (
  subst (λ u. IsSound (went_up u)) (sym is) (going_up told (subst IsSound is (delivering asked
      (BaseMsg.Fence e) first (inl refl))) (record {
        raised = λ same. absurd
            (cc);
        reply = inl refl;
      })).0,
  subst (λ u. t.net.base_epoch < (went_up u).net.base_epoch) (sym is) (omega arith),
)
  where
    e : ℕ
    e = max t.net.cache_epoch t.net.base_epoch + 1

    asked : Tier
    asked = sent (BaseMsg.Fence e) (raised t)

    first : IsSound asked
    first = sending (raised t) (BaseMsg.Fence e) (raising t e h
        (record { stopped = down; later = omega arith; above = omega arith })) (
          refl,
          λ same. absurd
              (cc),
        )

    told : Tier
    told = with_served (BaseMsg.Fence e) (replies e (BaseReply.Fenced e)) asked

    is : delivered (BaseMsg.Fence e) asked ≡ told
    is = ap (λ b. with_served (BaseMsg.Fence e) (if b then replies t.net.base_epoch
        (BaseReply.OldEpoch t.net.base_epoch e) else replies e (BaseReply.Fenced e)) asked)
        (le-ltb e t.net.base_epoch (omega arith))

pub writes_land : WritesLand
writes_land t call r s answer h up none free acts = (
  second,
  subst (λ u. u.acts ≡ t.acts ++ r ∷ []) (sym is) refl,
  subst (λ u. MayLand u r.name (Some call) call t.net.next_opid r (BaseActed.Fresh answer)) (sym is)
      (record { flight = flight; reply = inl refl }),
)
  where
    f : Flight
    f = Flight.Write (Some call) call t.net.next_opid r

    next : Net
    next = record t.net { next_opid = t.net.next_opid + 1 }

    m : BaseMsg
    m = BaseMsg.Write t.net.cache_epoch t.net.next_opid r

    flight : (cell_of (begun r.name f t) r.name).flight ≡ Some f
    flight = ap (λ c. c.flight) (flight_here (with_net next t) r.name (Some f))

    second : IsSound (write_asked call r t)
    second = sending (begun r.name f t) m (beginning t r.name f h up (free, none, refl, refl))
        (refl, (Some call, call, flight))

    wrote : Acted → Served
    wrote a = record {
      epoch = t.net.base_epoch;
      put = put_by a;
      reply = BaseReply.Wrote
          t.net.cache_epoch t.net.next_opid (told_of a);
    }

    on_base : act (state_of t.base r.name) r ≡ Fresh s answer
    on_base = subst (λ x. act x r ≡ Fresh s answer) (sym ((h.names r.name).clean
        (ap is_dirty none))) acts

    is : delivered m (write_asked call r t) ≡ with_served m (wrote (Fresh s answer))
        (write_asked call r t)
    is = ap (λ x. with_served m x (write_asked call r t))
        (in_epoch_same t.net.base_epoch t.net.cache_epoch (wrote (act (state_of t.base r.name) r))
        (sym (h.epochs.level up)) ∙ ap wrote on_base)

pub flushes_clean : FlushesClean
flushes_clean t k call r blocking drain h up rec dirty free = (
  second,
  subst (λ u. MayClean u k call t.net.next_opid r.state.seq r.state.seq blocking drain r) (sym is)
      (record { flight = flight; reply = inl refl; rec = rec; same = refl }),
  record {
    clean = ap is_dirty (ap (λ c. c.rec) (rec_here (with_flight k None t) k (Some
        (record r { dirty = false }))));
    up = up;
    free = ap (λ c. c.flight) (rec_here (with_flight k None t) k (Some
        (record r { dirty = false }))) ∙ ap (λ c. c.flight) (flight_here t k None);
  },
)
  where
    f : Flight
    f = Flight.Flush call t.net.next_opid r.state.seq blocking drain

    next : Net
    next = record t.net { next_opid = t.net.next_opid + 1 }

    m : BaseMsg
    m = BaseMsg.Install t.net.cache_epoch t.net.next_opid k r.state

    flight : (cell_of (begun k f t) k).flight ≡ Some f
    flight = ap (λ c. c.flight) (flight_here (with_net next t) k (Some f))

    second : IsSound (flush_asked k call r blocking drain t)
    second =
        sending (begun k f t) m (beginning t k f h up (free, refl, (r, rec, dirty, refl)))
        (refl, (call, r.state.seq, blocking, drain, r, flight, rec, refl))

    installed : Served
    installed = record {
      epoch = t.net.base_epoch;
      put = if nat_lt
          (state_of t.base k).seq r.state.seq then Some r.state else None;
      reply = BaseReply.Installed t.net.cache_epoch t.net.next_opid r.state.seq;
    }

    is : delivered m (flush_asked k call r blocking drain t) ≡ with_served m installed
        (flush_asked k call r blocking drain t)
    is = ap (λ x. with_served m x (flush_asked k call r blocking drain t))
        (in_epoch_same t.net.base_epoch t.net.cache_epoch installed (sym (h.epochs.level up)))

pub promotions_go_on : PromotionsGoOn
promotions_go_on t k call op gather ask at h f want =
    let on = front_goes_on gather (cell_of t k).base at
    ((h.names k).gathered call op gather ask f) want in (
      on.chunk,
      subst (λ u. MayGather u k call op gather ask on.chunk) (sym (is on.chunk on.there))
          (record { flight = f; wanted = want ∙ ap Some (sym on.place); reply = inl refl }),
    )
  where
    m : BaseMsg
    m = BaseMsg.GetChunk t.net.cache_epoch op k at

    told : Option Chunk → Served
    told o = replies t.net.base_epoch (BaseReply.Chunk t.net.cache_epoch op o)

    level : t.net.cache_epoch ≡ t.net.base_epoch
    level = sym (h.epochs.level ((h.memory.each k).up (λ free. absurd (cc))))

    is : (x : Chunk) → chunk_at (chunks_of (cell_of t k).base) at ≡ Some x
        → delivered m (sent m t) ≡ with_served m (told (Some x)) (sent m t)
    is x there = ap (λ y. with_served m y (sent m t))
        (in_epoch_same t.net.base_epoch t.net.cache_epoch (told (chunk_at (chunks_of
        (cell_of t k).base) at)) level ∙ ap told there)
