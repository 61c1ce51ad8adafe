-- The two worlds of a doubt.
use Rattle.std.proofs.Common.{◌≡◌, ◌⊎◌, ℕ, Bool, true, false, List, Option, Some, None, refl, sym, ap, subst, ◌∙◌, inl, inr}
use Rattle.std.specs.FinMap as fin
use Rattle.copy_chunk.specs.declared.chunk.Chunk.{Chunk}
use Rattle.obj_model.specs.declared.reply.Reply.{Reply}
use Rattle.obj_model.specs.declared.req.Req.{Req}
use Rattle.obj_model.specs.declared.state.NameState.{NameState}
use Rattle.obj_ops.specs.declared.request.Acted.TheVariants.{Fresh}
use Rattle.obj_ops.specs.Acts.{act}
use Rattle.tier_types.specs.Flights.{IsLeftOf, is_write, lets_write}
use Rattle.tier_protocol.specs.Tiers.{Name, Ask, Flight, TierRec, BaseReply, Phase, Tier, IsIn, AreIn, cell_of}
use Rattle.tier_protocol.specs.Sound.{IsSound}
use Rattle.tier_protocol.specs.Moves.{acted_here, cleaned, delivered, drained, evicted, promoted, taken, went_up, with_flight, with_left, MayActHere, MayGoUp, MayPromote}
use Rattle.tier_protocol.specs.Doubts.{AreWorlds, CacheDoubtKeeps, DoubtKeeps, EpochDoubtKeeps, HaveSameMemory, WorldsGoOn}
use Rattle.tier_protocol.proofs.Cells.{flight_here, rec_here}
use Rattle.tier_protocol.proofs.Delivers.{delivering}
use Rattle.tier_protocol.proofs.Steps.{acting, cleaning, evicting, finding, going_up, leaving, losing, promoting, stopping}

-- all of the work is left
pub left_whole : (f : Option Flight) → IsLeftOf f f
left_whole None = refl
left_whole (Some (Flight.Promote call o gather ask)) = refl
left_whole (Some (Flight.Write driver owner o r)) = (driver, refl)
left_whole (Some (Flight.Reads list)) = (list, refl, λ r on. on)
left_whole (Some (Flight.Flush call o seq blocking drain)) = (call, refl)

pub doubt_keeps : DoubtKeeps
doubt_keeps t m h on = record {
  without = h;
  within = losing (delivered m t) (taken m t) (delivering t m h on)
      (record {
        same = refl;
        flights = λ n. left_whole
            (cell_of t n).flight;
        wire = λ x is. is;
        replies = λ p is. inr is;
      });
  memory = record {
    flights = refl;
    wire = refl;
    replies = refl;
    next_opid = refl;
    phase = refl;
    fenced = refl;
    epoch = inl refl;
  };
}

-- two pairs with the same work and wire
same_memory : (t u : Tier) → t.flights ≡ u.flights → t.net ≡ u.net → HaveSameMemory t u
same_memory t u flights net = record {
  flights = flights;
  wire = ap (λ n. n.wire) net;
  replies = ap (λ n. n.replies) net;
  next_opid = ap (λ n. n.next_opid) net;
  phase = ap (λ n. n.phase) net;
  fenced = ap (λ n. n.fenced) net;
  epoch = inl (ap (λ n. n.cache_epoch) net);
}

-- a promotion that ends
promotion : (t : Tier) (k : Name) (call op : ℕ) (gather : List Chunk) (ask : Ask) (b : NameState)
    (moment : ℕ) → IsSound t → MayPromote t k call op gather ask b
    → AreWorlds (with_flight k None t) (promoted k b moment t)
promotion t k call op gather ask b moment h may = record {
  without = leaving t k None h (ap is_write may.flight);
  within = (promoting t k call op gather ask b moment h may).0;
  memory = same_memory (with_flight k None t) (promoted k b moment t) refl refl;
}

-- one that serves its request at once
served_at_once : (t : Tier) (k : Name) (call op : ℕ) (gather : List Chunk) (ask : Ask)
    (b : NameState) (moment : ℕ) (q : Req) (s : NameState) (answer : Reply) → IsSound t
    → MayPromote t k call op gather ask b
    → q.name ≡ k → act b q ≡ Fresh s answer → AreWorlds (with_flight k None t)
    (acted_here q s moment (promoted k b moment t))
served_at_once t k call op gather ask b moment q s answer h may named acts = record {
  without = leaving t k None h (ap is_write may.flight);
  within = acting (promoted k b moment t) r q s answer moment
      (promoting t k call op gather ask b moment h may).0 there;
  memory = same_memory (with_flight k None t) (acted_here q s moment
      (promoted k b moment t)) refl refl;
}
  where
    r : TierRec
    r = record { state = b; dirty = false; mtime = moment }

    free : (cell_of (promoted k b moment t) k).flight ≡ None
    free = ap (λ c. c.flight) (rec_here (with_flight k None t) k (Some r))
        ∙ ap (λ c. c.flight) (flight_here t k None)

    there : MayActHere (promoted k b moment t) r q s answer
    there = record {
      up = (h.memory.each k).up (λ none. let f = may.flight in absurd (cc));
      rec = subst (λ n. (cell_of (promoted k b moment t) n).rec ≡ Some r) (sym named) (ap
          (λ c. c.rec) (rec_here (with_flight k None t) k (Some r)));
      lets = subst (λ n. lets_write (cell_of (promoted k b moment t) n).flight ≡ true) (sym named)
          (ap lets_write free);
      acts = acts;
    }

pub cache_doubt_keeps : CacheDoubtKeeps
cache_doubt_keeps = (
  λ t r q s answer moment h may. record {
    without = h;
    within = acting t r q s answer moment h may;
    memory = same_memory t (acted_here q s moment t) refl refl;
  },
  λ t k call op gather ask b moment h may. (
    promotion t k call op gather ask b moment h may,
    λ q s answer named acts. served_at_once t k
        call op gather ask b moment q s answer h may named acts,
  ),
  λ t k call op seq m blocking drain r h may.
      let left = leaving t k None h (ap is_write may.flight) in
      let ends = cleaning t k call op seq m blocking drain r h may in (
        record {
          without = left;
          within = ends.0;
          memory = same_memory (with_flight k None t)
              (cleaned k r t) refl refl;
        },
        record {
          without = left;
          within = ends.1;
          memory = same_memory (with_flight k None t)
              (drained k t) refl refl;
        },
      ),
  λ t k h may. record {
    without = h;
    within = evicting t k h may;
    memory = same_memory t
        (evicted k t) refl refl;
  },
)

not_fenced : (t : Tier) → IsSound t → t.net.phase ≡ Phase.Down → (b : Bool) → t.net.fenced ≡ b
    → t.net.fenced ≡ false
not_fenced t h down true is = let up = h.memory.wire.fenced is in absurd (cc)
not_fenced t h down false is = is

pub epoch_doubt_keeps : EpochDoubtKeeps
epoch_doubt_keeps t e h may down = record {
  without = h;
  within = (finding t e h may).0;
  memory = record {
    flights = refl;
    wire = refl;
    replies = refl;
    next_opid = refl;
    phase = down;
    fenced = not_fenced t h down t.net.fenced refl;
    epoch = inr down;
  };
}

pub worlds_go_on : WorldsGoOn
worlds_go_on t u w = (
  record {
    without = (stopping t w.without).0;
    within = (stopping u w.within).0;
    memory = record {
      flights = refl;
      wire = m.wire;
      replies = m.replies;
      next_opid = m.next_opid;
      phase = refl;
      fenced = refl;
      epoch = inr refl;
    };
  },
  record {
    without = (stopping t w.without).1;
    within = (stopping u w.within).1;
    memory = record {
      flights = m.flights;
      wire = m.wire;
      replies = m.replies;
      next_opid =
          m.next_opid;
      phase = m.phase;
      fenced = refl;
      epoch = m.epoch;
    };
  },
  λ flights wire replies left fewer less. record {
    without = losing t (with_left flights wire replies t) w.without
        (record { same = refl; flights = left; wire = fewer; replies = less });
    within = losing u (with_left flights wire replies u) w.within (record {
      same = refl;
      flights = λ n. subst (λ f. IsLeftOf (fin.get f n) (fin.get flights n)) m.flights (left n);
      wire = subst (λ x. AreIn wire x) m.wire fewer;
      replies = subst (λ x. AreIn replies x) m.replies less;
    });
    memory = record {
      flights = refl;
      wire = refl;
      replies = refl;
      next_opid = m.next_opid;
      phase =
          m.phase;
      fenced = m.fenced;
      epoch = m.epoch;
    };
  },
  λ may. ups may m.epoch,
)
  where
    m : HaveSameMemory t u
    m = w.memory

    ups : MayGoUp t.net → (t.net.cache_epoch ≡ u.net.cache_epoch) ⊎ (t.net.phase ≡ Phase.Down)
        → AreWorlds (went_up t) (went_up u)
    ups may (inr down) = absurd (may.raised down)
    ups may (inl same) = record {
      without = (going_up t w.without may).0;
      within = (going_up u w.within (record {
        raised = λ down. may.raised (m.phase ∙ down);
        reply = subst (λ x. IsIn (BaseReply.Fenced u.net.cache_epoch) x) m.replies (subst (λ e. IsIn
            (BaseReply.Fenced e) t.net.replies) same may.reply);
      })).0;
      memory = record {
        flights = m.flights;
        wire = m.wire;
        replies = m.replies;
        next_opid =
            m.next_opid;
        phase = refl;
        fenced = refl;
        epoch = inl same;
      };
    }
