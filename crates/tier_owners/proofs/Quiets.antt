-- Moves that are quiet: they leave the base's states and the history, send nothing, and begin no
-- write.
use Rattle.std.proofs.Common.{◌≡◌, ◌≢◌, ◌≤◌, ℕ, ◌+◌, false, Option, Some, None, refl, sym, ap, subst, ◌∙◌, arith, inl, inr, [], ◌∷◌, ◌++◌}
use Rattle.obj_model.specs.declared.reply.Reply.{Reply}
use Rattle.obj_model.specs.declared.req.Req.{Req}
use Rattle.tier_types.specs.Flights.{is_write}
use Rattle.tier_types.specs.Serving.{epoch_in, opid_in, replies}
use Rattle.tier_protocol.specs.Tiers.{Name, Flight, TierRec, BaseMsg, BaseReply, BaseActed, Phase, Tier, cell_of}
use Rattle.tier_protocol.specs.Sound.{IsSound}
use Rattle.tier_protocol.specs.Moves.{begun, counted_raised, epoch_found, held, raised_to, went_up, with_flight, with_net, with_rec, with_reply, with_served, MayCount, MayRaise}
use Rattle.tier_protocol.specs.Owners.{Ledger, Quiet, SoundOwners}
use Rattle.tier_owners.specs.QuietMoves.{CleaningIsQuiet, EvictingIsQuiet, FillingIsQuiet, GatheringIsQuiet, LandingIsQuiet, PromotingIsQuiet, RaisingIsQuiet}
use Rattle.tier_protocol.proofs.Cells.{flight_here, flight_there, same_or_not}
use Rattle.tier_protocol.proofs.Memory.{free_unless_up}
use Rattle.tier_protocol.proofs.Owners.{free_not_write}

-- nothing changes
pub quiet_same : (t : Tier) → Quiet t t
quiet_same t = record {
  base = refl;
  opening = refl;
  acts = refl;
  later = omega arith;
  wire = λ m on. on;
  given = λ e op g. g;
  writing = λ n driver owner op r f. (refl, (driver, f));
  told = λ e op answer on. on;
}

-- a reply that does not say of a request that it acted just now
pub quiet_replied : (t : Tier) (p : BaseReply)
    → ((e op : ℕ) (answer : Reply) → BaseReply.Wrote e op (BaseActed.Fresh answer) ≡ p → ⊥)
    → Quiet t (with_reply p t)
quiet_replied t p none = record {
  base = refl;
  opening = refl;
  acts = refl;
  later = omega arith;
  wire = λ m on. on;
  given = λ e op g. record { begun = g.begun; silent = g.silent; counted = g.counted };
  writing = λ n driver owner op r f. (refl, (driver, f));
  told = λ e op answer on. elim on [ inl same ↦ absurd (none e op answer same) | inr old ↦ old ];
}

-- the base takes a Fence
pub quiet_fenced : (t : Tier) (e : ℕ) → t.net.base_epoch ≤ e
    → Quiet t (with_served (BaseMsg.Fence e) (replies e (BaseReply.Fenced e)) t)
quiet_fenced t e later = record {
  base = refl;
  opening = refl;
  acts = refl;
  later = later;
  wire = λ m on. on;
  given = λ f op g. record { begun = g.begun; silent = g.silent; counted = g.counted };
  writing = λ n driver owner op r f. (refl, (driver, f));
  told = λ f op answer on. elim on [ inl same ↦ absurd (cc) | inr old ↦ old ];
}

not_write : (f : Option Flight) (d : Option ℕ) (w o : ℕ) (r : Req) → is_write f ≡ false
    → f ≡ Some (Flight.Write d w o r) → ⊥
not_write f d w o r idle e =
    let h : is_write (Some (Flight.Write d w o r)) ≡ false = subst
    (λ x. is_write x ≡ false) e idle in
    absurd (cc)

-- a write request that stands while the work of a name becomes what is none stood before
stood : (t : Tier) (k : Name) (f : Option Flight) → is_write f ≡ false → (n : Name) (d : Option ℕ)
    (w o : ℕ) (r : Req) → (cell_of (with_flight k f t) n).flight ≡ Some (Flight.Write d w o r)
    → (cell_of t n).flight ≡ Some (Flight.Write d w o r)
stood t k f idle n d w o r g = elim (same_or_not n k) [
  | inl is ↦ absurd (not_write f d w o r idle
      (sym (ap (λ c. c.flight) (flight_here t k f))
      ∙ subst (λ m. (cell_of (with_flight k f t) m).flight ≡ Some (Flight.Write d w o r)) is g))
  | inr ne ↦ sym (ap (λ c. c.flight) (flight_there t k f n ne)) ∙ g
]

-- the work of a name changes, and is no write request then
pub quiet_at : (t : Tier) (k : Name) (f : Option Flight) → is_write f ≡ false
    → Quiet t (with_flight k f t)
quiet_at t k f idle = record {
  base = refl;
  opening = refl;
  acts = refl;
  later = omega arith;
  wire = λ m on. on;
  given = λ e op g. record { begun = g.begun; silent = g.silent; counted = g.counted };
  writing = λ n d w o r g. (refl, (d, stood t k f idle n d w o r g));
  told = λ e op answer on. on;
}

-- a record changes
pub quiet_rec : (t u : Tier) (k : Name) (v : Option TierRec) → Quiet t u → Quiet t (with_rec k v u)
quiet_rec t u k v q = record {
  base = q.base;
  opening = q.opening;
  acts = q.acts;
  later = q.later;
  wire = q.wire;
  given = q.given;
  writing = q.writing;
  told = q.told;
}

-- the work on a name ends, and its record is put
pub quiet_held : (t : Tier) (k : Name) (v : Option TierRec) → Quiet t (held k v t)
quiet_held t k v = quiet_rec t (with_flight k None t) k v (quiet_at t k None refl)

-- work that is no write request begins
pub quiet_begun : (t : Tier) (k : Name) (f : Flight) → is_write (Some f) ≡ false
    → Quiet t (begun k f t)
quiet_begun t k f idle = record {
  base = refl;
  opening = refl;
  acts = refl;
  later = omega arith;
  wire = λ m on. on;
  given = λ e op g.
      record { begun = g.begun; silent = g.silent; counted = λ now. omega (arith, g.counted now) };
  writing = λ n d w o r g. (
    refl,
    (
      d,
      stood (with_net (record t.net { next_opid = t.net.next_opid + 1 }) t) k
          (Some f) idle n d w o r g,
    ),
  );
  told = λ e op answer on. on;
}

-- ---- starts

none_writes : (t : Tier) → IsSound t → t.net.phase ≢ Phase.Up → (n : Name) (d : Option ℕ) (w o : ℕ)
    (r : Req) → (cell_of t n).flight ≡ Some (Flight.Write d w o r) → ⊥
none_writes t h down n d w o r f =
    free_not_write (cell_of t n).flight d w o r
    (free_unless_up n (cell_of t n).flight t.net (h.memory.each n) down) f

pub quiet_raised : (t : Tier) (e : ℕ) → IsSound t → MayRaise t e → Quiet t (raised_to e t)
quiet_raised t e h may = record {
  base = refl;
  opening = refl;
  acts = refl;
  later = omega arith;
  wire = λ m on. on;
  given = λ f op g. record {
    begun = omega (arith, g.begun, may.later);
    silent = λ r. omega (arith, g.begun, may.later);
    counted = λ now. absurd (omega (arith, g.begun, may.later, now));
  };
  writing = λ n d w o r f. absurd (none_writes t h may.stopped n d w o r f);
  told = λ f op answer on. on;
}

pub quiet_found : (t : Tier) (e : ℕ) → IsSound t → MayRaise t e → Quiet t (epoch_found e t)
quiet_found t e h may = record {
  base = refl;
  opening = refl;
  acts = refl;
  later = omega arith;
  wire = λ m on. on;
  given = λ f op g. record {
    begun = omega (arith, g.begun, may.later);
    silent = λ r. absurd (cc);
    counted = λ now. absurd (omega (arith, g.begun, may.later, now));
  };
  writing = λ n d w o r f. absurd (none_writes t h may.stopped n d w o r f);
  told = λ f op answer on. on;
}

pub quiet_up : (t : Tier) → Quiet t (went_up t)
quiet_up t = record {
  base = refl;
  opening = refl;
  acts = refl;
  later = omega arith;
  wire = λ m on. on;
  given = λ e op g. record { begun = g.begun; silent = λ r. absurd (cc); counted = g.counted };
  writing = λ n driver owner op r f. (refl, (driver, f));
  told = λ e op answer on. on;
}

-- an epoch that was found counts as the raise: what was sent is of the epochs before it
pub counting_keeps : (t : Tier) (l : Ledger) → IsSound t → SoundOwners t l → MayCount t
    → SoundOwners (counted_raised t) l
counting_keeps t l h w may = record {
  same = w.same;
  known = w.known;
  asked = w.asked;
  given = λ o is. record {
    begun = omega (arith, w.reached o is, may.above);
    silent = λ r. omega (arith, w.reached o is, may.above);
    counted = λ now. absurd (omega (arith, w.reached o is, may.above, now));
  };
  reached = w.reached;
  acted = w.acted;
  once = w.once;
  pending = w.pending;
  writing = λ n d owner o r f. absurd (none_writes t h (λ up. let d = may.down in absurd
      (cc)) n d owner o r f);
}

-- ---- the laws

pub filling_quiet : FillingIsQuiet
filling_quiet t m used need limit =
    quiet_replied t (BaseReply.NoSpace (epoch_in m) (opid_in m) used need limit)
    (λ e op answer same. absurd (cc))

pub gathering_quiet : GatheringIsQuiet
gathering_quiet t k call op gather ask x =
    quiet_at t k (Some (Flight.Promote call op (gather ++ x ∷ []) ask)) refl

pub promoting_quiet : PromotingIsQuiet
promoting_quiet t k s moment =
    quiet_held t k (Some (record { state = s; dirty = false; mtime = moment }))

pub cleaning_quiet : CleaningIsQuiet
cleaning_quiet t k r =
    (quiet_held t k (Some (record r { dirty = false })), quiet_held t k None)

pub evicting_quiet : EvictingIsQuiet
evicting_quiet t k = quiet_rec t t k None (quiet_same t)

pub landing_quiet : LandingIsQuiet
landing_quiet t k = quiet_at t k None refl

pub raising_quiet : RaisingIsQuiet
raising_quiet t e h may = (quiet_raised t e h may, quiet_found t e h may)
