-- The moves of the cache, and of work.
use Rattle.std.proofs.Common.{◌≡◌, ◌≢◌, ◌≤◌, ◌⊎◌, ℕ, ◌+◌, ◌^◌, true, false, List, [], ◌∷◌, ◌++◌, Option, Some, None, refl, sym, ap, subst, ◌∙◌, arith, inl, inr}
use Rattle.std.specs.FinMap as fin
use Rattle.copy_chunk.specs.declared.chunk.Chunk.{Chunk}
use Rattle.copy_chunk.proofs.Fronts.{joined_front}
use Rattle.obj_model.specs.declared.req.Req.{Req}
use Rattle.obj_model.specs.declared.state.NameState.{NameState}
use Rattle.obj_ops.specs.declared.request.Acted.TheVariants.{Fresh}
use Rattle.obj_ops.specs.Acts.{act}
use Rattle.tier_types.specs.Flights.{HasOpid, is_bare, is_write, name_asked}
use Rattle.tier_types.specs.Serving.{lasting}
use Rattle.tier_protocol.specs.Tiers.{Name, Flight, TierRec, BaseMsg, BaseReply, BaseActed, Phase, Net, Tier, Cell, cell_of}
use Rattle.tier_protocol.specs.Memory.{IsGiven, IsOwn, IsSent, SoundFlight}
use Rattle.tier_protocol.specs.Sound.{Covers, IsHarmless, IsKnown, IsSound, Shows, SoundAt, is_dirty, is_fresh}
use Rattle.tier_protocol.specs.Moves.{acted_here, begun, held, reads_with, sent, with_act, with_flight, with_net, with_rec}
use Rattle.tier_protocol.specs.Laws.{ActingKeeps, BeginningKeeps, CleaningKeeps, EvictingKeeps, GatheringKeeps, LandingKeeps, LeavingKeeps, LosingKeeps, PromotingKeeps, SendingKeeps}
use Rattle.tier_protocol.proofs.Requests.{fresh_more, spent_of}
use Rattle.tier_protocol.proofs.Cells.{act_here, act_there, flight_here, flight_there, names_by, rec_here, rec_there}
use Rattle.tier_protocol.proofs.Memory.{all_in, flight_begun, flight_gathered, flight_left, flight_read, left_opids, memory_at, memory_begun, memory_left, memory_sent, old_or_new}
use Rattle.tier_protocol.proofs.Epochs.{epochs_as, epochs_sent}
use Rattle.tier_protocol.proofs.Names.{at_acted_here, at_as, at_begun, at_free, at_gathered, at_left, at_read, at_rec, at_sent, spent_then}
pub use Rattle.tier_protocol.proofs.Starts.{base_alone, counting, each_stands, finding, found_sound, going_up, history_legal, raising, sound_stands, stopping}

-- a record shows the plain store's state
pub shown : (t : Tier) (k : Name) (r : TierRec) → IsSound t → (cell_of t k).rec ≡ Some r
    → r.state ≡ (cell_of t k).plain
shown t k r h rec = subst (λ x. Shows x (cell_of t k).plain) rec (h.names k).shows

-- ---- the cache

pub acting : ActingKeeps
acting t r q s answer moment h may = record {
  memory = h.memory;
  legal = fresh_more t.acts t.opening q h.legal (ap is_fresh on_plain);
  epochs = h.epochs;
  names = names_by (λ n. SoundAt n (cell_of (acted_here q s moment t) n) t.net) q.name this other;
}
  where
    v : TierRec
    v = record { state = s; dirty = true; mtime = moment }

    on_plain : act (cell_of t q.name).plain q ≡ Fresh s answer
    on_plain = subst (λ x. act x q ≡ Fresh s answer) (shown t q.name r h may.rec) may.acts

    this : SoundAt q.name (cell_of (acted_here q s moment t) q.name) t.net
    this =
        subst (λ c. SoundAt q.name c t.net) (sym (rec_here (with_act q t) q.name (Some v)
        ∙ ap {A = Cell} {B = Cell} (λ c. record c { rec = Some v })
        (act_here t q s answer on_plain)))
        (at_acted_here q.name (cell_of t q.name) t.net r v q answer
        (h.names q.name) may.up may.rec may.lets refl on_plain)

    other : (n : Name) → n ≢ q.name → SoundAt n (cell_of (acted_here q s moment t) n) t.net
    other n ne = subst (λ c. SoundAt n c t.net) (sym (rec_there (with_act q t) q.name (Some v) n ne
        ∙ act_there t q s answer n on_plain ne)) (h.names n)

-- the work on one name changes, and with it what has to be said of the name
flown : (t : Tier) (k : Name) (f : Option Flight) → IsSound t → SoundFlight k f t.net → ((op : ℕ)
    → HasOpid f op → HasOpid (cell_of t k).flight op)
    → SoundAt k (record (cell_of t k) { flight = f }) t.net → IsSound (with_flight k f t)
flown t k f h work fewer this = record {
  memory = memory_at t.flights t.net k f h.memory work fewer;
  legal = h.legal;
  epochs = h.epochs;
  names = names_by (λ n. SoundAt n (cell_of (with_flight k f t) n) t.net) k (subst
      (λ c. SoundAt k c t.net) (sym (flight_here t k f)) this)
      (λ n ne. subst (λ c. SoundAt n c t.net) (sym (flight_there t k f n ne)) (h.names n));
}

pub leaving : LeavingKeeps
leaving t k f h left =
    flown t k f h (flight_left k (cell_of t k).flight f t.net (h.memory.each k) left) (left_opids
    (cell_of t k).flight f left) (at_left k (cell_of t k) t.net f (h.names k) left)

-- the record of a name that nothing is under way on, while the base has its state of the plain
-- store
put : (t : Tier) (k : Name) (v : Option TierRec) → IsSound t → t.net.phase ≡ Phase.Up
    → (cell_of t k).flight ≡ None → (cell_of t k).base ≡ (cell_of t k).plain
    → Shows v (cell_of t k).plain → IsSound (with_rec k v t)
put t k v h up free level shows = record {
  memory = h.memory;
  legal = h.legal;
  epochs = h.epochs;
  names = names_by (λ n. SoundAt n (cell_of (with_rec k v t) n) t.net) k
      (subst (λ c. SoundAt k c t.net) (sym (rec_here t k v)) (at_rec k (cell_of t k) t.net v
      (h.names k) up free level shows))
      (λ n ne. subst (λ c. SoundAt n c t.net) (sym (rec_there t k v n ne)) (h.names n));
}

-- the work on a name ends, and its record is put
hold : (t : Tier) (k : Name) (v : Option TierRec) → IsSound t → t.net.phase ≡ Phase.Up
    → is_write (cell_of t k).flight ≡ false → (cell_of t k).base ≡ (cell_of t k).plain
    → Shows v (cell_of t k).plain → IsSound (held k v t)
hold t k v h up idle level shows =
    put (with_flight k None t) k v (leaving t k None h idle) up (ap (λ c. c.flight)
    (flight_here t k None))
    (ap (λ c. c.base) (flight_here t k None) ∙ level ∙ sym (ap (λ c. c.plain)
    (flight_here t k None)))
    shows

abbrev gather_more : List Chunk → Chunk → List Chunk
gather_more g y = g ++ y ∷ []

pub gathering : GatheringKeeps
gathering t k call op gather ask x h may =
    flown t k (Some (Flight.Promote call op (gather_more gather x) ask)) h
    (flight_gathered k t.net call op gather (gather_more gather x) ask (subst
    (λ f. SoundFlight k f t.net) may.flight (h.memory.each k)))
    (λ o has. subst (λ f. HasOpid f o) (sym may.flight) has)
    (at_gathered k (cell_of t k) t.net call op gather ask x (h.names k) may.flight may.wanted
    ((h.names k).told (BaseReply.Chunk t.net.cache_epoch op
    (Some x)) may.reply refl call gather ask may.flight))

pub promoting : PromotingKeeps
promoting t k call op gather ask s moment h may =
    let at = h.names k in
    let level : (cell_of t k).base ≡ (cell_of t k).plain = at.clean (ap is_dirty (at.bare
    (ap is_bare may.flight))) in
    let same : s ≡ (cell_of t k).plain = joined_front gather (cell_of t k).base s
    (at.gathered call op gather ask may.flight) may.whole ∙ level in
    let up : t.net.phase ≡ Phase.Up = (h.memory.each k).up (λ free. let f = may.flight in absurd
    (cc)) in (
      hold t k (Some (record { state = s; dirty = false; mtime = moment })) h up
          (ap is_write may.flight) level same,
      same,
    )

pub cleaning : CleaningKeeps
cleaning t k call op seq m blocking drain r h may =
    let at = h.names k in
    let told = at.told (BaseReply.Installed t.net.cache_epoch op m) may.reply refl call seq blocking
    drain may.flight in
    let is : r.state ≡ (cell_of t k).plain = shown t k r h may.rec in
    let level : (cell_of t k).base ≡ (cell_of t k).plain = at.base.level (omega
    (arith, told.0, told.1, at.base.behind, may.same, ap (λ x. x.seq) is)) in
    let up : t.net.phase ≡ Phase.Up = (h.memory.each k).up (λ free. let f = may.flight in absurd
    (cc)) in (
      hold t k (Some (record r { dirty = false })) h up
          (ap is_write may.flight) level is,
      hold t k None h up (ap is_write may.flight) level tt,
    )

pub evicting : EvictingKeeps
evicting t k h may = put t k None h may.up may.free ((h.names k).clean may.clean) tt

-- ---- work

pub landing : LandingKeeps
landing t k driver owner op r a h may =
    flown t k None h (record {
      up = λ ne. absurd
          (ne refl);
      counted = λ o has. absurd has;
      named = λ d w o q e. absurd
          (cc);
      asked = λ c o g x e. absurd (cc);
      single = λ l x y e. absurd
          (cc);
      own = λ m on. free_own m;
    })
    (λ o has. absurd has) (at_free k (cell_of t k) t.net t.net (h.names k) still (omega arith)
    (all_in t.net.wire))
  where
    free_own : (m : BaseMsg) → IsOwn k None t.net.cache_epoch m
    free_own (BaseMsg.Fence i) = tt
    free_own (BaseMsg.GetChunk i o n at) = λ now has. absurd has
    free_own (BaseMsg.Look i o n v) = λ now has. absurd has
    free_own (BaseMsg.Write i o q) = λ now has. absurd has
    free_own (BaseMsg.Install i o n s) = λ now has. absurd has

    told : act (cell_of t k).base r ≡ lasting a
    told = (h.names k).told
        (BaseReply.Wrote t.net.cache_epoch op a) may.reply refl driver owner r may.flight

    never : (a : BaseActed) → is_fresh (lasting a) ≡ false
    never (BaseActed.Fresh reply) = refl
    never (BaseActed.Again reply) = refl
    never (BaseActed.Stale kept) = refl
    never (BaseActed.Worn limit) = refl

    same_req : (d e : Option ℕ) (w v o p : ℕ) (x y : Req) → Some (Flight.Write d w o x) ≡ Some
        (Flight.Write e v p y) → x ≡ y
    same_req d e w v o p x y is = cc

    still : (x : Req) → IsHarmless k (cell_of t k) t.net x → IsHarmless k (record
        (cell_of t k) { flight = None }) t.net x
    still x (inl living) =
        let same : r ≡ x = same_req driver living.0 owner living.1 op living.2 r x (sym may.flight
        ∙ living.3) in
        inr (inr (spent_then k (cell_of t k) t.net x (h.names k) ((h.names k).bare
        (ap is_bare may.flight))
        (subst (λ y. ((cell_of t k).base.seq ≡ 2 ^ 62) ⊎ Covers (cell_of t k).base y) same (spent_of
        (cell_of t k).base r (lasting a) told (never a)))))
    still x (inr (inl stopped)) = inr (inl stopped)
    still x (inr (inr gone)) = inr (inr gone)

-- work begins
begins : (t : Tier) (k : Name) (f : Flight) → IsSound t → ((op : ℕ) → HasOpid (Some f) op
    → HasOpid (cell_of t k).flight op ⊎ (op ≡ t.net.next_opid))
    → SoundFlight k (Some f) (record t.net { next_opid = t.net.next_opid + 1 })
    → SoundAt k (record (cell_of t k) { flight = Some f })
    (record t.net { next_opid = t.net.next_opid + 1 }) → IsSound (begun k f t)
begins t k f h has_by work this = record {
  memory = memory_begun t.flights t.net k f h.memory has_by work;
  legal = h.legal;
  epochs = epochs_as t.net next h.epochs.level h.epochs.behind (omega arith) (all_in t.net.wire)
      (all_in t.net.replies) h.epochs;
  names = names_by (λ n. SoundAt n (cell_of (begun k f t) n) next) k
      (subst (λ c. SoundAt k c next) (sym (flight_here (with_net next t) k (Some f))) this)
      (λ n ne. subst (λ c. SoundAt n c next) (sym (flight_there (with_net next t) k (Some f) n ne))
      (at_as n (cell_of t n) t.net next refl (omega arith) (λ up. up) (all_in t.net.wire)
      (all_in t.net.replies) (h.names n)));
}
  where
    next : Net
    next = record t.net { next_opid = t.net.next_opid + 1 }

pub beginning : BeginningKeeps
beginning t k (Flight.Promote call o gather ask) h up may =
    begins t k (Flight.Promote call o gather ask) h (λ op has. inr (has ∙ may.2))
    (flight_begun k (Flight.Promote call o gather ask) t.net h.memory.wire up (λ op has. has
    ∙ may.2) (λ d w op r e. absurd (cc))
    (λ c op g a e. let same : ask ≡ a = cc in subst (λ x. name_asked x ≡ k) same may.4)
    (λ list e. absurd (cc)))
    (at_begun k (cell_of t k) t.net (Flight.Promote call o gather ask)
    (h.names k) h.memory.wire up may.0 (λ op has. has ∙ may.2) (λ b. may.1)
    (λ c op g a e. let same : gather ≡ g = cc in sym same ∙ may.3) (λ c op seq b d e. absurd (cc)))
beginning t k (Flight.Write driver owner o r) h up may =
    begins t k (Flight.Write driver owner o r) h (λ op has. inr (has ∙ may.2))
    (flight_begun k (Flight.Write driver owner o r) t.net h.memory.wire up (λ op has. has ∙ may.2)
    (λ d w op q e. let same : r ≡ q = cc in subst (λ x. x.name ≡ k) same may.3)
    (λ c op g a e. absurd (cc)) (λ list e. absurd (cc)))
    (at_begun k (cell_of t k) t.net (Flight.Write driver owner o r)
    (h.names k) h.memory.wire up may.0 (λ op has. has ∙ may.2) (λ b. may.1)
    (λ c op g a e. absurd (cc)) (λ c op seq b d e. absurd (cc)))
beginning t k (Flight.Reads list) h up may =
    subst (λ l. IsSound (begun k (Flight.Reads l) t)) (sym may.2.2)
    (begins t k (Flight.Reads (reads_with (cell_of t k).flight may.2.0)) h
    (λ op has. elim (old_or_new
    (cell_of t k).flight may.2.0 op has) [ inl old ↦ inl old | inr is ↦ inr (is ∙ may.2.1) ])
    (flight_read k (cell_of t k).flight t.net may.2.0
    (h.memory.each k) h.memory.wire up may.0 may.2.1)
    (at_read k (cell_of t k) t.net may.2.0 (h.names k) h.memory.wire up may.0 may.1 may.2.1))
beginning t k (Flight.Flush call o seq blocking drain) h up may =
    begins t k (Flight.Flush call o seq blocking drain) h (λ op has. inr (has ∙ may.1))
    (flight_begun k (Flight.Flush call o seq blocking drain) t.net h.memory.wire up (λ op has. has
    ∙ may.1) (λ d w op r e. absurd (cc)) (λ c op g a e. absurd (cc)) (λ list e. absurd (cc)))
    (at_begun k (cell_of t k) t.net (Flight.Flush call o seq blocking drain)
    (h.names k) h.memory.wire up may.0 (λ op has. has ∙ may.1) (λ b. absurd (cc))
    (λ c op g a e. absurd (cc))
    (λ c op x b d e.
    let same : seq ≡ x = cc in (
      ap is_dirty may.2.1 ∙ may.2.2,
      sym same ∙ sym may.2.3 ∙ ap (λ s. s.seq)
          (shown t k may.2.0 h may.2.1),
    )))

-- a message of work that stands is given out, and the base knows its epoch
given_of : (t : Tier) (k : Name) (op : ℕ) → IsSound t → HasOpid (cell_of t k).flight op
    → (cell_of t k).flight ≢ None → IsGiven t.net t.net.cache_epoch op
given_of t k op h has busy =
    let up : t.net.phase ≡ Phase.Up = (h.memory.each k).up busy in
    record {
      begun = omega arith;
      silent = λ raised. absurd (cc);
      counted = λ same.
          ((h.memory.each k).counted op has).1;
    }

known_of : (t : Tier) (k : Name) → IsSound t → (cell_of t k).flight ≢ None
    → t.net.cache_epoch ≤ t.net.base_epoch
known_of t k h busy = omega (arith, h.epochs.level ((h.memory.each k).up busy))

sends : (t : Tier) (m : BaseMsg) → IsSound t → IsSent t.net m → IsKnown t.net.base_epoch m
    → ((n : Name) → IsOwn n (cell_of t n).flight t.net.cache_epoch m)
    → ((n : Name) (e op : ℕ) (r : Req) → BaseMsg.Write e op r ≡ m → r.name ≡ n
    → t.net.base_epoch ≤ e → IsHarmless n (cell_of t n) t.net r)
    → ((n : Name) (e op : ℕ) (s : NameState) → BaseMsg.Install e op n s ≡ m
    → s ≡ (cell_of t n).plain)
    → IsSound (sent m t)
sends t m h given known own write install = record {
  memory = memory_sent t.flights t.net m h.memory given own;
  legal = h.legal;
  epochs = epochs_sent t.net m h.epochs known;
  names = λ n. at_sent n (cell_of t n) t.net m (h.names n) (write n) (install n);
}

pub sending : SendingKeeps
sending t (BaseMsg.Fence e) h may = sends t (BaseMsg.Fence e) h (omega (arith, may.0)) tt (λ n. tt)
    (λ n f op r same. absurd (cc)) (λ n f op s same. absurd (cc))
sending t (BaseMsg.GetChunk e op k at) h may =
    let f : (cell_of t k).flight ≡ Some (Flight.Promote may.1.0 op may.1.1 may.1.2) = may.1.3 in
    let has : HasOpid (cell_of t k).flight op = subst (λ f. HasOpid f op) (sym f) refl in
    let busy : (cell_of t k).flight ≢ None = λ free. absurd (cc) in
    sends t (BaseMsg.GetChunk e op k at) h (subst (λ i. IsGiven t.net i op) (sym may.0)
    (given_of t k op h has busy)) (omega (arith, may.0, known_of t k h busy))
    (λ n. λ now have.
    let is : k ≡ n = h.memory.apart k n op has have in
    subst (λ x. IsOwn x (cell_of t x).flight t.net.cache_epoch (BaseMsg.GetChunk e op k at)) is
    (own f) now have)
    (λ n i o r same. absurd (cc)) (λ n i o s same. absurd (cc))
  where
    own : (cell_of t k).flight ≡ Some (Flight.Promote may.1.0 op may.1.1 may.1.2)
        → IsOwn k (cell_of t k).flight t.net.cache_epoch (BaseMsg.GetChunk e op k at)
    own f = subst (λ x. IsOwn k x t.net.cache_epoch (BaseMsg.GetChunk e op k at)) (sym f)
        (λ now have. refl)
sending t (BaseMsg.Look e op k v) h may =
    let f : (cell_of t k).flight ≡ Some (Flight.Reads may.1.0) = may.1.2 in
    let has : HasOpid (cell_of t k).flight op = subst (λ f. HasOpid f op) (sym f)
    (may.1.1, may.1.3, sym may.1.4) in
    let busy : (cell_of t k).flight ≢ None = λ free. absurd (cc) in
    sends t (BaseMsg.Look e op k v) h (subst (λ i. IsGiven t.net i op) (sym may.0)
    (given_of t k op h has busy)) (omega (arith, may.0, known_of t k h busy))
    (λ n. λ now have.
    let is : k ≡ n = h.memory.apart k n op has have in
    subst (λ x. IsOwn x (cell_of t x).flight t.net.cache_epoch (BaseMsg.Look e op k v)) is
    (own f) now have)
    (λ n i o r same. absurd (cc)) (λ n i o s same. absurd (cc))
  where
    own : (cell_of t k).flight ≡ Some (Flight.Reads may.1.0) → IsOwn k
        (cell_of t k).flight t.net.cache_epoch (BaseMsg.Look e op k v)
    own f = subst (λ x. IsOwn k x t.net.cache_epoch (BaseMsg.Look e op k v)) (sym f)
        (λ now have. (
          refl,
          λ r on same. ap (λ x. x.vector)
              ((h.memory.each k).single may.1.0 r may.1.1 f on may.1.3 (same ∙ sym may.1.4))
              ∙ may.1.5,
        ))
sending t (BaseMsg.Write e op r) h may =
    let f : (cell_of t r.name).flight ≡ Some (Flight.Write may.1.0 may.1.1 op r) = may.1.2 in
    let has : HasOpid (cell_of t r.name).flight op = subst (λ f. HasOpid f op) (sym f) refl in
    let busy : (cell_of t r.name).flight ≢ None = λ free. absurd (cc) in
    sends t (BaseMsg.Write e op r) h (subst (λ i. IsGiven t.net i op) (sym may.0)
    (given_of t r.name op h has busy)) (omega (arith, may.0, known_of t r.name h busy))
    (λ n. λ now have.
    let is : r.name ≡ n = h.memory.apart r.name n op has have in
    subst (λ x. IsOwn x (cell_of t x).flight t.net.cache_epoch (BaseMsg.Write e op r)) is
    (own f) now have)
    (λ n i o q same name above. let is : r ≡ q = cc in
    subst (λ m. IsHarmless m (cell_of t m) t.net q) (ap (λ x. x.name) is
    ∙ name) (subst (λ x. IsHarmless r.name (cell_of t r.name) t.net x) is (inl
    (may.1.0, may.1.1, op, f))))
    (λ n i o s same. absurd (cc))
  where
    own : (cell_of t r.name).flight ≡ Some (Flight.Write may.1.0 may.1.1 op r)
        → IsOwn r.name (cell_of t r.name).flight t.net.cache_epoch (BaseMsg.Write e op r)
    own f = subst (λ x. IsOwn r.name x t.net.cache_epoch (BaseMsg.Write e op r)) (sym f)
        (λ now have. refl)
sending t (BaseMsg.Install e op k s) h may =
    let f : (cell_of t k).flight ≡ Some
    (Flight.Flush may.1.0 op may.1.1 may.1.2 may.1.3) = may.1.5 in
    let has : HasOpid (cell_of t k).flight op = subst (λ f. HasOpid f op) (sym f) refl in
    let busy : (cell_of t k).flight ≢ None = λ free. absurd (cc) in
    let is : s ≡ (cell_of t k).plain = sym may.1.7 ∙ shown t k may.1.4 h may.1.6 in
    sends t (BaseMsg.Install e op k s) h (subst (λ i. IsGiven t.net i op) (sym may.0)
    (given_of t k op h has busy)) (omega (arith, may.0, known_of t k h busy))
    (λ n. λ now have.
    let at : k ≡ n = h.memory.apart k n op has have in
    subst (λ x. IsOwn x (cell_of t x).flight t.net.cache_epoch (BaseMsg.Install e op k s)) at
    (own f) now have)
    (λ n i o q same name above. absurd (cc))
    (λ n i o x same. let at : k ≡ n = cc in let state : x ≡ s = cc in state
    ∙ subst (λ y. s ≡ (cell_of t y).plain) at is)
  where
    own : (cell_of t k).flight ≡ Some (Flight.Flush may.1.0 op may.1.1 may.1.2 may.1.3)
        → IsOwn k (cell_of t k).flight t.net.cache_epoch (BaseMsg.Install e op k s)
    own f = subst (λ x. IsOwn k x t.net.cache_epoch (BaseMsg.Install e op k s)) (sym f)
        (λ now have. refl)

pub losing : LosingKeeps
losing t u h loses = subst IsSound (sym loses.same) (record {
  memory = memory_left t.flights u.flights t.net u.net.wire u.net.replies h.memory loses.flights
      loses.wire loses.replies;
  legal = h.legal;
  epochs = epochs_as t.net new h.epochs.level h.epochs.behind
      (omega arith) loses.wire loses.replies h.epochs;
  names = λ n. at_as n (record (cell_of t n) { flight = fin.get u.flights n }) t.net new refl
      (omega arith) (λ up. up) loses.wire loses.replies
      (at_left n (cell_of t n) t.net (fin.get u.flights n) (h.names n) (loses.flights n));
})
  where
    new : Net
    new = record t.net { wire = u.net.wire; replies = u.net.replies }
