-- What the base's answers are worth, and what late messages can do.
use Rattle.std.proofs.Common.{◌≡◌, ◌<◌, ◌≤◌, ℕ, Bool, true, false, ◌∷◌, Some, None, refl, sym, ap, subst, ◌∙◌, arith, inl, inr}
use Rattle.std.specs.Prelude.{if◌then◌else◌, nat_lt}
use Rattle.std.proofs.lemmas.Bool.{lt-ltb, ltb-true}
use Rattle.copy_chunk.specs.Chunks.{chunk_at, chunks_of}
use Rattle.obj_model.specs.declared.reply.Reply.{Reply}
use Rattle.obj_model.specs.declared.req.Req.{Req}
use Rattle.obj_model.specs.declared.state.NameState.{NameState}
use Rattle.obj_ops.specs.declared.request.Acted.{Acted}
use Rattle.obj_ops.specs.declared.request.Acted.TheVariants.{Fresh, Again, Stale, Worn}
use Rattle.obj_ops.specs.Acts.{act, look}
use Rattle.obj_ops.specs.Stores.{state_of}
use Rattle.tier_types.specs.Flights.{is_bare}
use Rattle.tier_types.specs.Serving.{Served, put_by, told_of, epoch_in}
use Rattle.tier_protocol.specs.Tiers.{Name, BaseMsg, BaseReply, BaseActed, Phase, Net, Tier, Cell, IsIn, cell_of}
use Rattle.tier_protocol.specs.Sound.{Covers, IsHarmless, IsSpent, IsWriting, is_dirty}
use Rattle.tier_protocol.specs.Moves.{acts_with, delivered, put_at, with_act, with_base, with_served}
use Rattle.tier_protocol.specs.Answers.{is_fence, ActedIsSpent, ActsAreFresh, BaseNeverFalls, ChunksArePresent, EvictedStays, FlightsAreFenced, LateWritesChangeNothing, NoneIsAhead, OldAreRefused, ReadsAreTrue, WritesAreTrue}
use Rattle.tier_protocol.proofs.Requests.{covered_not_fresh, fresh_covers, fresh_room, fresh_seq}
use Rattle.tier_protocol.proofs.Cells.{act_here, base_here, base_there, names_by}
use Rattle.tier_protocol.proofs.Steps.{shown}
use Rattle.tier_protocol.proofs.Delivers.{acts_on_plain, flies, in_epoch_by}

pub reads_true : ReadsAreTrue
reads_true t k list r l h f on told =
    let at = h.names k in
    at.told (BaseReply.Looked t.net.cache_epoch r.opid l) told refl list r f on refl
    ∙ ap (λ s. look s r.vector) (at.clean (ap is_dirty (at.bare (ap is_bare f))))

pub writes_true : WritesAreTrue
writes_true t k driver owner op r a h may =
    let at = h.names k in
    ap (λ s. act s r) (sym (at.clean (ap is_dirty (at.bare (ap is_bare may.flight)))))
    ∙ at.told (BaseReply.Wrote t.net.cache_epoch op a) may.reply refl driver owner r may.flight

pub chunks_present : ChunksArePresent
chunks_present t k call op gather ask x h f told =
    let at = h.names k in
    ap (λ s. chunk_at (chunks_of s) x.at) (sym (at.clean (ap is_dirty (at.bare (ap is_bare f)))))
    ∙ at.told (BaseReply.Chunk t.net.cache_epoch op (Some x)) told refl call gather ask f

pub acts_fresh : ActsAreFresh
acts_fresh t e op r s answer h on same acts = (
  acts_on_plain t e op r s answer h on same acts,
  (flies t e op r s answer h on same acts).0,
)

pub old_refused : OldAreRefused
old_refused t (BaseMsg.Fence e) lt = rw (lt-ltb e t.net.base_epoch lt) refl
old_refused t (BaseMsg.GetChunk e op k at) lt = rw (lt-ltb e t.net.base_epoch lt) refl
old_refused t (BaseMsg.Look e op k v) lt = rw (lt-ltb e t.net.base_epoch lt) refl
old_refused t (BaseMsg.Write e op r) lt = rw (lt-ltb e t.net.base_epoch lt) refl
old_refused t (BaseMsg.Install e op k s) lt = rw (lt-ltb e t.net.base_epoch lt) refl

pub none_ahead : NoneIsAhead
none_ahead t h = (
  λ m on plain. known m on plain,
  λ have got on. h.epochs.told
      (BaseReply.NotFenced have got) on,
)
  where
    known : (m : BaseMsg) → IsIn m t.net.wire → is_fence m ≡ false → epoch_in m ≤ t.net.base_epoch
    known (BaseMsg.Fence e) on plain = absurd (cc)
    known (BaseMsg.GetChunk e op k at) on plain = h.epochs.known (BaseMsg.GetChunk e op k at) on
    known (BaseMsg.Look e op k v) on plain = h.epochs.known (BaseMsg.Look e op k v) on
    known (BaseMsg.Write e op r) on plain = h.epochs.known (BaseMsg.Write e op r) on
    known (BaseMsg.Install e op k s) on plain = h.epochs.known (BaseMsg.Install e op k s) on

pub flights_fenced : FlightsAreFenced
flights_fenced t k h busy = h.epochs.level ((h.memory.each k).up busy)

-- a Write that is not under way is spent, or of before a stop
late_not_fresh : (t : Tier) (r : Req) (s : NameState) (answer : Reply) → t.net.phase ≡ Phase.Up
    → (IsWriting (cell_of t r.name).flight r → ⊥)
    → IsHarmless r.name (cell_of t r.name) t.net r → act (state_of t.base r.name) r ≡ Fresh s answer
    → ⊥
late_not_fresh t r s answer up late (inl living) acts = late living
late_not_fresh t r s answer up late (inr (inl stopped)) acts = stopped.0 up
late_not_fresh t r s answer up late (inr (inr (inl worn))) acts = fresh_room
    (state_of t.base r.name) r s answer acts worn
late_not_fresh t r s answer up late (inr (inr (inr spent))) acts = covered_not_fresh
    (state_of t.base r.name) r s answer spent.0 acts

pub late_writes : LateWritesChangeNothing
late_writes t e op r h up on late =
    in_epoch_by (λ s. (put_at (Some r.name) s.put t.base ≡ t.base)
    × (acts_with (BaseMsg.Write e op r) s.put t.acts ≡ t.acts)) t.net.base_epoch e _
    (h.epochs.known (BaseMsg.Write e op r) on)
    (λ lt. (refl, refl)) (λ same. by (act (state_of t.base r.name) r) refl (omega (arith, same)))
  where
    by : (a : Acted) → act (state_of t.base r.name) r ≡ a → t.net.base_epoch ≤ e
        → (put_at (Some r.name) (put_by a) t.base ≡ t.base) × (acts_with (BaseMsg.Write e op r)
        (put_by a) t.acts ≡ t.acts)
    by (Fresh s answer) acts above = absurd (late_not_fresh t r s answer up late
        ((h.names r.name).writes e op r on refl above) acts)
    by (Again answer) acts above = (refl, refl)
    by (Stale kept) acts above = (refl, refl)
    by (Worn limit) acts above = (refl, refl)

pub base_never_falls : BaseNeverFalls
base_never_falls t m n h on = by m on
  where
    -- one state is put, which has had more requests
    rises : (k : Name) (s : NameState) → (state_of t.base k).seq ≤ s.seq
        → (state_of t.base n).seq ≤ (state_of (with_base k s t).base n).seq
    rises k s more =
        names_by (λ n. (state_of t.base n).seq ≤ (state_of (with_base k s t).base n).seq) k (subst
        (λ (c : Cell). (state_of t.base k).seq ≤ c.base.seq) (sym (base_here t k s)) more)
        (λ i ne. subst (λ (c : Cell). (state_of t.base i).seq ≤ c.base.seq) (sym
        (base_there t k s i ne)) (omega arith)) n

    install : (e op : ℕ) (k : Name) (s : NameState) (b : Bool)
        → nat_lt (state_of t.base k).seq s.seq ≡ b → (state_of t.base n).seq ≤ (state_of (put_at
        (Some k) (if b then Some s else None) t.base) n).seq
    install e op k s true above = rises k s (omega (
      arith,
      ltb-true
          (state_of t.base k).seq s.seq above,
    ))
    install e op k s false above = omega arith

    write : (r : Req) (a : Acted) → act (state_of t.base r.name) r ≡ a
        → (state_of t.base n).seq ≤ (state_of (put_at (Some r.name) (put_by a) t.base) n).seq
    write r (Fresh s answer) acts = rises r.name s (omega (
      arith,
      fresh_seq
          (state_of t.base r.name) r s answer acts,
    ))
    write r (Again answer) acts = omega arith
    write r (Stale kept) acts = omega arith
    write r (Worn limit) acts = omega arith

    by : (m : BaseMsg) → IsIn m t.net.wire → (state_of t.base n).seq ≤ (state_of
        (delivered m t).base n).seq
    by (BaseMsg.Fence e) on = omega arith
    by (BaseMsg.GetChunk e op k at) on = in_epoch_by (λ s. (state_of t.base n).seq ≤ (state_of
        (put_at (Some k) s.put t.base) n).seq) t.net.base_epoch e _ (h.epochs.known
        (BaseMsg.GetChunk e op k at) on) (λ lt. omega arith) (λ same. omega arith)
    by (BaseMsg.Look e op k v) on = in_epoch_by (λ s. (state_of t.base n).seq ≤ (state_of (put_at
        (Some k) s.put t.base) n).seq) t.net.base_epoch e _ (h.epochs.known
        (BaseMsg.Look e op k v) on) (λ lt. omega arith) (λ same. omega arith)
    by (BaseMsg.Write e op r) on = in_epoch_by (λ s. (state_of t.base n).seq ≤ (state_of (put_at
        (Some r.name) s.put t.base) n).seq) t.net.base_epoch e _ (h.epochs.known
        (BaseMsg.Write e op r) on) (λ lt. omega arith) (λ same. write r (act
        (state_of t.base r.name) r) refl)
    by (BaseMsg.Install e op k x) on = in_epoch_by (λ s. (state_of t.base n).seq ≤ (state_of (put_at
        (Some k) s.put t.base) n).seq) t.net.base_epoch e _ (h.epochs.known
        (BaseMsg.Install e op k x) on) (λ lt. omega arith) (λ same. install e op k x (nat_lt
        (state_of t.base k).seq x.seq) refl)

pub evicted_stays : EvictedStays
evicted_stays t k r h may rec = (h.names k).clean may.clean ∙ sym (shown t k r h rec)

pub acted_spent : ActedIsSpent
acted_spent t e op r s answer h on same acts =
    in_epoch_by (λ x. IsSpent r.name (cell_of (with_served (BaseMsg.Write e op r) x t) r.name)
    (with_served (BaseMsg.Write e op r) x t).net r) t.net.base_epoch e _ (omega (arith, same))
    (λ lt. absurd (omega (arith, lt, same)))
    (λ now. subst (λ a. IsSpent r.name (cell_of (with_served (BaseMsg.Write e op r)
    (wrote a) t) r.name) (with_served (BaseMsg.Write e op r) (wrote a) t).net r)
    (sym acts) there)
  where
    wrote : Acted → Served
    wrote a = record {
      epoch = t.net.base_epoch;
      put = put_by a;
      reply = BaseReply.Wrote e op
          (told_of a);
    }

    next : Net
    next = record t.net { replies = BaseReply.Wrote e op (BaseActed.Fresh answer) ∷ t.net.replies }

    on_plain : act (cell_of t r.name).plain r ≡ Fresh s answer
    on_plain = acts_on_plain t e op r s answer h on same acts

    cell : cell_of (with_act r (with_base r.name s t)) r.name ≡ record
        (cell_of t r.name) { base = s; plain = s }
    cell = act_here (with_base r.name s t) r s answer on_plain
        ∙ ap {A = Cell} {B = Cell} (λ c. record c { plain = s }) (base_here t r.name s)

    none_above : (i o : ℕ) (x : NameState) → IsIn (BaseMsg.Install i o r.name x) t.net.wire
        → s.seq < x.seq → Covers x r
    none_above i o x is above =
        absurd (omega (
          arith,
          above,
          ((h.names r.name).installs i o x is).behind,
          fresh_seq
              (cell_of t r.name).plain r s answer on_plain,
        ))

    there : IsSpent r.name (cell_of (with_act r (with_base r.name s t)) r.name) next r
    there = subst (λ c. IsSpent r.name c next r) (sym cell) (inr (
      fresh_covers
          (cell_of t r.name).plain r s answer on_plain,
      fresh_covers
          (cell_of t r.name).plain r s answer on_plain,
      none_above,
    ))
