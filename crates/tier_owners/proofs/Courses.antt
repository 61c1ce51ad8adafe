-- Runs that exist: a promotion, a read, a record's life, and a raise that was found.
use Rattle.std.proofs.Common.{◌≡◌, ℕ, zero, suc, ◌+◌, true, false, List, [], ◌∷◌, ◌++◌, length, Some, None, refl, sym, ap, subst, ◌∙◌, arith, inl, inr}
use Rattle.std.specs.Prelude.{if◌then◌else◌}
use Rattle.std.proofs.lemmas.Bool.{le-ltb}
use Rattle.copy_chunk.specs.Chunks.{chunks_of}
use Rattle.copy_chunk.specs.Gathers.{IsFront, joined, wanted}
use Rattle.copy_chunk.specs.declared.chunk.Chunk.{Chunk}
use Rattle.copy_chunk.specs.declared.chunk.Cursor.{Cursor}
use Rattle.copy_chunk.proofs.Fronts.{chunks_join, first_at, wanted_front, whole_front}
use Rattle.obj_model.specs.declared.state.NameState.{NameState}
use Rattle.obj_ops.specs.Acts.{look}
use Rattle.obj_ops.specs.Stores.{state_of}
use Rattle.tier_types.specs.Flights.{is_bare, lets_read, lets_write, IsLeftOf}
use Rattle.tier_types.specs.Serving.{Served, in_epoch, replies}
use Rattle.tier_protocol.specs.Tiers.{Name, Ask, Flight, BaseMsg, BaseReply, Net, ReadFlight, Tier, TierRec, IsIn, cell_of}
use Rattle.tier_protocol.specs.Sound.{is_dirty}
use Rattle.tier_protocol.specs.Moves.{acted_here, begun, cleaned, counted_raised, delivered, epoch_found, evicted, gathered, promoted, reads_with, sent, went_up, with_act, with_flight, with_net, with_served, Loses, MayClean, MayCount, MayEvict, MayGather, MayGoUp}
use Rattle.tier_protocol.specs.Owners.{with_call_act}
use Rattle.tier_protocol.proofs.Cells.{flight_here, flight_there, rec_here, same_or_not}
use Rattle.tier_protocol.proofs.Fits.{flushes_clean, promotions_go_on}
use Rattle.tier_protocol.proofs.Truth.{evicted_stays}
use Rattle.tier_protocol.proofs.Worlds.{left_whole}
use Rattle.tier_owners.specs.Moving.{IsHeld, Moves, System, with_tier, acts_here, begins, cleans, counts, delivers, evicts, finds, gathers, goes_up, loses, promotes, sends}
use Rattle.tier_owners.specs.Reaching.{FoundRaisesRun, PromotesRun, Reaches, ReadsRun, RecordsRun}
use Rattle.tier_owners.proofs.Keeping.{moves_keep}

-- ---- runs, a move at a time

pub after_one : (s u : System) (P : System → Type 0) → Moves s u → P u → Reaches s P
after_one s u P m h =
    record { moments = u ∷ []; run = (m, tt); last = u; on = inl refl; holds = h }

pub after_more : (s u : System) (P : System → Type 0) → Moves s u → Reaches u P → Reaches s P
after_more s u P m r = record {
  moments = u ∷ r.moments;
  run = (m, r.run);
  last = r.last;
  on = inr r.on;
  holds = r.holds;
}

-- ---- a promotion

is_first : (rest : List Chunk) (n : ℕ) → length rest ≡ suc n
    → (at : Cursor) × (first_at None rest ≡ Some at)
is_first [] n e = absurd (omega (arith, e))
is_first (c ∷ rest) n e = (c.at, refl)

is_nothing : (rest : List Chunk) → length rest ≡ 0 → first_at None rest ≡ None
is_nothing [] e = refl
is_nothing (c ∷ rest) e = absurd (omega (arith, e))

behind_of : (cs rest : List Chunk) (n : ℕ) → length (cs ++ rest) ≡ length cs + n → length rest ≡ n
behind_of [] rest n e = omega (arith, e)
behind_of (c ∷ cs) rest n e = behind_of cs rest n (omega (arith, e))

one_longer : (cs : List Chunk) (c : Chunk) → length (cs ++ c ∷ []) ≡ length cs + 1
one_longer [] c = refl
one_longer (d ∷ cs) c = let e = one_longer cs c in omega (arith, e)

module _ (k : Name) (call op moment : ℕ) (ask : Ask) (plain : NameState) where
  abbrev Promoted : System → Type 0
  Promoted u =
      ((cell_of u.tier k).rec ≡ Some (record { state = plain; dirty = false; mtime = moment }))
      × ((cell_of u.tier k).flight ≡ None)

  abbrev Work : List Chunk → Flight
  Work gather = Flight.Promote call op gather ask

  module _ (s : System) (gather : List Chunk) (h : IsHeld s)
      (f : (cell_of s.tier k).flight ≡ Some (Work gather)) (is : (cell_of s.tier k).plain ≡ plain)
    where
      none : (cell_of s.tier k).rec ≡ None
      none = (h.sound.names k).bare (ap is_bare f)

      base : (cell_of s.tier k).base ≡ plain
      base = (h.sound.names k).clean (ap is_dirty none) ∙ is

      front : IsFront gather (chunks_of plain)
      front = subst (λ b. IsFront gather (chunks_of b)) base
          ((h.sound.names k).gathered call op gather ask f)

      wants : wanted gather ≡ first_at None front.behind
      wants = wanted_front plain gather front.behind front.whole

      left : (n : ℕ) → length (chunks_of plain) ≡ length gather + n → length front.behind ≡ n
      left n e = behind_of gather front.behind n (sym (ap length front.whole) ∙ e)

      -- no chunk is wanted
      ends : length (chunks_of plain) ≡ length gather + 0 → Reaches s Promoted
      ends e = after_one s u Promoted (promotes k call op gather ask plain moment (record {
        flight = f;
        whole = ap joined all ∙ chunks_join plain;
      })) (
        ap (λ c. c.rec) (rec_here freed k (Some r)),
        ap (λ c. c.flight) (rec_here freed k (Some r)) ∙ ap (λ c. c.flight)
            (flight_here s.tier k None),
      )
        where
          r : TierRec
          r = record { state = plain; dirty = false; mtime = moment }

          freed : Tier
          freed = with_flight k None s.tier

          u : System
          u = with_tier s (promoted k plain moment s.tier)

          all : gather ≡ chunks_of plain
          all = whole_front plain gather front (wants ∙ is_nothing front.behind (left 0 e))

      -- one chunk more
      goes_on : (n : ℕ) → length (chunks_of plain) ≡ length gather + suc n
          → ((u : System) (x : Chunk) → IsHeld u
          → (cell_of u.tier k).flight ≡ Some (Work (gather ++ x ∷ []))
          → (cell_of u.tier k).plain ≡ plain → Reaches u Promoted)
          → Reaches s Promoted
      goes_on n e rest =
          after_more s first Promoted to_first
          (after_more first second Promoted to_second
          (after_more second third Promoted to_third
          (rest third x held
          (ap (λ c. c.flight) (flight_here second.tier k (Some (Work (gather ++ x ∷ []))))) is)))
        where
          at : (a : Cursor) × (wanted gather ≡ Some a)
          at = let head = is_first front.behind n (left (suc n) e) in (head.0, wants ∙ head.1)

          message : BaseMsg
          message = BaseMsg.GetChunk s.tier.net.cache_epoch op k at.0

          first : System
          first = with_tier s (sent message s.tier)

          second : System
          second = with_tier first (delivered message first.tier)

          goes : (x : Chunk) × MayGather second.tier k call op gather ask x
          goes = promotions_go_on s.tier k call op gather ask at.0 h.sound f at.1

          x : Chunk
          x = goes.0

          third : System
          third = with_tier second (gathered k call op gather ask x second.tier)

          to_first : Moves s first
          to_first = sends message (refl, (call, gather, ask, f, at.1)) refl

          to_second : Moves first second
          to_second = delivers message (inl refl) refl

          to_third : Moves second third
          to_third = gathers k call op gather ask x goes.1

          held : IsHeld third
          held = moves_keep second third (moves_keep first second
              (moves_keep s first h to_first) to_second) to_third

  -- so many chunks before the end
  promotes_from : (n : ℕ) (s : System) (gather : List Chunk) → IsHeld s
      → (cell_of s.tier k).flight ≡ Some (Work gather) → (cell_of s.tier k).plain ≡ plain
      → length (chunks_of plain) ≡ length gather + n → Reaches s Promoted
  promotes_from zero s gather h f is e = ends s gather h f is e
  promotes_from (suc n) s gather h f is e =
      goes_on s gather h f is n e (λ u x held g same.
      promotes_from n u (gather ++ x ∷ []) held g same (omega (arith, e, one_longer gather x)))

pub promotes_run : PromotesRun
promotes_run s k call moment ask h up none free asked =
    after_more s first P begin
    (promotes_from k call s.tier.net.next_opid moment ask (cell_of s.tier k).plain
    (length (chunks_of (cell_of s.tier k).plain)) first [] (moves_keep s first h begin)
    (ap (λ c. c.flight) (flight_here (with_net next s.tier) k (Some work))) refl
    (omega arith))
  where
    work : Flight
    work = Flight.Promote call s.tier.net.next_opid [] ask

    next : Net
    next = record s.tier.net { next_opid = s.tier.net.next_opid + 1 }

    first : System
    first = with_tier s (begun k work s.tier)

    P : System → Type 0
    P u =
        ((cell_of u.tier k).rec
        ≡ Some (record { state = (cell_of s.tier k).plain; dirty = false; mtime = moment }))
        × ((cell_of u.tier k).flight ≡ None)

    begin : Moves s first
    begin = begins k work up (free, none, refl, refl, asked) refl

-- ---- a read

-- a message of the base's own epoch is served
in_epoch_same : (have e : ℕ) (done : Served) → e ≡ have → in_epoch have e done ≡ done
in_epoch_same have e done same =
    rw (le-ltb e have (omega (arith, same)), le-ltb have e (omega (arith, same))) refl

-- the work on a name ends
freed : (t : Tier) (k : Name) (list : List ReadFlight)
    → (cell_of t k).flight ≡ Some (Flight.Reads list) → Loses t (with_flight k None t)
freed t k list f = record {
  same = refl;
  flights = λ n. elim (same_or_not n k) [
    | inl is ↦ subst (λ m. IsLeftOf (cell_of t m).flight (cell_of (with_flight k None t) m).flight)
        (sym is)
        (subst (λ x. IsLeftOf (cell_of t k).flight x)
        (sym (ap (λ c. c.flight) (flight_here t k None)))
        (subst (λ x. IsLeftOf x None) (sym f) refl))
    | inr ne ↦ subst (λ x. IsLeftOf (cell_of t n).flight x)
        (sym (ap (λ c. c.flight) (flight_there t k None n ne))) (left_whole (cell_of t n).flight)
  ];
  wire = λ m on. on;
  replies = λ p on. on;
}

pub reads_run : ReadsRun
reads_run s k r h up none free number =
    after_more s first _ begin (after_more first second _ ask (after_one second third _ hear (
      stands,
      subst (λ t. IsIn (BaseReply.Looked s.tier.net.cache_epoch r.opid
          (look (cell_of s.tier k).plain r.vector)) t.net.replies) (sym is) (inl refl),
      after_one third fourth _ (loses (with_flight k None third.tier)
          (freed third.tier k (r ∷ []) stands))
          (ap (λ c. c.flight) (flight_here third.tier k None)),
    )))
  where
    work : Flight
    work = Flight.Reads (r ∷ [])

    next : Net
    next = record s.tier.net { next_opid = s.tier.net.next_opid + 1 }

    m : BaseMsg
    m = BaseMsg.Look s.tier.net.cache_epoch r.opid k r.vector

    first : System
    first = with_tier s (begun k work s.tier)

    second : System
    second = with_tier first (sent m first.tier)

    third : System
    third = with_tier second (delivered m second.tier)

    fourth : System
    fourth = with_tier third (with_flight k None third.tier)

    stands : (cell_of third.tier k).flight ≡ Some work
    stands = ap (λ c. c.flight) (flight_here (with_net next s.tier) k (Some work))

    begin : Moves s first
    begin = begins k work up (
      ap lets_read free,
      none,
      (
        r,
        number,
        ap (λ f. reads_with f r) (sym free),
      ),
    ) refl

    ask : Moves first second
    ask = sends m (refl, (r ∷ [], r, stands, inl refl, refl, refl)) refl

    hear : Moves second third
    hear = delivers m (inl refl) refl

    told : NameState → Served
    told b = replies s.tier.net.base_epoch
        (BaseReply.Looked s.tier.net.cache_epoch r.opid (look b r.vector))

    is : delivered m second.tier ≡ with_served m (told (cell_of s.tier k).plain) second.tier
    is = ap (λ x. with_served m x second.tier)
        (in_epoch_same s.tier.net.base_epoch s.tier.net.cache_epoch (told (cell_of s.tier k).base)
        (sym (h.sound.epochs.level up))
        ∙ ap told ((h.sound.names k).clean (ap is_dirty none)))

-- ---- a record

pub records_run : RecordsRun
records_run s call line moment rec r state answer h up has free asked open_call acts =
    after_one s first _ act_here (
      refl,
      dirty,
      after_more first second _ begin (after_more second third _ send (after_more third fourth _
          hear (after_one fourth fifth _ clean (
            ap (λ c. c.rec) (rec_here cleared r.name (Some (record q { dirty = false }))),
            after_one fifth sixth _ (evicts r.name may_evict) (
              ap (λ c. c.rec) (rec_here fifth.tier r.name None),
              evicted_base,
            ),
          )))),
    )
  where
    q : TierRec
    q = record { state = state; dirty = true; mtime = moment }

    first : System
    first = record {
      tier = acted_here r state moment s.tier;
      ledger = with_call_act
          (record { call = call; line = line; req = r; reply = answer }) s.ledger;
    }

    act_here : Moves s first
    act_here = acts_here rec r state answer moment call line (record {
      up = up;
      rec = has;
      lets = ap lets_write free;
      acts = acts;
    }) asked open_call

    held : IsHeld first
    held = moves_keep s first h act_here

    dirty : (cell_of first.tier r.name).rec ≡ Some q
    dirty = ap (λ c. c.rec) (rec_here (with_act r s.tier) r.name (Some q))

    idle : (cell_of first.tier r.name).flight ≡ None
    idle = ap (λ c. c.flight) (rec_here (with_act r s.tier) r.name (Some q)) ∙ free

    op : ℕ
    op = s.tier.net.next_opid

    work : Flight
    work = Flight.Flush None op state.seq false false

    m : BaseMsg
    m = BaseMsg.Install s.tier.net.cache_epoch op r.name state

    next : Net
    next = record first.tier.net { next_opid = op + 1 }

    second : System
    second = with_tier first (begun r.name work first.tier)

    third : System
    third = with_tier second (sent m second.tier)

    fourth : System
    fourth = with_tier third (delivered m third.tier)

    cleared : Tier
    cleared = with_flight r.name None fourth.tier

    fifth : System
    fifth = with_tier fourth (cleaned r.name q fourth.tier)

    sixth : System
    sixth = with_tier fifth (evicted r.name fifth.tier)

    flight : (cell_of second.tier r.name).flight ≡ Some work
    flight = ap (λ c. c.flight) (flight_here (with_net next first.tier) r.name (Some work))

    begin : Moves first second
    begin = begins r.name work up (idle, refl, (q, dirty, refl, refl)) refl

    send : Moves second third
    send = sends m (refl, (None, state.seq, false, false, q, flight, dirty, refl)) refl

    hear : Moves third fourth
    hear = delivers m (inl refl) refl

    may_clean : MayClean fourth.tier r.name None op state.seq state.seq false false q
    may_clean = (flushes_clean first.tier r.name None q false false held.sound up dirty refl
        idle).1

    clean : Moves fourth fifth
    clean = cleans r.name None op state.seq state.seq false false q may_clean

    held_fifth : IsHeld fifth
    held_fifth = moves_keep fourth fifth (moves_keep third fourth (moves_keep second third
        (moves_keep first second held begin) send) hear) clean

    may_evict : MayEvict fifth.tier r.name
    may_evict = record {
      clean = ap is_dirty (ap (λ c. c.rec)
          (rec_here cleared r.name (Some (record q { dirty = false }))));
      up = up;
      free = ap (λ c. c.flight) (rec_here cleared r.name (Some (record q { dirty = false })))
          ∙ ap (λ c. c.flight) (flight_here fourth.tier r.name None);
    }

    evicted_base : state_of sixth.tier.base r.name ≡ state
    evicted_base = evicted_stays fifth.tier r.name (record q { dirty = false }) held_fifth.sound
        may_evict
        (ap (λ c. c.rec) (rec_here cleared r.name (Some (record q { dirty = false }))))

-- ---- a raise that is found

pub found_raises_run : FoundRaisesRun
found_raises_run s e h may =
    after_one s first _ (finds e may) (
      refl,
      may_count,
      after_more first second _ (counts may_count)
          (after_more second third _ (sends m (refl, λ same. absurd (cc)) refl)
          (after_more third fourth _ (delivers m (inl refl) refl)
          (after_one fourth fifth _ up (
            refl,
            ap (λ t. t.net.cache_epoch) is,
            ap (λ t. t.net.base_epoch) is,
          )))),
    )
  where
    m : BaseMsg
    m = BaseMsg.Fence e

    first : System
    first = with_tier s (epoch_found e s.tier)

    may_count : MayCount first.tier
    may_count = record { down = refl; above = may.above }

    second : System
    second = with_tier first (counted_raised first.tier)

    third : System
    third = with_tier second (sent m second.tier)

    fourth : System
    fourth = with_tier third (delivered m third.tier)

    fifth : System
    fifth = with_tier fourth (went_up fourth.tier)

    is : delivered m third.tier
        ≡ with_served m (replies e (BaseReply.Fenced e)) third.tier
    is =
        ap (λ b. with_served m
        (if b then replies s.tier.net.base_epoch (BaseReply.OldEpoch s.tier.net.base_epoch e)
        else replies e (BaseReply.Fenced e)) third.tier)
        (le-ltb e s.tier.net.base_epoch (omega (arith, may.above)))

    up : Moves fourth fifth
    up = goes_up (subst (λ t. MayGoUp t.net) (sym is)
        (record { raised = λ same. absurd (cc); reply = inl refl }))
