-- A promotion asks for its chunks, and gathers them.
use Rattle.std.proofs.Common.{◌≡◌, inl, inr, ℕ, ◌==◌, Bool, true, false, List, [], ◌∷◌, ◌++◌, cond, map, Option, Some, None, refl, sym, ap, subst, ◌∙◌, arith}
use Rattle.std.specs.Prelude.{Result, Ok, Err, IfOk, OnErr, OnOk, if◌then◌else◌}
use Rattle.std.specs.FinMap as fin
use Rattle.std.specs.List.{AllByRecursion}
use Rattle.std.specs.Option.{option_map}
use Rattle.std.proofs.lemmas.Bool.{eqb-true}
use Rattle.base_pool.specs.Serves.{IsMsg}
use Rattle.base_pool.specs.Views.{BaseView}
use Rattle.copy_chunk.specs.Gathers.{wanted}
use Rattle.copy_chunk.specs.declared.chunk.Chunk.{Chunk}
use Rattle.copy_chunk.specs.declared.chunk.Cursor.{Cursor}
use Rattle.tier_calls.specs.Tables.{TableView}
use Rattle.tier_chron.proofs.Lists.{either_way}
use Rattle.tier_protocol.specs.Tiers.{Ask, BaseReply, Flight, IsIn, Name}
use Rattle.tier_promote.specs.Begins as begins
use Rattle.tier_promote.specs.Begins.{AsksFor, wanting_on}
use Rattle.tier_promote.specs.Gathers.{GathersIn, TakesChunk, brought_by, brought_in}
use Rattle.tier_promote.specs.declared.asking.Wanting.{Wanting}
use Rattle.tier_promote.specs.declared.gathering.Brought.{Brought}
use Rattle.tier_promote.specs.declared.gathering.Gathered.{Gathered}
use Rattle.tier_promote.specs.declared.gathering.Gathered.TheVariants as made
use Rattle.tier_traffic.specs.Messages.{replied_of}
use Rattle.tier_view.proofs.Answering.{leaving_is_quiet, quiets_join}
use Rattle.tier_view.proofs.StartingLosses.{losing_replies_keeps}
use Rattle.tier_view.specs.Answers.{KeepsQuietly}
use Rattle.tier_view.specs.Calls.{IsInFlight}
use Rattle.tier_view.specs.Starts.{forgot_reply}
use Rattle.tier_view.specs.Traffic.{Traffic}
use Rattle.tier_view.specs.Views.{GroupView}
use Rattle.tier_view.specs.Whole.{IsWhole}
use Rattle.tier_view.specs.declared.parts.Replied.{Replied}
use Rattle.tier_view.specs.declared.parts.Sent.{Sent}
use Rattle.tier_works.proofs.PromotionSteps.{asking_chunks_keeps, fed_quietly}
use Rattle.tier_works.specs.Promotions.{Feeds, chunk_asked, fed_promotion}
use Rattle.tier_core.specs.Keeps.{IsKept}
use Rattle.tier_core.specs.Promotes.{AsksOn, Gathers, with_traffic}
use Rattle.tier_core.proofs.Proxied.{awaiting_keeps}
use Rattle.tier_core.proofs.Resting.{nothing_quietly}

-- ---- what a promotion wants

wanting_is : (f : Option Flight) (w : Wanting) → wanting_on f ≡ Some w
    → (g : List Chunk) × (ask : Ask) × (f ≡ Some (Flight.Promote w.call w.opid g ask)) ×
    (wanted g ≡ Some w.at)
wanting_is (Some (Flight.Promote call op g ask)) w e = by (wanted g) refl e
  where
    by : (o : Option Cursor) → wanted g ≡ o → option_map
        (λ at. record { call = call; opid = op; at = at }) o ≡ Some w
        → (h : List Chunk) × (a : Ask) × (Some (Flight.Promote call op g ask) ≡ Some
        (Flight.Promote w.call w.opid h a)) × (wanted h ≡ Some w.at)
    by (Some at) same is =
        let one : ◌≡◌ {A = Wanting} (record { call = call; opid = op; at = at }) w = cc in (
          g,
          ask,
          ap (λ (x : Wanting). Some (Flight.Promote x.call x.opid g ask)) one,
          same
              ∙ ap (λ (x : Wanting). Some x.at) one,
        )
    by None same is = absurd (cc)
wanting_is None w e = absurd (cc)
wanting_is (Some (Flight.Write driver owner op r)) w e = absurd (cc)
wanting_is (Some (Flight.Reads list)) w e = absurd (cc)
wanting_is (Some (Flight.Flush call op seq blocking drain)) w e = absurd (cc)

-- ---- what a reply brings

-- the reply that brings a chunk is on the wire
brought_is : (epoch : ℕ) (r : BaseReply) (b : Brought) → brought_by epoch r ≡ Some b
    → BaseReply.Chunk epoch b.opid (Some b.chunk) ≡ r
brought_is epoch (BaseReply.Chunk e op (Some x)) b is = by (e == epoch) refl is
  where
    by : (c : Bool) → (e == epoch) ≡ c → (if c then Some
        (record { opid = op; chunk = x }) else None) ≡ Some b
        → BaseReply.Chunk epoch b.opid (Some b.chunk) ≡ BaseReply.Chunk e op (Some x)
    by true same is =
        let one : e ≡ epoch = eqb-true e epoch same in
        let both : ◌≡◌ {A = Brought} (record { opid = op; chunk = x }) b = cc in
        ap (λ n. BaseReply.Chunk n b.opid (Some b.chunk)) (sym one)
        ∙ ap (λ (y : Brought). BaseReply.Chunk e y.opid (Some y.chunk)) (sym both)
    by false same is = absurd (cc)
brought_is epoch (BaseReply.Chunk e op None) b is = absurd (cc)
brought_is epoch (BaseReply.Wrote e op a) b is = absurd (cc)
brought_is epoch (BaseReply.Fenced e) b is = absurd (cc)
brought_is epoch (BaseReply.Looked e op looked) b is = absurd (cc)
brought_is epoch (BaseReply.Installed e op seq) b is = absurd (cc)
brought_is epoch (BaseReply.NoSpace e op used need limit) b is = absurd (cc)
brought_is epoch (BaseReply.OldEpoch have got) b is = absurd (cc)
brought_is epoch (BaseReply.NotFenced have got) b is = absurd (cc)

brought_is_in : (epoch : ℕ) (rs : List Replied) (number : ℕ) (b : Brought)
    → brought_in epoch (replied_of rs number) ≡ Some b
    → IsIn (BaseReply.Chunk epoch b.opid (Some b.chunk)) (map (λ (r : Replied). r.reply) rs)
brought_is_in epoch [] number b is = absurd (cc)
brought_is_in epoch (r ∷ rs) number b is =
    either_way (r.number == number)
    (λ same. inl (brought_is epoch r.reply b (sym (ap (λ c. brought_in epoch (cond c (Some r)
    (replied_of rs number))) same) ∙ is)))
    (λ other. inr (brought_is_in epoch rs number b (sym (ap (λ c. brought_in epoch (cond c (Some r)
    (replied_of rs number))) other) ∙ is)))

-- ---- the steps

module _ (v : GroupView) (base : BaseView) (table : TableView) (k : IsKept v base table)
    (none : v.stores.pending ≡ None) where
  -- the traffic changes so in a quiet step, and all its messages are lawful
  abbrev Moves : Traffic → Type 0
  Moves x = KeepsQuietly v (with_traffic x v) × AllByRecursion (λ
      (s : Sent). IsMsg s.message) x.messages

  stays : (x : Traffic) → x ≡ v.traffic → Moves x
  stays x same = subst Moves (sym same) (nothing_quietly v k.whole, k.messages)

  asked : (name : Name) (w : Wanting) → wanting_on (fin.get v.traffic.flights name) ≡ Some w
      → Moves (begins.chunk_asked v.standing.cache_epoch name w v.traffic)
  asked name w is =
      let p = wanting_is (fin.get v.traffic.flights name) w is in
      let m : GroupView = chunk_asked name w.opid w.at v in
      let n : GroupView = with_traffic (begins.chunk_asked v.standing.cache_epoch name w v.traffic)
      v in
      let sent : KeepsQuietly v m = asking_chunks_keeps v name w.call w.opid p.0 p.1 w.at k.whole
      none p.2 p.3 in
      let going : IsInFlight v.calls.entries w.call = (k.whole.flights.listed name
      (Flight.Promote w.call w.opid p.0 p.1) p.2).0 in
      let waits = awaiting_keeps m w.call v.traffic.next_message sent.0 going (omega arith) in
      let last : KeepsQuietly m n = leaving_is_quiet m n waits
      (record { stores = refl; log = refl; calls = refl; epoch = refl; opids = refl }) in
      ((last.0, quiets_join v m n sent.1 last.1 (inl refl)), (tt, k.messages))

  asks_move : (name : Name) (x : Traffic) (number : Option ℕ)
      → AsksFor v.standing.cache_epoch name v.traffic x number → Moves x
  asks_move name x (Some number) h = subst Moves (sym h.sent) (asked name h.wanting h.is)
  asks_move name x None h = stays x h.0

  module _ (x : Traffic) (number call : ℕ) (h : TakesChunk v.standing.cache_epoch number v.traffic x
      call) where
    abbrev G : List Chunk
    G = h.is.gather

    feeds : Feeds v h.p.name h.p.call h.b.opid G h.is.ask h.b.chunk
    feeds = record {
      settled = none;
      flight = h.is.flight;
      wanted = h.wants;
      reply = brought_is_in v.standing.cache_epoch v.traffic.replies number h.b h.is.brought;
    }

    taken : Moves x
    taken =
        let m : GroupView = fed_promotion h.p.name h.p.call h.b.opid G h.is.ask h.b.chunk v in
        let fed : KeepsQuietly v m = fed_quietly v h.p.name h.p.call h.b.opid G h.is.ask h.b.chunk
        k.whole feeds in
        let last : KeepsQuietly m (forgot_reply number m) =
        leaving_is_quiet m (forgot_reply number m) (losing_replies_keeps number m fed.0)
        (record { stores = refl; log = refl; calls = refl; epoch = refl; opids = refl }) in
        subst Moves (sym h.taken) (
          (
            last.0,
            quiets_join v m (forgot_reply number m) fed.1 last.1
                (inl refl),
          ),
          k.messages,
        )

  gathers_move : (number : ℕ) (x : Traffic) (result : Gathered)
      → GathersIn v.standing.cache_epoch number v.traffic x result → Moves x
  gathers_move number x (made.Taken call) h = taken x number call h
  gathers_move number x (made.Unfit call) h = stays x h.same
  gathers_move number x made.Nothing h = stays x h.0

  moved_kept : (x : Traffic) → Moves x → IsKept (with_traffic x v) base table
  moved_kept x m = record {
    whole = m.0.0;
    cached = k.cached;
    based = k.based;
    level = k.level;
    counted = k.counted;
    messages = m.1;
    asked = k.asked;
  }

  -- what comes of a change of the traffic
  pub record Moved {X E : Type 0} (x : Traffic) (says : X
      → Type 0) (result : Result X E) : Type 0 where
    pub kept : IsKept (with_traffic x v) base table
    pub is : IfOk result says
    pub step : OnOk result (KeepsQuietly v (with_traffic x v))
    pub same : OnErr result (with_traffic x v ≡ v)

  pub asks_all : (name : Name) (x : Traffic) {E : Type 0} (result : Result (Option ℕ) E)
      → IfOk result (AsksFor v.standing.cache_epoch name v.traffic x) → OnErr result (x ≡ v.traffic)
      → Moved x (AsksOn name v (with_traffic x v)) result
  asks_all name x (Ok number) h same =
      let m = asks_move name x number h in
      record { kept = moved_kept x m; is = record { rest = refl; asks = h }; step = m.0; same = tt }
  asks_all name x (Err e) h same =
      record {
        kept = moved_kept x (stays x same);
        is = tt;
        step = tt;
        same = ap (λ
            (t : Traffic). with_traffic t v) same;
      }

  pub gathers_all : (number : ℕ) (x : Traffic) {E : Type 0} (result : Result Gathered E)
      → IfOk result (GathersIn v.standing.cache_epoch number v.traffic x)
      → OnErr result (x ≡ v.traffic)
      → Moved x (Gathers number v (with_traffic x v)) result
  gathers_all number x (Ok y) h same =
      let m = gathers_move number x y h in
      record {
        kept = moved_kept x m;
        is = record { rest = refl; gathers = h };
        step = m.0;
        same =
            tt;
      }
  gathers_all number x (Err e) h same =
      record {
        kept = moved_kept x (stays x same);
        is = tt;
        step = tt;
        same = ap (λ
            (t : Traffic). with_traffic t v) same;
      }
