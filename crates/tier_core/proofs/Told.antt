-- What the base told of a write request, and its owner.
use Rattle.std.proofs.Common.{◌≡◌, ◌≤◌, ◌<◌, inl, inr, ℕ, zero, suc, ◌==◌, Bool, true, false, true≢false, List, [], ◌∷◌, cond, drop, get_or, ◌-◌, map, length, Option, Some, None, unwrap_or, refl, sym, ap, subst, ◌∙◌, arith}
use Rattle.std.specs.Prelude.{Result, Ok, Err, IfOk, MatchOption, if◌then◌else◌}
use Rattle.std.specs.FinMap as fin
use Rattle.std.proofs.Math.Seq.{drop-cons}
use Rattle.std.proofs.lemmas.Bool.{eqb-true, eq-eqb}
use Rattle.std.proofs.lemmas.Option.{slice_get-get_or}
use Rattle.obj_model.specs.declared.req.Req.{Req}
use Rattle.tier_chron.proofs.Lists.{either_way}
use Rattle.tier_chron.specs.Places.{act_at}
use Rattle.tier_chron.specs.Shapes.{HasNoAct}
use Rattle.tier_chron.specs.declared.asked.Asked.{Asked}
use Rattle.tier_chron.specs.declared.asked.Asked.TheVariants.{Write, Read, Flush, Finish, Evict, Drain, Agent, Start}
use Rattle.tier_chron.specs.declared.entries.Act.{Act}
use Rattle.tier_flight.specs.Numbers.{IsNameBy, has_opid}
use Rattle.tier_protocol.specs.Tiers.{BaseActed, BaseReply, Flight, Flights, Name, IsIn}
use Rattle.tier_traffic.specs.Messages.{replied_of}
use Rattle.tier_view.specs.Calls.{entry_of}
use Rattle.tier_view.specs.declared.parts.Entry.{Entry}
use Rattle.tier_view.specs.Traffic.{Traffic}
use Rattle.tier_view.specs.declared.parts.Replied.{Replied}
use Rattle.tier_core.specs.Lands.{IsDriven, IsTold, IsUndriven, IsUntold, driven_by, driven_on, owner_turn, turn_by, turn_in, wrote_by, wrote_in}
use Rattle.tier_core.specs.declared.lands.Told.{Told}
use Rattle.tier_core.specs.declared.lands.Wrote.{Wrote}
use Rattle.tier_core.specs.declared.turns.Turn.{Turn}

-- ---- the work that is told of

one_pair : (a b c d : ℕ) → ◌≡◌ {A = Option (ℕ × ℕ)} (Some (a, b)) (Some (c, d)) → (a ≡ c) × (b ≡ d)
one_pair a b c d e =
    let same : ◌≡◌ {A = ℕ × ℕ} (a, b) (c, d) = ap (λ (o : Option (ℕ × ℕ)). unwrap_or o (a, b)) e in
    (ap (λ (p : ℕ × ℕ). p.0) same, ap (λ (p : ℕ × ℕ). p.1) same)

one_name : (n k : Name) → Some n ≡ Some k → n ≡ k
one_name n k e = cc

-- the work that a call drives is a write request
driven_is : (f : Option Flight) (d o : ℕ) → driven_on f ≡ Some (d, o)
    → (op : ℕ) × (r : Req) × (f ≡ Some (Flight.Write (Some d) o op r))
driven_is None d o e = absurd (cc)
driven_is (Some (Flight.Promote call op gather ask)) d o e = absurd (cc)
driven_is (Some (Flight.Write (Some driver) owner op r)) d o e =
    let same = one_pair driver owner d o e in (
      op,
      r,
      ap (λ n. Some (Flight.Write (Some n) owner op r)) same.0
          ∙ ap (λ n. Some (Flight.Write (Some d) n op r)) same.1,
    )
driven_is (Some (Flight.Write None owner op r)) d o e = absurd (cc)
driven_is (Some (Flight.Reads list)) d o e = absurd (cc)
driven_is (Some (Flight.Flush call op seq blocking drain)) d o e = absurd (cc)

module _ (flights : Flights) (wrote : Wrote) (found : Option Name)
    (named : IsNameBy has_opid flights wrote.opid found) where
  -- the name of the work is the one that was found
  its_name : (told : Told) → IsDriven flights wrote told → found ≡ Some told.name
  its_name told is = (named told.name).1 (subst (λ
      (o : Option Flight). has_opid o wrote.opid ≡ true) (sym is.flight)
      (eq-eqb wrote.opid wrote.opid refl))

  pub none_found : found ≡ None → IsUndriven flights wrote
  none_found none told is = let no : None ≡ Some told.name = sym none
      ∙ its_name told is in absurd (cc)

  pub none_drives : (name : Name) → found ≡ Some name → driven_on (fin.get flights name) ≡ None
      → IsUndriven flights wrote
  none_drives name at none told is =
      let same : name ≡ told.name = one_name name told.name (sym at ∙ its_name told is) in
      let no : None ≡ Some (told.driver, told.owner) = sym none
      ∙ ap driven_on (ap (fin.get flights) same ∙ is.flight) in
      absurd (cc)

  pub one_drives : (name copy : Name) (driver owner : ℕ) → found ≡ Some name → copy ≡ name
      → driven_on (fin.get flights name) ≡ Some (driver, owner)
      → IsDriven flights wrote (record {
        wrote = wrote;
        name = copy;
        driver = driver;
        owner = owner;
      })
  one_drives name copy driver owner at is drives =
      let f = driven_is (fin.get flights name) driver owner drives in
      let op : f.0 ≡ wrote.opid = eqb-true f.0 wrote.opid (subst (λ
      (o : Option Flight). has_opid o wrote.opid ≡ true) f.2 ((named name).0 at)) in
      record {
        same = refl;
        req = f.1;
        flight = ap (fin.get flights) is ∙ f.2 ∙ ap (λ n. Some (Flight.Write
            (Some driver) owner n f.1)) op;
      }

module _ (t : Traffic) (epoch number : ℕ) where
  pub none_wrote : wrote_in epoch (replied_of t.replies number) ≡ None → IsUntold t epoch number
  none_wrote none told is = let no : None ≡ Some told.wrote = sym none ∙ is.wrote in absurd (cc)

  pub one_wrote : (a b : Wrote) → Some a ≡ Some b → a ≡ b
  one_wrote a b e = cc

  module _ (wrote : Wrote) (at : wrote_in epoch (replied_of t.replies number) ≡ Some wrote) where
    pub told_by : {E : Type 0} (result : Result (Option Told) E)
        → IfOk result (λ told. MatchOption told (IsUndriven t.flights wrote)
        (IsDriven t.flights wrote))
        → IfOk result (λ told. MatchOption told (IsUntold t epoch number) (IsTold t epoch number))
    told_by (Ok None) h = λ told is. h told (record {
      same = one_wrote told.wrote wrote (sym is.wrote ∙ at);
      req = is.req;
      flight = is.flight ∙ ap (λ (w : Wrote). Some (Flight.Write
          (Some told.driver) told.owner w.opid is.req)) (one_wrote told.wrote wrote (sym is.wrote
          ∙ at));
    })
    told_by (Ok (Some told)) h = record {
      wrote = at ∙ ap Some (sym h.same);
      req = h.req;
      flight = h.flight ∙ ap (λ (w : Wrote). Some (Flight.Write
          (Some told.driver) told.owner w.opid h.req)) (sym h.same);
    }
    told_by (Err e) h = tt

-- ---- the reply

-- the reply that tells is on the wire
wrote_is : (epoch : ℕ) (r : BaseReply) (w : Wrote) → wrote_by epoch r ≡ Some w
    → BaseReply.Wrote epoch w.opid w.acted ≡ r
wrote_is epoch (BaseReply.Wrote e op a) w is = by (e == epoch) refl is
  where
    by : (b : Bool) → (e == epoch) ≡ b → (if b then Some
        (record { opid = op; acted = a }) else None) ≡ Some w
        → BaseReply.Wrote epoch w.opid w.acted ≡ BaseReply.Wrote e op a
    by true same is =
        let one : e ≡ epoch = eqb-true e epoch same in
        let both : record { opid = op; acted = a } ≡ w = cc in
        ap (λ n. BaseReply.Wrote n w.opid w.acted) (sym one)
        ∙ ap (λ (x : Wrote). BaseReply.Wrote e x.opid x.acted) (sym both)
    by false same is = absurd (cc)
wrote_is epoch (BaseReply.Fenced e) w is = absurd (cc)
wrote_is epoch (BaseReply.Chunk e op chunk) w is = absurd (cc)
wrote_is epoch (BaseReply.Looked e op looked) w is = absurd (cc)
wrote_is epoch (BaseReply.Installed e op seq) w is = absurd (cc)
wrote_is epoch (BaseReply.NoSpace e op used need limit) w is = absurd (cc)
wrote_is epoch (BaseReply.OldEpoch have got) w is = absurd (cc)
wrote_is epoch (BaseReply.NotFenced have got) w is = absurd (cc)

pub reply_is_in : (epoch : ℕ) (rs : List Replied) (number : ℕ) (w : Wrote)
    → wrote_in epoch (replied_of rs number) ≡ Some w
    → IsIn (BaseReply.Wrote epoch w.opid w.acted) (map (λ (r : Replied). r.reply) rs)
reply_is_in epoch [] number w is = absurd (cc)
reply_is_in epoch (r ∷ rs) number w is =
    either_way (r.number == number)
    (λ same. inl (wrote_is epoch r.reply w (sym (ap (λ b. wrote_in epoch (cond b (Some r)
    (replied_of rs number))) same) ∙ is)))
    (λ other. inr (reply_is_in epoch rs number w (sym (ap (λ b. wrote_in epoch (cond b (Some r)
    (replied_of rs number))) other) ∙ is)))

-- ---- the owner

-- the owner drives its request, and asked a write request
pub record IsWriter (driver owner : ℕ) (entries : List Entry) (turn : Turn) : Type 0 where
  pub drives : driver ≡ owner
  pub call : turn.call ≡ owner
  pub entry : Entry
  pub is : entry_of entries owner ≡ Some entry
  pub req : Req
  pub asked : entry.asked ≡ Write req
  pub line : entry.line ≡ Some turn.line
  pub begin : entry.begin ≡ turn.begin

one_turn : (a b : Turn) → Some a ≡ Some b → a ≡ b
one_turn a b e = cc

turned : (call : ℕ) (asked : Asked) (line : Option ℕ) (begin : ℕ) (turn : Turn)
    → turn_by call asked line begin ≡ Some turn
    → (turn.call ≡ call) × ((r : Req) × (asked ≡ Write r)) × (line ≡ Some turn.line) ×
    (begin ≡ turn.begin)
turned call (Write r) (Some n) begin turn e =
    let same : turn ≡ record { call = call; line = n; begin = begin } = one_turn turn
    (record { call = call; line = n; begin = begin }) (sym e) in (
      ap (λ (x : Turn). x.call) same,
      (r, refl),
      sym (ap (λ (x : Turn). Some x.line) same),
      sym (ap
          (λ (x : Turn). x.begin) same),
    )
turned call (Write r) None begin turn e = absurd (cc)
turned call (Read client name vector) line begin turn e = absurd (cc)
turned call (Flush name blocking begin_only) line begin turn e = absurd (cc)
turned call (Finish name) line begin turn e = absurd (cc)
turned call (Evict name) line begin turn e = absurd (cc)
turned call Drain line begin turn e = absurd (cc)
turned call Agent line begin turn e = absurd (cc)
turned call Start line begin turn e = absurd (cc)

pub writer_is : (driver owner : ℕ) (entries : List Entry) (turn : Turn)
    → owner_turn driver owner entries ≡ Some turn → IsWriter driver owner entries turn
writer_is driver owner entries turn e = by (driver == owner) refl (entry_of entries owner) refl e
  where
    by : (b : Bool) → (driver == owner) ≡ b → (o : Option Entry) → entry_of entries owner ≡ o
        → (if b then turn_in owner o else None) ≡ Some turn → IsWriter driver owner entries turn
    by false same o at is = absurd (cc)
    by true same None at is = absurd (cc)
    by true same (Some x) at is = let k = turned owner x.asked x.line x.begin turn is in record {
      drives = eqb-true driver owner same;
      call = k.0;
      entry = x;
      is = at;
      req = k.1.0;
      asked = k.1.1;
      line = k.2;
      begin = k.3;
    }
