-- Write requests begin and are sent.
use Rattle.std.proofs.Common.{◌≡◌, ◌≢◌, ◌<◌, ◌≤◌, ◌⊎◌, ℕ, ◌+◌, true, false, ◌∷◌, Option, Some, None, refl, sym, ap, subst, ◌∙◌, arith, inl, inr}
use Rattle.obj_model.specs.declared.reply.Reply.{Reply}
use Rattle.obj_model.specs.declared.req.Req.{Req}
use Rattle.obj_model.specs.declared.state.NameState.{NameState}
use Rattle.tier_types.specs.Flights.{HasOpid, is_bare}
use Rattle.tier_protocol.specs.Tiers.{Name, Flight, BaseMsg, BaseReply, BaseActed, Phase, Net, IsIn, cell_of}
use Rattle.tier_protocol.specs.Memory.{IsGiven}
use Rattle.tier_protocol.specs.Sound.{IsSpent, is_past}
use Rattle.tier_protocol.specs.Moves.{begun, with_net, MaySend}
use Rattle.tier_protocol.specs.Owners.{IsOpen, Owned, SoundWriting}
use Rattle.tier_protocol.proofs.Cells.{flight_here, flight_there, same_or_not}
use Rattle.tier_protocol.proofs.Names.{spent_then}
use Rattle.tier_protocol.proofs.Steps.{shown}
use Rattle.tier_owners.specs.Calls.{BeginningKeepsOwners, SendingKeepsOwners, WritingKeepsOwners, is_write_message}
use Rattle.tier_owners.proofs.Spent.{has_act_or_not, spent_sent}

one_write : (e i op j : ℕ) (r q : Req) → BaseMsg.Write i j q ≡ BaseMsg.Write e op r
    → (e ≡ i) × (op ≡ j) × (r ≡ q)
one_write e i op j r q same = (cc, cc, cc)

one_owner : (d c : Option ℕ) (w v o p : ℕ) (x y : Req)
    → Some (Flight.Write d w o x) ≡ Some (Flight.Write c v p y) → w ≡ v
one_owner d c w v o p x y is = cc

-- ---- a write request begins

pub beginning_owned : BeginningKeepsOwners
beginning_owned t l k driver owner op line r h w may asked free = record {
  same = w.same;
  known = w.known;
  asked = w.asked;
  given = λ o is. let g = w.given o is in
      record { begun = g.begun; silent = g.silent; counted = λ now. omega (arith, g.counted now) };
  reached = w.reached;
  acted = w.acted;
  once = w.once;
  pending = w.pending;
  writing = λ n d v j q f. elim (same_or_not n k) [
    | inl is ↦ subst (λ m. SoundWriting (begun k flight t) l m v j q) (sym is) (fresh d v j q
        (sym here ∙ subst (λ m. (cell_of (begun k flight t) m).flight ≡ Some
        (Flight.Write d v j q)) is f))
    | inr ne ↦ old n d v j q (sym (ap (λ c. c.flight) (flight_there (with_net next t) k
        (Some flight) n ne)) ∙ f)
  ];
}
  where
    flight : Flight
    flight = Flight.Write driver owner op r

    next : Net
    next = record t.net { next_opid = t.net.next_opid + 1 }

    here : (cell_of (begun k flight t) k).flight ≡ Some flight
    here = ap (λ c. c.flight) (flight_here (with_net next t) k (Some flight))

    -- what stood before
    old : (n : Name) (d : Option ℕ) (v j : ℕ) (q : Req)
        → (cell_of t n).flight ≡ Some (Flight.Write d v j q)
        → SoundWriting (begun k flight t) l n v j q
    old n d v j q f =
        let x = w.writing n d v j q f in
        record {
          line = x.line;
          asked = x.asked;
          pending = x.pending;
          acted = x.acted;
          own = x.own;
          told = x.told;
        }

    -- what begins: nothing of it was sent, and nothing replied
    as_new : SoundWriting (begun k flight t) l k owner op r
    as_new = record {
      line = line;
      asked = asked;
      pending = free.1;
      acted = λ a is mine. absurd (free.0 a is mine);
      own = λ o is now number. absurd (omega (arith, (w.given o is).counted now, number, may.2));
      told = λ answer on. absurd (omega (arith, given answer on, may.2));
    }
      where
        given : (answer : Reply)
            → IsIn (BaseReply.Wrote t.net.cache_epoch op (BaseActed.Fresh answer)) t.net.replies
            → op < t.net.next_opid
        given answer on =
            let g : IsGiven t.net t.net.cache_epoch op =
            h.memory.wire.replied (BaseReply.Wrote t.net.cache_epoch op
            (BaseActed.Fresh answer)) on in
            g.counted refl

    same_parts : (d : Option ℕ) (v j : ℕ) (q : Req) → Some flight ≡ Some (Flight.Write d v j q)
        → (owner ≡ v) × (op ≡ j) × (r ≡ q)
    same_parts d v j q e = (cc, cc, cc)

    fresh : (d : Option ℕ) (v j : ℕ) (q : Req) → Some flight ≡ Some (Flight.Write d v j q)
        → SoundWriting (begun k flight t) l k v j q
    fresh d v j q e =
        let is = same_parts d v j q e in
        subst (λ x. SoundWriting (begun k flight t) l k x j q) is.0
        (subst (λ x. SoundWriting (begun k flight t) l k owner x q) is.1
        (subst (λ x. SoundWriting (begun k flight t) l k owner op x) is.2 as_new))

-- ---- a Write is sent

pub writing_owned : WritingKeepsOwners
writing_owned t l e op r driver owner line h w now f asked = record {
  same = w.same;
  known = λ i j q on. elim on [
    | inl same ↦ let is = one_write e i op j r q same in (new, inl refl, is.0, is.1, is.2)
    | inr old ↦ let x = w.known i j q old in (x.0, inr x.1, x.2, x.3, x.4)
  ];
  asked = λ o is. elim is [
    | inl same ↦ subst (λ x. l.asks x.call ≡ Some (record { line = x.line; req = x.req }))
        (sym same) asked
    | inr old ↦ w.asked o old
  ];
  given = λ o is. elim is [
    | inl same ↦ subst (λ x. IsGiven t.net x.epoch x.opid) (sym same) given
    | inr old ↦ w.given o old
  ];
  reached = λ o is. elim is [
    | inl same ↦ subst (λ x. x.epoch ≤ t.net.base_epoch) (sym same) (omega (arith, now, level))
    | inr old ↦ w.reached o old
  ];
  acted = w.acted;
  once = w.once;
  pending = pending;
  writing = λ n d v j q g. let x = w.writing n d v j q g in record {
    line = x.line;
    asked = x.asked;
    pending = x.pending;
    acted = x.acted;
    own = λ o is here number. elim is [
      | inl same ↦ ap (λ y. y.call) same ∙ owner_of n d v j q g (sym number ∙ ap (λ y. y.opid) same)
      | inr old ↦ x.own o old here number
    ];
    told = x.told;
  };
}
  where
    m : BaseMsg
    m = BaseMsg.Write e op r

    new : Owned
    new = record { epoch = e; opid = op; req = r; call = owner; line = line }

    next : Net
    next = record t.net { wire = m ∷ t.net.wire }

    busy : (cell_of t r.name).flight ≢ None
    busy = λ free. absurd (cc)

    up : t.net.phase ≡ Phase.Up
    up = (h.memory.each r.name).up busy

    level : t.net.base_epoch ≡ t.net.cache_epoch
    level = h.epochs.level up

    has : HasOpid (cell_of t r.name).flight op
    has = subst (λ x. HasOpid x op) (sym f) refl

    given : IsGiven t.net e op
    given = record {
      begun = omega (arith, now);
      silent = λ raised. let is = up in absurd (cc);
      counted = λ same. ((h.memory.each r.name).counted op has).1;
    }

    this : SoundWriting t l r.name owner op r
    this = w.writing r.name driver owner op r f

    -- the owner of the work that has this number
    owner_of : (n : Name) (d : Option ℕ) (v j : ℕ) (q : Req)
        → (cell_of t n).flight ≡ Some (Flight.Write d v j q) → j ≡ op → owner ≡ v
    owner_of n d v j q g number =
        let there : HasOpid (cell_of t n).flight op = subst (λ x. HasOpid x op) (sym g)
        (sym number) in
        let at : r.name ≡ n = h.memory.apart r.name n op has there in
        one_owner driver d owner v op j r q
        (sym f ∙ subst (λ x. (cell_of t x).flight ≡ Some (Flight.Write d v j q)) (sym at) g)

    no_install : (i j : ℕ) (s : NameState) → BaseMsg.Install i j r.name s ≡ m
        → s ≡ (cell_of t r.name).plain
    no_install i j s same = absurd (cc)

    -- what was sent is spent, or its owner has no act
    now_pending : IsSpent r.name (cell_of t r.name) next r ⊎ IsOpen l owner
    now_pending = elim (has_act_or_not l.acts owner) [
      | inl none ↦ inr (none, this.pending)
      | inr a ↦ inl (spent_sent r.name (cell_of t r.name) t.net m r no_install
          (spent_then r.name (cell_of t r.name) t.net r (h.names r.name)
          ((h.names r.name).bare (ap is_bare f)) (inr (ap is_past (this.acted a.0 a.1 a.2).1))))
    ]

    pending : (o : Owned) → IsIn o (new ∷ l.owned)
        → IsIn (BaseMsg.Write o.epoch o.opid o.req) (m ∷ t.net.wire) → t.net.base_epoch ≤ o.epoch
        → IsSpent o.req.name (cell_of t o.req.name) next o.req ⊎ IsOpen l o.call
    pending o (inl same) on above =
        subst (λ x. IsSpent x.req.name (cell_of t x.req.name) next x.req
        ⊎ IsOpen l x.call) (sym same) now_pending
    pending o (inr old) (inl same) above =
        let is = one_write e o.epoch op o.opid r o.req same in
        let mine : o.call ≡ owner = this.own o old (sym is.0 ∙ now) (sym is.1) in
        elim now_pending [
          | inl spent ↦ inl (subst (λ x. IsSpent x.name (cell_of t x.name) next x) is.2 spent)
          | inr free ↦ inr (subst (λ c. IsOpen l c) (sym mine) free)
        ]
    pending o (inr old) (inr on) above = elim (w.pending o old on above) [
      | inl spent ↦ inl (spent_sent o.req.name (cell_of t o.req.name) t.net m o.req
          (λ i j s same. absurd (cc)) spent)
      | inr free ↦ inr free
    ]

-- another message is sent
pub sending_owned : SendingKeepsOwners
sending_owned t l m h w may plain = record {
  same = w.same;
  known = λ i j q on. elim on [
    | inl same ↦ absurd
        (no_write i j q same)
    | inr old ↦ w.known i j q old
  ];
  asked = w.asked;
  given = w.given;
  reached = w.reached;
  acted = w.acted;
  once = w.once;
  pending = λ o is on above. elim on [
    | inl same ↦ absurd (no_write o.epoch o.opid o.req same)
    | inr old ↦ elim (w.pending o is old above) [
      | inl spent ↦ inl (spent_sent o.req.name (cell_of t o.req.name) t.net m o.req
          (λ e op s same. install m may e op o.req.name s same) spent)
      | inr free ↦ inr free
    ]
  ];
  writing = λ n d v j q g. let x = w.writing n d v j q g in
      record {
        line = x.line;
        asked = x.asked;
        pending = x.pending;
        acted = x.acted;
        own = x.own;
        told = x.told;
      };
}
  where
    no_write : (i j : ℕ) (q : Req) → BaseMsg.Write i j q ≡ m → ⊥
    no_write i j q same = let e : true ≡ false = ap is_write_message same ∙ plain in absurd (cc)

    -- an Install that is sent is of the plain store's state
    install : (m : BaseMsg) → MaySend t m → (e op : ℕ) (n : Name) (s : NameState)
        → BaseMsg.Install e op n s ≡ m → s ≡ (cell_of t n).plain
    install (BaseMsg.Fence i) may e op n s same = absurd (cc)
    install (BaseMsg.GetChunk i o k at) may e op n s same = absurd (cc)
    install (BaseMsg.Look i o k v) may e op n s same = absurd (cc)
    install (BaseMsg.Write i o r) may e op n s same = absurd (cc)
    install (BaseMsg.Install i o k x) may e op n s same =
        let is : x ≡ (cell_of t k).plain = sym may.1.7 ∙ shown t k may.1.4 h may.1.6 in
        let at : k ≡ n = cc in
        let state : s ≡ x = cc in
        state ∙ subst (λ y. x ≡ (cell_of t y).plain) at is
