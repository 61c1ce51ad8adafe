-- Calls ask, and are answered for good.
use Rattle.std.proofs.Common.{◌≡◌, ◌≢◌, ◌≤◌, ℕ, true, false, Option, Some, None, refl, sym, ap, subst, ◌∙◌, inl, inr}
use Rattle.std.specs.Prelude.{if◌then◌else◌, ◌==◌}
use Rattle.std.specs.FinMap as fin
use Rattle.std.proofs.lemmas.Bool.{ne_eqb}
use Rattle.obj_model.specs.Names.{name_cmp}
use Rattle.obj_model.specs.declared.req.Req.{Req}
use Rattle.obj_ops.specs.Acts.{act}
use Rattle.tier_types.specs.Flights.{is_bare, is_write}
use Rattle.tier_types.specs.Serving.{lasting}
use Rattle.tier_protocol.specs.Tiers.{Name, Flight, BaseMsg, BaseReply, BaseActed, Tier, IsIn, cell_of}
use Rattle.tier_protocol.specs.Sound.{IsSound, IsSpent, is_fresh}
use Rattle.tier_protocol.specs.Laws.{found}
use Rattle.tier_protocol.specs.Moves.{landed}
use Rattle.tier_protocol.specs.Owners.{Asking, Ledger, Owned, SoundOwners, SoundWriting}
use Rattle.tier_protocol.proofs.Cells.{flight_here, flight_there, same_or_not}
use Rattle.tier_protocol.proofs.Names.{spent_then}
use Rattle.tier_protocol.proofs.Owners.{free_not_write, one_asked, same_call}
use Rattle.tier_protocol.proofs.Requests.{spent_of}
use Rattle.tier_owners.specs.Calls.{AdoptersMayClose, AnsweredHereMayClose, AskingKeepsOwners, BlockedMayClose, ClosingKeepsOwners, FoundIsOwned, HasAsked, LandedMayClose, OwningNothingMayClose, ReadersMayClose, UnsentMayClose}
use Rattle.tier_owners.proofs.Spent.{spent_over_record}

pub found_owned : FoundIsOwned
found_owned recs base plain e f = record {
  same = refl;
  known = λ i op r on. absurd on;
  asked = λ o is. absurd is;
  given = λ o is. absurd is;
  reached = λ o is. absurd is;
  acted = λ a is. absurd is;
  once = tt;
  pending = λ o is. absurd is;
  writing = λ n d owner op r g.
      absurd (free_not_write (cell_of (found recs base plain e f) n).flight d owner op r
      (fin.get-empty {X = Flight} name_cmp n) g);
}

-- what another call asked stays
asked_other : (l : Ledger) (call c : ℕ) (new old : Asking) → l.asks call ≡ None
    → l.asks c ≡ Some old
    → (if c == call then Some new else l.asks c) ≡ Some old
asked_other l call c new old none e =
    ap (λ b. if b then Some new else l.asks c)
    (ne_eqb c call (λ same. let g : l.asks call ≡ Some old = subst
    (λ x. l.asks x ≡ Some old) same e in absurd (cc)))
    ∙ e

pub asking_owned : AskingKeepsOwners
asking_owned t l call new w none = record {
  same = w.same;
  known = w.known;
  asked = λ o is. asked_other l call o.call new (record { line = o.line; req = o.req }) none
      (w.asked o is);
  given = w.given;
  reached = w.reached;
  acted = λ a is. asked_other l call a.call new (record { line = a.line; req = a.req }) none
      (w.acted a is);
  once = w.once;
  pending = w.pending;
  writing = λ n d owner op r f. let x = w.writing n d owner op r f in record {
    line = x.line;
    asked = asked_other l call owner new (record { line = x.line; req = r }) none x.asked;
    pending = x.pending;
    acted = x.acted;
    own = x.own;
    told = x.told;
  };
}

-- another call stays as open as it was
closed_other : (l : Ledger) (call c : ℕ) → c ≢ call → l.closed c ≡ false
    → (if c == call then true else l.closed c) ≡ false
closed_other l call c other e = ap (λ b. if b then true else l.closed c) (ne_eqb c call other) ∙ e

pub closing_owned : ClosingKeepsOwners
closing_owned t l call w may = record {
  same = w.same;
  known = w.known;
  asked = w.asked;
  given = w.given;
  reached = w.reached;
  acted = w.acted;
  once = w.once;
  pending = λ o is on above. elim (same_call o.call call) [
    | inl one ↦ inl (may.spent o is one on above)
    | inr two ↦ elim (w.pending o is on above) [
      | inl spent ↦ inl spent
      | inr free ↦ inr (free.0, closed_other l call o.call two free.1)
    ]
  ];
  writing = λ n d owner op r f. let x = w.writing n d owner op r f in record {
    line = x.line;
    asked = x.asked;
    pending = closed_other l call owner
        (λ is. may.idle n d op r (subst (λ c. (cell_of t n).flight ≡ Some
        (Flight.Write d c op r)) is f)) x.pending;
    acted = x.acted;
    own = x.own;
    told = x.told;
  };
}

-- ---- where an answer for good may be written down

never_fresh : (b : BaseActed) → is_fresh (lasting b) ≡ false
never_fresh (BaseActed.Fresh reply) = refl
never_fresh (BaseActed.Again reply) = refl
never_fresh (BaseActed.Stale kept) = refl
never_fresh (BaseActed.Worn limit) = refl

-- a write request under way of a call is of the request that the call asked, and of its name
asked_name : (t : Tier) (l : Ledger) (call line : ℕ) (r : Req) → IsSound t → SoundOwners t l
    → HasAsked l call line r → (n : Name) (d : Option ℕ) (op : ℕ) (q : Req)
    → (cell_of t n).flight ≡ Some (Flight.Write d call op q) → n ≡ r.name
asked_name t l call line r h w asked n d op q f =
    let x = w.writing n d call op q f in
    sym ((h.memory.each n).named d call op q f) ∙ ap (λ y. y.name) (one_asked x.line line q r
    (sym x.asked ∙ asked))

pub landed_closes : LandedMayClose
landed_closes t l k driver owner op r b h w may = record { idle = idle; spent = spent }
  where
    this : SoundWriting t l k owner op r
    this = w.writing k driver owner op r may.flight

    named : r.name ≡ k
    named = (h.memory.each k).named driver owner op r may.flight

    idle : (n : Name) (d : Option ℕ) (j : ℕ) (q : Req)
        → (cell_of (landed k t) n).flight ≡ Some (Flight.Write d owner j q) → ⊥
    idle n d j q f = elim (same_or_not n k) [
      | inl is ↦ free_not_write (cell_of (landed k t) k).flight d owner j q
          (ap (λ c. c.flight) (flight_here t k None))
          (subst (λ m. (cell_of (landed k t) m).flight ≡ Some (Flight.Write d owner j q)) is f)
      | inr ne ↦ ne (asked_name t l owner this.line r h w this.asked n d j q
          (sym (ap (λ c. c.flight) (flight_there t k None n ne)) ∙ f) ∙ named)
    ]

    told : act (cell_of t k).base r ≡ lasting b
    told =
        (h.names k).told (BaseReply.Wrote t.net.cache_epoch op b) may.reply refl driver owner r
        may.flight

    here : IsSpent k (cell_of t k) t.net r
    here =
        spent_then k (cell_of t k) t.net r (h.names k) ((h.names k).bare (ap is_bare may.flight))
        (spent_of (cell_of t k).base r (lasting b) told (never_fresh b))

    free : (x : Req) → IsSpent k (cell_of t k) t.net x → IsSpent k (cell_of (landed k t) k) t.net x
    free x s = subst (λ c. IsSpent k c t.net x) (sym (flight_here t k None)) (by s)
      where
        by : IsSpent k (cell_of t k) t.net x
            → IsSpent k (record (cell_of t k) { flight = None }) t.net x
        by (inl worn) = inl worn
        by (inr y) = inr y

    spent : (o : Owned) → IsIn o l.owned → o.call ≡ owner
        → IsIn (BaseMsg.Write o.epoch o.opid o.req) t.net.wire → t.net.base_epoch ≤ o.epoch
        → IsSpent o.req.name (cell_of (landed k t) o.req.name) t.net o.req
    spent o is mine on above =
        let req : o.req ≡ r =
        one_asked o.line this.line o.req r
        (sym (w.asked o is) ∙ subst (λ c. l.asks c ≡ Some (record { line = this.line; req = r }))
        (sym mine) this.asked) in
        subst (λ x. IsSpent x.name (cell_of (landed k t) x.name) t.net x) (sym req)
        (subst (λ m. IsSpent m (cell_of (landed k t) m) t.net r) (sym named) (free r here))

pub answered_here_closes : AnsweredHereMayClose
answered_here_closes t l call line r rec h w up asked has = record {
  idle = λ n d op q f.
      let at : n ≡ r.name = asked_name t l call line r h w asked n d op q f in
      let none : (cell_of t n).rec ≡ None = (h.names n).bare (ap is_bare f) in
      has_rec (subst (λ m. (cell_of t m).rec ≡ None) at none);
  spent = λ o is mine on above.
      let req : o.req ≡ r =
      one_asked o.line line o.req r
      (sym (w.asked o is) ∙ subst (λ c. l.asks c ≡ Some (record { line = line; req = r }))
      (sym mine) asked) in
      subst (λ x. IsSpent x.name (cell_of t x.name) t.net x) (sym req)
      (spent_over_record t r h up has_rec
      (λ living. has_rec ((h.names r.name).bare (ap is_bare living.3)))
      ((h.names r.name).writes o.epoch o.opid r
      (subst (λ x. IsIn (BaseMsg.Write o.epoch o.opid x) t.net.wire) req on) refl above));
}
  where
    has_rec : (cell_of t r.name).rec ≡ None → ⊥
    has_rec none = absurd (cc)

pub readers_close : ReadersMayClose
readers_close t l call w none = record {
  idle = λ n d op r f. let e = (w.writing n d call op r f).asked in absurd (cc);
  spent = λ o is mine on above.
      let e : l.asks call ≡ Some (record { line = o.line; req = o.req }) =
      subst (λ c. l.asks c ≡ Some (record { line = o.line; req = o.req })) mine (w.asked o is) in
      absurd (cc);
}

pub unsent_closes : UnsentMayClose
unsent_closes t l call line r w asked idle unsent h = record {
  idle = λ n d op q f.
      let at : n ≡ r.name = asked_name t l call line r h w asked n d op q f in
      let g : (cell_of t r.name).flight ≡ Some (Flight.Write d call op q) =
      subst (λ m. (cell_of t m).flight ≡ Some (Flight.Write d call op q)) at f in
      let e : is_write (Some (Flight.Write d call op q)) ≡ false = subst
      (λ x. is_write x ≡ false) g idle in
      absurd (cc);
  spent = λ o is mine on above. absurd (unsent o is mine);
}

pub owning_nothing_closes : OwningNothingMayClose
owning_nothing_closes t l call line r h w asked owns = record {
  idle = λ n d op q f.
      let at : n ≡ r.name = asked_name t l call line r h w asked n d op q f in
      owns.idle d op q
      (subst (λ m. (cell_of t m).flight ≡ Some (Flight.Write d call op q)) at f);
  spent = λ o is mine on above. absurd (owns.silent o is mine on above);
}

-- a name has one owner of its write request
other_owner : (f : Option Flight) (d e : Option ℕ) (owner call i j : ℕ) (q r : Req)
    → f ≡ Some (Flight.Write d owner i q) → f ≡ Some (Flight.Write e call j r) → owner ≡ call
other_owner f d e owner call i j q r was is =
    let same : ◌≡◌ {A = Option Flight} (Some (Flight.Write d owner i q))
    (Some (Flight.Write e call j r)) = sym was ∙ is in
    cc

pub blocked_closes : BlockedMayClose
blocked_closes t l call line r d owner op q h w asked f other silent =
    owning_nothing_closes t l call line r h w asked (record {
      idle = λ e j x g.
          other (other_owner (cell_of t r.name).flight d e owner call op j q x f g);
      silent = λ o is mine on above. silent o is mine on;
    })

pub adopters_close : AdoptersMayClose
adopters_close t l call line r owner op q b h w asked may other silent =
    let was = blocked_closes t l call line r (Some call) owner op q h w asked may.flight other
    silent in
    record {
      idle = λ n d j x f. elim (same_or_not n r.name) [
        | inl is ↦ free_not_write (cell_of (landed r.name t) r.name).flight d call j x
            (ap (λ c. c.flight) (flight_here t r.name None))
            (subst (λ m. (cell_of (landed r.name t) m).flight ≡ Some (Flight.Write d call j x))
            is f)
        | inr ne ↦ was.idle n d j x
            (sym (ap (λ c. c.flight) (flight_there t r.name None n ne)) ∙ f)
      ];
      spent = λ o is mine on above. absurd (silent o is mine on);
    }
