-- Whose act it is.
use Rattle.std.proofs.Common.{◌≡◌, ◌≢◌, ◌<◌, ◌≤◌, ◌⊎◌, ℕ, [], ◌∷◌, ◌++◌, Option, Some, refl, sym, ap, subst, ◌∙◌, arith, inl, inr}
use Rattle.obj_model.specs.declared.reply.Reply.{Reply}
use Rattle.obj_model.specs.declared.req.Req.{Req}
use Rattle.obj_model.specs.declared.state.NameState.{NameState}
use Rattle.obj_ops.specs.declared.request.Acted.{Acted}
use Rattle.obj_ops.specs.declared.request.Acted.TheVariants.{Fresh, Again}
use Rattle.obj_ops.specs.Acts.{act}
use Rattle.obj_ops.specs.Stores.{replay, state_of}
use Rattle.std.specs.FinMap as fin
use Rattle.obj_model.specs.Names.{name_cmp}
use Rattle.tier_types.specs.Flights.{IsLeftOf}
use Rattle.tier_types.specs.Serving.{Served, lasting, put_by, told_of}
use Rattle.tier_protocol.specs.Tiers.{Name, Flight, BaseMsg, BaseReply, BaseActed, Net, Tier, Cell, IsIn, cell_of}
use Rattle.tier_protocol.specs.Sound.{Covers, IsSound, IsSpent, IsWriting, is_dirty}
use Rattle.tier_protocol.specs.Moves.{delivered, stopped_cache, with_act, with_base, with_left, with_net, with_served, Loses}
use Rattle.tier_protocol.specs.Owners.{ActsAreOwned, Asking, CallAct, IsOpen, LandingFits, Ledger, LossesAreQuiet, Owned, Quiet, QuietKeeps, SoundOwners, SoundWriting, with_call_act}
use Rattle.tier_protocol.proofs.Requests.{covered_not_fresh, covers_stays, fresh_again, fresh_covers, fresh_room, fresh_seq}
use Rattle.tier_protocol.proofs.Cells.{act_here, act_there, base_here, base_there, same_or_not}
use Rattle.tier_protocol.proofs.Delivers.{acts_on_plain, flies, in_epoch_by}
pub use Rattle.tier_protocol.proofs.ActLists.{free_not_write, fresh_not_again, in_last, in_more, in_old, map_more, numbers_stay, once_more, one_asked, one_reply, one_req, same_call}

-- ---- landing

pub landing_fits : LandingFits
landing_fits t l k driver owner op r b h w may =
    let this = w.writing k driver owner op r may.flight in
    let told : act (cell_of t k).base r ≡ lasting b = (h.names k).told
    (BaseReply.Wrote t.net.cache_epoch op b) may.reply refl driver owner r may.flight in (
      λ a on is. let g = this.acted a on is in (g.0, sym told ∙ g.1),
      λ answer e. this.told answer (subst (λ x. IsIn
          (BaseReply.Wrote t.net.cache_epoch op x) t.net.replies) e may.reply),
    )

-- ---- a Write that acts

-- it gives its act to a call that sent it
pub acts_for : (t : Tier) (l : Ledger) (e op : ℕ) (r : Req) (s : NameState) (answer : Reply)
    (o : Owned) → IsSound t → SoundOwners t l → IsIn (BaseMsg.Write e op r) t.net.wire
    → e ≡ t.net.base_epoch
    → act (state_of t.base r.name) r ≡ Fresh s answer → IsIn o l.owned
    → (o.epoch ≡ e) × (o.opid ≡ op) × (o.req ≡ r)
    → IsOpen l o.call × SoundOwners (delivered (BaseMsg.Write e op r) t) (with_call_act
    (record { call = o.call; line = o.line; req = r; reply = answer }) l)
acts_for t l e op r s answer o h w on same acts mine owned = (pending, after)
  where
    new : CallAct
    new = record { call = o.call; line = o.line; req = r; reply = answer }

    more : Ledger
    more = with_call_act new l

    -- a spent request does not act
    not_spent : IsSpent r.name (cell_of t r.name) t.net r → ⊥
    not_spent (inl worn) = fresh_room (state_of t.base r.name) r s answer acts worn
    not_spent (inr covers) = covered_not_fresh (state_of t.base r.name) r s answer covers.0 acts

    wired : IsIn (BaseMsg.Write o.epoch o.opid o.req) t.net.wire
    wired =
        subst (λ i. IsIn (BaseMsg.Write i o.opid o.req) t.net.wire) (sym owned.0)
        (subst (λ i. IsIn (BaseMsg.Write e i o.req) t.net.wire) (sym owned.1) (subst (λ q. IsIn
        (BaseMsg.Write e op q) t.net.wire) (sym owned.2) on))

    pending : IsOpen l o.call
    pending = elim (w.pending o mine wired (omega (arith, same, owned.0))) [
      | inl spent ↦ absurd (not_spent (subst (λ x. IsSpent x.name
          (cell_of t x.name) t.net x) owned.2 spent))
      | inr is ↦ is
    ]

    asked_r : l.asks o.call ≡ Some (record { line = o.line; req = r })
    asked_r = w.asked o mine ∙ ap {A = Req} {B = Option Asking} (λ x. Some
        (record { line = o.line; req = x })) owned.2

    next : Net
    next = record t.net { replies = BaseReply.Wrote e op (BaseActed.Fresh answer) ∷ t.net.replies }

    -- the pair after the act
    done : Tier
    done = with_net next (with_act r (with_base r.name s t))

    on_plain : act (cell_of t r.name).plain r ≡ Fresh s answer
    on_plain = acts_on_plain t e op r s answer h on same acts

    here : cell_of done r.name ≡ record (cell_of t r.name) { base = s; plain = s }
    here = act_here (with_base r.name s t) r s answer on_plain
        ∙ ap {A = Cell} {B = Cell} (λ c. record c { plain = s }) (base_here t r.name s)

    there : (n : Name) → n ≢ r.name → cell_of done n ≡ cell_of t n
    there n ne = act_there (with_base r.name s t) r s answer n on_plain ne
        ∙ base_there t r.name s n ne

    even : (cell_of t r.name).base ≡ (cell_of t r.name).plain
    even = (h.names r.name).clean (ap is_dirty (flies t e op r s answer h on same acts).0)

    none_above : (q : Req) (i j : ℕ) (x : NameState) → IsIn
        (BaseMsg.Install i j r.name x) t.net.wire → s.seq < x.seq → Covers x q
    none_above q i j x is above = absurd (omega (
      arith,
      above,
      ((h.names r.name).installs i j x is).behind,
      fresh_seq
          (cell_of t r.name).plain r s answer on_plain,
    ))

    -- the request is spent, and one that was spent is still
    spent_r : IsSpent r.name (cell_of done r.name) next r
    spent_r = subst (λ c. IsSpent r.name c next r) (sym here) (inr (
      fresh_covers
          (cell_of t r.name).plain r s answer on_plain,
      fresh_covers
          (cell_of t r.name).plain r s answer on_plain,
      none_above r,
    ))

    spent_here : (q : Req) → IsSpent r.name (cell_of t r.name) t.net q
        → IsSpent r.name (record (cell_of t r.name) { base = s; plain = s }) next q
    spent_here q (inl worn) = absurd (fresh_room (state_of t.base r.name) r s answer acts worn)
    spent_here q (inr k) = let covers = covers_stays
        (state_of t.base r.name) q r s answer k.0 acts in inr (covers, covers, none_above q)

    spent_there : (n : Name) (q : Req) → IsSpent n (cell_of t n) t.net q
        → IsSpent n (cell_of t n) next q
    spent_there n q (inl worn) = inl worn
    spent_there n q (inr k) = inr k

    spent_still : (n : Name) (q : Req) → IsSpent n (cell_of t n) t.net q
        → IsSpent n (cell_of done n) next q
    spent_still n q k = elim (same_or_not n r.name) [
      | inl is ↦ subst (λ m. IsSpent m (cell_of done m) next q) (sym is) (subst
          (λ c. IsSpent r.name c next q) (sym here) (spent_here q (subst (λ m. IsSpent m
          (cell_of t m) t.net q) is k)))
      | inr ne ↦ subst (λ c. IsSpent n c next q) (sym (there n ne)) (spent_there n q k)
    ]

    -- two requests of one call are one
    same_asked : (call : ℕ) (i j : ℕ) (x y : Req) → l.asks call ≡ Some
        (record { line = i; req = x }) → l.asks call ≡ Some (record { line = j; req = y }) → x ≡ y
    same_asked call i j x y a b = one_asked i j x y (sym a ∙ b)

    open_still : (p : Owned) → IsIn p l.owned → IsIn (BaseMsg.Write p.epoch p.opid p.req) t.net.wire
        → t.net.base_epoch ≤ p.epoch → IsSpent p.req.name (cell_of done p.req.name) next p.req
        ⊎ IsOpen more p.call
    open_still p is there above = elim (w.pending p is there above) [
      | inl spent ↦ inl (spent_still p.req.name p.req spent)
      | inr free ↦ elim (same_call p.call o.call) [
        | inl one ↦
            let req : p.req ≡ r = same_asked o.call p.line o.line p.req r (subst
            (λ c. l.asks c ≡ Some (record { line = p.line; req = p.req })) one
            (w.asked p is)) asked_r in
            inl (subst (λ x. IsSpent x.name (cell_of done x.name) next x) (sym req) spent_r)
        | inr two ↦ inr (
          λ a among at. elim
              (in_more l.acts new a among) [
                | inl old ↦ free.0 a old at
                | inr last ↦ two (sym at
                    ∙ ap (λ y. y.call) last)
              ],
          free.1,
        )
      ]
    ]

    writing_still : (n : Name) (driver : Option ℕ) (owner j : ℕ) (q : Req)
        → (cell_of done n).flight ≡ Some (Flight.Write driver owner j q)
        → SoundWriting done more n owner j q
    writing_still n driver owner j q f = record {
      line = old.line;
      asked = old.asked;
      pending = old.pending;
      acted = λ a among is. elim (in_more l.acts new a among) [
        | inl before ↦ acted_before a (old.acted a before is)
        | inr last ↦ acted_new a last (sym (ap (λ y. y.call) last) ∙ is)
      ];
      own = old.own;
      told = λ given there. elim there [
        | inl this ↦ told_new given this
        | inr before ↦ let x = old.told given before in (x.0, in_old l.acts new x.0 x.1, x.2)
      ];
    }
      where
        old : SoundWriting t l n owner j q
        old = w.writing n driver owner j q f

        -- the base's state of a name whose request acted before did not change
        acted_before : (a : CallAct) → (a.req ≡ q) × (act (cell_of t n).base q ≡ Again a.reply)
            → (a.req ≡ q) × (act (cell_of done n).base q ≡ Again a.reply)
        acted_before a k = elim (same_or_not n r.name) [
          | inl is ↦ absurd (elim (flies t e op r s answer h on same acts).1 [
            | inl free ↦ free_not_write (cell_of t r.name).flight driver owner j q free (subst (λ m.
                (cell_of t m).flight ≡ Some (Flight.Write driver owner j q)) is f)
            | inr mineq ↦ clash a mineq (subst (λ m. (cell_of t m).flight ≡ Some
                (Flight.Write driver owner j q)) is f) (subst (λ m. act
                (cell_of t m).base q ≡ Again a.reply) is k.1)
          ])
          | inr ne ↦ (k.0, subst (λ c. act c.base q ≡ Again a.reply) (sym (there n ne)) k.1)
        ]
          where
            clash : (a : CallAct) → IsWriting (cell_of t r.name).flight r
                → (cell_of t r.name).flight ≡ Some (Flight.Write driver owner j q)
                → act (cell_of t r.name).base q ≡ Again a.reply → ⊥
            clash a living g again =
                fresh_not_again s answer a.reply (sym acts ∙ ap (act (state_of t.base r.name))
                (one_req living.0 driver living.1 owner living.2 j r q (sym living.3 ∙ g))
                ∙ again)

        at_name : q ≡ r → act (cell_of done n).base q ≡ Again answer
        at_name req =
            let name : n ≡ r.name = sym ((h.memory.each n).named driver owner j q f)
            ∙ ap (λ x. x.name) req in
            subst (λ m. act (cell_of done m).base q ≡ Again answer) (sym name)
            (subst (λ c. act c.base q ≡ Again answer) (sym here) (ap (act s) req
            ∙ fresh_again (state_of t.base r.name) r s answer acts))

        acted_new : (a : CallAct) → a ≡ new → o.call ≡ owner → (a.req ≡ q)
            × (act (cell_of done n).base q ≡ Again a.reply)
        acted_new a last is =
            let req : q ≡ r = same_asked owner old.line o.line q r old.asked (subst
            (λ c. l.asks c ≡ Some (record { line = o.line; req = r })) is asked_r) in
            (ap (λ y. y.req) last ∙ sym req, at_name req ∙ ap Again (sym (ap (λ y. y.reply) last)))

        told_new : (given : Reply) → BaseReply.Wrote t.net.cache_epoch j
            (BaseActed.Fresh given) ≡ BaseReply.Wrote e op (BaseActed.Fresh answer)
            → (a : CallAct) × IsIn a more.acts × (a.call ≡ owner)
        told_new given this =
            let is = one_reply t.net.cache_epoch e j op given answer this in
            (new, in_last l.acts new, old.own o mine (owned.0 ∙ sym is.0) (owned.1 ∙ sym is.1))

    sound : SoundOwners done more
    sound = record {
      same = ap (λ x. x ++ r ∷ []) w.same ∙ sym (map_more l.acts new);
      known = w.known;
      asked = w.asked;
      given = λ p is. let g = w.given p is in record {
        begun = g.begun;
        silent = g.silent;
        counted =
            g.counted;
      };
      reached = w.reached;
      acted = λ a among. elim (in_more l.acts new a among) [
        | inl before ↦ w.acted a before
        | inr last ↦ subst (λ x. l.asks x.call ≡ Some (record { line = x.line; req = x.req }))
            (sym last) asked_r
      ];
      once = once_more l.acts new w.once pending.0;
      pending = open_still;
      writing = writing_still;
    }

    after : SoundOwners (delivered (BaseMsg.Write e op r) t) more
    after =
        in_epoch_by (λ x. SoundOwners (with_served
        (BaseMsg.Write e op r) x t) more) t.net.base_epoch e _ (omega (arith, same))
        (λ lt. absurd (omega (arith, lt, same)))
        (λ now. subst (λ a. SoundOwners (with_served (BaseMsg.Write e op r) (wrote a) t) more)
        (sym acts) sound)
      where
        wrote : Acted → Served
        wrote a = record {
          epoch = t.net.base_epoch;
          put = put_by a;
          reply = BaseReply.Wrote e op
              (told_of a);
        }

pub acts_owned : ActsAreOwned
acts_owned t l e op r s answer h w on same acts =
    let owned = w.known e op r on in
    let g = acts_for t l e op r s answer owned.0 h w on same acts owned.1
    (owned.2, owned.3, owned.4) in
    (owned.0, owned.1, owned.2, owned.3, owned.4, g.0, g.1)

-- ---- quiet moves

pub quiet_keeps : QuietKeeps
quiet_keeps t u l w q = record {
  same = sym q.acts ∙ w.same;
  known = λ e op r on. w.known e op r (q.wire (BaseMsg.Write e op r) on);
  asked = w.asked;
  given = λ o is. q.given o.epoch o.opid (w.given o is);
  reached = λ o is. omega (arith, w.reached o is, q.later);
  acted = w.acted;
  once = w.once;
  pending = λ o is on above. elim (w.pending o is (q.wire (BaseMsg.Write o.epoch o.opid o.req) on)
      (omega (arith, above, q.later))) [
        | inl spent ↦ inl
            (spent_still o.req.name o.req spent)
        | inr free ↦ inr free
      ];
  writing = λ n driver owner op r f. writing n driver owner op r f
      (q.writing n driver owner op r f);
}
  where
    same_base : (n : Name) → (cell_of t n).base ≡ (cell_of u n).base
    same_base n = ap (λ b. state_of b n) q.base

    same_plain : (n : Name) → (cell_of t n).plain ≡ (cell_of u n).plain
    same_plain n = ap (λ s. state_of (replay s t.acts) n) q.opening
        ∙ ap (λ a. state_of (replay u.opening a) n) q.acts

    spent_still : (n : Name) (r : Req) → IsSpent n (cell_of t n) t.net r
        → IsSpent n (cell_of u n) u.net r
    spent_still n r (inl worn) = inl (sym (ap (λ s. s.seq) (same_base n)) ∙ worn)
    spent_still n r (inr k) = inr (
      subst (λ s. Covers s r) (same_base n) k.0,
      subst (λ s. Covers s r) (same_plain n) k.1,
      λ e op x on above. k.2 e op x (q.wire (BaseMsg.Install e op n x) on) (omega (
        arith,
        above,
        ap
            (λ s. s.seq) (same_base n),
      )),
    )

    writing : (n : Name) (driver : Option ℕ) (owner op : ℕ) (r : Req)
        → (cell_of u n).flight ≡ Some (Flight.Write driver owner op r)
        → (t.net.cache_epoch ≡ u.net.cache_epoch) × ((other : Option ℕ)
        × ((cell_of t n).flight ≡ Some (Flight.Write other owner op r)))
        → SoundWriting u l n owner op r
    writing n driver owner op r f k =
        let old = w.writing n k.1.0 owner op r k.1.1 in
        record {
          line = old.line;
          asked = old.asked;
          pending = old.pending;
          acted = λ a is mine. let g = old.acted a is mine in (
            g.0,
            subst
                (λ s. act s r ≡ Again a.reply) (same_base n) g.1,
          );
          own = λ o is now number. old.own o is (now ∙ sym k.0) number;
          told = λ answer on. old.told answer (subst (λ e. IsIn (BaseReply.Wrote e op
              (BaseActed.Fresh answer)) t.net.replies) (sym k.0)
              (q.told u.net.cache_epoch op answer on));
        }

pub losses_quiet : LossesAreQuiet
losses_quiet t h = (
  loses,
  stopped,
  record {
    base = refl;
    opening = refl;
    acts = refl;
    later = omega arith;
    wire = λ m on. on;
    given = λ e op g. record { begun = g.begun; silent = g.silent; counted = g.counted };
    writing = λ n driver owner op r f. (refl, (driver, f));
    told = λ e op answer on. on;
  },
)
  where
    left : (u : Tier) → Loses t u → Quiet t (with_left u.flights u.net.wire u.net.replies t)
    left u k = record {
      base = refl;
      opening = refl;
      acts = refl;
      later = omega arith;
      wire = k.wire;
      given = λ e op g. record { begun = g.begun; silent = g.silent; counted = g.counted };
      writing = λ n driver owner op r f. (
        refl,
        subst (IsLeftOf (cell_of t n).flight) f
            (k.flights n),
      );
      told = λ e op answer on. k.replies (BaseReply.Wrote e op (BaseActed.Fresh answer)) on;
    }

    loses : (u : Tier) → Loses t u → Quiet t u
    loses u k = subst (Quiet t) (sym k.same) (left u k)

    stopped : Quiet t (stopped_cache t)
    stopped = record {
      base = refl;
      opening = refl;
      acts = refl;
      later = omega arith;
      wire = λ m on. on;
      given = λ e op g. record { begun = g.begun; silent = λ r. absurd (cc); counted = g.counted };
      writing = λ n driver owner op r f. absurd (free_not_write (cell_of
          (stopped_cache t) n).flight driver owner op r (fin.get-empty {X = Flight} name_cmp n) f);
      told = λ e op answer on. on;
    }
