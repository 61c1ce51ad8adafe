-- A request acts on a record: the act is its call's.
use Rattle.std.proofs.Common.{◌≡◌, ◌≢◌, ◌≤◌, ◌⊎◌, ℕ, true, [], ◌∷◌, ◌++◌, Option, Some, None, refl, sym, ap, subst, ◌∙◌, inl, inr}
use Rattle.obj_model.specs.declared.req.Req.{Req}
use Rattle.obj_ops.specs.declared.request.Acted.TheVariants.{Fresh}
use Rattle.obj_ops.specs.Acts.{act}
use Rattle.tier_types.specs.Flights.{lets_write}
use Rattle.tier_protocol.specs.Tiers.{Name, Flight, TierRec, BaseMsg, Tier, Cell, IsIn, cell_of}
use Rattle.tier_protocol.specs.Sound.{IsSpent}
use Rattle.tier_protocol.specs.Moves.{acted_here, with_act}
use Rattle.tier_protocol.specs.Owners.{CallAct, IsOpen, Owned, with_call_act}
use Rattle.tier_protocol.proofs.Cells.{act_here, act_there, rec_here, rec_there, same_or_not}
use Rattle.tier_protocol.proofs.Owners.{in_more, in_old, map_more, once_more, one_asked, same_call}
use Rattle.tier_protocol.proofs.Requests.{covers_stays}
use Rattle.tier_protocol.proofs.Steps.{shown}
use Rattle.tier_owners.specs.Calls.{ActingKeepsOwners}
use Rattle.tier_owners.proofs.Spent.{spent_over_record}

pub acting_owned : ActingKeepsOwners
acting_owned t l rec r s answer moment call line h w may asked free = record {
  same = ap (λ x. x ++ r ∷ []) w.same ∙ sym (map_more l.acts new);
  known = w.known;
  asked = w.asked;
  given = w.given;
  reached = w.reached;
  acted = λ a among. elim (in_more l.acts new a among) [
    | inl before ↦ w.acted a before
    | inr last ↦ subst (λ x. l.asks x.call ≡ Some (record { line = x.line; req = x.req }))
        (sym last) asked
  ];
  once = once_more l.acts new w.once free.0;
  pending = pending;
  writing = λ n d owner op q f. let x = w.writing n d owner op q f in record {
    line = x.line;
    asked = x.asked;
    pending = x.pending;
    acted = λ a among mine. elim (in_more l.acts new a among) [
      | inl before ↦ x.acted a before mine
      | inr last ↦ absurd (other n d owner op q f (asked_once owner x.line q x.asked
          (sym (ap (λ y. y.call) last) ∙ mine)))
    ];
    own = x.own;
    told = λ given on. let y = x.told given on in (y.0, in_old l.acts new y.0 y.1, y.2);
  };
}
  where
    new : CallAct
    new = record { call = call; line = line; req = r; reply = answer }

    done : Tier
    done = acted_here r s moment t

    v : TierRec
    v = record { state = s; dirty = true; mtime = moment }

    on_plain : act (cell_of t r.name).plain r ≡ Fresh s answer
    on_plain = subst (λ x. act x r ≡ Fresh s answer) (shown t r.name rec h may.rec) may.acts

    here : cell_of done r.name ≡ record (cell_of t r.name) { rec = Some v; plain = s }
    here =
        rec_here (with_act r t) r.name (Some v)
        ∙ ap {A = Cell} {B = Cell} (λ c. record c { rec = Some v }) (act_here t r s answer on_plain)

    there : (n : Name) → n ≢ r.name → cell_of done n ≡ cell_of t n
    there n ne = rec_there (with_act r t) r.name (Some v) n ne
        ∙ act_there t r s answer n on_plain ne

    has_rec : (cell_of t r.name).rec ≡ None → ⊥
    has_rec none = let e = may.rec in absurd (cc)

    no_write : (d : Option ℕ) (owner op : ℕ) (q : Req)
        → (cell_of t r.name).flight ≡ Some (Flight.Write d owner op q) → ⊥
    no_write d owner op q f =
        let shut : lets_write (Some (Flight.Write d owner op q)) ≡ true =
        subst (λ x. lets_write x ≡ true) f may.lets in absurd (cc)

    -- two requests that this call asked are one
    asked_once : (owner i : ℕ) (q : Req) → l.asks owner ≡ Some (record { line = i; req = q })
        → call ≡ owner → q ≡ r
    asked_once owner i q e is =
        one_asked i line q r (sym e ∙ subst (λ c. l.asks c ≡ Some
        (record { line = line; req = r })) is asked)

    -- no write request under way is of this request, whose name has a record
    other : (n : Name) (d : Option ℕ) (owner op : ℕ) (q : Req)
        → (cell_of t n).flight ≡ Some (Flight.Write d owner op q) → q ≡ r → ⊥
    other n d owner op q f is =
        let at : n ≡ r.name = sym ((h.memory.each n).named d owner op q f) ∙ ap (λ x. x.name) is in
        no_write d owner op q
        (subst (λ m. (cell_of t m).flight ≡ Some (Flight.Write d owner op q)) at f)

    still : (n : Name) (q : Req) → IsSpent n (cell_of t n) t.net q
        → IsSpent n (cell_of done n) t.net q
    still n q spent = elim (same_or_not n r.name) [
      | inl is ↦
          subst (λ m. IsSpent m (cell_of done m) t.net q) (sym is)
          (subst (λ c. IsSpent r.name c t.net q) (sym here)
          (still_here q (subst (λ m. IsSpent m (cell_of t m) t.net q) is spent)))
      | inr ne ↦ subst (λ c. IsSpent n c t.net q) (sym (there n ne)) spent
    ]
      where
        still_here : (q : Req) → IsSpent r.name (cell_of t r.name) t.net q
            → IsSpent r.name (record (cell_of t r.name) { rec = Some v; plain = s }) t.net q
        still_here q (inl worn) = inl worn
        still_here q (inr k) = inr (
          k.0,
          covers_stays
              (cell_of t r.name).plain q r s answer k.1 on_plain,
          k.2,
        )

    pending : (o : Owned) → IsIn o l.owned → IsIn (BaseMsg.Write o.epoch o.opid o.req) t.net.wire
        → t.net.base_epoch ≤ o.epoch
        → IsSpent o.req.name (cell_of done o.req.name) t.net o.req
        ⊎ IsOpen (with_call_act new l) o.call
    pending o is on above = elim (w.pending o is on above) [
      | inl spent ↦ inl (still o.req.name o.req spent)
      | inr free ↦ elim (same_call call o.call) [
        | inl one ↦
            let req : o.req ≡ r = asked_once o.call o.line o.req (w.asked o is) one in
            inl (still o.req.name o.req
            (subst (λ x. IsSpent x.name (cell_of t x.name) t.net x) (sym req)
            (spent_over_record t r h may.up has_rec
            (λ living. no_write living.0 living.1 living.2 r living.3)
            ((h.names r.name).writes o.epoch o.opid r
            (subst (λ x. IsIn (BaseMsg.Write o.epoch o.opid x) t.net.wire) req on) refl above))))
        | inr two ↦ inr (
          λ a among at. elim (in_more l.acts new a among) [
            | inl old ↦ free.0 a old at
            | inr last ↦ two (sym (ap (λ y. y.call) last) ∙ at)
          ],
          free.1,
        )
      ]
    ]
