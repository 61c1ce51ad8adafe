-- What one move does to the history, and to the calls that were answered for good.
use Rattle.std.proofs.Common.{◌≡◌, ◌⊎◌, ℕ, Bool, true, false, List, map, [], ◌∷◌, ◌++◌, refl, sym, ap, subst, inl, inr}
use Rattle.std.specs.Prelude.{if◌then◌else◌, ◌==◌}
use Rattle.obj_model.specs.declared.state.NameState.{NameState}
use Rattle.obj_ops.specs.declared.request.Acted.TheVariants.{Fresh}
use Rattle.obj_ops.specs.Acts.{act}
use Rattle.obj_ops.specs.Stores.{Store, replay, state_of, store_after}
use Rattle.tier_protocol.specs.Tiers.{cell_of, Tier}
use Rattle.tier_protocol.specs.Owners.{CallAct, IsOpen}
use Rattle.tier_protocol.proofs.Delivers.{acts_on_plain}
use Rattle.tier_protocol.proofs.Steps.{shown}
use Rattle.tier_protocol.proofs.Owners.{acts_for}
use Rattle.tier_owners.specs.Moving.{AreAnswered, IsHeld, Moves, System, with_tier, delivers, acts_there, fills, acts_here, gathers, promotes, cleans, drains, evicts, begins_write, begins, sends_write, sends, lands, loses, stops_cache, stops_base, raises, finds, counts, goes_up, asks, closes}

-- ---- what one move does to the history and to the calls that are closed

-- one act more, of a call that is open
pub record OneMore (s u : System) : Type 0 where
  pub new : CallAct
  pub acts : u.ledger.acts ≡ s.ledger.acts ++ new ∷ []
  pub free : IsHeld s → IsOpen s.ledger new.call
  pub answered : IsHeld s
      → (state : NameState) × (act (cell_of s.tier new.req.name).plain new.req ≡ Fresh state
      new.reply)

pub record Effect (s u : System) : Type 0 where
  pub opening : u.tier.opening ≡ s.tier.opening
  pub acts : (u.ledger.acts ≡ s.ledger.acts) ⊎ OneMore s u
  pub closed : (call : ℕ) → s.ledger.closed call ≡ true → u.ledger.closed call ≡ true

-- a move of the pair alone
plainly : (s : System) (t : Tier) → t.opening ≡ s.tier.opening → Effect s (with_tier s t)
plainly s t opening = record { opening = opening; acts = inl refl; closed = λ call e. e }

stays_closed : (b c : Bool) → c ≡ true → (if b then true else c) ≡ true
stays_closed true c e = refl
stays_closed false c e = e

pub effect : (s u : System) → Moves s u → Effect s u
effect s u (delivers m on none) = plainly s _ refl
effect s u (acts_there e op r state answer o may) = record {
  opening = refl;
  acts = inr (record {
    new = record { call = o.call; line = o.line; req = r; reply = answer };
    acts = refl;
    free = λ h. (acts_for s.tier s.ledger e op r state answer o h.sound h.owners may.on may.level
        may.acts
        may.owned (may.epoch, may.opid, may.req)).0;
    answered = λ h.
        (state, acts_on_plain s.tier e op r state answer h.sound may.on may.level may.acts);
  });
  closed = λ call e. e;
}
effect s u (fills m used need limit may) = plainly s _ refl
effect s u (acts_here rec r state answer moment call line may asked free) = record {
  opening = refl;
  acts = inr (record {
    new = record { call = call; line = line; req = r; reply = answer };
    acts = refl;
    free = λ h. free;
    answered = λ h. (
      state,
      subst (λ x. act x r ≡ Fresh state answer)
          (shown s.tier r.name rec h.sound may.rec) may.acts,
    );
  });
  closed = λ call e. e;
}
effect s u (gathers k call op gather ask x may) = plainly s _ refl
effect s u (promotes k call op gather ask state moment may) = plainly s _ refl
effect s u (cleans k call op seq m blocking drain rec may) = plainly s _ refl
effect s u (drains k call op seq m blocking drain rec may) = plainly s _ refl
effect s u (evicts k may) = plainly s _ refl
effect s u (begins_write k driver owner op line r up may asked free) = plainly s _ refl
effect s u (begins k f up may idle) = plainly s _ refl
effect s u (sends_write op r driver owner line f asked) =
    record { opening = refl; acts = inl refl; closed = λ call e. e }
effect s u (sends m may plain) = plainly s _ refl
effect s u (lands k driver owner op r a may) = plainly s _ refl
effect s u (loses t may) = plainly s t (ap (λ x. x.opening) may.same)
effect s u stops_cache = plainly s _ refl
effect s u stops_base = plainly s _ refl
effect s u (raises e may) = plainly s _ refl
effect s u (finds e may) = plainly s _ refl
effect s u (counts may) = plainly s _ refl
effect s u (goes_up may) = plainly s _ refl
effect s u (asks call a none fresh) = record { opening = refl; acts = inl refl; closed = λ c e. e }
effect s u (closes call may) = record {
  opening = refl;
  acts = inl refl;
  closed = λ c e. stays_closed (c == call) (s.ledger.closed c) e;
}

-- ---- each act was answered

answered_more : (acts : List CallAct) (store : Store) (a : CallAct) (s : NameState)
    → AreAnswered store acts
    → act (state_of (replay store (map (λ (x : CallAct). x.req) acts)) a.req.name) a.req
    ≡ Fresh s a.reply
    → AreAnswered store (acts ++ a ∷ [])
answered_more [] store a s h e = ((s, e), tt)
answered_more (b ∷ acts) store a s h e = (
  h.0,
  answered_more acts (store_after store b.req.name (act (state_of store b.req.name) b.req)) a
      s h.1 e,
)

pub answered_still : (s u : System) → IsHeld s → Effect s u
    → AreAnswered u.tier.opening u.ledger.acts
answered_still s u h x =
    subst (λ o. AreAnswered o u.ledger.acts) (sym x.opening) (elim x.acts [
      | inl same ↦ subst (AreAnswered s.tier.opening) (sym same) h.answered
      | inr one ↦ subst (AreAnswered s.tier.opening) (sym one.acts)
          (answered_more s.ledger.acts s.tier.opening one.new (one.answered h).0 h.answered
          (subst
          (λ acts. act (state_of (replay s.tier.opening acts) one.new.req.name) one.new.req
          ≡ Fresh (one.answered h).0 one.new.reply)
          h.owners.same (one.answered h).1))
    ])
