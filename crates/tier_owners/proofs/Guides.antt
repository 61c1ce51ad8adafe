-- Runs that exist.
use Rattle.std.proofs.Common.{◌≡◌, ℕ, ◌+◌, max, true, [], ◌∷◌, Some, refl, sym, ap, subst, arith, inl, inr}
use Rattle.std.specs.Prelude.{if◌then◌else◌}
use Rattle.std.proofs.lemmas.Bool.{eq-eqb, le-ltb}
use Rattle.obj_ops.specs.declared.request.Acted.TheVariants.{Fresh}
use Rattle.obj_ops.specs.Acts.{act}
use Rattle.obj_ops.specs.Stores.{state_of}
use Rattle.tier_types.specs.Serving.{replies}
use Rattle.tier_protocol.specs.Tiers.{Flight, BaseMsg, BaseReply, BaseActed, Net, cell_of}
use Rattle.tier_protocol.specs.Sound.{is_dirty}
use Rattle.tier_protocol.specs.Moves.{begun, delivered, landed, raised_to, sent, went_up, with_net, with_served, MayGoUp, MayLand}
use Rattle.tier_protocol.specs.Owners.{Owned, with_call_act}
use Rattle.tier_protocol.proofs.Cells.{flight_here}
use Rattle.tier_protocol.proofs.Fits.{writes_land}
use Rattle.tier_owners.specs.Calls.{MayClose, with_closed, with_owned}
use Rattle.tier_owners.specs.Moving.{IsHeld, Moves, System, with_tier, acts_there, begins_write, closes, delivers, goes_up, lands, raises, sends, sends_write}
use Rattle.tier_owners.specs.Reaching.{StartsRun, WritesRun}
use Rattle.tier_owners.proofs.Closing.{landed_closes}
use Rattle.tier_owners.proofs.Keeping.{moves_keep}

pub starts_run : StartsRun
starts_run s h down = record {
  moments = first ∷ second ∷ third ∷ with_tier third (went_up third.tier) ∷ [];
  run = (
    raises e (record { stopped = down; later = omega arith; above = omega arith }),
    (
      sends (BaseMsg.Fence e) (refl, λ same. absurd (cc)) refl,
      (
        delivers (BaseMsg.Fence e) (inl refl) refl,
        (
          goes_up (subst (λ t. MayGoUp t.net) (sym is)
              (record { raised = λ same. absurd (cc); reply = inl refl })),
          tt,
        ),
      ),
    ),
  );
  last = with_tier third (went_up third.tier);
  on = inr (inr (inr (inl refl)));
  holds = refl;
}
  where
    e : ℕ
    e = max s.tier.net.cache_epoch s.tier.net.base_epoch + 1

    first : System
    first = with_tier s (raised_to e s.tier)

    second : System
    second = with_tier first (sent (BaseMsg.Fence e) first.tier)

    third : System
    third = with_tier second (delivered (BaseMsg.Fence e) second.tier)

    is : delivered (BaseMsg.Fence e) second.tier
        ≡ with_served (BaseMsg.Fence e) (replies e (BaseReply.Fenced e)) second.tier
    is =
        ap (λ b. with_served (BaseMsg.Fence e)
        (if b then replies s.tier.net.base_epoch (BaseReply.OldEpoch s.tier.net.base_epoch e)
        else replies e (BaseReply.Fenced e)) second.tier)
        (le-ltb e s.tier.net.base_epoch (omega arith))

pub writes_run : WritesRun
writes_run s call line r state answer h up none free asked open_call acts = record {
  moments = first ∷ second ∷ third ∷ fourth ∷ fifth ∷ [];
  run = (to_first, (to_second, (to_third, (to_fourth, (closes call may_close, tt)))));
  last = fifth;
  on = inr (inr (inr (inr (inl refl))));
  holds = (refl, ap (λ b. if b then true else third.ledger.closed call) (eq-eqb call call refl));
}
  where
    op : ℕ
    op = s.tier.net.next_opid

    m : BaseMsg
    m = BaseMsg.Write s.tier.net.cache_epoch op r

    flight : Flight
    flight = Flight.Write (Some call) call op r

    next : Net
    next = record s.tier.net { next_opid = s.tier.net.next_opid + 1 }

    o : Owned
    o = record { epoch = s.tier.net.cache_epoch; opid = op; req = r; call = call; line = line }

    first : System
    first = with_tier s (begun r.name flight s.tier)

    second : System
    second = record { tier = sent m first.tier; ledger = with_owned o s.ledger }

    third : System
    third = record {
      tier = delivered m second.tier;
      ledger = with_call_act
          (record { call = call; line = line; req = r; reply = answer }) second.ledger;
    }

    fourth : System
    fourth = with_tier third (landed r.name third.tier)

    fifth : System
    fifth = record fourth { ledger = with_closed call fourth.ledger }

    to_first : Moves s first
    to_first = begins_write r.name (Some call) call op line r up
        (free, none, refl, refl) asked open_call

    stands : (cell_of first.tier r.name).flight ≡ Some flight
    stands = ap (λ c. c.flight) (flight_here (with_net next s.tier) r.name (Some flight))

    to_second : Moves first second
    to_second = sends_write op r (Some call) call line stands asked

    on_base : act (state_of s.tier.base r.name) r ≡ Fresh state answer
    on_base =
        subst (λ x. act x r ≡ Fresh state answer)
        (sym ((h.sound.names r.name).clean (ap is_dirty none))) acts

    to_third : Moves second third
    to_third = acts_there s.tier.net.cache_epoch op r state answer o (record {
      on = inl refl;
      level = sym (h.sound.epochs.level up);
      acts = on_base;
      owned = inl refl;
      epoch = refl;
      opid = refl;
      req = refl;
    })

    may_land : MayLand third.tier r.name (Some call) call op r (BaseActed.Fresh answer)
    may_land = (writes_land s.tier call r state answer h.sound up none free acts).2

    to_fourth : Moves third fourth
    to_fourth = lands r.name (Some call) call op r (BaseActed.Fresh answer) may_land

    held : IsHeld third
    held = moves_keep second third (moves_keep first second
        (moves_keep s first h to_first) to_second) to_third

    may_close : MayClose fourth.tier fourth.ledger call
    may_close =
        landed_closes third.tier third.ledger r.name (Some call) call op r (BaseActed.Fresh answer)
        held.sound held.owners may_land
