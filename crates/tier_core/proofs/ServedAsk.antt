-- A client's call is served behind the reading of its name's record.
use Rattle.std.proofs.Common.{◌≡◌, ℕ, true, List, Option, Some, None, refl, sym, ap, subst, ◌∙◌}
use Rattle.std.specs.Prelude.{Result, Ok, Err}
use Rattle.cache_pool.specs.declared.fault.CacheFault.{CacheFault}
use Rattle.tier_chron.specs.declared.asked.Asked.{Asked}
use Rattle.tier_join.specs.Promises.{as_it_is, with_req}
use Rattle.tier_join.specs.Steps.{Outcome}
use Rattle.tier_types.specs.Flights.{name_asked}
use Rattle.tier_types.specs.declared.flight.Ask.{Ask}
use Rattle.tier_types.specs.declared.record.TierRec.{TierRec}
use Rattle.tier_view.specs.Laws.{Keeps}
use Rattle.tier_view.specs.Views.{GroupView}
use Rattle.tier_view.proofs.Serving.{actless_keeps}
use Rattle.tier_core.specs.Reads.{ReadsHere}
use Rattle.tier_core.specs.Serves.{IsBare, MayBeServed, Serves, ServesAsk, ServesHit, served_as, with_ask}
use Rattle.tier_core.specs.Turns.{IsTurn}
use Rattle.tier_core.specs.declared.serving.Served.{Served}
use Rattle.tier_core.specs.declared.turns.Turn.{Turn}
use Rattle.tier_core.proofs.ReadLeads.{reading_leads}
use Rattle.tier_core.proofs.ServedHere.{stays_step}

-- ---- behind a reading

module _ (name : List ℕ) (u v : GroupView) (found : Result (Option TierRec) CacheFault) (read : ReadsHere name u v found) where
  pub read_settled : v.stores.pending ≡ None
  read_settled = ap (λ (x : GroupView). x.stores.pending) read.is

  pub read_turn : (turn : Turn) (a : Asked) → IsTurn u turn a → IsTurn v turn a
  read_turn turn a h = subst (λ (x : GroupView). IsTurn x turn a) (sym read.is) (record { entry = h.entry; is = h.is; turn_is = h.turn_is; asked_is = h.asked_is })

  pub read_may : (call : ℕ) (ask : Ask) → MayBeServed u call ask → MayBeServed v call ask
  read_may call (Ask.Write q) h = subst (λ (x : GroupView). MayBeServed x call (Ask.Write q)) (sym read.is) (record { up = h.up; lets = h.lets; free = h.free })
  read_may call (Ask.Read client key vector) h = tt

pub read_live : (name : List ℕ) (u v : GroupView) (rec : Option TierRec) → ReadsHere name u v (Ok rec) → u.stores.cache.live ≡ true → v.stores.cache.live ≡ true
read_live name u v rec h live = h.read.2.live ∙ live

-- ---- what came of it

pub served_hit : (turn : Turn) (ask : Ask) (r : TierRec) (u v : GroupView) (made : Outcome) → ServesAsk turn ask r u v made → ServesHit turn ask r u v (served_as made)
served_hit turn ask r u v (Ok done) h = h
served_hit turn ask r u v (Err fault) h = h

-- a step that acts on nothing is one of any call
pub any_ask : (ask : Ask) (v w : GroupView) → Keeps as_it_is None v w → Keeps (with_ask ask) None v w
any_ask (Ask.Write q) v w h = actless_keeps (with_req q) v w h
any_ask (Ask.Read client key vector) v w h = h

-- ---- all of it, by what was read

module _ (name : List ℕ) (turn : Turn) (ask : Ask) (u v : GroupView) (is : name ≡ name_asked ask) (reading : Keeps as_it_is None u v) where
  read_asked : (found : Result (Option TierRec) CacheFault) → ReadsHere name u v found → ReadsHere (name_asked ask) u v found
  read_asked found read = subst (λ (k : List ℕ). ReadsHere k u v found) is read

  -- nothing came behind the reading
  no_step : (found : Result (Option TierRec) CacheFault) → ReadsHere name u v found → Keeps (with_ask ask) None v v
  no_step found read = any_ask ask v v (stays_step v reading.0 (read_settled name u v found read))

  both : (found : Result (Option TierRec) CacheFault) (w : GroupView) → ReadsHere name u v found → Keeps (with_ask ask) None v w → Keeps (with_ask ask) None u w
  both found w read serving = reading_leads (with_ask ask) name u v w found read reading serving

  pub unread_serves : (fault : CacheFault) → ReadsHere name u v (Err fault) → Serves turn ask u v (Served.Unread fault)
  unread_serves fault read = record {
    between = v;
    found = Err fault;
    read = read_asked (Err fault) read;
    reading = reading;
    served = (refl, refl);
    serving = no_step (Err fault) read;
    step = both (Err fault) v read (no_step (Err fault) read);
  }

  pub absent_serves : (rec : Option TierRec) → rec ≡ None → ReadsHere name u v (Ok rec) → Serves turn ask u v Served.Absent
  absent_serves rec none read =
      let found : ReadsHere name u v (Ok None) = subst (λ (o : Option TierRec). ReadsHere name u v (Ok o)) none read in
      record {
        between = v;
        found = Ok None;
        read = read_asked (Ok None) found;
        reading = reading;
        served = (refl, refl);
        serving = no_step (Ok None) found;
        step = both (Ok None) v found (no_step (Ok None) found);
      }

  pub hit_serves : (rec : Option TierRec) (held : TierRec) (w : GroupView) (made : Outcome) (result : Served) → rec ≡ Some held → result ≡ served_as made → ReadsHere name u v (Ok rec)
      → ServesAsk turn ask held v w made → Keeps (with_ask ask) None v w → Serves turn ask u w result
  hit_serves rec held w made result some told read served step = record {
    between = v;
    found = Ok (Some held);
    read = read_asked (Ok (Some held)) (subst (λ (o : Option TierRec). ReadsHere name u v (Ok o)) some read);
    reading = reading;
    served = subst (λ (x : Served). ServesHit turn ask held v w x) (sym told) (served_hit turn ask held v w made served);
    serving = step;
    step = both (Ok rec) w read step;
  }

-- a call that came to a record says nothing of a name without one
pub served_is_not_bare : (v : GroupView) (name : List ℕ) (made : Outcome) → IsBare v name (served_as made)
served_is_not_bare v name (Ok done) = tt
served_is_not_bare v name (Err fault) = tt
