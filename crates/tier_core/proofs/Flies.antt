-- A write request in what is between the pools.
use Rattle.std.proofs.Common.{◌≡◌, inl, inr, ℕ, false, List, Option, Some, None, refl, sym, ap, subst, ◌∙◌}
use Rattle.std.specs.FinMap as fin
use Rattle.std.specs.Cmp.Lexicographic.{nat_list_cmp_total}
use Rattle.obj_model.specs.declared.req.Req.{Req}
use Rattle.tier_flight.specs.Joins.{IsJoinedIn, MayJoin, joined}
use Rattle.tier_protocol.proofs.Cells.{get_here, get_there, same_or_not}
use Rattle.tier_protocol.specs.Tiers.{BaseMsg, Flight, Flights, Name}
use Rattle.tier_traffic.specs.Messages.{sent_for}
use Rattle.tier_traffic.specs.Wires.{WiresView, with_flights}
use Rattle.tier_view.specs.Traffic.{Traffic}
use Rattle.tier_view.specs.declared.parts.Owner.{Owner}
use Rattle.tier_core.specs.Proxies.{write_flies}
use Rattle.tier_core.specs.declared.turns.Turn.{Turn}

-- work may come to a free name
pub may_join : (flights : Flights) (k n : Name) (f : Flight) → fin.get flights n ≡ None → k ≡ n → MayJoin (fin.get flights k) f
may_join flights k n f free same = subst (λ (o : Option Flight). MayJoin o f) (sym (ap (fin.get flights) same ∙ free)) tt

-- a name that was free is free again where its work is taken out
free_again : (flights : Flights) (k : Name) (f : Flight) → fin.get flights k ≡ None → fin.remove (fin.insert flights k f) k ≡ flights
free_again flights k f free =
    fin.same_map nat_list_cmp_total (fin.slice_cmp-IsAntisymmetric fin.nat_cmp-IsAntisymmetric) (fin.remove (fin.insert flights k f) k) flights
    (λ n. elim (same_or_not n k) [
      | inl same ↦ ap (fin.get (fin.remove (fin.insert flights k f) k)) same ∙ get_here (fin.insert flights k f) k None ∙ sym (ap (fin.get flights) same ∙ free)
      | inr other ↦ get_there (fin.insert flights k f) k None n other ∙ get_there flights k (Some f) n other
    ])

module _ (w a : WiresView) (turn : Turn) (epoch op : ℕ) (q : Req) (free : fin.get w.traffic.flights q.name ≡ None) where
  abbrev F : Flight
  F = Flight.Write (Some turn.call) turn.call op q

  abbrev O : Option Owner
  O = Some (record { call = turn.call; line = turn.line })

  come : (key : Name) → key ≡ q.name → IsJoinedIn key F w.traffic.flights a.traffic.flights → a.traffic.flights ≡ fin.insert w.traffic.flights q.name F
  come key same h =
      h
      ∙ ap (λ (k : Name). fin.insert w.traffic.flights k (joined (fin.get w.traffic.flights k) F)) same
      ∙ ap (λ (o : Option Flight). fin.insert w.traffic.flights q.name (joined o F)) free

  module _ (key : Name) (same : key ≡ q.name) (joins : IsJoinedIn key F w.traffic.flights a.traffic.flights) (frame : a ≡ with_flights a.traffic.flights w) where
    flown : a.traffic ≡ record w.traffic { flights = fin.insert w.traffic.flights q.name F }
    flown = ap (λ (x : WiresView). x.traffic) frame ∙ ap (λ (f : Flights). record w.traffic { flights = f }) (come key same joins)

    -- it was sent
    pub flies_is : (b : WiresView) (m : Req) → m ≡ q → b ≡ record a { traffic = sent_for turn.call (BaseMsg.Write epoch op m) O a.traffic; message_room = false }
        → b.traffic ≡ write_flies turn epoch op q w.traffic
    flies_is b m one sent =
        ap (λ (x : WiresView). x.traffic) sent
        ∙ ap (λ (r : Req). sent_for turn.call (BaseMsg.Write epoch op r) O a.traffic) one
        ∙ ap (sent_for turn.call (BaseMsg.Write epoch op q) O) flown

    -- the next message is the one that it was
    pub flies_number : a.traffic.next_message ≡ w.traffic.next_message
    flies_number = ap (λ (t : Traffic). t.next_message) flown

    -- it was not, and the name is free again
    pub flies_not : (b c : WiresView) (name : Name) → name ≡ q.name → b.traffic ≡ a.traffic → c ≡ with_flights (fin.remove b.traffic.flights name) b → c.traffic ≡ w.traffic
    flies_not b c name this stays taken =
        ap (λ (x : WiresView). x.traffic) taken
        ∙ ap (λ (t : Traffic). record t { flights = fin.remove t.flights name }) (stays ∙ flown)
        ∙ ap (λ (k : Name). record w.traffic { flights = fin.remove (fin.insert w.traffic.flights q.name F) k }) this
        ∙ ap (λ (f : Flights). record w.traffic { flights = f }) (free_again w.traffic.flights q.name F free)
