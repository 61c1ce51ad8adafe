-- Work of a call in what is between the pools.
use Rattle.std.proofs.Common.{◌≡◌, inl, inr, false, ℕ, Option, Some, None, sym, ap, subst, ◌∙◌}
use Rattle.std.specs.FinMap as fin
use Rattle.std.specs.Cmp.Lexicographic.{nat_list_cmp_total}
use Rattle.tier_flight.specs.Joins.{IsJoinedIn, MayJoin, joined}
use Rattle.tier_protocol.proofs.Cells.{get_here, get_there, same_or_not}
use Rattle.tier_protocol.specs.Tiers.{BaseMsg, Flight, Flights, Name}
use Rattle.tier_traffic.specs.Messages.{sent_for}
use Rattle.tier_traffic.specs.Wires.{WiresView, with_flights}
use Rattle.tier_view.specs.Traffic.{Traffic}
use Rattle.tier_promote.specs.Begins.{work_flies}

-- work may come to a free name
pub may_join : (flights : Flights) (k n : Name) (f : Flight) → fin.get flights n ≡ None → k ≡ n → MayJoin (fin.get flights k) f
may_join flights k n f free same = subst (λ (o : Option Flight). MayJoin o f) (sym (ap (fin.get flights) same ∙ free)) tt

-- a name that was free is free again where its work is taken out
free_again : (flights : Flights) (k : Name) (f : Flight) → fin.get flights k ≡ None → fin.remove (fin.insert flights k f) k ≡ flights
free_again flights k f free =
    fin.same_map nat_list_cmp_total (fin.slice_cmp-IsAntisymmetric fin.nat_cmp-IsAntisymmetric) (fin.remove (fin.insert flights k f) k) flights
    (λ n. elim (same_or_not n k) [
      | inl same ↦ ap (fin.get (fin.remove (fin.insert flights k f) k)) same ∙ get_here (fin.insert flights k f) k None ∙ sym (ap (fin.get flights) same ∙ free)
      | inr other ↦ get_there (fin.insert flights k f) k None n other ∙ get_there flights k (Some f) n other
    ])

module _ (w a : WiresView) (call : ℕ) (n : Name) (f : Flight) (free : fin.get w.traffic.flights n ≡ None) (key : Name) (same : key ≡ n) (joins : IsJoinedIn key f w.traffic.flights a.traffic.flights)
    (frame : a ≡ with_flights a.traffic.flights w) where
  come : a.traffic.flights ≡ fin.insert w.traffic.flights n f
  come =
      joins
      ∙ ap (λ (k : Name). fin.insert w.traffic.flights k (joined (fin.get w.traffic.flights k) f)) same
      ∙ ap (λ (o : Option Flight). fin.insert w.traffic.flights n (joined o f)) free

  flown : a.traffic ≡ record w.traffic { flights = fin.insert w.traffic.flights n f }
  flown = ap (λ (x : WiresView). x.traffic) frame ∙ ap (λ (g : Flights). record w.traffic { flights = g }) come

  -- its message was sent
  pub flies_is : (b : WiresView) (m : BaseMsg) → b ≡ record a { traffic = sent_for call m None a.traffic; message_room = false } → b.traffic ≡ work_flies call n f m w.traffic
  flies_is b m sent = ap (λ (x : WiresView). x.traffic) sent ∙ ap (sent_for call m None) flown

  -- the next message is the one that it was
  pub flies_number : a.traffic.next_message ≡ w.traffic.next_message
  flies_number = ap (λ (t : Traffic). t.next_message) flown

  -- it was not, and the name is free again
  pub flies_not : (b c : WiresView) → b.traffic ≡ a.traffic → c ≡ with_flights (fin.remove b.traffic.flights n) b → c.traffic ≡ w.traffic
  flies_not b c stays taken =
      ap (λ (x : WiresView). x.traffic) taken
      ∙ ap (λ (t : Traffic). record t { flights = fin.remove t.flights n }) (stays ∙ flown)
      ∙ ap (λ (g : Flights). record w.traffic { flights = g }) (free_again w.traffic.flights n f free)
