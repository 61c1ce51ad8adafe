-- A call is entered in the table.
use Rattle.std.proofs.Common.{◌≡◌, ◌≢◌, ◌≤◌, ◌<◌, ℕ, zero, suc, ◌==◌, cond, Bool, true, false, List, [], ◌∷◌, ◌++◌, take, length, Option, Some, None, refl, sym, ap, subst, ◌∙◌, arith}
use Rattle.std.proofs.lemmas.List.{map-append}
use Rattle.std.proofs.lemmas.Bool.{eqb-false}
use Rattle.std.specs.List.{AllByRecursion}
use Rattle.obj_ops.specs.Stores.{Store}
use Rattle.tier_chron.proofs.Lists.{all_imply, all_push, either_way}
use Rattle.tier_chron.specs.Calls.{Call, call_of}
use Rattle.tier_chron.specs.Fits.{IsHistoryFrom, TellsCall}
use Rattle.tier_chron.specs.Logs.{Log}
use Rattle.tier_chron.specs.Shapes.{AreInTurn, HasNoAct, IsAnswered, IsAskedBy, IsBegun, IsShaped}
use Rattle.tier_chron.specs.declared.entries.Act.{Act}
use Rattle.tier_protocol.specs.Owners.{Asking}
use Rattle.tier_protocol.specs.Tiers.{BaseMsg, Flight, Flights, Name}
use Rattle.tier_view.specs.Calls.{Entry, Flown, IsGoing, IsInFlight, entry_of, call_in}
use Rattle.tier_view.specs.Stores.{Pending}
use Rattle.tier_view.specs.Tables.{IsDriven, IsListed, SoundFlights, SoundFlown}
use Rattle.tier_view.specs.Traffic.{Begun, Owner, Traffic}
use Rattle.tier_view.specs.Views.{asking_of, calls_in}
use Rattle.tier_view.specs.Whole.{HasOwner, SoundTraffic}
use Rattle.tier_view.specs.Worlds.{MayPend}
use Rattle.tier_chron.proofs.Calls.{all_front, no_act, turn_push, unfound}

-- the first of two, or what follows it
beside : {X : Type 0} (P : Option X → Type 0) (b : Bool) (x : X) (o p : Option X) → (P o → P p) → P (cond b (Some x) o) → P (cond b (Some x) p)
beside P true x o p more h = h
beside P false x o p more h = more h

-- what is found in a table is found in a longer one
pub entry_more : (P : Option Entry → Type 0) → (P None → ⊥) → (es : List Entry) (e : Entry) (n : ℕ) → P (entry_of es n) → P (entry_of (es ++ e ∷ []) n)
entry_more P none [] e n h = absurd (none h)
entry_more P none (d ∷ es) e n h = beside P (d.number == n) d (entry_of es n) (entry_of (es ++ e ∷ []) n) (entry_more P none es e n) h

pub call_more : (P : Option Call → Type 0) → (P None → ⊥) → (es : List Entry) (e : Entry) (n : ℕ) → P (call_of (calls_in es) n) → P (call_of (calls_in (es ++ e ∷ [])) n)
call_more P none [] e n h = absurd (none h)
call_more P none (d ∷ es) e n h = beside P (d.number == n) (call_in d) (call_of (calls_in es) n) (call_of (calls_in (es ++ e ∷ [])) n) (call_more P none es e n) h

pub asks_more : (es : List Entry) (e : Entry) (n : ℕ) (a : Asking) → asking_of (call_of (calls_in es) n) ≡ Some a → asking_of (call_of (calls_in (es ++ e ∷ [])) n) ≡ Some a
asks_more es e n a h = call_more (λ o. asking_of o ≡ Some a) (λ k. absurd (cc)) es e n h

-- ---- the history's shape, with one call more

pub shape_more : (es : List Entry) (e : Entry) (log : Log) → IsShaped (calls_in es) log → call_of (calls_in es) e.number ≡ None → e.begin ≡ length log.acts → IsShaped (calls_in (es ++ e ∷ [])) log
shape_more es e log h new now =
    let calls = calls_in es in
    let c = call_in e in
    record {
      ordered = h.ordered;
      in_turn = subst AreInTurn (sym (map-append call_in es (e ∷ [])))
          (turn_push calls c (all_imply (IsBegun log.acts) (λ d. d.begin ≤ c.begin) (λ d k. omega (arith, k.begun, now)) calls h.begun) (unfound calls c.number new) h.in_turn);
      begun = subst (AllByRecursion (IsBegun log.acts)) (sym (map-append call_in es (e ∷ [])))
          (all_push (IsBegun log.acts) calls c h.begun (record {
            begun = omega (arith, now);
            later = all_front (λ a. a.call ≢ c.number) log.acts c.begin (no_act calls c.number log.acts new h.asked);
          }));
      single = h.single;
      asked = all_imply (λ a. IsAskedBy a (call_of calls a.call)) (λ a. IsAskedBy a (call_of (calls_in (es ++ e ∷ [])) a.call)) (λ a k. call_more (IsAskedBy a) (λ x. x) es e a.call k) log.acts h.asked;
      answered = all_imply (λ l. IsAnswered log.acts l (call_of calls l.call)) (λ l. IsAnswered log.acts l (call_of (calls_in (es ++ e ∷ [])) l.call))
          (λ l k. call_more (IsAnswered log.acts l) (λ x. x) es e l.call k) log.answers h.answered;
    }

-- a history goes on when a call is entered
pub history_more : (start : Store) (es : List Entry) (e : Entry) (log : Log) → IsHistoryFrom start (calls_in es) log → call_of (calls_in es) e.number ≡ None → e.begin ≡ length log.acts
    → IsHistoryFrom start (calls_in (es ++ e ∷ [])) log
history_more start es e log h new now = record {
  shaped = shape_more es e log h.shaped new now;
  legal = h.legal;
  told = all_imply (λ l. TellsCall start log.acts l (call_of (calls_in es) l.call)) (λ l. TellsCall start log.acts l (call_of (calls_in (es ++ e ∷ [])) l.call))
      (λ l k. call_more (TellsCall start log.acts l) (λ x. x) es e l.call k) log.answers h.told;
}

-- ---- what was said of calls, with one more

going_more : (es : List Entry) (e : Entry) (n : ℕ) → IsInFlight es n → IsInFlight (es ++ e ∷ []) n
going_more es e n h = entry_more IsGoing (λ x. x) es e n h

driven_more : (es : List Entry) (e : Entry) (o : Option ℕ) → IsDriven es o → IsDriven (es ++ e ∷ []) o
driven_more es e None h = h
driven_more es e (Some n) h = going_more es e n h

listed_more : (es : List Entry) (e : Entry) (flown : List Flown) (begun : List Begun) (epoch : ℕ) (n : Name) (f : Flight) → IsListed es flown begun epoch n f → IsListed (es ++ e ∷ []) flown begun epoch n f
listed_more es e flown begun epoch n (Flight.Promote call op gather ask) h = (going_more es e call h.0, h.1)
listed_more es e flown begun epoch n (Flight.Write driver owner op r) h = (driven_more es e driver h.0, h.1)
listed_more es e flown begun epoch n (Flight.Reads list) h = λ r on. (going_more es e r.call (h r on).0, (h r on).1)
listed_more es e flown begun epoch n (Flight.Flush call op seq blocking drain) h = (driven_more es e call h.0, h.1, h.2)

pub flights_more : (es : List Entry) (e : Entry) (flown : List Flown) (flights : Flights) (begun : List Begun) (epoch count : ℕ) → SoundFlights es flown flights begun epoch count
    → SoundFlights (es ++ e ∷ []) flown flights begun epoch count
flights_more es e flown flights begun epoch count h = record {
  listed = λ n f is. listed_more es e flown begun epoch n f (h.listed n f is);
  table = all_imply (SoundFlown es flights count) (SoundFlown (es ++ e ∷ []) flights count)
      (λ f k. record { known = entry_more (λ o. o ≢ None) (λ no. no refl) es e f.call k.known; timed = k.timed; stands = k.stands }) flown h.table;
}

owner_more : (es : List Entry) (e : Entry) (m : BaseMsg) (o : Option Owner) → HasOwner es m o → HasOwner (es ++ e ∷ []) m o
owner_more es e (BaseMsg.Write ep op r) None h = h
owner_more es e (BaseMsg.Write ep op r) (Some o) h = asks_more es e o.call _ h
owner_more es e (BaseMsg.Fence ep) o h = h
owner_more es e (BaseMsg.GetChunk ep op k at) o h = h
owner_more es e (BaseMsg.Look ep op k v) o h = h
owner_more es e (BaseMsg.Install ep op k s) o h = h

pub traffic_more : (es : List Entry) (e : Entry) (t : Traffic) → SoundTraffic es t → SoundTraffic (es ++ e ∷ []) t
traffic_more es e t h = record {
  messages = h.messages;
  replies = h.replies;
  answers = h.answers;
  owned = all_imply (λ s. HasOwner es s.message s.owner) (λ s. HasOwner (es ++ e ∷ []) s.message s.owner) (λ s k. owner_more es e s.message s.owner k) t.messages h.owned;
  begun = h.begun;
  awaited = all_imply (λ a. IsInFlight es a.call × (a.message < t.next_message)) (λ a. IsInFlight (es ++ e ∷ []) a.call × (a.message < t.next_message))
      (λ a k. (going_more es e a.call k.0, k.1)) t.awaited h.awaited;
}

pub pending_more : (es : List Entry) (e : Entry) (log : Log) (p : Option Pending) → MayPend es log p → MayPend (es ++ e ∷ []) log p
pending_more es e log None h = h
pending_more es e log (Some (Pending.Plain pool name)) h = h
pending_more es e log (Some (Pending.Act pool first a seq)) h = (record { asked = call_more (IsAskedBy a) (λ x. x) es e a.call h.0.asked; first = h.0.first; free = h.0.free }, h.1)
pending_more es e log (Some (Pending.Epoch pool ep)) h = h
