-- What is between the pools, made of its parts, where a message or a reply is taken out.
use Rattle.std.proofs.Common.{◌≡◌, ℕ, ◌==◌, List, filter, not, ap, ◌∙◌}
use Rattle.std.specs.Map.{values_of}
use Rattle.tier_flight.specs.Ends.{FlightMap}
use Rattle.tier_view.specs.Changes.{without_message, without_reply}
use Rattle.tier_view.specs.declared.parts.Awaited.{Awaited}
use Rattle.tier_view.specs.declared.parts.Begun.{Begun}
use Rattle.tier_view.specs.declared.parts.Noted.{Noted}
use Rattle.tier_view.specs.declared.parts.Replied.{Replied}
use Rattle.tier_view.specs.declared.parts.Sent.{Sent}
use Rattle.tier_traffic.specs.Numbered.{NumberedView}
use Rattle.tier_traffic.specs.Wires.{WiresView, carrying}
use Rattle.tier_traffic.proofs.Values.{AreUnder, taken_value}

module _ (f : FlightMap) (b : List Begun) (m : NumberedView Sent) (r : NumberedView Replied) (a : List Awaited) (n : List Noted) where
  -- the whole of these parts
  abbrev seen : WiresView
  seen = record {
    traffic = record {
      flights = f;
      begun = b;
      messages = values_of m.held;
      replies = values_of r.held;
      next_message = m.next;
      next_reply = r.next;
      awaited = a;
      noted = n;
    };
    message_room = m.ready;
    reply_room = r.ready;
  }

-- a message is taken out
pub message_out : (f : FlightMap) (b : List Begun) (m o : NumberedView Sent) (r : NumberedView Replied) (a : List Awaited) (n : List Noted) (number : ℕ)
    → AreUnder (λ s. s.number) m.held → o ≡ record m { held = filter (λ e. not (e.0 == number)) m.held }
    → seen f b o r a n ≡ carrying (without_message number (seen f b m r a n).traffic) (seen f b m r a n)
message_out f b m o r a n number under is =
    ap (λ (v : NumberedView Sent). seen f b v r a n) is
    ∙ ap (λ (l : List Sent). carrying (record (seen f b m r a n).traffic { messages = l }) (seen f b m r a n)) (taken_value (λ s. s.number) number m.held under)

-- a reply is taken out
pub reply_out : (f : FlightMap) (b : List Begun) (m : NumberedView Sent) (r o : NumberedView Replied) (a : List Awaited) (n : List Noted) (number : ℕ)
    → AreUnder (λ s. s.number) r.held → o ≡ record r { held = filter (λ e. not (e.0 == number)) r.held }
    → seen f b m o a n ≡ carrying (without_reply number (seen f b m r a n).traffic) (seen f b m r a n)
reply_out f b m r o a n number under is =
    ap (λ (v : NumberedView Replied). seen f b m v a n) is
    ∙ ap (λ (l : List Replied). carrying (record (seen f b m r a n).traffic { replies = l }) (seen f b m r a n)) (taken_value (λ s. s.number) number r.held under)
