-- What is between the pools: unfinished work, messages and replies.
use Rattle.std.specs.Prelude.{ℕ, List, [], ◌∷◌, map, Option, Some}
use Rattle.tier_protocol.specs.Owners.{Owned}
use Rattle.tier_protocol.specs.Tiers.{BaseMsg, BaseReply, Flights}
pub use Rattle.tier_view.specs.declared.parts.Awaited.{Awaited}
pub use Rattle.tier_view.specs.declared.parts.Begun.{Begun}
pub use Rattle.tier_view.specs.declared.parts.Noted.{Noted}
pub use Rattle.tier_view.specs.declared.parts.Owner.{Owner}
pub use Rattle.tier_view.specs.declared.parts.Replied.{Replied}
pub use Rattle.tier_view.specs.declared.parts.Sent.{Sent}

-- Unfinished work by name; the flushes that were begun alone; the messages and replies, the newest
-- first, with the next numbers; the message that a call awaits; and how far drains have come.
pub record Traffic : Type 0 where
  pub flights : Flights
  pub begun : List Begun
  pub messages : List Sent
  pub replies : List Replied
  pub next_message : ℕ
  pub next_reply : ℕ
  pub awaited : List Awaited
  pub noted : List Noted

-- the messages and the replies without their numbers
abbrev pub wire_of : List Sent → List BaseMsg
wire_of messages = map (λ s. s.message) messages

abbrev pub replies_of : List Replied → List BaseReply
replies_of replies = map (λ r. r.reply) replies

-- a Write with its owner; no other message is owned
abbrev pub owned_by : BaseMsg → Option Owner → List Owned → List Owned
owned_by (BaseMsg.Write e op r) (Some o) rest =
    record { epoch = e; opid = op; req = r; call = o.call; line = o.line } ∷ rest
owned_by message owner rest = rest

-- the Writes that are on the wire, each with its owner
abbrev pub owned_in : List Sent → List Owned
owned_in [] = []
owned_in (s ∷ ss) = owned_by s.message s.owner (owned_in ss)
