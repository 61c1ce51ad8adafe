-- Messages and replies under their numbers.
use Rattle.std.specs.Prelude.{ℕ, ◌==◌, ◌+◌, Bool, false, List, ◌∷◌, Option, None, Some}
use Rattle.std.specs.List.{find}
use Rattle.tier_traffic.specs.Waits.{awaiting}
use Rattle.tier_types.specs.declared.message.BaseMsg.{BaseMsg}
use Rattle.tier_view.specs.Traffic.{Traffic}
use Rattle.tier_view.specs.declared.parts.Owner.{Owner}
use Rattle.tier_view.specs.declared.parts.Replied.{Replied}
use Rattle.tier_view.specs.declared.parts.Sent.{Sent}

-- the message of a number
abbrev pub sent_of : List Sent → ℕ → Option Sent
sent_of messages number = find (λ s. s.number == number) messages

-- the reply of a number
abbrev pub replied_of : List Replied → ℕ → Option Replied
replied_of replies number = find (λ r. r.number == number) replies

-- one more message, under the next number
abbrev pub sent_now : BaseMsg → Option Owner → Traffic → Traffic
sent_now message owner t = record t {
  messages = record { number = t.next_message; message = message; owner = owner } ∷ t.messages;
  next_message = t.next_message + 1;
}

-- one more message, whose reply a call awaits, and no other
abbrev pub sent_for : (call : ℕ) → BaseMsg → Option Owner → Traffic → Traffic
sent_for call message owner t = record (sent_now message owner t) {
  awaited = awaiting call t.next_message t.awaited;
}

-- whether an owner is this call
abbrev pub is_owner : ℕ → Option Owner → Bool
is_owner call None = false
is_owner call (Some o) = o.call == call

-- whether a message is this call's
abbrev pub is_owned : ℕ → Sent → Bool
is_owned call s = is_owner call s.owner

-- the same of what stands at a place
abbrev pub is_owned_at : ℕ → Option Sent → Bool
is_owned_at call None = false
is_owned_at call (Some s) = is_owned call s
