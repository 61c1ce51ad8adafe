-- What calls await, how far drains have come, and the flushes that were begun alone.
use Rattle.std.specs.Prelude.{ℕ, ◌==◌, List, Option, bytes_eq, filter, not}
use Rattle.std.specs.List.{find}
use Rattle.std.specs.Option.{option_map}
use Rattle.std.specs.Ordering.{nat_cmp}
use Rattle.obj_model.specs.Names.{name_cmp}
use Rattle.tier_traffic.specs.Places.{placed}
use Rattle.tier_traffic.specs.declared.begun.BegunAt.{BegunAt}
use Rattle.tier_view.specs.declared.parts.Awaited.{Awaited}
use Rattle.tier_view.specs.declared.parts.Begun.{Begun}
use Rattle.tier_view.specs.declared.parts.Noted.{Noted}

-- ---- what calls await, in the order of the calls

-- the message that a call awaits
abbrev pub awaited_of : List Awaited → ℕ → Option ℕ
awaited_of awaited call = option_map (λ a. a.message) (find (λ a. a.call == call) awaited)

-- the call awaits this message, and no other
abbrev pub awaiting : (call message : ℕ) → List Awaited → List Awaited
awaiting call message awaited =
    placed (λ a b. nat_cmp a.call b.call) (record { call = call; message = message }) awaited

-- ---- how far drains have come, in the order of the calls

-- what a call has noted
abbrev pub noted_of : List Noted → ℕ → Option Noted
noted_of noted call = find (λ n. n.call == call) noted

-- the call has noted this, and nothing else
abbrev pub noting : Noted → List Noted → List Noted
noting n noted = placed (λ a b. nat_cmp a.call b.call) n noted

-- ---- flushes that were begun alone, in the order of their names

-- when and with which message the flush of a name was begun
abbrev pub begun_of : List Begun → List ℕ → Option BegunAt
begun_of begun name =
    option_map (λ b. record { epoch = b.epoch; message = b.message })
    (find (λ b. bytes_eq name b.name) begun)

-- the name's flush is this one, and no other
abbrev pub beginning : Begun → List Begun → List Begun
beginning b begun = placed (λ a c. name_cmp a.name c.name) b begun

-- no flush of the name was begun
abbrev pub without_begun : List ℕ → List Begun → List Begun
without_begun name begun = filter (λ b. not (bytes_eq name b.name)) begun
