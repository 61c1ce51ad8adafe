-- A group as contracts see it, and what is read off its parts.
use Rattle.std.specs.Prelude.{ℕ, ◌==◌, ◌&&◌, Bool, not, List, map, Option, Some, None}
use Rattle.std.specs.List.{list_any}
use Rattle.std.specs.Option.{option_map}
use Rattle.tier_chron.specs.Calls.{Call, call_of}
use Rattle.tier_chron.specs.Logs.{Log}
use Rattle.tier_chron.specs.Shapes.{is_fault}
use Rattle.tier_chron.specs.declared.asked.Asked.{Asked}
use Rattle.tier_chron.specs.declared.asked.Asked.TheVariants.{Write}
use Rattle.tier_chron.specs.declared.entries.Act.{Act}
use Rattle.tier_chron.specs.declared.entries.Logged.{Logged}
use Rattle.tier_join.specs.Group.{Memory, View}
use Rattle.tier_protocol.specs.Owners.{Asking, CallAct, Ledger}
use Rattle.tier_view.specs.Agents.{Agents}
use Rattle.tier_view.specs.Calls.{Calls, Entry, call_in}
use Rattle.tier_view.specs.Standing.{Standing, net_of}
use Rattle.tier_view.specs.Stores.{Stores, doubt_in}
use Rattle.tier_view.specs.Traffic.{Sent, Traffic, owned_in}

-- a group
pub record GroupView : Type 0 where
  pub stores : Stores
  pub log : Log
  pub calls : Calls
  pub traffic : Traffic
  pub standing : Standing
  pub agent : Agents

-- ---- the pools, with what is in memory for them

-- the acts in memory are those of the history
abbrev pub memory_of : Log → Traffic → Standing → Memory
memory_of log traffic standing = record {
  acts = map (λ a. a.req) log.acts;
  flights = traffic.flights;
  net = net_of traffic standing;
}

abbrev pub joined_of : Stores → Memory → View
joined_of stores memory = record {
  cache = stores.cache;
  base = stores.base;
  doubt = option_map doubt_in stores.pending;
  memory = memory;
}

abbrev pub joined : GroupView → View
joined v = joined_of v.stores (memory_of v.log v.traffic v.standing)

-- ---- the calls

-- as the history knows them
abbrev pub calls_in : List Entry → List Call
calls_in entries = map call_in entries

-- a write request that a call with a line asked
abbrev pub asking_by : Asked → Option ℕ → Option Asking
asking_by (Write r) (Some line) = Some (record { line = line; req = r })
asking_by asked line = None

abbrev pub asking_of : Option Call → Option Asking
asking_of None = None
asking_of (Some c) = asking_by c.asked c.line

-- the answer is one of this call, and no request of the call can act behind it
abbrev pub closes : ℕ → Logged → Bool
closes call l = (l.call == call) && not (is_fault l.answer)

-- an act, as those who ask whose it is know it
abbrev pub act_in : Act → CallAct
act_in a = record { call = a.call; line = a.line; req = a.req; reply = a.reply }

-- whose act each Write is, by the messages, the table of calls and the history
abbrev pub ledger_of : List Sent → List Entry → Log → Ledger
ledger_of messages entries log = record {
  owned = owned_in messages;
  acts = map act_in log.acts;
  asks = λ call. asking_of (call_of (calls_in entries) call);
  closed = λ call. list_any (closes call) log.answers;
}

abbrev pub ledger_in : GroupView → Ledger
ledger_in v = ledger_of v.traffic.messages v.calls.entries v.log
