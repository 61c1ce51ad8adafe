-- The steps of a group, as changes of its parts.
use Rattle.std.specs.Prelude.{ℕ, ◌+◌, false, [], ◌∷◌, ◌++◌, length, Option, Some, None}
use Rattle.std.specs.FinMap as fin
use Rattle.obj_model.specs.declared.req.Req.{Req}
use Rattle.obj_model.specs.declared.tier.Kind.TheVariants as kind
use Rattle.tier_chron.specs.declared.asked.Asked.{Asked}
use Rattle.tier_protocol.specs.Tiers.{BaseMsg, Flight}
use Rattle.tier_view.specs.Calls.{Calls, Entry, Flown}
use Rattle.tier_view.specs.Traffic.{Owner}
use Rattle.tier_view.specs.Views.{GroupView}

-- ---- a call is entered

-- a call of the next number, which asks this on this line
abbrev pub entry_for : Option ℕ → Asked → GroupView → Entry
entry_for line asked v = record {
  number = v.calls.last + 1;
  line = line;
  asked = asked;
  epoch = v.standing.cache_epoch;
  begin = length v.log.acts;
  adopted = false;
  ended = false;
}

abbrev pub with_call : Entry → Calls → Calls
with_call e calls = record {
  entries = calls.entries ++ e ∷ [];
  last = calls.last + 1;
  flown = calls.flown;
}

abbrev pub opened_call : Option ℕ → Asked → GroupView → GroupView
opened_call line asked v = record v { calls = with_call (entry_for line asked v) v.calls }

-- ---- a proxied write begins, and is sent

-- the entry of a write request that goes to the base
abbrev pub write_flown : (owner : ℕ) → Req → GroupView → Flown
write_flown owner r v = record {
  call = owner;
  kind = kind.Write;
  name = r.name;
  opid = v.standing.next_opid;
  came = length v.log.answers;
  went = None;
}

-- the work of a write request, which its own call drives
abbrev pub write_flight : (owner : ℕ) → Req → GroupView → Flight
write_flight owner r v = Flight.Write (Some owner) owner v.standing.next_opid r

abbrev pub begun_write : (owner : ℕ) → Req → GroupView → GroupView
begun_write owner r v = record v {
  calls = record v.calls { flown = v.calls.flown ++ write_flown owner r v ∷ [] };
  traffic = record v.traffic {
    flights = fin.insert v.traffic.flights r.name (write_flight owner r v);
  };
  standing = record v.standing { next_opid = v.standing.next_opid + 1 };
}

-- a message under the next number
abbrev pub sent_now : BaseMsg → Option Owner → GroupView → GroupView
sent_now message owner v = record v {
  traffic = record v.traffic {
    messages = record {
      number = v.traffic.next_message;
      message = message;
      owner = owner;
    } ∷ v.traffic.messages;
    next_message = v.traffic.next_message + 1;
  };
}
