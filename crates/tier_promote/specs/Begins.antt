-- How promotions begin, and ask for the chunk that they want.
use Rattle.std.specs.Prelude.{◌≡◌, ℕ, List, [], Option, Some, None}
use Rattle.std.specs.FinMap as fin
use Rattle.std.specs.Option.{option_map}
use Rattle.copy_chunk.specs.Gathers.{wanted}
use Rattle.copy_chunk.specs.declared.chunk.Cursor.TheVariants.{Head}
use Rattle.obj_model.specs.declared.tier.Kind.TheVariants as kind
use Rattle.tier_promote.specs.declared.asking.Wanting.{Wanting}
use Rattle.tier_traffic.specs.Messages.{sent_for}
use Rattle.tier_types.specs.Flights.{name_asked}
use Rattle.tier_types.specs.declared.flight.Ask.{Ask}
use Rattle.tier_types.specs.declared.flight.Flight.{Flight}
use Rattle.tier_types.specs.declared.message.BaseMsg.{BaseMsg}
use Rattle.tier_view.specs.Traffic.{Traffic}
use Rattle.tier_view.specs.declared.parts.Flown.{Flown}

-- ---- work begins

-- this is the work on a name, and a message is sent for its call, which awaits the reply
abbrev pub work_flies : (call : ℕ) → List ℕ → Flight → BaseMsg → Traffic → Traffic
work_flies call name work message t =
    sent_for call message None (record t { flights = fin.insert t.flights name work })

-- a promotion that has no chunk yet
abbrev pub new_promotion : (call op : ℕ) → Ask → Flight
new_promotion call op ask = Flight.Promote call op [] ask

-- it is the work on the name asked about, and the GetChunk for the first chunk is sent
abbrev pub promotion_flies : (call epoch op : ℕ) → Ask → Traffic → Traffic
promotion_flies call epoch op ask t =
    work_flies call (name_asked ask) (new_promotion call op ask)
    (BaseMsg.GetChunk epoch op (name_asked ask) Head) t

-- its entry in the table of work, at this number of answers
abbrev pub promotion_flown : (call op now : ℕ) → Ask → Flown
promotion_flown call op now ask = record {
  call = call;
  kind = kind.Promote;
  name = name_asked ask;
  opid = op;
  came = now;
  went = None;
}

-- ---- a chunk is asked for

-- the promotion that this work is, if it is one that wants a chunk
abbrev pub wanting_by : Flight → Option Wanting
wanting_by (Flight.Promote call op gather ask) =
    option_map (λ at. record { call = call; opid = op; at = at }) (wanted gather)
wanting_by other = None

-- the same of the work on a name, if there is any
abbrev pub wanting_on : Option Flight → Option Wanting
wanting_on None = None
wanting_on (Some f) = wanting_by f

-- the GetChunk for it is sent, for the call of the promotion, which awaits the reply
abbrev pub chunk_asked : (epoch : ℕ) → List ℕ → Wanting → Traffic → Traffic
chunk_asked epoch name w t = sent_for w.call (BaseMsg.GetChunk epoch w.opid name w.at) None t

-- the chunk that the promotion on a name wants is asked for, under this number
pub record AsksChunk (epoch : ℕ) (name : List ℕ) (old new : Traffic) (number : ℕ) : Type 0 where
  pub wanting : Wanting
  pub is : wanting_on (fin.get old.flights name) ≡ Some wanting
  pub number_is : number ≡ old.next_message
  pub sent : new ≡ chunk_asked epoch name wanting old

-- so it is; or no promotion is on the name that wants a chunk, and nothing has changed
abbrev pub AsksFor : (epoch : ℕ) → List ℕ → (old new : Traffic) → Option ℕ → Type 0
AsksFor epoch name old new (Some number) = AsksChunk epoch name old new number
AsksFor epoch name old new None = (new ≡ old) × (wanting_on (fin.get old.flights name) ≡ None)
