-- How promotions gather the chunks that come.
use Rattle.std.specs.Prelude.{◌≡◌, ◌==◌, ℕ, false, List, [], ◌∷◌, ◌++◌, Option, Some, None, if◌then◌else◌}
use Rattle.std.specs.FinMap as fin
use Rattle.copy_chunk.specs.Gathers.{fits, wanted}
use Rattle.copy_chunk.specs.declared.chunk.Chunk.{Chunk}
use Rattle.tier_flight.specs.Ends.{FlightMap}
use Rattle.tier_promote.specs.declared.gathering.Brought.{Brought}
use Rattle.tier_promote.specs.declared.gathering.Promotion.{Promotion}
use Rattle.tier_promote.specs.declared.gathering.Gathered.{Gathered}
use Rattle.tier_promote.specs.declared.gathering.Gathered.TheVariants as gathered
use Rattle.tier_traffic.specs.Messages.{replied_of}
use Rattle.tier_types.specs.declared.flight.Ask.{Ask}
use Rattle.tier_types.specs.declared.flight.Flight.{Flight}
use Rattle.tier_types.specs.declared.message.BaseReply.{BaseReply}
use Rattle.tier_view.specs.Changes.{without_reply}
use Rattle.tier_view.specs.Traffic.{Traffic}
use Rattle.tier_view.specs.declared.parts.Replied.{Replied}

-- ---- what came

-- the chunk that a reply of this epoch brings, and for which operation
abbrev pub brought_by : (epoch : ℕ) → BaseReply → Option Brought
brought_by epoch (BaseReply.Chunk e op (Some x)) =
    if e == epoch then Some (record { opid = op; chunk = x }) else None
brought_by epoch other = None

abbrev pub brought_in : (epoch : ℕ) → Option Replied → Option Brought
brought_in epoch None = None
brought_in epoch (Some r) = brought_by epoch r.reply

-- ---- for which promotion

-- the call of the promotion that this work is, if it is one
abbrev pub caller_by : Flight → Option ℕ
caller_by (Flight.Promote call op gather ask) = Some call
caller_by other = None

abbrev pub caller_on : Option Flight → Option ℕ
caller_on None = None
caller_on (Some f) = caller_by f

-- the promotion that is this operation
pub record IsPromotion (flights : FlightMap) (op : ℕ) (p : Promotion) : Type 0 where
  pub gather : List Chunk
  pub ask : Ask
  pub flight : fin.get flights p.name ≡ Some (Flight.Promote p.call op gather ask)

-- it is the one promotion that is this operation
pub record IsOnePromotion (flights : FlightMap) (op : ℕ) (p : Promotion) : Type 0 where
  pub is : IsPromotion flights op p
  pub one : (q : Promotion) → IsPromotion flights op q → q.name ≡ p.name

-- no promotion is this operation
abbrev pub IsNoPromotion : FlightMap → (op : ℕ) → Type 0
IsNoPromotion flights op = (p : Promotion) → IsPromotion flights op p → ⊥

-- the reply of this number brings this chunk for this promotion
pub record IsBrought (t : Traffic) (epoch number : ℕ) (b : Brought) (p : Promotion) : Type 0 where
  pub brought : brought_in epoch (replied_of t.replies number) ≡ Some b
  pub gather : List Chunk
  pub ask : Ask
  pub flight : fin.get t.flights p.name ≡ Some (Flight.Promote p.call b.opid gather ask)

-- ---- what is done with it

-- the promotion has this chunk behind the others, and the reply of this number is gone
abbrev pub chunk_taken : (number : ℕ) → List ℕ → Flight → Traffic → Traffic
chunk_taken number name work t =
    without_reply number (record t { flights = fin.insert t.flights name work })

-- the promotion wanted the chunk, and has it now; it wants more, or none
pub record TakesChunk (epoch number : ℕ) (old new : Traffic) (call : ℕ) : Type 0 where
  pub b : Brought
  pub p : Promotion
  pub is : IsBrought old epoch number b p
  pub caller : call ≡ p.call
  pub wants : wanted is.gather ≡ Some b.chunk.at
  pub taken : new ≡ chunk_taken number p.name
      (Flight.Promote p.call b.opid (is.gather ++ b.chunk ∷ []) is.ask) old

-- the promotion wanted the chunk at this place, but no lawful state has this one there
pub record RefusesChunk (epoch number : ℕ) (old new : Traffic) (call : ℕ) : Type 0 where
  pub b : Brought
  pub p : Promotion
  pub is : IsBrought old epoch number b p
  pub caller : call ≡ p.call
  pub wants : wanted is.gather ≡ Some b.chunk.at
  pub unfit : fits is.gather b.chunk ≡ false
  pub same : new ≡ old

-- no promotion under way wants the chunk that the reply brings, if it brings one
abbrev pub IsUnwanted : Traffic → (epoch number : ℕ) → Type 0
IsUnwanted t epoch number =
    (b : Brought) (p : Promotion) (h : IsBrought t epoch number b p)
    → wanted h.gather ≡ Some b.chunk.at → ⊥

-- what comes of the reply of a number
abbrev pub GathersIn : (epoch number : ℕ) → (old new : Traffic) → Gathered → Type 0
GathersIn epoch number old new (gathered.Taken call) = TakesChunk epoch number old new call
GathersIn epoch number old new (gathered.Unfit call) = RefusesChunk epoch number old new call
GathersIn epoch number old new gathered.Nothing = (new ≡ old) × IsUnwanted old epoch number

-- what comes of a chunk that was given to this promotion
abbrev pub FeedsTo : (number : ℕ) → Promotion → Brought → (old new : Traffic) → Gathered → Type 0
FeedsTo number p b old new (gathered.Taken call) =
    (g : List Chunk) × (ask : Ask)
    × (fin.get old.flights p.name ≡ Some (Flight.Promote p.call b.opid g ask)) × (call ≡ p.call)
    × (wanted g ≡ Some b.chunk.at)
    × (new ≡ chunk_taken number p.name
    (Flight.Promote p.call b.opid (g ++ b.chunk ∷ []) ask) old)
FeedsTo number p b old new (gathered.Unfit call) =
    (g : List Chunk) × (ask : Ask)
    × (fin.get old.flights p.name ≡ Some (Flight.Promote p.call b.opid g ask)) × (call ≡ p.call)
    × (wanted g ≡ Some b.chunk.at) × (fits g b.chunk ≡ false) × (new ≡ old)
FeedsTo number p b old new gathered.Nothing =
    (new ≡ old)
    × ((call : ℕ) (g : List Chunk) (ask : Ask)
    → fin.get old.flights p.name ≡ Some (Flight.Promote call b.opid g ask)
    → wanted g ≡ Some b.chunk.at → ⊥)
