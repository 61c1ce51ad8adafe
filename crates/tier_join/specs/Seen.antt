-- A step sees enough: where a guard holds of a sound pair, it holds of what the step sees. So the
-- laws of this crate speak of every step that the protocol knows.
use Rattle.std.specs.Prelude.{◌≡◌, ℕ, Bool, List, Option}
use Rattle.std.specs.FinMap as fin
use Rattle.copy_chunk.specs.declared.chunk.Chunk.{Chunk}
use Rattle.obj_model.specs.declared.reply.Reply.{Reply}
use Rattle.obj_model.specs.declared.req.Req.{Req}
use Rattle.obj_model.specs.declared.state.NameState.{NameState}
use Rattle.obj_ops.specs.Stores.{Store}
use Rattle.tier_protocol.specs.Moves.{MayActHere, MayBegin, MayClean, MayEvict, MayGather, MayLand, MayPromote, MaySend}
use Rattle.tier_protocol.specs.Tiers.{Name, Ask, BaseActed, BaseMsg, Flight, Recs, Tier, TierRec}
use Rattle.tier_join.specs.Group.{Memory, tier_of}
use Rattle.tier_join.specs.Steps.{seen, subject}

-- a pair, and what a step on this name sees of it
abbrev pub SeesAs : (Tier → Type 0) → Memory → Name → Type 0
SeesAs May m k =
    (start : Store) (recs : Recs) (base : Store) → May (tier_of start m recs base)
    → May (seen m k (fin.get recs k))

-- each guard that rests on a record
pub record SeesEnough (m : Memory) (k : Name) : Type 0 where
  pub acts : (r : TierRec) (q : Req) (s : NameState) (answer : Reply) → q.name ≡ k
      → SeesAs (λ t. MayActHere t r q s answer) m k
  pub cleans : (call : Option ℕ) (op seq n : ℕ) (blocking drain : Bool) (r : TierRec)
      → SeesAs (λ t. MayClean t k call op seq n blocking drain r) m k
  pub evicts : SeesAs (λ t. MayEvict t k) m k
  pub begins : (f : Flight) → SeesAs (λ t. MayBegin t k f) m k
  pub sends : (msg : BaseMsg) → subject msg ≡ k → SeesAs (λ t. MaySend t msg) m k
  -- and those that rest on none
  pub promotes : (call op : ℕ) (gather : List Chunk) (ask : Ask) (s : NameState)
      → SeesAs (λ t. MayPromote t k call op gather ask s) m k
  pub gathers : (call op : ℕ) (gather : List Chunk) (ask : Ask) (x : Chunk)
      → SeesAs (λ t. MayGather t k call op gather ask x) m k
  pub lands : (driver : Option ℕ) (owner op : ℕ) (r : Req) (a : BaseActed)
      → SeesAs (λ t. MayLand t k driver owner op r a) m k

abbrev pub GuardsAreSeen : Type 0
GuardsAreSeen = (m : Memory) (k : Name) → SeesEnough m k
