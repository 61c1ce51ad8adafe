-- How far a group is started.
use Rattle.std.specs.Prelude.{ℕ, Bool, Option}
use Rattle.tier_protocol.specs.Tiers.{Net, Phase}
use Rattle.tier_view.specs.Traffic.{Traffic, replies_of, wire_of}
pub use Rattle.tier_view.specs.declared.parts.KeptFence.{KeptFence}

-- The epochs of both pools, the next operation's number, how far the cache has come since its last
-- stop, whether the base told its epoch since its own last stop, and what the last Fence keeps.
pub record Standing : Type 0 where
  pub cache_epoch : ℕ
  pub base_epoch : ℕ
  pub next_opid : ℕ
  pub phase : Phase
  pub fenced : Bool
  pub kept : Option KeptFence

-- the wire, and what the cache remembers of it
abbrev pub net_of : Traffic → Standing → Net
net_of traffic standing = record {
  wire = wire_of traffic.messages;
  replies = replies_of traffic.replies;
  cache_epoch = standing.cache_epoch;
  base_epoch = standing.base_epoch;
  next_opid = standing.next_opid;
  phase = standing.phase;
  fenced = standing.fenced;
}
