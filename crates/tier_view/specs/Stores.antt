-- The two stores of a group.
use Rattle.std.specs.Prelude.{Bool, Option}
use Rattle.store_face.specs.Views.{StoreView}
use Rattle.tier_join.specs.declared.doubt.Doubt.{Doubt}
pub use Rattle.tier_view.specs.declared.parts.Pending.{Pending}

-- Two stores, whether either pool was stopped since its store was opened last, and the one commit
-- of which it is not known whether it was made.
pub record Stores : Type 0 where
  pub cache : StoreView
  pub base : StoreView
  pub cache_stopped : Bool
  pub base_stopped : Bool
  pub pending : Option Pending

-- the doubt that a commit is in, whoever's act it carries
abbrev pub doubt_in : Pending → Doubt
doubt_in (Pending.Plain pool name) = Doubt.Plain pool name
doubt_in (Pending.Act pool first act seq) = Doubt.Act pool act.req seq
doubt_in (Pending.Epoch pool e) = Doubt.Epoch pool e
