-- Installations that are handed to the base where only that is known how many requests its state
-- has had.
use Rattle.std.specs.Prelude.{◌≡◌, ℕ, ◌==◌, ◌&&◌, nat_lt, Option, Some, None, if◌then◌else◌}
use Rattle.obj_model.specs.declared.change.Pool.TheVariants.{Base}
use Rattle.obj_model.specs.declared.state.NameState.{NameState}
use Rattle.tier_join.specs.Steps.{HasState}
use Rattle.tier_protocol.specs.Tiers.{Name}
use Rattle.tier_types.specs.declared.message.BaseMsg.{BaseMsg}
use Rattle.tier_view.specs.declared.parts.Pending.{Pending}
use Rattle.tier_view.specs.declared.parts.Sent.{Sent}
use Rattle.tier_view.specs.Views.{GroupView, joined}
use Rattle.tier_serve.specs.Unread.{IsHanded, IsServedWith}

-- What is in doubt where the disk fails: the name, where the installation is of the base's epoch
-- and its state has had more requests than the base's.
abbrev pub newer_doubt : (have epoch : ℕ) → Name → (known seq : ℕ) → Option Pending
newer_doubt have epoch k known seq =
    if epoch == have && nat_lt known seq then Some (Pending.Plain Base k) else None

-- An installation of which only that is known how many requests the base's state has had.
abbrev pub ServingInstalls : Type 0
ServingInstalls =
    (v : GroupView) (m : Sent) (e op : ℕ) (k : Name) (t : NameState) (known : ℕ) → IsHanded v m
    → m.message ≡ BaseMsg.Install e op k t
    → (e ≡ v.standing.base_epoch
    → (s : NameState) × HasState (joined v) k s × (s.seq ≡ known))
    → IsServedWith v m (newer_doubt v.standing.base_epoch e k known t.seq)
