-- Where both stores tell, a base that is opened is at the epoch in memory or at the one in doubt.
use Rattle.std.proofs.Common.{◌≡◌, ◌≢◌, ◌⊎◌, inl, inr, ℕ, Option, Some, None}
use Rattle.std.specs.FinMap as fin
use Rattle.obj_model.specs.declared.change.Pool.TheVariants.{Base, Cache}
use Rattle.obj_ops.specs.Stores.{Store}
use Rattle.pool_keys.proofs.Epochs.{epoch_one}
use Rattle.pool_keys.specs.Keys.{epoch_key}
use Rattle.pool_keys.specs.Left.{IsLeft}
use Rattle.pool_keys.specs.Values.{IsAtEpoch}
use Rattle.store_face.specs.Calls.{Among}
use Rattle.store_face.specs.Tables.{Table}
use Rattle.store_face.specs.Views.{StoreView}
use Rattle.tier_core.specs.Opens.{IsOtherThan}
use Rattle.tier_join.proofs.Left.{among_since, now_since, some_left, tells_on}
use Rattle.tier_join.specs.Group.{BothTell, Memory, Spells, SpellsAny, TwoMaps, Within}
use Rattle.tier_join.specs.Steps.{Has}
use Rattle.std.specs.Option.{option_map}
use Rattle.tier_view.specs.Stores.{doubt_in}
use Rattle.tier_view.specs.Views.{GroupView, joined}
use Rattle.tier_view.specs.Whole.{IsWhole}
use Rattle.tier_view.specs.declared.parts.Pending.{Pending}

-- a sound pair has the memory's epoch of the base
spelled_epoch : (start : Store) (m : Memory) (z : TwoMaps) (e : ℕ) → Spells start m z → IsAtEpoch e z.base → e ≡ m.net.base_epoch
spelled_epoch start m z e k at = epoch_one (fin.get z.base epoch_key) e m.net.base_epoch at k.based.is_epoch

doubted_epoch : (start : Store) (m : Memory) (z : TwoMaps) (e : ℕ) (p : Option Pending) → e ≢ m.net.base_epoch → IsOtherThan e p → IsAtEpoch e z.base → SpellsAny start m (option_map doubt_in p) z → ⊥
doubted_epoch start m z e None other than at k = k
doubted_epoch start m z e (Some (Pending.Plain pool name)) other than at k = k
doubted_epoch start m z e (Some (Pending.Act pool first a seq)) other than at k = other (spelled_epoch start _ z e k.1 at)
doubted_epoch start m z e (Some (Pending.Epoch Cache n)) other than at k = other (spelled_epoch start _ z e k at)
doubted_epoch start m z e (Some (Pending.Epoch Base n)) other than at k = than (spelled_epoch start _ z e k at)

pub tells_no_other : (v : GroupView) (s : StoreView) (e : ℕ) → IsWhole v → Among v.stores.base s → Has s (IsAtEpoch e) → e ≢ v.standing.base_epoch → IsOtherThan e v.stores.pending → BothTell (joined v) → ⊥
tells_no_other v s e h among has other than tells =
    let x : (t : Table) × IsLeft v.stores.cache t = some_left v.stores.cache tells.0 in
    let y : (t : Table) × IsLeft s t = some_left s ((tells_on v.stores.base s _ among).0 tells.1) in
    let z : TwoMaps = record { cache = x.0; base = y.0 } in
    let b = h.began tells in
    let was : IsLeft v.stores.base y.0 = among_since v.stores.base s among y.0 (now_since v.stores.base s _ among y.0 y.1) in
    elim (b.1.pools.holds z (x.1, was)) [
      | inl k ↦ other (spelled_epoch b.0 (joined v).memory z e k (has y.0 y.1))
      | inr k ↦ doubted_epoch b.0 (joined v).memory z e v.stores.pending other than (has y.0 y.1) k
    ]
