-- What always holds of a group that is carried out, behind a step.
use Rattle.std.proofs.Common.{◌≡◌, ◌+◌, Bool, true, false, if◌then◌else◌, length, sym, ap, subst, ◌∙◌}
use Rattle.std.specs.List.{AllByRecursion}
use Rattle.base_pool.specs.Serves.{IsMsg}
use Rattle.base_pool.specs.Views.{BaseView}
use Rattle.store_face.specs.Views.{Sound}
use Rattle.tier_calls.specs.Tables.{TableView}
use Rattle.tier_view.specs.Calls.{Calls}
use Rattle.tier_view.specs.declared.parts.Entry.{Entry}
use Rattle.tier_view.specs.declared.parts.Sent.{Sent}
use Rattle.tier_view.specs.Standing.{Standing}
use Rattle.tier_view.specs.Traffic.{Traffic}
use Rattle.tier_view.specs.Views.{GroupView}
use Rattle.tier_view.specs.Whole.{IsWhole}
use Rattle.tier_core.specs.Keeps.{IsKept, MayBeAsked}
use Rattle.tier_core.specs.Parts.{seen_base}

-- a step that leaves the calls, what is between the pools, and how far the group is started
pub kept_on : (v w : GroupView) (base : BaseView) (table : TableView) → IsKept v base table → IsWhole w → Sound w.stores.cache
    → w.standing ≡ v.standing → w.calls ≡ v.calls → w.traffic ≡ v.traffic → IsKept w base table
kept_on v w base table h whole sound standing calls traffic = record {
  whole = whole;
  cached = sound;
  based = h.based;
  level = λ live. h.level live ∙ ap (λ (s : Standing). s.base_epoch) (sym standing);
  counted = subst (λ (s : Standing). s.next_opid + table.earlier ≡ length w.calls.flown + 1) (sym standing)
      (subst (λ (c : Calls). v.standing.next_opid + table.earlier ≡ length c.flown + 1) (sym calls) h.counted);
  messages = subst (λ (t : Traffic). AllByRecursion (λ (m : Sent). IsMsg m.message) t.messages) (sym traffic) h.messages;
  asked = subst (λ (c : Calls). AllByRecursion (λ (e : Entry). MayBeAsked e.asked) c.entries) (sym calls) h.asked;
}

-- a base that was opened counts as its store
pub seen_opened : (b : BaseView) → b.opened ≡ true → seen_base b ≡ b.store
seen_opened b opened = ap (λ (o : Bool). record b.store { live = if o then b.store.live else false }) opened
