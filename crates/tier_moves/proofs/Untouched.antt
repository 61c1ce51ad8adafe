-- A call that is not answered leaves all but the cache's store and the doubt.
use Rattle.std.proofs.Common.{◌≡◌, ℕ, List, Option, Some, None, refl, sym, ap, subst, ◌∙◌}
use Rattle.std.specs.Prelude.{Result, Ok, Err}
use Rattle.cache_pool.specs.Puts.{Commits}
use Rattle.cache_pool.specs.declared.fault.CacheFault.{CacheFault}
use Rattle.obj_model.specs.declared.change.Change.{Change}
use Rattle.obj_model.specs.declared.change.Pool.TheVariants.{Cache}
use Rattle.obj_model.specs.declared.req.Req.{Req}
use Rattle.obj_model.specs.declared.state.NameState.{NameState}
use Rattle.obj_ops.specs.Acts.{act}
use Rattle.obj_ops.specs.declared.request.Acted.{Acted}
use Rattle.obj_ops.specs.declared.request.Acted.TheVariants.{Fresh, Again, Stale, Worn}
use Rattle.store_face.specs.Views.{StoreView}
use Rattle.store_face.specs.declared.fault.StoreFault.{StoreFault}
use Rattle.store_face.specs.declared.fault.StoreFault.TheVariants as store
use Rattle.tier_chron.specs.declared.entries.Act.{Act}
use Rattle.tier_chron.specs.declared.entries.First.{First}
use Rattle.tier_chron.specs.declared.entries.Logged.{Logged}
use Rattle.tier_core.specs.Ends.{IsEnded}
use Rattle.tier_core.specs.Serves.{ServesAsk, ServesRead, ServesWrite}
use Rattle.tier_core.specs.Writes.{acted_here}
use Rattle.tier_core.specs.declared.serving.Served.TheVariants as served
use Rattle.tier_core.specs.declared.turns.Turn.{Turn}
use Rattle.tier_moves.proofs.FaultsTold.{IsMet}
use Rattle.tier_types.specs.declared.flight.Ask.{Ask}
use Rattle.tier_types.specs.declared.record.TierRec.{TierRec}
use Rattle.tier_view.specs.Joining.{SameEpoch}
use Rattle.tier_view.specs.Locals.{acted_locally, with_cache}
use Rattle.tier_view.specs.Views.{GroupView}
use Rattle.tier_view.specs.declared.parts.Pending.{Pending}

-- all but the cache's store and the doubt is as it was
pub record Leaves (v w : GroupView) : Type 0 where
  pub store : StoreView
  pub doubt : Option Pending
  pub is : w ≡ with_cache store doubt v

pub leaves_itself : (v w : GroupView) → w ≡ v → Leaves v w
leaves_itself v w is = record { store = v.stores.cache; doubt = v.stores.pending; is = is }

pub leaves_twice : (u v w : GroupView) → Leaves u v → Leaves v w → Leaves u w
leaves_twice u v w h k = record {
  store = k.store;
  doubt = k.doubt;
  is = k.is ∙ ap (with_cache k.store k.doubt) h.is;
}

-- a commit that was not made
acted_leaves : (first : Option First) (a : Act) (r : TierRec) (t : NameState) (moment : ℕ)
    (s : StoreView) (fault : StoreFault) (v w : GroupView)
    → w ≡ acted_locally first a r t moment s (Err fault) v → Leaves v w
acted_leaves first a r t moment s store.Disk v w is =
    record { store = s; doubt = Some (Pending.Act Cache first a t.seq); is = is }
acted_leaves first a r t moment s (store.BadImage at) v w is =
    record { store = s; doubt = None; is = is }
acted_leaves first a r t moment s (store.NoSpace used need limit) v w is =
    record { store = s; doubt = None; is = is }
acted_leaves first a r t moment s (store.Worn limit) v w is =
    record { store = s; doubt = None; is = is }
acted_leaves first a r t moment s store.NoMemory v w is =
    record { store = s; doubt = None; is = is }

commit_met : (changes : List Change) (old new : StoreView) (fault : StoreFault)
    → Commits changes old new (Err fault) → IsMet old.faults new.faults fault
commit_met changes old new store.Disk h = h.committed.fails.rose
commit_met changes old new (store.BadImage at) h = absurd h.committed
commit_met changes old new (store.NoSpace used need limit) h = h.over used need limit refl
commit_met changes old new (store.Worn limit) h = h.committed.2
commit_met changes old new store.NoMemory h = tt

-- what a call that was not committed leaves, and that its fault is so
pub record IsUncommitted (v w : GroupView) (fault : StoreFault) : Type 0 where
  pub leaves : Leaves v w
  pub met : IsMet v.stores.cache.faults w.stores.cache.faults fault

lacking_memory : (v w : GroupView) (fault : StoreFault) → fault ≡ store.NoMemory → w ≡ v
    → IsUncommitted v w fault
lacking_memory v w fault is same = record {
  leaves = leaves_itself v w same;
  met = subst (IsMet v.stores.cache.faults w.stores.cache.faults) (sym is) tt;
}

write_uncommitted : (turn : Turn) (req : Req) (held : TierRec) (acted : Acted)
    (fault : StoreFault) (v w : GroupView) → ServesWrite turn req held acted v w (Err fault)
    → IsUncommitted v w fault
write_uncommitted turn req held (Fresh state given) fault v w h = record {
  leaves = acted_leaves _ _ held state v.agent.moment w.stores.cache fault v w h.written;
  met = commit_met _ v.stores.cache w.stores.cache fault h.put;
}
write_uncommitted turn req held (Again given) fault v w h = lacking_memory v w fault h.0 h.1
write_uncommitted turn req held (Stale kept) fault v w h = lacking_memory v w fault h.0 h.1
write_uncommitted turn req held (Worn limit) fault v w h = lacking_memory v w fault h.0 h.1

pub ask_uncommitted : (turn : Turn) (ask : Ask) (held : TierRec) (fault : StoreFault)
    (v w : GroupView) → ServesAsk turn ask held v w (Err fault) → IsUncommitted v w fault
ask_uncommitted turn (Ask.Write req) held fault v w h =
    write_uncommitted turn req held (act held.state req) fault v w h
ask_uncommitted turn (Ask.Read client name vector) held fault v w h =
    lacking_memory v w fault h.0 h.1

-- ---- by what was read

one_unread : (f g : CacheFault) → served.Unread f ≡ served.Unread g → f ≡ g
one_unread f g is = cc

module _ (turn : Turn) (ask : Ask) (v w : GroupView) where
  pub record IsUnread (found : Result (Option TierRec) CacheFault) (fault : CacheFault) : Type 0
    where
      pub found_is : found ≡ Err fault
      pub same : w ≡ v

  pub unread_is : (found : Result (Option TierRec) CacheFault) (fault : CacheFault)
      → ServesRead turn ask found v w (served.Unread fault) → IsUnread found fault
  unread_is (Err f) fault h = record { found_is = ap Err (sym (one_unread fault f h.0)); same = h.1 }
  unread_is (Ok None) fault h = let no : served.Unread fault ≡ served.Absent = h.0 in absurd (cc)
  unread_is (Ok (Some held)) fault h = absurd h

  pub absent_is : (found : Result (Option TierRec) CacheFault)
      → ServesRead turn ask found v w served.Absent → w ≡ v
  absent_is (Err f) h = let no : served.Absent ≡ served.Unread f = h.0 in absurd (cc)
  absent_is (Ok None) h = h.1
  absent_is (Ok (Some held)) h = absurd h

  pub record IsHeld (found : Result (Option TierRec) CacheFault) (fault : StoreFault) : Type 0
    where
      pub held : TierRec
      pub found_is : found ≡ Ok (Some held)
      pub uncommitted : IsUncommitted v w fault

  pub uncommitted_is : (found : Result (Option TierRec) CacheFault) (fault : StoreFault)
      → ServesRead turn ask found v w (served.Uncommitted fault) → IsHeld found fault
  uncommitted_is (Err f) fault h =
      let no : served.Uncommitted fault ≡ served.Unread f = h.0 in absurd (cc)
  uncommitted_is (Ok None) fault h =
      let no : served.Uncommitted fault ≡ served.Absent = h.0 in absurd (cc)
  uncommitted_is (Ok (Some held)) fault h =
      record { held = held; found_is = refl; uncommitted = ask_uncommitted turn ask held fault v w h }

-- ---- a call that was answered leaves the epoch

ended_epoch : (call : ℕ) (answer : Option Logged) (v w : GroupView) → IsEnded call answer v w
    → SameEpoch v w
ended_epoch call answer v w h = ap (λ (x : GroupView). x.standing.cache_epoch) h.is

write_epoch : (turn : Turn) (req : Req) (held : TierRec) (acted : Acted) (v w : GroupView)
    → ServesWrite turn req held acted v w (Ok tt) → SameEpoch v w
write_epoch turn req held (Fresh state given) v w h =
    ended_epoch turn.call _ (acted_here turn req given held state (Ok tt) v w) w h.written
write_epoch turn req held (Again given) v w h = ended_epoch turn.call _ v w h
write_epoch turn req held (Stale kept) v w h = ended_epoch turn.call _ v w h
write_epoch turn req held (Worn limit) v w h = ended_epoch turn.call _ v w h

ask_epoch : (turn : Turn) (ask : Ask) (held : TierRec) (v w : GroupView)
    → ServesAsk turn ask held v w (Ok tt) → SameEpoch v w
ask_epoch turn (Ask.Write req) held v w h =
    write_epoch turn req held (act held.state req) v w h
ask_epoch turn (Ask.Read client name vector) held v w h = ended_epoch turn.call _ v w h

pub answered_epoch : (turn : Turn) (ask : Ask) (v w : GroupView)
    (found : Result (Option TierRec) CacheFault) → ServesRead turn ask found v w served.Answered
    → SameEpoch v w
answered_epoch turn ask v w (Err f) h =
    let no : served.Answered ≡ served.Unread f = h.0 in absurd (cc)
answered_epoch turn ask v w (Ok None) h =
    let no : served.Answered ≡ served.Absent = h.0 in absurd (cc)
answered_epoch turn ask v w (Ok (Some held)) h = ask_epoch turn ask held v w h
