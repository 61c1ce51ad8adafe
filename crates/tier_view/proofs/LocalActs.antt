-- A request acts on a record of the cache, or on what a promotion gathered.
use Rattle.std.proofs.Common.{◌≡◌, inl, ℕ, List, length, Option, Some, None, Ok, Err, refl, sym, ap, subst}
use Rattle.std.specs.FinMap as fin
use Rattle.std.specs.Option.{option_map}
use Rattle.obj_model.specs.declared.change.Change.{Change}
use Rattle.obj_model.specs.declared.change.Pool.TheVariants.{Cache}
use Rattle.obj_model.specs.declared.reply.Reply.{Reply}
use Rattle.obj_model.specs.declared.req.Req.{Req}
use Rattle.obj_model.specs.declared.state.NameState.{NameState}
use Rattle.obj_ops.specs.Stores.{Store, state_of}
use Rattle.pool_keys.specs.Keys.{record_key}
use Rattle.pool_keys.specs.Maps.{SpellsCache}
use Rattle.store_face.specs.Calls.{Committed}
use Rattle.store_face.specs.Views.{StoreView}
use Rattle.store_face.specs.declared.fault.StoreFault.TheVariants.{Disk, BadImage, NoSpace, Worn, NoMemory}
use Rattle.tier_chron.specs.Places.{behind}
use Rattle.tier_chron.specs.declared.entries.Act.{Act}
use Rattle.tier_chron.specs.declared.entries.First.{First}
use Rattle.tier_join.specs.Group.{Memory, TwoMaps, View, AreLeft, changed_in, tier_of, with_act}
use Rattle.tier_join.specs.Promises.{Promises, with_req}
use Rattle.tier_join.specs.Steps.{Outcome, after, behind as left_behind, sets, unless_disk}
use Rattle.tier_join.proofs.CacheSteps.{acting_promises, rec_is}
use Rattle.tier_join.proofs.Keys.{cache_with, set_is}
use Rattle.tier_join.specs.declared.doubt.Doubt.{Doubt}
use Rattle.tier_owners.proofs.Acting.{acting_owned}
use Rattle.tier_protocol.specs.Moves.{MayActHere, acted_here, set_at}
use Rattle.tier_protocol.specs.Owners.{Ledger, with_call_act}
use Rattle.tier_protocol.specs.Tiers.{Tier, TierRec}
use Rattle.tier_protocol.proofs.Cells.{get_here, get_there}
use Rattle.tier_protocol.proofs.Steps.{acting, shown}
use Rattle.tier_rec.specs.Records.{acted_record}
use Rattle.tier_view.specs.Grows.{Extends, HaveCome, Remains}
use Rattle.tier_view.specs.Laws.{Keeps}
use Rattle.tier_view.specs.Locals.{ActingHereKeeps, ActsHere, PutsRec, acted_locally, with_cache}
use Rattle.tier_view.proofs.LocalActSteps.{acted_made, acted_rests, acted_torn, free_to_act}
use Rattle.tier_view.specs.Stores.{doubt_in}
use Rattle.tier_view.specs.Views.{GroupView, act_in, joined, ledger_in}
use Rattle.tier_view.specs.Whole.{IsWhole}
use Rattle.tier_view.specs.Worlds.{IsOwned}
use Rattle.tier_view.proofs.Resting.{extends_same, remains_itself}

-- ---- on a record

module _ (v : GroupView) (call line : ℕ) (q : Req) (r : TierRec) (t : NameState) (answer : Reply) (first : Option First) (moment : ℕ) (o : Option (List ℕ)) (s : StoreView)
    (h : IsWhole v) (none : v.stores.pending ≡ None) (a : ActsHere v call line q r t answer first) where
  abbrev A : Act
  A = record { call = call; line = line; req = q; reply = answer }

  abbrev Mem : Memory
  Mem = (joined v).memory

  abbrev L : Ledger
  L = ledger_in v

  abbrev New : TierRec
  New = acted_record t moment

  abbrev Cs : List Change
  Cs = sets (record_key q.name) o

  same_work : Extends (Remains (length v.log.answers) (length v.log.answers)) (HaveCome v.calls.entries v.calls.entries (length v.log.answers) v.standing v.standing) v.calls.flown v.calls.flown
  same_work = extends_same (Remains (length v.log.answers) (length v.log.answers)) (HaveCome v.calls.entries v.calls.entries (length v.log.answers) v.standing v.standing)
      (remains_itself (length v.log.answers) (length v.log.answers)) v.calls.flown (inl (refl, refl))

  module _ (result : Outcome) (puts : PutsRec v q.name (Some r) (Some New) o s result) where
    promised : (w : View) → w.cache ≡ s → w ≡ left_behind Cache (after (acted_here q t moment) Mem) (unless_disk Mem Mem) (Doubt.Act Cache q t.seq) result (joined v) w → Promises (with_req q) (joined v) w
    promised w at same =
        acting_promises (joined v) w (Some r) r q t answer moment o result (ap (option_map doubt_in) none) puts.has
        (record { up = a.up; rec = get_here {X = TierRec} fin.empty q.name (Some r); lets = a.lets; acts = a.on.acts }) puts.named puts.spelled
        (record { committed = subst (λ x. Committed Cs v.stores.cache x result) (sym at) puts.committed; same = same })

    module _ (start : Store) (z : TwoMaps) (i : AreLeft (joined v) z) (k : IsOwned start Mem L z) where
      abbrev T : Tier
      T = tier_of start Mem k.spells.recs k.spells.base

      here : MayActHere T r q t answer
      here = record { up = a.up; rec = rec_is start (joined v) z q.name (Some r) puts.has i k.spells; lets = a.lets; acts = a.on.acts }

      acted_owned : IsOwned start (with_act q Mem) (with_call_act (act_in A) L) (changed_in Cache Cs z)
      acted_owned = record {
        spells = record {
          recs = set_at k.spells.recs q.name (Some New);
          base = k.spells.base;
          cached = subst (λ x. SpellsCache x (set_at k.spells.recs q.name (Some New)) Mem.net.cache_epoch) (sym (set_is z.cache (record_key q.name) o))
              (cache_with z.cache k.spells.recs (set_at k.spells.recs q.name (Some New)) Mem.net.cache_epoch q.name o (Some New)
              (record { here = get_here k.spells.recs q.name (Some New); there = λ n ne. get_there k.spells.recs q.name (Some New) n ne }) puts.spelled puts.named k.spells.cached);
          based = k.spells.based;
          sound = acting T r q t answer moment k.spells.sound here;
        };
        owners = acting_owned T L r q t answer moment call line k.spells.sound k.owners here a.on.asked (free_to_act v h call line q r.state t answer first a.on);
      }

      plain_here : state_of (behind start v.log.acts) q.name ≡ r.state
      plain_here = sym (shown T q.name r k.spells.sound here.rec)

  by_result : (result : Outcome) → PutsRec v q.name (Some r) (Some New) o s result → Keeps (with_req q) None v (acted_locally first A r t moment s result v)
  by_result (Ok done) puts =
      acted_made v call line q (Some r) r.state t answer first moment o s v.traffic.flights v.calls.flown h none a.on h.flights same_work
      (acted_owned (Ok done) puts) (λ start z i k. k) (plain_here (Ok done) puts) done puts (promised (Ok done) puts)
  by_result (Err Disk) puts =
      acted_torn v call line q (Some r) r.state t answer first moment o s v.traffic.flights v.calls.flown h none a.on h.flights same_work
      (acted_owned (Err Disk) puts) (λ start z i k. k) (plain_here (Err Disk) puts) puts (promised (Err Disk) puts)
  by_result (Err (BadImage at)) puts = absurd puts.committed
  by_result (Err (NoSpace used need limit)) puts = acted_rests v h none q s puts.committed.1 (promised (Err (NoSpace used need limit)) puts (joined (with_cache s None v)) refl refl)
  by_result (Err (Worn limit)) puts = acted_rests v h none q s puts.committed.3 (promised (Err (Worn limit)) puts (joined (with_cache s None v)) refl refl)
  by_result (Err NoMemory) puts = acted_rests v h none q s puts.committed (promised (Err NoMemory) puts (joined (with_cache s None v)) refl refl)

pub acting_here_keeps : ActingHereKeeps
acting_here_keeps v call line q r t answer first moment o s result h none a puts = by_result v call line q r t answer first moment o s h none a result puts
