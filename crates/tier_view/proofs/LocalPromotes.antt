-- A promotion ends, and its request acts at once, in one commit.
use Rattle.std.proofs.Common.{◌≡◌, inl, ℕ, false, List, length, Option, Some, None, Ok, Err, refl, sym, ap, subst, ◌∙◌}
use Rattle.std.specs.FinMap as fin
use Rattle.std.specs.Option.{option_map}
use Rattle.copy_chunk.specs.declared.chunk.Chunk.{Chunk}
use Rattle.obj_model.specs.declared.change.Change.{Change}
use Rattle.obj_model.specs.declared.change.Pool.TheVariants.{Cache}
use Rattle.obj_model.specs.declared.reply.Reply.{Reply}
use Rattle.obj_model.specs.declared.req.Req.{Req}
use Rattle.obj_model.specs.declared.state.NameState.{NameState}
use Rattle.obj_ops.specs.Stores.{Store, state_of}
use Rattle.pool_keys.specs.Keys.{record_key}
use Rattle.pool_keys.specs.Maps.{SpellsCache}
use Rattle.store_face.specs.Calls.{Committed}
use Rattle.store_face.specs.Views.{StoreView}
use Rattle.store_face.specs.declared.fault.StoreFault.TheVariants.{Disk, BadImage, NoSpace, Worn, NoMemory}
use Rattle.tier_chron.specs.Places.{behind}
use Rattle.tier_chron.specs.declared.entries.Act.{Act}
use Rattle.tier_chron.specs.declared.entries.First.{First}
use Rattle.tier_join.specs.Group.{Memory, TwoMaps, View, AreLeft, changed_in, tier_of, with_act}
use Rattle.tier_join.specs.Promises.{Promises, with_req}
use Rattle.tier_join.specs.Steps.{Outcome, behind as left_behind, sets, unless_disk}
use Rattle.tier_join.specs.declared.doubt.Doubt.{Doubt}
use Rattle.tier_join.proofs.CacheSteps.{promoting_acts_promises}
use Rattle.tier_join.proofs.Keys.{cache_with, set_is}
use Rattle.tier_owners.proofs.Acting.{acting_owned}
use Rattle.tier_owners.proofs.Quiets.{promoting_quiet}
use Rattle.tier_protocol.specs.Moves.{MayActHere, MayPromote, promoted, set_at}
use Rattle.tier_protocol.specs.Owners.{Ledger, with_call_act}
use Rattle.tier_protocol.specs.Sound.{IsSound}
use Rattle.tier_protocol.specs.Tiers.{Ask, Flight, Flights, Phase, Recs, Tier, TierRec}
use Rattle.tier_protocol.proofs.Cells.{get_here, get_there}
use Rattle.tier_protocol.proofs.Owners.{quiet_keeps}
use Rattle.tier_protocol.proofs.Steps.{acting, promoting}
use Rattle.tier_rec.specs.Records.{acted_record}
use Rattle.tier_types.specs.Flights.{HasOpid, is_write, lets_write}
use Rattle.tier_view.specs.Calls.{Flown}
use Rattle.tier_view.specs.Changes.{gone_in}
use Rattle.tier_view.specs.Grows.{Extends, HaveCome, Remains}
use Rattle.tier_view.specs.Laws.{Keeps}
use Rattle.tier_view.specs.Locals.{ActsOn, PromotesHere, PromotingActsHereKeeps, PutsRec, acted_promoting, with_cache}
use Rattle.tier_view.specs.Stores.{doubt_in}
use Rattle.tier_view.specs.Tables.{SoundFlights}
use Rattle.tier_view.specs.Views.{GroupView, act_in, joined, ledger_in}
use Rattle.tier_view.specs.Whole.{IsWhole}
use Rattle.tier_view.specs.Worlds.{IsOwned}
use Rattle.tier_view.proofs.LocalActSteps.{acted_made, acted_rests, acted_torn, free_to_act}
use Rattle.tier_view.proofs.LocalPuts.{freed_owned, one_promotion}
use Rattle.tier_view.proofs.LocalWork.{flown_gone, one_number, work_gone}

module _ (v : GroupView) (call line : ℕ) (q : Req) (waiter op : ℕ) (gather : List Chunk) (ask : Ask) (b t : NameState) (answer : Reply) (first : Option First) (old : Option TierRec) (moment : ℕ) (o : Option (List ℕ))
    (s : StoreView) (h : IsWhole v) (none : v.stores.pending ≡ None) (w : PromotesHere v q.name waiter op gather ask b) (a : ActsOn v call line q b t answer first) where
  abbrev A : Act
  A = record { call = call; line = line; req = q; reply = answer }

  abbrev Mem : Memory
  Mem = (joined v).memory

  abbrev Gone : Flights
  Gone = set_at v.traffic.flights q.name None

  abbrev Rest : Memory
  Rest = record Mem { flights = Gone }

  abbrev L : Ledger
  L = ledger_in v

  abbrev New : TierRec
  New = acted_record t moment

  abbrev Clean : TierRec
  Clean = record { state = b; dirty = false; mtime = moment }

  abbrev Cs : List Change
  Cs = sets (record_key q.name) o

  abbrev Flew : List Flown
  Flew = gone_in (length v.log.answers) op v.calls.flown

  gone_sound : SoundFlights v.calls.entries Flew Gone v.traffic.begun v.standing.cache_epoch (length v.log.answers)
  gone_sound = work_gone v.calls.entries v.traffic.flights v.traffic.begun v.standing.cache_epoch (length v.log.answers) op q.name h.memory.sound.apart
      (subst (λ x. HasOpid x op) (sym w.flight) refl) (one_number v.traffic.flights q.name (Flight.Promote waiter op gather ask) op (one_promotion waiter op gather ask) w.flight) v.calls.flown h.flights

  gone_work : Extends (Remains (length v.log.answers) (length v.log.answers)) (HaveCome v.calls.entries v.calls.entries (length v.log.answers) v.standing v.standing) v.calls.flown Flew
  gone_work = flown_gone (length v.log.answers) op (HaveCome v.calls.entries v.calls.entries (length v.log.answers) v.standing v.standing) v.calls.flown (inl (refl, refl))

  kept : (start : Store) (z : TwoMaps) → AreLeft (joined v) z → IsOwned start Mem L z → IsOwned start Rest L z
  kept start z i k = freed_owned v q.name (ap is_write w.flight) start z k

  module _ (result : Outcome) (puts : PutsRec v q.name old (Some New) o s result) where
    promised_so : (u : View) → u.cache ≡ s → u ≡ left_behind Cache (with_act q Rest) (unless_disk Rest Mem) (Doubt.Act Cache q t.seq) result (joined v) u → Promises (with_req q) (joined v) u
    promised_so u at same =
        promoting_acts_promises (joined v) u q waiter op gather ask b t answer moment o result (ap (option_map doubt_in) none) (record { flight = w.flight; whole = w.whole }) a.acts puts.named puts.spelled
        (record { committed = subst (λ x. Committed Cs v.stores.cache x result) (sym at) puts.committed; same = same })

    module _ (start : Store) (z : TwoMaps) (i : AreLeft (joined v) z) (k : IsOwned start Mem L z) where
      abbrev T : Tier
      T = tier_of start Mem k.spells.recs k.spells.base

      -- the pair with the clean record
      abbrev U : Tier
      U = promoted q.name b moment T

      abbrev Recs2 : Recs
      Recs2 = fin.insert (fin.insert k.spells.recs q.name Clean) q.name New

      there : MayPromote T q.name waiter op gather ask b
      there = record { flight = w.flight; whole = w.whole }

      came : IsSound U
      came = (promoting T q.name waiter op gather ask b moment k.spells.sound there).0

      up : Mem.net.phase ≡ Phase.Up
      up = (k.spells.sound.memory.each q.name).up (λ free. let f = w.flight in absurd (cc))

      here : MayActHere U Clean q t answer
      here = record {
        up = up;
        rec = get_here k.spells.recs q.name (Some Clean);
        lets = ap lets_write (get_here v.traffic.flights q.name None);
        acts = a.acts;
      }

      acted_owned : IsOwned start (with_act q Rest) (with_call_act (act_in A) L) (changed_in Cache Cs z)
      acted_owned = record {
        spells = record {
          recs = Recs2;
          base = k.spells.base;
          cached = subst (λ x. SpellsCache x Recs2 Mem.net.cache_epoch) (sym (set_is z.cache (record_key q.name) o))
              (cache_with z.cache k.spells.recs Recs2 Mem.net.cache_epoch q.name o (Some New)
              (record {
                here = get_here (fin.insert k.spells.recs q.name Clean) q.name (Some New);
                there = λ n ne. get_there (fin.insert k.spells.recs q.name Clean) q.name (Some New) n ne ∙ get_there k.spells.recs q.name (Some Clean) n ne;
              }) puts.spelled puts.named k.spells.cached);
          based = k.spells.based;
          sound = acting U Clean q t answer moment came here;
        };
        owners = acting_owned U L Clean q t answer moment call line came (quiet_keeps T U L k.owners (promoting_quiet T q.name b moment)) here a.asked (free_to_act v h call line q b t answer first a);
      }

      plain_here : state_of (behind start v.log.acts) q.name ≡ b
      plain_here = sym (promoting T q.name waiter op gather ask b moment k.spells.sound there).1

  by_result : (result : Outcome) → PutsRec v q.name old (Some New) o s result → Keeps (with_req q) None v (acted_promoting op first A old t moment s result v)
  by_result (Ok done) puts =
      acted_made v call line q old b t answer first moment o s Gone Flew h none a gone_sound gone_work
      (acted_owned (Ok done) puts) kept (plain_here (Ok done) puts) done puts (promised_so (Ok done) puts)
  by_result (Err Disk) puts =
      acted_torn v call line q old b t answer first moment o s Gone Flew h none a gone_sound gone_work
      (acted_owned (Err Disk) puts) kept (plain_here (Err Disk) puts) puts (promised_so (Err Disk) puts)
  by_result (Err (BadImage at)) puts = absurd puts.committed
  by_result (Err (NoSpace used need limit)) puts = acted_rests v h none q s puts.committed.1 (promised_so (Err (NoSpace used need limit)) puts (joined (with_cache s None v)) refl refl)
  by_result (Err (Worn limit)) puts = acted_rests v h none q s puts.committed.3 (promised_so (Err (Worn limit)) puts (joined (with_cache s None v)) refl refl)
  by_result (Err NoMemory) puts = acted_rests v h none q s puts.committed (promised_so (Err NoMemory) puts (joined (with_cache s None v)) refl refl)

pub promoting_acts_here_keeps : PromotingActsHereKeeps
promoting_acts_here_keeps v call line q waiter op gather ask b t answer first old moment o s result h none w a puts = by_result v call line q waiter op gather ask b t answer first old moment o s h none w a result puts
