-- A Fence is sent, and its Fenced is heard.
use Rattle.std.proofs.Common.{◌≡◌, ◌≢◌, ◌<◌, inl, inr, ℕ, ◌+◌, List, [], ◌∷◌, Option, Some, None, refl, sym, ap, subst, ◌∙◌, true≢false, arith}
use Rattle.std.specs.Option.{option_map}
use Rattle.obj_model.specs.declared.change.Pool.{Pool}
use Rattle.obj_model.specs.declared.change.Pool.TheVariants.{Base, Cache}
use Rattle.obj_ops.specs.Stores.{Store}
use Rattle.tier_chron.proofs.Lists.{all_imply}
use Rattle.tier_join.specs.Group.{EpochIsNext, Memory, TwoMaps, tier_of, with_act, with_epoch}
use Rattle.tier_join.specs.Promises.{as_it_is}
use Rattle.tier_join.specs.Steps.{after, with_doubt}
use Rattle.tier_join.proofs.MemorySteps.{going_up_promises, sending_promises}
use Rattle.tier_owners.proofs.Quiets.{quiet_up}
use Rattle.tier_owners.proofs.Sending.{sending_owned}
use Rattle.tier_protocol.specs.Moves.{MayGoUp, went_up}
use Rattle.tier_protocol.specs.Owners.{Ledger, with_call_act}
use Rattle.tier_protocol.specs.Tiers.{BaseMsg, Phase, Tier, IsIn}
use Rattle.tier_protocol.proofs.Owners.{quiet_keeps}
use Rattle.tier_protocol.proofs.Steps.{going_up, sending}
use Rattle.tier_view.specs.Calls.{IsInFlight}
use Rattle.tier_view.specs.Laws.{Keeps}
use Rattle.tier_view.specs.Starts.{HearingFencedKeeps, HearsFenced, SendingFencesKeeps, fence_sent, gone_up}
use Rattle.tier_view.specs.Stores.{Pending, doubt_in}
use Rattle.tier_view.specs.Traffic.{Awaited, Begun, Replied, replies_of}
use Rattle.tier_view.specs.Views.{GroupView, act_in, joined, ledger_in}
use Rattle.tier_view.specs.Whole.{IsWhole, SoundTraffic}
use Rattle.tier_view.specs.Worlds.{IsOwned}
use Rattle.tier_view.proofs.Beginning.{owned_surely, surely_owned}
use Rattle.tier_view.proofs.StartingRests.{by_worlds, rests_keeps}

-- ---- a Fence is sent

module _ (v : GroupView) (line call : Option ℕ) (h : IsWhole v) (none : v.stores.pending ≡ None) (up : v.standing.phase ≢ Phase.Down) where
  abbrev F : BaseMsg
  F = BaseMsg.Fence v.standing.cache_epoch

  abbrev W : GroupView
  W = fence_sent line call v

  one_sent : (start : Store) (z : TwoMaps) → IsOwned start (joined v).memory (ledger_in v) z → IsOwned start (joined W).memory (ledger_in W) z
  one_sent start z k =
      let t : Tier = tier_of start (joined v).memory k.spells.recs k.spells.base in
      record {
        spells = record { recs = k.spells.recs; base = k.spells.base; cached = k.spells.cached; based = k.spells.based; sound = sending t F k.spells.sound (refl, up) };
        owners = sending_owned t (ledger_in v) F k.spells.sound k.owners (refl, up) refl;
      }

  sound : SoundTraffic v.calls.entries W.traffic
  sound = record {
    messages = (omega arith, h.traffic.messages);
    replies = h.traffic.replies;
    answers = all_imply {X = Replied} (λ r. r.answers < v.traffic.next_message) (λ r. r.answers < v.traffic.next_message + 1) (λ r le. omega (arith, le)) v.traffic.replies h.traffic.answers;
    owned = (refl, h.traffic.owned);
    begun = all_imply {X = Begun} (λ b. b.message < v.traffic.next_message) (λ b. b.message < v.traffic.next_message + 1) (λ b le. omega (arith, le)) v.traffic.begun h.traffic.begun;
    awaited = all_imply {X = Awaited} (λ a. IsInFlight v.calls.entries a.call × (a.message < v.traffic.next_message)) (λ a. IsInFlight v.calls.entries a.call × (a.message < v.traffic.next_message + 1))
        (λ a k. (k.0, omega (arith, k.1))) v.traffic.awaited h.traffic.awaited;
  }

  fence_keeps : Keeps as_it_is None v W
  fence_keeps =
      rests_keeps v h v.stores.base_stopped W.traffic W.standing as_it_is
      (sending_promises (joined v) (joined W) F None (ap (option_map doubt_in) none) tt (refl, up) (record { cache = refl; base = refl; doubt = refl }) refl)
      (λ start b z k. owned_surely start W z none (one_sent start z (surely_owned start v z none k)))
      refl refl h.flights sound (record { cache = h.stops.cache; base = h.stops.base })

pub sending_fences_keeps : SendingFencesKeeps
sending_fences_keeps v line call h none up = fence_keeps v line call h none up

-- ---- Fenced is heard

among_replies : (rs : List Replied) (r : Replied) → IsIn r rs → IsIn r.reply (replies_of rs)
among_replies [] r on = absurd on
among_replies (x ∷ rs) r (inl same) = inl (ap (λ y. y.reply) same)
among_replies (x ∷ rs) r (inr on) = inr (among_replies rs r on)

one_up : (start : Store) (m : Memory) (l : Ledger) (z : TwoMaps) → MayGoUp m.net → IsOwned start m l z → IsOwned start (after went_up m) l z
one_up start m l z may k =
    let t : Tier = tier_of start m k.spells.recs k.spells.base in
    record {
      spells = record { recs = k.spells.recs; base = k.spells.base; cached = k.spells.cached; based = k.spells.based; sound = (going_up t k.spells.sound (record { raised = may.raised; reply = may.reply })).0 };
      owners = quiet_keeps t (went_up t) l k.owners (quiet_up t);
    }

module _ (v : GroupView) (r : Replied) (h : IsWhole v) (hears : HearsFenced v r) where
  abbrev Mem : Memory
  Mem = (joined v).memory

  may : MayGoUp Mem.net
  may = record {
    raised = hears.raised;
    reply = subst (λ p. IsIn p (replies_of v.traffic.replies)) hears.reply (among_replies v.traffic.replies r hears.on);
  }

  -- while a raise is in doubt the cache is down
  epoch_up : (start : Store) (z : TwoMaps) (pool : Pool) (e : ℕ) → v.stores.pending ≡ Some (Pending.Epoch pool e)
      → IsOwned start (with_epoch pool e Mem) (ledger_in v) z → IsOwned start (with_epoch pool e (after went_up Mem)) (ledger_in v) z
  epoch_up start z Cache e is k =
      let next : EpochIsNext Mem.net (option_map doubt_in (Some (Pending.Epoch Cache e))) = subst (λ o. EpochIsNext Mem.net (option_map doubt_in o)) is h.memory.epochs in
      absurd (hears.raised next.2)
  epoch_up start z Base e is k = one_up start (with_epoch Base e Mem) (ledger_in v) z (record { raised = may.raised; reply = may.reply }) k

  up_keeps : Keeps (with_doubt (joined v).doubt) None v (gone_up v)
  up_keeps =
      rests_keeps v h v.stores.base_stopped v.traffic (gone_up v).standing (with_doubt (joined v).doubt)
      (going_up_promises (joined v) (joined (gone_up v)) may (record { cache = refl; base = refl; doubt = refl }) refl)
      (λ start b z k. by_worlds start Mem (after went_up Mem) (ledger_in v) (ledger_in v) z (one_up start Mem (ledger_in v) z may)
      (λ a. one_up start (with_act a.req Mem) (with_call_act (act_in a) (ledger_in v)) z (record { raised = may.raised; reply = may.reply }))
      v.stores.pending (epoch_up start z) k)
      refl refl h.flights h.traffic
      (record {
        cache = λ stopped. absurd (hears.raised (h.stops.cache stopped));
        base = λ stopped. absurd (true≢false (sym stopped ∙ hears.runs));
      })

pub hearing_fenced_keeps : HearingFencedKeeps
hearing_fenced_keeps v r h hears = up_keeps v r h hears
