-- A message is sent.
use Rattle.std.proofs.Common.{◌≡◌, ◌<◌, ℕ, ◌+◌, false, List, ◌∷◌, Option, None, refl, sym, subst, true≢false, arith}
use Rattle.std.specs.List.{AllByRecursion}
use Rattle.obj_ops.specs.Stores.{Store}
use Rattle.tier_chron.proofs.Lists.{all_imply}
use Rattle.tier_join.specs.Group.{AreLeft, Spells, TwoMaps, tier_of}
use Rattle.tier_join.specs.Promises.{Promises, as_it_is}
use Rattle.tier_join.specs.Steps.{HasRecFor, seen, subject}
use Rattle.tier_join.proofs.MemorySteps.{sending_promises}
use Rattle.tier_owners.specs.Calls.{is_write_message}
use Rattle.tier_owners.proofs.Sending.{sending_owned}
use Rattle.tier_protocol.specs.Moves.{MaySend, sent}
use Rattle.tier_protocol.specs.Owners.{SoundOwners}
use Rattle.tier_protocol.specs.Tiers.{BaseMsg, Tier, TierRec}
use Rattle.tier_protocol.proofs.Steps.{sending}
use Rattle.tier_view.specs.Answers.{KeepsQuietly}
use Rattle.tier_view.specs.Calls.{IsInFlight}
use Rattle.tier_view.specs.declared.parts.Entry.{Entry}
use Rattle.tier_view.specs.Steps.{sent_now}
use Rattle.tier_view.specs.Traffic.{Traffic, owned_by, owned_in}
use Rattle.tier_view.specs.declared.parts.Awaited.{Awaited}
use Rattle.tier_view.specs.declared.parts.Begun.{Begun}
use Rattle.tier_view.specs.declared.parts.Owner.{Owner}
use Rattle.tier_view.specs.declared.parts.Replied.{Replied}
use Rattle.tier_view.specs.declared.parts.Sent.{Sent}
use Rattle.tier_view.specs.Views.{GroupView, joined, ledger_in}
use Rattle.tier_view.specs.Whole.{HasOwner, IsWhole, SoundTraffic}
use Rattle.tier_view.specs.Worlds.{IsOwned}
use Rattle.tier_view.proofs.Beginning.{owned_surely, surely_owned}
use Rattle.tier_works.proofs.QuietSteps.{no_doubt, promises_as_doubted, quiet_step, same_entries, same_flown}

-- ---- a message that is no Write

pub not_owned : (es : List Entry) (m : BaseMsg) → is_write_message m ≡ false → HasOwner es m None
not_owned es (BaseMsg.Fence e) plain = refl
not_owned es (BaseMsg.GetChunk e op k at) plain = refl
not_owned es (BaseMsg.Look e op k x) plain = refl
not_owned es (BaseMsg.Write e op r) plain = absurd (true≢false plain)
not_owned es (BaseMsg.Install e op k s) plain = refl

pub same_owned : (m : BaseMsg) (ss : List Sent) → is_write_message m ≡ false
    → owned_by m None (owned_in ss) ≡ owned_in ss
same_owned (BaseMsg.Fence e) ss plain = refl
same_owned (BaseMsg.GetChunk e op k at) ss plain = refl
same_owned (BaseMsg.Look e op k x) ss plain = refl
same_owned (BaseMsg.Write e op r) ss plain = absurd (true≢false plain)
same_owned (BaseMsg.Install e op k s) ss plain = refl

-- ---- messages and replies behind it

-- where the flushes that were begun alone are these
pub traffic_sent : (es : List Entry) (t : Traffic) (m : BaseMsg) (o : Option Owner)
    (bs : List Begun) → HasOwner es m o
    → AllByRecursion (λ b. b.message < t.next_message + 1) bs → SoundTraffic es t
    → SoundTraffic es (record t {
      messages = record { number = t.next_message; message = m; owner = o } ∷ t.messages;
      next_message = t.next_message + 1;
      begun = bs;
    })
traffic_sent es t m o bs owned begun h = record {
  messages = (omega arith, h.messages);
  replies = h.replies;
  answers = all_imply {X = Replied} (λ r. r.answers < t.next_message)
      (λ r. r.answers < t.next_message + 1) (λ r le. omega (arith, le)) t.replies h.answers;
  owned = (owned, h.owned);
  begun = begun;
  awaited = all_imply {X = Awaited} (λ a. IsInFlight es a.call × (a.message < t.next_message))
      (λ a. IsInFlight es a.call × (a.message < t.next_message + 1))
      (λ a k. (k.0, omega (arith, k.1))) t.awaited h.awaited;
}

pub begun_later : (next : ℕ) (bs : List Begun) → AllByRecursion (λ b. b.message < next) bs
    → AllByRecursion (λ b. b.message < next + 1) bs
begun_later next bs h =
    all_imply {X = Begun} (λ b. b.message < next) (λ b. b.message < next + 1)
    (λ b le. omega (arith, le)) bs h

-- ---- it is sent

module _ (v : GroupView) (m : BaseMsg) (rec : Option TierRec) (h : IsWhole v)
    (none : v.stores.pending ≡ None) (plain : is_write_message m ≡ false)
    (has : HasRecFor (joined v) m rec) (may : MaySend (seen (joined v).memory (subject m) rec) m)
    (at : (start : Store) (z : TwoMaps) → AreLeft (joined v) z
    → (s : Spells start (joined v).memory z)
    → MaySend (tier_of start (joined v).memory s.recs s.base) m) where
  abbrev W : GroupView
  W = sent_now m None v

  pub sent_promises : Promises as_it_is (joined v) (joined W)
  sent_promises =
      sending_promises (joined v) (joined W) m rec (no_doubt v none) has may
      (record { cache = refl; base = refl; doubt = refl }) refl

  pub sent_owned : (start : Store) (z : TwoMaps) → AreLeft (joined v) z
      → IsOwned start (joined v).memory (ledger_in v) z
      → IsOwned start (joined W).memory (ledger_in W) z
  sent_owned start z i k =
      let t : Tier = tier_of start (joined v).memory k.spells.recs k.spells.base in
      record {
        spells = record {
          recs = k.spells.recs;
          base = k.spells.base;
          cached = k.spells.cached;
          based = k.spells.based;
          sound = sending t m k.spells.sound (at start z i k.spells);
        };
        owners = subst (λ os. SoundOwners (sent m t) (record (ledger_in v) { owned = os }))
            (sym (same_owned m v.traffic.messages plain))
            (sending_owned t (ledger_in v) m k.spells.sound k.owners (at start z i k.spells) plain);
      }

  pub sent_quietly : KeepsQuietly v W
  sent_quietly =
      quiet_step v h v.calls.entries v.calls.flown W.traffic v.agent
      (promises_as_doubted v W none sent_promises)
      (λ start b z i k.
      owned_surely start W z none (sent_owned start z i (surely_owned start v z none k)))
      refl (same_entries v) (same_flown v) refl refl h.flights
      (traffic_sent v.calls.entries v.traffic m None v.traffic.begun
      (not_owned v.calls.entries m plain)
      (begun_later v.traffic.next_message v.traffic.begun h.traffic.begun) h.traffic)
      h.totals
