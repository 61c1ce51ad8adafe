-- The laws of memory and the wire alone.
use Rattle.std.proofs.Common.{◌≡◌, ◌≢◌, ◌≤◌, ℕ, ◌+◌, Bool, true, false, [], Some, None, refl, sym, ap, subst, ◌∙◌, arith, inl, inr}
use Rattle.std.specs.Prelude.{if◌then◌else◌, nat_lt}
use Rattle.std.specs.FinMap as fin
use Rattle.std.proofs.lemmas.Bool.{ltb-true}
use Rattle.obj_model.specs.Names.{name_cmp}
use Rattle.obj_model.specs.declared.state.NameState.{NameState}
use Rattle.tier_types.specs.Flights.{HasOpid, name_asked}
use Rattle.tier_types.specs.Serving.{Served, in_epoch, replies, served}
use Rattle.tier_protocol.specs.Tiers.{Name, Flight, BaseMsg, BaseReply, Phase, Flights, Net}
use Rattle.tier_protocol.specs.Memory.{IsGiven, IsOwn, IsReplied, IsSent, SoundFlight, SoundMemory}
use Rattle.tier_protocol.specs.MemoryLaws.{AnsweringKeepsMemory, GatheringKeepsMemory, RaisingKeepsMemory, ReplyingKeepsMemory, StartingKeepsMemory, StartingMemory, StoppingKeepsMemory, TellingKeepsMemory}
use Rattle.tier_protocol.specs.Moves.{reads_with, set_at}
use Rattle.tier_protocol.proofs.Memory.{flight_begun, flight_gathered, flight_read, free_as, memory_at, memory_begun, memory_fenced, memory_found, memory_raised, memory_replied, memory_sent, memory_stopped, memory_unfenced, old_or_new}

pub starting : StartingMemory
starting e f = record {
  wire = record {
    begun = λ down. absurd (down refl);
    fenced = λ x. absurd (cc);
    from_one = omega arith;
    sent = λ m on. absurd on;
    replied = λ p on. absurd on;
  };
  apart = λ n m op has have.
      absurd (subst (λ x. HasOpid x op) (fin.get-empty {X = Flight} name_cmp n) has);
  each = λ n. free_as n (fin.get fin.empty n) (nothing e f) (nothing e f)
      (fin.get-empty {X = Flight} name_cmp n);
}
  where
    nothing : (cache_epoch base_epoch : ℕ) → Net
    nothing cache_epoch base_epoch = record {
      wire = [];
      replies = [];
      cache_epoch = cache_epoch;
      base_epoch = base_epoch;
      next_opid = 1;
      phase = Phase.Down;
      fenced = false;
    }

-- ---- what the base replies

-- whatever epoch the base has
by_epoch : (net : Net) (have e : ℕ) (done : Served) → IsReplied net done.reply
    → IsReplied net (in_epoch have e done).reply
by_epoch net have e done given = by (nat_lt e have) (nat_lt have e) refl refl
  where
    by : (b c : Bool) → nat_lt e have ≡ b → nat_lt have e ≡ c
        → IsReplied net (if b then replies have (BaseReply.OldEpoch have e)
        else if c then replies have (BaseReply.NotFenced have e) else done).reply
    by true c lt gt = ltb-true e have lt
    by false true lt gt = ltb-true have e gt
    by false false lt gt = given

fence_by : (net : Net) (have e : ℕ) → e ≤ net.cache_epoch → (b : Bool) → nat_lt e have ≡ b
    → IsReplied net (if b then replies have (BaseReply.OldEpoch have e)
    else replies e (BaseReply.Fenced e)).reply
fence_by net have e sent true lt = ltb-true e have lt
fence_by net have e sent false lt = sent

reply_given : (net : Net) (m : BaseMsg) (have : ℕ) (s : NameState) → IsSent net m
    → IsReplied net (served have s m).reply
reply_given net (BaseMsg.Fence e) have s sent = fence_by net have e sent (nat_lt e have) refl
reply_given net (BaseMsg.GetChunk e op k at) have s sent = by_epoch net have e _ sent
reply_given net (BaseMsg.Look e op k v) have s sent = by_epoch net have e _ sent
reply_given net (BaseMsg.Write e op r) have s sent = by_epoch net have e _ sent
reply_given net (BaseMsg.Install e op k x) have s sent = by_epoch net have e _ sent

same_given : (net : Net) (e : ℕ) (p : BaseReply) → IsReplied net p
    → IsReplied (record net { base_epoch = e }) p
same_given net e (BaseReply.Fenced f) h = h
same_given net e (BaseReply.Chunk f op x) h = h
same_given net e (BaseReply.Looked f op l) h = h
same_given net e (BaseReply.Wrote f op a) h = h
same_given net e (BaseReply.Installed f op m) h = h
same_given net e (BaseReply.NoSpace f op used need limit) h = h
same_given net e (BaseReply.OldEpoch have got) h = h
same_given net e (BaseReply.NotFenced have got) h = h

pub answering : AnsweringKeepsMemory
answering flights net m have s h on =
    memory_replied flights (record net { base_epoch = (served have s m).epoch })
    (served have s m).reply
    (memory_fenced flights net (served have s m).epoch h)
    (same_given net (served have s m).epoch (served have s m).reply
    (reply_given net m have s (h.wire.sent m on)))

pub replying : ReplyingKeepsMemory
replying flights net p e h given =
    (memory_replied flights net p h given, memory_fenced flights net e h)

-- ---- work

pub gathering : GatheringKeepsMemory
gathering flights net k call op gather more ask h f =
    memory_at flights net k (Some (Flight.Promote call op more ask)) h
    (flight_gathered k net call op gather more ask (subst (λ x. SoundFlight k x net) f (h.each k)))
    (λ o has. subst (λ x. HasOpid x o) (sym f) has)

pub starts : StartingKeepsMemory
starts flights net k (Flight.Promote call o gather ask) h up may =
    memory_begun flights net k (Flight.Promote call o gather ask) h (λ op has. inr (has ∙ may.1))
    (flight_begun k (Flight.Promote call o gather ask) net h.wire up (λ op has. has ∙ may.1)
    (λ d w op r e. absurd (cc))
    (λ c op g a e. let same : ask ≡ a = cc in subst (λ x. name_asked x ≡ k) same may.2)
    (λ list e. absurd (cc)))
starts flights net k (Flight.Write driver owner o r) h up may =
    memory_begun flights net k (Flight.Write driver owner o r) h (λ op has. inr (has ∙ may.1))
    (flight_begun k (Flight.Write driver owner o r) net h.wire up (λ op has. has ∙ may.1)
    (λ d w op q e. let same : r ≡ q = cc in subst (λ x. x.name ≡ k) same may.2)
    (λ c op g a e. absurd (cc)) (λ list e. absurd (cc)))
starts flights net k (Flight.Reads list) h up may =
    subst
    (λ l. SoundMemory (set_at flights k (Some (Flight.Reads l)))
    (record net { next_opid = net.next_opid + 1 }))
    (sym may.1.2)
    (memory_begun flights net k (Flight.Reads (reads_with (fin.get flights k) may.1.0)) h
    (λ op has. elim (old_or_new (fin.get flights k) may.1.0 op has) [
      | inl old ↦ inl old
      | inr is ↦ inr (is ∙ may.1.1)
    ])
    (flight_read k (fin.get flights k) net may.1.0 (h.each k) h.wire up may.0 may.1.1))
starts flights net k (Flight.Flush call o seq blocking drain) h up may =
    memory_begun flights net k (Flight.Flush call o seq blocking drain) h (λ op has. inr (has
    ∙ may.1))
    (flight_begun k (Flight.Flush call o seq blocking drain) net h.wire up (λ op has. has ∙ may.1)
    (λ d w op r e. absurd (cc)) (λ c op g a e. absurd (cc)) (λ list e. absurd (cc)))

-- a message of work that stands is given out
given_in : (flights : Flights) (net : Net) (k : Name) (op : ℕ) → SoundMemory flights net
    → HasOpid (fin.get flights k) op → fin.get flights k ≢ None → IsGiven net net.cache_epoch op
given_in flights net k op h has busy =
    let up : net.phase ≡ Phase.Up = (h.each k).up busy in
    record {
      begun = omega arith;
      silent = λ raised. absurd (cc);
      counted = λ same. ((h.each k).counted op has).1;
    }

pub tells : TellingKeepsMemory
tells flights net (BaseMsg.Fence e) h may =
    memory_sent flights net (BaseMsg.Fence e) h (omega (arith, may)) (λ n. tt)
tells flights net (BaseMsg.GetChunk e op k at) h may =
    let f : fin.get flights k ≡ Some (Flight.Promote may.1.0 op may.1.1 may.1.2) = may.1.3 in
    let has : HasOpid (fin.get flights k) op = subst (λ f. HasOpid f op) (sym f) refl in
    memory_sent flights net (BaseMsg.GetChunk e op k at) h
    (subst (λ i. IsGiven net i op) (sym may.0) (given_in flights net k op h has (λ free. absurd
    (cc))))
    (λ n. λ now have.
    subst (λ x. IsOwn x (fin.get flights x) net.cache_epoch (BaseMsg.GetChunk e op k at))
    (h.apart k n op has have) (own f) now have)
  where
    own : fin.get flights k ≡ Some (Flight.Promote may.1.0 op may.1.1 may.1.2)
        → IsOwn k (fin.get flights k) net.cache_epoch (BaseMsg.GetChunk e op k at)
    own f = subst (λ x. IsOwn k x net.cache_epoch (BaseMsg.GetChunk e op k at)) (sym f)
        (λ now have. refl)
tells flights net (BaseMsg.Look e op k v) h may =
    let f : fin.get flights k ≡ Some (Flight.Reads may.1.0) = may.1.2 in
    let has : HasOpid (fin.get flights k) op =
    subst (λ f. HasOpid f op) (sym f) (may.1.1, may.1.3, sym may.1.4) in
    memory_sent flights net (BaseMsg.Look e op k v) h
    (subst (λ i. IsGiven net i op) (sym may.0) (given_in flights net k op h has (λ free. absurd
    (cc))))
    (λ n. λ now have.
    subst (λ x. IsOwn x (fin.get flights x) net.cache_epoch (BaseMsg.Look e op k v))
    (h.apart k n op has have) (own f) now have)
  where
    own : fin.get flights k ≡ Some (Flight.Reads may.1.0)
        → IsOwn k (fin.get flights k) net.cache_epoch (BaseMsg.Look e op k v)
    own f =
        subst (λ x. IsOwn k x net.cache_epoch (BaseMsg.Look e op k v)) (sym f)
        (λ now have. (
          refl,
          λ r on same.
              ap (λ x. x.vector) ((h.each k).single may.1.0 r may.1.1 f on may.1.3
              (same ∙ sym may.1.4))
              ∙ may.1.5,
        ))
tells flights net (BaseMsg.Write e op r) h may =
    let f : fin.get flights r.name ≡ Some (Flight.Write may.1.0 may.1.1 op r) = may.1.2 in
    let has : HasOpid (fin.get flights r.name) op = subst (λ f. HasOpid f op) (sym f) refl in
    memory_sent flights net (BaseMsg.Write e op r) h
    (subst (λ i. IsGiven net i op) (sym may.0) (given_in flights net r.name op h has (λ free. absurd
    (cc))))
    (λ n. λ now have.
    subst (λ x. IsOwn x (fin.get flights x) net.cache_epoch (BaseMsg.Write e op r))
    (h.apart r.name n op has have) (own f) now have)
  where
    own : fin.get flights r.name ≡ Some (Flight.Write may.1.0 may.1.1 op r)
        → IsOwn r.name (fin.get flights r.name) net.cache_epoch (BaseMsg.Write e op r)
    own f = subst (λ x. IsOwn r.name x net.cache_epoch (BaseMsg.Write e op r)) (sym f)
        (λ now have. refl)
tells flights net (BaseMsg.Install e op k s) h may =
    let f : fin.get flights k ≡ Some (Flight.Flush may.1.0 op may.1.1 may.1.2 may.1.3) = may.1.4 in
    let has : HasOpid (fin.get flights k) op = subst (λ f. HasOpid f op) (sym f) refl in
    memory_sent flights net (BaseMsg.Install e op k s) h
    (subst (λ i. IsGiven net i op) (sym may.0) (given_in flights net k op h has (λ free. absurd
    (cc))))
    (λ n. λ now have.
    subst (λ x. IsOwn x (fin.get flights x) net.cache_epoch (BaseMsg.Install e op k s))
    (h.apart k n op has have) (own f) now have)
  where
    own : fin.get flights k ≡ Some (Flight.Flush may.1.0 op may.1.1 may.1.2 may.1.3)
        → IsOwn k (fin.get flights k) net.cache_epoch (BaseMsg.Install e op k s)
    own f = subst (λ x. IsOwn k x net.cache_epoch (BaseMsg.Install e op k s)) (sym f)
        (λ now have. refl)

-- ---- stops and starts

pub stops : StoppingKeepsMemory
stops flights net h = (memory_stopped flights net h, memory_unfenced flights net h)

pub raises : RaisingKeepsMemory
raises flights net e h down later =
    (memory_raised flights net e h down later, memory_found flights net e h down later)
