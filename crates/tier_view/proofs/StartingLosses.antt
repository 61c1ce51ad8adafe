-- Messages, replies, and what is kept for calls are forgotten.
use Rattle.std.proofs.Common.{◌≡◌, ◌<◌, ◌≤◌, inl, inr, ℕ, ◌==◌, cond, not, Bool, true, false, List, [], ◌∷◌, map, filter, Option, Some, None, refl, arith}
use Rattle.std.specs.FinMap as fin
use Rattle.std.specs.List.{AllByRecursion}
use Rattle.obj_model.specs.declared.change.Pool.{Pool}
use Rattle.obj_model.specs.declared.change.Pool.TheVariants.{Base, Cache}
use Rattle.obj_model.specs.declared.req.Req.{Req}
use Rattle.obj_ops.specs.Stores.{Store}
use Rattle.tier_join.specs.Group.{Memory, TwoMaps, tier_of, with_act, with_epoch}
use Rattle.tier_join.specs.Steps.{left_with, with_doubt}
use Rattle.tier_join.proofs.MemorySteps.{losing_promises}
use Rattle.tier_protocol.specs.Moves.{Loses}
use Rattle.tier_protocol.specs.Owners.{Ledger, Owned, SoundOwners, with_call_act}
use Rattle.tier_protocol.specs.Tiers.{BaseMsg, BaseReply, Flight, Tier, AreIn, IsIn}
use Rattle.tier_protocol.proofs.Owners.{losses_quiet, quiet_keeps}
use Rattle.tier_protocol.proofs.Steps.{losing}
use Rattle.tier_types.specs.Flights.{IsLeftOf}
use Rattle.tier_view.specs.Calls.{Entry, IsInFlight}
use Rattle.tier_view.specs.Changes.{unawaited, unnoted}
use Rattle.tier_view.specs.Laws.{Keeps}
use Rattle.tier_view.specs.Standing.{KeptFence}
use Rattle.tier_view.specs.Starts.{AnsweringFencesKeeps, EndingNotesKeeps, EndingWaitsKeeps, LosingMessagesKeeps, LosingRepliesKeeps}
use Rattle.tier_view.specs.Traffic.{Awaited, Noted, Owner, Replied, Sent, Traffic, owned_by, owned_in, replies_of, wire_of}
use Rattle.tier_view.specs.Views.{GroupView, act_in, joined, ledger_in}
use Rattle.tier_view.specs.Whole.{AreNumbered, HasOwner, IsWhole, SoundTraffic}
use Rattle.tier_view.specs.Worlds.{IsOwned}
use Rattle.tier_view.proofs.Resting.{rests_promises}
use Rattle.tier_view.proofs.StartingRests.{by_worlds, rests_keeps}

-- ---- lists with some elements left out

pub all_filter : {X : Type 0} (P : X → Type 0) (p : X → Bool) (xs : List X) → AllByRecursion P xs → AllByRecursion P (filter p xs)
all_filter P p [] h = tt
all_filter P p (x ∷ xs) h = by (p x) (all_filter P p xs h.1)
  where
    by : (b : Bool) → AllByRecursion P (filter p xs) → AllByRecursion P (cond b (x ∷ filter p xs) (filter p xs))
    by true k = (h.0, k)
    by false k = k

pub fewer_mapped : {X Y : Type 0} (f : X → Y) (p : X → Bool) (xs : List X) → AreIn (map f (filter p xs)) (map f xs)
fewer_mapped f p [] y on = on
fewer_mapped f p (x ∷ xs) y on = by (p x) (fewer_mapped f p xs y) on
  where
    by : (b : Bool) → (IsIn y (map f (filter p xs)) → IsIn y (map f xs)) → IsIn y (map f (cond b (x ∷ filter p xs) (filter p xs))) → IsIn y (map f (x ∷ xs))
    by true k (inl same) = inl same
    by true k (inr on) = inr (k on)
    by false k on = inr (k on)

numbered_later : (n next : ℕ) (ns : List ℕ) → n ≤ next → AreNumbered n ns → AreNumbered next ns
numbered_later n next [] le h = tt
numbered_later n next (m ∷ ns) le h = (omega (arith, le, h.0), h.1)

pub numbered_filter : {X : Type 0} (number : X → ℕ) (p : X → Bool) (xs : List X) (next : ℕ) → AreNumbered next (map number xs) → AreNumbered next (map number (filter p xs))
numbered_filter number p [] next h = tt
numbered_filter number p (x ∷ xs) next h = by (p x) (numbered_filter number p xs (number x) h.1)
  where
    by : (b : Bool) → AreNumbered (number x) (map number (filter p xs)) → AreNumbered next (map number (cond b (x ∷ filter p xs) (filter p xs)))
    by true k = (h.0, k)
    by false k = numbered_later (number x) next (map number (filter p xs)) (omega (arith, h.0)) k

-- ---- the Writes that are left, with their owners

behind_owned : (x : Owned) (message : BaseMsg) (o : Option Owner) (rest : List Owned) → IsIn x rest → IsIn x (owned_by message o rest)
behind_owned x (BaseMsg.Write e op r) (Some o) rest on = inr on
behind_owned x (BaseMsg.Write e op r) None rest on = on
behind_owned x (BaseMsg.Fence e) o rest on = on
behind_owned x (BaseMsg.GetChunk e op k at) o rest on = on
behind_owned x (BaseMsg.Look e op k v) o rest on = on
behind_owned x (BaseMsg.Install e op k s) o rest on = on

more_owned : (x : Owned) (message : BaseMsg) (o : Option Owner) (less more : List Owned) → (IsIn x less → IsIn x more) → IsIn x (owned_by message o less) → IsIn x (owned_by message o more)
more_owned x (BaseMsg.Write e op r) (Some o) less more f (inl same) = inl same
more_owned x (BaseMsg.Write e op r) (Some o) less more f (inr on) = inr (f on)
more_owned x (BaseMsg.Write e op r) None less more f on = f on
more_owned x (BaseMsg.Fence e) o less more f on = f on
more_owned x (BaseMsg.GetChunk e op k at) o less more f on = f on
more_owned x (BaseMsg.Look e op k v) o less more f on = f on
more_owned x (BaseMsg.Install e op k s) o less more f on = f on

pub fewer_owned : (p : Sent → Bool) (ss : List Sent) → AreIn (owned_in (filter p ss)) (owned_in ss)
fewer_owned p [] x on = on
fewer_owned p (s ∷ ss) x on = by (p s) (fewer_owned p ss x) on
  where
    by : (b : Bool) → (IsIn x (owned_in (filter p ss)) → IsIn x (owned_in ss)) → IsIn x (owned_in (cond b (s ∷ filter p ss) (filter p ss))) → IsIn x (owned_in (s ∷ ss))
    by true k on = more_owned x s.message s.owner (owned_in (filter p ss)) (owned_in ss) k on
    by false k on = behind_owned x s.message s.owner (owned_in ss) (k on)

-- each Write of the wire is among the owned
abbrev pub AreKnown : List BaseMsg → List Owned → Type 0
AreKnown wire os = (e op : ℕ) (r : Req) → IsIn (BaseMsg.Write e op r) wire → (o : Owned) × IsIn o os × (o.epoch ≡ e) × (o.opid ≡ op) × (o.req ≡ r)

pub all_known : (es : List Entry) (ss : List Sent) → AllByRecursion (λ s. HasOwner es s.message s.owner) ss → AreKnown (wire_of ss) (owned_in ss)
all_known es [] h e op r on = absurd on
all_known es (s ∷ ss) h e op r (inl same) = here s.message s.owner h.0 same
  where
    here : (m : BaseMsg) (w : Option Owner) → HasOwner es m w → BaseMsg.Write e op r ≡ m → (o : Owned) × IsIn o (owned_by m w (owned_in ss)) × (o.epoch ≡ e) × (o.opid ≡ op) × (o.req ≡ r)
    here (BaseMsg.Write i j q) (Some o) has same = (record { epoch = i; opid = j; req = q; call = o.call; line = o.line }, inl refl, cc, cc, cc)
    here (BaseMsg.Write i j q) None has same = absurd has
    here (BaseMsg.Fence i) w has same = absurd (cc)
    here (BaseMsg.GetChunk i j k at) w has same = absurd (cc)
    here (BaseMsg.Look i j k x) w has same = absurd (cc)
    here (BaseMsg.Install i j k x) w has same = absurd (cc)
all_known es (s ∷ ss) h e op r (inr on) = let k = all_known es ss h.1 e op r on in (k.0, behind_owned k.0 s.message s.owner (owned_in ss) k.1, k.2, k.3, k.4)

-- who owns what is left
owners_left : (t : Tier) (l : Ledger) (os : List Owned) → AreIn os l.owned → AreKnown t.net.wire os → SoundOwners t l → SoundOwners t (record l { owned = os })
owners_left t l os less known w = record {
  same = w.same;
  known = known;
  asked = λ o on. w.asked o (less o on);
  given = λ o on. w.given o (less o on);
  reached = λ o on. w.reached o (less o on);
  acted = w.acted;
  once = w.once;
  pending = λ o on wire le. w.pending o (less o on) wire le;
  writing = λ n driver owner op r is. let x = w.writing n driver owner op r is in record {
    line = x.line;
    asked = x.asked;
    pending = x.pending;
    acted = x.acted;
    own = λ o on. x.own o (less o on);
    told = x.told;
  };
}

left_same : (f : Option Flight) → IsLeftOf f f
left_same None = refl
left_same (Some (Flight.Promote call o gather ask)) = refl
left_same (Some (Flight.Write driver owner o r)) = (driver, refl)
left_same (Some (Flight.Reads list)) = (list, refl, λ r on. on)
left_same (Some (Flight.Flush call o seq blocking drain)) = (call, refl)

-- ---- messages and replies

module _ (wire : List BaseMsg) (replies : List BaseReply) (os : List Owned) (known : AreKnown wire os) where
  one_left : (start : Store) (m : Memory) (l : Ledger) (z : TwoMaps) → AreIn wire m.net.wire → AreIn replies m.net.replies → AreIn os l.owned
      → IsOwned start m l z → IsOwned start (left_with m.flights wire replies m) (record l { owned = os }) z
  one_left start m l z fewer less owned k =
      let t : Tier = tier_of start m k.spells.recs k.spells.base in
      let u : Tier = tier_of start (left_with m.flights wire replies m) k.spells.recs k.spells.base in
      let loses : Loses t u = record { same = refl; flights = λ n. left_same (fin.get m.flights n); wire = fewer; replies = less } in
      record {
        spells = record { recs = k.spells.recs; base = k.spells.base; cached = k.spells.cached; based = k.spells.based; sound = losing t u k.spells.sound loses };
        owners = owners_left u l os owned known (quiet_keeps t u l k.owners ((losses_quiet t k.spells.sound).0 u loses));
      }

  epoch_left : (start : Store) (m : Memory) (l : Ledger) (z : TwoMaps) → AreIn wire m.net.wire → AreIn replies m.net.replies → AreIn os l.owned → (pool : Pool) (e : ℕ)
      → IsOwned start (with_epoch pool e m) l z → IsOwned start (with_epoch pool e (left_with m.flights wire replies m)) (record l { owned = os }) z
  epoch_left start m l z fewer less owned Cache e h = one_left start (with_epoch Cache e m) l z fewer less owned h
  epoch_left start m l z fewer less owned Base e h = one_left start (with_epoch Base e m) l z fewer less owned h

module _ (v : GroupView) (h : IsWhole v) (ss : List Sent) (rs : List Replied) where
  abbrev T : Traffic
  T = record v.traffic { messages = ss; replies = rs }

  abbrev Mem : Memory
  Mem = (joined v).memory

  lost_keeps : AreIn (wire_of ss) Mem.net.wire → AreIn (replies_of rs) Mem.net.replies → AreIn (owned_in ss) (owned_in v.traffic.messages) → SoundTraffic v.calls.entries T
      → Keeps (with_doubt (joined v).doubt) None v (record v { traffic = T })
  lost_keeps fewer less owned sound =
      rests_keeps v h v.stores.base_stopped T v.standing (with_doubt (joined v).doubt)
      (losing_promises (joined v) (joined (record v { traffic = T })) Mem.flights (wire_of ss) (replies_of rs) (λ n. left_same (fin.get Mem.flights n)) fewer less
      (record { cache = refl; base = refl; doubt = refl }) refl)
      (λ start b z k. by_worlds start Mem (left_with Mem.flights (wire_of ss) (replies_of rs) Mem) (ledger_in v) (record (ledger_in v) { owned = owned_in ss }) z
      (one_left (wire_of ss) (replies_of rs) (owned_in ss) known start Mem (ledger_in v) z fewer less owned)
      (λ a. one_left (wire_of ss) (replies_of rs) (owned_in ss) known start (with_act a.req Mem) (with_call_act (act_in a) (ledger_in v)) z fewer less owned)
      v.stores.pending (λ pool e is. epoch_left (wire_of ss) (replies_of rs) (owned_in ss) known start Mem (ledger_in v) z fewer less owned pool e) k)
      refl refl h.flights sound (record { cache = h.stops.cache; base = h.stops.base })
    where
      known : AreKnown (wire_of ss) (owned_in ss)
      known = all_known v.calls.entries ss sound.owned

pub losing_messages_keeps : LosingMessagesKeeps
losing_messages_keeps number v h =
    lost_keeps v h (filter (λ s. not (s.number == number)) v.traffic.messages) v.traffic.replies
    (fewer_mapped {X = Sent} {Y = BaseMsg} (λ s. s.message) (λ s. not (s.number == number)) v.traffic.messages) (λ p on. on) (fewer_owned (λ s. not (s.number == number)) v.traffic.messages)
    (record {
      messages = numbered_filter {X = Sent} (λ s. s.number) (λ s. not (s.number == number)) v.traffic.messages v.traffic.next_message h.traffic.messages;
      replies = h.traffic.replies;
      answers = h.traffic.answers;
      owned = all_filter {X = Sent} (λ s. HasOwner v.calls.entries s.message s.owner) (λ s. not (s.number == number)) v.traffic.messages h.traffic.owned;
      begun = h.traffic.begun;
      awaited = h.traffic.awaited;
    })

pub losing_replies_keeps : LosingRepliesKeeps
losing_replies_keeps number v h =
    lost_keeps v h v.traffic.messages (filter (λ r. not (r.number == number)) v.traffic.replies)
    (λ m on. on) (fewer_mapped {X = Replied} {Y = BaseReply} (λ r. r.reply) (λ r. not (r.number == number)) v.traffic.replies) (λ o on. on)
    (record {
      messages = h.traffic.messages;
      replies = numbered_filter {X = Replied} (λ r. r.number) (λ r. not (r.number == number)) v.traffic.replies v.traffic.next_reply h.traffic.replies;
      answers = all_filter {X = Replied} (λ r. r.answers < v.traffic.next_message) (λ r. not (r.number == number)) v.traffic.replies h.traffic.answers;
      owned = h.traffic.owned;
      begun = h.traffic.begun;
      awaited = h.traffic.awaited;
    })

-- ---- what is kept for calls

-- what the pools have, and what is in memory for them, stays
module _ (v : GroupView) (h : IsWhole v) (awaited : List Awaited) (noted : List Noted) (kept : Option KeptFence) where
  abbrev R : GroupView
  R = record v { traffic = record v.traffic { awaited = awaited; noted = noted }; standing = record v.standing { kept = kept } }

  forgot_keeps : AllByRecursion (λ a. IsInFlight v.calls.entries a.call × (a.message < v.traffic.next_message)) awaited → Keeps (with_doubt (joined v).doubt) None v R
  forgot_keeps waits =
      rests_keeps v h v.stores.base_stopped R.traffic R.standing (with_doubt (joined v).doubt) (rests_promises (joined v)) (λ start b z k. k) refl refl h.flights
      (record { messages = h.traffic.messages; replies = h.traffic.replies; answers = h.traffic.answers; owned = h.traffic.owned; begun = h.traffic.begun; awaited = waits })
      (record { cache = h.stops.cache; base = h.stops.base })

pub ending_waits_keeps : EndingWaitsKeeps
ending_waits_keeps call v h =
    forgot_keeps v h (unawaited call v.traffic.awaited) v.traffic.noted v.standing.kept
    (all_filter {X = Awaited} (λ a. IsInFlight v.calls.entries a.call × (a.message < v.traffic.next_message)) (λ a. not (a.call == call)) v.traffic.awaited h.traffic.awaited)

pub ending_notes_keeps : EndingNotesKeeps
ending_notes_keeps call v h = forgot_keeps v h v.traffic.awaited (unnoted call v.traffic.noted) v.standing.kept h.traffic.awaited

pub answering_fences_keeps : AnsweringFencesKeeps
answering_fences_keeps v h = forgot_keeps v h v.traffic.awaited v.traffic.noted None h.traffic.awaited
