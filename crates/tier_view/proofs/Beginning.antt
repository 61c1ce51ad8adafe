-- A write request begins, and its Write is sent.
use Rattle.std.proofs.Common.{◌≡◌, ◌≢◌, ◌<◌, inl, inr, ℕ, ◌+◌, false, List, [], ◌∷◌, ◌++◌, length, Option, Some, None, refl, sym, ap, subst, ◌∙◌, arith}
use Rattle.std.specs.FinMap as fin
use Rattle.std.proofs.lemmas.List.{append-nil}
use Rattle.obj_model.specs.declared.req.Req.{Req}
use Rattle.obj_model.specs.declared.tier.Kind.{Kind}
use Rattle.obj_model.specs.declared.tier.Kind.TheVariants as kind
use Rattle.obj_ops.specs.Stores.{Store}
use Rattle.tier_chron.specs.Shapes.{HasNoAct}
use Rattle.tier_chron.proofs.Lists.{all_imply, all_push}
use Rattle.std.specs.Option.{option_map}
use Rattle.tier_join.specs.Group.{TwoMaps, AreLeft, tier_of}
use Rattle.tier_join.specs.Promises.{Promises, as_it_is}
use Rattle.tier_join.specs.Steps.{HasRec, seen}
use Rattle.tier_join.proofs.MemorySteps.{beginning_promises, sending_promises}
use Rattle.tier_join.proofs.CacheSteps.{rec_is}
use Rattle.tier_owners.proofs.Sending.{beginning_owned, writing_owned}
use Rattle.tier_protocol.specs.Moves.{begun, MayBegin}
use Rattle.tier_protocol.specs.Owners.{IsOpen}
use Rattle.tier_protocol.specs.Tiers.{BaseMsg, Flight, Flights, Name, Phase, TierRec}
use Rattle.tier_protocol.proofs.ActLists.{in_last, in_old}
use Rattle.tier_protocol.proofs.Cells.{get_here, get_there, same_or_not}
use Rattle.tier_protocol.proofs.Steps.{beginning, sending}
use Rattle.tier_view.specs.Calls.{Entry, Flown, IsInFlight, entry_of}
use Rattle.tier_view.specs.Grows.{AreEntered, Grows, HaveCome, no_commit, Remains, Stays}
use Rattle.tier_view.specs.Laws.{BeginningWritesKeeps, HasAsked, SendingWritesKeeps}
use Rattle.tier_view.specs.Owed.{Owes}
use Rattle.tier_view.specs.Steps.{begun_write, sent_now, write_flight, write_flown}
use Rattle.tier_view.specs.Stores.{doubt_in}
use Rattle.tier_view.specs.Tables.{HasCome, IsListed, IsOfKind, IsTimed, IsUnanswered, SoundFlights, SoundFlown}
use Rattle.tier_view.specs.Traffic.{Begun}
use Rattle.tier_view.specs.Views.{GroupView, joined, ledger_in, memory_of}
use Rattle.tier_view.specs.Whole.{IsWhole}
use Rattle.tier_view.specs.Worlds.{HasOwners, IsOwned, IsOwnedBy}
use Rattle.tier_view.proofs.Finding.{going_unanswered, is_known, no_acts, not_closed, not_over}
use Rattle.tier_view.proofs.Keeping.{steps_keep}
use Rattle.tier_view.proofs.Resting.{all_of, extends_push, extends_same, log_rests, remains_itself, stays_itself}

-- ---- without a doubt

-- what is said of the one world
pub surely_owned : (start : Store) (v : GroupView) (z : TwoMaps) → v.stores.pending ≡ None → HasOwners start v z → IsOwned start (memory_of v.log v.traffic v.standing) (ledger_in v) z
surely_owned start v z none h = subst (λ p. IsOwnedBy start (memory_of v.log v.traffic v.standing) (ledger_in v) p z) none h

pub owned_surely : (start : Store) (w : GroupView) (z : TwoMaps) → w.stores.pending ≡ None → IsOwned start (memory_of w.log w.traffic w.standing) (ledger_in w) z → HasOwners start w z
owned_surely start w z none h = subst (λ p. IsOwnedBy start (memory_of w.log w.traffic w.standing) (ledger_in w) p z) (sym none) h

-- ---- work on a free name

come_more : (flown : List Flown) (e : Flown) (k : Kind) (n : Name) (op : ℕ) (by : Flown → Type 0) → HasCome flown k n op by → HasCome (flown ++ e ∷ []) k n op by
come_more flown e k n op by h = record { entry = h.entry; on = in_old flown e h.entry h.on; standing = h.standing; whose = h.whose }

pub listed_then : (es : List Entry) (flown : List Flown) (e : Flown) (begun : List Begun) (epoch : ℕ) (n : Name) (f : Flight) → IsListed es flown begun epoch n f → IsListed es (flown ++ e ∷ []) begun epoch n f
listed_then es flown e begun epoch n (Flight.Promote call op gather ask) h = (h.0, come_more flown e _ n op _ h.1)
listed_then es flown e begun epoch n (Flight.Write driver owner op r) h = (h.0, come_more flown e _ n op _ h.1)
listed_then es flown e begun epoch n (Flight.Reads list) h = λ r on. ((h r on).0, come_more flown e _ n r.opid _ (h r on).1)
listed_then es flown e begun epoch n (Flight.Flush call op seq blocking drain) h = (h.0, h.1, come_more flown e _ n op _ h.2)

pub none_of_kind : (k : Kind) (op : ℕ) → IsOfKind None k op → ⊥
none_of_kind kind.Promote op h = h
none_of_kind kind.Write op h = h
none_of_kind kind.Read op h = h
none_of_kind kind.Flush op h = h

one_flight : (f g : Flight) → Some f ≡ Some g → f ≡ g
one_flight f g e = cc

-- work comes to a free name, with its entry
pub flights_come : (es : List Entry) (flown : List Flown) (flights : Flights) (begun : List Begun) (epoch count : ℕ) (k : Name) (f : Flight) (e : Flown)
    → fin.get flights k ≡ None → entry_of es e.call ≢ None → e.came ≡ count → e.went ≡ None → IsOfKind (Some f) e.kind e.opid → e.name ≡ k → IsListed es (flown ++ e ∷ []) begun epoch k f
    → SoundFlights es flown flights begun epoch count → SoundFlights es (flown ++ e ∷ []) (fin.insert flights k f) begun epoch count
flights_come es flown flights begun epoch count k f e none known came went of named listed h = record {
  listed = λ n g is. elim (same_or_not n k) [
    | inl same ↦
        let one : f ≡ g = one_flight f g (sym here ∙ subst (λ m. fin.get (fin.insert flights k f) m ≡ Some g) same is) in
        subst (λ m. IsListed es (flown ++ e ∷ []) begun epoch m g) (sym same) (subst (IsListed es (flown ++ e ∷ []) begun epoch k) one listed)
    | inr other ↦ listed_then es flown e begun epoch n g (h.listed n g (sym (get_there flights k (Some f) n other) ∙ is))
  ];
  table = all_push (SoundFlown es (fin.insert flights k f) count) flown e
      (all_imply (SoundFlown es flights count) (SoundFlown es (fin.insert flights k f) count) (λ g s. record { known = s.known; timed = s.timed; stands = λ there. still g (s.stands there) }) flown h.table)
      (record {
        known = known;
        timed = timed_now;
        stands = λ there. subst (λ o. IsOfKind o e.kind e.opid) (sym (ap (fin.get (fin.insert flights k f)) named ∙ here)) of;
      });
}
  where
    here : fin.get (fin.insert flights k f) k ≡ Some f
    here = get_here flights k (Some f)

    still : (g : Flown) → IsOfKind (fin.get flights g.name) g.kind g.opid → IsOfKind (fin.get (fin.insert flights k f) g.name) g.kind g.opid
    still g s = elim (same_or_not g.name k) [
      | inl same ↦ absurd (none_of_kind g.kind g.opid (subst (λ o. IsOfKind o g.kind g.opid) (ap (fin.get flights) same ∙ none) s))
      | inr other ↦ subst (λ o. IsOfKind o g.kind g.opid) (sym (get_there flights k (Some f) g.name other)) s
    ]

    timed_now : IsTimed count e.came e.went
    timed_now = subst (IsTimed count e.came) (sym went) (omega (arith, came))

-- ---- a write request begins

module _ (v : GroupView) (owner line : ℕ) (r : Req) (h : IsWhole v) (none : v.stores.pending ≡ None) (up : v.standing.phase ≡ Phase.Up) (has : HasRec (joined v) r.name None)
    (free : fin.get v.traffic.flights r.name ≡ None) (asked : HasAsked v owner line r) (going : IsInFlight v.calls.entries owner) (first : HasNoAct owner v.log.acts) where
  abbrev W : GroupView
  W = begun_write owner r v

  abbrev F : Flight
  F = write_flight owner r v

  abbrev E : Flown
  E = write_flown owner r v

  no_doubt : (joined v).doubt ≡ None
  no_doubt = ap (option_map doubt_in) none

  may : MayBegin (seen (joined v).memory r.name None) r.name F
  may = (free, get_here {X = TierRec} fin.empty r.name None, refl, refl)

  promises : Promises as_it_is (joined v) (joined W)
  promises = beginning_promises (joined v) (joined W) r.name F None no_doubt has up may (record { cache = refl; base = refl; doubt = refl }) refl

  free_to_act : IsOpen (ledger_in v) owner
  free_to_act = (no_acts owner v.log.acts first, not_closed owner v.log.answers (going_unanswered v.calls.last v.standing.cache_epoch v.log.answers v.calls.entries owner h.calls going))

  owned : (start : Store) (z : TwoMaps) → AreLeft (joined v) z → IsOwned start (joined v).memory (ledger_in v) z → IsOwned start (joined W).memory (ledger_in W) z
  owned start z i k =
      let t = tier_of start (joined v).memory k.spells.recs k.spells.base in
      let here : MayBegin t r.name F = (free, rec_is start (joined v) z r.name None has i k.spells, refl, refl) in
      record {
        spells = record {
          recs = k.spells.recs;
          base = k.spells.base;
          cached = k.spells.cached;
          based = k.spells.based;
          sound = beginning t r.name F k.spells.sound up here;
        };
        owners = beginning_owned t (ledger_in v) r.name (Some owner) owner v.standing.next_opid line r k.spells.sound k.owners here asked free_to_act;
      }

  grows : Grows as_it_is None v W
  grows = record {
    pools = promises;
    began = λ start told b. record {
      pools = promises.began start told b.pools;
      owners = λ z i. owned_surely start W z none (owned start z i (surely_owned start v z none (b.owners z i)));
      history = b.history;
      next = b.next;
    };
    log = log_rests v.log;
    one_answer = tt;
    calls = extends_same Stays (AreEntered (v.calls.last + 1) v.standing.cache_epoch (length v.log.acts) v.calls.last None) stays_itself v.calls.entries refl;
    flown = extends_push (Remains (length v.log.answers) (length v.log.answers)) (HaveCome v.calls.entries v.calls.entries (length v.log.answers) v.standing W.standing)
        (remains_itself (length v.log.answers) (length v.log.answers)) v.calls.flown (E ∷ [])
        (refl, refl, record { opid = refl; came = refl; stands = refl; known = is_known v.calls.entries owner going; going = not_over (entry_of v.calls.entries owner) going });
    commit = no_commit refl refl;
    epoch = omega arith;
    cache_faults = omega arith;
    base_faults = omega arith;
    share = refl;
    values = refl;
  }

  owes : Owes [] v W
  owes = record {
    logs = sym (append-nil v.log.answers);
    shaped = λ s. s;
    pending = h.pending;
    over = all_of (λ e. e.ended ≡ false → IsUnanswered e.number []) (λ e _. tt) v.calls.entries;
    flights = flights_come v.calls.entries v.calls.flown v.traffic.flights v.traffic.begun v.standing.cache_epoch (length v.log.answers) r.name F E free
        (is_known v.calls.entries owner going) refl refl refl refl
        (going, record { entry = E; on = in_last v.calls.flown E; standing = record { kind = refl; name = refl; opid = refl; there = refl }; whose = refl }) h.flights;
    traffic = record { messages = h.traffic.messages; replies = h.traffic.replies; answers = h.traffic.answers; owned = h.traffic.owned; begun = h.traffic.begun; awaited = h.traffic.awaited };
    causes = tt;
    cache_failed = omega arith;
    base_failed = omega arith;
    stops = record { cache = h.stops.cache; base = h.stops.base };
    totals = h.totals;
  }

pub beginning_writes_keeps : BeginningWritesKeeps
beginning_writes_keeps v owner line r h none up has free asked going first =
    let g = grows v owner line r h none up has free asked going first in
    (steps_keep as_it_is None [] v (begun_write owner r v) h g (owes v owner line r h none up has free asked going first), g)

-- ---- its Write is sent

module _ (v : GroupView) (driver : Option ℕ) (owner line op : ℕ) (r : Req) (h : IsWhole v) (none : v.stores.pending ≡ None)
    (flies : fin.get v.traffic.flights r.name ≡ Some (Flight.Write driver owner op r)) (asked : HasAsked v owner line r) where
  abbrev M : BaseMsg
  M = BaseMsg.Write v.standing.cache_epoch op r

  abbrev S : GroupView
  S = sent_now M (Some (record { call = owner; line = line })) v

  said : Promises as_it_is (joined v) (joined S)
  said = sending_promises (joined v) (joined S) M None (ap (option_map doubt_in) none) tt (refl, (driver, owner, flies)) (record { cache = refl; base = refl; doubt = refl }) refl

  sent_owned : (start : Store) (z : TwoMaps) → IsOwned start (joined v).memory (ledger_in v) z → IsOwned start (joined S).memory (ledger_in S) z
  sent_owned start z k =
      let t = tier_of start (joined v).memory k.spells.recs k.spells.base in
      record {
        spells = record {
          recs = k.spells.recs;
          base = k.spells.base;
          cached = k.spells.cached;
          based = k.spells.based;
          sound = sending t M k.spells.sound (refl, (driver, owner, flies));
        };
        owners = writing_owned t (ledger_in v) v.standing.cache_epoch op r driver owner line k.spells.sound k.owners refl flies asked;
      }

  sent_grows : Grows as_it_is None v S
  sent_grows = record {
    pools = said;
    began = λ start told b. record {
      pools = said.began start told b.pools;
      owners = λ z i. owned_surely start S z none (sent_owned start z (surely_owned start v z none (b.owners z i)));
      history = b.history;
      next = b.next;
    };
    log = log_rests v.log;
    one_answer = tt;
    calls = extends_same Stays (AreEntered (v.calls.last + 1) v.standing.cache_epoch (length v.log.acts) v.calls.last None) stays_itself v.calls.entries refl;
    flown = extends_same (Remains (length v.log.answers) (length v.log.answers)) (HaveCome v.calls.entries v.calls.entries (length v.log.answers) v.standing v.standing)
        (remains_itself (length v.log.answers) (length v.log.answers)) v.calls.flown (inl (refl, refl));
    commit = no_commit refl refl;
    epoch = omega arith;
    cache_faults = omega arith;
    base_faults = omega arith;
    share = refl;
    values = refl;
  }

  sent_owes : Owes [] v S
  sent_owes = record {
    logs = sym (append-nil v.log.answers);
    shaped = λ s. s;
    pending = h.pending;
    over = all_of (λ e. e.ended ≡ false → IsUnanswered e.number []) (λ e _. tt) v.calls.entries;
    flights = h.flights;
    traffic = record {
      messages = (omega arith, h.traffic.messages);
      replies = h.traffic.replies;
      answers = all_imply (λ x. x.answers < v.traffic.next_message) (λ x. x.answers < v.traffic.next_message + 1) (λ x l. omega (arith, l)) v.traffic.replies h.traffic.answers;
      owned = (asked, h.traffic.owned);
      begun = all_imply (λ x. x.message < v.traffic.next_message) (λ x. x.message < v.traffic.next_message + 1) (λ x l. omega (arith, l)) v.traffic.begun h.traffic.begun;
      awaited = all_imply (λ x. IsInFlight v.calls.entries x.call × (x.message < v.traffic.next_message)) (λ x. IsInFlight v.calls.entries x.call × (x.message < v.traffic.next_message + 1))
          (λ x l. (l.0, omega (arith, l.1))) v.traffic.awaited h.traffic.awaited;
    };
    causes = tt;
    cache_failed = omega arith;
    base_failed = omega arith;
    stops = h.stops;
    totals = h.totals;
  }

pub sending_writes_keeps : SendingWritesKeeps
sending_writes_keeps v driver owner line op r h none flies asked =
    let g = sent_grows v driver owner line op r h none flies asked in
    (steps_keep as_it_is None [] v (sent_now (BaseMsg.Write v.standing.cache_epoch op r) (Some (record { call = owner; line = line })) v) h g (sent_owes v driver owner line op r h none flies asked), g)
