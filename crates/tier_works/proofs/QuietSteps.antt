-- Quiet steps that leave stores, history and standing: what is left to show of one.
use Rattle.std.proofs.Common.{◌≡◌, inl, ℕ, false, List, [], length, Option, Some, None, refl, sym, ap, subst}
use Rattle.std.specs.Option.{option_map}
use Rattle.std.proofs.lemmas.List.{append-nil}
use Rattle.obj_ops.specs.Stores.{Store}
use Rattle.tier_chron.specs.Calls.{call_of}
use Rattle.tier_chron.specs.Fits.{IsHistoryFrom}
use Rattle.tier_chron.specs.Logs.{Log}
use Rattle.tier_chron.specs.Shapes.{IsAskedBy, IsShaped}
use Rattle.tier_join.specs.Group.{AreLeft, BothTell, TwoMaps}
use Rattle.tier_join.specs.Promises.{Promises, as_it_is}
use Rattle.tier_join.specs.Steps.{with_doubt}
use Rattle.tier_view.specs.Agents.{Agents}
use Rattle.tier_view.specs.Answers.{KeepsQuietly, NoMore, Quiet}
use Rattle.tier_view.specs.declared.parts.Entry.{Entry}
use Rattle.tier_view.specs.declared.parts.Flown.{Flown}
use Rattle.tier_view.specs.Grows.{Extends, Remains, Stays}
use Rattle.tier_view.specs.Stores.{doubt_in}
use Rattle.tier_view.specs.declared.parts.Pending.{Pending}
use Rattle.tier_view.specs.Tables.{IsUnanswered, SoundFlights}
use Rattle.tier_view.specs.Traffic.{Traffic}
use Rattle.tier_view.specs.Views.{GroupView, calls_in, joined}
use Rattle.tier_view.specs.Whole.{AreSums, IsWhole, SoundTraffic}
use Rattle.tier_view.specs.Worlds.{Began, HasOwners, MayPend}
use Rattle.tier_view.proofs.Answering.{Still, quiet_of_still, quiets_join}
use Rattle.tier_view.proofs.AnsweringKeeps.{OwesQuietly, quiet_whole}
use Rattle.tier_view.proofs.Resting.{all_of, extends_same, remains_itself, stays_itself}

-- ---- without a doubt

pub no_doubt : (v : GroupView) → v.stores.pending ≡ None → (joined v).doubt ≡ None
no_doubt v none = ap (option_map doubt_in) none

pub promises_as_doubted : (v w : GroupView) → v.stores.pending ≡ None
    → Promises as_it_is (joined v) (joined w)
    → Promises (with_doubt (joined v).doubt) (joined v) (joined w)
promises_as_doubted v w none p =
    subst (λ o. Promises (with_doubt o) (joined v) (joined w)) (sym (no_doubt v none)) p

-- ---- two quiet steps, and a quiet one behind a step

pub quietly_both : (u v w : GroupView) → KeepsQuietly u v → KeepsQuietly v w
    → v.log.answers ≡ u.log.answers → KeepsQuietly u w
quietly_both u v w first second same = (second.0, quiets_join u v w first.1 second.1 (inl same))

-- ---- what is left to show

pending_still : (es fs : List Entry) (log : Log) → calls_in fs ≡ calls_in es
    → (p : Option Pending) → MayPend es log p → MayPend fs log p
pending_still es fs log same None k = k
pending_still es fs log same (Some (Pending.Plain pool name)) k = k
pending_still es fs log same (Some (Pending.Act pool first a seq)) k = (
  record {
    asked = subst (λ cs. IsAskedBy a (call_of cs a.call)) (sym same) k.0.asked;
    first = k.0.first;
    free = k.0.free;
  },
  k.1,
)
pending_still es fs log same (Some (Pending.Epoch pool e)) k = k

module _ (v : GroupView) (h : IsWhole v) (entries : List Entry) (flown : List Flown) (t : Traffic)
    (agent : Agents) where
  abbrev pub changed : GroupView
  changed = record v {
    calls = record v.calls { entries = entries; flown = flown };
    traffic = t;
    agent = agent;
  }

  abbrev count : ℕ
  count = length v.log.answers

  pub quiet_step : Promises (with_doubt (joined v).doubt) (joined v) (joined changed)
      → ((start : Store) → Began start v → (z : TwoMaps) → AreLeft (joined v) z
      → HasOwners start v z → HasOwners start changed z)
      → calls_in entries ≡ calls_in v.calls.entries
      → Extends Stays NoMore v.calls.entries entries
      → Extends (Remains count count) NoMore v.calls.flown flown
      → agent.share ≡ v.agent.share → agent.values ≡ v.agent.values
      → SoundFlights entries flown t.flights t.begun v.standing.cache_epoch count
      → SoundTraffic entries t → AreSums v.stores agent → KeepsQuietly v changed
  quiet_step promises owners same stay remain share values flights traffic sums =
      (quiet_whole v changed [] h quiet (sym (append-nil v.log.answers)) owes, quiet)
    where
      still : Still v changed
      still = record {
        pools = promises;
        stores = refl;
        opening = refl;
        acts = refl;
        answer = None;
        is_answer = sym (append-nil v.log.answers);
        ends = tt;
        last = refl;
        entries = stay;
        flown = remain;
        epoch = refl;
        opids = refl;
        share = share;
        values = values;
      }

      began : (start : Store) → BothTell (joined v) → Began start v → Began start changed
      began start tell b = record {
        pools = promises.began start tell b.pools;
        owners = λ z i. owners start b z i (b.owners z i);
        history = subst (λ cs. IsHistoryFrom start cs v.log) (sym same) b.history;
        next = b.next;
      }

      quiet : Quiet v changed
      quiet = quiet_of_still v changed still began

      owes : OwesQuietly v changed []
      owes = record {
        shaped = λ s. subst (λ cs. IsShaped cs v.log) (sym same) s;
        pending = pending_still v.calls.entries entries v.log same v.stores.pending h.pending;
        over = all_of (λ e. e.ended ≡ false → IsUnanswered e.number []) (λ e going. tt) entries;
        flights = flights;
        traffic = traffic;
        causes = tt;
        counted = h.counted;
        stops = h.stops;
        totals = sums;
      }

-- the tables stay
pub same_entries : (v : GroupView) → Extends Stays NoMore v.calls.entries v.calls.entries
same_entries v = extends_same Stays NoMore stays_itself v.calls.entries refl

pub same_flown : (v : GroupView)
    → Extends (Remains (length v.log.answers) (length v.log.answers)) NoMore v.calls.flown
    v.calls.flown
same_flown v =
    extends_same (Remains (length v.log.answers) (length v.log.answers)) NoMore
    (remains_itself (length v.log.answers) (length v.log.answers)) v.calls.flown refl
