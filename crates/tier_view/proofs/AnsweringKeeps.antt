-- A quiet step that has what it owes keeps what always holds.
use Rattle.std.proofs.Common.{◌≡◌, ◌≤◌, ℕ, ◌+◌, false, List, ◌++◌, length, Option, None, sym, subst, arith}
use Rattle.std.specs.List.{AllByRecursion}
use Rattle.tier_chron.specs.Shapes.{IsShaped}
use Rattle.tier_chron.specs.declared.entries.Logged.{Logged}
use Rattle.tier_view.specs.Answers.{Quiet, told}
use Rattle.tier_view.specs.Grows.{AreEntered, CallsGrow, HaveCome}
use Rattle.obj_ops.specs.Stores.{Store}
use Rattle.tier_join.specs.Group.{BothTell}
use Rattle.tier_view.specs.Tables.{IsUnanswered, SoundEntry, SoundFlights}
use Rattle.tier_view.specs.Views.{GroupView, calls_in, joined}
use Rattle.tier_view.specs.Whole.{AreCounted, AreSums, HaveCauses, IsWhole, SoundStops, SoundTraffic}
use Rattle.tier_view.specs.Worlds.{Began, MayPend}
use Rattle.tier_view.proofs.Answering.{Still, still_calls, still_flown, still_of_quiet}
use Rattle.tier_view.proofs.Growth.{causes_append, causes_stay}
use Rattle.tier_view.proofs.Keeping.{entries_keep, new_unanswered, none_above}

-- What a quiet step owes.
pub record OwesQuietly (old new : GroupView) (more : List Logged) : Type 0 where
  pub shaped : IsShaped (calls_in old.calls.entries) old.log → IsShaped (calls_in new.calls.entries) new.log
  pub pending : MayPend new.calls.entries new.log new.stores.pending
  pub over : AllByRecursion (λ e. e.ended ≡ false → IsUnanswered e.number more) new.calls.entries
  pub flights : SoundFlights new.calls.entries new.calls.flown new.traffic.flights new.traffic.begun new.standing.cache_epoch (length new.log.answers)
  pub traffic : SoundTraffic new.calls.entries new.traffic
  pub causes : HaveCauses (length old.log.answers) new.calls new.agent.share new.standing.cache_epoch more
  pub counted : AreCounted new.stores new.log.answers
  pub stops : SoundStops new.stores new.standing
  pub totals : AreSums new.stores new.agent

later_same : (a b : ℕ) → b ≡ a → a ≤ b
later_same a b e = omega (arith, e)

pub still_whole : (v w : GroupView) (more : List Logged) → IsWhole v → (q : Still v w) → (BothTell (joined w) → (start : Store) × Began start w) → w.log.answers ≡ v.log.answers ++ more → OwesQuietly v w more → IsWhole w
still_whole v w more h q began logs o =
    let n : ℕ = length v.log.answers in
    let calls : CallsGrow w.standing.cache_epoch (length v.log.acts) None v.calls w.calls = still_calls v w q in
    let later : v.standing.cache_epoch ≤ w.standing.cache_epoch = later_same v.standing.cache_epoch w.standing.cache_epoch q.epoch in
    record {
      memory = q.pools.memory h.memory;
      began = began;
      shaped = o.shaped h.shaped;
      pending = o.pending;
      calls =
          let none = none_above v.calls.last v.standing.cache_epoch v.log.answers v.calls.entries (v.calls.last + 1) h.calls (omega arith) in
          subst (λ a. AllByRecursion (SoundEntry w.calls.last w.standing.cache_epoch a) w.calls.entries) (sym logs)
          (entries_keep v.calls.last w.calls.last v.standing.cache_epoch w.standing.cache_epoch (length v.log.acts) None v.log.answers more later
          (new_unanswered (calls_in v.calls.entries) v.log.acts v.log.answers (v.calls.last + 1) none h.shaped.answered)
          (later_same v.calls.last w.calls.last q.last)
          v.calls.entries w.calls.entries calls h.calls o.over);
      flights = o.flights;
      traffic = o.traffic;
      causes = subst (λ a. HaveCauses 0 w.calls w.agent.share w.standing.cache_epoch a) (sym logs)
          (causes_append 0 w.calls w.agent.share w.standing.cache_epoch v.log.answers more
          (causes_stay n (length w.log.answers) v.calls w.calls (AreEntered (v.calls.last + 1) w.standing.cache_epoch (length v.log.acts) w.calls.last None)
          (HaveCome v.calls.entries w.calls.entries n v.standing w.standing) calls (still_flown v w q) v.agent.share w.agent.share q.share
          v.standing.cache_epoch w.standing.cache_epoch later 0 v.log.answers (omega arith) h.causes)
          (subst (λ i. HaveCauses i w.calls w.agent.share w.standing.cache_epoch more) (omega arith) o.causes));
      counted = o.counted;
      stops = o.stops;
      totals = o.totals;
    }

pub quiet_whole : (v w : GroupView) (more : List Logged) → IsWhole v → (q : Quiet v w) → w.log.answers ≡ v.log.answers ++ more → OwesQuietly v w more → IsWhole w
quiet_whole v w more h q logs o =
    still_whole v w more h (still_of_quiet v w q) (λ tell. let b = h.began (q.pools.told tell) in (b.0, q.began b.0 (q.pools.told tell) b.1)) logs o
