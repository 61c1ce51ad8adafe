-- Why a step of a start was not made, as an answer.
use Rattle.std.proofs.Common.{◌≡◌, ◌≤◌, ◌<◌, ◌||◌, ◌&&◌, ℕ, Bool, true, false, true≢false, List, [], ◌∷◌, length, Option, Some, None, Err, refl, sym, ap, subst, ◌∙◌, arith}
use Rattle.cache_pool.specs.Puts.{Commits, epoch_put}
use Rattle.cache_pool.specs.declared.fault.CacheFault.TheVariants as cached
use Rattle.obj_model.specs.declared.change.Change.{Change}
use Rattle.obj_model.specs.declared.change.Pool.{Pool}
use Rattle.obj_model.specs.declared.change.Pool.TheVariants.{Cache, Base}
use Rattle.store_face.specs.Calls.{ReadFails}
use Rattle.store_face.specs.declared.fault.StoreFault.{StoreFault}
use Rattle.store_face.specs.declared.fault.StoreFault.TheVariants as store
use Rattle.tier_chron.specs.Logs.{Log}
use Rattle.tier_chron.specs.Shapes.{is_reading_fault, is_start_fault, may_answer}
use Rattle.tier_chron.specs.declared.answer.Answer.{Answer}
use Rattle.tier_chron.specs.declared.answer.Answer.TheVariants as answer
use Rattle.tier_chron.specs.declared.asked.Asked.{Asked}
use Rattle.tier_chron.specs.declared.entries.Logged.{Logged}
use Rattle.tier_core.specs.Held.{entries_limit}
use Rattle.tier_core.specs.Opens.{OpenFails, OpensBase, OpensCache}
use Rattle.tier_core.specs.Raises.{Raises, next_epoch}
use Rattle.tier_core.specs.declared.opening.OpenFault.{OpenFault}
use Rattle.tier_core.specs.declared.opening.OpenFault.TheVariants as opening
use Rattle.tier_core.specs.declared.raising.RaiseFault.{RaiseFault}
use Rattle.tier_core.specs.declared.raising.RaiseFault.TheVariants as raising
use Rattle.tier_node.proofs.Faults.{every_call, lasting_call}
use Rattle.tier_node.specs.Starting.{is_brief, is_hard, is_hard_open, is_hard_raise, is_hard_store, is_untold, is_untold_to, open_answer, raise_answer, start_answer, store_answer}
use Rattle.tier_node.specs.Tells.{IsSoIf}
use Rattle.tier_outside.specs.Causes.{Rose}
use Rattle.tier_stop.specs.Starts.{Makes, Starts}
use Rattle.tier_stop.specs.declared.choosing.StartStep.{StartStep}
use Rattle.tier_stop.specs.declared.choosing.StartStep.TheVariants as need
use Rattle.tier_stop.specs.declared.starting.StartFault.{StartFault}
use Rattle.tier_stop.specs.declared.starting.StartFault.TheVariants as start
use Rattle.tier_stop.specs.declared.starting.Started.TheVariants as started
use Rattle.tier_view.specs.Views.{GroupView}
use Rattle.tier_view.specs.Starts.{raised_there}
use Rattle.tier_view.specs.Whole.{IsWhole, faults_told, tells_fault}

-- ---- which call failed

-- the call that makes the step failed
abbrev FailsBy : StartFault → (old new : GroupView) → Type 0
FailsBy (start.Cache f) old new = OpensCache old new (Err f)
FailsBy (start.Base f) old new = OpensBase old new (Err f)
FailsBy (start.Raise f) old new = Raises old new (Err f)

failed_by : (n : StartStep) (line call : Option ℕ) (f : StartFault) (old new : GroupView)
    → Makes n line call old new (started.Failed f) → FailsBy f old new
failed_by need.OpenCache line call (start.Cache f) old new h = h
failed_by need.OpenCache line call (start.Base f) old new h = absurd h
failed_by need.OpenCache line call (start.Raise f) old new h = absurd h
failed_by need.OpenBase line call (start.Cache f) old new h = absurd h
failed_by need.OpenBase line call (start.Base f) old new h = h
failed_by need.OpenBase line call (start.Raise f) old new h = absurd h
failed_by need.Raise line call (start.Cache f) old new h = absurd h
failed_by need.Raise line call (start.Base f) old new h = absurd h
failed_by need.Raise line call (start.Raise f) old new h = h
failed_by need.Fence line call f old new h = absurd h
failed_by need.Nothing line call f old new h = absurd h

-- ---- what it leaves

-- neither an answer nor a call came
record IsSilent (old new : GroupView) : Type 0 where
  log : new.log ≡ old.log
  entries : new.calls.entries ≡ old.calls.entries

by_view : (old new made : GroupView) → new ≡ made → made.log ≡ old.log
    → made.calls.entries ≡ old.calls.entries → IsSilent old new
by_view old new made is log entries = record {
  log = ap (λ (v : GroupView). v.log) is ∙ log;
  entries = ap (λ (v : GroupView). v.calls.entries) is ∙ entries;
}

module _ (old new : GroupView) where
  cache_silent : (f : OpenFault) → OpensCache old new (Err f) → IsSilent old new
  cache_silent (opening.Store f) h = by_view old new _ h.comes.0 refl refl
  cache_silent (opening.BadRecord name) h = by_view old new _ h.comes.0 refl refl
  cache_silent (opening.Sums f) h = by_view old new _ h.comes.0 refl refl
  cache_silent (opening.OtherEpoch e) h = absurd h.comes

  base_silent : (f : OpenFault) → OpensBase old new (Err f) → IsSilent old new
  base_silent (opening.Store f) h = by_view old new _ h.comes.0 refl refl
  base_silent (opening.BadRecord name) h = by_view old new _ h.comes.0 refl refl
  base_silent (opening.Sums f) h = absurd h.comes
  base_silent (opening.OtherEpoch e) h = by_view old new _ h.comes.0 refl refl

  raise_commit : (f : StoreFault) → new ≡ raised_there (next_epoch old) new.stores.cache (Err f) old
      → IsSilent old new
  raise_commit store.Disk h = by_view old new _ h refl refl
  raise_commit (store.BadImage at) h = by_view old new _ h refl refl
  raise_commit (store.NoSpace used need limit) h = by_view old new _ h refl refl
  raise_commit (store.Worn limit) h = by_view old new _ h refl refl
  raise_commit store.NoMemory h = by_view old new _ h refl refl

  raise_silent : (f : RaiseFault) → Raises old new (Err f) → IsSilent old new
  raise_silent (raising.Worn limit) h = by_view old new _ h.2 refl refl
  raise_silent (raising.Read f) h = by_view old new _ h.2 refl refl
  raise_silent (raising.Commit f) h = raise_commit f h.is

  silent : (f : StartFault) → FailsBy f old new → IsSilent old new
  silent (start.Cache f) h = cache_silent f h
  silent (start.Base f) h = base_silent f h
  silent (start.Raise f) h = raise_silent f h

-- ---- a disk that failed

one_at_most : (p : Pool) (x : Answer) → tells_fault p x ≤ 1
one_at_most Cache (answer.DiskFault Cache) = omega arith
one_at_most Cache (answer.DiskFault Base) = omega arith
one_at_most Cache x = omega arith
one_at_most Base (answer.DiskFault Cache) = omega arith
one_at_most Base (answer.DiskFault Base) = omega arith
one_at_most Base x = omega arith

-- an answer tells one fault at most
told_few : (p : Pool) (ls : List Logged) → faults_told p ls ≤ length ls
told_few p [] = omega arith
told_few p (l ∷ ls) = omega (arith, one_at_most p l.answer, told_few p ls)

-- A count that rose is above all faults that a history tells which is not full, also where the
-- count stands at its end.
pub has_room : (p : Pool) (answers : List Logged) (before now : ℕ) → faults_told p answers ≤ before
    → Rose before now → length answers ≤ entries_limit → faults_told p answers < now
has_room p answers before now told rose few =
    omega (arith, told, rose, few, told_few p answers)

-- ---- the answer is so

module _ (old new : GroupView) (whole : IsWhole old) (log : new.log ≡ old.log)
    (few : length new.log.answers ≤ entries_limit) where
  cache_failed : Rose old.stores.cache.faults new.stores.cache.faults
      → faults_told Cache new.log.answers < new.stores.cache.faults
  cache_failed rose =
      has_room Cache new.log.answers old.stores.cache.faults new.stores.cache.faults
      (subst (λ (l : Log). faults_told Cache l.answers ≤ old.stores.cache.faults) (sym log)
      whole.counted.cache) rose few

  pub base_failed : Rose old.stores.base.faults new.stores.base.faults
      → faults_told Base new.log.answers < new.stores.base.faults
  base_failed rose =
      has_room Base new.log.answers old.stores.base.faults new.stores.base.faults
      (subst (λ (l : Log). faults_told Base l.answers ≤ old.stores.base.faults) (sym log)
      whole.counted.base) rose few

  unopened_cache : (f : StoreFault) → OpenFails f old.stores.cache new.stores.cache
      → IsSoIf new (store_answer Cache f)
  unopened_cache store.Disk h = cache_failed h.0
  unopened_cache (store.BadImage at) h = tt
  unopened_cache (store.NoSpace used need limit) h = absurd h
  unopened_cache (store.Worn limit) h = absurd h
  unopened_cache store.NoMemory h = tt

  unopened_base : (f : StoreFault) → OpenFails f old.stores.base new.stores.base
      → IsSoIf new (store_answer Base f)
  unopened_base store.Disk h = base_failed h.0
  unopened_base (store.BadImage at) h = tt
  unopened_base (store.NoSpace used need limit) h = absurd h
  unopened_base (store.Worn limit) h = absurd h
  unopened_base store.NoMemory h = tt

  unread : (f : StoreFault) → ReadFails f old.stores.cache new.stores.cache
      → IsSoIf new (store_answer Cache f)
  unread store.Disk h = cache_failed h.0.rose
  unread (store.BadImage at) h = absurd h
  unread (store.NoSpace used need limit) h = absurd h
  unread (store.Worn limit) h = absurd h
  unread store.NoMemory h = tt

  uncommitted : (changes : List Change) (f : StoreFault)
      → Commits changes old.stores.cache new.stores.cache (Err f)
      → IsSoIf new (store_answer Cache f)
  uncommitted changes store.Disk h = cache_failed h.committed.fails.rose
  uncommitted changes (store.BadImage at) h = absurd h.committed
  uncommitted changes (store.NoSpace used need limit) h = h.over used need limit refl
  uncommitted changes (store.Worn limit) h = h.committed.2
  uncommitted changes store.NoMemory h = tt

  cache_so : (f : OpenFault) → OpensCache old new (Err f) → IsSoIf new (open_answer Cache f)
  cache_so (opening.Store f) h = unopened_cache f h.comes.1
  cache_so (opening.BadRecord name) h = tt
  cache_so (opening.Sums f) h = tt
  cache_so (opening.OtherEpoch e) h = tt

  base_so : (f : OpenFault) → OpensBase old new (Err f) → IsSoIf new (open_answer Base f)
  base_so (opening.Store f) h = unopened_base f h.comes.1
  base_so (opening.BadRecord name) h = tt
  base_so (opening.Sums f) h = tt
  base_so (opening.OtherEpoch e) h = tt

  raise_so : (f : RaiseFault) → Raises old new (Err f) → IsSoIf new (raise_answer f)
  raise_so (raising.Worn limit) h = h.0
  raise_so (raising.Read (cached.Store f)) h = unread f h.1
  raise_so (raising.Read (cached.BadRecord name)) h = tt
  raise_so (raising.Commit f) h = uncommitted (epoch_put (next_epoch old)) f h.put

  start_so : (f : StartFault) → FailsBy f old new → IsSoIf new (start_answer f)
  start_so (start.Cache f) h = cache_so f h
  start_so (start.Base f) h = base_so f h
  start_so (start.Raise f) h = raise_so f h

-- ---- all of it

module _ (n : StartStep) (line call : Option ℕ) (f : StartFault) (old new : GroupView)
    (h : Starts n line call old new (started.Failed f)) where
  fails : FailsBy f old new
  fails = failed_by n line call f old new h.makes

  pub same_calls : new.calls.entries ≡ old.calls.entries
  same_calls = (silent old new f fails).entries

  pub failed_so : IsWhole old → length new.log.answers ≤ entries_limit → IsSoIf new (start_answer f)
  failed_so whole few = start_so old new whole (silent old new f fails).log few f fails

-- ---- who may be told so

-- the answer to a fault, if there is one, is one of these
abbrev Each : (Answer → Bool) → Option Answer → Type 0
Each test None = Unit {0}
Each test (Some x) = test x ≡ true

store_reads : (p : Pool) (f : StoreFault) → is_hard_store f ≡ false
    → Each is_reading_fault (store_answer p f)
store_reads p store.Disk h = refl
store_reads p (store.BadImage at) h = absurd (true≢false h)
store_reads p (store.NoSpace used need limit) h = absurd (true≢false h)
store_reads p (store.Worn limit) h = refl
store_reads p store.NoMemory h = tt

open_reads : (p : Pool) (f : OpenFault) → is_hard_open f ≡ false
    → Each is_reading_fault (open_answer p f)
open_reads p (opening.Store f) h = store_reads p f h
open_reads p (opening.BadRecord name) h = refl
open_reads p (opening.Sums f) h = tt
open_reads p (opening.OtherEpoch e) h = tt

raise_reads : (f : RaiseFault) → is_hard_raise f ≡ false → Each is_reading_fault (raise_answer f)
raise_reads (raising.Worn limit) h = refl
raise_reads (raising.Read (cached.Store f)) h = store_reads Cache f h
raise_reads (raising.Read (cached.BadRecord name)) h = refl
raise_reads (raising.Commit f) h = store_reads Cache f h

start_reads : (f : StartFault) → is_hard f ≡ false → Each is_reading_fault (start_answer f)
start_reads (start.Cache f) h = open_reads Cache f h
start_reads (start.Base f) h = open_reads Base f h
start_reads (start.Raise f) h = raise_reads f h

-- every call may be told a fault that is not hard
pub reads_by : (f : StartFault) (x : Answer) → is_hard f ≡ false → Some x ≡ start_answer f
    → is_reading_fault x ≡ true
reads_by f x h is = subst (Each is_reading_fault) (sym is) (start_reads f h)

-- a start may be told each
store_starts : (p : Pool) (f : StoreFault) → Each is_start_fault (store_answer p f)
store_starts p store.Disk = refl
store_starts p (store.BadImage at) = refl
store_starts p (store.NoSpace used need limit) = refl
store_starts p (store.Worn limit) = refl
store_starts p store.NoMemory = tt

open_starts : (p : Pool) (f : OpenFault) → Each is_start_fault (open_answer p f)
open_starts p (opening.Store f) = store_starts p f
open_starts p (opening.BadRecord name) = refl
open_starts p (opening.Sums f) = tt
open_starts p (opening.OtherEpoch e) = tt

raise_starts : (f : RaiseFault) → Each is_start_fault (raise_answer f)
raise_starts (raising.Worn limit) = refl
raise_starts (raising.Read (cached.Store f)) = store_starts Cache f
raise_starts (raising.Read (cached.BadRecord name)) = refl
raise_starts (raising.Commit f) = store_starts Cache f

start_starts : (f : StartFault) → Each is_start_fault (start_answer f)
start_starts (start.Cache f) = open_starts Cache f
start_starts (start.Base f) = open_starts Base f
start_starts (start.Raise f) = raise_starts f

pub starts_by : (f : StartFault) (x : Answer) → Some x ≡ start_answer f → is_start_fault x ≡ true
starts_by f x is = subst (Each is_start_fault) (sym is) (start_starts f)

-- a call may be told a fault that is not hard, or where it goes on over several steps
pub told_kind : (asked : Asked) (f : StartFault) (x : Answer) (brief : Bool)
    → brief ≡ is_brief asked → is_untold_to brief f ≡ false
    → Some x ≡ start_answer f → may_answer asked x ≡ true
told_kind asked f x brief is told at = by (is_untold f) (is_hard f) refl brief refl told
  where
    by : (u h : Bool) → is_hard f ≡ h → (b : Bool) → brief ≡ b → (u || (h && b)) ≡ false
        → may_answer asked x ≡ true
    by true h hard b same k = absurd (true≢false k)
    by false false hard b same k = every_call asked x (reads_by f x hard at)
    by false true hard true same k = absurd (true≢false k)
    by false true hard false same k = lasting_call asked x (sym is ∙ same) (starts_by f x at)
