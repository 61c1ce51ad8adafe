-- The clauses of a store's calls, over the maps that a stop may leave.
use Rattle.std.proofs.Common.{◌≡◌, ◌⊎◌, inl, inr, false, true, List, [], Option, Some, None, Ok, Err, refl, sym, subst, arith}
use Rattle.obj_model.specs.declared.change.Change.{Change}
use Rattle.pool_keys.specs.Laws.{IsLeftOrChanged}
use Rattle.pool_keys.specs.Left.{AreTold, IsBeforeBy, IsLeft, IsLeftBy, IsLeftSince}
use Rattle.pool_keys.proofs.Leaving as leaving
use Rattle.store_face.specs.Calls.{Among, Made, MayBeMade}
use Rattle.store_face.specs.Tables.{Table, changed_by}
use Rattle.store_face.specs.Views.{CrashMaps, Holds, Sound, StoreView, no_map}
use Rattle.store_face.specs.declared.fault.StoreFault.TheVariants.{Disk, NoMemory}
use Rattle.tier_outside.specs.Moments.{Grows, Now, last}
use Rattle.tier_outside.proofs.Moments.{grown_none}
use Rattle.tier_join.specs.Steps.{Has}

-- ---- a commit

-- a map that is left, with changes
abbrev pub FromLeft : List Change → StoreView → Table → Type 0
FromLeft cs old t = (u : Table) × IsLeft old u × (t ≡ changed_by u cs)

before_by : (m : Option (List CrashMaps)) (t : Table) → IsBeforeBy m t → IsLeftBy m t
before_by None t h = h
before_by (Some ss) t h = inl h

from_left : (cs : List Change) (old : StoreView) (t : Table) → IsLeftOrChanged cs old t → IsLeft old t ⊎ FromLeft cs old t
from_left cs old t (inl was) = inl was
from_left cs old t (inr changed) = inr (changed.was, before_by old.moments changed.was changed.before, changed.is)

-- since a commit began a stop leaves a map that it left before, or one of these with the changes
pub made_since : (cs : List Change) (old new : StoreView) → Made cs old new → (t : Table) → IsLeftSince old new t → IsLeft old t ⊎ FromLeft cs old t
made_since cs old new made t h = from_left cs old t (leaving.commit_leaves cs old new (Ok tt) made t h)

pub torn_since : (cs : List Change) (old new : StoreView) → MayBeMade cs old new → (t : Table) → IsLeftSince old new t → IsLeft old t ⊎ FromLeft cs old t
torn_since cs old new may t h = from_left cs old t (leaving.commit_leaves cs old new (Err Disk) may t h)

-- once it was made a stop leaves a map that it left before, with the changes
pub made_left : (cs : List Change) (old new : StoreView) → Made cs old new → (t : Table) → IsLeft new t → FromLeft cs old t
made_left cs old new made t h =
    let changed = leaving.made_leaves cs old new made t h in
    (changed.was, before_by old.moments changed.was changed.before, changed.is)

-- ---- a store that is opened anew, or rests

-- Since a store's opening began a stop leaves what it left before. What the store is otherwise
-- does not matter, so it is taken for one whose opening found no memory.
pub among_since : (old new : StoreView) → Among old new → (t : Table) → IsLeftSince old new t → IsLeft old t
among_since old new among t h =
    leaving.reopening_leaves old (record old { moments = new.moments; live = false }) (Err NoMemory) (among, record { live = refl; room = refl; used = refl; later = omega arith }) t h

-- where no moment came a stop leaves since what it left before
pub rests_since : (old new : StoreView) → new.moments ≡ old.moments → (t : Table) → IsLeftSince old new t → IsLeft old t
rests_since old new same t h =
    (leaving.reading_leaves [] old (record old { moments = new.moments }) (Err NoMemory) (record { moments = same; live = refl; room = refl; used = refl; later = omega arith })).since t h

-- what it leaves now it leaves since
pub now_since : (old new : StoreView) (P : CrashMaps → CrashMaps → Type 0) → Grows no_map old.moments new.moments P → (t : Table) → IsLeft new t → IsLeftSince old new t
now_since old new P grows t h = leaving.now_since old new grows.more grows.grew t h

pub rests_now : (s : StoreView) (t : Table) → IsLeft s t → IsLeftSince s s t
rests_now s t h = leaving.now_since s s [] (grown_none s.moments) t h

-- what a stop leaves now it left before
pub rests_left : (old new : StoreView) → new.moments ≡ old.moments → (t : Table) → IsLeft new t → IsLeft old t
rests_left old new same t h = subst (λ m. IsLeftBy m t) same h

-- ---- stores that tell

-- a store tells where it told
pub tells_on : (old new : StoreView) (P : CrashMaps → CrashMaps → Type 0) → Grows no_map old.moments new.moments P → (AreTold old.moments → AreTold new.moments) × (AreTold new.moments → AreTold old.moments)
tells_on old new P grows = let on = leaving.tells_on old new grows.more grows.grew in (on.1, on.0)

some_by : (m : Option (List CrashMaps)) → AreTold m → (t : Table) × IsLeftBy m t
some_by None told = absurd told
some_by (Some ss) told = ((last no_map ss).before.table, inl refl)

-- a store that tells leaves some map
pub some_left : (s : StoreView) → AreTold s.moments → (t : Table) × IsLeft s t
some_left s told = some_by s.moments told

-- ---- what was read

before_has : (m : Option (List CrashMaps)) (P : Table → Type 0) → Now no_map m (λ s. P s.before.table) → (t : Table) → IsBeforeBy m t → P t
before_has None P holds t h = absurd h
before_has (Some ss) P holds t h = subst P (sym h) holds

-- what a live store's one map has, each map has that a stop leaves
pub read_is_left : (s : StoreView) (P : Table → Type 0) → Sound s → s.live ≡ true → Holds s P → Has s P
read_is_left s P sound live holds t h = before_has s.moments P holds t ((leaving.live_one s sound live).before t h)
