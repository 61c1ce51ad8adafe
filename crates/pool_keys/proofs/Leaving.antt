-- What the calls of a store say of the maps that a stop may leave.
use Rattle.std.proofs.Common.{◌≡◌, ◌⊎◌, inl, inr, ℕ, List, [], ◌∷◌, ◌++◌, length, drop, Option, Some, None, Ok, Err, refl, sym, ap, subst, ◌∙◌}
use Rattle.std.proofs.lemmas.List.{append-nil}
use Rattle.std.specs.FinMap as fin
use Rattle.tier_outside.specs.Moments.{Each, Now as NowBy, grown, last}
use Rattle.tier_outside.proofs.Moments.{grown_none, last_behind}
use Rattle.obj_model.specs.declared.change.Change.{Change}
use Rattle.store_face.specs.Calls.{Between, Both}
use Rattle.store_face.specs.Rooms.{Room}
use Rattle.store_face.specs.Tables.{Table, changed_by}
use Rattle.store_face.specs.Views.{CrashMaps, Durable, IsBehind, IsOne, StoreView, no_map}
use Rattle.store_face.specs.declared.fault.StoreFault.TheVariants.{Disk, BadImage, NoSpace, Worn, NoMemory}
use Rattle.pool_keys.specs.Laws.{CommitsLeave, DoneLeaves, IsChanged, IsLeftOrChanged, LiveHasOne, NowIsSince, ReadingsLeave, ReopeningsLeave, TellsOn}
use Rattle.pool_keys.specs.Left.{AreTold, HaveSide, IsBeforeBy, IsLeftBy, IsLeftSinceBy, IsSide}

abbrev Moments : Type 0
Moments = Option (List CrashMaps)

drop_behind : (ss more : List CrashMaps) → drop (length ss) (ss ++ more) ≡ more
drop_behind [] more = refl
drop_behind (s ∷ ss) more = drop_behind ss more

-- what came since is what was added
came : (ss ts more : List CrashMaps) (t : Table) → Some ts ≡ grown (Some ss) more → HaveSide (drop (length ss) ts) t → HaveSide more t
came ss ts more t grew have =
    let e : ts ≡ ss ++ more = cc in
    subst (λ l. HaveSide l t) (ap (drop (length ss)) e ∙ drop_behind ss more) have

-- each moment leaves what P says, so a map that one of them leaves has it
have_each : (more : List CrashMaps) (P : Table → Type 0) (t : Table) → Each more (λ s. (u : Table) → IsSide s u → P u) → HaveSide more t → P t
have_each [] P t each have = absurd have
have_each (s ∷ more) P t each (inl side) = each.0 t side
have_each (s ∷ more) P t each (inr have) = have_each more P t each.1 have

each_weaker : (more : List CrashMaps) (P Q : CrashMaps → Type 0) → ((s : CrashMaps) → P s → Q s) → Each more P → Each more Q
each_weaker [] P Q weaker each = tt
each_weaker (s ∷ more) P Q weaker each = (weaker s each.0, each_weaker more P Q weaker each.1)

-- ---- a commit

from_durable : (room : Room) (changes : List Change) (d e : Durable) → (e ≡ d) ⊎ IsBehind room changes d e
    → (e.table ≡ d.table) ⊎ (e.table ≡ changed_by d.table changes)
from_durable room changes d e (inl same) = inl (ap (λ x. x.table) same)
from_durable room changes d e (inr behind) = inr behind.table

via : (t x a b : Table) → t ≡ x → (x ≡ a) ⊎ (x ≡ b) → (t ≡ a) ⊎ (t ≡ b)
via t x a b e (inl f) = inl (e ∙ f)
via t x a b e (inr f) = inr (e ∙ f)

torn_side : (room : Room) (changes : List Change) (was s : CrashMaps) → Both (λ d. (d ≡ was.before) ⊎ IsBehind room changes was.before d) s
    → (t : Table) → IsSide s t → (t ≡ was.before.table) ⊎ (t ≡ changed_by was.before.table changes)
torn_side room changes was s both t (inl e) = via t s.before.table _ _ e (from_durable room changes was.before s.before both.before)
torn_side room changes was s both t (inr e) = via t s.after.table _ _ e (from_durable room changes was.before s.after both.after)

-- the map before with the changes, over moments alone
abbrev ChangedBy : List Change → Moments → Table → Type 0
ChangedBy changes a t = (u : Table) × IsBeforeBy a u × (t ≡ changed_by u changes)

old_or_changed : (ss : List CrashMaps) (changes : List Change) (t : Table)
    → (t ≡ (last no_map ss).before.table) ⊎ (t ≡ changed_by (last no_map ss).before.table changes)
    → IsLeftBy (Some ss) t ⊎ ChangedBy changes (Some ss) t
old_or_changed ss changes t (inl same) = inl (inl same)
old_or_changed ss changes t (inr changed) = inr ((last no_map ss).before.table, refl, changed)

-- the moments of a commit, done or failed
since_commit : (room : Room) (changes : List Change) (a b : Moments) (more : List CrashMaps) → b ≡ grown a more
    → NowBy no_map a (λ was. Each more (Both (λ d. (d ≡ was.before) ⊎ IsBehind room changes was.before d)))
    → (t : Table) → IsLeftSinceBy a b t → IsLeftBy a t ⊎ ChangedBy changes a t
since_commit room changes None b more grew each t h = absurd h
since_commit room changes (Some ss) None more grew each t h = absurd h
since_commit room changes (Some ss) (Some ts) more grew each t (inl side) = inl side
since_commit room changes (Some ss) (Some ts) more grew each t (inr have) =
    let was = last no_map ss in
    let either = have_each more (λ u. (u ≡ was.before.table) ⊎ (u ≡ changed_by was.before.table changes)) t
    (each_weaker more (Both (λ d. (d ≡ was.before) ⊎ IsBehind room changes was.before d))
    (λ s. (u : Table) → IsSide s u → (u ≡ was.before.table) ⊎ (u ≡ changed_by was.before.table changes))
    (λ s both. torn_side room changes was s both) each) (came ss ts more t grew have) in
    old_or_changed ss changes t either

-- where no moment came a stop leaves what it left before
since_same : (a b : Moments) → b ≡ a → (t : Table) → IsLeftSinceBy a b t → IsLeftBy a t
since_same None b same t h = absurd h
since_same (Some ss) None same t h = absurd h
since_same (Some ss) (Some ts) same t (inl side) = side
since_same (Some ss) (Some ts) same t (inr have) = absurd (came ss ts [] t (same ∙ grown_none (Some ss)) have)

as_changed : (changes : List Change) (old : StoreView) (t : Table) → ChangedBy changes old.moments t → IsChanged changes old t
as_changed changes old t h = record { was = h.0; before = h.1; is = h.2 }

between_leaves : (changes : List Change) (old new : StoreView) → Between changes old new → (t : Table) → IsLeftSinceBy old.moments new.moments t
    → IsLeftOrChanged changes old t
between_leaves changes old new h t left = elim (since_commit old.room changes old.moments new.moments h.more h.grew h.each t left) [
  | inl before ↦ inl before
  | inr changed ↦ inr (as_changed changes old t changed)
]

pub commit_leaves : CommitsLeave
commit_leaves changes old new (Ok _) h t left = between_leaves changes old new h.between t left
commit_leaves changes old new (Err Disk) h t left = between_leaves changes old new h.between t left
commit_leaves changes old new (Err (BadImage at)) h t left = absurd h
commit_leaves changes old new (Err (NoSpace used need limit)) h t left = since_same old.moments new.moments h.1.moments t left
commit_leaves changes old new (Err (Worn limit)) h t left = since_same old.moments new.moments h.3.moments t left
commit_leaves changes old new (Err NoMemory) h t left = since_same old.moments new.moments h.moments t left

done_by : (room : Room) (changes : List Change) (a b : Moments) (more : List CrashMaps) → b ≡ grown a more
    → NowBy no_map a (λ was. NowBy no_map b (Both (IsBehind room changes was.before)))
    → (t : Table) → IsLeftBy b t → ChangedBy changes a t
done_by room changes a None more grew now t left = absurd left
done_by room changes None (Some ts) more grew now t left = absurd (cc)
done_by room changes (Some ss) (Some ts) more grew now t (inl e) = ((last no_map ss).before.table, refl, e ∙ now.before.table)
done_by room changes (Some ss) (Some ts) more grew now t (inr e) = ((last no_map ss).before.table, refl, e ∙ now.after.table)

pub made_leaves : DoneLeaves
made_leaves changes old new h t left =
    as_changed changes old t (done_by old.room changes old.moments new.moments h.between.more h.between.grew h.now t left)

-- ---- a reading

gave_by : (key : List ℕ) (value : Option (List ℕ)) (a : Moments) → NowBy no_map a (λ s. value ≡ fin.get s.before.table key)
    → (t : Table) → IsBeforeBy a t → value ≡ fin.get t key
gave_by key value None now t h = absurd h
gave_by key value (Some ss) now t h = now ∙ ap (λ u. fin.get u key) (sym h)

pub reading_leaves : ReadingsLeave
reading_leaves key old new (Ok value) h =
    record { same = h.0.moments; since = since_same old.moments new.moments h.0.moments; gave = gave_by key value old.moments h.1 }
reading_leaves key old new (Err Disk) h = record { same = h.1; since = since_same old.moments new.moments h.1; gave = λ t is. tt }
reading_leaves key old new (Err (BadImage at)) h = absurd h
reading_leaves key old new (Err (NoSpace used need limit)) h = absurd h
reading_leaves key old new (Err (Worn limit)) h = absurd h
reading_leaves key old new (Err NoMemory) h = record { same = h.moments; since = since_same old.moments new.moments h.moments; gave = λ t is. tt }

-- ---- a reopening

same_table : (d a b : Durable) → (d ≡ a) ⊎ (d ≡ b) → (d.table ≡ a.table) ⊎ (d.table ≡ b.table)
same_table d a b (inl e) = inl (ap (λ x. x.table) e)
same_table d a b (inr e) = inr (ap (λ x. x.table) e)

among_side : (was s : CrashMaps) → Both (λ d. (d ≡ was.before) ⊎ (d ≡ was.after)) s → (t : Table) → IsSide s t → IsSide was t
among_side was s both t (inl e) = via t s.before.table was.before.table was.after.table e (same_table s.before was.before was.after both.before)
among_side was s both t (inr e) = via t s.after.table was.before.table was.after.table e (same_table s.after was.before was.after both.after)

since_among : (a b : Moments) (more : List CrashMaps) → b ≡ grown a more
    → NowBy no_map a (λ was. Each more (Both (λ d. (d ≡ was.before) ⊎ (d ≡ was.after))))
    → (t : Table) → IsLeftSinceBy a b t → IsLeftBy a t
since_among None b more grew each t h = absurd h
since_among (Some ss) None more grew each t h = absurd h
since_among (Some ss) (Some ts) more grew each t (inl side) = side
since_among (Some ss) (Some ts) more grew each t (inr have) =
    let was = last no_map ss in
    have_each more (IsSide was) t
    (each_weaker more (Both (λ d. (d ≡ was.before) ⊎ (d ≡ was.after))) (λ s. (u : Table) → IsSide s u → IsSide was u) (λ s both. among_side was s both) each)
    (came ss ts more t grew have)

untold : (a b : Moments) → a ≡ None → (t : Table) → IsLeftSinceBy a b t → ⊥
untold None b e t h = h
untold (Some ss) b e t h = absurd (cc)

pub reopening_leaves : ReopeningsLeave
reopening_leaves old new (Ok _) h t left = since_among old.moments new.moments h.among.more h.among.grew h.among.each t left
reopening_leaves old new (Err Disk) h t left = since_among old.moments new.moments h.0.more h.0.grew h.0.each t left
reopening_leaves old new (Err (BadImage at)) h t left = absurd (untold old.moments new.moments h.0 t left)
reopening_leaves old new (Err (NoSpace used need limit)) h t left = absurd h
reopening_leaves old new (Err (Worn limit)) h t left = absurd h
reopening_leaves old new (Err NoMemory) h t left = since_among old.moments new.moments h.0.more h.0.grew h.0.each t left

-- ---- now, and since

have_last : (s : CrashMaps) (more : List CrashMaps) (t : Table) → IsSide (last s more) t → HaveSide (s ∷ more) t
have_last s [] t h = inl h
have_last s (r ∷ more) t h = inr (have_last r more t h)

last_or_new : (ss more : List CrashMaps) (t : Table) → IsSide (last no_map (ss ++ more)) t → IsSide (last no_map ss) t ⊎ HaveSide (drop (length ss) (ss ++ more)) t
last_or_new ss [] t h = inl (subst (λ l. IsSide (last no_map l) t) (append-nil ss) h)
last_or_new ss (s ∷ more) t h =
    inr (subst (λ l. HaveSide l t) (sym (drop_behind ss (s ∷ more))) (have_last s more t (subst (λ w. IsSide w t) (last_behind no_map ss s more) h)))

now_by : (a b : Moments) (more : List CrashMaps) → b ≡ grown a more → (t : Table) → IsLeftBy b t → IsLeftSinceBy a b t
now_by None None more grew t h = absurd h
now_by None (Some ts) more grew t h = absurd (cc)
now_by (Some ss) None more grew t h = absurd h
now_by (Some ss) (Some ts) more grew t h =
    let e : ts ≡ ss ++ more = cc in
    subst (λ l. IsSide (last no_map ss) t ⊎ HaveSide (drop (length ss) l) t) (sym e) (last_or_new ss more t (subst (λ l. IsSide (last no_map l) t) e h))

pub now_since : NowIsSince
now_since old new more grew t h = now_by old.moments new.moments more grew t h

-- ---- a live store

one_side : (used : ℕ) (s : CrashMaps) → IsOne used s → (t : Table) → IsSide s t → t ≡ s.before.table
one_side used s one t (inl e) = e
one_side used s one t (inr e) = e ∙ ap (λ d. d.table) (sym one.same)

only_by : (used : ℕ) (a : Moments) → NowBy no_map a (IsOne used) → (t u : Table) → IsLeftBy a t → IsLeftBy a u → t ≡ u
only_by used None one t u h k = absurd h
only_by used (Some ss) one t u h k = one_side used (last no_map ss) one t h ∙ sym (one_side used (last no_map ss) one u k)

before_by : (used : ℕ) (a : Moments) → NowBy no_map a (IsOne used) → (t : Table) → IsLeftBy a t → IsBeforeBy a t
before_by used None one t h = absurd h
before_by used (Some ss) one t h = one_side used (last no_map ss) one t h

pub live_one : LiveHasOne
live_one v sound live = record { only = only_by v.used v.moments (sound live); before = before_by v.used v.moments (sound live) }

-- ---- telling

told_back : (a b : Moments) (more : List CrashMaps) → b ≡ grown a more → AreTold b → AreTold a
told_back None None more grew h = h
told_back None (Some ts) more grew h = absurd (cc)
told_back (Some ss) b more grew h = tt

told_on : (a b : Moments) (more : List CrashMaps) → b ≡ grown a more → AreTold a → AreTold b
told_on None b more grew h = absurd h
told_on (Some ss) None more grew h = absurd (cc)
told_on (Some ss) (Some ts) more grew h = tt

pub tells_on : TellsOn
tells_on old new more grew = (told_back old.moments new.moments more grew, told_on old.moments new.moments more grew)
