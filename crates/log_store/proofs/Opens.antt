-- What the opening of a log leaves and finds, from what its steps do.
use Rattle.std.specs.Prelude.{◌≡◌, ◌≢◌, ◌<◌, ◌+◌, ◌^◌, ℕ, Bool, List, slice_index, Option, Some, None, Result, Ok, Err, IfOk, IfErr, refl}
use Rattle.std.proofs.Common.{◌∙◌, sym, subst, inl, inr}
use Rattle.obj_model.specs.declared.change.Pool.{Pool}
use Rattle.tier_outside.specs.Disk.{DiskMoment, IsImage, Restarts, IsSettled}
use Rattle.tier_outside.specs.DiskMoments.{last, Now, Then, grown, Leaves, SomeImage}
use Rattle.tier_outside.proofs.DiskMoments.{now_weaker, now_both}
use Rattle.gate_journal.specs.declared.journal.Journal.{Journal}
use Rattle.gate_journal.proofs.Steps.{leaves_both, leaves_weaker}
use Rattle.pool_map.specs.Pools.{PoolView}
use Rattle.store_face.specs.declared.fault.StoreFault.{StoreFault}
use Rattle.store_face.specs.declared.fault.StoreFault.TheVariants as store
use Rattle.log_image.specs.Calls.{Held, ReadEnds}
use Rattle.log_image.specs.Fronts.{FrontIs, IsBad, IsHeaded, IsMisheaded, IsNoLog, IsOf, IsUnwritten}
use Rattle.store_face.specs.Views.{Durable}
use Rattle.log_image.specs.Images.{HoldsLog, IsBlank, IsHalfOpen}
use Rattle.log_image.specs.Standing.{BlankOrNew, LogStands}
use Rattle.log_image.specs.declared.front.Front.TheVariants.{Blank, HalfOpen, Bad, Headed}
use Rattle.log_image.proofs.Heads.{head_passes}
use Rattle.log_image.proofs.LogLaws.{a_log_is_headed, a_log_is_not_refused, one_log}
use Rattle.log_image.proofs.Stands.{held_stands}
use Rattle.log_store.specs.Opens.{NotReread, OpensAs, OpeningStops}

-- a disk that tells does not fall silent
no_more : (ds : List DiskMoment) (Q : DiskMoment → List ℕ → Type 0) → Leaves (Some ds) None Q → ⊥
no_more ds Q left = impossible left.grew
  where
    impossible : None ≡ grown (Some ds) left.more → ⊥
    impossible same = cc

-- what a restarted disk reads as was left of it
pub left_of : (a b : Option (List DiskMoment)) (P : List ℕ → Type 0) → Leaves a b IsImage → Then a b Restarts → Now b (λ e. P e.content) → SomeImage a P
left_of None b P left back now = tt
left_of (Some ds) None P left back now = absurd (no_more ds IsImage left)
left_of (Some ds) (Some es) P left back now = ((last es).content, back.image, now)

-- ---- what the first bytes tell

pub headed_now : (role : Pool) (found pair : ℕ) (b : Option (List DiskMoment)) → found ≡ pair → Now b (λ d. FrontIs role d.content (Headed found)) → Now b (λ d. IsHeaded role pair d.content)
headed_now role found pair b same front = subst (λ n. Now b (λ d. IsHeaded role n d.content)) same front

pub unwritten_blank : (role : Pool) (pair : ℕ) (zeroed : Bool) (b : Option (List DiskMoment)) → Now b (λ d. FrontIs role d.content (Blank zeroed)) → Now b (λ d. IsBlank role pair d.content)
unwritten_blank role pair zeroed b front =
    now_weaker b (λ d. IsUnwritten d.content zeroed) (λ d. IsBlank role pair d.content) (λ d is. elim is.blank [
      | inl short ↦ inl short
      | inr zero ↦ inr (inl zero)
    ]) front

pub half_blank : (role : Pool) (found pair : ℕ) (b : Option (List DiskMoment)) → found ≡ pair → Now b (λ d. FrontIs role d.content (HalfOpen found)) → Now b (λ d. IsBlank role pair d.content)
half_blank role found pair b same front =
    now_weaker b (λ d. IsHalfOpen role found d.content) (λ d. IsBlank role pair d.content) (λ d is. inr (inr (subst (λ n. IsHalfOpen role n d.content) same is))) front

pub first_open : (role : Pool) (found : ℕ) (b : Option (List DiskMoment)) → Now b (λ d. FrontIs role d.content (Headed found)) → Now b (λ d. slice_index d.content 0 ≡ 1)
first_open role found b front = now_weaker b (λ d. IsHeaded role found d.content) (λ d. slice_index d.content 0 ≡ 1) (λ d is. (head_passes role d.content is.tested).opened) front

-- ---- what a stop leaves

-- nothing was written
pub opening_read : (role : Pool) (pair : ℕ) (a b c : Option (List DiskMoment)) → Leaves a b IsImage → c ≡ b → Leaves a c (OpeningStops role pair)
opening_read role pair a b c left same =
    subst (λ ms. Leaves a ms (OpeningStops role pair)) (sym same) (leaves_weaker a b IsImage (OpeningStops role pair) (λ d image is. inl is) left)

-- a blank disk was written
pub opening_made : (role : Pool) (pair : ℕ) (a b c : Option (List DiskMoment)) → Leaves a b IsImage → Then a b Restarts → Now b (λ e. IsBlank role pair e.content)
    → Leaves b c (λ d image. BlankOrNew role pair image) → Leaves a c (OpeningStops role pair)
opening_made role pair a b c left back blank made =
    leaves_both a b c (OpeningStops role pair) (λ d image. BlankOrNew role pair image) (λ d e. Restarts d e × IsBlank role pair e.content)
    (opening_read role pair a b b left refl) (both a b back blank) made
    (λ d e image both new. inr (e.content, both.0.image, both.1, new))
  where
    both : (a b : Option (List DiskMoment)) → Then a b Restarts → Now b (λ e. IsBlank role pair e.content) → Then a b (λ d e. Restarts d e × IsBlank role pair e.content)
    both None b back blank = tt
    both (Some ds) None back blank = tt
    both (Some ds) (Some es) back blank = (back, blank)

-- ---- what was read

pub read_holds : (role : Pool) (pair : ℕ) (journal : Journal) (map : PoolView) (a b : Option (List DiskMoment)) → Leaves a b IsImage → Then a b Restarts → Now b (λ d. IsHeaded role pair d.content)
    → Held b journal map → SomeImage a (λ image. HoldsLog role pair image (record { table = map.table; used = journal.next + 1 }))
read_holds role pair journal map a b left back headed held =
    left_of a b (λ image. HoldsLog role pair image (record { table = map.table; used = journal.next + 1 })) left back
    (now_weaker b (λ d. IsHeaded role pair d.content × ((role : Pool) (pair : ℕ) → IsHeaded role pair d.content → HoldsLog role pair d.content (record { table = map.table; used = journal.next + 1 })))
    (λ d. HoldsLog role pair d.content (record { table = map.table; used = journal.next + 1 })) (λ d both. both.1 role pair both.0)
    (now_both b (λ d. IsHeaded role pair d.content) (λ d. (role : Pool) (pair : ℕ) → IsHeaded role pair d.content → HoldsLog role pair d.content (record { table = map.table; used = journal.next + 1 })) headed held.holds))

pub left_weaker : (a : Option (List DiskMoment)) (P Q : List ℕ → Type 0) → ((image : List ℕ) → P image → Q image) → SomeImage a P → SomeImage a Q
left_weaker a P Q weaker left =
    now_weaker a (λ d. (image : List ℕ) × IsImage d image × P image) (λ d. (image : List ℕ) × IsImage d image × Q image) (λ d is. (is.0, is.1, weaker is.0 is.2)) left

pub read_opens : (role : Pool) (pair : ℕ) (journal : Journal) (map : PoolView) (a b : Option (List DiskMoment)) → Leaves a b IsImage → Then a b Restarts → Now b (λ d. IsHeaded role pair d.content)
    → Held b journal map → SomeImage a (OpensAs role pair (record { table = map.table; used = journal.next + 1 }))
read_opens role pair journal map a b left back headed held =
    left_weaker a (λ image. HoldsLog role pair image (record { table = map.table; used = journal.next + 1 })) (OpensAs role pair (record { table = map.table; used = journal.next + 1 }))
    (λ image is. inr is) (read_holds role pair journal map a b left back headed held)

pub read_stands : (role : Pool) (pair : ℕ) (journal : Journal) (map : PoolView) (b c : Option (List DiskMoment)) → c ≡ b → Now b IsSettled → Now b (λ d. IsHeaded role pair d.content)
    → Held b journal map → Now c (LogStands role pair journal map.table)
read_stands role pair journal map b c same settled headed held =
    subst (λ ms. Now ms (LogStands role pair journal map.table)) (sym same) (held_stands role pair b journal map held settled headed)

pub read_bad : (role : Pool) (pair at : ℕ) (a b : Option (List DiskMoment)) → Leaves a b IsImage → Then a b Restarts → Now b (λ d. IsHeaded role pair d.content) → Now b (λ d. IsNoLog d.content at)
    → SomeImage a (λ image. IsBad role pair image at)
read_bad role pair at a b left back headed none =
    left_of a b (λ image. IsBad role pair image at) left back
    (now_weaker b (λ d. IsHeaded role pair d.content × IsNoLog d.content at) (λ d. IsBad role pair d.content at) (λ d both. inr both)
    (now_both b (λ d. IsHeaded role pair d.content) (λ d. IsNoLog d.content at) headed none))

pub of_other : (role : Pool) (found : ℕ) (a b : Option (List DiskMoment)) → Leaves a b IsImage → Then a b Restarts → Now b (λ d. FrontIs role d.content (Headed found)) → SomeImage a (IsOf role found)
of_other role found a b left back front =
    left_of a b (IsOf role found) left back (now_weaker b (λ d. IsHeaded role found d.content) (λ d. IsOf role found d.content) (λ d is. inr is) front)

-- ---- what holds no log of the pool and pair

abbrev pub HoldsNone : Pool → ℕ → List ℕ → Type 0
HoldsNone role pair image = (log : Durable) → ¬ HoldsLog role pair image log

pub none_blank : (role : Pool) (pair : ℕ) (a b : Option (List DiskMoment)) → pair < 2 ^ 64 → Leaves a b IsImage → Then a b Restarts → Now b (λ d. IsBlank role pair d.content)
    → SomeImage a (HoldsNone role pair)
none_blank role pair a b fits left back blank =
    left_of a b (HoldsNone role pair) left back
    (now_weaker b (λ d. IsBlank role pair d.content) (λ d. HoldsNone role pair d.content) (λ d is log holds. (a_log_is_headed role pair d.content log holds fits).used (pair, is)) blank)

pub none_half : (role : Pool) (pair found : ℕ) (a b : Option (List DiskMoment)) → pair < 2 ^ 64 → Leaves a b IsImage → Then a b Restarts → Now b (λ d. FrontIs role d.content (HalfOpen found))
    → SomeImage a (HoldsNone role pair)
none_half role pair found a b fits left back front =
    left_of a b (HoldsNone role pair) left back
    (now_weaker b (λ d. IsHalfOpen role found d.content) (λ d. HoldsNone role pair d.content)
    (λ d is log holds. (a_log_is_headed role pair d.content log holds fits).used (found, inr (inr is))) front)

pub none_bad : (role : Pool) (pair at : ℕ) (a b : Option (List DiskMoment)) → pair < 2 ^ 64 → Leaves a b IsImage → Then a b Restarts → Now b (λ d. FrontIs role d.content (Bad at))
    → SomeImage a (HoldsNone role pair)
none_bad role pair at a b fits left back front =
    left_of a b (HoldsNone role pair) left back
    (now_weaker b (λ d. IsMisheaded role d.content at) (λ d. HoldsNone role pair d.content)
    (λ d is log holds. a_log_is_not_refused role pair d.content log at holds fits (inl is)) front)

pub none_other : (role : Pool) (pair found : ℕ) (a b : Option (List DiskMoment)) → pair < 2 ^ 64 → found ≢ pair → Leaves a b IsImage → Then a b Restarts
    → Now b (λ d. FrontIs role d.content (Headed found)) → SomeImage a (HoldsNone role pair)
none_other role pair found a b fits other left back front =
    left_of a b (HoldsNone role pair) left back
    (now_weaker b (λ d. IsHeaded role found d.content) (λ d. HoldsNone role pair d.content)
    (λ d is log holds. other (sym is.pair_is ∙ (a_log_is_headed role pair d.content log holds fits).pair_is)) front)

pub none_read : (role : Pool) (pair at : ℕ) (a b : Option (List DiskMoment)) → pair < 2 ^ 64 → Leaves a b IsImage → Then a b Restarts → Now b (λ d. IsHeaded role pair d.content)
    → Now b (λ d. IsNoLog d.content at) → SomeImage a (HoldsNone role pair)
none_read role pair at a b fits left back headed none =
    left_weaker a (λ image. IsBad role pair image at) (HoldsNone role pair) (λ image is log holds. a_log_is_not_refused role pair image log at holds fits is)
    (read_bad role pair at a b left back headed none)

-- ---- a log that is read anew, by how the reading ends

pub reread_holds : (role : Pool) (pair : ℕ) (result : Result (Journal × PoolView) StoreFault) (failed : Type 0) (a b : Option (List DiskMoment)) → Leaves a b IsImage → Then a b Restarts
    → Now b (λ d. IsHeaded role pair d.content) → ReadEnds b failed result
    → IfOk result (λ opened. SomeImage a (λ image. HoldsLog role pair image (record { table = opened.1.table; used = opened.0.next + 1 })))
reread_holds role pair (Ok held) failed a b left back headed ends = read_holds role pair held.0 held.1 a b left back headed ends
reread_holds role pair (Err fault) failed a b left back headed ends = tt

pub reread_stands : (role : Pool) (pair : ℕ) (result : Result (Journal × PoolView) StoreFault) (failed : Type 0) (b c : Option (List DiskMoment)) → c ≡ b → Now b IsSettled
    → Now b (λ d. IsHeaded role pair d.content) → ReadEnds b failed result → IfOk result (λ opened. Now c (LogStands role pair opened.0 opened.1.table))
reread_stands role pair (Ok held) failed b c same settled headed ends = read_stands role pair held.0 held.1 b c same settled headed ends
reread_stands role pair (Err fault) failed b c same settled headed ends = tt

pub reread_refused : (role : Pool) (pair : ℕ) (result : Result (Journal × PoolView) StoreFault) (failed failed2 : Type 0) (a b : Option (List DiskMoment)) → pair < 2 ^ 64 → (failed → failed2)
    → Leaves a b IsImage → Then a b Restarts → Now b (λ d. IsHeaded role pair d.content) → ReadEnds b failed result → IfErr result (NotReread role pair a failed2)
reread_refused role pair (Ok held) failed failed2 a b fits later left back headed ends = tt
reread_refused role pair (Err store.Disk) failed failed2 a b fits later left back headed ends = later ends
reread_refused role pair (Err (store.BadImage at)) failed failed2 a b fits later left back headed ends = none_read role pair at a b fits left back headed ends
reread_refused role pair (Err store.NoMemory) failed failed2 a b fits later left back headed ends = tt
reread_refused role pair (Err (store.NoSpace used need limit)) failed failed2 a b fits later left back headed ends = ends
reread_refused role pair (Err (store.Worn limit)) failed failed2 a b fits later left back headed ends = ends

-- ---- a log that is opened

-- what a log holds is what it is opened with
pub goes_on : (role : Pool) (pair : ℕ) (image : List ℕ) (log opened : Durable) → pair < 2 ^ 64 → HoldsLog role pair image log → OpensAs role pair opened image → opened ≡ log
goes_on role pair image log opened fits holds (inl new) = absurd ((a_log_is_headed role pair image log holds fits).used (pair, new.0))
goes_on role pair image log opened fits holds (inr also) = one_log role pair image opened log also holds
