-- What a store is after it was opened anew.
use Rattle.std.specs.Prelude.{◌≡◌, ◌⊎◌, ◌≤◌, ℕ, Bool, true, false, List, [], ◌∷◌, ◌++◌, Option, Some, None, Ok, Err, refl}
use Rattle.std.proofs.Common.{◌∙◌, sym, subst, ap, inl, inr}
use Rattle.std.proofs.lemmas.List.{append-nil}
use Rattle.obj_model.specs.declared.change.Pool.{Pool}
use Rattle.tier_outside.specs.Causes.{Rose}
use Rattle.tier_outside.specs.Disk.{DiskMoment, IsImage}
use Rattle.tier_outside.specs.DiskMoments.{last, grown, Now, Leaves, SomeImage}
use Rattle.tier_outside.specs.Moments as moments
use Rattle.tier_outside.specs.Moments.{told}
use Rattle.tier_outside.proofs.Moments.{last_push}
use Rattle.tier_outside.proofs.DiskMoments.{now_since, now_weaker, since_weaker}
use Rattle.gate_journal.specs.declared.journal.Journal.{Journal}
use Rattle.pool_map.specs.Pools.{PoolView}
use Rattle.store_face.specs.declared.fault.StoreFault.{StoreFault}
use Rattle.store_face.specs.declared.fault.StoreFault.TheVariants as fault
use Rattle.store_face.specs.Calls.{Among, Both, Reopened}
use Rattle.store_face.specs.Limits.{store_limit}
use Rattle.store_face.specs.Views.{CrashMaps, Durable, StoreView, alone, no_map}
use Rattle.log_image.specs.Images.{HoldsLog}
use Rattle.log_image.specs.Standing.{IsLogJournal, LogStands, ends_at}
use Rattle.log_image.proofs.LogLaws.{one_log}
use Rattle.log_image.proofs.Stands.{stands_ended}
use Rattle.log_store.specs.Inner as inner
use Rattle.log_store.specs.Inner.{IsWhole, held}
use Rattle.log_store.specs.Opens.{NotReread}
use Rattle.log_store.specs.Views.{EachHolds, HoldsEither, LogView}
use Rattle.log_store.proofs.Commits.{face, stands_alone, told_grown, view}
use Rattle.log_store.proofs.Opens.{left_weaker}

-- what the disk leaves is what it might have left before
holds_still : (role : Pool) (pair : ℕ) (a b : Option (List DiskMoment)) (s : CrashMaps) → EachHolds role pair a s → Leaves a b IsImage → EachHolds role pair b s
holds_still role pair None b s holds left = subst (λ ms. EachHolds role pair ms s) (sym left.grew) tt
holds_still role pair (Some ds) b s holds left =
    now_since (Some ds) b (HoldsEither role pair s) holds (since_weaker (Some ds) b (IsImage (last ds)) (HoldsEither role pair s) holds left)

-- a store that is not live
pub whole_stopped : (role : Pool) (pair : ℕ) (journal : Journal) (map : PoolView) (a b : Option (List DiskMoment)) (past past2 : List CrashMaps) → IsLogJournal journal
    → map.ready ≡ [] → EachHolds role pair a (inner.last past) → Leaves a b IsImage → past2 ≡ past → IsWhole role pair journal map false b past2
whole_stopped role pair journal map a b past past2 is rested holds left same = record {
  journal_is = is;
  rested = rested;
  holds = holds_still role pair a b (inner.last past2) (subst (λ ss. EachHolds role pair a (inner.last ss)) (sym same) holds) left;
  stands = λ lives. absurd (dead lives);
  one = λ lives. absurd (dead lives);
}
  where
    dead : false ≡ true → ⊥
    dead lives = cc

-- a store whose log was read, or made, and may grow to the end of the room
pub whole_opened : (role : Pool) (pair room : ℕ) (journal : Journal) (map : PoolView) (b : Option (List DiskMoment)) (past : List CrashMaps) → IsLogJournal journal → room ≤ store_limit
    → map.ready ≡ [] → Now b (LogStands role pair journal map.table) → inner.last past ≡ alone (held journal map.table) → IsWhole role pair (ends_at room journal) map true b past
whole_opened role pair room journal map b past is small rested stands now =
    let bounded : IsLogJournal (ends_at room journal) = record { start = is.start; end_most = small; within = is.within } in
    let there : Now b (LogStands role pair (ends_at room journal) map.table) =
    now_weaker b (LogStands role pair journal map.table) (LogStands role pair (ends_at room journal) map.table) (λ d. stands_ended role pair room journal map.table d) stands in
    record {
      journal_is = bounded;
      rested = rested;
      holds = stands_alone role pair (ends_at room journal) map.table b (inner.last past) now bounded there;
      stands = λ lives. there;
      one = λ lives. now;
    }

-- ---- the clauses

-- each of the two is one that a crash would have left
abbrev IsAmong : CrashMaps → CrashMaps → Type 0
IsAmong was = Both (λ d. (d ≡ was.before) ⊎ (d ≡ was.after))

-- no moment more
among_none : (a b : Option (List DiskMoment)) (past past2 : List CrashMaps) (live live2 : Bool) (f f2 r u u2 : ℕ) → Leaves a b IsImage → past2 ≡ past
    → Among (face (told a past) live f r u) (face (told b past2) live2 f2 r u2)
among_none a b past past2 live live2 f f2 r u u2 left same =
    record { more = []; grew = told_grown a b IsImage past past2 [] left (same ∙ sym (append-nil past)); each = each a }
  where
    each : (a : Option (List DiskMoment)) → moments.Now no_map (told a past) (λ was. moments.Each [] (IsAmong was))
    each None = tt
    each (Some ds) = tt

-- an image that holds a log holds one of the two
one_of : (role : Pool) (pair : ℕ) (image : List ℕ) (s : CrashMaps) (d : Durable) → HoldsLog role pair image d → HoldsEither role pair s image → (d ≡ s.before) ⊎ (d ≡ s.after)
one_of role pair image s d log (inl before) = inl (one_log role pair image d s.before log before)
one_of role pair image s d log (inr after) = inr (one_log role pair image d s.after log after)

-- what was read
read_among : (role : Pool) (pair : ℕ) (a b : Option (List DiskMoment)) (past past2 : List CrashMaps) (d : Durable) → inner.last past2 ≡ alone d → EachHolds role pair a (inner.last past)
    → SomeImage a (λ image. HoldsLog role pair image d) → moments.Now no_map (told a past) (λ was. IsAmong was (alone d))
read_among role pair None b past past2 d now holds read = tt
read_among role pair (Some ds) b past past2 d now holds read =
    let found = one_of role pair read.0 (inner.last past) d read.2 (holds read.0 read.1) in
    record { before = found; after = found }

now_among : (a b : Option (List DiskMoment)) (past past2 : List CrashMaps) (d : Durable) → inner.last past2 ≡ alone d → moments.Now no_map (told a past) (λ was. IsAmong was (alone d))
    → moments.Now no_map (told a past) (λ was. moments.Now no_map (told b past2) (IsAmong was))
now_among None b past past2 d now among = tt
now_among (Some ds) None past past2 d now among = tt
now_among (Some ds) (Some es) past past2 d now among = subst (IsAmong (inner.last past)) (sym now) among

each_among : (a : Option (List DiskMoment)) (past : List CrashMaps) (d : Durable) → moments.Now no_map (told a past) (λ was. IsAmong was (alone d))
    → moments.Now no_map (told a past) (λ was. moments.Each (alone d ∷ []) (IsAmong was))
each_among None past d among = tt
each_among (Some ds) past d among = (among, tt)

pub reopened : (old : StoreView) (role : Pool) (pair : ℕ) (a b : Option (List DiskMoment)) (past past2 : List CrashMaps) (d : Durable) (live : Bool) (f f2 r u u2 : ℕ)
    → face (told a past) live f r u ≡ old → Leaves a b IsImage → past2 ≡ past ++ alone d ∷ [] → EachHolds role pair a (inner.last past)
    → SomeImage a (λ image. HoldsLog role pair image d) → f ≤ f2 → Reopened old (face (told b past2) true f2 r u2) (Ok tt)
reopened old role pair a b past past2 d live f f2 r u u2 is left pushed holds read later =
    let here : inner.last past2 ≡ alone d = ap inner.last pushed ∙ last_push no_map past (alone d) in
    let among = read_among role pair a b past past2 d here holds read in
    subst (λ (v : StoreView). Reopened v (face (told b past2) true f2 r u2) (Ok tt)) is record {
      among = record { more = alone d ∷ []; grew = told_grown a b IsImage past past2 (alone d ∷ []) left pushed; each = each_among a past d among };
      now = now_among a b past past2 d here among;
      live = refl;
      room = refl;
      later = later;
    }

-- where the disk tells, what it left was a log
always_log : (role : Pool) (pair : ℕ) (a : Option (List DiskMoment)) (s : CrashMaps) → EachHolds role pair a s → SomeImage a (λ image. (log : Durable) → ¬ HoldsLog role pair image log) → a ≡ None
always_log role pair None s holds none = refl
always_log role pair (Some ds) s holds none = absurd (elim (holds none.0 none.1) [
  | inl before ↦ none.2 s.before before
  | inr after ↦ none.2 s.after after
])

pub not_reopened : (old : StoreView) (why : StoreFault) (role : Pool) (pair : ℕ) (a b : Option (List DiskMoment)) (past past2 : List CrashMaps) (live : Bool) (f f2 r u : ℕ)
    → face (told a past) live f r u ≡ old → Leaves a b IsImage → past2 ≡ past → EachHolds role pair a (inner.last past)
    → NotReread role pair a (Rose f f2) why → f ≤ f2 → Reopened old (face (told b past2) false f2 r u) (Err why)
not_reopened old why role pair a b past past2 live f f2 r u is left same holds ends later =
    subst (λ (v : StoreView). Reopened v (face (told b past2) false f2 r u) (Err why)) is (cases why ends)
  where
    cases : (why : StoreFault) → NotReread role pair a (Rose f f2) why → Reopened (face (told a past) live f r u) (face (told b past2) false f2 r u) (Err why)
    cases fault.Disk ends =
        (among_none a b past past2 live false f f2 r u u left same, record { closes = record { live = refl; room = refl; used = refl; later = later }; rose = ends })
    cases (fault.BadImage at) ends =
        let silent : a ≡ None = always_log role pair a (inner.last past) holds ends in
        let still : b ≡ None = left.grew ∙ ap (λ ms. grown ms left.more) silent in
        (ap (λ ms. told ms past) silent, ap (λ ms. told ms past2) still, record { live = refl; room = refl; used = refl; later = later })
    cases fault.NoMemory ends = (among_none a b past past2 live false f f2 r u u left same, record { live = refl; room = refl; used = refl; later = later })
    cases (fault.NoSpace used need limit) ends = absurd ends
    cases (fault.Worn limit) ends = absurd ends

pub reopened_read : (v : LogView) (a b : Option (List DiskMoment)) (faults : ℕ) (live : Bool) (role : Pool) (pair room used : ℕ) (past past2 : List CrashMaps) (d : Durable)
    → view a faults live role pair room used past ≡ v → past2 ≡ past ++ alone d ∷ [] → SomeImage a (λ image. HoldsLog role pair image d)
    → SomeImage v.disk (λ image. moments.Now no_map (told b past2) (λ s. HoldsLog v.role v.pair image s.before))
reopened_read v a b faults live role pair room used past past2 d is pushed read =
    subst (λ (w : LogView). SomeImage w.disk (λ image. moments.Now no_map (told b past2) (λ s. HoldsLog w.role w.pair image s.before))) is
    (left_weaker a (λ image. HoldsLog role pair image d) (λ image. moments.Now no_map (told b past2) (λ s. HoldsLog role pair image s.before)) (λ image. now image b) read)
  where
    here : inner.last past2 ≡ alone d
    here = ap inner.last pushed ∙ last_push no_map past (alone d)

    now : (image : List ℕ) (b : Option (List DiskMoment)) → HoldsLog role pair image d → moments.Now no_map (told b past2) (λ s. HoldsLog role pair image s.before)
    now image None is = tt
    now image (Some es) is = subst (λ (s : CrashMaps). HoldsLog role pair image s.before) (sym here) is
