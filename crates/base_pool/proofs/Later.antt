-- A call of a store behind one that changed nothing.
use Rattle.std.proofs.Common.{◌≡◌, ◌⊎◌, ◌≤◌, List, Option, None, Some, Result, Ok, Err, sym, subst, ◌∙◌, arith}
use Rattle.tier_outside.specs.Moments as moments
use Rattle.obj_model.specs.declared.change.Change.{Change}
use Rattle.store_face.specs.Calls.{Both, Committed, Made, MayBeMade, Opens, Stays}
use Rattle.store_face.specs.Rooms.{IsWornOut, Lack}
use Rattle.store_face.specs.Views.{CrashMaps, Lacks, Now, StoreView, no_map}
use Rattle.store_face.specs.declared.fault.StoreFault.{StoreFault}
use Rattle.store_face.specs.declared.fault.StoreFault.TheVariants.{Disk, BadImage, NoSpace, Worn, NoMemory}
use Rattle.store_face.proofs.Later.{fails_later, stays_twice}

-- what is said of a store's room, of what is used of it, and of its moments
pub as_before : (P : StoreView → Type 0) (a b : StoreView) → Stays a b → P b
    → P (record { moments = a.moments; live = b.live; faults = b.faults; room = a.room; used = a.used })
as_before P a b h p =
    subst (λ r. P (record { moments = a.moments; live = b.live; faults = b.faults; room = r; used = a.used })) h.room
    (subst (λ u. P (record { moments = a.moments; live = b.live; faults = b.faults; room = b.room; used = u })) h.used
    (subst (λ ms. P (record { moments = ms; live = b.live; faults = b.faults; room = b.room; used = b.used })) h.moments p))

pub lacks_later : (a b : StoreView) (changes : List Change) (lack : Option Lack) → Stays a b → Lacks b changes lack → Lacks a changes lack
lacks_later a b changes lack h l = as_before (λ v. Lacks v changes lack) a b h l

pub made_later : (a b c : StoreView) (changes : List Change) → Stays a b → Made changes b c → Made changes a c
made_later a b c changes h made =
    let x = as_before (λ v. Made changes v c) a b h made in
    record { fits = x.fits; between = x.between; now = x.now; live = x.live; room = x.room; used = x.used; later = omega (arith, h.later, made.later) }

pub may_be_later : (a b c : StoreView) (changes : List Change) → Stays a b → MayBeMade changes b c → MayBeMade changes a c
may_be_later a b c changes h may =
    let x = as_before (λ v. MayBeMade changes v c) a b h may in
    record { fits = x.fits; between = x.between; fails = fails_later a b c h may.fails }

worn_later : (a b : StoreView) → Stays a b → IsWornOut b.room b.used → IsWornOut a.room a.used
worn_later a b h worn = as_before (λ v. IsWornOut v.room v.used) a b h worn

pub commit_later : (a b c : StoreView) (changes : List Change) (result : Result (Unit {0}) StoreFault) → Stays a b → Committed changes b c result
    → Committed changes a c result
commit_later a b c changes (Ok _) h k = made_later a b c changes h k
commit_later a b c changes (Err Disk) h k = may_be_later a b c changes h k
commit_later a b c changes (Err (BadImage at)) h k = absurd k
commit_later a b c changes (Err (NoSpace used need limit)) h k = (lacks_later a b changes (Some (record { used = used; need = need; limit = limit })) h k.0, stays_twice a b c h k.1)
commit_later a b c changes (Err (Worn limit)) h k = (lacks_later a b changes None h k.0, worn_later a b h k.1, k.2, stays_twice a b c h k.3)
commit_later a b c changes (Err NoMemory) h k = stays_twice a b c h k

-- the map now is one of those that were left before
abbrev NowBoth : StoreView → Option (List CrashMaps) → Type 0
NowBoth a ms = Now a (λ was. moments.Now no_map ms (Both (λ d. (d ≡ was.before) ⊎ (d ≡ was.after))))

-- a store that was opened anew, and then read
pub opens_stays : (a b c : StoreView) → Opens a b → Stays b c → Opens a c
opens_stays a b c h k = record {
  among = record { more = h.among.more; grew = k.moments ∙ h.among.grew; each = h.among.each };
  now = subst (λ ms. NowBoth a ms) (sym k.moments) h.now;
  live = k.live ∙ h.live;
  room = k.room ∙ h.room;
  later = omega (arith, h.later, k.later);
}
