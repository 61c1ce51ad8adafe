-- A call of a store behind one that changed nothing.
use Rattle.std.proofs.Common.{◌≤◌, ℕ, refl, sym, ◌∙◌, arith}
use Rattle.tier_outside.specs.Causes.{Rose}
use Rattle.tier_outside.proofs.Moments.{now_same}
use Rattle.store_face.specs.Calls.{Fails, Stays}
use Rattle.store_face.specs.Tables.{Table}
use Rattle.store_face.specs.Views.{Holds, StoreView, no_map}

pub stays_same : (v : StoreView) → Stays v v
stays_same v = record { moments = refl; live = refl; room = refl; used = refl; later = omega arith }

pub stays_twice : (a b c : StoreView) → Stays a b → Stays b c → Stays a c
stays_twice a b c h k = record {
  moments = k.moments ∙ h.moments;
  live = k.live ∙ h.live;
  room = k.room ∙ h.room;
  used = k.used ∙ h.used;
  later = omega (arith, h.later, k.later);
}

-- what a map has it has still
pub holds_on : (a b : StoreView) (P : Table → Type 0) → Stays a b → Holds a P → Holds b P
holds_on a b P h now = now_same no_map a.moments b.moments (λ s. P s.before.table) (sym h.moments) now

pub holds_back : (a b : StoreView) (P : Table → Type 0) → Stays a b → Holds b P → Holds a P
holds_back a b P h now = now_same no_map b.moments a.moments (λ s. P s.before.table) h.moments now

rose_later : (a b c : ℕ) → a ≤ b → Rose b c → Rose a c
rose_later a b c h k = omega arith

-- a call that fails behind one that changed nothing fails from before it
pub fails_later : (a b c : StoreView) → Stays a b → Fails b c → Fails a c
fails_later a b c h k = record {
  closes = record {
    live = k.closes.live;
    room = k.closes.room ∙ h.room;
    used = k.closes.used ∙ h.used;
    later = omega (arith, h.later, k.closes.later);
  };
  rose = rose_later a.faults b.faults c.faults h.later k.rose;
}
