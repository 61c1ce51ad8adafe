-- A call of a store behind one that changed nothing.
use Rattle.std.proofs.Common.{◌≤◌, List, Option, None, Some, ◌∙◌}
use Rattle.tier_outside.specs.Moments as moments
use Rattle.tier_outside.proofs.Moments.{now_two, now_weaker}
use Rattle.store_face.specs.Calls.{Fails, ReadFails, Stays}
use Rattle.store_face.specs.Tables.{Table}
use Rattle.store_face.specs.Views.{CrashMaps, Holds, StoreView, no_map}
use Rattle.store_face.specs.declared.fault.StoreFault.{StoreFault}
use Rattle.store_face.specs.declared.fault.StoreFault.TheVariants.{Disk, BadImage, NoSpace, Worn, NoMemory}
use Rattle.pool_survey.specs.Surveys.{BothStay}
use Rattle.store_face.proofs.Later.{fails_later, stays_twice}

pub weaker : (v : StoreView) (P Q : Table → Type 0) → ((t : Table) → P t → Q t) → Holds v P → Holds v Q
weaker v P Q follows now = now_weaker no_map v.moments (λ s. P s.before.table) (λ s. Q s.before.table) (λ s p. follows s.before.table p) now

pub also : (v : StoreView) (P Q R : Table → Type 0) → ((t : Table) → P t → Q t → R t) → Holds v P → Holds v Q → Holds v R
also v P Q R follows p q =
    now_two no_map v.moments (λ s. P s.before.table) (λ s. Q s.before.table) (λ s. R s.before.table) (λ s a b. follows s.before.table a b) p q

always_by : (ms : Option (List CrashMaps)) (P : Table → Type 0) → ((t : Table) → P t) → moments.Now no_map ms (λ s. P s.before.table)
always_by None P all = tt
always_by (Some ss) P all = all (moments.last no_map ss).before.table

-- what holds of every map holds of the store's
pub always : (v : StoreView) (P : Table → Type 0) → ((t : Table) → P t) → Holds v P
always v P all = always_by v.moments P all

pub read_fails_later : (a b c : StoreView) (f : StoreFault) → Stays a b → ReadFails f b c → ReadFails f a c
read_fails_later a b c Disk h k = (fails_later a b c h k.0, k.1 ∙ h.moments)
read_fails_later a b c (BadImage at) h k = absurd k
read_fails_later a b c (NoSpace used need limit) h k = absurd k
read_fails_later a b c (Worn limit) h k = absurd k
read_fails_later a b c NoMemory h k = stays_twice a b c h k

pub both_twice : (a b c x y z : StoreView) → BothStay a b x y → BothStay b c y z → BothStay a c x z
both_twice a b c x y z h k = record { cache_stays = stays_twice a b c h.cache_stays k.cache_stays; base_stays = stays_twice x y z h.base_stays k.base_stays }
