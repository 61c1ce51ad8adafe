-- What is known of a store now, and how it goes on over calls.
use Rattle.std.proofs.Common.{◌≡◌, List, [], ◌++◌, Option, ap, ◌∙◌}
use Rattle.tier_outside.specs.Moments as moments
use Rattle.tier_outside.specs.Moments.{grown}
use Rattle.tier_outside.proofs.Moments as laws
use Rattle.tier_outside.proofs.Moments.{grown_none, grown_twice, then_then}
use Rattle.store_face.specs.Views.{CrashMaps, StoreView, no_map}
use Rattle.tier_tool.specs.Steps.Serving.{GoesOn}

-- where there are moments, the last one has P
abbrev pub At : Option (List CrashMaps) → (CrashMaps → Type 0) → Type 0
At m P = moments.Now no_map m P

pub now_weaker : (m : Option (List CrashMaps)) (P Q : CrashMaps → Type 0) → ((s : CrashMaps) → P s → Q s) → At m P → At m Q
now_weaker m P Q weaker h = laws.now_weaker no_map m P Q weaker h

pub now_two : (m : Option (List CrashMaps)) (P Q R : CrashMaps → Type 0) → ((s : CrashMaps) → P s → Q s → R s)
    → At m P → At m Q → At m R
now_two m P Q R both h k = laws.now_two no_map m P Q R both h k

pub now_same : (m n : Option (List CrashMaps)) (P : CrashMaps → Type 0) → m ≡ n → At m P → At n P
now_same m n P e h = laws.now_same no_map m n P e h

-- what stands at the moment now, and at the one behind the next call
pub now_then : (a b c : Option (List CrashMaps)) (more : List CrashMaps) (P Q R : CrashMaps → CrashMaps → Type 0)
    → b ≡ grown a more → ((x y z : CrashMaps) → P x y → Q y z → R x z)
    → At a (λ x. At b (P x)) → At b (λ y. At c (Q y)) → At a (λ x. At c (R x))
now_then a b c more P Q R grew both h k = then_then no_map a b c more P Q R grew both h k

-- no moment came
pub nothing_came : (v : StoreView) → GoesOn v v
nothing_came v = record { more = []; grew = grown_none v.moments }

-- more moments came, and more again
pub goes_further : (a b c : StoreView) → GoesOn a b → GoesOn b c → GoesOn a c
goes_further a b c h k = record {
  more = h.more ++ k.more;
  grew = k.grew ∙ ap (λ m. grown m k.more) h.grew ∙ grown_twice a.moments h.more k.more;
}
