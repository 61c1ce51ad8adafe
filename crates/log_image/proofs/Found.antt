-- What the reading of a log has found.
use Rattle.std.specs.Prelude.{◌≡◌, ◌<◌, ◌+◌, ◌^◌, ℕ, List, [], ◌∷◌, take, slice_index, Option, Err}
use Rattle.std.specs.Prelude.{refl}
use Rattle.std.proofs.Common.{◌∙◌, subst, ap, arith, inl, inr}
use Rattle.std.proofs.lemmas.List.{length-take}
use Rattle.obj_model.specs.declared.change.Pool.{Pool}
use Rattle.store_face.specs.declared.fault.StoreFault.{StoreFault}
use Rattle.store_face.specs.declared.fault.StoreFault.TheVariants.{Disk, BadImage, NoSpace, Worn}
use Rattle.store_face.specs.declared.fault.StoreFault.TheVariants.{NoMemory}
use Rattle.tier_outside.specs.Disk.{DiskMoment, RangeStands}
use Rattle.tier_outside.specs.DiskMoments.{Now}
use Rattle.tier_outside.proofs.DiskMoments.{now_weaker, now_both}
use Rattle.gate_journal.specs.declared.journal.Journal.{Journal}
use Rattle.gate_journal.specs.Calls.{Found, WalkEnds}
use Rattle.gate_journal.specs.Journals.{Means, Broken, Spells}
use Rattle.gate_journal.specs.Stands.{StandsAs}
use Rattle.gate_journal.proofs.Records.{index_take}
use Rattle.pool_map.specs.Pools.{PoolView}
use Rattle.log_image.specs.Calls.{Held, ReadEnds}
use Rattle.log_image.specs.Fronts.{IsHeaded, HasNoTxn}
use Rattle.log_image.specs.Images.{HoldsLog, head}
use Rattle.log_image.specs.Steps.Rebuilding.{Rebuilt, RebuildEnds, NoFirst, Stumbled, gate_behind}
use Rattle.log_image.specs.Steps.Rebuilding.{told}
use Rattle.log_image.specs.Standing.{LogStands}
use Rattle.log_image.proofs.Heads.{headed_first}
use Rattle.log_image.proofs.Rebuilt.{records_split}

-- the first payload is the head of a disk whose head passes
first_is : (role : Pool) (pair : ℕ) (image : List ℕ) (payloads : List (List ℕ)) (next : ℕ)
    (map : PoolView) (rebuilt : Rebuilt payloads map) → IsHeaded role pair image
    → Spells 0 (2 ^ 40) image payloads next → payloads ≡ head role pair ∷ rebuilt.others
first_is role pair image payloads next map rebuilt headed spelled =
    rebuilt.split
    ∙ ap (λ xs. xs ∷ rebuilt.others)
    (headed_first role pair image rebuilt.first rebuilt.others next headed
    (subst (λ ps. Spells 0 (2 ^ 40) image ps next) rebuilt.split spelled))

-- bytes hold the map
pub image_holds : (role : Pool) (pair : ℕ) (image : List ℕ) (payloads : List (List ℕ)) (next : ℕ)
    (map : PoolView) → Rebuilt payloads map → Spells 0 (2 ^ 40) image payloads next
    → IsHeaded role pair image → HoldsLog role pair image
    (record { table = map.table; used = next + 1 })
image_holds role pair image payloads next map rebuilt spelled headed = record {
  payloads = rebuilt.others;
  txns = rebuilt.replayed.txns;
  next = next;
  spelled =
      subst (λ ps. Spells 0 (2 ^ 40) image ps next)
      (first_is role pair image payloads next map rebuilt headed spelled) spelled;
  each = rebuilt.replayed.each;
  made = ap (λ (m : PoolView). m.table) rebuilt.replayed.made;
  used_is = refl;
}

-- and the log stands where they are settled
pub moment_stands : (role : Pool) (pair : ℕ) (d : DiskMoment) (journal : Journal)
    (payloads : List (List ℕ)) (map : PoolView) → Rebuilt payloads map
    → Spells 0 (2 ^ 40) d.content payloads journal.next → StandsAs journal payloads d
    → IsHeaded role pair d.content → LogStands role pair journal map.table d
moment_stands role pair d journal payloads map rebuilt spelled stands headed = record {
  payloads = rebuilt.others;
  txns = rebuilt.replayed.txns;
  stands =
      subst (λ ps. StandsAs journal ps d)
      (first_is role pair d.content payloads journal.next map rebuilt headed spelled) stands;
  each = rebuilt.replayed.each;
  made = ap (λ (m : PoolView). m.table) rebuilt.replayed.made;
}

pub read_held : (moments : Option (List DiskMoment)) (journal : Journal) (payloads : List (List ℕ))
    (map : PoolView) → Found 0 (2 ^ 40) moments journal payloads
    → Now moments (λ d. RangeStands 0 (journal.next + 1) d → StandsAs journal payloads d)
    → Rebuilt payloads map → Held moments journal map
read_held moments journal payloads map found stands rebuilt = record {
  journal_is =
      record {
        start = found.start;
        end_most = omega (arith, found.end_is);
        within = omega (arith, found.end_is, found.within);
      };
  rested = ap (λ (m : PoolView). m.ready) rebuilt.replayed.made;
  holds = now_weaker moments (λ d. Spells 0 (2 ^ 40) d.content payloads journal.next) _
      (λ d spelled role pair headed. image_holds role pair d.content payloads journal.next map
      rebuilt spelled headed) found.spelled;
  stands =
      now_weaker moments (λ d. Spells 0 (2 ^ 40) d.content payloads journal.next
      × (RangeStands 0 (journal.next + 1) d → StandsAs journal payloads d)) _
      (λ d both role pair headed range. moment_stands role pair d journal payloads map rebuilt
      both.0 (both.1 range) headed)
      (now_both moments _ _ found.spelled stands);
}

-- a disk whose first gate is open has a first payload
some_first : (image : List ℕ) (payloads : List (List ℕ)) (next at : ℕ) → slice_index image 0 ≡ 1
    → Spells 0 (2 ^ 40) image payloads next → NoFirst payloads at → ⊥
some_first image payloads next at opening spelled none =
    let empty : Spells 0 (2 ^ 40) image [] next =
    subst (λ ps. Spells 0 (2 ^ 40) image ps next) none.no_payload spelled in
    empty.gate.closed (subst (λ n. slice_index (take (2 ^ 40) image) n ≡ 1) empty.records
    (index_take (2 ^ 40) image 0 (omega arith) ∙ opening))

-- the payload that is no transaction stands where it is told
stumbled_at : (image : List ℕ) (payloads : List (List ℕ)) (next at : ℕ)
    → Spells 0 (2 ^ 40) image payloads next → Stumbled payloads at → HasNoTxn image at
stumbled_at image payloads next at spelled stumbled =
    let gate : ℕ = gate_behind 0 (stumbled.first ∷ stumbled.before) in
    let whole = subst (λ ps. Spells 0 (2 ^ 40) image ps next) stumbled.split spelled in
    let split =
    records_split (take (2 ^ 40) image) 0 (stumbled.first ∷ stumbled.before)
    (stumbled.payload ∷ stumbled.behind) next whole.records in
    record {
      first = stumbled.first;
      before = stumbled.before;
      payload = stumbled.payload;
      behind = stumbled.behind;
      txns = stumbled.txns;
      gate = gate;
      next = next;
      spelled = whole;
      each = stumbled.each;
      place = split.0;
      at_is =
          stumbled.at_is ∙ exact gate (omega
          (arith, split.1.0.followed, length-take (2 ^ 40) image));
      none = stumbled.none;
    }
  where
    exact : (n : ℕ) → n < 2 ^ 40 → told (n + 5) ≡ n + 5
    exact n small = omega arith

-- a map was not made
pub read_refused : (moments : Option (List DiskMoment)) (journal : Journal)
    (payloads : List (List ℕ)) (failed : Type 0) (fault : StoreFault)
    → Now moments (λ d. slice_index d.content 0 ≡ 1)
    → Found 0 (2 ^ 40) moments journal payloads → RebuildEnds payloads (Err fault)
    → ReadEnds moments failed (Err fault)
read_refused moments journal payloads failed (BadImage at) opening found (inl none) =
    now_weaker moments (λ d. (slice_index d.content 0 ≡ 1)
    × Spells 0 (2 ^ 40) d.content payloads journal.next) _
    (λ d both. absurd (some_first d.content payloads journal.next at both.0 both.1 none))
    (now_both moments _ _ opening found.spelled)
read_refused moments journal payloads failed (BadImage at) opening found (inr stumbled) =
    now_weaker moments (λ d. Spells 0 (2 ^ 40) d.content payloads journal.next) _
    (λ d spelled. inr (stumbled_at d.content payloads journal.next at spelled stumbled))
    found.spelled
read_refused moments journal payloads failed Disk opening found ends = absurd ends
read_refused moments journal payloads failed NoMemory opening found ends = tt
read_refused moments journal payloads failed (NoSpace used need limit) opening found ends = ends
read_refused moments journal payloads failed (Worn limit) opening found ends = ends

-- a journal was not found
pub walk_refused : (moments : Option (List DiskMoment)) (failed : Type 0) (fault : StoreFault)
    → WalkEnds 0 (2 ^ 40) moments failed (Err fault) → ReadEnds moments failed (Err fault)
walk_refused moments failed (BadImage at) ends =
    now_weaker moments (λ d. Means 0 (2 ^ 40) d.content (Broken at)) _ (λ d broken. inl broken) ends
walk_refused moments failed Disk ends = ends
walk_refused moments failed NoMemory ends = tt
walk_refused moments failed (NoSpace used need limit) ends = ends
walk_refused moments failed (Worn limit) ends = ends
