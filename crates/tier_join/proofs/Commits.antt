-- A commit in one of two stores, at all pairs of maps at once: what it owes at one pair is all
-- that a step has to promise.
use Rattle.std.proofs.Common.{◌≡◌, ◌⊎◌, inl, inr, List, Option, Some, None, Ok, Err, refl, sym, ap, ap₂, subst, ◌∙◌}
use Rattle.obj_model.specs.declared.change.Change.{Change}
use Rattle.obj_model.specs.declared.change.Pool.{Pool}
use Rattle.obj_model.specs.declared.change.Pool.TheVariants.{Cache, Base}
use Rattle.obj_ops.specs.Stores.{Store, replay}
use Rattle.store_face.specs.Calls.{Committed, Made, MayBeMade}
use Rattle.store_face.specs.Tables.{Table}
use Rattle.store_face.specs.Views.{StoreView}
use Rattle.store_face.specs.declared.fault.StoreFault.{StoreFault}
use Rattle.store_face.specs.declared.fault.StoreFault.TheVariants.{Disk, BadImage, NoSpace, Worn, NoMemory}
use Rattle.tier_protocol.proofs.Steps.{sound_stands}
use Rattle.tier_join.specs.Group.{Doubt, Memory, TwoMaps, View, AreLeft, BeganAt, BothTell, IsRemembered, Spells, SpellsAny, SpellsDoubt, changed_in, store_in, store_now, tier_of, with_store}
use Rattle.pool_keys.specs.Left.{AreTold, IsLeft, IsLeftSince}
use Rattle.tier_join.specs.Promises.{AreLeftSince, OneMore, Promises, StandsFor}
use Rattle.tier_join.specs.Steps.{Commits, Outcome, Owes, doubt_after, memory_after}
use Rattle.tier_join.proofs.Left.{FromLeft, made_left, made_since, now_since, rests_left, rests_now, rests_since, some_left, tells_on, torn_since}

-- ---- two stores, of which one changes

-- a pair of maps that is left, with changes in one pool
abbrev pub ComesFrom : Pool → List Change → View → TwoMaps → Type 0
ComesFrom pool cs v z = (y : TwoMaps) × AreLeft v y × (z ≡ changed_in pool cs y)

-- since a commit in one pool began, by what a stop leaves of that pool
pub since_in : (pool : Pool) (cs : List Change) (v : View) (s : StoreView) → ((t : Table) → IsLeftSince (store_in pool v) s t → IsLeft (store_in pool v) t ⊎ FromLeft cs (store_in pool v) t)
    → (z : TwoMaps) → AreLeftSince v (with_store pool s v) z → AreLeft v z ⊎ ComesFrom pool cs v z
since_in Cache cs v s leaves z i =
    let other = rests_since v.base v.base refl z.base i.1 in
    elim (leaves z.cache i.0) [
      | inl was ↦ inl (was, other)
      | inr from ↦ inr (record z { cache = from.0 }, (from.1, other), ap {A = Table} {B = TwoMaps} (λ t. record z { cache = t }) from.2)
    ]
since_in Base cs v s leaves z i =
    let other = rests_since v.cache v.cache refl z.cache i.0 in
    elim (leaves z.base i.1) [
      | inl was ↦ inl (other, was)
      | inr from ↦ inr (record z { base = from.0 }, (other, from.1), ap {A = Table} {B = TwoMaps} (λ t. record z { base = t }) from.2)
    ]

made_in : (pool : Pool) (cs : List Change) (v : View) (s : StoreView) → Made cs (store_in pool v) s → (z : TwoMaps) → AreLeft (with_store pool s v) z → ComesFrom pool cs v z
made_in Cache cs v s made z i =
    let from = made_left cs v.cache s made z.cache i.0 in
    (record z { cache = from.0 }, (from.1, i.1), ap {A = Table} {B = TwoMaps} (λ t. record z { cache = t }) from.2)
made_in Base cs v s made z i =
    let from = made_left cs v.base s made z.base i.1 in
    (record z { base = from.0 }, (i.0, from.1), ap {A = Table} {B = TwoMaps} (λ t. record z { base = t }) from.2)

same_in : (pool : Pool) (v : View) (s : StoreView) → s.moments ≡ (store_in pool v).moments → (z : TwoMaps) → AreLeft (with_store pool s v) z → AreLeft v z
same_in Cache v s same z i = (rests_left v.cache s same z.cache i.0, i.1)
same_in Base v s same z i = (i.0, rests_left v.base s same z.base i.1)

pub same_since_in : (pool : Pool) (v : View) (s : StoreView) → s.moments ≡ (store_in pool v).moments → (z : TwoMaps) → AreLeftSince v (with_store pool s v) z → AreLeft v z
same_since_in Cache v s same z i = (rests_since v.cache s same z.cache i.0, rests_since v.base v.base refl z.base i.1)
same_since_in Base v s same z i = (rests_since v.cache v.cache refl z.cache i.0, rests_since v.base s same z.base i.1)

left_since_in : (pool : Pool) (v : View) (s : StoreView) → ((t : Table) → IsLeft s t → IsLeftSince (store_in pool v) s t) → (z : TwoMaps) → AreLeft (with_store pool s v) z → AreLeftSince v (with_store pool s v) z
left_since_in Cache v s since z i = (since z.cache i.0, rests_now v.base z.base i.1)
left_since_in Base v s since z i = (rests_now v.cache z.cache i.0, since z.base i.1)

pub told_in : (pool : Pool) (v : View) (s : StoreView) → (AreTold (store_in pool v).moments → AreTold s.moments) × (AreTold s.moments → AreTold (store_in pool v).moments)
    → (BothTell v → BothTell (with_store pool s v)) × (BothTell (with_store pool s v) → BothTell v)
told_in Cache v s on = (λ h. (on.0 h.0, h.1), λ h. (on.1 h.0, h.1))
told_in Base v s on = (λ h. (h.0, on.0 h.1), λ h. (h.0, on.1 h.1))

-- ---- what holds of pairs

-- some pair of maps is left
pub some_maps : (v : View) → BothTell v → (z : TwoMaps) × AreLeft v z
some_maps v told =
    let x = some_left v.cache told.0 in
    let y = some_left v.base told.1 in
    (record { cache = x.0; base = y.0 }, (x.1, y.1))

-- without a doubt what is left is the pair
pub surely : (start : Store) (v : View) → v.doubt ≡ None → BeganAt start v → (z : TwoMaps) → AreLeft v z → Spells start v.memory z
surely start v none b z i = by (subst (λ o. Spells start v.memory z ⊎ SpellsAny start v.memory o z) none (b.holds z i))
  where
    by : Spells start v.memory z ⊎ SpellsAny start v.memory None z → Spells start v.memory z
    by (inl h) = h
    by (inr h) = absurd h

-- a pair stands for the store that its acts leave
pub stands : (start : Store) (m : Memory) (z : TwoMaps) → Spells start m z → StandsFor z (replay start m.acts)
stands start m z h = (
  m.net.cache_epoch,
  m.net.base_epoch,
  record {
    recs = h.recs;
    base = h.base;
    cached = h.cached;
    based = h.based;
    stands = sound_stands (tier_of start m h.recs h.base) h.sound;
    behind = h.sound.epochs.behind;
  },
)

-- ---- the three things that may come of a commit

-- it was made; the disk failed; or no map changed
abbrev pub Came : List Change → Doubt → (old new : StoreView) → Outcome → Type 0
Came cs d old new result =
    ((result ≡ Ok tt) × Made cs old new) ⊎ ((result ≡ Err Disk) × MayBeMade cs old new)
    ⊎ ((fault : StoreFault) × (result ≡ Err fault) × (doubt_after result d ≡ None) × (new.moments ≡ old.moments))

pub came : (cs : List Change) (d : Doubt) (old new : StoreView) (result : Outcome) → Committed cs old new result → Came cs d old new result
came cs d old new (Ok made) h = inl (refl, h)
came cs d old new (Err Disk) h = inr (inl (refl, h))
came cs d old new (Err (BadImage at)) h = absurd h
came cs d old new (Err (NoSpace used need limit)) h = inr (inr (NoSpace used need limit, refl, refl, h.1.moments))
came cs d old new (Err (Worn limit)) h = inr (inr (Worn limit, refl, refl, h.3.moments))
came cs d old new (Err NoMemory) h = inr (inr (NoMemory, refl, refl, h.moments))

module _ (pool : Pool) (cs : List Change) (done : Memory) (left : StoreFault → Memory) (d : Doubt) (result : Outcome) (v w : View)
    (owes : Owes pool cs done left d result v) (step : Commits pool cs done left d result v w) where
  abbrev S : StoreView
  S = store_in pool w

  -- the view behind it
  abbrev Behind : Option Doubt → Memory → View
  Behind o m = record (with_store pool S v) { doubt = o; memory = m }

  is : (o : Option Doubt) (m : Memory) → doubt_after result d ≡ o → memory_after result done left ≡ m → w ≡ Behind o m
  is o m doubt memory = step.same ∙ ap₂ {A = Option Doubt} {B = Memory} {C = View} Behind doubt memory

  is_made : result ≡ Ok tt → w ≡ Behind None done
  is_made e = is None done (ap (λ r. doubt_after r d) e) (ap (λ r. memory_after r done left) e)

  is_torn : result ≡ Err Disk → w ≡ Behind (Some d) (left Disk)
  is_torn e = is (Some d) (left Disk) (ap (λ r. doubt_after r d) e) (ap (λ r. memory_after r done left) e)

  is_left : (fault : StoreFault) → result ≡ Err fault → doubt_after result d ≡ None → w ≡ Behind None (left fault)
  is_left fault e none = is None (left fault) none (ap (λ r. memory_after r done left) e)

  began : Came cs d (store_in pool v) S result → (start : Store) → BothTell v → BeganAt start v → BeganAt start w
  began (inl h) start told b = subst (BeganAt start) (sym (is_made h.0)) (record {
    holds = λ z i.
        let from = made_in pool cs v S h.1 z i in
        inl (subst (Spells start done) (sym from.2) (owes.makes start from.0 from.1 (surely start v owes.settled b from.0 from.1)));
    acts = tt;
    epochs = tt;
  })
  began (inr (inl h)) start told b =
      let some = some_maps v told in
      subst (BeganAt start) (sym (is_torn h.0)) (record {
        holds = λ z i. elim (since_in pool cs v S (torn_since cs (store_in pool v) S h.1) z (left_since_in pool v S (now_since (store_in pool v) S _ h.1.between) z i)) [
          | inl was ↦ inl (owes.stays start z Disk h.0 was (surely start v owes.settled b z was))
          | inr from ↦ subst (λ x. Spells start (left Disk) x ⊎ SpellsDoubt start (left Disk) d x) (sym from.2)
              (owes.torn start from.0 from.1 (surely start v owes.settled b from.0 from.1))
        ];
        acts = owes.acts start some.0 some.1 (surely start v owes.settled b some.0 some.1);
        epochs = owes.epochs;
      })
  began (inr (inr h)) start told b = subst (BeganAt start) (sym (is_left h.0 h.1 h.2)) (record {
    holds = λ z i. let was = same_in pool v S h.3 z i in inl (owes.stays start z h.0 h.1 was (surely start v owes.settled b z was));
    acts = tt;
    epochs = tt;
  })

  -- what a stop leaves meanwhile
  stops : Came cs d (store_in pool v) S result → (start : Store) → BeganAt start v → (z : TwoMaps) → AreLeftSince v (with_store pool S v) z
      → StandsFor z (store_now start v) ⊎ StandsFor z (replay start done.acts)
  stops h start b z i = elim (lies h) [
    | inl was ↦ inl (stands start v.memory z (surely start v owes.settled b z was))
    | inr from ↦ inr (stands start done z (subst (Spells start done) (sym from.2) (owes.makes start from.0 from.1 (surely start v owes.settled b from.0 from.1))))
  ]
    where
      lies : Came cs d (store_in pool v) S result → AreLeft v z ⊎ ComesFrom pool cs v z
      lies (inl h) = since_in pool cs v S (made_since cs (store_in pool v) S h.1) z i
      lies (inr (inl h)) = since_in pool cs v S (torn_since cs (store_in pool v) S h.1) z i
      lies (inr (inr h)) = inl (same_since_in pool v S h.3 z i)

  tells : Came cs d (store_in pool v) S result → (AreTold (store_in pool v).moments → AreTold S.moments) × (AreTold S.moments → AreTold (store_in pool v).moments)
  tells (inl h) = tells_on (store_in pool v) S _ h.1.between
  tells (inr (inl h)) = tells_on (store_in pool v) S _ h.1.between
  tells (inr (inr h)) = (λ t. subst AreTold (sym h.3) t, λ t. subst AreTold h.3 t)

  remembered : Came cs d (store_in pool v) S result → IsRemembered v → IsRemembered w
  remembered (inl h) r = subst IsRemembered (sym (is_made h.0)) (record { sound = owes.made r.sound; epochs = tt })
  remembered (inr (inl h)) r = subst IsRemembered (sym (is_torn h.0)) (record { sound = owes.failed Disk h.0 r.sound; epochs = owes.epochs })
  remembered (inr (inr h)) r = subst IsRemembered (sym (is_left h.0 h.1 h.2)) (record { sound = owes.failed h.0 h.1 r.sound; epochs = tt })

  history : Came cs d (store_in pool v) S result → OneMore v.memory.acts w.memory.acts
  history (inl h) = subst (OneMore v.memory.acts) (sym (ap (λ u. u.memory.acts) (is_made h.0))) owes.history
  history (inr (inl h)) = inl (ap (λ u. u.memory.acts) (is_torn h.0) ∙ owes.kept Disk h.0)
  history (inr (inr h)) = inl (ap (λ u. u.memory.acts) (is_left h.0 h.1 h.2) ∙ owes.kept h.0 h.1)

  -- all that a step promises
  pub commit_promises : (other : Store → Store) → ((start : Store) → replay start done.acts ≡ other (store_now start v)) → Promises other v w
  commit_promises other acts =
      let h : Came cs d (store_in pool v) S result = came cs d (store_in pool v) S result step.committed in
      let on = told_in pool v S (tells h) in
      record {
        history = history h;
        memory = remembered h;
        tell = λ told. subst BothTell (sym step.same) (on.0 told);
        told = λ told. on.1 (subst BothTell step.same told);
        began = λ start told b. began h start told b;
        stops = λ start told b z i.
            subst (λ s. StandsFor z (store_now start v) ⊎ StandsFor z s) (acts start)
            (stops h start b z (subst (λ u. AreLeftSince v u z) step.same i));
      }
