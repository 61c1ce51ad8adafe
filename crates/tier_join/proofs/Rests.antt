-- Steps that change memory alone.
use Rattle.std.proofs.Common.{◌≡◌, ◌⊎◌, ◌<◌, inl, inr, ℕ, Option, Some, None, refl, sym, subst, ◌∙◌}
use Rattle.obj_model.specs.declared.change.Pool.TheVariants.{Cache, Base}
use Rattle.obj_ops.specs.Stores.{Store, replay}
use Rattle.tier_protocol.specs.Tiers.{Phase}
use Rattle.tier_protocol.proofs.Requests.{replay_more}
use Rattle.tier_join.specs.Group.{Doubt, Memory, TwoMaps, View, ActIsNext, AreLeft, BothTell, EpochIsNext, Spells, SpellsAny, Within, store_now, with_act, with_epoch}
use Rattle.pool_keys.specs.Left.{AreTold, IsLeftSinceBy}
use Rattle.tier_join.specs.Promises.{AreLeftSince, OneMore, Promises, StandsFor, as_it_is}
use Rattle.tier_join.specs.Steps.{OwesMemory, OwesWorlds, Rests, elsewhere, with_doubt}
use Rattle.tier_join.proofs.Commits.{stands, surely}
use Rattle.tier_join.proofs.Left.{rests_left, rests_since}

-- ---- stores that rest

module _ (v w : View) (rests : Rests v w) where
  pub rest_left : (z : TwoMaps) → AreLeft w z → AreLeft v z
  rest_left z i = (rests_left v.cache w.cache rests.cache z.cache i.0, rests_left v.base w.base rests.base z.base i.1)

  pub rest_since : (z : TwoMaps) → AreLeftSince v w z → AreLeft v z
  rest_since z i = (rests_since v.cache w.cache rests.cache z.cache i.0, rests_since v.base w.base rests.base z.base i.1)

  pub rest_told : (BothTell v → BothTell w) × (BothTell w → BothTell v)
  rest_told = (
    λ h. (subst AreTold (sym rests.cache) h.0, subst AreTold (sym rests.base) h.1),
    λ h. (subst AreTold rests.cache h.0, subst AreTold rests.base h.1),
  )

-- ---- what was read goes into memory

pub memory_promises : (v w : View) → OwesMemory v w.memory → Rests v w → Promises as_it_is v w
memory_promises v w owes rests =
    let none : w.doubt ≡ None = rests.doubt ∙ owes.settled in
    record {
      history = inl owes.acts;
      memory = λ r. record { sound = owes.memory r.sound; epochs = subst (EpochIsNext w.memory.net) (sym none) tt };
      tell = (rest_told v w rests).0;
      told = (rest_told v w rests).1;
      began = λ start told b. record {
        holds = λ z i. let was = rest_left v w rests z i in inl (owes.moves start z was (surely start v owes.settled b z was));
        acts = subst (ActIsNext (store_now start w)) (sym none) tt;
        epochs = subst (EpochIsNext w.memory.net) (sym none) tt;
      };
      stops = λ start told b z i. let was = rest_since v w rests z i in inl (stands start v.memory z (surely start v owes.settled b z was));
    }

-- ---- what is left stands, in a doubt too

doubt_stands : (start : Store) (m : Memory) (o : Option Doubt) (z : TwoMaps) → SpellsAny start m o z → StandsFor z (with_doubt o (replay start m.acts))
doubt_stands start m None z h = absurd h
doubt_stands start m (Some (Doubt.Plain pool name)) z h = absurd h
doubt_stands start m (Some (Doubt.Act pool q seq)) z h = subst (StandsFor z) (replay_more m.acts start q) (stands start (with_act q m) z h.1)
doubt_stands start m (Some (Doubt.Epoch Cache e)) z h = stands start (with_epoch Cache e m) z h
doubt_stands start m (Some (Doubt.Epoch Base e)) z h = stands start (with_epoch Base e m) z h

-- whatever is left stands for the store, or for that with the act in doubt
pub within_stands : (start : Store) (v : View) (z : TwoMaps) → Within start v z → StandsFor z (store_now start v) ⊎ StandsFor z (with_doubt v.doubt (store_now start v))
within_stands start v z (inl h) = inl (stands start v.memory z h)
within_stands start v z (inr h) = inr (doubt_stands start v.memory v.doubt z h)

-- ---- changes that may come in a doubt

module _ (old new : Memory) (owes : OwesWorlds old new) where
  moved : (start : Store) (there : Memory) (c b : ℕ) (z : TwoMaps) → (c ≡ old.net.cache_epoch) ⊎ (old.net.phase ≡ Phase.Down) → Spells start (elsewhere there old c b) z → Spells start (elsewhere there new c b) z
  moved start there c b z world h = record { recs = h.recs; base = h.base; cached = h.cached; based = h.based; sound = owes.moves start h.recs h.base there c b world h.sound }

  -- at the epochs of memory
  level : (start : Store) (there : Memory) (z : TwoMaps) → Spells start (record old { acts = there.acts }) z → Spells start (record new { acts = there.acts }) z
  level start there z h =
      subst (λ b. Spells start (elsewhere there new new.net.cache_epoch b) z) (sym owes.base)
      (subst (λ c. Spells start (elsewhere there new c old.net.base_epoch) z) (sym owes.cache)
      (moved start there old.net.cache_epoch old.net.base_epoch z (inl refl) h))

  pub surely_moved : (start : Store) (z : TwoMaps) → Spells start old z → Spells start new z
  surely_moved start z h = subst (λ a. Spells start (record new { acts = a }) z) (sym owes.acts) (level start old z h)

  pub moved_in_doubt : (start : Store) (o : Option Doubt) (z : TwoMaps) → EpochIsNext old.net o → SpellsAny start old o z → SpellsAny start new o z
  moved_in_doubt start None z next h = h
  moved_in_doubt start (Some (Doubt.Plain pool name)) z next h = h
  moved_in_doubt start (Some (Doubt.Act pool q seq)) z next h =
      (h.0, subst (λ a. Spells start (with_act q (record new { acts = a })) z) (sym owes.acts) (level start (with_act q old) z h.1))
  moved_in_doubt start (Some (Doubt.Epoch Cache e)) z next h =
      subst (λ a. Spells start (with_epoch Cache e (record new { acts = a })) z) (sym owes.acts)
      (subst (λ b. Spells start (elsewhere old new e b) z) (sym owes.base) (moved start old e old.net.base_epoch z (inr next.2) h))
  moved_in_doubt start (Some (Doubt.Epoch Base e)) z next h =
      subst (λ a. Spells start (with_epoch Base e (record new { acts = a })) z) (sym owes.acts)
      (subst (λ c. Spells start (elsewhere old new c e) z) (sym owes.cache) (moved start old old.net.cache_epoch e z (inl refl) h))

  pub epoch_next : (o : Option Doubt) → EpochIsNext old.net o → EpochIsNext new.net o
  epoch_next None h = h
  epoch_next (Some (Doubt.Plain pool name)) h = h
  epoch_next (Some (Doubt.Act pool q seq)) h = h
  epoch_next (Some (Doubt.Epoch Cache e)) h = (subst (λ c. c < e) (sym owes.cache) h.0, subst (λ b. b < e) (sym owes.base) h.1, owes.down h.2)
  epoch_next (Some (Doubt.Epoch Base e)) h = subst (λ b. b < e) (sym owes.base) h

pub worlds_promise : (v w : View) → OwesWorlds v.memory w.memory → Rests v w → Promises (with_doubt v.doubt) v w
worlds_promise v w owes rests = record {
  history = inl owes.acts;
  memory = λ r. record { sound = owes.memory r.sound; epochs = subst (EpochIsNext w.memory.net) (sym rests.doubt) (epoch_next v.memory w.memory owes v.doubt r.epochs) };
  tell = (rest_told v w rests).0;
  told = (rest_told v w rests).1;
  began = λ start told b. record {
    holds = λ z i. elim (b.holds z (rest_left v w rests z i)) [
      | inl h ↦ inl (surely_moved v.memory w.memory owes start z h)
      | inr h ↦ inr (subst (λ o. SpellsAny start w.memory o z) (sym rests.doubt) (moved_in_doubt v.memory w.memory owes start v.doubt z b.epochs h))
    ];
    acts = subst (ActIsNext (store_now start w)) (sym rests.doubt) (subst (λ a. ActIsNext (replay start a) v.doubt) (sym owes.acts) b.acts);
    epochs = subst (EpochIsNext w.memory.net) (sym rests.doubt) (epoch_next v.memory w.memory owes v.doubt b.epochs);
  };
  stops = λ start told b z i. within_stands start v z (b.holds z (rest_since v w rests z i));
}

-- ---- steps in one

-- behind a step memory alone changes
pub then_rests : (other again : Store → Store) (v w u : View) → Promises other v w → Rests w u → Promises again w u → u.memory.acts ≡ w.memory.acts → Promises other v u
then_rests other again v w u first rests second acts = record {
  history = subst (OneMore v.memory.acts) (sym acts) first.history;
  memory = λ r. second.memory (first.memory r);
  tell = λ t. second.tell (first.tell t);
  told = λ t. first.told (second.told t);
  began = λ start t b. second.began start (first.tell t) (first.began start t b);
  stops = λ start t b z i. first.stops start t b z (
    subst (λ m. IsLeftSinceBy v.cache.moments m z.cache) rests.cache i.0,
    subst (λ m. IsLeftSinceBy v.base.moments m z.base) rests.base i.1,
  );
}

-- before a step memory alone changes, and no act comes
pub first_rests : (other again : Store → Store) (v w u : View) → w.memory.acts ≡ v.memory.acts → Rests v w → Promises again v w → Promises other w u → Promises other v u
first_rests other again v w u acts rests first second = record {
  history = subst (λ a. OneMore a u.memory.acts) acts second.history;
  memory = λ r. second.memory (first.memory r);
  tell = λ t. second.tell (first.tell t);
  told = λ t. first.told (second.told t);
  began = λ start t b. second.began start (first.tell t) (first.began start t b);
  stops = λ start t b z i.
      subst (λ a. StandsFor z (replay start a) ⊎ StandsFor z (other (replay start a))) acts
      (second.stops start (first.tell t) (first.began start t b) z (
        subst (λ m. IsLeftSinceBy m u.cache.moments z.cache) (sym rests.cache) i.0,
        subst (λ m. IsLeftSinceBy m u.base.moments z.base) (sym rests.base) i.1,
      ));
}
