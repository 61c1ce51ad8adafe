-- The beginning, what is left, and what callers are told.
use Rattle.std.proofs.Common.{◌≡◌, inl, inr, ℕ, List, [], ◌∷◌, ◌++◌, Option, Some, None, refl, sym, ap, subst, ◌∙◌}
use Rattle.obj_model.specs.declared.change.Pool.TheVariants.{Cache, Base}
use Rattle.obj_model.specs.declared.req.Req.{Req}
use Rattle.obj_ops.specs.declared.request.Acted.TheVariants.{Fresh}
use Rattle.obj_ops.specs.Acts.{act}
use Rattle.obj_ops.specs.Stores.{Store, state_of, store_after}
use Rattle.store_face.specs.Views.{StoreView}
use Rattle.tier_protocol.specs.Sound.{AreFresh, is_dirty}
use Rattle.tier_protocol.proofs.Delivers.{acts_on_plain}
use Rattle.tier_protocol.proofs.MemoryMoves.{starting}
use Rattle.tier_protocol.proofs.Steps.{found_sound, promoting, shown}
use Rattle.tier_protocol.proofs.Truth.{reads_true, writes_true}
use Rattle.tier_join.specs.Ends.{ActsArePlain, BaresArePlain, EpochsAreLevel, EpochsAreMemorys, GroupsBegin, GroupsBeginAnew, HistoriesAreLegal, IsSettled, LeftStands, PromotionsArePlain, ReadsArePlain, RecordsArePlain, WritesArePlain, found_view}
use Rattle.tier_join.specs.Group.{Doubt, Memory, TwoMaps, View, AreLeft, BeganAt, IsSoundMemory, Spells, SpellsAny, tier_of}
use Rattle.pool_keys.specs.Left.{IsLeft}
use Rattle.tier_join.specs.Promises.{StandsAt}
use Rattle.tier_join.proofs.BaseSteps.{state_is}
use Rattle.tier_join.proofs.CacheSteps.{rec_is}
use Rattle.tier_join.proofs.Commits.{some_maps, surely}
use Rattle.tier_join.proofs.Rests.{within_stands}

-- ---- the beginning

-- memory in which nothing is under way is sound
found_memory : (cache base : StoreView) (e f : ℕ) → IsSoundMemory (found_view cache base e f).memory
found_memory cache base e f = starting e f

found_began : (start : Store) (cache base : StoreView) (e f : ℕ) → ((z : TwoMaps) → IsLeft cache z.cache → IsLeft base z.base → StandsAt e f z start) → BeganAt start (found_view cache base e f)
found_began start cache base e f each = record {
  holds = λ z i.
      let h = each z i.0 i.1 in
      inl (record { recs = h.recs; base = h.base; cached = h.cached; based = h.based; sound = found_sound h.recs h.base start e f h.stands h.behind });
  acts = tt;
  epochs = tt;
}

pub groups_begin : GroupsBegin
groups_begin start cache base e f each =
    let b = found_began start cache base e f each in
    (record { memory = record { sound = found_memory cache base e f; epochs = tt }; began = λ told. (start, b) }, b)

-- the maps are these
same_maps : (z y : TwoMaps) → y.cache ≡ z.cache → y.base ≡ z.base → z ≡ y
same_maps z y cache base =
    subst (λ t. z ≡ record { cache = t; base = y.base }) (sym cache) (subst (λ t. z ≡ record { cache = z.cache; base = t }) (sym base) refl)

pub groups_begin_anew : GroupsBeginAnew
groups_begin_anew z plain h cache base one other =
    groups_begin plain cache base h.0 h.1 (λ y i j. subst (λ x. StandsAt h.0 h.1 x plain) (same_maps z y (one y.cache i) (other y.base j)) h.2)

-- ---- what is left

pub left_stands : LeftStands
left_stands start v z b i = within_stands start v z (b.holds z i)

legal_but_last : (acts : List Req) (start : Store) (r : Req) → AreFresh start (acts ++ r ∷ []) → AreFresh start acts
legal_but_last [] start r h = tt
legal_but_last (q ∷ acts) start r h = (h.0, legal_but_last acts (store_after start q.name (act (state_of start q.name) q)) r h.1)

legal_by : (start : Store) (m : Memory) (o : Option Doubt) (z : TwoMaps) → SpellsAny start m o z → AreFresh start m.acts
legal_by start m None z h = absurd h
legal_by start m (Some (Doubt.Plain pool name)) z h = absurd h
legal_by start m (Some (Doubt.Act pool q seq)) z h = legal_but_last m.acts start q h.1.sound.legal
legal_by start m (Some (Doubt.Epoch Cache e)) z h = h.sound.legal
legal_by start m (Some (Doubt.Epoch Base e)) z h = h.sound.legal

pub histories_are_legal : HistoriesAreLegal
histories_are_legal start v told b =
    let some = some_maps v told in
    elim (b.holds some.0 some.1) [
      | inl h ↦ h.sound.legal
      | inr h ↦ legal_by start v.memory v.doubt some.0 h
    ]

-- ---- what callers are told

module _ (start : Store) (v : View) (is : IsSettled start v) where
  -- some pair of maps
  some : (z : TwoMaps) × AreLeft v z
  some = some_maps v is.tell

  here : Spells start v.memory some.0
  here = surely start v is.settled is.began some.0 some.1

pub records_are_plain : RecordsArePlain
records_are_plain start v k r is has =
    let h = here start v is in
    shown (tier_of start v.memory h.recs h.base) k r h.sound (rec_is start v (some start v is).0 k (Some r) has (some start v is).1 h)

pub bares_are_plain : BaresArePlain
bares_are_plain start v k s is none has =
    let h = here start v is in
    sym (state_is start v (some start v is).0 k s has (some start v is).1 h)
    ∙ (h.sound.names k).clean (ap is_dirty (rec_is start v (some start v is).0 k None none (some start v is).1 h))

pub promotions_are_plain : PromotionsArePlain
promotions_are_plain start v k call op gather ask s is may =
    let h = here start v is in
    (promoting (tier_of start v.memory h.recs h.base) k call op gather ask s 0 h.sound (record { flight = may.flight; whole = may.whole })).1

pub reads_are_plain : ReadsArePlain
reads_are_plain start v k list r l is flight on came =
    let h = here start v is in
    reads_true (tier_of start v.memory h.recs h.base) k list r l h.sound flight on came

pub writes_are_plain : WritesArePlain
writes_are_plain start v k driver owner op r a is may =
    let h = here start v is in
    writes_true (tier_of start v.memory h.recs h.base) k driver owner op r a h.sound (record { flight = may.flight; reply = may.reply })

pub acts_are_plain : ActsArePlain
acts_are_plain start v op r b s answer is on has acts =
    let h = here start v is in
    let at : state_of h.base r.name ≡ b = state_is start v (some start v is).0 r.name b has (some start v is).1 h in
    acts_on_plain (tier_of start v.memory h.recs h.base) v.memory.net.base_epoch op r s answer h.sound on refl (subst (λ x. act x r ≡ Fresh s answer) (sym at) acts)

pub epochs_are_level : EpochsAreLevel
epochs_are_level start v is up = (here start v is).sound.epochs.level up

pub epochs_are_memorys : EpochsAreMemorys
epochs_are_memorys start v z is i = let h = surely start v is.settled is.began z i in (h.cached.is_epoch, h.based.is_epoch)
