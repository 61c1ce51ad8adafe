-- What readiness gives, what epochs the stores have, and sums that stay.
use Rattle.std.proofs.Common.{◌≡◌, inl, inr, Some, None, sym, ap, subst, ◌∙◌, true≢false}
use Rattle.std.specs.Option.{option_map}
use Rattle.obj_model.specs.declared.change.Pool.TheVariants.{Base, Cache}
use Rattle.obj_ops.specs.Stores.{Store}
use Rattle.pool_keys.proofs.Leaving.{live_one}
use Rattle.tier_join.specs.Ends.{IsSettled}
use Rattle.tier_join.specs.Group.{BothTell}
use Rattle.tier_join.proofs.Left.{some_left}
use Rattle.tier_join.proofs.Telling.{epochs_are_level, epochs_are_memorys}
use Rattle.tier_view.specs.Starts.{EpochsAreThere, OpeningBaseLeavesSums, ReadingsBehindOpenings, ReadyGroupsServe, UnopenedCachesAskNoSums, pool_in}
use Rattle.tier_view.specs.Stores.{Pending, doubt_in}
use Rattle.tier_view.specs.Views.{GroupView, joined}
use Rattle.tier_view.specs.Whole.{IsElsewhere}
use Rattle.tier_view.specs.Worlds.{Began}

no_doubt : (v : GroupView) → v.stores.pending ≡ None → (joined v).doubt ≡ None
no_doubt v none = ap (option_map doubt_in) none

settled_at : (v : GroupView) → v.stores.pending ≡ None → BothTell (joined v) → (start : Store) → Began start v → IsSettled start (joined v)
settled_at v none told start b = record { tell = told; began = b.pools; settled = no_doubt v none }

pub ready_groups_serve : ReadyGroupsServe
ready_groups_serve v h ready = record {
  settled = no_doubt v ready.settled;
  up = ready.up;
  started = h.memory.sound.wire.begun (λ down. let up = ready.up in absurd (cc));
  level = λ told. let b = h.began told in epochs_are_level b.0 (joined v) (settled_at v ready.settled told b.0 b.1) ready.up;
  cache = λ sound. live_one v.stores.cache sound ready.cache;
  base = λ sound. live_one v.stores.base sound ready.base;
  known = record { live = ready.cache; runs = ready.cache_runs; sure = subst (IsElsewhere Cache) (sym ready.settled) tt };
  plain = λ start told b. settled_at v ready.settled told start b;
}

pub epochs_are_there : EpochsAreThere
epochs_are_there v h none told =
    let b = h.began told in
    let settled : IsSettled b.0 (joined v) = settled_at v none told b.0 b.1 in
    let x = some_left v.stores.cache told.0 in
    let y = some_left v.stores.base told.1 in (
      λ t left. (epochs_are_memorys b.0 (joined v) (record { cache = t; base = y.0 }) settled (left, y.1)).0,
      λ t left. (epochs_are_memorys b.0 (joined v) (record { cache = x.0; base = t }) settled (x.1, left)).1,
    )

-- ---- openings

pub readings_behind_openings : ReadingsBehindOpenings
readings_behind_openings old opened read among same = record { more = among.more; grew = same ∙ among.grew; each = among.each }

-- a doubt about the cache
not_elsewhere : (p : Pending) → pool_in p ≡ Cache → IsElsewhere Cache (Some p) → ⊥
not_elsewhere (Pending.Plain pool name) of other = other of
not_elsewhere (Pending.Act pool first a seq) of other = other of
not_elsewhere (Pending.Epoch pool e) of other = other of

pub unopened_caches_ask_no_sums : UnopenedCachesAskNoSums
unopened_caches_ask_no_sums v s (inl dead) k = absurd (true≢false (sym k.live ∙ dead))
unopened_caches_ask_no_sums v s (inr (inl stopped)) k = absurd (true≢false (sym stopped ∙ k.runs))
unopened_caches_ask_no_sums v s (inr (inr doubt)) k = absurd (not_elsewhere doubt.0 doubt.2 (subst (IsElsewhere Cache) doubt.1 k.sure))

-- a doubt about the base is not one about the cache
elsewhere : (p : Pending) → pool_in p ≡ Base → IsElsewhere Cache (Some p)
elsewhere (Pending.Plain pool name) of = λ same. absurd (cc)
elsewhere (Pending.Act pool first a seq) of = λ same. absurd (cc)
elsewhere (Pending.Epoch pool e) of = λ same. absurd (cc)

pub opening_base_leaves_sums : OpeningBaseLeavesSums
opening_base_leaves_sums v s h = (
  λ k. h.totals (record { live = k.live; runs = k.runs; sure = k.sure }),
  λ k. h.totals (record { live = k.live; runs = k.runs; sure = k.sure }),
  λ p is of k. h.totals (record { live = k.live; runs = k.runs; sure = subst (IsElsewhere Cache) (sym is) (elsewhere p of) }),
)
