-- The cache is only read; and which names let writers in.
use Rattle.std.proofs.Common.{◌≡◌, ◌⊎◌, inl, inr, Bool, true, false, [], length, Option, Some, None, refl, sym, ap, ◌∙◌}
use Rattle.std.specs.Option.{option_map}
use Rattle.std.specs.FinMap as fin
use Rattle.std.proofs.lemmas.List.{append-nil}
use Rattle.store_face.specs.Calls.{Fails, Stays as StoreStays}
use Rattle.store_face.specs.Views.{StoreView}
use Rattle.tier_join.proofs.CacheSteps.{rec_is}
use Rattle.tier_join.proofs.Commits.{some_maps}
use Rattle.tier_join.proofs.Left.{rests_left}
use Rattle.tier_join.proofs.Rests.{memory_promises}
use Rattle.tier_join.specs.Promises.{Promises, as_it_is}
use Rattle.tier_protocol.specs.Tiers.{Flight, TierRec}
use Rattle.tier_types.specs.Flights.{is_bare}
use Rattle.tier_view.specs.Grows.{HaveCome, Remains, no_commit}
use Rattle.tier_view.specs.Locals.{FreeLetsWrite, LeavingCacheKeeps, RecordsAreNotBare, with_cache}
use Rattle.tier_view.specs.Stores.{doubt_in}
use Rattle.tier_view.specs.Views.{GroupView, joined}
use Rattle.tier_view.specs.Whole.{AreSums, IsWhole}
use Rattle.tier_view.proofs.Beginning.{surely_owned}
use Rattle.tier_view.proofs.LocalSteps.{cache_grows, cache_keeps, cache_owes, sums_failed, sums_rest}
use Rattle.tier_view.proofs.Serving.{rises_on}
use Rattle.tier_view.proofs.Resting.{extends_same, remains_itself}

sums_on : (v : GroupView) (h : IsWhole v) (none : v.stores.pending ≡ None) (s : StoreView) → s.moments ≡ v.stores.cache.moments → StoreStays v.stores.cache s ⊎ Fails v.stores.cache s
    → AreSums (record v.stores { cache = s; pending = None }) v.agent
sums_on v h none s same (inl stays) = sums_rest v h none s same stays.live None
sums_on v h none s same (inr fails) = sums_failed v h none s fails.closes.live None v.agent

pub leaving_cache_keeps : LeavingCacheKeeps
leaving_cache_keeps v s h none a =
    cache_keeps v h none s None v.log.opening [] v.log.acts [] v.traffic.flights v.calls.flown v.agent.totals as_it_is
    (cache_grows v h none s None v.log.opening [] v.log.acts [] v.traffic.flights v.calls.flown v.agent.totals as_it_is (rises_on v.stores.cache s a.later) promises
    (λ start told g. record {
      pools = promises.began start told g.pools;
      owners = λ z i. surely_owned start v z none (g.owners z (rests_left v.stores.cache s a.moments z.cache i.0, i.1));
      history = g.history;
      next = tt;
    })
    (sym (append-nil v.log.opening)) (sym (append-nil v.log.acts))
    (extends_same (Remains (length v.log.answers) (length v.log.answers)) (HaveCome v.calls.entries v.calls.entries (length v.log.answers) v.standing v.standing)
    (remains_itself (length v.log.answers) (length v.log.answers)) v.calls.flown (inl (refl, refl))) (no_commit a.moments refl))
    (cache_owes v h none s None v.log.opening [] v.log.acts [] v.traffic.flights v.calls.flown v.agent.totals (rises_on v.stores.cache s a.later)
    (λ sh. sh) tt h.flights (sums_on v h none s a.moments a.later))
  where
    promises : Promises as_it_is (joined v) (joined (with_cache s None v))
    promises =
        memory_promises (joined v) (joined (with_cache s None v))
        (record { settled = ap (option_map doubt_in) none; moves = λ start z i k. k; acts = refl; memory = λ k. k })
        (record { cache = a.moments; base = refl; doubt = sym (ap (option_map doubt_in) none) })

-- ---- which names let writers in

pub free_lets_write : FreeLetsWrite
free_lets_write None free bare = refl
free_lets_write (Some (Flight.Promote call op gather ask)) free bare = absurd (cc)
free_lets_write (Some (Flight.Write driver owner op r)) free bare = absurd (cc)
free_lets_write (Some (Flight.Reads list)) free bare = absurd (cc)
free_lets_write (Some (Flight.Flush call op seq true drain)) free bare = absurd (cc)
free_lets_write (Some (Flight.Flush call op seq false drain)) free bare = refl

either : (b : Bool) → (b ≡ true → ⊥) → b ≡ false
either true h = absurd (h refl)
either false h = refl

pub records_are_not_bare : RecordsAreNotBare
records_are_not_bare v k r h told none has =
    let began = h.began told in
    let some = some_maps (joined v) told in
    let w = surely_owned began.0 v some.0 none (began.1.owners some.0 some.1) in
    let here : fin.get w.spells.recs k ≡ Some r = rec_is began.0 (joined v) some.0 k (Some r) has some.1 w.spells in
    either (is_bare (fin.get v.traffic.flights k)) (λ bare. let gone : ◌≡◌ {A = Option TierRec} (Some r) None = sym here ∙ (w.spells.sound.names k).bare bare in absurd (cc))
