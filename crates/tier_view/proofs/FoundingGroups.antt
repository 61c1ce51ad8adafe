-- A group as it is found: what always holds of it, and where it began.
use Rattle.std.proofs.Common.{◌≡◌, ◌≤◌, inl, inr, ℕ, ◌+◌, List, Option, Some, None, refl, sym, subst, ◌∙◌, true≢false, arith}
use Rattle.std.specs.FinMap as fin
use Rattle.obj_model.specs.Names.{name_cmp}
use Rattle.obj_ops.specs.Stores.{Store}
use Rattle.pool_keys.specs.Keys.{epoch_key}
use Rattle.pool_keys.specs.Left.{IsLeft, Tells, AreTold, IsLeftBy}
use Rattle.pool_keys.proofs.Epochs.{epoch_one}
use Rattle.store_face.specs.Tables.{Table}
use Rattle.store_face.specs.Views.{CrashMaps, StoreView}
use Rattle.tier_chron.proofs.Calls.{begins_anywhere}
use Rattle.tier_join.specs.Group.{AreLeft, BeganAt, IsRemembered, TwoMaps}
use Rattle.tier_join.specs.Promises.{StandsAt}
use Rattle.tier_join.proofs.Left.{read_is_left}
use Rattle.tier_join.proofs.Telling.{groups_begin}
use Rattle.tier_owners.proofs.Closing.{found_owned}
use Rattle.tier_protocol.specs.Tiers.{Flight}
use Rattle.tier_protocol.proofs.MemoryMoves.{starting}
use Rattle.tier_view.specs.Agents.{Agents}
use Rattle.tier_view.specs.Founding.{EpochsAreAsRead, FoundingKeeps, StandThere, StoresStandAnew, StoresStandAsRead, UntoldStoresStand, found_group, found_stores}
use Rattle.tier_view.specs.Views.{GroupView, joined}
use Rattle.tier_view.specs.Whole.{AreSums, IsWhole}
use Rattle.tier_view.specs.Worlds.{Began, HasOwners}
use Rattle.pool_keys.specs.Values.{IsAtEpoch}

module _ (cache base : StoreView) (e f : ℕ) (agent : Agents) where
  abbrev G : GroupView
  G = found_group cache base e f agent

  remembered : IsRemembered (joined G)
  remembered = record { sound = starting e f; epochs = tt }

  module _ (start : Store) (stands : StandThere start cache base e f) where
    pools : BeganAt start (joined G)
    pools = (groups_begin start cache base e f stands).1

    -- nothing is on the wire, so each Write there has its owner
    owners : (z : TwoMaps) → AreLeft (joined G) z → HasOwners start G z
    owners z i = elim (pools.holds z i) [
      | inl k ↦ record { spells = k; owners = found_owned k.recs k.base start e f }
      | inr none ↦ absurd none
    ]

    began : Began start G
    began = record { pools = pools; owners = owners; history = begins_anywhere start; next = tt }

  whole : ((Tells cache × Tells base) → (start : Store) × StandThere start cache base e f) → AreSums (found_stores cache base) agent → IsWhole G
  whole stands sums = record {
    memory = remembered;
    began = λ told. let s = stands told in (s.0, began s.0 s.1);
    shaped = (begins_anywhere fin.empty).shaped;
    pending = tt;
    calls = tt;
    flights = record {
      listed = λ n w is. let never : ◌≡◌ {A = Option Flight} None (Some w) = sym (fin.get-empty {X = Flight} name_cmp n) ∙ is in absurd (cc);
      table = tt;
    };
    traffic = record { messages = tt; replies = tt; answers = tt; owned = tt; begun = tt; awaited = tt };
    causes = tt;
    counted = record { cache = omega arith; base = omega arith };
    stops = record { cache = λ is. absurd (true≢false (sym is)); base = λ is. absurd (true≢false (sym is)) };
    totals = sums;
  }

pub founding_keeps : FoundingKeeps
founding_keeps cache base e f agent stands sums =
    (whole cache base e f agent stands sums, began cache base e f agent)

-- ---- what pools stand for

told_by : (s : StoreView) (t : Table) → IsLeft s t → Tells s
told_by s t h = by s.moments h
  where
    by : (o : Option (List CrashMaps)) → IsLeftBy o t → AreTold o
    by None h = h
    by (Some ss) h = tt

pub untold_stores_stand : UntoldStoresStand
untold_stores_stand start cache base e f untold z i j = absurd (untold (told_by cache z.cache i, told_by base z.base j))

pub stores_stand_as_read : StoresStandAsRead
stores_stand_as_read start cache base e f cached based stands z i j =
    let h = stands z i j in
    let one : h.0 ≡ e = epoch_one (fin.get z.cache epoch_key) h.0 e h.2.cached.is_epoch (cached z.cache i) in
    let other : h.1 ≡ f = epoch_one (fin.get z.base epoch_key) h.1 f h.2.based.is_epoch (based z.base j) in
    subst (λ n. StandsAt n f z start) one (subst (λ n. StandsAt h.0 n z start) other h.2)

pub epochs_are_as_read : EpochsAreAsRead
epochs_are_as_read s epoch sound live holds = read_is_left s (IsAtEpoch epoch) sound live holds

same_maps : (z y : TwoMaps) → y.cache ≡ z.cache → y.base ≡ z.base → z ≡ y
same_maps z y cache base =
    subst (λ t. z ≡ record { cache = t; base = y.base }) (sym cache) (subst (λ t. z ≡ record { cache = z.cache; base = t }) (sym base) refl)

pub stores_stand_anew : StoresStandAnew
stores_stand_anew z plain h cache base one other y i j =
    subst (λ x. StandsAt h.0 h.1 x plain) (same_maps z y (one y.cache i) (other y.base j)) h.2
