-- Pools that have nothing yet.
use Rattle.std.proofs.Common.{◌≡◌, ◌≤◌, ℕ, ◌^◌, List, Option, Some, None, unwrap_or, refl, sym, ap, subst, arith}
use Rattle.std.specs.FinMap as fin
use Rattle.obj_model.specs.Names.{name_cmp}
use Rattle.obj_model.specs.States.{unknown}
use Rattle.obj_model.specs.declared.state.NameState.{NameState}
use Rattle.obj_ops.specs.Stores.{Store, state_of}
use Rattle.pool_keys.specs.Keys.{epoch_key, record_key, state_key}
use Rattle.pool_keys.specs.Maps.{SpellsBase, SpellsCache}
use Rattle.pool_keys.specs.Values.{IsEpochOf, IsRecOf, IsStateOf}
use Rattle.store_face.specs.Tables.{Table}
use Rattle.tier_protocol.specs.Laws.{StandsFor}
use Rattle.tier_protocol.specs.Sound.{Shows}
use Rattle.tier_protocol.specs.Tiers.{Name, Recs, TierRec}
use Rattle.tier_join.specs.Ends.{EmptyCachesStand, EmptyPairsStand}

abbrev no_table : Table
no_table = fin.empty

abbrev no_recs : Recs
no_recs = fin.empty

-- nothing is under a key
nothing : (key : List ℕ) → fin.get no_table key ≡ None
nothing key = fin.get-empty {X = List ℕ} name_cmp key

no_record : (n : Name) → fin.get no_recs n ≡ None
no_record n = fin.get-empty {X = TierRec} name_cmp n

no_state : (n : Name) → state_of fin.empty n ≡ unknown
no_state n = ap (λ o. unwrap_or o unknown) (fin.get-empty {X = NameState} name_cmp n)

cache_empty : SpellsCache fin.empty fin.empty 0
cache_empty = record {
  each = λ n. subst (λ o. IsRecOf o (fin.get no_recs n)) (sym (nothing (record_key n))) (subst (IsRecOf None) (sym (no_record n)) tt);
  is_epoch = subst (λ o. IsEpochOf o 0) (sym (nothing epoch_key)) refl;
  keys = λ key value is. let none = nothing key in absurd (cc);
}

base_empty : SpellsBase fin.empty fin.empty 0
base_empty = record {
  each = λ n. subst (λ o. IsStateOf o (state_of fin.empty n)) (sym (nothing (state_key n))) (no_state n);
  is_epoch = subst (λ o. IsEpochOf o 0) (sym (nothing epoch_key)) refl;
  keys = λ key value is. let none = nothing key in absurd (cc);
}

few : (o : Option (List ℕ)) (s : NameState) → IsStateOf o s → s.seq ≤ 2 ^ 62
few None s is = omega (arith, ap (λ x. x.seq) is)
few (Some bytes) s is = omega (arith, is.lawful.counted.acted)

over : (y : Table) (base : Store) (epoch : ℕ) → SpellsBase y base epoch → StandsFor fin.empty base base
over y base epoch h = record {
  behind = λ n. record { behind = omega arith; level = λ same. refl };
  clean = λ n is. refl;
  shows = λ n. subst (λ o. Shows o (state_of base n)) (sym (no_record n)) tt;
  few = λ n. few (fin.get y (state_key n)) (state_of base n) (h.each n);
}

pub empty_caches_stand : EmptyCachesStand
empty_caches_stand y base epoch h =
    record { recs = fin.empty; base = base; cached = cache_empty; based = h; stands = over y base epoch h; behind = λ some. absurd (omega (arith, some)) }

pub empty_pairs_stand : EmptyPairsStand
empty_pairs_stand = empty_caches_stand fin.empty fin.empty 0 base_empty
