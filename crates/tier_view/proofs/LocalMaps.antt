-- The cache's map before a commit and behind it, and its sums.
use Rattle.std.proofs.Common.{◌≡◌, ◌≢◌, ◌⊎◌, inl, inr, ℕ, List, Option, None, sym, ap, subst, ◌∙◌, arith}
use Rattle.std.specs.FinMap as fin
use Rattle.agent_state.specs.declared.totals.Totals.{Totals}
use Rattle.pool_keys.proofs.Caches.{record_one}
use Rattle.agent_state.specs.Modes.{AreTotals}
use Rattle.obj_model.specs.Names.{name_fault}
use Rattle.obj_model.specs.declared.change.Change.{Change}
use Rattle.obj_model.specs.declared.change.Pool.TheVariants.{Cache}
use Rattle.pool_keys.specs.Keys.{epoch_key, record_key}
use Rattle.pool_keys.specs.Left.{IsLeft}
use Rattle.pool_keys.specs.Maps.{SpellsCache}
use Rattle.pool_keys.specs.Values.{IsEpochOf, IsRecOf}
use Rattle.store_face.specs.Calls.{Made, MayBeMade}
use Rattle.store_face.specs.Tables.{Table}
use Rattle.store_face.specs.Views.{StoreView}
use Rattle.tier_join.specs.Group.{TwoMaps, AreLeft, changed_in}
use Rattle.tier_join.proofs.Left.{made_left, now_since, torn_since}
use Rattle.tier_protocol.specs.Moves.{set_at}
use Rattle.tier_protocol.specs.Tiers.{Name, Recs, TierRec}
use Rattle.tier_protocol.proofs.Cells.{get_here, get_there, names_by, same_or_not}
use Rattle.tier_rec.specs.Records.{totals_after, totals_over}
use Rattle.tier_view.specs.Views.{GroupView, joined}
use Rattle.tier_view.specs.Whole.{records_in}
use Rattle.tier_view.proofs.LocalPlaces.{same_at}
use Rattle.tier_view.proofs.LocalSums.{sums_follow}

-- ---- what a stop leaves of the cache behind a commit

abbrev ComesFrom : List Change → GroupView → TwoMaps → Type 0
ComesFrom cs v z = (y : TwoMaps) × AreLeft (joined v) y × (z ≡ changed_in Cache cs y)

pub cache_made_from : (cs : List Change) (v : GroupView) (s : StoreView) → Made cs v.stores.cache s → (z : TwoMaps) → IsLeft s z.cache → IsLeft v.stores.base z.base → ComesFrom cs v z
cache_made_from cs v s made z i j =
    let from = made_left cs v.stores.cache s made z.cache i in
    (record z { cache = from.0 }, (from.1, j), ap {A = Table} {B = TwoMaps} (λ t. record z { cache = t }) from.2)

pub cache_torn_from : (cs : List Change) (v : GroupView) (s : StoreView) → MayBeMade cs v.stores.cache s → (z : TwoMaps) → IsLeft s z.cache → IsLeft v.stores.base z.base
    → AreLeft (joined v) z ⊎ ComesFrom cs v z
cache_torn_from cs v s may z i j = elim (torn_since cs v.stores.cache s may z.cache (now_since v.stores.cache s _ may.between z.cache i)) [
  | inl was ↦ inl (was, j)
  | inr from ↦ inr (record z { cache = from.0 }, (from.1, j), ap {A = Table} {B = TwoMaps} (λ t. record z { cache = t }) from.2)
]

-- ---- the records before

pub key_apart : (q name : Name) → q ≢ name → record_key q ≢ record_key name
key_apart q name ne e = let f : q ≡ name = cc in ne f

epoch_off : (name : Name) → epoch_key ≢ record_key name
epoch_off name e = let f : ◌≡◌ {A = ℕ} 0x45 0x52 = cc in absurd (omega (arith, f))

-- what the map behind the commit spells, with the record that was read in its place, the map before
-- spells
pub spelled_before : (x : Table) (recs : Recs) (e : ℕ) (k : Name) (o : Option (List ℕ)) (old : Option TierRec) → IsRecOf (fin.get x (record_key k)) old → name_fault k ≡ None
    → SpellsCache (set_at x (record_key k) o) recs e → SpellsCache x (set_at recs k old) e
spelled_before x recs e k o old has named h = record {
  each = names_by (λ n. IsRecOf (fin.get x (record_key n)) (fin.get (set_at recs k old) n)) k
      (subst (IsRecOf (fin.get x (record_key k))) (sym (get_here recs k old)) has)
      (λ n ne. subst (IsRecOf (fin.get x (record_key n))) (sym (get_there recs k old n ne))
      (subst (λ b. IsRecOf b (fin.get recs n)) (get_there x (record_key k) o (record_key n) (key_apart n k ne)) (h.each n)));
  is_epoch = subst (λ b. IsEpochOf b e) (get_there x (record_key k) o epoch_key (epoch_off k)) h.is_epoch;
  keys = λ key value there. elim (same_or_not key (record_key k)) [
    | inl same ↦ inr (k, record { spelled = same; lawful = named })
    | inr ne ↦ h.keys key value (get_there x (record_key k) o key ne ∙ there)
  ];
}

-- the sums behind the commit, from those before
pub sums_after : (t : Totals) (u : Table) (recs : Recs) (e : ℕ) (k : Name) (o : Option (List ℕ)) (old new : Option TierRec) → IsRecOf (fin.get u (record_key k)) old → name_fault k ≡ None → IsRecOf o new
    → SpellsCache (set_at u (record_key k) o) recs e → (SpellsCache u (set_at recs k old) e → t ≡ totals_over (records_in (set_at recs k old)))
    → AreTotals (totals_over (records_in recs)) → totals_after t old new ≡ totals_over (records_in recs)
sums_after t u recs e k o old new has named spelled h was few =
    ap (λ y. totals_after y old new) (was (spelled_before u recs e k o old has named h))
    ∙ sums_follow recs k old new (subst (λ rs. AreTotals (totals_over (records_in rs))) (sym same) few)
    ∙ ap (λ rs. totals_over (records_in rs)) same
  where
    same : set_at recs k new ≡ recs
    same = same_at recs k new (record_one o (fin.get recs k) new (subst (λ b. IsRecOf b (fin.get recs k)) (get_here u (record_key k) o) (h.each k)) spelled)
