-- What stands under a key, and what does not.
use Rattle.std.proofs.Common.{◌≡◌, inl, inr, ℕ, List, Option, None, Some, subst}
use Rattle.std.specs.Option.{IfNone, IfSome}
use Rattle.obj_model.specs.declared.state.NameState.{NameState}
use Rattle.pool_keys.specs.Keys.{IsOf}
use Rattle.pool_keys.specs.Values.{SpellsEpoch}
use Rattle.pool_keys.specs.declared.key.PoolKey.{PoolKey}
use Rattle.pool_keys.specs.declared.key.PoolKey.TheVariants.{Epoch, Record, State}
use Rattle.pool_keys.proofs.Keys.{key_one}
use Rattle.rec_codec.specs.Spelling.{SpellsParts, SpellsState, TierParts}
use Rattle.pool_survey.specs.Causes.{IsBaseEntry, IsCacheEntry}

-- what holds where there is nothing, and where there is this
pub where_none : {X : Type 0} (P : Type 0) (o : Option X) → o ≡ None → IfNone o P → P
where_none P o is h = subst (λ x. IfNone x P) is h

pub where_some : {X : Type 0} (P : X → Type 0) (o : Option X) (x : X) → o ≡ Some x → IfSome o P → P x
where_some P o x is h = subst (λ y. IfSome y P) is h

no_record : (name : List ℕ) → Epoch ≡ Record name → ⊥
no_record name e = absurd (cc)

no_state : (name : List ℕ) → Epoch ≡ State name → ⊥
no_state name e = absurd (cc)

not_both : (a b : List ℕ) → State a ≡ Record b → ⊥
not_both a b e = absurd (cc)

-- ---- the cache

pub held_nothing : (key value : List ℕ) → ((kind : PoolKey) → IsOf key kind → ⊥) → IsCacheEntry key value → ⊥
held_nothing key value none (inl epoch) = none Epoch epoch.there
held_nothing key value none (inr r) = none (Record r.name) r.there

pub held_no_epoch : (key value : List ℕ) → IsOf key Epoch → ((e : ℕ) → SpellsEpoch value e → ⊥) → IsCacheEntry key value → ⊥
held_no_epoch key value is none (inl epoch) = none epoch.epoch epoch.spells
held_no_epoch key value is none (inr r) = no_record r.name (key_one key Epoch (Record r.name) is r.there)

pub held_no_record : (key value name : List ℕ) → IsOf key (Record name) → ((r : TierParts) → SpellsParts value r → ⊥) → IsCacheEntry key value → ⊥
held_no_record key value name is none (inl epoch) = no_record name (key_one key Epoch (Record name) epoch.there is)
held_no_record key value name is none (inr r) = none (r.rec.state, r.rec.dirty, r.rec.mtime) r.spells

pub held_state : (key value name : List ℕ) → IsOf key (State name) → IsCacheEntry key value → ⊥
held_state key value name is (inl epoch) = no_state name (key_one key Epoch (State name) epoch.there is)
held_state key value name is (inr r) = not_both name r.name (key_one key (State name) (Record r.name) is r.there)

-- ---- the base

pub kept_nothing : (key value : List ℕ) → ((kind : PoolKey) → IsOf key kind → ⊥) → IsBaseEntry key value → ⊥
kept_nothing key value none (inl epoch) = none Epoch epoch.there
kept_nothing key value none (inr s) = none (State s.name) s.there

pub kept_no_epoch : (key value : List ℕ) → IsOf key Epoch → ((e : ℕ) → SpellsEpoch value e → ⊥) → IsBaseEntry key value → ⊥
kept_no_epoch key value is none (inl epoch) = none epoch.epoch epoch.spells
kept_no_epoch key value is none (inr s) = no_state s.name (key_one key Epoch (State s.name) is s.there)

pub kept_no_state : (key value name : List ℕ) → IsOf key (State name) → ((s : NameState) → SpellsState value s → ⊥) → IsBaseEntry key value → ⊥
kept_no_state key value name is none (inl epoch) = no_state name (key_one key Epoch (State name) epoch.there is)
kept_no_state key value name is none (inr s) = none s.state s.spells

pub kept_record : (key value name : List ℕ) → IsOf key (Record name) → IsBaseEntry key value → ⊥
kept_record key value name is (inl epoch) = no_record name (key_one key Epoch (Record name) epoch.there is)
kept_record key value name is (inr s) = not_both s.name name (key_one key (State s.name) (Record name) s.there is)

pub ruleset held_rules = (held_nothing, held_no_epoch, held_no_record, held_state)

pub ruleset kept_rules = (kept_nothing, kept_no_epoch, kept_no_state, kept_record)
