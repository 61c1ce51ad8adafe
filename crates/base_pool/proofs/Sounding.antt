-- A message leaves the base at the epoch that its map has.
use Rattle.std.proofs.Common.{◌≡◌, ◌≢◌, ◌⊎◌, inl, inr, ◌<◌, ◌≤◌, ℕ, Bool, true, false, cond, List, [], ◌∷◌, ◌++◌, Option, None, Some, Result, Ok, Err, refl, sym, ap, subst, ◌∙◌, arith}
use Rattle.std.specs.Prelude.{nat_lt}
use Rattle.std.proofs.lemmas.Bool.{ltb-true, ltb-false, true≢false}
use Rattle.std.specs.Cmp.{eq_by_cmp_equiv}
use Rattle.std.specs.Cmp.Lexicographic.{nat_list_cmp_total}
use Rattle.std.specs.FinMap as fin
use Rattle.byteorder.specs.Endian.{big_bytes}
use Rattle.obj_model.specs.Limits.{number_limit}
use Rattle.obj_model.specs.Names.{name_cmp}
use Rattle.obj_model.specs.declared.change.Change.{Change}
use Rattle.obj_model.specs.declared.change.Change.TheVariants.{Put}
use Rattle.obj_model.specs.declared.state.NameState.{NameState}
use Rattle.pool_keys.specs.Keys.{epoch_key, state_key}
use Rattle.pool_keys.specs.Values.{IsAtEpoch, IsEpochOf, SpellsEpoch}
use Rattle.rec_codec.specs.Spelling.{state_bytes}
use Rattle.store_face.specs.Calls.{Both, Made, Stays}
use Rattle.store_face.specs.Rooms.{Room}
use Rattle.store_face.specs.Tables.{Table, changed_by}
use Rattle.store_face.specs.Views.{CrashMaps, Holds, IsBehind, Sound, StoreView, no_map}
use Rattle.store_face.specs.declared.fault.StoreFault.{StoreFault}
use Rattle.store_face.specs.declared.fault.StoreFault.TheVariants as store
use Rattle.tier_outside.specs.Moments.{Now as NowBy, grown}
use Rattle.tier_types.specs.Serving.{Served, in_epoch, name_in, replies, served}
use Rattle.tier_types.specs.declared.message.BaseMsg.{BaseMsg}
use Rattle.tier_types.specs.declared.message.BaseReply.{BaseReply}
use Rattle.base_pool.specs.Serves.{Answers, FailsBase, Faults, Makes, Replies, Serves, StaysBase, changes_by, epoch_put, state_put}
use Rattle.base_pool.specs.Steps.{base_of}
use Rattle.base_pool.specs.Views.{BaseView, IsLive, SoundBase}
use Rattle.base_pool.specs.declared.fault.BaseFault.{BaseFault}
use Rattle.base_pool.specs.declared.fault.BaseFault.TheVariants.{Store, BadRecord}
use Rattle.store_face.proofs.Later.{holds_on}

-- ---- one key

pub get_put : (t : Table) (k v : List ℕ) → fin.get (fin.insert t k v) k ≡ Some v
get_put t k v = fin.get-insert nat_list_cmp_total t k v k ∙ ap (λ b. cond b (Some v) (fin.get t k)) ((eq_by_cmp_equiv nat_list_cmp_total).refl k)

-- the key of a name is not the epoch's
pub epoch_stays : (t : Table) (name v : List ℕ) → fin.get (fin.insert t (state_key name) v) epoch_key ≡ fin.get t epoch_key
epoch_stays t name v = fin.get-insert nat_list_cmp_total t (state_key name) v epoch_key

-- what a commit that was done leaves, from the map before
made_by : (room : Room) (changes : List Change) (a b : Option (List CrashMaps)) (more : List CrashMaps) (P Q : Table → Type 0) → b ≡ grown a more
    → NowBy no_map a (λ was. NowBy no_map b (Both (IsBehind room changes was.before))) → ((t : Table) → P t → Q (changed_by t changes))
    → NowBy no_map a (λ s. P s.before.table) → NowBy no_map b (λ s. Q s.before.table)
made_by room changes a None more P Q grew now step has = tt
made_by room changes None (Some ts) more P Q grew now step has = absurd (cc)
made_by room changes (Some ss) (Some ts) more P Q grew now step has = subst Q (sym now.before.table) (step _ has)

pub made_holds : (changes : List Change) (a b : StoreView) (P Q : Table → Type 0) → Made changes a b → ((t : Table) → P t → Q (changed_by t changes)) → Holds a P → Holds b Q
made_holds changes a b P Q made step has =
    made_by a.room changes a.moments b.moments made.between.more P Q made.between.grew made.now step has

-- ---- the epoch

-- serving never lowers the epoch
in_epoch_rises : (have e : ℕ) (x : Served) (b c : Bool) → nat_lt e have ≡ b → nat_lt have e ≡ c → x.epoch ≡ have → (in_epoch have e x).epoch ≡ have
in_epoch_rises have e x true c low high same = ap (λ t. (cond t (replies have (BaseReply.OldEpoch have e)) (cond (nat_lt have e) (replies have (BaseReply.NotFenced have e)) x)).epoch) low
in_epoch_rises have e x false true low high same =
    ap (λ t. (cond t (replies have (BaseReply.OldEpoch have e)) (cond (nat_lt have e) (replies have (BaseReply.NotFenced have e)) x)).epoch) low
    ∙ ap (λ t. (cond t (replies have (BaseReply.NotFenced have e)) x).epoch) high
in_epoch_rises have e x false false low high same =
    ap (λ t. (cond t (replies have (BaseReply.OldEpoch have e)) (cond (nat_lt have e) (replies have (BaseReply.NotFenced have e)) x)).epoch) low
    ∙ ap (λ t. (cond t (replies have (BaseReply.NotFenced have e)) x).epoch) high ∙ same

fence_rises : (have e : ℕ) (s : NameState) (b : Bool) → nat_lt e have ≡ b → have ≤ (served have s (BaseMsg.Fence e)).epoch
fence_rises have e s true low =
    let same : (served have s (BaseMsg.Fence e)).epoch ≡ have = ap (λ t. (cond t (replies have (BaseReply.OldEpoch have e)) (replies e (BaseReply.Fenced e))).epoch) low in
    omega (arith, same)
fence_rises have e s false low =
    let same : (served have s (BaseMsg.Fence e)).epoch ≡ e = ap (λ t. (cond t (replies have (BaseReply.OldEpoch have e)) (replies e (BaseReply.Fenced e))).epoch) low in
    omega (arith, same, ltb-false e have low)

own_rises : (have e : ℕ) (x : Served) → x.epoch ≡ have → have ≤ (in_epoch have e x).epoch
own_rises have e x same = let is = in_epoch_rises have e x (nat_lt e have) (nat_lt have e) refl refl same in omega (arith, is)

pub epoch_rises : (have : ℕ) (s : NameState) (msg : BaseMsg) → have ≤ (served have s msg).epoch
epoch_rises have s (BaseMsg.Fence e) = fence_rises have e s (nat_lt e have) refl
epoch_rises have s (BaseMsg.GetChunk e op name at) = own_rises have e _ refl
epoch_rises have s (BaseMsg.Look e op name v) = own_rises have e _ refl
epoch_rises have s (BaseMsg.Write e op r) = own_rises have e _ refl
epoch_rises have s (BaseMsg.Install e op name t) = own_rises have e _ refl

spelled : (have epoch : ℕ) → have < epoch → epoch ≤ number_limit → SpellsEpoch (big_bytes 8 epoch) epoch
spelled have epoch less low = record { spelled = refl; least = omega (arith, less); most = low }

-- what the changes of a message leave under the key of the epoch
at_states : (have epoch : ℕ) (name : Option (List ℕ)) (put : Option NameState) (t : Table) → have ≡ epoch → IsAtEpoch have t → IsAtEpoch epoch (changed_by t (state_put name put))
at_states have epoch None put t same at = subst (λ e. IsAtEpoch e t) same at
at_states have epoch (Some name) None t same at = subst (λ e. IsAtEpoch e t) same at
at_states have epoch (Some name) (Some s) t same at =
    subst (λ o. IsEpochOf o epoch) (sym (epoch_stays t name (state_bytes s))) (subst (λ e. IsAtEpoch e t) same at)

at_raise : (have epoch : ℕ) (name : Option (List ℕ)) (put : Option NameState) (t : Table) → have < epoch → epoch ≤ number_limit
    → IsAtEpoch epoch (changed_by t (Put epoch_key (big_bytes 8 epoch) ∷ state_put name put))
at_raise have epoch name put t less low =
    at_states epoch epoch name put (fin.insert t epoch_key (big_bytes 8 epoch)) refl
    (subst (λ o. IsEpochOf o epoch) (sym (get_put t epoch_key (big_bytes 8 epoch))) (spelled have epoch less low))

changed_at : (have epoch : ℕ) (name : Option (List ℕ)) (put : Option NameState) (t : Table) (raised : Bool) → nat_lt have epoch ≡ raised → have ≤ epoch → epoch ≤ number_limit
    → IsAtEpoch have t → IsAtEpoch epoch (changed_by t (cond raised (Put epoch_key (big_bytes 8 epoch) ∷ []) [] ++ state_put name put))
changed_at have epoch name put t true raised low few at = at_raise have epoch name put t (ltb-true have epoch raised) few
changed_at have epoch name put t false raised low few at = at_states have epoch name put t (omega (arith, low, ltb-false have epoch raised)) at

-- the epoch of a map with a message's changes
pub epoch_changed : (have epoch : ℕ) (name : Option (List ℕ)) (put : Option NameState) (t : Table) → have ≤ epoch → epoch ≤ number_limit → IsAtEpoch have t
    → IsAtEpoch epoch (changed_by t (epoch_put have epoch ++ state_put name put))
epoch_changed have epoch name put t low few at = changed_at have epoch name put t (nat_lt have epoch) refl low few at

makes_by : (changes : List Change) (a b : StoreView) (P Q : Table → Type 0) → Makes changes a b → ((t : Table) → P t → Q (changed_by t changes)) → Holds a P → Holds b Q
makes_by [] a b P Q stays step has =
    holds_on a b Q stays (weaker a has)
  where
    weaker : (v : StoreView) → Holds v P → Holds v Q
    weaker v h = each v.moments h
      where
        each : (ms : Option (List CrashMaps)) → NowBy no_map ms (λ s. P s.before.table) → NowBy no_map ms (λ s. Q s.before.table)
        each None now = tt
        each (Some ss) now = step _ now
makes_by (c ∷ cs) a b P Q made step has = made_holds (c ∷ cs) a b P Q made step has

epoch_made : (have epoch : ℕ) (name : Option (List ℕ)) (put : Option NameState) (a b : StoreView) (raised : Bool) → nat_lt have epoch ≡ raised → have ≤ epoch → epoch ≤ number_limit
    → Makes (cond raised (Put epoch_key (big_bytes 8 epoch) ∷ []) [] ++ state_put name put) a b → Holds a (IsAtEpoch have) → Holds b (IsAtEpoch epoch)
epoch_made have epoch name put a b true raised low few makes at =
    makes_by (Put epoch_key (big_bytes 8 epoch) ∷ state_put name put) a b (IsAtEpoch have) (IsAtEpoch epoch) makes (λ t is. at_raise have epoch name put t (ltb-true have epoch raised) few) at
epoch_made have epoch name put a b false raised low few makes at =
    makes_by (state_put name put) a b (IsAtEpoch have) (IsAtEpoch epoch) makes (λ t is. at_states have epoch name put t (omega (arith, low, ltb-false have epoch raised)) is) at

-- ---- what always holds of a base

pub stays_sound : (old new : BaseView) → StaysBase old new → Sound new.store → SoundBase old → SoundBase new
stays_sound old new h sound was = record {
  sound = sound;
  low = subst (λ e. e ≤ number_limit) (sym h.epoch) was.low;
  epoch = λ opened live. subst (λ e. Holds new.store (IsAtEpoch e)) (sym h.epoch)
      (holds_on old.store new.store (IsAtEpoch old.epoch) h.store (was.epoch (sym h.opened ∙ opened) (sym h.store.live ∙ live)));
}

pub fails_sound : (old new : BaseView) → FailsBase old new → Sound new.store → SoundBase old → SoundBase new
fails_sound old new h sound was = record {
  sound = sound;
  low = subst (λ e. e ≤ number_limit) (sym h.epoch) was.low;
  epoch = λ opened live. absurd (true≢false (sym live ∙ h.fails.closes.live));
}

answers_sound : (msg : BaseMsg) (old new : BaseView) (reply : BaseReply) → Answers msg old new reply → IsLive old → Sound new.store → SoundBase old → SoundBase new
answers_sound msg old new reply h on sound was =
    let x = served old.epoch h.state msg in
    let low = h.low was.low in
    let few : x.epoch ≤ number_limit = subst (λ e. e ≤ number_limit) h.epoch low in
    record {
      sound = sound;
      low = low;
      epoch = λ opened live. subst (λ e. Holds new.store (IsAtEpoch e)) (sym h.epoch)
          (epoch_made old.epoch x.epoch (name_in msg) x.put old.store new.store (nat_lt old.epoch x.epoch) refl (epoch_rises old.epoch h.state msg) few h.makes
          (was.epoch on.opened on.live));
    }

faults_sound : (msg : BaseMsg) (old new : BaseView) (fault : StoreFault) → Faults msg old new fault → Sound new.store → SoundBase old → SoundBase new
faults_sound msg old new store.Disk (inl reading) sound was = fails_sound old new reading.fails sound was
faults_sound msg old new store.Disk (inr commit) sound was = fails_sound old new commit.fails sound was
faults_sound msg old new (store.BadImage at) h sound was = absurd h
faults_sound msg old new (store.NoSpace used need limit) h sound was = absurd h
faults_sound msg old new (store.Worn limit) (inl worn) sound was = stays_sound old new worn.stays sound was
faults_sound msg old new (store.Worn limit) (inr worn) sound was = stays_sound old new worn.stays sound was
faults_sound msg old new store.NoMemory h sound was = stays_sound old new h.stays sound was

replies_sound : (msg : BaseMsg) (old new : BaseView) (reply : BaseReply) → Replies msg old new reply → IsLive old → Sound new.store → SoundBase old → SoundBase new
replies_sound msg old new (BaseReply.Fenced e) h on sound was = answers_sound msg old new _ h on sound was
replies_sound msg old new (BaseReply.Chunk e op chunk) h on sound was = answers_sound msg old new _ h on sound was
replies_sound msg old new (BaseReply.Looked e op looked) h on sound was = answers_sound msg old new _ h on sound was
replies_sound msg old new (BaseReply.Wrote e op acted) h on sound was = answers_sound msg old new _ h on sound was
replies_sound msg old new (BaseReply.Installed e op seq) h on sound was = answers_sound msg old new _ h on sound was
replies_sound msg old new (BaseReply.NoSpace e op used need limit) h on sound was = stays_sound old new h.stays sound was
replies_sound msg old new (BaseReply.OldEpoch have got) h on sound was = answers_sound msg old new _ h on sound was
replies_sound msg old new (BaseReply.NotFenced have got) h on sound was = answers_sound msg old new _ h on sound was

-- whatever became of a message
pub serves_sound : (msg : BaseMsg) (old new : BaseView) (result : Result BaseReply BaseFault) → Serves msg old new result → IsLive old → Sound new.store → SoundBase old → SoundBase new
serves_sound msg old new (Ok reply) h on sound was = replies_sound msg old new reply h on sound was
serves_sound msg old new (Err (Store fault)) h on sound was = faults_sound msg old new fault h sound was
serves_sound msg old new (Err (BadRecord name)) h on sound was = stays_sound old new h.stays sound was

-- the same of a base by its parts
pub served_whole : (msg : BaseMsg) (v : BaseView) (a b : StoreView) (e f : ℕ) (o : Bool) (result : Result BaseReply BaseFault) → v ≡ base_of a e o → IsLive v
    → SoundBase (base_of a e o) → Serves msg (base_of a e o) (base_of b f o) result → Sound b → SoundBase (base_of b f o)
served_whole msg v a b e f o result same live was h sound =
    serves_sound msg (base_of a e o) (base_of b f o) result h (subst IsLive same live) sound was
