-- A base is opened anew, and what is in doubt of it is looked for.
use Rattle.std.proofs.Common.{◌≡◌, ◌≢◌, ◌≤◌, ◌⊎◌, inl, inr, ℕ, true, false, List, [], Option, Some, None, refl, sym, ap, subst, ◌∙◌, true≢false, arith}
use Rattle.std.specs.FinMap as fin
use Rattle.std.specs.Prelude.{Result, Ok, Err}
use Rattle.pool_keys.specs.Reads.{HasNoEpoch}
use Rattle.pool_keys.specs.Values.{IsAtEpoch}
use Rattle.base_pool.specs.Opens.{HasSeq, IsSeqOf, OpensUnread, ReadsSeq, ReadsState, ReopensBase}
use Rattle.base_pool.specs.Opens as base
use Rattle.base_pool.specs.Serves.{IsUnreadable}
use Rattle.base_pool.specs.Views.{BaseView, Has as HasThere, IsLive, SoundBase}
use Rattle.base_pool.specs.declared.fault.BaseFault.{BaseFault}
use Rattle.base_pool.specs.declared.fault.BaseFault.TheVariants as there
use Rattle.obj_model.specs.declared.change.Pool.{Pool}
use Rattle.obj_model.specs.declared.change.Pool.TheVariants.{Base, Cache}
use Rattle.obj_model.specs.declared.state.NameState.{NameState}
use Rattle.pool_keys.proofs.Bases.{state_one}
use Rattle.pool_keys.proofs.Epochs.{epoch_one}
use Rattle.pool_keys.specs.Keys.{epoch_key, state_key}
use Rattle.store_face.proofs.Later.{stays_same}
use Rattle.store_face.specs.Calls.{Among, Both, Opens, ReadFails, Reopened, Stays}
use Rattle.store_face.specs.Tables.{Table}
use Rattle.store_face.specs.Views.{CrashMaps, Durable, Holds, Now, Sound, StoreView, no_map}
use Rattle.store_face.specs.declared.fault.StoreFault.{StoreFault}
use Rattle.store_face.specs.declared.fault.StoreFault.TheVariants.{Disk, BadImage, NoSpace, Worn, NoMemory}
use Rattle.tier_chron.specs.declared.entries.Act.{Act}
use Rattle.tier_chron.specs.declared.entries.First.{First}
use Rattle.tier_core.specs.Looks.{FindsThere, HoldsEpoch, Matches, fault_there}
use Rattle.tier_core.specs.Opens.{IsFound, IsOtherThan, IsReopened, LooksThere, OpenFails}
use Rattle.tier_core.specs.declared.opening.Found.{Found}
use Rattle.tier_core.specs.declared.opening.Found.TheVariants as found
use Rattle.tier_core.specs.declared.opening.OpenFault.{OpenFault}
use Rattle.tier_core.specs.declared.opening.OpenFault.TheVariants as fault
use Rattle.tier_join.proofs.Left.{read_is_left}
use Rattle.tier_join.specs.Group.{HasStateAt}
use Rattle.tier_join.specs.Steps.{Has}
use Rattle.tier_outside.proofs.Moments.{grown_none, now_same}
use Rattle.tier_outside.specs.Causes.{Rose}
use Rattle.tier_outside.specs.Moments as moments
use Rattle.tier_view.specs.Starts.{pool_in}
use Rattle.tier_view.specs.Whole.{IsElsewhere}
use Rattle.tier_view.specs.declared.parts.Pending.{Pending}
use Rattle.tier_view.proofs.StartingReady.{readings_behind_openings}

-- ---- a store

-- what was read of a store that is live is in each map that a stop leaves
pub has_now : (s t : StoreView) (P : Table → Type 0) → t.moments ≡ s.moments → Sound t → t.live ≡ true → Holds s P → Has t P
has_now s t P same sound live holds = read_is_left t P sound live (now_same no_map s.moments t.moments (λ c. P c.before.table) (sym same) holds)

-- no moment came
pub among_same : (s t : StoreView) → t.moments ≡ s.moments → Among s t
among_same s t same = record { more = []; grew = same ∙ grown_none s.moments; each = each s.moments }
  where
    each : (m : Option (List CrashMaps)) → moments.Now no_map m (λ was. moments.Each [] (Both (λ (d : Durable). (d ≡ was.before) ⊎ (d ≡ was.after))))
    each None = tt
    each (Some ms) = tt

-- a store that was opened, behind which it was read
pub reopened_then : (a b c : StoreView) → Opens a b → c.moments ≡ b.moments → c.room ≡ b.room → b.faults ≤ c.faults → IsReopened a c
reopened_then a b c opens same room later = record {
  among = readings_behind_openings a b c opens.among same;
  room = room ∙ opens.room;
  later = omega (arith, opens.later, later);
}

pub reopened_stays : (a b c : StoreView) → Opens a b → Stays b c → IsReopened a c
reopened_stays a b c opens stays = reopened_then a b c opens stays.moments stays.room stays.later

-- it is open still
pub opens_stays : (a b c : StoreView) → Opens a b → Stays b c → Opens a c
opens_stays a b c opens stays = record {
  among = readings_behind_openings a b c opens.among stays.moments;
  now = now_on a.moments opens.now;
  live = stays.live ∙ opens.live;
  room = stays.room ∙ opens.room;
  later = omega (arith, opens.later, stays.later);
}
  where
    Either : CrashMaps → Durable → Type 0
    Either was d = (d ≡ was.before) ⊎ (d ≡ was.after)

    now_on : (m : Option (List CrashMaps)) → moments.Now no_map m (λ was. Now b (Both (Either was))) → moments.Now no_map m (λ was. Now c (Both (Either was)))
    now_on None h = tt
    now_on (Some ms) h = now_same no_map b.moments c.moments (Both (Either (moments.last no_map ms))) (sym stays.moments) h

rose : (a b c : ℕ) → a ≤ b → Rose b c → Rose a c
rose a b c h k = omega (arith, h, k)

-- a reading behind it failed
pub reopened_fails : (f : StoreFault) (a b c : StoreView) → Opens a b → ReadFails f b c → IsReopened a c × OpenFails f a c
reopened_fails Disk a b c opens h = (reopened_then a b c opens h.1 h.0.closes.room h.0.closes.later, (rose a.faults b.faults c.faults opens.later h.0.rose, h.0.closes.live))
reopened_fails (BadImage at) a b c opens h = absurd h
reopened_fails (NoSpace used need limit) a b c opens h = absurd h
reopened_fails (Worn limit) a b c opens h = absurd h
reopened_fails NoMemory a b c opens h = (reopened_stays a b c opens h, tt)

-- the opening itself failed
pub opening_fails : (f : StoreFault) (a c : StoreView) → Reopened a c (Err f) → IsReopened a c × OpenFails f a c
opening_fails Disk a c h = (record { among = h.0; room = h.1.closes.room; later = h.1.closes.later }, (h.1.rose, h.1.closes.live))
opening_fails (BadImage at) a c h =
    (record { among = among_same a c (h.1 ∙ sym h.0); room = h.2.room; later = h.2.later }, (h.0, h.1, h.2.live))
opening_fails (NoSpace used need limit) a c h = absurd h
opening_fails (Worn limit) a c h = absurd h
opening_fails NoMemory a c h = (record { among = h.0; room = h.1.room; later = h.1.later }, tt)

-- ---- the base's epoch

-- each map that a stop leaves of a live base has its epoch
at_epoch : (b : BaseView) → IsLive b → SoundBase b → Has b.store (IsAtEpoch b.epoch)
at_epoch b live sound = read_is_left b.store (IsAtEpoch b.epoch) sound.sound live.live (sound.epoch live.opened live.live)

-- the base is at another epoch than the one that is kept
pub not_held : (p : Option Pending) (kept : ℕ) (old new : BaseView) (f : OpenFault) → IsOtherThan old.epoch p → IsLive old → SoundBase old → HoldsEpoch kept old new (Err f)
    → FindsThere p kept old new (Err f)
not_held p kept old new (fault.OtherEpoch e) other live sound h =
    subst (λ (n : BaseView). FindsThere p kept old n (Err (fault.OtherEpoch e))) (sym h.0) (
      stays_same old.store,
      refl,
      subst (λ (n : ℕ). Has old.store (IsAtEpoch n)) (sym h.1) (at_epoch old live sound),
      h.2,
      subst (λ (n : ℕ). IsOtherThan n p) (sym h.1) other,
    )
not_held p kept old new (fault.Store f) other live sound h = absurd h
not_held p kept old new (fault.BadRecord name) other live sound h = absurd h
not_held p kept old new (fault.Sums f) other live sound h = absurd h

pub other_elsewhere : (p : Option Pending) (e : ℕ) → IsElsewhere Base p → IsOtherThan e p
other_elsewhere None e h = tt
other_elsewhere (Some (Pending.Plain pool name)) e h = tt
other_elsewhere (Some (Pending.Act pool first a seq)) e h = tt
other_elsewhere (Some (Pending.Epoch Cache n)) e h = tt
other_elsewhere (Some (Pending.Epoch Base n)) e h = absurd (h refl)

-- ---- nothing of the base is in doubt

pub elsewhere_of : (pool : Pool) (p : Pending) → pool_in p ≢ pool → IsElsewhere pool (Some p)
elsewhere_of pool (Pending.Plain q name) h = h
elsewhere_of pool (Pending.Act q first a seq) h = h
elsewhere_of pool (Pending.Epoch q e) h = h

pub not_found : (pool : Pool) (p : Option Pending) (s : StoreView) → IsElsewhere pool p → IsFound pool p s found.Nothing
not_found pool None s h = refl
not_found pool (Some (Pending.Plain q name)) s h = h
not_found pool (Some (Pending.Act q first a seq)) s h = h
not_found pool (Some (Pending.Epoch q e)) s h = h

pub nothing_there : (p : Option Pending) (kept : ℕ) (old new : BaseView) → IsElsewhere Base p → IsLive old → HoldsEpoch kept old new (Ok tt) → FindsThere p kept old new (Ok found.Nothing)
nothing_there p kept old new elsewhere live h =
    subst (λ (n : BaseView). FindsThere p kept old n (Ok found.Nothing)) (sym h.0) (stays_same old.store, live.opened, h.1, not_found Base p old.store elsewhere)

pub nothing_held : (p : Option Pending) (kept : ℕ) (old new : BaseView) (f : OpenFault) → IsElsewhere Base p → IsLive old → SoundBase old → HoldsEpoch kept old new (Err f)
    → FindsThere p kept old new (Err f)
nothing_held p kept old new f elsewhere live sound h = not_held p kept old new f (other_elsewhere p old.epoch elsewhere) live sound h

-- ---- a name in doubt

module _ (name : List ℕ) (old new : BaseView) (live : IsLive old) (sound : SoundBase new) where
  pub name_there : (s : NameState) → ReadsState name old new (Ok s) → FindsThere (Some (Pending.Plain Base name)) old.epoch old new (Ok found.There)
  name_there s h = (
    h.2.store,
    h.2.opened ∙ live.opened,
    h.2.epoch,
    (refl, (s, has_now old.store new.store (HasThere name s) h.2.store.moments sound.sound (h.2.store.live ∙ live.live) h.1)),
  )

  -- a value that spells no state
  unreadable : (other : List ℕ) → other ≡ name → Holds old.store (IsUnreadable name) → Stays old.store new.store → Has new.store (IsUnreadable other)
  unreadable other same holds stays =
      subst (λ (n : List ℕ). Has new.store (IsUnreadable n)) (sym same) (has_now old.store new.store (IsUnreadable name) stays.moments sound.sound (stays.live ∙ live.live) holds)

  pub name_fails : (f : BaseFault) → ReadsState name old new (Err f) → FindsThere (Some (Pending.Plain Base name)) old.epoch old new (Err (fault_there f))
  name_fails (there.Store f) h = (h.0, h.1)
  name_fails (there.BadRecord other) h = (h.2.store, h.2.epoch, unreadable other h.0 h.1 h.2.store)

-- ---- an act in doubt

shows_seq : (o : Option (List ℕ)) (seq : ℕ) → IsSeqOf o (Some seq) → HasStateAt seq o
shows_seq None seq h = absurd h
shows_seq (Some bytes) seq h = h

not_shown : (o : Option (List ℕ)) (n : Option ℕ) (seq : ℕ) → n ≢ Some seq → IsSeqOf o n → HasStateAt seq o → ⊥
not_shown None n seq other h shown = shown
not_shown (Some bytes) None seq other h shown = h
not_shown (Some bytes) (Some m) seq other h shown =
    other (ap Some (sym h.2 ∙ ap (λ (s : NameState). s.seq) (state_one (Some bytes) h.0 shown.0 h.1 shown.1) ∙ shown.2))

module _ (a : Act) (old new : BaseView) (live : IsLive old) (sound : SoundBase new) where
  has_seq : (n : Option ℕ) → ReadsSeq a.req.name old new (Ok n) → Has new.store (HasSeq a.req.name n)
  has_seq n h = has_now old.store new.store (HasSeq a.req.name n) h.1.store.moments sound.sound (h.1.store.live ∙ live.live) h.0

  pub act_found : (n : Option ℕ) (seq : ℕ) (f : Found) (first : Option First) → Matches n seq f → ReadsSeq a.req.name old new (Ok n)
      → FindsThere (Some (Pending.Act Base first a seq)) old.epoch old new (Ok f)
  act_found n seq found.Nothing first m h = absurd m
  act_found n seq found.There first m h = (
    h.1.store,
    h.1.opened ∙ live.opened,
    h.1.epoch,
    (refl, λ t left. shows_seq (fin.get t (state_key a.req.name)) seq (subst (λ (k : Option ℕ). HasSeq a.req.name k t) m (has_seq n h t left))),
  )
  act_found n seq found.Gone first m h = (
    h.1.store,
    h.1.opened ∙ live.opened,
    h.1.epoch,
    (refl, λ t left shown. not_shown (fin.get t (state_key a.req.name)) n seq m (has_seq n h t left) shown),
  )

  pub act_fails : (f : BaseFault) (seq : ℕ) (first : Option First) → ReadsSeq a.req.name old new (Err f)
      → FindsThere (Some (Pending.Act Base first a seq)) old.epoch old new (Err (fault_there f))
  act_fails (there.Store f) seq first h = (h.0, h.1)
  act_fails (there.BadRecord other) seq first h = (h.2.store, h.2.epoch, unreadable a.req.name old new live sound other h.0 h.1 h.2.store)

-- ---- an epoch in doubt

module _ (e kept : ℕ) (old : BaseView) (live : IsLive old) (sound : SoundBase old) where
  pub epoch_there : old.epoch ≡ e → FindsThere (Some (Pending.Epoch Base e)) kept old old (Ok found.There)
  epoch_there same = (stays_same old.store, live.opened, same, (refl, subst (λ (n : ℕ). Has old.store (IsAtEpoch n)) same (at_epoch old live sound)))

  pub epoch_gone : (new : BaseView) → old.epoch ≢ e → HoldsEpoch kept old new (Ok tt) → FindsThere (Some (Pending.Epoch Base e)) kept old new (Ok found.Gone)
  epoch_gone new other h =
      subst (λ (n : BaseView). FindsThere (Some (Pending.Epoch Base e)) kept old n (Ok found.Gone)) (sym h.0) (
        stays_same old.store,
        live.opened,
        h.1,
        (refl, λ t left there. other (epoch_one (fin.get t epoch_key) old.epoch e (at_epoch old live sound t left) there)),
      )

-- ---- the doubt, whichever it is

pub other_plain : (p : Pending) (pool : Pool) (name : List ℕ) (e : ℕ) → p ≡ Pending.Plain pool name → IsOtherThan e (Some p)
other_plain p pool name e is = subst (λ (q : Pending). IsOtherThan e (Some q)) (sym is) tt

pub other_act : (p : Pending) (pool : Pool) (first : Option First) (a : Act) (seq e : ℕ) → p ≡ Pending.Act pool first a seq → IsOtherThan e (Some p)
other_act p pool first a seq e is = subst (λ (q : Pending). IsOtherThan e (Some q)) (sym is) tt

-- behind the test of its epoch
pub act_there : (p : Pending) (pool : Pool) (first : Option First) (a : Act) (seq kept : ℕ) (old mid new : BaseView) (r : Result Found OpenFault) → p ≡ Pending.Act pool first a seq
    → pool_in p ≡ Base → HoldsEpoch kept old mid (Ok tt) → FindsThere (Some (Pending.Act Base first a seq)) mid.epoch mid new r → FindsThere (Some p) kept old new r
act_there p pool first a seq kept old mid new r is there held h =
    let same : Pending.Act Base first a seq ≡ p =
    ap (λ (q : Pool). Pending.Act q first a seq) (sym (ap pool_in (sym is) ∙ there)) ∙ sym is in
    subst (λ (q : Pending). FindsThere (Some q) kept old new r) same
    (subst (λ (n : ℕ). FindsThere (Some (Pending.Act Base first a seq)) n old new r) held.1
    (subst (λ (b : BaseView). FindsThere (Some (Pending.Act Base first a seq)) b.epoch b new r) held.0 h))

-- ---- all of it

pub looked_there : (p : Option Pending) (kept : ℕ) (old mid new : BaseView) (r : Result Found OpenFault) → base.OpensBase old mid → FindsThere p kept mid new r → LooksThere p kept old new r
looked_there p kept old mid new (Ok f) opens h = (opens_stays old.store mid.store new.store opens.opens h.0, h.1, h.2, h.3)
looked_there p kept old mid new (Err (fault.Store f)) opens h =
    let fails = reopened_fails f old.store mid.store new.store opens.opens h.0 in
    (fails.0, λ live. h.1, fails.1)
looked_there p kept old mid new (Err (fault.BadRecord name)) opens h =
    (reopened_stays old.store mid.store new.store opens.opens h.0, λ live. h.1, λ t left. inl (h.2 t left))
looked_there p kept old mid new (Err (fault.OtherEpoch e)) opens h =
    (reopened_stays old.store mid.store new.store opens.opens h.0, h.1, h.2, h.3, h.4)
looked_there p kept old mid new (Err (fault.Sums f)) opens h = absurd h

shut_level : (new : BaseView) (kept : ℕ) → new.opened ≡ false → IsLive new → new.epoch ≡ kept
shut_level new kept shut live = absurd (true≢false (sym live.opened ∙ shut))

pub not_looked : (p : Option Pending) (kept : ℕ) (old new : BaseView) (f : BaseFault) → SoundBase new → ReopensBase old new (Err f) → LooksThere p kept old new (Err (fault_there f))
not_looked p kept old new (there.Store f) sound (shut, inl h) =
    let fails = opening_fails f old.store new.store h in
    (fails.0, shut_level new kept shut.opened, fails.1)
not_looked p kept old new (there.Store f) sound (shut, inr h) =
    let fails = reopened_fails f old.store h.between new.store h.opens h.unread in
    (fails.0, shut_level new kept shut.opened, fails.1)
not_looked p kept old new (there.BadRecord name) sound (shut, h) = (
  reopened_stays old.store h.between new.store h.opens h.unread.0,
  shut_level new kept shut.opened,
  λ t left. inr (h.unread.1, has_now h.between new.store HasNoEpoch h.unread.0.moments sound.sound (h.unread.0.live ∙ h.opens.live) h.unread.2 t left),
)
