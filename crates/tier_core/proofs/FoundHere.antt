-- A cache is opened anew, and what is in doubt of it is looked for.
use Rattle.std.proofs.Common.{◌≡◌, ◌≢◌, inl, inr, ℕ, true, false, List, Option, Some, None, refl, sym, ap, subst, ◌∙◌}
use Rattle.std.specs.FinMap as fin
use Rattle.std.specs.Prelude.{Result, Ok, Err}
use Rattle.agent_state.specs.declared.totals.Totals.{Totals}
use Rattle.pool_keys.specs.Reads.{HasNoEpoch}
use Rattle.cache_pool.specs.Reads.{HasRecord, IsUnreadable, ReadsEpoch, ReadsRecord}
use Rattle.cache_pool.specs.declared.fault.CacheFault.{CacheFault}
use Rattle.cache_pool.specs.declared.fault.CacheFault.TheVariants as here
use Rattle.obj_model.specs.declared.change.Pool.{Pool}
use Rattle.obj_model.specs.declared.change.Pool.TheVariants.{Base, Cache}
use Rattle.pool_keys.proofs.Caches.{record_one}
use Rattle.pool_keys.proofs.Epochs.{epoch_one}
use Rattle.pool_keys.specs.Keys.{epoch_key, record_key}
use Rattle.pool_keys.specs.Values.{IsAtEpoch, IsRecOf}
use Rattle.pool_survey.specs.Causes.{IsCacheEntry, IsFirstWrong}
use Rattle.pool_survey.specs.Surveys.{AreSumsOf, Sums}
use Rattle.pool_survey.specs.declared.fault.SurveyFault.{SurveyFault}
use Rattle.pool_survey.specs.declared.fault.SurveyFault.TheVariants as survey
use Rattle.store_face.proofs.Later.{stays_same}
use Rattle.store_face.specs.Calls.{Opens, Reopened, Stays}
use Rattle.store_face.specs.Tables.{Table}
use Rattle.store_face.specs.Views.{CrashMaps, Holds, Sound, StoreView, no_map}
use Rattle.pool_keys.specs.Left.{IsLeftBy}
use Rattle.pool_keys.specs.Maps.{IsCacheMap}
use Rattle.tier_outside.proofs.Moments.{now_weaker}
use Rattle.store_face.specs.declared.fault.StoreFault.{StoreFault}
use Rattle.store_face.specs.declared.fault.StoreFault.TheVariants.{Disk, BadImage, NoSpace, Worn, NoMemory}
use Rattle.tier_chron.specs.declared.entries.Act.{Act}
use Rattle.tier_chron.specs.declared.entries.First.{First}
use Rattle.tier_core.proofs.LookedThere.{has_now, not_found, opening_fails, opens_stays, reopened_fails, reopened_stays}
use Rattle.tier_core.specs.Looks.{FindsAny, FindsHere, Matches, fault_here, fault_of_sums, seq_in}
use Rattle.tier_core.specs.Opens.{IsFound, LooksHere}
use Rattle.tier_core.specs.declared.opening.Found.{Found}
use Rattle.tier_core.specs.declared.opening.Found.TheVariants as found
use Rattle.tier_core.specs.declared.opening.OpenFault.{OpenFault}
use Rattle.tier_core.specs.declared.opening.OpenFault.TheVariants as fault
use Rattle.tier_join.specs.Group.{HasRecordAt}
use Rattle.tier_join.specs.Steps.{Has}
use Rattle.tier_types.specs.declared.record.TierRec.{TierRec}
use Rattle.tier_view.specs.Starts.{pool_in}
use Rattle.tier_view.specs.Whole.{IsElsewhere}
use Rattle.tier_view.specs.declared.parts.Pending.{Pending}

-- ---- one record

shows_seq : (o : Option (List ℕ)) (rec : Option TierRec) (seq : ℕ) → IsRecOf o rec → seq_in rec ≡ Some seq → HasRecordAt seq o
shows_seq None None seq h same = absurd (cc)
shows_seq None (Some r) seq h same = absurd h
shows_seq (Some bytes) None seq h same = absurd h
shows_seq (Some bytes) (Some r) seq h same = (r, h, some_one same)
  where
    some_one : Some r.state.seq ≡ Some seq → r.state.seq ≡ seq
    some_one e = cc

not_shown : (o : Option (List ℕ)) (rec : Option TierRec) (seq : ℕ) → IsRecOf o rec → seq_in rec ≢ Some seq → HasRecordAt seq o → ⊥
not_shown None rec seq h other shown = shown
not_shown (Some bytes) None seq h other shown = h
not_shown (Some bytes) (Some r) seq h other shown =
    other (ap (λ (x : Option TierRec). seq_in x) (record_one (Some bytes) (Some r) (Some shown.0) h shown.1) ∙ ap Some shown.2)

module _ (old new : StoreView) (live : old.live ≡ true) (sound : Sound new) where
  -- what was read is in each map that a stop leaves
  kept : (P : Table → Type 0) → Stays old new → Holds old P → Has new P
  kept P stays holds = has_now old new P stays.moments sound (stays.live ∙ live) holds

  module _ (name : List ℕ) where
    pub record_fails : (f : CacheFault) (p : Pending) → ReadsRecord name old new (Err f) → FindsHere p old new (Err (fault_here f))
    record_fails (here.Store f) p h = h
    record_fails (here.BadRecord other) p h =
        (h.2, λ t left. inl (subst (λ (n : List ℕ). IsUnreadable n t) (sym h.0) (kept (IsUnreadable name) h.2 h.1 t left)))

    pub name_here : (rec : Option TierRec) → ReadsRecord name old new (Ok rec) → FindsHere (Pending.Plain Cache name) old new (Ok found.There)
    name_here rec h = (h.2, (refl, (rec, kept (HasRecord name rec) h.2 h.1)))

  pub act_here : (a : Act) (rec : Option TierRec) (seq : ℕ) (f : Found) (first : Option First) → Matches (seq_in rec) seq f → ReadsRecord a.req.name old new (Ok rec)
      → FindsHere (Pending.Act Cache first a seq) old new (Ok f)
  act_here a rec seq found.Nothing first m h = absurd m
  act_here a rec seq found.There first m h =
      (h.2, (refl, λ t left. shows_seq (fin.get t (record_key a.req.name)) rec seq (kept (HasRecord a.req.name rec) h.2 h.1 t left) m))
  act_here a rec seq found.Gone first m h =
      (h.2, (refl, λ t left shown. not_shown (fin.get t (record_key a.req.name)) rec seq (kept (HasRecord a.req.name rec) h.2 h.1 t left) m shown))

  -- ---- the epoch

  pub epoch_fails : (f : CacheFault) (p : Pending) → ReadsEpoch old new (Err f) → FindsHere p old new (Err (fault_here f))
  epoch_fails (here.Store f) p h = h
  epoch_fails (here.BadRecord name) p h = (h.2, λ t left. inr (h.0, kept HasNoEpoch h.2 h.1 t left))

  pub epoch_here : (n e : ℕ) → n ≡ e → ReadsEpoch old new (Ok n) → FindsHere (Pending.Epoch Cache e) old new (Ok found.There)
  epoch_here n e same h = (h.2, (refl, subst (λ (k : ℕ). Has new (IsAtEpoch k)) same (kept (IsAtEpoch n) h.2 h.1)))

  pub epoch_gone : (n e : ℕ) → n ≢ e → ReadsEpoch old new (Ok n) → FindsHere (Pending.Epoch Cache e) old new (Ok found.Gone)
  epoch_gone n e other h =
      (h.2, (refl, λ t left there. other (epoch_one (fin.get t epoch_key) n e (kept (IsAtEpoch n) h.2 h.1 t left) there)))

-- ---- whatever is in doubt

-- an act of the cache
pub act_doubted : (p : Pending) (pool : Pool) (first : Option First) (a : Act) (seq : ℕ) (old new : StoreView) (r : Result Found OpenFault) → p ≡ Pending.Act pool first a seq → pool_in p ≡ Cache
    → FindsHere (Pending.Act Cache first a seq) old new r → FindsHere p old new r
act_doubted p pool first a seq old new r is here h =
    subst (λ (q : Pending). FindsHere q old new r) (ap (λ (q : Pool). Pending.Act q first a seq) (sym (ap pool_in (sym is) ∙ here)) ∙ sym is) h

pub nothing_here : (p : Option Pending) (s : StoreView) → IsElsewhere Cache p → FindsAny p s s (Ok found.Nothing)
nothing_here p s h = (stays_same s, not_found Cache p s h)

pub some_here : (p : Pending) (old new : StoreView) (r : Result Found OpenFault) → pool_in p ≡ Cache → FindsHere p old new r → FindsAny (Some p) old new r
some_here p old new (Ok f) is h = h
some_here p old new (Err (fault.Store f)) is h = (h, is)
some_here p old new (Err (fault.BadRecord name)) is h = (h.0, h.1, is)
some_here p old new (Err (fault.OtherEpoch e)) is h = h
some_here p old new (Err (fault.Sums f)) is h = h

-- ---- all of it

-- the opening itself failed, so the store is not live
reopening_closes : (f : StoreFault) (a c : StoreView) → Reopened a c (Err f) → c.live ≡ false
reopening_closes Disk a c h = h.1.closes.live
reopening_closes (BadImage at) a c h = h.2.live
reopening_closes (NoSpace used need limit) a c h = absurd h
reopening_closes (Worn limit) a c h = absurd h
reopening_closes NoMemory a c h = h.1.live

pub not_looked_here : (p : Option Pending) (f : StoreFault) (a c : StoreView) → Reopened a c (Err f) → LooksHere p a c (Err (fault.Store f))
not_looked_here p f a c h = let fails = opening_fails f a c h in (fails.0, fails.1, inl (reopening_closes f a c h))

pub not_found_here : (p : Option Pending) (f : OpenFault) (a b c : StoreView) → Opens a b → FindsAny p b c (Err f) → LooksHere p a c (Err f)
not_found_here p (fault.Store f) a b c opens h = let fails = reopened_fails f a b c opens h.0 in (fails.0, fails.1, inr h.1)
not_found_here p (fault.BadRecord name) a b c opens h = (reopened_stays a b c opens h.0, h.1, h.2)
not_found_here p (fault.OtherEpoch e) a b c opens h = h
not_found_here p (fault.Sums f) a b c opens h = absurd h

-- the sums were not taken
sums_fail : (p : Option Pending) (f : SurveyFault) (a b c : StoreView) → Opens a b → Sound c → Sums b c (Err f) → LooksHere p a c (Err (fault_of_sums f))
sums_fail p (survey.Store Cache Disk) a b c opens sound h = let r = reopened_fails Disk a b c opens h in (r.0, r.1, inl r.1.1)
sums_fail p (survey.Store Cache (BadImage at)) a b c opens sound h = absurd h
sums_fail p (survey.Store Cache (NoSpace used need limit)) a b c opens sound h = absurd h
sums_fail p (survey.Store Cache (Worn limit)) a b c opens sound h = absurd h
sums_fail p (survey.Store Cache NoMemory) a b c opens sound h = (reopened_stays a b c opens h, tt)
sums_fail p (survey.Store Base f) a b c opens sound h = absurd h
sums_fail p (survey.BadRecord Cache key) a b c opens sound h =
    (reopened_stays a b c opens h.0, has_now b c (IsFirstWrong IsCacheEntry key) h.0.moments sound (h.0.live ∙ opens.live) h.1)
sums_fail p (survey.BadRecord Base key) a b c opens sound h = absurd h
sums_fail p (survey.Epochs held ahead) a b c opens sound h = absurd h
sums_fail p (survey.Unsound name) a b c opens sound h = absurd h
sums_fail p survey.NoMemory a b c opens sound h = (reopened_stays a b c opens h, tt)

module _ (p : Option Pending) (f : Found) (a b c d : StoreView) (opens : Opens a b) (h : FindsAny p b c (Ok f)) (sound : Sound d) where
  open_still : Opens a c
  open_still = opens_stays a b c opens h.0

  pub not_summed : (e : SurveyFault) → Sums c d (Err e) → LooksHere p a d (Err (fault_of_sums e))
  not_summed e k = sums_fail p e a c d open_still sound k

  pub looked_for : (totals : Totals) → Sums c d (Ok totals) → LooksHere p a d (Ok (f, totals))
  looked_for totals k = (
    opens_stays a c d open_still k.0,
    found_on p f h.1,
    has_now c d (AreSumsOf totals) k.0.moments sound (k.0.live ∙ open_still.live) (now_weaker no_map c.moments
        (λ s. IsCacheMap s.before.table × AreSumsOf totals s.before.table) (λ s. AreSumsOf totals s.before.table) (λ s m. m.1) k.1),
  )
    where
      has_on : (P : Table → Type 0) → Has c P → Has d P
      has_on P has t left = has t (subst (λ (m : Option (List CrashMaps)). IsLeftBy m t) k.0.moments left)

      found_on : (q : Option Pending) (f : Found) → IsFound Cache q c f → IsFound Cache q d f
      found_on None f h = h
      found_on (Some q) found.Nothing h = h
      found_on (Some (Pending.Plain Cache name)) found.There h = (h.0, (h.1.0, has_on _ h.1.1))
      found_on (Some (Pending.Plain Base name)) found.There h = (h.0, (h.1.0, has_on _ h.1.1))
      found_on (Some (Pending.Act pool first a seq)) found.There h = (h.0, has_on _ h.1)
      found_on (Some (Pending.Epoch pool e)) found.There h = (h.0, has_on _ h.1)
      found_on (Some (Pending.Plain pool name)) found.Gone h = h
      found_on (Some (Pending.Act pool first a seq)) found.Gone h = (h.0, has_on _ h.1)
      found_on (Some (Pending.Epoch pool e)) found.Gone h = (h.0, has_on _ h.1)
