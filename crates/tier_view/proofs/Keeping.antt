-- The general law: what a step owes is enough.
use Rattle.std.proofs.Common.{◌≡◌, ◌≢◌, ◌≤◌, ◌<◌, ℕ, ◌+◌, ◌==◌, cond, Bool, true, false, List, [], ◌∷◌, ◌++◌, length, Option, Some, None, refl, sym, ap, subst, ◌∙◌, true≢false, arith}
use Rattle.std.proofs.lemmas.Bool.{eqb-true}
use Rattle.std.specs.List.{AllByRecursion}
use Rattle.obj_model.specs.declared.change.Pool.TheVariants.{Cache, Base}
use Rattle.tier_chron.proofs.Lists.{all_imply, either_way}
use Rattle.tier_chron.specs.Calls.{Call, call_of}
use Rattle.tier_chron.specs.Shapes.{IsAnswered}
use Rattle.tier_chron.specs.declared.entries.Act.{Act}
use Rattle.tier_chron.specs.declared.entries.Logged.{Logged}
use Rattle.tier_view.specs.Calls.{Entry}
use Rattle.tier_view.specs.Grows.{AreEntered, Extends, IsNew, HaveCome, Stays, Wanted}
use Rattle.tier_view.specs.Owed.{StepsKeep, WholeIsGroup}
use Rattle.tier_view.specs.Tables.{IsUnanswered, SoundEntry, goes_without}
use Rattle.tier_view.specs.Views.{calls_in}
use Rattle.tier_view.specs.Whole.{HaveCauses, faults_told}
use Rattle.tier_view.proofs.Growth.{causes_append, causes_stay, faults_append}

-- ---- lists

pub all_append : {X : Type 0} (P : X → Type 0) (xs ys : List X) → AllByRecursion P xs → AllByRecursion P ys → AllByRecursion P (xs ++ ys)
all_append P [] ys h k = k
all_append P (x ∷ xs) ys h k = (h.0, all_append P xs ys h.1 k)

-- ---- numbers that were not given out

pub none_above : (last epoch : ℕ) (answers : List Logged) (entries : List Entry) (n : ℕ) → AllByRecursion (SoundEntry last epoch answers) entries → last < n → call_of (calls_in entries) n ≡ None
none_above last epoch answers [] n h above = refl
none_above last epoch answers (e ∷ es) n h above =
    either_way (e.number == n)
    (λ same. absurd (omega (arith, eqb-true e.number n same, h.0.given, above)))
    (λ other. ap (λ b. cond b (Some (record { number = e.number; line = e.line; begin = e.begin; asked = e.asked })) (call_of (calls_in es) n)) other ∙ none_above last epoch answers es n h.1 above)

-- what was not given out was not answered
pub new_unanswered : (calls : List Call) (acts : List Act) (answers : List Logged) (n : ℕ) → call_of calls n ≡ None → AllByRecursion (λ l. IsAnswered acts l (call_of calls l.call)) answers → IsUnanswered n answers
new_unanswered calls acts answers n none h =
    all_imply (λ l. IsAnswered acts l (call_of calls l.call)) (λ l. l.call ≢ n) (λ l k same. subst (IsAnswered acts l) (ap (call_of calls) same ∙ none) k) answers h

-- ---- the table of calls

same_none : (P : ℕ → Type 0) (a b : ℕ) → a ≡ b → P b → P a
same_none P a b e h = subst P (sym e) h

was_open : (old new : Bool) → (old ≡ true → new ≡ true) → new ≡ false → old ≡ false
was_open true new h e = absurd (true≢false (sym (h refl) ∙ e))
was_open false new h e = refl

last_later : (old new : List Entry) (last last' epoch begin : ℕ) (what : Option Wanted) → Extends Stays (AreEntered (last + 1) epoch begin last' what) old new → last ≤ last'
last_later [] [] last last' epoch begin what h = omega (arith, h)
last_later [] (f ∷ []) last last' epoch begin what h = omega (arith, h.0)
last_later [] (f ∷ g ∷ fs) last last' epoch begin what h = absurd h
last_later (e ∷ es) [] last last' epoch begin what h = absurd h
last_later (e ∷ es) (f ∷ fs) last last' epoch begin what h = last_later es fs last last' epoch begin what h.1

module _ (last last' epoch epoch' begin : ℕ) (what : Option Wanted) (answers more : List Logged) (later : epoch ≤ epoch') (fresh : IsUnanswered (last + 1) answers) (up : last ≤ last') where
  kept_entry : (e f : Entry) → SoundEntry last epoch answers e → Stays e f → (f.ended ≡ false → IsUnanswered f.number more) → SoundEntry last' epoch' (answers ++ more) f
  kept_entry e f h s over = record {
    positive = omega (arith, h.positive, s.number);
    given = omega (arith, h.given, s.number, up);
    reached = omega (arith, h.reached, s.epoch, later);
    lined = λ none. ap (λ a. goes_without a) s.asked ∙ h.lined (sym s.line ∙ none);
    unanswered = λ going.
        all_append (λ l. l.call ≢ f.number) answers more
        (same_none (λ n. IsUnanswered n answers) f.number e.number s.number (h.unanswered (was_open e.ended f.ended s.ended going)))
        (over going);
  }

  new_entry : (f : Entry) → last' ≡ last + 1 → IsNew (last + 1) epoch' begin what f → (f.ended ≡ false → IsUnanswered f.number more) → SoundEntry last' epoch' (answers ++ more) f
  new_entry f is h over = record {
    positive = omega (arith, h.number);
    given = omega (arith, h.number, is);
    reached = omega (arith, h.epoch);
    lined = h.lined;
    unanswered = λ going. all_append (λ l. l.call ≢ f.number) answers more (same_none (λ n. IsUnanswered n answers) f.number (last + 1) h.number fresh) (over going);
  }

  pub entries_keep : (old new : List Entry) → Extends Stays (AreEntered (last + 1) epoch' begin last' what) old new → AllByRecursion (SoundEntry last epoch answers) old
      → AllByRecursion (λ e. e.ended ≡ false → IsUnanswered e.number more) new → AllByRecursion (SoundEntry last' epoch' (answers ++ more)) new
  entries_keep [] [] g h over = tt
  entries_keep [] (f ∷ []) g h over = (new_entry f g.0 g.1 over.0, tt)
  entries_keep [] (f ∷ k ∷ fs) g h over = absurd g
  entries_keep (e ∷ es) [] g h over = absurd g
  entries_keep (e ∷ es) (f ∷ fs) g h over = (kept_entry e f h.0 g.0 over.0, entries_keep es fs g.1 h.1 over.1)

-- ---- all of it

pub steps_keep : StepsKeep
steps_keep other wanted more v w h g o =
    let n : ℕ = length v.log.answers in
    record {
      memory = g.pools.memory h.memory;
      began = λ told. let b = h.began (g.pools.told told) in (b.0, g.began b.0 (g.pools.told told) b.1);
      shaped = o.shaped h.shaped;
      pending = o.pending;
      calls =
          let none = none_above v.calls.last v.standing.cache_epoch v.log.answers v.calls.entries (v.calls.last + 1) h.calls (omega arith) in
          subst (λ a. AllByRecursion (SoundEntry w.calls.last w.standing.cache_epoch a) w.calls.entries) (sym o.logs)
          (entries_keep v.calls.last w.calls.last v.standing.cache_epoch w.standing.cache_epoch (length v.log.acts) wanted v.log.answers more g.epoch
          (new_unanswered (calls_in v.calls.entries) v.log.acts v.log.answers (v.calls.last + 1) none h.shaped.answered)
          (last_later v.calls.entries w.calls.entries v.calls.last w.calls.last w.standing.cache_epoch (length v.log.acts) wanted g.calls)
          v.calls.entries w.calls.entries g.calls h.calls o.over);
      flights = o.flights;
      traffic = o.traffic;
      causes = subst (λ a. HaveCauses 0 w.calls w.agent.share w.standing.cache_epoch a) (sym o.logs)
          (causes_append 0 w.calls w.agent.share w.standing.cache_epoch v.log.answers more
          (causes_stay n (length w.log.answers) v.calls w.calls (AreEntered (v.calls.last + 1) w.standing.cache_epoch (length v.log.acts) w.calls.last wanted)
          (HaveCome v.calls.entries w.calls.entries n v.standing w.standing) g.calls g.flown v.agent.share w.agent.share g.share
          v.standing.cache_epoch w.standing.cache_epoch g.epoch 0 v.log.answers (omega arith) h.causes)
          (subst (λ i. HaveCauses i w.calls w.agent.share w.standing.cache_epoch more) (omega arith) o.causes));
      counted = record {
        cache = subst (λ a. faults_told Cache a ≤ w.stores.cache.faults) (sym o.logs) (omega (arith, faults_append Cache v.log.answers more, h.counted.cache, o.cache_failed));
        base = subst (λ a. faults_told Base a ≤ w.stores.base.faults) (sym o.logs) (omega (arith, faults_append Base v.log.answers more, h.counted.base, o.base_failed));
      };
      stops = o.stops;
      totals = o.totals;
    }

pub whole_is_group : WholeIsGroup
whole_is_group v h = record { memory = h.memory; began = λ told. let b = h.began told in (b.0, b.1.pools) }
