-- A store is opened anew, and the act in doubt is settled.
use Rattle.std.proofs.Common.{◌≡◌, ◌≤◌, ◌⊎◌, inl, inr, ℕ, ◌+◌, false, List, [], ◌∷◌, ◌++◌, map, length, Option, Some, None, refl, sym, ap, subst, ◌∙◌, true≢false, arith}
use Rattle.std.specs.FinMap as fin
use Rattle.std.specs.Option.{option_map}
use Rattle.std.proofs.lemmas.List.{append-nil, map-append}
use Rattle.agent_state.specs.declared.totals.Totals.{Totals}
use Rattle.obj_model.specs.declared.change.Pool.{Pool}
use Rattle.obj_model.specs.declared.change.Pool.TheVariants.{Base, Cache}
use Rattle.obj_model.specs.declared.req.Req.{Req}
use Rattle.obj_ops.specs.Stores.{Store, state_of}
use Rattle.store_face.specs.Calls.{Among}
use Rattle.store_face.specs.Tables.{Table}
use Rattle.store_face.specs.Views.{StoreView}
use Rattle.tier_chron.specs.Logs.{opened}
use Rattle.tier_chron.specs.Places.{behind}
use Rattle.tier_chron.specs.Shapes.{IsShaped}
use Rattle.tier_chron.specs.declared.entries.Act.{Act}
use Rattle.tier_chron.specs.declared.entries.First.{First}
use Rattle.tier_chron.proofs.Staying.{act_keeps_shape}
use Rattle.tier_join.specs.Group.{Memory, ShowsIn, TwoMaps, View, AreLeft, BothTell, map_in, store_in, with_act}
use Rattle.tier_join.specs.declared.doubt.Doubt.{Doubt}
use Rattle.tier_join.specs.Promises.{Promises}
use Rattle.tier_join.specs.Steps.{Has, settled as left_settled, with_doubt}
use Rattle.tier_join.proofs.Left.{among_since, now_since}
use Rattle.tier_join.proofs.Reopening.{opening_promises}
use Rattle.tier_protocol.specs.Sound.{Shows}
use Rattle.tier_protocol.specs.Owners.{with_call_act}
use Rattle.tier_protocol.proofs.Requests.{fresh_seq}
use Rattle.tier_view.specs.Grows.{AreEntered, Grows, HaveCome, OneCommit, Remains, Stays, in_base, in_cache}
use Rattle.tier_view.specs.Laws.{Keeps, SettlingActsKeeps}
use Rattle.tier_view.specs.Owed.{Owes}
use Rattle.tier_view.specs.Settles.{Reopens, reopened, settled, settled_with}
use Rattle.tier_view.specs.Stores.{Pending, Stores, doubt_in}
use Rattle.tier_view.specs.Tables.{IsUnanswered}
use Rattle.tier_view.specs.Views.{GroupView, act_in, calls_in, joined, joined_of, ledger_in, memory_of}
use Rattle.tier_view.specs.Whole.{IsWhole, SoundStops}
use Rattle.tier_view.specs.Worlds.{Began, IsNextAct, IsOwned, IsOwnedBy, IsOwnedWith, MayPend}
use Rattle.tier_view.proofs.Delivering.{history_acts, opened_more}
use Rattle.tier_view.proofs.Keeping.{steps_keep}
use Rattle.tier_view.proofs.Owning.{knows_more}
use Rattle.tier_view.proofs.Resting.{all_of, extends_same, remains_itself, stays_itself}
use Rattle.tier_join.proofs.Reopening.{not_without}

-- ---- the stores

was_left : (pool : Pool) (x : Stores) (m n : Memory) (s : StoreView) → Among (store_in pool (joined_of x m)) s → (z : TwoMaps) → AreLeft (joined_of (reopened pool s x) n) z → AreLeft (joined_of x m) z
was_left Cache x m n s among z i = (among_since x.cache s among z.cache (now_since x.cache s _ among z.cache i.0), i.1)
was_left Base x m n s among z i = (i.0, among_since x.base s among z.base (now_since x.base s _ among z.base i.1))

own_left : (pool : Pool) (x : Stores) (n : Memory) (s : StoreView) (P : Table → Type 0) → Has s P → (z : TwoMaps) → AreLeft (joined_of (reopened pool s x) n) z → P (map_in pool z)
own_left Cache x n s P has z i = has z.cache i.0
own_left Base x n s P has z i = has z.base i.1

store_is : (pool : Pool) (x : Stores) (n : Memory) (s : StoreView) → store_in pool (joined_of (reopened pool s x) n) ≡ s
store_is Cache x n s = refl
store_is Base x n s = refl

settled_is : (pool : Pool) (x : Stores) (m n : Memory) (s : StoreView) → joined_of (reopened pool s x) n ≡ left_settled pool (joined_of x m) (joined_of (reopened pool s x) n) n
settled_is Cache x m n s = refl
settled_is Base x m n s = refl

commit_is : (pool : Pool) (x : Stores) (m : Memory) (s : StoreView) → Among (store_in pool (joined_of x m)) s → OneCommit x (reopened pool s x)
commit_is Cache x m s among = in_cache (inr among) refl
commit_is Base x m s among = in_base refl (inr among)

faults_are : (pool : Pool) (x : Stores) (m : Memory) (s : StoreView) → (store_in pool (joined_of x m)).faults ≤ s.faults → (x.cache.faults ≤ (reopened pool s x).cache.faults) × (x.base.faults ≤ (reopened pool s x).base.faults)
faults_are Cache x m s later = (later, omega arith)
faults_are Base x m s later = (omega arith, later)

none_pending : (pool : Pool) (x : Stores) (s : StoreView) → (reopened pool s x).pending ≡ None
none_pending Cache x s = refl
none_pending Base x s = refl

stops_are : (pool : Pool) (v : GroupView) (s : StoreView) → SoundStops v.stores v.standing → SoundStops (reopened pool s v.stores) v.standing
stops_are Cache v s h = record { cache = λ e. absurd (true≢false (sym e)); base = h.base }
stops_are Base v s h = record { cache = h.cache; base = λ e. absurd (true≢false (sym e)) }

none_next : (start : Store) (v : GroupView) (p : Option Pending) → p ≡ None → IsNextAct start v.log p
none_next start v p none = subst (IsNextAct start v.log) (sym none) tt

-- ---- the step

module _ (pool : Pool) (v : GroupView) (first : Option First) (a : Act) (seq : ℕ) (s : StoreView) (totals : Totals) (h : IsWhole v) (opens : Reopens pool v first a seq s totals) where
  abbrev Mem : Memory
  Mem = memory_of v.log v.traffic v.standing

  abbrev Held : Option Pending
  Held = Some (Pending.Act pool first a seq)

  -- with this history
  abbrev G : List First → List Act → GroupView
  G opening acts = record (settled pool s totals v) { log = record { opening = opening; acts = acts; answers = v.log.answers } }

  nothing : (reopened pool s v.stores).pending ≡ None
  nothing = none_pending pool v.stores s

  pending : MayPend v.calls.entries v.log Held
  pending = subst (MayPend v.calls.entries v.log) opens.pending h.pending

  promised : (n : Memory) → (Has s (ShowsIn pool a.req.name seq) × (n ≡ with_act a.req Mem)) ⊎ (Has s (λ t. ShowsIn pool a.req.name seq t → ⊥) × (n ≡ Mem))
      → Promises (with_doubt (joined v).doubt) (joined v) (joined_of (reopened pool s v.stores) n)
  promised n which = opening_promises pool (joined v) W (record {
    among = subst (Among (store_in pool (joined v))) (sym (store_is pool v.stores n s)) opens.among;
    settles = inr (
      Doubt.Act pool a.req seq,
      ap (option_map doubt_in) opens.pending,
      refl,
      elim which [
        | inl there ↦ inl (subst (λ x. Has x (ShowsIn pool a.req.name seq)) (sym (store_is pool v.stores n s)) there.0, subst (λ k. joined_of (reopened pool s v.stores) n ≡ left_settled pool (joined v) (joined_of (reopened pool s v.stores) n) k) there.1 (settled_is pool v.stores Mem n s))
        | inr gone ↦ inr (subst (λ x. Has x (λ t. ShowsIn pool a.req.name seq t → ⊥)) (sym (store_is pool v.stores n s)) gone.0, subst (λ k. joined_of (reopened pool s v.stores) n ≡ left_settled pool (joined v) (joined_of (reopened pool s v.stores) n) k) gone.1 (settled_is pool v.stores Mem n s))
      ],
    );
  })
    where
      W : View
      W = joined_of (reopened pool s v.stores) n

  module _ (opening more : List First) (acts behind_acts : List Act) where
    grows_by : Promises (with_doubt (joined v).doubt) (joined v) (joined (G opening acts)) → ((start : Store) → BothTell (joined v) → Began start v → Began start (G opening acts))
        → opening ≡ v.log.opening ++ more → acts ≡ v.log.acts ++ behind_acts → Grows (with_doubt (joined v).doubt) None v (G opening acts)
    grows_by promises began is_opening is_acts = record {
      pools = promises;
      began = began;
      log = record { opening = more; acts = behind_acts; answers = []; is_opening = is_opening; is_acts = is_acts; is_answers = sym (append-nil v.log.answers); ends = tt };
      one_answer = tt;
      calls = extends_same Stays (AreEntered (v.calls.last + 1) v.standing.cache_epoch (length v.log.acts) v.calls.last None) stays_itself v.calls.entries refl;
      flown = extends_same (Remains (length v.log.answers) (length v.log.answers)) (HaveCome v.calls.entries v.calls.entries (length v.log.answers) v.standing v.standing)
          (remains_itself (length v.log.answers) (length v.log.answers)) v.calls.flown (inl (refl, refl));
      commit = commit_is pool v.stores Mem s opens.among;
      epoch = omega arith;
      cache_faults = (faults_are pool v.stores Mem s opens.later).0;
      base_faults = (faults_are pool v.stores Mem s opens.later).1;
      share = refl;
      values = refl;
    }

    owes_by : (IsShaped (calls_in v.calls.entries) v.log → IsShaped (calls_in v.calls.entries) (G opening acts).log) → Owes [] v (G opening acts)
    owes_by shaped = record {
      logs = sym (append-nil v.log.answers);
      shaped = shaped;
      pending = subst (MayPend v.calls.entries (G opening acts).log) (sym nothing) tt;
      over = all_of (λ e. e.ended ≡ false → IsUnanswered e.number []) (λ e _. tt) v.calls.entries;
      flights = h.flights;
      traffic = h.traffic;
      causes = tt;
      cache_failed = omega (arith, (faults_are pool v.stores Mem s opens.later).0);
      base_failed = omega (arith, (faults_are pool v.stores Mem s opens.later).1);
      stops = stops_are pool v s h.stops;
      totals = opens.summed;
    }

  -- ---- the store at which the group began
  module _ (start : Store) (g : Began start v) where
    next : IsNextAct start v.log Held
    next = subst (IsNextAct start v.log) opens.pending g.next

    rises : seq ≡ (state_of (behind start v.log.acts) a.req.name).seq + 1
    rises = sym next.0.2 ∙ fresh_seq (state_of (behind start v.log.acts) a.req.name) a.req next.0.0 a.reply next.0.1

    worlds : (n : Memory) (z : TwoMaps) → AreLeft (joined_of (reopened pool s v.stores) n) z → IsOwned start Mem (ledger_in v) z ⊎ IsOwnedWith start Mem (ledger_in v) (Pending.Act pool first a seq) z
    worlds n z i = subst (λ p. IsOwnedBy start Mem (ledger_in v) p z) opens.pending (g.owners z (was_left pool v.stores Mem n s opens.among z i))

    hands_on : (w : GroupView) (z : TwoMaps) → w.stores.pending ≡ None → IsOwned start (memory_of w.log w.traffic w.standing) (ledger_in w) z
        → IsOwnedBy start (memory_of w.log w.traffic w.standing) (ledger_in w) w.stores.pending z
    hands_on w z none k = subst (λ p. IsOwnedBy start (memory_of w.log w.traffic w.standing) (ledger_in w) p z) (sym none) k

  -- ---- it is there
  found_keeps : Has s (ShowsIn pool a.req.name seq) → Keeps (with_doubt (joined v).doubt) None v (settled_with pool s totals first a v)
  found_keeps has = (steps_keep (with_doubt (joined v).doubt) None [] v (settled_with pool s totals first a v) h grown (owes_by (opened first v.log.opening) more.0 (v.log.acts ++ a ∷ []) (a ∷ []) (λ sh. act_keeps_shape a (calls_in v.calls.entries) v.log first sh pending.0 pending.1)), grown)
    where
      more : (xs : List First) × (opened first v.log.opening ≡ v.log.opening ++ xs)
      more = opened_more v.log.opening a first pending.1

      acts_are : map (λ (x : Act). x.req) (v.log.acts ++ a ∷ []) ≡ map (λ (x : Act). x.req) v.log.acts ++ a.req ∷ []
      acts_are = map-append (λ (x : Act). x.req) v.log.acts (a ∷ [])

      memory_is : (joined (settled_with pool s totals first a v)).memory ≡ with_act a.req Mem
      memory_is = ap {A = List Req} {B = Memory} (λ xs. record Mem { acts = xs }) acts_are

      promises : Promises (with_doubt (joined v).doubt) (joined v) (joined (settled_with pool s totals first a v))
      promises = promised (joined (settled_with pool s totals first a v)).memory (inl (has, memory_is))

      fit : (start : Store) (z : TwoMaps) → IsOwned start (with_act a.req Mem) (with_call_act (act_in a) (ledger_in v)) z
          → IsOwned start (joined (settled_with pool s totals first a v)).memory (ledger_in (settled_with pool s totals first a v)) z
      fit start z k = subst (λ xs. IsOwned start (record Mem { acts = xs }) (ledger_in (settled_with pool s totals first a v)) z) (sym acts_are)
          (record {
            spells = k.spells;
            owners = knows_more _ (with_call_act (act_in a) (ledger_in v)) (ledger_in (settled_with pool s totals first a v))
                (record { owned = refl; acts = map-append act_in v.log.acts (a ∷ []); asks = λ c x e. e; closed = λ c e. e }) k.owners;
          })

      began : (start : Store) → BothTell (joined v) → Began start v → Began start (settled_with pool s totals first a v)
      began start told g = record {
        pools = promises.began start told g.pools;
        owners = λ z i. hands_on start g (settled_with pool s totals first a v) z nothing (fit start z (elim (worlds start g (joined (settled_with pool s totals first a v)).memory z i) [
          | inl without ↦ absurd (not_without pool start Mem z a.req.name seq
              (own_left pool v.stores (joined (settled_with pool s totals first a v)).memory s (ShowsIn pool a.req.name seq) has z i) (rises start g) without.spells)
          | inr there ↦ there.1
        ]));
        history = history_acts start (calls_in v.calls.entries) v.log a first g.history pending.0 ((next start g).0.0, (next start g).0.1) (next start g).1 pending.1;
        next = none_next start (settled_with pool s totals first a v) (reopened pool s v.stores).pending nothing;
      }

      grown : Grows (with_doubt (joined v).doubt) None v (settled_with pool s totals first a v)
      grown = grows_by (opened first v.log.opening) more.0 (v.log.acts ++ a ∷ []) (a ∷ []) promises began more.1 refl

  -- ---- it is not
  missing_keeps : Has s (λ t. ShowsIn pool a.req.name seq t → ⊥) → Keeps (with_doubt (joined v).doubt) None v (settled pool s totals v)
  missing_keeps has = (steps_keep (with_doubt (joined v).doubt) None [] v (settled pool s totals v) h grown (owes_by v.log.opening [] v.log.acts [] (λ sh. sh)), grown)
    where
      promises : Promises (with_doubt (joined v).doubt) (joined v) (joined (settled pool s totals v))
      promises = promised Mem (inr (has, refl))

      began : (start : Store) → BothTell (joined v) → Began start v → Began start (settled pool s totals v)
      began start told g = record {
        pools = promises.began start told g.pools;
        owners = λ z i. hands_on start g (settled pool s totals v) z nothing (elim (worlds start g Mem z i) [
          | inl without ↦ without
          | inr there ↦ absurd (own_left pool v.stores Mem s (λ t. ShowsIn pool a.req.name seq t → ⊥) has z i there.0)
        ]);
        history = g.history;
        next = none_next start (settled pool s totals v) (reopened pool s v.stores).pending nothing;
      }

      grown : Grows (with_doubt (joined v).doubt) None v (settled pool s totals v)
      grown = grows_by v.log.opening [] v.log.acts [] promises began (sym (append-nil v.log.opening)) (sym (append-nil v.log.acts))

pub settling_acts_keeps : SettlingActsKeeps
settling_acts_keeps pool v first a seq s totals h opens = (found_keeps pool v first a seq s totals h opens, missing_keeps pool v first a seq s totals h opens)
