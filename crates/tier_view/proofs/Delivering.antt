-- A Write reaches the base and acts.
use Rattle.std.proofs.Common.{◌≡◌, ◌<◌, ◌⊎◌, inl, inr, ℕ, cond, List, [], ◌∷◌, ◌++◌, map, Option, Some, None, refl, sym, ap, subst, ◌∙◌, arith}
use Rattle.std.specs.FinMap as fin
use Rattle.std.proofs.lemmas.List.{append-nil}
use Rattle.obj_model.specs.declared.change.Change.{Change}
use Rattle.obj_model.specs.declared.change.Pool.TheVariants.{Base}
use Rattle.obj_model.specs.declared.reply.Reply.{Reply}
use Rattle.obj_model.specs.declared.req.Req.{Req}
use Rattle.obj_model.specs.declared.state.NameState.{NameState}
use Rattle.obj_ops.specs.Acts.{act}
use Rattle.obj_ops.specs.Stores.{Store, state_of}
use Rattle.obj_ops.specs.declared.request.Acted.{Acted}
use Rattle.obj_ops.specs.declared.request.Acted.TheVariants.{Fresh}
use Rattle.pool_keys.specs.Keys.{state_key}
use Rattle.pool_keys.specs.Left.{IsLeft}
use Rattle.pool_keys.specs.Maps.{SpellsBase}
use Rattle.store_face.specs.Calls.{Made, MayBeMade}
use Rattle.store_face.specs.Tables.{Table}
use Rattle.store_face.specs.Views.{StoreView}
use Rattle.tier_chron.specs.Calls.{Call}
use Rattle.tier_chron.specs.Fits.{IsHistoryFrom}
use Rattle.tier_chron.specs.Laws.{IsNamedFor, IsOpeningFor, MayAct}
use Rattle.tier_chron.specs.Legal.{Acts}
use Rattle.tier_chron.specs.Logs.{Log, acted_log, is_opened, opened}
use Rattle.tier_chron.specs.Places.{behind}
use Rattle.tier_chron.specs.declared.entries.Act.{Act}
use Rattle.tier_chron.specs.declared.entries.First.{First}
use Rattle.tier_chron.proofs.Growing.{act_keeps_legal}
use Rattle.tier_chron.proofs.Staying.{act_keeps_shape, act_keeps_truth}
use Rattle.tier_join.specs.Group.{HasStateAt, Memory, ShowsIn, TwoMaps, AreLeft, changed_in, map_in, tier_of, with_act}
use Rattle.tier_join.specs.Steps.{Outcome, after, sets}
use Rattle.tier_join.proofs.BaseSteps.{is_delivered, served_sound, state_is, taken_sound}
use Rattle.tier_join.proofs.Keys.{base_with}
use Rattle.tier_join.proofs.Left.{made_left, now_since, torn_since}
use Rattle.tier_owners.proofs.Faithful.{taken_is_lost}
use Rattle.tier_protocol.specs.Moves.{delivered, taken, with_served}
use Rattle.tier_protocol.specs.Owners.{Owned, SoundOwners, with_call_act}
use Rattle.tier_protocol.specs.Sound.{is_dirty}
use Rattle.tier_protocol.specs.Tiers.{BaseActed, BaseMsg, BaseReply, Tier, IsIn}
use Rattle.tier_protocol.proofs.Cells.{get_here}
use Rattle.tier_protocol.proofs.Delivers.{delivering, flies, in_epoch_by}
use Rattle.tier_protocol.proofs.Owners.{acts_for, losses_quiet, quiet_keeps}
use Rattle.tier_types.specs.Serving.{Served, in_epoch, put_by, served, told_of}
use Rattle.tier_view.specs.Delivers.{ActsThere, CommitsThere, IsFirstOf, IsFirstThere}
use Rattle.tier_view.specs.Traffic.{Owner, Sent, owned_by, owned_in, wire_of}
use Rattle.tier_view.specs.Views.{GroupView, act_in, joined, ledger_in}
use Rattle.tier_view.specs.Whole.{AreNumbered}
use Rattle.tier_view.specs.Worlds.{IsOwned}

-- ---- the message among those on the wire

pub on_wire : (ms : List Sent) (m : Sent) → IsIn m ms → IsIn m.message (wire_of ms)
on_wire [] m on = absurd on
on_wire (x ∷ ms) m (inl same) = inl (ap (λ y. y.message) same)
on_wire (x ∷ ms) m (inr on) = inr (on_wire ms m on)

behind_owned : (x : Owned) (message : BaseMsg) (o : Option Owner) (rest : List Owned) → IsIn x rest → IsIn x (owned_by message o rest)
behind_owned x (BaseMsg.Write e op r) (Some o) rest on = inr on
behind_owned x (BaseMsg.Write e op r) None rest on = on
behind_owned x (BaseMsg.Fence e) o rest on = on
behind_owned x (BaseMsg.GetChunk e op k at) o rest on = on
behind_owned x (BaseMsg.Look e op k v) o rest on = on
behind_owned x (BaseMsg.Install e op k s) o rest on = on

abbrev owned_as : ℕ → ℕ → Req → Owner → Owned
owned_as e op r o = record { epoch = e; opid = op; req = r; call = o.call; line = o.line }

pub is_owned : (ms : List Sent) (m : Sent) (e op : ℕ) (r : Req) (o : Owner) → IsIn m ms → m.message ≡ BaseMsg.Write e op r → m.owner ≡ Some o → IsIn (owned_as e op r o) (owned_in ms)
is_owned [] m e op r o on is has = absurd on
is_owned (x ∷ ms) m e op r o (inl same) is has =
    subst (λ w. IsIn (owned_as e op r o) (owned_by x.message w (owned_in ms))) (sym (sym (ap (λ y. y.owner) same) ∙ has))
    (subst (λ w. IsIn (owned_as e op r o) (owned_by w (Some o) (owned_in ms))) (sym (sym (ap (λ y. y.message) same) ∙ is)) (inl refl))
is_owned (x ∷ ms) m e op r o (inr on) is has = behind_owned (owned_as e op r o) x.message x.owner (owned_in ms) (is_owned ms m e op r o on is has)

pub below_next : (next : ℕ) (ms : List Sent) (m : Sent) → AreNumbered next (map (λ s. s.number) ms) → IsIn m ms → m.number < next
below_next next [] m h on = absurd on
below_next next (x ∷ ms) m h (inl same) = omega (arith, h.0, ap (λ y. y.number) same)
below_next next (x ∷ ms) m h (inr on) = omega (arith, h.0, below_next x.number ms m h.1 on)

-- ---- what a stop leaves of the base behind a commit

abbrev ComesFrom : List Change → GroupView → TwoMaps → Type 0
ComesFrom cs v z = (y : TwoMaps) × AreLeft (joined v) y × (z ≡ changed_in Base cs y)

pub made_from : (cs : List Change) (v : GroupView) (s : StoreView) → Made cs v.stores.base s → (z : TwoMaps) → IsLeft v.stores.cache z.cache → IsLeft s z.base → ComesFrom cs v z
made_from cs v s made z i j =
    let from = made_left cs v.stores.base s made z.base j in
    (record z { base = from.0 }, (i, from.1), ap {A = Table} {B = TwoMaps} (λ t. record z { base = t }) from.2)

pub torn_from : (cs : List Change) (v : GroupView) (s : StoreView) → MayBeMade cs v.stores.base s → (z : TwoMaps) → IsLeft v.stores.cache z.cache → IsLeft s z.base
    → AreLeft (joined v) z ⊎ ComesFrom cs v z
torn_from cs v s may z i j = elim (torn_since cs v.stores.base s may z.base (now_since v.stores.base s _ may.between z.base j)) [
  | inl was ↦ inl (i, was)
  | inr from ↦ inr (record z { base = from.0 }, (i, from.1), ap {A = Table} {B = TwoMaps} (λ t. record z { base = t }) from.2)
]

-- ---- the two worlds behind it

pub own_epoch : (have : ℕ) (done : Served) → in_epoch have have done ≡ done
own_epoch have done = in_epoch_by (λ o. o ≡ done) have have done (omega arith) (λ less. absurd (omega (arith, less))) (λ same. refl)

module _ (v : GroupView) (m : Sent) (o : Owner) (op : ℕ) (r : Req) (b t : NameState) (answer : Reply) (first : Option First) (acts : ActsThere v m o op r b t answer first) where
  abbrev E : ℕ
  E = v.standing.base_epoch

  abbrev M : BaseMsg
  M = BaseMsg.Write E op r

  abbrev A : Act
  A = record { call = o.call; line = o.line; req = r; reply = answer }

  abbrev Out : Served
  Out = record { epoch = E; put = Some t; reply = BaseReply.Wrote E op (BaseActed.Fresh answer) }

  abbrev Mem : Memory
  Mem = (joined v).memory

  pub on : IsIn M Mem.net.wire
  on = subst (λ x. IsIn x (wire_of v.traffic.messages)) acts.message (on_wire v.traffic.messages m acts.on)

  pub is : served E b M ≡ Out
  is = own_epoch E (record { epoch = E; put = put_by (act b r); reply = BaseReply.Wrote E op (told_of (act b r)) })
      ∙ ap {A = Acted} {B = Served} (λ x. record { epoch = E; put = put_by x; reply = BaseReply.Wrote E op (told_of x) }) acts.acts

  module _ (start : Store) (z : TwoMaps) (i : AreLeft (joined v) z) (k : IsOwned start Mem (ledger_in v) z) where
    abbrev T : Tier
    T = tier_of start Mem k.spells.recs k.spells.base

    here : state_of k.spells.base r.name ≡ b
    here = state_is start (joined v) z r.name b acts.has i k.spells

    pub fresh_here : act (state_of k.spells.base r.name) r ≡ Fresh t answer
    fresh_here = ap (λ x. act x r) here ∙ acts.acts

    moved : SoundOwners (with_served M Out T) (with_call_act (act_in A) (ledger_in v))
    moved = subst (λ d. SoundOwners d (with_call_act (act_in A) (ledger_in v))) (is_delivered start (joined v) z M b Out on (λ same. acts.has) is i k.spells)
        (acts_for T (ledger_in v) E op r t answer (owned_as E op r o) k.spells.sound k.owners on refl fresh_here
        (is_owned v.traffic.messages m E op r o acts.on acts.message acts.owner) (refl, refl, refl)).1

    -- nobody was told
    quietly : SoundOwners (taken M T) (with_call_act (act_in A) (ledger_in v))
    quietly =
        let more = (acts_for T (ledger_in v) E op r t answer (owned_as E op r o) k.spells.sound k.owners on refl fresh_here
        (is_owned v.traffic.messages m E op r o acts.on acts.message acts.owner) (refl, refl, refl)).1 in
        quiet_keeps (delivered M T) (taken M T) (with_call_act (act_in A) (ledger_in v)) more
        ((losses_quiet (delivered M T) (delivering T M k.spells.sound on)).0 (taken M T) (taken_is_lost T M))

    -- the state that was read is the plain store's
    pub plain_here : state_of (behind start v.log.acts) r.name ≡ b
    plain_here =
        let cells = flies T E op r t answer k.spells.sound on refl fresh_here in
        sym ((k.spells.sound.names r.name).clean (ap is_dirty cells.0)) ∙ here

    -- the opening has the state on which the request acts
    pub first_here : IsFirstOf v.log.opening r.name b first
    first_here = by first acts.opening
      where
        by : (f : Option First) → IsFirstThere v r.name f → IsFirstOf v.log.opening r.name b f
        by None h = h
        by (Some f) h = (h.0, h.1, sym (state_is start (joined v) z r.name f.state h.2 i k.spells) ∙ here)

  module _ (bytes : List ℕ) (s : StoreView) (result : Outcome) (commits : CommitsThere v r t bytes s result) where
    abbrev Cs : List Change
    Cs = sets (state_key r.name) (Some bytes)

    module _ (start : Store) (z : TwoMaps) (i : AreLeft (joined v) z) (k : IsOwned start Mem (ledger_in v) z) where
      put_based : SpellsBase (changed_in Base Cs z).base (fin.insert k.spells.base r.name t) E
      put_based = base_with z.base k.spells.base E r.name bytes t commits.spelled acts.named k.spells.based

      -- made, and told
      pub made_owned : IsOwned start (after (with_served M Out) Mem) (with_call_act (act_in A) (ledger_in v)) (changed_in Base Cs z)
      made_owned = record {
        spells = record {
          recs = k.spells.recs;
          base = fin.insert k.spells.base r.name t;
          cached = k.spells.cached;
          based = put_based;
          sound = served_sound start (joined v) z M b Out on (λ same. acts.has) is i k.spells;
        };
        owners = moved start z i k;
      }

      quiet_is : taken M (T start z i k) ≡ tier_of start (with_act r Mem) k.spells.recs (fin.insert k.spells.base r.name t)
      quiet_is =
          ap {A = Tier} {B = Tier} (λ d. record d { net = record d.net { wire = Mem.net.wire; replies = Mem.net.replies } })
          (is_delivered start (joined v) z M b Out on (λ same. acts.has) is i k.spells)

      -- made, and nobody was told
      pub torn_owned : IsOwned start (with_act r Mem) (with_call_act (act_in A) (ledger_in v)) (changed_in Base Cs z)
      torn_owned = record {
        spells = record {
          recs = k.spells.recs;
          base = fin.insert k.spells.base r.name t;
          cached = k.spells.cached;
          based = put_based;
          sound = taken_sound start (joined v) z M b Out on (λ same. acts.has) is i k.spells;
        };
        owners = subst (λ d. SoundOwners d (with_call_act (act_in A) (ledger_in v))) quiet_is (quietly start z i k);
      }

      pub shown : ShowsIn Base r.name t.seq (map_in Base (changed_in Base Cs z))
      shown = subst (HasStateAt t.seq) (sym (get_here z.base (state_key r.name) (Some bytes))) (t, commits.spelled, refl)

-- ---- the history with the act

pub named_of : (opening : List First) (a : Act) (s : NameState) (f : Option First) → IsFirstOf opening a.req.name s f → IsNamedFor opening a f
named_of opening a s None h = h
named_of opening a s (Some f) h = (h.0, h.1)

pub named_there : (v : GroupView) (a : Act) (f : Option First) → IsFirstThere v a.req.name f → IsNamedFor v.log.opening a f
named_there v a None h = h
named_there v a (Some f) h = (h.0, h.1)

pub opening_for : (now : Store) (opening : List First) (a : Act) (s : NameState) (f : Option First) → state_of now a.req.name ≡ s → IsFirstOf opening a.req.name s f → IsOpeningFor now opening a f
opening_for now opening a s None same h = h
opening_for now opening a s (Some f) same h = (h.0, h.1, h.2 ∙ sym same ∙ ap (state_of now) (sym h.1))

pub history_acts : (start : Store) (calls : List Call) (log : Log) (a : Act) (f : Option First) → IsHistoryFrom start calls log → MayAct calls log a → Acts (behind start log.acts) a
    → IsOpeningFor (behind start log.acts) log.opening a f → IsNamedFor log.opening a f → IsHistoryFrom start calls (acted_log f a log)
history_acts start calls log a f h may fresh opens named = record {
  shaped = act_keeps_shape a calls log f h.shaped may named;
  legal = act_keeps_legal a start log f h.legal fresh opens;
  told = act_keeps_truth a start calls log f h.shaped may h.told;
}

pub opened_more : (opening : List First) (a : Act) (f : Option First) → IsNamedFor opening a f → (more : List First) × (opened f opening ≡ opening ++ more)
opened_more opening a None h = ([], sym (append-nil opening))
opened_more opening a (Some f) h = (f ∷ [], ap (λ c. cond c opening (opening ++ f ∷ [])) (ap (is_opened opening) h.1 ∙ h.0))
