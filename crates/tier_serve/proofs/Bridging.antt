-- Whatever a base answers, what becomes of the group is a step of the message.
use Rattle.std.proofs.Common.{◌≡◌, ◌⊎◌, ◌≤◌, inl, inr, ℕ, Bool, false, List, Option, Some, None, Result, Ok, Err, refl, sym, ap, subst, ◌∙◌}
use Rattle.base_pool.specs.Serves.{Answers, FailsCommit, FailsReading, IsSpelled, Makes, Replies, Serves, StaysBase, changes_by, state_put}
use Rattle.base_pool.specs.Views.{BaseView, IsLive, SoundBase}
use Rattle.base_pool.specs.declared.fault.BaseFault.{BaseFault}
use Rattle.base_pool.specs.declared.fault.BaseFault.TheVariants.{Store, BadRecord}
use Rattle.obj_model.specs.Limits.{number_limit}
use Rattle.obj_model.specs.declared.change.Change.{Change}
use Rattle.obj_model.specs.declared.reply.Reply.{Reply}
use Rattle.obj_model.specs.declared.req.Req.{Req}
use Rattle.obj_model.specs.declared.state.NameState.{NameState}
use Rattle.obj_ops.specs.Acts.{act}
use Rattle.obj_ops.specs.declared.request.Acted.{Acted}
use Rattle.obj_ops.specs.declared.request.Acted.TheVariants.{Fresh, Again, Stale, Worn}
use Rattle.pool_keys.specs.Keys.{state_key}
use Rattle.rec_codec.specs.Spelling.{SpellsState, state_bytes}
use Rattle.store_face.specs.Calls.{Made}
use Rattle.store_face.specs.Views.{StoreView}
use Rattle.store_face.specs.declared.fault.StoreFault.TheVariants as store
use Rattle.tier_chron.specs.Laws.{MayAct}
use Rattle.tier_join.specs.Steps.{HasState, HasStateFor, sets}
use Rattle.tier_owners.specs.Calls.{is_write_message}
use Rattle.tier_types.specs.Serving.{Served, epoch_in, name_in, opid_in, put_by, served, told_of}
use Rattle.tier_types.specs.declared.message.BaseActed.{BaseActed}
use Rattle.tier_types.specs.declared.message.BaseMsg.{BaseMsg}
use Rattle.tier_types.specs.declared.message.BaseReply.{BaseReply}
use Rattle.tier_view.specs.Delivers.{CommitsThere, IsFirstThere, acted_there, with_base}
use Rattle.tier_view.specs.Serves.{Delivers, NeedsChange, ReadsThere, acts, fails, lacks_room, leaves, only_answers, puts, replied_there, rises, served_there, strays, takes}
use Rattle.tier_view.specs.declared.parts.Pending.{Pending}
use Rattle.tier_view.specs.declared.parts.Sent.{Sent}
use Rattle.tier_view.specs.Views.{GroupView, calls_in, joined}
use Rattle.base_pool.proofs.Readings.{own_changes}
use Rattle.tier_view.proofs.Delivering.{own_epoch}
use Rattle.tier_view.proofs.ServingWorlds.{in_each}
use Rattle.tier_serve.specs.Bridges.{Became, BecameActed, Hands, ServingDelivers, base_of, is_owned, strays_there}
use Rattle.tier_serve.proofs.Shapes.{reads_there, shape_of}

-- what is made where a change is needed
made_of : (v : GroupView) (msg : BaseMsg) (b : NameState) (cs : List Change) (old new : StoreView) → NeedsChange v msg b cs → Makes cs old new → Made cs old new
made_of v msg b cs old new (puts k t bytes name put spelled named is) h = subst (λ c. Made c old new) (sym is) (subst (λ c. Makes c old new) is h)
made_of v msg b cs old new (rises e bytes same up spelled is) h = subst (λ c. Made c old new) (sym is) (subst (λ c. Makes c old new) is h)

-- the request acted where it is told so
acts_by : (a : Acted) (answer : Reply) → told_of a ≡ BaseActed.Fresh answer → (t : NameState) × (a ≡ Fresh t answer)
acts_by (Fresh s reply) answer e = let same : reply ≡ answer = cc in (s, ap (Fresh s) same)
acts_by (Again reply) answer e = absurd (cc)
acts_by (Stale kept) answer e = absurd (cc)
acts_by (Worn limit) answer e = absurd (cc)

fresh_by : (a : Acted) (t : NameState) → put_by a ≡ Some t → (answer : Reply) × (told_of a ≡ BaseActed.Fresh answer)
fresh_by (Fresh s reply) t e = (reply, refl)
fresh_by (Again reply) t e = absurd (cc)
fresh_by (Stale kept) t e = absurd (cc)
fresh_by (Worn limit) t e = absurd (cc)

-- a reply that does not say that a request acted just now
abbrev NotFresh : BaseReply → Type 0
NotFresh reply = (e op : ℕ) (answer : Reply) → reply ≡ BaseReply.Wrote e op (BaseActed.Fresh answer) → ⊥

-- a Write that puts a state is told so
abbrev TellsPut : (op : ℕ) → (e : ℕ) → Served → Type 0
TellsPut op e x = (t : NameState) → x.put ≡ Some t → (answer : Reply) × (x.reply ≡ BaseReply.Wrote e op (BaseActed.Fresh answer))

module _ (v w : GroupView) (said : Option BaseReply) (m : Sent) (opened : Bool) (new : BaseView) (b : NameState) (p : Option Pending) (live : IsLive (base_of opened v)) (sound : SoundBase (base_of opened v)) (h : Hands v m b p) where
  abbrev E : ℕ
  E = v.standing.base_epoch

  module _ (reply : BaseReply) (a : Answers m.message (base_of opened v) new reply) where
    reads : ReadsThere v m.message a.state
    reads = reads_there v opened m.message a.state live sound a.on

    -- a reply that is no act's
    plainly : NotFresh reply → (said ≡ Some reply) × (w ≡ replied_there m.number reply new.epoch new.store v) → Delivers m said v w
    plainly other is = elim (shape_of v a.state m.message h.lawful a.spelled (subst (λ n. n ≤ number_limit) a.epoch (a.low sound.low))) [
      | inl none ↦ only_answers a.state new.store (record { on = h.on; reads = reads; none = none.0; stays = subst (λ c. Makes c v.stores.base new.store) none.1 a.makes }) (is.0 ∙ ap Some a.told)
          (is.1 ∙ ap (λ r. replied_there m.number r new.epoch new.store v) a.told
          ∙ ap (λ e. replied_there m.number (served_there v a.state m.message).reply e new.store v) (a.epoch ∙ none.0.epoch))
      | inr needs ↦ takes a.state (changes_by E a.state m.message) new.store
          (record { on = h.on; reads = reads; no_request = no_write m.message refl needs; needs = needs; made = made_of v m.message a.state (changes_by E a.state m.message) v.stores.base new.store needs a.makes })
          (is.0 ∙ ap Some a.told)
          (is.1 ∙ ap (λ r. replied_there m.number r new.epoch new.store v) a.told
          ∙ ap (λ e. replied_there m.number (served_there v a.state m.message).reply e new.store v) a.epoch)
    ]
      where
        wrote : (e op : ℕ) (r : Req) → m.message ≡ BaseMsg.Write e op r → NeedsChange v m.message a.state (changes_by E a.state m.message) → ⊥
        wrote e op r at (rises f bytes fence up spelled is) = let no : BaseMsg.Fence f ≡ BaseMsg.Write e op r = sym fence ∙ at in absurd (cc)
        wrote e op r at (puts k t bytes name put spelled named is) =
            let tells : TellsPut op e (served E a.state (BaseMsg.Write e op r)) = tells_put e op r in
            let got = tells t (subst (λ x. (served E a.state x).put ≡ Some t) at put) in
            other e op got.0 (a.told ∙ ap (λ x. (served E a.state x).reply) at ∙ got.1)
          where
            tells_put : (e op : ℕ) (r : Req) → TellsPut op e (served E a.state (BaseMsg.Write e op r))
            tells_put e op r = in_each (TellsPut op e) E e _ (λ t no. absurd (cc)) (λ t no. absurd (cc))
                (λ same t put. let f = fresh_by (act a.state r) t put in (f.0, ap (λ x. BaseReply.Wrote e op x) f.1))

        no_write : (msg : BaseMsg) → m.message ≡ msg → NeedsChange v m.message a.state (changes_by E a.state m.message) → is_write_message m.message ≡ false
        no_write (BaseMsg.Fence e) at needs = ap is_write_message at
        no_write (BaseMsg.GetChunk e op k x) at needs = ap is_write_message at
        no_write (BaseMsg.Look e op k x) at needs = ap is_write_message at
        no_write (BaseMsg.Write e op r) at needs = absurd (wrote e op r at needs)
        no_write (BaseMsg.Install e op k x) at needs = ap is_write_message at

    -- a Write that acted: what was read, and the commit
    module _ (op : ℕ) (answer : Reply) (r : Req) (at : m.message ≡ BaseMsg.Write E op r) (told : reply ≡ BaseReply.Wrote E op (BaseActed.Fresh answer)) where
      gives : served_there v a.state m.message ≡ record { epoch = E; put = put_by (act a.state r); reply = BaseReply.Wrote E op (told_of (act a.state r)) }
      gives = ap (served E a.state) at ∙ own_epoch E (record { epoch = E; put = put_by (act a.state r); reply = BaseReply.Wrote E op (told_of (act a.state r)) })

      acted : (t : NameState) × (act a.state r ≡ Fresh t answer)
      acted =
          let same : BaseReply.Wrote E op (told_of (act a.state r)) ≡ BaseReply.Wrote E op (BaseActed.Fresh answer) = sym (a.told ∙ ap (λ x. x.reply) gives) ∙ told in
          let one : told_of (act a.state r) ≡ BaseActed.Fresh answer = cc in
          acts_by (act a.state r) answer one

      put_is : (served_there v a.state m.message).put ≡ Some acted.0
      put_is = ap (λ x. x.put) gives ∙ ap put_by acted.1

      there : HasState (joined v) r.name a.state
      there = subst (λ x. HasStateFor (joined v) (name_in x) a.state) at (reads (ap epoch_in at))

      is_state : SpellsState (state_bytes acted.0) acted.0
      is_state = subst IsSpelled put_is a.spelled

      changes : changes_by E a.state m.message ≡ sets (state_key r.name) (Some (state_bytes acted.0))
      changes =
          own_changes m.message E a.state (put_by (act a.state r)) (BaseReply.Wrote E op (told_of (act a.state r))) gives
          ∙ ap (λ x. state_put (name_in x) (put_by (act a.state r))) at ∙ ap (λ x. state_put (Some r.name) (put_by x)) acted.1

      commits : CommitsThere v r acted.0 (state_bytes acted.0) new.store (Ok tt)
      commits = record {
        spelled = is_state;
        over = λ used need limit e. absurd (cc);
        committed = subst (λ c. Makes c v.stores.base new.store) changes a.makes;
      }

      acted_step : said ≡ Some reply → BecameActed v m op answer new.store w → Delivers m said v w
      acted_step is_said (is_owned o q first seq same owner may opening is) =
          let one : BaseMsg.Write E op r ≡ BaseMsg.Write E op q = sym at ∙ same in
          let req : r ≡ q = cc in
          acts o op r a.state acted.0 answer first (state_bytes acted.0) new.store
          (record {
            on = h.on;
            message = at;
            owner = owner;
            has = there;
            acts = acted.1;
            may = subst (λ x. MayAct (calls_in v.calls.entries) v.log (record { call = o.call; line = o.line; req = x; reply = answer })) (sym req) may;
            opening = subst (λ x. IsFirstThere v x.name first) (sym req) opening;
            named = h.lawful r.name (ap name_in at);
          })
          commits (is_said ∙ ap Some told)
          (is ∙ ap (λ x. acted_there m.number op first (record { call = o.call; line = o.line; req = x; reply = answer }) seq new.store (Ok tt) v) (sym req))
      acted_step is_said (strays_there o q same owner stray is) =
          let one : BaseMsg.Write E op r ≡ BaseMsg.Write E op q = sym at ∙ same in
          let req : r ≡ q = cc in
          strays o op r a.state acted.0 answer (state_bytes acted.0) new.store
          (record {
            on = h.on;
            message = at;
            owner = owner;
            has = there;
            acts = acted.1;
            stray = λ may. stray (subst (λ x. MayAct (calls_in v.calls.entries) v.log (record { call = o.call; line = o.line; req = x; reply = answer })) req may);
          })
          commits (is_said ∙ ap Some told) is

  -- ---- each reply

  message_in : (op : ℕ) (answer : Reply) → BecameActed v m op answer new.store w → (r : Req) × (m.message ≡ BaseMsg.Write E op r)
  message_in op answer (is_owned o q first seq same owner may opening is) = (q, same)
  message_in op answer (strays_there o q same owner stray is) = (q, same)

  -- the epoch that is told is the base's
  told_now : (e op : ℕ) (answer : Reply) (a : Answers m.message (base_of opened v) new (BaseReply.Wrote e op (BaseActed.Fresh answer))) (r : Req) (o : ℕ) → m.message ≡ BaseMsg.Write E o r
      → BaseReply.Wrote e op (BaseActed.Fresh answer) ≡ BaseReply.Wrote E o (BaseActed.Fresh answer)
  told_now e op answer a r o at =
      let gives = ap (λ x. (served E a.state x).reply) at ∙ ap (λ x. x.reply) (own_epoch E (record { epoch = E; put = put_by (act a.state r); reply = BaseReply.Wrote E o (told_of (act a.state r)) })) in
      let same : BaseReply.Wrote e op (BaseActed.Fresh answer) ≡ BaseReply.Wrote E o (told_of (act a.state r)) = a.told ∙ gives in
      let first : e ≡ E = cc in
      let second : op ≡ o = cc in
      ap (λ n. BaseReply.Wrote n op (BaseActed.Fresh answer)) first ∙ ap (λ n. BaseReply.Wrote E n (BaseActed.Fresh answer)) second

  by_reply : (reply : BaseReply) → Replies m.message (base_of opened v) new reply → Became v m p new (Ok reply) said w → Delivers m said v w
  by_reply (BaseReply.Fenced e) a is = plainly (BaseReply.Fenced e) a (λ i o x no. absurd (cc)) is
  by_reply (BaseReply.Chunk e op chunk) a is = plainly (BaseReply.Chunk e op chunk) a (λ i o x no. absurd (cc)) is
  by_reply (BaseReply.Looked e op looked) a is = plainly (BaseReply.Looked e op looked) a (λ i o x no. absurd (cc)) is
  by_reply (BaseReply.Wrote e op (BaseActed.Fresh answer)) a is =
      let at = message_in op answer is.1 in
      acted_step (BaseReply.Wrote e op (BaseActed.Fresh answer)) a op answer at.0 at.1 (told_now e op answer a at.0 op at.1) is.0 is.1
  by_reply (BaseReply.Wrote e op (BaseActed.Again answer)) a is = plainly (BaseReply.Wrote e op (BaseActed.Again answer)) a (λ i o x no. absurd (cc)) is
  by_reply (BaseReply.Wrote e op (BaseActed.Stale kept)) a is = plainly (BaseReply.Wrote e op (BaseActed.Stale kept)) a (λ i o x no. absurd (cc)) is
  by_reply (BaseReply.Wrote e op (BaseActed.Worn limit)) a is = plainly (BaseReply.Wrote e op (BaseActed.Worn limit)) a (λ i o x no. absurd (cc)) is
  by_reply (BaseReply.Installed e op seq) a is = plainly (BaseReply.Installed e op seq) a (λ i o x no. absurd (cc)) is
  by_reply (BaseReply.NoSpace e op used need limit) a (inl is) =
      let named : BaseReply.NoSpace e op used need limit ≡ BaseReply.NoSpace (epoch_in m.message) (opid_in m.message) used need limit =
      ap (λ n. BaseReply.NoSpace n op used need limit) a.epoch_is ∙ ap (λ n. BaseReply.NoSpace (epoch_in m.message) n used need limit) a.opid_is in
      lacks_room used need limit new.store (record { on = h.on; over = is.0; stays = a.stays.store }) (is.1 ∙ ap Some named)
      (is.2 ∙ ap (λ r. replied_there m.number r new.epoch new.store v) named
      ∙ ap (λ n. replied_there m.number (BaseReply.NoSpace (epoch_in m.message) (opid_in m.message) used need limit) n new.store v) a.stays.epoch)
  by_reply (BaseReply.NoSpace e op used need limit) a (inr is) = leaves new.store (record { moments = a.stays.store.moments; later = inl a.stays.store }) is.0 is.1
  by_reply (BaseReply.OldEpoch have got) a is = plainly (BaseReply.OldEpoch have got) a (λ i o x no. absurd (cc)) is
  by_reply (BaseReply.NotFenced have got) a is = plainly (BaseReply.NotFenced have got) a (λ i o x no. absurd (cc)) is

  -- ---- each fault

  stayed : StaysBase (base_of opened v) new → (said ≡ None) × (w ≡ with_base new.store None v) → Delivers m said v w
  stayed a is = leaves new.store (record { moments = a.store.moments; later = inl a.store }) is.0 is.1

  by_disk : FailsReading m.message (base_of opened v) new ⊎ FailsCommit m.message (base_of opened v) new → (said ≡ None) × (w ≡ with_base new.store p v) → Delivers m said v w
  by_disk (inl a) is = fails b new.store p (record { on = h.on; doubt = h.doubt; fails = a.fails.fails; maps = inl a.same }) is.0 is.1
  by_disk (inr a) is = elim (shape_of v a.state m.message h.lawful a.commits.spelled a.commits.low) [
    | inl none ↦ absurd (a.commits.some none.1)
    | inr needs ↦ fails b new.store p (record {
      on = h.on;
      doubt = h.doubt;
      fails = a.fails.fails;
      maps = inr (record { state = a.state; reads = reads_there v opened m.message a.state live sound a.commits.on; changes = changes_by E a.state m.message; needs = needs; made = a.made });
    }) is.0 is.1
  ]

  by_result : (result : Result BaseReply BaseFault) → Serves m.message (base_of opened v) new result → Became v m p new result said w → Delivers m said v w
  by_result (Ok reply) a is = by_reply reply a is
  by_result (Err (Store store.Disk)) a is = by_disk a is
  by_result (Err (Store (store.BadImage at))) a is = absurd a
  by_result (Err (Store (store.NoSpace used need limit))) a is = absurd a
  by_result (Err (Store (store.Worn limit))) (inl a) is = stayed a.stays is
  by_result (Err (Store (store.Worn limit))) (inr a) is = stayed a.stays is
  by_result (Err (Store store.NoMemory)) a is = stayed a.stays is
  by_result (Err (BadRecord name)) a is = stayed a.stays is

pub serving_delivers : ServingDelivers
serving_delivers v w m opened new b p result told live sound h served became = by_result v w told m opened new b p live sound h result served became
