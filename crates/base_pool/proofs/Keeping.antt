-- Requests that the state of their name keeps.
use Rattle.std.proofs.Common.{◌≡◌, ℕ, Bool, true, false, List, [], ◌∷◌, Option, None, Some, Result, Ok, Err, refl, sym, ap, subst, ◌∙◌, arith}
use Rattle.obj_model.specs.declared.reply.Kept.{Kept}
use Rattle.obj_model.specs.declared.reply.Reply.{Reply}
use Rattle.obj_model.specs.declared.req.Req.{Req}
use Rattle.obj_model.specs.declared.state.NameState.{NameState}
use Rattle.obj_model.specs.declared.state.Obj.{Obj}
use Rattle.std.proofs.lemmas.Bool.{eq-eqb, le-ltb}
use Rattle.std.specs.Prelude.{nat_lt, ◌==◌}
use Rattle.obj_ops.specs.Acts.{act, act_by, acted, after, kept_of}
use Rattle.obj_ops.specs.Ops.{Run, Refusal, run}
use Rattle.obj_ops.specs.declared.request.Acted.{Acted}
use Rattle.obj_ops.specs.declared.request.Acted.TheVariants.{Fresh, Again, Stale, Worn}
use Rattle.obj_ops.proofs.Cases.{act_cases}
use Rattle.obj_ops.proofs.Keeping.{kept_of-keep_same}
use Rattle.pool_keys.specs.Keys.{state_key}
use Rattle.pool_keys.specs.Values.{IsStateOf}
use Rattle.rec_codec.specs.Spelling.{SpellsState, state_bytes}
use Rattle.store_face.specs.Calls.{Made}
use Rattle.store_face.specs.Tables.{Table}
use Rattle.store_face.specs.Views.{Holds, StoreView}
use Rattle.tier_types.specs.Serving.{Served, replies, served}
use Rattle.tier_types.specs.declared.message.BaseActed.{BaseActed}
use Rattle.tier_types.specs.declared.message.BaseMsg.{BaseMsg}
use Rattle.tier_types.specs.declared.message.BaseReply.{BaseReply}
use Rattle.base_pool.specs.Laws.{IsKeptIn, KeepsRequest, KeptIsAnswered}
use Rattle.base_pool.specs.Serves.{IsOn, IsSpelled, Makes, Serves, StaysBase}
use Rattle.base_pool.specs.Views.{BaseView}
use Rattle.base_pool.proofs.Acting.{put_at, served_write}
use Rattle.base_pool.proofs.Outcomes.{quiet_needs, quiet_stays, reply_cases}
use Rattle.base_pool.proofs.Readings.{own_changes, own_taken}
use Rattle.base_pool.proofs.Sounding.{get_put, made_holds}
use Rattle.base_pool.proofs.Words.{acted_of, anything, on_state}

-- a request as it is kept
abbrev kept_as : Req → Reply → Kept
kept_as r reply = record { client = r.client; tid = r.tid; reply = reply }

-- a request that acted is kept
kept_after : (s t : NameState) (r : Req) (reply : Reply) (ver : ℕ) (obj : Option Obj) (given : Reply) → Fresh (after s r ver obj given) given ≡ Fresh t reply → IsKeptIn r reply t
kept_after s t r reply ver obj given h =
    let state : after s r ver obj given ≡ t = cc in
    let told : given ≡ reply = cc in
    ap (λ (u : NameState). kept_of r.client u.seen) (sym state) ∙ kept_of-keep_same (kept_as r given) s.seen ∙ ap (λ x. Some (kept_as r x)) told

kept_by : (s t : NameState) (r : Req) (reply : Reply) (x : Result Run Refusal) → acted s r x ≡ Fresh t reply → IsKeptIn r reply t
kept_by s t r reply (Ok x) h = kept_after s t r reply _ _ _ h
kept_by s t r reply (Err e) h = kept_after s t r reply _ _ _ h

fresh_kept : (s t : NameState) (r : Req) (reply : Reply) → act s r ≡ Fresh t reply → IsKeptIn r reply t
fresh_kept s t r reply =
    act_cases (λ a. a ≡ Fresh t reply → IsKeptIn r reply t) s r (λ k e lt h. absurd (cc)) (λ k e same h. absurd (cc)) (λ e newer h. absurd (cc))
    (λ room newer. kept_by s t r reply (run s.ver r.vector s.obj))

-- a request that is kept is answered again
again_by : (s : NameState) (r : Req) (reply : Reply) → act_by s r (Some (kept_as r reply)) ≡ Again reply
again_by s r reply =
    let low : nat_lt r.tid r.tid ≡ false = le-ltb r.tid r.tid (omega arith) in
    let same : (r.tid == r.tid) ≡ true = eq-eqb r.tid r.tid refl in
    rw (low, same) refl

kept_again : (s : NameState) (r : Req) (reply : Reply) → IsKeptIn r reply s → act s r ≡ Again reply
kept_again s r reply kept = ap (act_by s r) kept ∙ again_by s r reply

-- the map of a request that acted
left_kept : (r : Req) (reply : Reply) (t : NameState) (a b : StoreView) → SpellsState (state_bytes t) t → IsKeptIn r reply t → Made (put_at r.name t ∷ []) a b
    → Holds b (KeepsRequest r reply)
left_kept r reply t a b spelled kept made =
    made_holds (put_at r.name t ∷ []) a b (λ _. Unit {0}) (KeepsRequest r reply) made
    (λ m _. record { state = t; has = subst (λ o. IsStateOf o t) (sym (get_put m (state_key r.name) (state_bytes t))) spelled; kept = kept }) (anything a)

acts_are_kept : (op : ℕ) (r : Req) (reply : Reply) (old new : BaseView)
    → Serves (BaseMsg.Write old.epoch op r) old new (Ok (BaseReply.Wrote old.epoch op (BaseActed.Fresh reply))) → Holds new.store (KeepsRequest r reply)
acts_are_kept op r reply old new h =
    let msg = BaseMsg.Write old.epoch op r in
    let plain = served_write old.epoch op r h.state (act h.state r) refl in
    let acts = acted_of old.epoch op reply (act h.state r) (h.told ∙ ap (λ (x : Served). x.reply) plain) in
    let is = served_write old.epoch op r h.state (Fresh acts.0 reply) acts.1 in
    let made : Made (put_at r.name acts.0 ∷ []) old.store new.store
    = subst (λ cs. Makes cs old.store new.store) (own_changes msg old.epoch h.state (Some acts.0) (BaseReply.Wrote old.epoch op (BaseActed.Fresh reply)) is) h.makes in
    let spelled : SpellsState (state_bytes acts.0) acts.0 = subst (λ (x : Served). IsSpelled x.put) is h.spelled in
    left_kept r reply acts.0 old.store new.store spelled (fresh_kept h.state acts.0 r reply acts.1) made

pub kept_is_answered : KeptIsAnswered
kept_is_answered = record {
  acted = acts_are_kept;
  again = λ op r reply old new told m h before keeps.
      let msg = BaseMsg.Write old.epoch op r in
      let answer = BaseReply.Wrote old.epoch op (BaseActed.Again reply) in
      let at : (x : NameState) → IsOn msg old x → served old.epoch x msg ≡ replies old.epoch answer
      = λ x on. let same = on_state msg old r.name x keeps.state m (own_taken old.epoch) refl on before keeps.has in
      served_write old.epoch op r x (Again reply) (ap (λ y. act y r) same ∙ kept_again keeps.state r reply keeps.kept) in
      reply_cases msg old new (λ a. (a ≡ answer) × StaysBase old new)
      (λ a w. quiet_stays msg old new a w answer (at w.state w.on))
      (λ f o used need limit l. absurd (quiet_needs msg old l.state answer (at l.state l.commits.on) l.commits))
      told h;
}
