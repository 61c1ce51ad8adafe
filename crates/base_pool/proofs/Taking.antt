-- Messages of other epochs, and those that are taken.
use Rattle.std.proofs.Common.{◌≡◌, ◌≢◌, ◌<◌, ◌≤◌, ℕ, Bool, true, false, not, cond, List, [], Option, None, Some, Result, Ok, Err, refl, sym, ap, subst, ◌∙◌, arith}
use Rattle.std.specs.Prelude.{nat_lt, ◌==◌}
use Rattle.std.proofs.lemmas.Bool.{ltb-true, ltb-false, ne_eqb, true≢false}
use Rattle.copy_chunk.proofs.Lawful.{first_lawful}
use Rattle.obj_model.specs.States.{unknown}
use Rattle.rec_codec.proofs.Readers.{some_is}
use Rattle.store_face.specs.Views.{StoreView}
use Rattle.tier_types.specs.Serving.{Served, in_epoch, name_in, replies, served}
use Rattle.tier_types.specs.declared.message.BaseMsg.{BaseMsg}
use Rattle.tier_types.specs.declared.message.BaseReply.{BaseReply}
use Rattle.base_pool.specs.Serves.{Answers, IsSpelled, Makes, Serves, is_taken, state_put}
use Rattle.base_pool.specs.Steps.{base_of, refusal, refused_epoch}
use Rattle.base_pool.specs.declared.fault.BaseFault.{BaseFault}
use Rattle.store_face.proofs.Later.{stays_same}
use Rattle.base_pool.proofs.Readings.{own_changes}

-- ---- taken

own_by : (have e : ℕ) (b c : Bool) → nat_lt e have ≡ b → nat_lt have e ≡ c
    → cond b (Some (BaseReply.OldEpoch have e)) (cond c (Some (BaseReply.NotFenced have e)) None) ≡ None → e ≡ have
own_by have e true c low high none = absurd (cc)
own_by have e false true low high none = absurd (cc)
own_by have e false false low high none = omega (arith, ltb-false e have low, ltb-false have e high)

-- a message that is not refused is of the base's own epoch
own : (have e : ℕ) → refused_epoch have e ≡ None → e ≡ have
own have e none = own_by have e (nat_lt e have) (nat_lt have e) refl refl none

pub taken_as : (message : ℕ → BaseMsg) (have e : ℕ) (a b : StoreView) (result : Result BaseReply BaseFault) → refused_epoch have e ≡ None
    → ((o : Bool) → Serves (message have) (base_of a have o) (base_of b have o) result)
    → (o : Bool) → Serves (message e) (base_of a have o) (base_of b have o) result
taken_as message have e a b result none h o =
    subst (λ n. Serves (message n) (base_of a have o) (base_of b have o) result) (sym (own have e none)) (h o)

not_lower_by : (have e : ℕ) (b : Bool) → nat_lt e have ≡ b → cond b (Some (BaseReply.OldEpoch have e)) None ≡ None → have ≤ e
not_lower_by have e true low none = absurd (cc)
not_lower_by have e false low none = ltb-false e have low

-- nor is a Fence of a lower one
pub not_lower : (have e : ℕ) → refusal have (BaseMsg.Fence e) ≡ None → have ≤ e
not_lower have e none = not_lower_by have e (nat_lt e have) refl none

-- ---- refused

pub nothing_put : (name : Option (List ℕ)) → state_put name None ≡ []
nothing_put None = refl
nothing_put (Some name) = refl

-- a message that is not taken leaves everything
left : (msg : BaseMsg) (have : ℕ) (o : Bool) (a : StoreView) (reply : BaseReply) → served have unknown msg ≡ replies have reply → is_taken have msg ≡ false
    → Answers msg (base_of a have o) (base_of a have o) reply
left msg have o a reply e off = record {
  state = unknown;
  on = record { lawful = first_lawful; read = λ on. absurd (true≢false (sym on ∙ off)) };
  told = ap (λ (x : Served). x.reply) (sym e);
  epoch = ap (λ (x : Served). x.epoch) (sym e);
  low = λ low. low;
  spelled = subst (λ (x : Served). IsSpelled x.put) (sym e) tt;
  makes = subst (λ cs. Makes cs a a) (sym (own_changes msg have unknown None reply e ∙ nothing_put (name_in msg))) (stays_same a);
  opened = refl;
}

-- what a refused message is told
Turns : BaseMsg → ℕ → Bool → StoreView → BaseReply → Type 0
Turns msg have o a reply = Serves msg (base_of a have o) (base_of a have o) (Ok reply)

away_by : (msg : BaseMsg) (have e : ℕ) (x : Served) (o : Bool) (a : StoreView) (reply : BaseReply) (b c : Bool) → nat_lt e have ≡ b → nat_lt have e ≡ c
    → served have unknown msg ≡ in_epoch have e x → is_taken have msg ≡ (e == have)
    → cond b (Some (BaseReply.OldEpoch have e)) (cond c (Some (BaseReply.NotFenced have e)) None) ≡ Some reply → Turns msg have o a reply
unfolding Turns
away_by msg have e x o a reply true c low high is on some =
    let step : in_epoch have e x ≡ replies have (BaseReply.OldEpoch have e)
    = ap (λ t. cond t (replies have (BaseReply.OldEpoch have e)) (cond (nat_lt have e) (replies have (BaseReply.NotFenced have e)) x)) low in
    let less = ltb-true e have low in
    subst (λ r. Serves msg (base_of a have o) (base_of a have o) (Ok r)) (some_is (BaseReply.OldEpoch have e) reply some)
    (left msg have o a (BaseReply.OldEpoch have e) (is ∙ step) (on ∙ ne_eqb e have (λ same. omega (arith, same, less))))
away_by msg have e x o a reply false true low high is on some =
    let step : in_epoch have e x ≡ replies have (BaseReply.NotFenced have e)
    = ap (λ t. cond t (replies have (BaseReply.OldEpoch have e)) (cond (nat_lt have e) (replies have (BaseReply.NotFenced have e)) x)) low
    ∙ ap (λ t. cond t (replies have (BaseReply.NotFenced have e)) x) high in
    let more = ltb-true have e high in
    subst (λ r. Serves msg (base_of a have o) (base_of a have o) (Ok r)) (some_is (BaseReply.NotFenced have e) reply some)
    (left msg have o a (BaseReply.NotFenced have e) (is ∙ step) (on ∙ ne_eqb e have (λ same. omega (arith, same, more))))
away_by msg have e x o a reply false false low high is on some = absurd (cc)

fence_away : (have e : ℕ) (o : Bool) (a : StoreView) (reply : BaseReply) (b : Bool) → nat_lt e have ≡ b
    → cond b (Some (BaseReply.OldEpoch have e)) None ≡ Some reply → Turns (BaseMsg.Fence e) have o a reply
unfolding Turns
fence_away have e o a reply true low some =
    let step : served have unknown (BaseMsg.Fence e) ≡ replies have (BaseReply.OldEpoch have e)
    = ap (λ t. cond t (replies have (BaseReply.OldEpoch have e)) (replies e (BaseReply.Fenced e))) low in
    subst (λ r. Serves (BaseMsg.Fence e) (base_of a have o) (base_of a have o) (Ok r)) (some_is (BaseReply.OldEpoch have e) reply some)
    (left (BaseMsg.Fence e) have o a (BaseReply.OldEpoch have e) step (ap not low))
fence_away have e o a reply false low some = absurd (cc)

away : (msg : BaseMsg) (have e : ℕ) (x : Served) (o : Bool) (a : StoreView) (reply : BaseReply) → served have unknown msg ≡ in_epoch have e x
    → is_taken have msg ≡ (e == have) → refused_epoch have e ≡ Some reply → Turns msg have o a reply
away msg have e x o a reply is on some = away_by msg have e x o a reply (nat_lt e have) (nat_lt have e) refl refl is on some

turned : (msg : BaseMsg) (have : ℕ) (o : Bool) (a : StoreView) (reply : BaseReply) → refusal have msg ≡ Some reply → Turns msg have o a reply
turned (BaseMsg.Fence e) have o a reply some = fence_away have e o a reply (nat_lt e have) refl some
turned (BaseMsg.GetChunk e op name at) have o a reply some = away (BaseMsg.GetChunk e op name at) have e _ o a reply refl refl some
turned (BaseMsg.Look e op name v) have o a reply some = away (BaseMsg.Look e op name v) have e _ o a reply refl refl some
turned (BaseMsg.Write e op r) have o a reply some = away (BaseMsg.Write e op r) have e _ o a reply refl refl some
turned (BaseMsg.Install e op name s) have o a reply some = away (BaseMsg.Install e op name s) have e _ o a reply refl refl some

-- a message that is refused is answered by its refusal
pub turned_away : (msg : BaseMsg) (have : ℕ) (o : Bool) (a : StoreView) (reply : BaseReply) → refusal have msg ≡ Some reply
    → Serves msg (base_of a have o) (base_of a have o) (Ok reply)
unfolding Turns
turned_away msg have o a reply some = turned msg have o a reply some
