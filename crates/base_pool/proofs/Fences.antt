-- Fences that are taken.
use Rattle.std.proofs.Common.{◌≡◌, ◌≢◌, inl, inr, ◌<◌, ◌≤◌, ℕ, Bool, true, false, not, cond, List, [], ◌∷◌, ◌++◌, Option, None, Some, Result, Ok, Err, refl, sym, ap, subst, ◌∙◌, arith}
use Rattle.std.specs.Prelude.{nat_lt}
use Rattle.std.proofs.lemmas.Bool.{lt-ltb, le-ltb}
use Rattle.byteorder.specs.Endian.{big_bytes}
use Rattle.copy_chunk.proofs.Lawful.{first_lawful}
use Rattle.obj_model.specs.Limits.{number_limit}
use Rattle.obj_model.specs.States.{IsState, unknown}
use Rattle.obj_model.specs.declared.change.Change.{Change}
use Rattle.obj_model.specs.declared.change.Change.TheVariants.{Put}
use Rattle.pool_keys.specs.Keys.{epoch_key}
use Rattle.store_face.specs.Calls.{Committed}
use Rattle.store_face.specs.Views.{Holds, StoreView, no_map}
use Rattle.store_face.specs.declared.fault.StoreFault.{StoreFault}
use Rattle.store_face.specs.declared.fault.StoreFault.TheVariants as store
use Rattle.tier_outside.specs.Moments.{Now as NowBy}
use Rattle.tier_types.specs.Serving.{Served, replies, served}
use Rattle.tier_types.specs.declared.message.BaseMsg.{BaseMsg}
use Rattle.tier_types.specs.declared.message.BaseReply.{BaseReply}
use Rattle.base_pool.specs.Serves.{Commits, HasFor, IsSpelled, Makes, Serves, changes_by, epoch_put, is_taken, state_put}
use Rattle.base_pool.specs.Steps.{base_of, refused_by}
use Rattle.base_pool.specs.declared.fault.BaseFault.TheVariants.{Store}
use Rattle.base_pool.proofs.Acting.{needs, refused_serves, unless_all}
use Rattle.store_face.proofs.Later.{stays_same}
use Rattle.base_pool.proofs.Readings.{no_raise, own_answers}

-- a Fence of no lower epoch is taken
taken : (have got : ℕ) → have ≤ got → is_taken have (BaseMsg.Fence got) ≡ true
taken have got low = ap not (le-ltb got have low)

served_fence : (have got : ℕ) → have ≤ got → served have unknown (BaseMsg.Fence got) ≡ replies got (BaseReply.Fenced got)
served_fence have got low = ap (λ b. cond b (replies have (BaseReply.OldEpoch have got)) (replies got (BaseReply.Fenced got))) (le-ltb got have low)

-- it needs nothing of the map
nothing : (a : StoreView) (got : ℕ) → Holds a (HasFor (BaseMsg.Fence got) unknown)
nothing a got = all_of a.moments
  where
    all_of : (ms : Option (List _)) → NowBy no_map ms (λ s. Unit {0})
    all_of None = tt
    all_of (Some ms) = tt

-- the epoch is there
pub fence_stands : (have got : ℕ) (o : Bool) (a : StoreView) → got ≡ have
    → Serves (BaseMsg.Fence got) (base_of a have o) (base_of a have o) (Ok (BaseReply.Fenced got))
fence_stands have got o a same =
    own_answers (BaseMsg.Fence got) have o a a unknown None (BaseReply.Fenced got)
    (served_fence have got (omega (arith, same)) ∙ ap (λ e. record { epoch = e; put = None; reply = BaseReply.Fenced got }) same)
    first_lawful (nothing a got) tt (stays_same a)

-- the epoch is above the greatest one
pub fence_high : (have got : ℕ) (o : Bool) (a : StoreView) → have ≤ got → number_limit < got
    → Serves (BaseMsg.Fence got) (base_of a have o) (base_of a have o) (Err (Store (store.Worn number_limit)))
fence_high have got o a low high = inl (record {
  taken = taken have got low;
  fence = refl;
  high = high;
  limit_is = refl;
  stays = record { store = stays_same a; epoch = refl; opened = refl };
})

-- the change that raises the epoch
abbrev raise : ℕ → Change
raise got = Put epoch_key (big_bytes 8 got)

raises : (have got : ℕ) → have < got → changes_by have unknown (BaseMsg.Fence got) ≡ raise got ∷ []
raises have got less =
    ap (λ (x : Served). epoch_put have x.epoch ++ state_put None x.put) (served_fence have got (omega (arith, less)))
    ∙ ap (λ b. cond b (raise got ∷ []) [] ++ []) (lt-ltb have got less)

pub fence_done : (have got : ℕ) (o : Bool) (a b : StoreView) → have < got → got ≤ number_limit → Committed (raise got ∷ []) a b (Ok tt)
    → Serves (BaseMsg.Fence got) (base_of a have o) (base_of b got o) (Ok (BaseReply.Fenced got))
fence_done have got o a b less low h = record {
  state = unknown;
  on = record { lawful = first_lawful; read = λ _. nothing a got };
  told = ap (λ (x : Served). x.reply) (sym (served_fence have got (omega (arith, less))));
  epoch = ap (λ (x : Served). x.epoch) (sym (served_fence have got (omega (arith, less))));
  low = λ _. low;
  spelled = subst (λ (x : Served). IsSpelled x.put) (sym (served_fence have got (omega (arith, less)))) tt;
  makes = subst (λ cs. Makes cs a b) (sym (raises have got less)) h;
  opened = refl;
}

pub fence_refused : (have got : ℕ) (fault : StoreFault) (o : Bool) (a b : StoreView) → have < got → got ≤ number_limit → Committed (raise got ∷ []) a b (Err fault)
    → Serves (BaseMsg.Fence got) (base_of a have o) (base_of b have o) (refused_by fault got 0)
fence_refused have got fault o a b less few h =
    let is = served_fence have got (omega (arith, less)) in
    refused_serves (BaseMsg.Fence got) have o a b unknown (raise got) fault (taken have got (omega (arith, less)))
    (unless_all fault (Commits (BaseMsg.Fence got) (base_of a have o) unknown)
    (needs (BaseMsg.Fence got) (base_of a have o) unknown (raise got) (taken have got (omega (arith, less))) first_lawful (nothing a got)
    (subst (λ (x : Served). x.epoch ≤ number_limit) (sym is) few) (subst (λ (x : Served). IsSpelled x.put) (sym is) tt) (raises have got less)))
    (raises have got less) h
