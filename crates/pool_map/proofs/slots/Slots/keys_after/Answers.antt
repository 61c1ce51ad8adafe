use Rattle.std.proofs.Common.{sym, ◌∙◌, ap, refl, ◌≡◌, true, Some, None, take}
use Rattle.std.proofs.lemmas.Result.{IfOk-weaker}
use Rattle.std.specs.Prelude.{◌&&◌}
use Rattle.std.specs.Option.{option_copied}
use Rattle.std.specs.Ordering.{is_lt}
use Rattle.obj_model.specs.Names.{name_cmp}
use Rattle.store_face.specs.Tables.{keys_above}
use Rattle.pool_map.specs.Slots.{filled}
use Rattle.pool_map.proofs.Filled.{held_above, keys_held, and_true}
use Rattle.pool_map.proofs.slots.Slots.keys_after.Goals as goal

pub returns-in_ok-bound-in-Some : goal.returns-in_ok-bound-in-Some
returns-in_ok-bound-in-Some c =
    let bound = c.in_ok-bound-in-Some.bound.items in
    let all : keys_held (λ k. k.items) c.range.result ≡ keys_above (option_copied c.args.after) (filled c.args.self.now) =
    ap (keys_held (λ k. k.items)) (c.range.ensures.between tt)
    ∙ held_above (λ k. k.items) (λ k. is_lt (name_cmp bound k.items) && true) (Some c.in-Some.bound.now) c.self.inside.inner.entries
    (λ k. and_true (is_lt (name_cmp bound k.items)) ∙ ap (λ b. is_lt (name_cmp b k.items)) c.in_ok-bound-in-Some.ensures.items) c.range.ensures.ordered
    ∙ ap (λ m. keys_above (Some c.in-Some.bound.now) (filled m)) c.self.view_is
    ∙ ap (λ o. keys_above o (filled c.args.self.now)) (sym (ap option_copied c.in-Some.is)) in
    IfOk-weaker c.first_keys.result _ _ (λ keys h. h ∙ ap (take c.args.max) all) c.first_keys.ensures

pub returns-in-None : goal.returns-in-None
returns-in-None c =
    let all : keys_held (λ k. k.items) c.range-in-None.result ≡ keys_above (option_copied c.args.after) (filled c.args.self.now) =
    ap (keys_held (λ k. k.items)) (c.range-in-None.ensures.between tt)
    ∙ held_above (λ k. k.items) (λ _. true) None c.self.inside.inner.entries (λ _. refl) c.range-in-None.ensures.ordered
    ∙ ap (λ m. keys_above None (filled m)) c.self.view_is
    ∙ ap (λ o. keys_above o (filled c.args.self.now)) (sym (ap option_copied c.in-None.is)) in
    IfOk-weaker c.first_keys-in-None.result _ _ (λ keys h. h ∙ ap (take c.args.max) all) c.first_keys-in-None.ensures
