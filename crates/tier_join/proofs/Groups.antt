-- The general laws, as the crate's calls promise them.
use Rattle.std.proofs.Common.{◌≡◌, inl, inr, List, [], ◌∷◌, ◌++◌, sym, ap, subst, ◌∙◌}
use Rattle.std.proofs.lemmas.List.{append-nil, append_assoc}
use Rattle.obj_model.specs.declared.req.Req.{Req}
use Rattle.tier_join.specs.Promises.{OneMore}
use Rattle.std.specs.FinMap as fin
use Rattle.tier_join.specs.Group.{BeganAt, IsGroup}
use Rattle.tier_join.specs.Laws.{CommitsPromise, GroupsGoOn, ReadingsHold, RunsGoOn, StepsJoin}
use Rattle.pool_keys.specs.Keys.{record_key, state_key}
use Rattle.pool_keys.specs.Values.{IsRecOf, IsStateOf}
use Rattle.tier_join.proofs.Commits.{commit_promises}
use Rattle.tier_join.proofs.Left.{read_is_left}
use Rattle.tier_join.proofs.Rests.{first_rests, then_rests}

pub groups_go_on : GroupsGoOn
groups_go_on other v w p g = record {
  memory = p.memory g.memory;
  began = λ told. let b = g.began (p.told told) in (b.0, p.began b.0 (p.told told) b.1);
}

more_of : (old new : List Req) → OneMore old new → (more : List Req) × (new ≡ old ++ more)
more_of old new (inl same) = ([], same ∙ sym (append-nil old))
more_of old new (inr one) = (one.0 ∷ [], one.1)

pub runs_go_on : RunsGoOn
runs_go_on v [] steps w on = absurd on
runs_go_on v (u ∷ us) steps w (inl same) =
    let p = steps.0.1 in
    let first = more_of v.memory.acts u.memory.acts p.history in (
      λ g. subst IsGroup (sym same) (groups_go_on steps.0.0 v u p g),
      λ start told b. subst (BeganAt start) (sym same) (p.began start told b),
      (first.0, ap (λ x. x.memory.acts) same ∙ first.1),
    )
runs_go_on v (u ∷ us) steps w (inr later) =
    let p = steps.0.1 in
    let first = more_of v.memory.acts u.memory.acts p.history in
    let rest = runs_go_on u us steps.1 w later in (
      λ g. rest.0 (groups_go_on steps.0.0 v u p g),
      λ start told b. rest.1 start (p.tell told) (p.began start told b),
      (first.0 ++ rest.2.0, rest.2.1 ∙ ap (λ x. x ++ rest.2.0) first.1 ∙ append_assoc v.memory.acts first.0 rest.2.0),
    )

pub commits_promise : CommitsPromise
commits_promise pool cs done left d result v w other acts owes step = commit_promises pool cs done left d result v w owes step other acts

pub steps_join : StepsJoin
steps_join = (then_rests, first_rests)

pub readings_hold : ReadingsHold
readings_hold = (
  λ v k rec sound live holds. read_is_left v.cache (λ t. IsRecOf (fin.get t (record_key k)) rec) sound live holds,
  λ v k s sound live holds. read_is_left v.base (λ t. IsStateOf (fin.get t (state_key k)) s) sound live holds,
)
