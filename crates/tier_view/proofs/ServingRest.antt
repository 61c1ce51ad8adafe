-- What a message that reaches the base leaves as it is.
use Rattle.std.proofs.Common.{◌≡◌, Option, Some, None, refl, sym, ap, subst, ◌∙◌}
use Rattle.obj_model.specs.declared.state.NameState.{NameState}
use Rattle.obj_ops.specs.Acts.{act}
use Rattle.tier_protocol.specs.Tiers.{BaseReply}
use Rattle.tier_types.specs.Serving.{put_by, served, told_of}
use Rattle.tier_view.specs.Serves.{ActsAreNotAnswersAlone, DeliveringLeavesRest, LeavesRest, acts, fails, lacks_room, leaves, only_answers, strays, takes}
use Rattle.tier_view.specs.Traffic.{Sent}
use Rattle.tier_view.specs.Views.{GroupView}
use Rattle.tier_view.proofs.Delivering.{own_epoch}

-- a group of which this is known
same_rest : (m : Sent) (told said : Option BaseReply) (v w u : GroupView) → told ≡ said → w ≡ u → LeavesRest m said v u → LeavesRest m told v w
same_rest m told said v w u a b h = subst (λ x. LeavesRest m told v x) (sym b) (subst (λ x. LeavesRest m x v u) (sym a) h)

pub delivering_leaves_rest : DeliveringLeavesRest
delivering_leaves_rest v w m told (only_answers b s a said is) = same_rest m told _ v w _ said is (record { messages = refl; replies = refl; flights = refl; calls = refl; answers = refl; cache = refl; agent = refl })
delivering_leaves_rest v w m told (takes b cs s a said is) = same_rest m told _ v w _ said is (record { messages = refl; replies = refl; flights = refl; calls = refl; answers = refl; cache = refl; agent = refl })
delivering_leaves_rest v w m told (acts o op r b t answer first bytes s a commits said is) = same_rest m told _ v w _ said is (record { messages = refl; replies = refl; flights = refl; calls = refl; answers = refl; cache = refl; agent = refl })
delivering_leaves_rest v w m told (strays o op r b t answer bytes s a commits said is) = same_rest m told _ v w _ said is (record { messages = refl; replies = refl; flights = refl; calls = refl; answers = refl; cache = refl; agent = refl })
delivering_leaves_rest v w m told (lacks_room used need limit s a said is) = same_rest m told _ v w _ said is (record { messages = refl; replies = refl; flights = refl; calls = refl; answers = refl; cache = refl; agent = refl })
delivering_leaves_rest v w m told (fails b s p a said is) = same_rest m told _ v w _ said is (record { messages = refl; replies = refl; flights = refl; calls = refl; answers = refl; cache = refl; agent = refl })
delivering_leaves_rest v w m told (leaves s a said is) = same_rest m told _ v w _ said is (record { messages = refl; replies = refl; flights = refl; calls = refl; answers = refl; cache = refl; agent = refl })

pub acts_are_not_answers_alone : ActsAreNotAnswersAlone
acts_are_not_answers_alone v m b t op r answer s a at fresh =
    let E = v.standing.base_epoch in
    let puts : (served E b m.message).put ≡ Some t =
    ap (λ x. (served E b x).put) at ∙ ap (λ x. x.put) (own_epoch E (record { epoch = E; put = put_by (act b r); reply = BaseReply.Wrote E op (told_of (act b r)) })) ∙ ap put_by fresh in
    let no : ◌≡◌ {A = Option NameState} None (Some t) = sym a.none.put ∙ puts in
    absurd (cc)
