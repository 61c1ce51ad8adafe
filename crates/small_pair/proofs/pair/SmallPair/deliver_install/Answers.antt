use Rattle.std.proofs.Common.{◌≡◌, [], ◌∷◌, ◌++◌, sym, ap, subst, ◌∙◌}
use Rattle.tier_protocol.specs.Tiers.{BaseMsg, BaseReply, IsIn, Tier}
use Rattle.tier_protocol.specs.Moves as moves
use Rattle.tier_protocol.proofs.Delivers.{delivering}
use Rattle.tier_protocol.proofs.Steps.{losing}
use Rattle.small_pair.proofs.Lists.{is_in}
use Rattle.small_pair.proofs.Installs.{installs_as}
use Rattle.small_pair.specs.Steps.{installed}
use Rattle.small_pair.proofs.Pairs.{pair_at}
use Rattle.small_pair.proofs.pair.SmallPair.deliver_install.Goals as goal

before : (c : goal.After-push_reserved) → Tier
before c = pair_at c.self.inside.recs c.self.inside.base c.self.inside.flights c.self.inside.opening
    c.self.inside.acts
    c.self.inside.wire.items c.self.inside.replies.items c.self.inside.cache_epoch
    c.self.inside.base_epoch
    c.self.inside.next_opid c.self.inside.phase c.self.inside.fenced

message : (c : goal.After-push_reserved) → BaseMsg
message c = BaseMsg.Install c.in-Some-Install.epoch c.in-Some-Install.opid c.in-Some-Install.name
    c.in-Some-Install.state

on_wire : (c : goal.After-push_reserved) → IsIn (message c) (before c).net.wire
unfolding before message
on_wire c =
    let lookup = c.in-Some-Install.ensures.lookup in
    subst (IsIn (message c)) c.deref.ensures.value
    (subst (λ x. IsIn x c.deref.result.now) (sym lookup.1 ∙ c.in-Some-Install.field-0-is)
    (is_in c.deref.result.now c.args.at c.in-Some-Install.field-0.now lookup.3.0))

served : (c : goal.After-push_reserved) → c.in-Some-Install.epoch ≡ (before c).net.base_epoch
unfolding before
served c = c.is_served.ensures c.if-not-is_served.false

behind : (c : goal.After-push_reserved) → Tier
unfolding before
behind c = record (before c) {
  base = c.install.new.base;
  net = record (before c).net { replies = c.push_reserved.new.self.items };
}

loses : (c : goal.After-push_reserved) → moves.Loses (moves.delivered (message c) (before c))
    (behind c)
unfolding before message behind
loses c =
    let e = c.in-Some-Install.epoch in
    let op = c.in-Some-Install.opid in
    let k = c.in-Some-Install.name in
    let s = c.in-Some-Install.state in
    let p : BaseReply = BaseReply.Installed e op s.seq in
    subst (λ base. moves.Loses (moves.delivered (message c) (before c))
    (record (behind c) { base = base }))
    (sym c.in_ok-install.ensures.taken)
    (subst (λ replies. moves.Loses (moves.delivered (message c) (before c))
    (record (before c) {
      base = installed k s c.self.inside.base;
      net = record (before c).net
          { replies = replies };
    }))
    (sym (c.push_reserved.ensures.items ∙ ap (λ l. l ++ p ∷ []) c.reserve.ensures.items))
    (installs_as (before c) e op k s (served c)))

pub invariant_of-self-2 : goal.invariant_of-self-2
unfolding before message behind
invariant_of-self-2 c =
    losing (moves.delivered (message c) (before c)) (behind c)
    (delivering (before c) (message c) c.self.invariant (on_wire c)) (loses c)

pub returns : goal.returns
unfolding before message behind
returns c =
    subst (λ t. (m : BaseMsg) × IsIn m t.net.wire × moves.Loses (moves.delivered m t) (behind c))
    c.self.view_is
    (message c, on_wire c, loses c)
