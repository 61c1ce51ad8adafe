-- A message reaches the base: whatever comes of it.
use Rattle.std.proofs.Common.{None, Ok, sym, subst}
use Rattle.tier_join.specs.Steps.{act_of}
use Rattle.tier_protocol.specs.Tiers.{BaseActed, BaseReply}
use Rattle.tier_view.specs.Delivers.{acted_there, with_base}
use Rattle.tier_view.specs.Laws.{Keeps}
use Rattle.tier_view.specs.Serves.{DeliveringKeeps, acts, answered_there, fails, lacks_room, leaves, only_answers, refused_there, replied_there, strays, taken_there, takes}
use Rattle.tier_view.proofs.Delivered.{delivering_acts_keeps}
use Rattle.tier_view.proofs.Serving.{actless_keeps, answering_there_keeps, lacking_there_keeps, leaving_base_keeps, taking_there_keeps}
use Rattle.tier_view.proofs.ServingFails.{failing_there_keeps}
use Rattle.tier_view.proofs.ServingStrays.{straying_there_keeps}

pub delivering_keeps : DeliveringKeeps
delivering_keeps v w m told h none (only_answers b s a reply is) =
    subst (Keeps (act_of m.message) None v) (sym is) (actless_keeps (act_of m.message) v (answered_there m b s v) (answering_there_keeps v m b s h none a))
delivering_keeps v w m told h none (takes b cs s a reply is) =
    subst (Keeps (act_of m.message) None v) (sym is) (actless_keeps (act_of m.message) v (taken_there m b s v) (taking_there_keeps v m b cs s h none a))
delivering_keeps v w m told h none (acts o op r b t answer first bytes s a commits reply is) =
    subst (Keeps (act_of m.message) None v) (sym is)
    (subst (λ x. Keeps (act_of x) None v (acted_there m.number op first (record { call = o.call; line = o.line; req = r; reply = answer }) t.seq s (Ok tt) v)) (sym a.message)
    (delivering_acts_keeps v m o op r b t answer first bytes s (Ok tt) h none a commits))
delivering_keeps v w m told h none (strays o op r b t answer bytes s a commits reply is) =
    subst (Keeps (act_of m.message) None v) (sym is)
    (actless_keeps (act_of m.message) v (replied_there m.number (BaseReply.Wrote v.standing.base_epoch op (BaseActed.Fresh answer)) v.standing.base_epoch s v)
    (straying_there_keeps v m o op r b t answer bytes s h none a commits))
delivering_keeps v w m told h none (lacks_room used need limit s a reply is) =
    subst (Keeps (act_of m.message) None v) (sym is) (actless_keeps (act_of m.message) v (refused_there m used need limit s v) (lacking_there_keeps v m used need limit s h none a))
delivering_keeps v w m told h none (fails b s p a reply is) = subst (Keeps (act_of m.message) None v) (sym is) (failing_there_keeps v m b s p h none a)
delivering_keeps v w m told h none (leaves s a reply is) =
    subst (Keeps (act_of m.message) None v) (sym is) (actless_keeps (act_of m.message) v (with_base s None v) (leaving_base_keeps v s h none a))
