-- A Write acts on a base, and its owner may not act: stores that do not both tell.
use Rattle.std.proofs.Common.{◌≡◌, inl, inr, ℕ, ◌+◌, List, Some, None, refl, ap, ◌∙◌}
use Rattle.obj_model.specs.declared.change.Change.{Change}
use Rattle.obj_model.specs.declared.reply.Reply.{Reply}
use Rattle.obj_model.specs.declared.req.Req.{Req}
use Rattle.obj_model.specs.declared.state.NameState.{NameState}
use Rattle.obj_ops.specs.Acts.{act}
use Rattle.obj_ops.specs.declared.request.Acted.{Acted}
use Rattle.pool_keys.specs.Keys.{state_key}
use Rattle.store_face.specs.Calls.{Made}
use Rattle.store_face.specs.Views.{StoreView}
use Rattle.tier_join.specs.Group.{BothTell, IsSoundMemory, Memory}
use Rattle.tier_join.specs.Steps.{sets}
use Rattle.tier_join.proofs.Left.{tells_on}
use Rattle.tier_join.proofs.MemoryMoves.{served_memory}
use Rattle.tier_protocol.specs.Tiers.{BaseActed, BaseReply}
use Rattle.tier_types.specs.Serving.{Served, put_by, served, told_of}
use Rattle.tier_view.specs.Grows.{in_base}
use Rattle.tier_view.specs.Laws.{Keeps}
use Rattle.tier_join.specs.Promises.{as_it_is}
use Rattle.tier_view.specs.Serves.{StrayingThereKeeps, StraysThere, replied_there}
use Rattle.tier_view.specs.Traffic.{Owner, Sent}
use Rattle.tier_view.specs.Views.{GroupView, joined}
use Rattle.tier_view.specs.Whole.{IsWhole}
use Rattle.tier_view.proofs.Delivering.{on_wire, own_epoch}
use Rattle.tier_view.proofs.Serving.{Rs, base_keeps, replied_sound}
use Rattle.tier_view.proofs.ServingFails.{both_or_not}
use Rattle.tier_view.proofs.ServingOwners.{owners_may_act}

module _ (v : GroupView) (m : Sent) (o : Owner) (op : ℕ) (r : Req) (b t : NameState) (answer : Reply) (cs : List Change) (s : StoreView) (h : IsWhole v) (none : v.stores.pending ≡ None)
    (a : StraysThere v m o op r b t answer) (made : Made cs v.stores.base s) (untold : BothTell (joined v) → ⊥) where
  abbrev E : ℕ
  E = v.standing.base_epoch

  abbrev Mem : Memory
  Mem = (joined v).memory

  abbrev Gives : BaseReply
  Gives = BaseReply.Wrote E op (BaseActed.Fresh answer)

  abbrev Out : Served
  Out = record { epoch = E; put = Some t; reply = Gives }

  abbrev W : GroupView
  W = replied_there m.number Gives E s v

  is : served E b m.message ≡ Out
  is =
      ap (served E b) a.message ∙ own_epoch E (record { epoch = E; put = put_by (act b r); reply = BaseReply.Wrote E op (told_of (act b r)) })
      ∙ ap {A = Acted} {B = Served} (λ x. record { epoch = E; put = put_by x; reply = BaseReply.Wrote E op (told_of x) }) a.acts

  sound : IsSoundMemory Mem → IsSoundMemory (joined W).memory
  sound k = served_memory Mem m.message b Out (on_wire v.traffic.messages m a.on) is k

  pub strays_keep : Keeps as_it_is None v W
  strays_keep =
      base_keeps v h none s made.later None (Rs v h none s made.later m a.on Gives) (v.traffic.next_reply + 1) E as_it_is tt (replied_sound v h none s made.later m a.on Gives)
      (record {
        history = inl refl;
        memory = λ k. record { sound = sound k.sound; epochs = tt };
        tell = λ both. absurd (untold both);
        told = λ both. absurd (untold (both.0, (tells_on v.stores.base s _ made.between).1 both.1));
        began = λ start both g. absurd (untold both);
        stops = λ start both g z i. absurd (untold both);
      })
      (λ start both g. absurd (untold both)) (λ start both g. tt) (in_base refl (inl (cs, made.between)))

pub straying_there_keeps : StrayingThereKeeps
straying_there_keeps v m o op r b t answer bytes s h none a commits = elim (both_or_not (joined v)) [
  | inl told ↦ absurd (a.stray (owners_may_act v m o op r b t answer h none told a.on a.message a.owner a.has a.acts))
  | inr untold ↦ strays_keep v m o op r b t answer (sets (state_key r.name) (Some bytes)) s h none a commits.committed untold
]
