-- What lines take of the room, from what the calls on the store took.
use Rattle.std.proofs.Common.{◌≡◌, ◌+◌, ℕ, Bool, List, Option, Some, None, Ok, Err, sym, ap, subst}
use Rattle.std.proofs.Common.{◌∙◌, arith}
use Rattle.obj_model.specs.declared.req.Req.{Req}
use Rattle.obj_model.specs.declared.reply.Reply.{Reply}
use Rattle.obj_model.specs.declared.state.NameState.{NameState}
use Rattle.obj_model.specs.declared.sub_op.SubOp.{SubOp}
use Rattle.obj_ops.specs.Acts.{act}
use Rattle.obj_ops.specs.Stores.{Store, state_of}
use Rattle.obj_ops.specs.declared.request.Acted.{Acted}
use Rattle.obj_ops.specs.declared.request.Acted.TheVariants.{Fresh}
use Rattle.store_face.specs.Tables.{Table}
use Rattle.store_face.specs.Views.{Holds, CrashMaps}
use Rattle.store_face.specs.Rooms.{record_size}
use Rattle.log_store.specs.Views.{LogView, store_of}
use Rattle.tier_tool.specs.declared.task.Task.{Task}
use Rattle.tier_tool.specs.declared.task.Task.TheVariants.{Op, Get}
use Rattle.tier_tool.specs.Bases.{StandsFor, IsFresh, HasRoom}
use Rattle.tier_tool.specs.Steps.Pools.{Found, Has, PutUses}
use Rattle.tier_tool.specs.Steps.Serving.{LineUses}
use Rattle.tier_tool.specs.Costs.{change_of, cost, cost_of}
use Rattle.tier_chron.specs.declared.answer.Answer.{Answer}
use Rattle.tier_tool.specs.declared.base.LineFault.{LineFault}
use Rattle.tier_tool.specs.declared.base.LineFault.TheVariants as fault
use Rattle.tier_tool.proofs.Bases.{has_state}
use Rattle.tier_tool.proofs.Pools.{At, now_weaker}

-- a request does on the store what it does on the state that was found
found_act : (req : Req) (s : NameState) (x : Acted) (t : Table) (store : Store) → act s req ≡ x → Has req.name s t → StandsFor t store → act (state_of store req.name) req ≡ x
found_act req s x t store is has stands = ap (λ (w : NameState). act w req) (sym (has_state t store req.name s has stands)) ∙ is

-- a state was not found, and nothing changed
pub not_found_uses : (name : List ℕ) (line : Task) (old new : LogView) (f : LineFault) → Found name (store_of old) (store_of new) (Err f) → new ≡ old → LineUses line old new (Err f)
not_found_uses name line old new (fault.NoSpace used more limit) found same = absurd found
not_found_uses name line old new fault.BadRecord found same = ap (λ (v : LogView). v.used) same
not_found_uses name line old new fault.Disk found same = tt
not_found_uses name line old new fault.NoMemory found same = same

-- a reading takes nothing
pub reading_uses : (client : ℕ) (name : List ℕ) (vector : List SubOp) (old new : LogView) (done : Answer × Bool) → new ≡ old → LineUses (Get client name vector) old new (Ok done)
reading_uses client name vector old new done same =
    now_weaker old.moments (λ was. Unit {0}) (λ was. (store : Store) → StandsFor was.before.table store → HasRoom old.room old.used store (Get client name vector) × (new.used ≡ old.used + 0))
    (λ was h store stands. ((λ acts. absurd acts), ap (λ (v : LogView). v.used) same ∙ omega arith)) (nothing old.moments)
  where
    nothing : (m : Option (List CrashMaps)) → At m (λ was. Unit {0})
    nothing None = tt
    nothing (Some ss) = tt

-- a request that does not act takes nothing
pub unchanged_uses : (req : Req) (s : NameState) (x : Acted) (old new : LogView) (done : Answer × Bool) → act s req ≡ x → (IsFresh x → ⊥) → cost_of req.name x ≡ 0
    → Holds (store_of old) (Has req.name s) → new ≡ old → LineUses (Op req) old new (Ok done)
unchanged_uses req s x old new done is idle free has same =
    now_weaker old.moments (λ was. Has req.name s was.before.table) (λ was. (store : Store) → StandsFor was.before.table store → HasRoom old.room old.used store (Op req) × (new.used ≡ old.used + cost store (Op req)))
    (λ was h store stands.
    let so = found_act req s x was.before.table store is h stands in
    ((λ acts. absurd (idle (subst IsFresh so acts))), ap (λ (v : LogView). v.used) same ∙ (omega (arith, ap (cost_of req.name) so ∙ free)))) has

-- a request that acted, and whose state was put, takes the record of its change
pub acted_uses : (req : Req) (s next : NameState) (reply : Reply) (old mid new : LogView) (done : Answer × Bool) → act s req ≡ Fresh next reply → Holds (store_of old) (Has req.name s) → mid ≡ old
    → PutUses req.name next mid new (Ok tt) → LineUses (Op req) old new (Ok done)
acted_uses req s next reply old mid new done is has same put =
    let taken : PutUses req.name next old new (Ok tt) = subst (λ (v : LogView). PutUses req.name next v new (Ok tt)) same put in
    now_weaker old.moments (λ was. Has req.name s was.before.table) (λ was. (store : Store) → StandsFor was.before.table store → HasRoom old.room old.used store (Op req) × (new.used ≡ old.used + cost store (Op req)))
    (λ was h store stands.
    let so : cost store (Op req) ≡ record_size (change_of req.name next) = ap (cost_of req.name) (found_act req s (Fresh next reply) was.before.table store is h stands) in
    ((λ acts. omega (arith, so, taken.0)), omega (arith, so, taken.1))) has

-- a request that would have acted, and whose state was not put
pub not_put_uses : (req : Req) (s next : NameState) (reply : Reply) (old mid new : LogView) (f : LineFault) → act s req ≡ Fresh next reply → Holds (store_of old) (Has req.name s) → mid ≡ old
    → PutUses req.name next mid new (Err f) → LineUses (Op req) old new (Err f)
not_put_uses req s next reply old mid new (fault.NoSpace used more limit) is has same put =
    let taken = subst (λ (v : LogView). PutUses req.name next v new (Err (fault.NoSpace used more limit))) same put in (
      taken.0,
      taken.1,
      taken.2,
      taken.3,
      now_weaker old.moments (λ was. Has req.name s was.before.table) (λ was. (store : Store) → StandsFor was.before.table store → more ≡ cost store (Op req))
          (λ was h store stands. taken.4 ∙ sym (ap (cost_of req.name) (found_act req s (Fresh next reply) was.before.table store is h stands))) has,
    )
not_put_uses req s next reply old mid new fault.BadRecord is has same put = absurd put
not_put_uses req s next reply old mid new fault.Disk is has same put = tt
not_put_uses req s next reply old mid new fault.NoMemory is has same put = put ∙ same
