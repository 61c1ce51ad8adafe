-- Small histories, and which answers fit them.
use Rattle.std.specs.Prelude.{◌≡◌, ℕ, true, false, List, [], ◌∷◌, Some, None}
use Rattle.obj_model.specs.declared.change.Pool.{Pool}
use Rattle.obj_model.specs.declared.out.Out.{Out}
use Rattle.obj_model.specs.declared.reply.Reply.{Reply}
use Rattle.obj_model.specs.declared.reply.Reply.TheVariants as reply
use Rattle.obj_model.specs.declared.reply.Why.{Why}
use Rattle.obj_model.specs.declared.req.Req.{Req}
use Rattle.obj_model.specs.declared.state.NameState.{NameState}
use Rattle.obj_model.specs.declared.sub_op.SubOp.{SubOp}
use Rattle.obj_model.specs.declared.tier.Kind.TheVariants as kind
use Rattle.obj_model.specs.declared.tier.Path.TheVariants as path
use Rattle.obj_ops.specs.Acts.{act, look}
use Rattle.obj_ops.specs.Stores.{Store, state_of}
use Rattle.obj_ops.specs.declared.reading.Looked.TheVariants as looked
use Rattle.obj_ops.specs.declared.request.Acted.TheVariants as acted
use Rattle.tier_chron.specs.Fits.{Fits}
use Rattle.tier_chron.specs.Places.{behind_one}
use Rattle.tier_chron.specs.declared.answer.Answer.{Answer}
use Rattle.tier_chron.specs.declared.answer.Answer.TheVariants as answer
use Rattle.tier_chron.specs.declared.asked.Asked.TheVariants.{Write, Read}
use Rattle.tier_chron.specs.declared.entries.Act.{Act}
use Rattle.tier_chron.specs.declared.entries.Logged.{Logged}

-- an answer to call 7 of line 3, at this place, on no way or on the way of a hit
abbrev pub at : ℕ → Answer → Logged
at place x =
    record { call = 7; line = 3; begin = 0; place = place; end = 3; path = None; answer = x }

abbrev pub hit : ℕ → Answer → Logged
hit place x =
    record {
      call = 7;
      line = 3;
      begin = 0;
      place = place;
      end = 3;
      path = Some path.Hit;
      answer = x;
    }

-- an act of a call of line 3
abbrev pub act_of : ℕ → Req → Reply → Act
act_of call req given = record { call = call; line = 3; req = req; reply = given }

-- one act of this call, and no other
abbrev pub alone : ℕ → Req → List Act
alone call req = act_of call req (reply.Done 1) ∷ []

-- the act of call 7 between acts of two other calls
abbrev pub three : Req → List Act
three req =
    act_of 8 req (reply.Done 4) ∷ act_of 7 req (reply.Done 5) ∷ act_of 9 req (reply.Done 6) ∷ []

-- a reply of its own fits at its act's number, and not one place earlier or later
pub record OwnActAtItsPlace : Type 0 where
  pub there :
      (start : Store) (req : Req) → Fits start (three req) (Write req) (hit 2 (answer.Done 5 false))
  pub early :
      (start : Store) (req : Req)
      → Fits start (three req) (Write req) (hit 1 (answer.Done 5 false)) → ⊥
  pub late :
      (start : Store) (req : Req)
      → Fits start (three req) (Write req) (hit 3 (answer.Done 5 false)) → ⊥

-- the act of a refused request of call 7
abbrev pub refusal : Req → Why → List Act
refusal req why = act_of 7 req (reply.Refused 2 why 0) ∷ []

-- a refusal fits its act, and being done does not
pub record RefusedIsNotDone : Type 0 where
  pub refused :
      (start : Store) (req : Req) (why : Why)
      → Fits start (refusal req why) (Write req) (hit 1 (answer.Refused 2 why 0 false))
  pub done :
      (start : Store) (req : Req) (why : Why)
      → Fits start (refusal req why) (Write req) (hit 1 (answer.Done 0 false)) → ⊥

-- a kept reply fits where the plain store answers again, and only with the reply that it kept
pub record KeptTellsTheReply : Type 0 where
  pub same :
      (start : Store) (req : Req) → act (state_of start req.name) req ≡ acted.Again (reply.Done 1)
      → Fits start [] (Write req) (hit 0 (answer.Done 1 true))
  pub other :
      (start : Store) (req : Req) → act (state_of start req.name) req ≡ acted.Again (reply.Done 1)
      → Fits start [] (Write req) (hit 0 (answer.Done 2 true)) → ⊥
  pub fresh :
      (start : Store) (req : Req) (t : NameState)
      → act (state_of start req.name) req ≡ acted.Fresh t (reply.Done 1)
      → Fits start [] (Write req) (hit 0 (answer.Done 1 true)) → ⊥

-- a late request is told the number that acted, and has no act
pub record StaleHasNoAct : Type 0 where
  pub told :
      (start : Store) (req : Req) → act (state_of start req.name) req ≡ acted.Stale 5
      → Fits start [] (Write req) (hit 0 (answer.Stale 5))
  pub other :
      (start : Store) (req : Req) → act (state_of start req.name) req ≡ acted.Stale 5
      → Fits start [] (Write req) (hit 0 (answer.Stale 6)) → ⊥
  pub own :
      (start : Store) (req : Req)
      → Fits start (alone 7 req) (Write req) (hit 1 (answer.Stale 5)) → ⊥

-- behind an act of another call a reading tells the store that the act left
pub record ValuesAreOfTheirPlace : Type 0 where
  pub behind :
      (start : Store) (r : Req) (name : List ℕ) (ops : List SubOp) (outs : List Out)
      → look (state_of (behind_one start r) name) ops ≡ looked.Values 2 outs
      → Fits start (act_of 8 r (reply.Done 2) ∷ []) (Read 1 name ops) (hit 1 (answer.Values 2 outs))
  pub before :
      (start : Store) (r : Req) (name : List ℕ) (ops : List SubOp) (outs : List Out)
      → look (state_of (behind_one start r) name) ops ≡ looked.Values 2 outs
      → Fits start (act_of 8 r (reply.Done 2) ∷ []) (Read 1 name ops) (hit 1 (answer.Values 1 outs))
      → ⊥

-- a fault fits with one act of its call or with none, and not with two
pub record FaultMayHaveAnAct : Type 0 where
  pub none :
      (start : Store) (req : Req) (pool : Pool)
      → Fits start [] (Write req) (at 0 (answer.DiskFault pool))
  pub one :
      (start : Store) (req : Req) (pool : Pool)
      → Fits start (alone 7 req) (Write req) (at 0 (answer.DiskFault pool))
  pub two :
      (start : Store) (req : Req) (pool : Pool)
      → Fits start (act_of 7 req (reply.Done 1) ∷ act_of 7 req (reply.Done 2) ∷ []) (Write req)
      (at 0 (answer.DiskFault pool))
      → ⊥

-- a call that was turned away has no act, though others have
pub record BlockedHasNoAct : Type 0 where
  pub other :
      (start : Store) (req : Req)
      → Fits start (alone 8 req) (Write req) (at 0 (answer.Blocked kind.Flush 4))
  pub own :
      (start : Store) (req : Req)
      → Fits start (alone 7 req) (Write req) (at 0 (answer.Blocked kind.Flush 4))
      → ⊥
