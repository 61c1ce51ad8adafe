-- Wrong histories, each with the clause that excludes it.
use Rattle.std.proofs.Common.{◌≡◌, ℕ, List, [], ◌∷◌, Option, Some, None, refl, ap, subst, ◌∙◌, arith}
use Rattle.obj_model.specs.declared.reply.Reply.{Reply}
use Rattle.obj_model.specs.declared.reply.Reply.TheVariants as reply
use Rattle.obj_model.specs.declared.req.Req.{Req}
use Rattle.obj_model.specs.declared.state.NameState.{NameState}
use Rattle.obj_model.specs.declared.tier.Path.{Path}
use Rattle.obj_ops.specs.Acts.{act}
use Rattle.obj_ops.specs.Stores.{Store, state_of}
use Rattle.obj_ops.specs.declared.request.Acted.TheVariants as acted
use Rattle.tier_chron.specs.Calls.{Call}
use Rattle.tier_chron.specs.Legal.{AreFresh, AreInOrder, AreOnce, AreOpened, IsLegal, IsPlaced}
use Rattle.tier_chron.specs.Shapes.{AreInTurn, AreSingle, IsAnswerTo, IsAnswered, IsAskedBy, IsBegun, NumbersAgree}
use Rattle.tier_chron.specs.declared.answer.Answer.TheVariants as answer
use Rattle.tier_chron.specs.declared.asked.Asked.{Asked}
use Rattle.tier_chron.specs.declared.asked.Asked.TheVariants.{Write, Drain, Evict}
use Rattle.tier_chron.specs.declared.entries.First.{First}
use Rattle.tier_chron.specs.declared.entries.Act.{Act}
use Rattle.tier_chron.specs.declared.entries.Logged.{Logged}
use Rattle.tier_chron.proofs.Ids.{ids_act_once}

-- the line of a call that has one
abbrev line_in : Option ℕ → ℕ
line_in None = 0
line_in (Some n) = n

-- one request acted twice
an_act_twice :
    (start : Store) (a b : Act) (opening : List First) (answers : List Logged) → b.req ≡ a.req
    → IsLegal start (record { opening = opening; acts = a ∷ b ∷ []; answers = answers }) → ⊥
an_act_twice start a b opening answers e h =
    (ids_act_once _ start h).0.0 (record {
      client = ap (λ (r : Req). r.client) e;
      tid = ap (λ (r : Req). r.tid) e;
      name = ap (λ (r : Req). r.name) e;
    })

-- an act with a reply that its request did not get
a_made_up_reply :
    (start : Store) (a : Act) (t : NameState)
    → act (state_of start a.req.name) a.req ≡ acted.Fresh t (reply.Done 3) → a.reply ≡ reply.Done 4
    → AreFresh start (a ∷ []) → ⊥
a_made_up_reply start a t e wrong h = let no = h.0.1 in absurd (cc)

-- an act of a request that is answered again
an_act_of_before :
    (start : Store) (a : Act) (given : Reply)
    → act (state_of start a.req.name) a.req ≡ acted.Again given → AreFresh start (a ∷ []) → ⊥
an_act_of_before start a given e h = let no = h.0.1 in absurd (cc)

-- one call with two acts
two_acts_of_a_call : (a : Act) → AreSingle (a ∷ a ∷ []) → ⊥
two_acts_of_a_call a h = h.0.0 refl

-- an act of a call that asked something else, or of no call
an_act_of_a_drain :
    (a : Act) (line : Option ℕ) (begin : ℕ)
    → IsAskedBy a (Some (record { number = a.call; line = line; begin = begin; asked = Drain })) → ⊥
an_act_of_a_drain a line begin h = let no = h.0 in absurd (cc)

an_act_of_no_call : (a : Act) → IsAskedBy a None → ⊥
an_act_of_no_call a h = h

-- an act that was there before its call began
an_act_before_its_call :
    (a : Act) (line : Option ℕ) (asked : Asked)
    → IsBegun (a ∷ []) (record { number = a.call; line = line; begin = 1; asked = asked }) → ⊥
an_act_before_its_call a line asked h = h.later.0 refl

-- a place before the call's begin, or behind the answer's end; an end behind all acts
a_place_before_the_call :
    (count : ℕ) (l : Logged) → l.begin ≡ 3 → l.place ≡ 2 → IsPlaced count l → ⊥
a_place_before_the_call count l b p h = absurd (omega (arith, h.seen, b, p))

a_place_behind_the_answer :
    (count : ℕ) (l : Logged) → l.end ≡ 3 → l.place ≡ 4 → IsPlaced count l → ⊥
a_place_behind_the_answer count l e p h = absurd (omega (arith, h.done, e, p))

an_end_behind_all_acts : (l : Logged) → l.end ≡ 3 → IsPlaced 2 l → ⊥
an_end_behind_all_acts l e h = absurd (omega (arith, h.there, e))

-- two answers to one call
two_answers_to_a_call : (l : Logged) → AreInOrder (l ∷ l ∷ []) → ⊥
two_answers_to_a_call l h = h.0.0.1 refl

-- an answer that came after a later one
ends_that_fall : (l m : Logged) → l.end ≡ 5 → m.end ≡ 4 → AreInOrder (l ∷ m ∷ []) → ⊥
ends_that_fall l m e f h = absurd (omega (arith, h.0.0.0, e, f))

-- an answer to a call that there is not, to a call without a line, or with another line or begin
-- than its call's
an_answer_to_no_call : (acts : List Act) (l : Logged) → IsAnswered acts l None → ⊥
an_answer_to_no_call acts l h = h

an_answer_without_a_line :
    (acts : List Act) (l : Logged) (begin : ℕ) (asked : Asked)
    → IsAnswered acts l (Some
    (record { number = l.call; line = None; begin = begin; asked = asked })) → ⊥
an_answer_without_a_line acts l begin asked h = let no = h.line in absurd (cc)

another_begin :
    (acts : List Act) (l : Logged) (asked : Asked) → l.begin ≡ 4
    → IsAnswered acts l (Some
    (record { number = l.call; line = Some l.line; begin = 3; asked = asked })) → ⊥
another_begin acts l asked e h = absurd (omega (arith, h.begin, e))

-- an opening with another state than its name had at first
a_later_opening :
    (start : Store) (f : First) (a : Act) (t : NameState) → state_of start f.name ≡ t
    → (f.state ≡ t → ⊥) → IsLegal start (record { opening = f ∷ []; acts = a ∷ []; answers = [] })
    → ⊥
a_later_opening start f a t is other h = other (h.first.0 ∙ is)

-- an act with a line that is not its call's
an_act_of_another_line :
    (a : Act) (begin : ℕ) → a.line ≡ 4
    → IsAskedBy a (Some
    (record { number = a.call; line = Some 3; begin = begin; asked = Write a.req })) → ⊥
an_act_of_another_line a begin e h = absurd (omega (arith, e, ap line_in h.1))

-- two calls under one number, and a call that begins before an earlier one
two_calls_of_a_number : (c : Call) → AreInTurn (c ∷ c ∷ []) → ⊥
two_calls_of_a_number c h = h.0.0.1 refl

a_call_before_an_earlier_one : (c d : Call) → c.begin ≡ 5 → d.begin ≡ 4 → AreInTurn (c ∷ d ∷ []) → ⊥
a_call_before_an_earlier_one c d e f h = absurd (omega (arith, h.0.0.0, e, f))

-- an answer on a way that its call cannot have, or with numbers that do not agree
an_eviction_on_a_way :
    (acts : List Act) (l : Logged) (c : Call) (name : List ℕ) (way : Path) → c.asked ≡ Evict name
    → l.path ≡ Some way → IsAnswerTo acts l c → ⊥
an_eviction_on_a_way acts l c name way e p h = let no = h.way in absurd (cc)

an_epoch_that_fell :
    (acts : List Act) (l : Logged) (c : Call) → l.answer ≡ answer.Restarted 3 2
    → IsAnswerTo acts l c → ⊥
an_epoch_that_fell acts l c e h = absurd (omega (arith, subst NumbersAgree e h.numbers))

-- an opening that no act wants, one that is left out, one that stands twice
an_opening_too_many : (f : First) → AreOpened (f ∷ []) [] → ⊥
an_opening_too_many f h = let no = h.touched.0 in absurd (cc)

an_opening_left_out : (a : Act) → AreOpened [] (a ∷ []) → ⊥
an_opening_left_out a h = let no = h.all.0 in absurd (cc)

an_opening_twice : (f : First) → AreOnce (f ∷ f ∷ []) → ⊥
an_opening_twice f h = h.0.0 refl
