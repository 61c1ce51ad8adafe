-- The lines of a script on one plain store: each answer, with its place.
use Rattle.std.specs.Prelude.{ℕ, ◌+◌, List, [], ◌∷◌, refl}
use Rattle.std.specs.FinMap as map
use Rattle.std.specs.Coded.{Coded, code_by, coded×, coded_ℕ, coded_list}
use Rattle.obj_model.specs.Names.{name_cmp}
use Rattle.obj_model.specs.contracts.state.NameState as state
use Rattle.obj_model.specs.declared.state.NameState.{NameState}
use Rattle.obj_ops.specs.Acts.{act, look}
use Rattle.obj_ops.specs.Stores.{Store, state_of, store_after}
use Rattle.obj_ops.specs.declared.request.Acted.{Acted}
use Rattle.obj_ops.specs.declared.request.Acted.TheVariants.{Fresh, Again, Stale, Worn}
use Rattle.tier_tool.specs.declared.task.Task.{Task}
use Rattle.tier_tool.specs.declared.task.Task.TheVariants.{Op, Get}
use Rattle.tier_tool.specs.declared.task.Numbered.{Numbered}
use Rattle.tier_tool.specs.Answers.{of_request, of_reading}
use Rattle.tier_chron.specs.declared.answer.Answer.{Answer}

-- one store, and how many requests acted on it so far
pub record Plain : Type 0 where
  pub store : Store
  pub acts : ℕ

-- a store on which no request acted yet
abbrev pub begun : Store → Plain
begun store = record { store = store; acts = 0 }

-- what a line is answered
abbrev pub answer : Plain → Task → Answer
answer p (Op req) = of_request (act (state_of p.store req.name) req)
answer p (Get client name vector) = of_reading (look (state_of p.store name) vector)

-- the number of acts after one more request was answered so
abbrev pub acts_after : ℕ → Acted → ℕ
acts_after acts (Fresh state reply) = acts + 1
acts_after acts (Again reply) = acts
acts_after acts (Stale kept) = acts
acts_after acts (Worn limit) = acts

-- the store and its count after a request of this name was answered so
abbrev pub after_request : Plain → List ℕ → Acted → Plain
after_request p name a = record { store = store_after p.store name a; acts = acts_after p.acts a }

-- the store and its count after a line; a reading changes nothing
abbrev pub after : Plain → Task → Plain
after p (Op req) = after_request p req.name (act (state_of p.store req.name) req)
after p (Get client name vector) = p

-- a line's answer, with the line's number, and its place: the number of acts after the line
pub record Answered : Type 0 where
  pub number : ℕ
  pub answer : Answer
  pub place : ℕ

-- the answer to a line with its number and its place
abbrev pub answered : Plain → Numbered → Answered
answered p n = record { number = n.number; answer = answer p n.line; place = (after p n.line).acts }

-- the answers to lines, one after another
abbrev pub answers : List Numbered → Plain → List Answered
answers [] p = []
answers (n ∷ ns) p = answered p n ∷ answers ns (after p n.line)

-- the answers to lines on this store, the acts counted from 0
abbrev pub plain : List Numbered → Store → List Answered
plain lines store = answers lines (begun store)

-- how a store with its count is written down as a value of contracts
abbrev pub coded_plain : Coded Plain
coded_plain =
    code_by (map.FinMap name_cmp NameState × ℕ)
    (coded× (map.code (coded_list coded_ℕ) state.the_row.coded) coded_ℕ)
    (λ p. (p.store, p.acts)) (λ c. record { store = c.0; acts = c.1 }) (λ _. refl)
