-- A fault is answered.
use Rattle.std.proofs.Common.{◌≡◌, ◌≤◌, ◌<◌, ◌+◌, ◌||◌, not, inl, ℕ, Bool, true, false, List, [], ◌∷◌, length, Option, Some, None, refl, sym, ap, subst, ◌∙◌, arith}
use Rattle.obj_model.specs.declared.change.Pool.TheVariants.{Cache, Base}
use Rattle.obj_model.specs.declared.req.Req.{Req}
use Rattle.obj_model.specs.declared.tier.Path.{Path}
use Rattle.obj_model.specs.declared.tier.Path.TheVariants.{Hit, Promote, ProxyRead, ProxyWrite}
use Rattle.store_face.specs.declared.fault.StoreFault.{StoreFault}
use Rattle.store_face.specs.declared.fault.StoreFault.TheVariants as store
use Rattle.obj_model.specs.Limits.{number_limit}
use Rattle.tier_chron.specs.Laws.{MayLog}
use Rattle.tier_chron.specs.Shapes.{NumbersAgree, Stands, StandsBeside, goes_with, is_fault, is_of_read, is_of_write, is_served, may_answer, may_go}
use Rattle.tier_chron.specs.declared.answer.Answer.{Answer}
use Rattle.tier_chron.specs.declared.answer.Answer.TheVariants as answer
use Rattle.tier_chron.specs.declared.asked.Asked.{Asked}
use Rattle.tier_chron.specs.declared.entries.Act.{Act}
use Rattle.tier_chron.specs.declared.entries.Logged.{Logged}
use Rattle.tier_core.proofs.Unacted.{turn_seen}
use Rattle.tier_core.specs.Held.{entries_limit}
use Rattle.tier_core.specs.Serves.{asked_of}
use Rattle.tier_core.specs.declared.turns.Turn.{Turn}
use Rattle.tier_core.specs.Ends.{IsEnded}
use Rattle.tier_moves.specs.declared.begun.Begun.TheVariants.{Answered}
use Rattle.tier_moves.specs.Begins.{Fails, IsTrueFault, IsWayHere, MayEndBy, MayFail, told_of}
use Rattle.tier_moves.specs.Endings.{failed_here}
use Rattle.tier_core.specs.Turns.{IsTurn}
use Rattle.tier_outside.specs.Causes.{Rose}
use Rattle.tier_types.specs.declared.flight.Ask.{Ask}
use Rattle.tier_view.proofs.AnsweringFaults.{entries_may_log}
use Rattle.tier_view.specs.Answered.{HasFaultCause, IsAnswerOf}
use Rattle.tier_view.specs.Views.{GroupView, calls_in}
use Rattle.tier_view.specs.Whole.{IsWhole, faults_told, tells_fault}

-- ---- it may be logged

-- what is known of the answer of a fault
record IsFaultTold (v : GroupView) (l : Logged) (x : Answer) : Type 0 where
  fault : is_fault x ≡ true
  served : is_served x ≡ false
  goes : goes_with x Hit ≡ true
  numbers : NumbersAgree x
  cause : HasFaultCause v l x
  beside : (acts : List Act) (req : Req) → StandsBeside acts req l x

fault_told : (v : GroupView) (l : Logged) (x : Answer) → IsTrueFault v x → IsFaultTold v l x
fault_told v l (answer.Worn limit) h = record {
  fault = refl;
  served = refl;
  goes = refl;
  numbers = h;
  cause = tt;
  beside = λ acts req. tt;
}
fault_told v l (answer.NoSpace pool used need limit) h = record {
  fault = refl;
  served = refl;
  goes = refl;
  numbers = h;
  cause = tt;
  beside = λ acts req. tt;
}
fault_told v l (answer.DiskFault Cache) h = record {
  fault = refl;
  served = refl;
  goes = refl;
  numbers = tt;
  cause = h;
  beside = λ acts req. tt;
}
fault_told v l (answer.Damaged pool at) h = record {
  fault = refl;
  served = refl;
  goes = refl;
  numbers = tt;
  cause = tt;
  beside = λ acts req. tt;
}
fault_told v l (answer.BadRecord pool name) h = record {
  fault = refl;
  served = refl;
  goes = refl;
  numbers = tt;
  cause = tt;
  beside = λ acts req. tt;
}
fault_told v l x h = absurd h

or_true : (b c : Bool) → c ≡ true → (b || c) ≡ true
or_true true c is = refl
or_true false c is = is

may_be_told : (ask : Ask) (x : Answer) → is_fault x ≡ true → may_answer (asked_of ask) x ≡ true
may_be_told (Ask.Write req) x is = or_true (is_of_write x) (is_fault x) is
may_be_told (Ask.Read client name vector) x is = or_true (is_of_read x) (is_fault x) is

goes_here : (ask : Ask) (way : Option Path) (x : Answer) → IsWayHere way
    → is_served x ≡ false → goes_with x Hit ≡ true → may_go (asked_of ask) x way ≡ true
goes_here (Ask.Write req) None x is served goes = ap not served
goes_here (Ask.Write req) (Some Hit) x is served goes = goes
goes_here (Ask.Write req) (Some Promote) x is served goes = absurd is
goes_here (Ask.Write req) (Some ProxyRead) x is served goes = absurd is
goes_here (Ask.Write req) (Some ProxyWrite) x is served goes = absurd is
goes_here (Ask.Read client name vector) None x is served goes = ap not served
goes_here (Ask.Read client name vector) (Some Hit) x is served goes = goes
goes_here (Ask.Read client name vector) (Some Promote) x is served goes = absurd is
goes_here (Ask.Read client name vector) (Some ProxyRead) x is served goes = absurd is
goes_here (Ask.Read client name vector) (Some ProxyWrite) x is served goes = absurd is

stands_by : (ask : Ask) (acts : List Act) (l : Logged) → ((req : Req)
    → StandsBeside acts req l l.answer) → Stands acts (asked_of ask) l
stands_by (Ask.Write req) acts l h = h req
stands_by (Ask.Read client name vector) acts l h = tt

-- what is asked of a fault that is answered
pub record IsFault (v : GroupView) (l : Logged) : Type 0 where
  pub may : MayLog (calls_in v.calls.entries) v.log l
  pub fault : is_fault l.answer ≡ true
  pub cause : HasFaultCause v l l.answer

module _ (v : GroupView) (turn : Turn) (way : Option Path) (x : Answer) (whole : IsWhole v)
    (h : MayFail v turn way x) where
  abbrev L : Logged
  L = failed_here turn (length v.log.acts) way x

  known : IsFaultTold v L x
  known = fault_told v L x h.fault

  of_asked : (P : Asked → Type 0) → P (asked_of h.ask) → P h.turn_is.entry.asked
  of_asked P p = subst P (sym h.turn_is.asked_is) p

  answers : IsAnswerOf v h.turn_is.entry L
  answers = record {
    entry = h.turn_is.is;
    going = h.turn_is.turn_is.going;
    line = h.turn_is.turn_is.line;
    begin = h.turn_is.turn_is.begin;
    seen = turn_seen v turn (asked_of h.ask) whole h.turn_is;
    done = omega arith;
    now = refl;
    kind = of_asked (λ a. may_answer a x ≡ true) (may_be_told h.ask x known.fault);
    numbers = known.numbers;
    way = of_asked (λ a. may_go a x way ≡ true)
        (goes_here h.ask way x h.way_is known.served known.goes);
    beside = of_asked (λ a. Stands v.log.acts a L)
        (stands_by h.ask v.log.acts L (known.beside v.log.acts));
  }

  pub may_fail : IsFault v L
  may_fail = record {
    may = entries_may_log v h.turn_is.entry L whole answers;
    fault = known.fault;
    cause = known.cause;
  }

-- the answer that is made is this one
pub fault_at : (v : GroupView) (turn : Turn) (way : Option Path) (x : Answer) (acts : ℕ)
    (l : Logged) → IsWhole v → MayFail v turn way x → acts ≡ length v.log.acts
    → l ≡ failed_here turn acts way x → IsFault v l
fault_at v turn way x acts l whole h count is =
    subst (IsFault v) (sym (is ∙ ap (λ (n : ℕ). failed_here turn n way x) count))
    (may_fail v turn way x whole h)

pub fault_ends : (v w : GroupView) (turn : Turn) (way : Option Path) (x : Answer) (acts : ℕ)
    (l : Logged) → acts ≡ length v.log.acts → l ≡ failed_here turn acts way x
    → IsEnded l.call (Some l) v w → Fails turn way x v w (Answered turn.call)
fault_ends v w turn way x acts l count is h =
    inl (record {
      told_is = refl;
      ended = subst (λ (m : Logged). IsEnded m.call (Some m) v w)
          (is ∙ ap (λ (n : ℕ). failed_here turn n way x) count) h;
    })

-- ---- a disk that failed

one_at_most : (x : Answer) → tells_fault Cache x ≤ 1
one_at_most (answer.DiskFault Cache) = omega arith
one_at_most (answer.DiskFault Base) = omega arith
one_at_most x = omega arith

-- an answer tells one fault at most
told_few : (ls : List Logged) → faults_told Cache ls ≤ length ls
told_few [] = omega arith
told_few (l ∷ ls) = omega (arith, one_at_most l.answer, told_few ls)

-- A count that rose is above all faults that a history tells which is not full, also where the
-- count stands at its end.
pub has_room : (answers : List Logged) (before between now : ℕ)
    → faults_told Cache answers ≤ before → before ≤ between → Rose between now
    → length answers ≤ entries_limit → faults_told Cache answers < now
has_room answers before between now told later rose few =
    omega (arith, told, later, rose, few, told_few answers)

-- ---- a fault of the cache's store

-- what a fault of the store says is so, where this is the count of its disk's faults before
abbrev pub IsMet : (before now : ℕ) → StoreFault → Type 0
IsMet before now store.Disk = Rose before now
IsMet before now (store.BadImage at) = ⊥
IsMet before now (store.NoSpace used need limit) = limit < used + need
IsMet before now (store.Worn limit) = limit ≡ number_limit
IsMet before now store.NoMemory = Unit {0}

pub met_ends : (v : GroupView) (turn : Turn) (ask : Ask) (way : Option Path) (before : ℕ)
    (fault : StoreFault) → IsTurn v turn (asked_of ask) → IsWayHere way
    → (Rose before v.stores.cache.faults → faults_told Cache v.log.answers < v.stores.cache.faults)
    → IsMet before v.stores.cache.faults fault → MayEndBy v turn way (told_of fault)
met_ends v turn ask way before store.Disk is here room met =
    record { ask = ask; turn_is = is; way_is = here; fault = room met }
met_ends v turn ask way before (store.BadImage at) is here room met = absurd met
met_ends v turn ask way before (store.NoSpace used need limit) is here room met =
    record { ask = ask; turn_is = is; way_is = here; fault = met }
met_ends v turn ask way before (store.Worn limit) is here room met =
    record { ask = ask; turn_is = is; way_is = here; fault = met }
met_ends v turn ask way before store.NoMemory is here room met = tt
