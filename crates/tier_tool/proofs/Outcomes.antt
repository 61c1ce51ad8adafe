-- How a line ends, by what was found under its name and what was put there.
use Rattle.std.proofs.Common.{◌≡◌, inl, inr, ℕ, ◌+◌, true, false, List, Option, Some, None, Result}
use Rattle.std.proofs.Common.{Ok, Err, refl, sym, ap, subst, ◌∙◌, arith}
use Rattle.std.specs.FinMap as fin
use Rattle.std.specs.List.Sorted.{IsStrictlySortedBy}
use Rattle.std.specs.Result.{IsErr, IsErrAnd}
use Rattle.std.proofs.lemmas.Bool.{false≢true}
use Rattle.std.proofs.lemmas.List.Elements.{All-nil}
use Rattle.obj_model.specs.States.{IsKept, IsState, unknown}
use Rattle.obj_model.specs.declared.reply.Reply.{Reply}
use Rattle.obj_model.specs.declared.req.Req.{Req}
use Rattle.obj_model.specs.declared.state.NameState.{NameState}
use Rattle.obj_model.specs.declared.sub_op.SubOp.{SubOp}
use Rattle.obj_ops.specs.Acts.{act, look}
use Rattle.obj_ops.specs.Stores.{Store, state_of, store_after}
use Rattle.obj_ops.specs.declared.request.Acted.{Acted}
use Rattle.obj_ops.specs.declared.request.Acted.TheVariants.{Fresh}
use Rattle.tier_tool.specs.declared.task.Task.{Task}
use Rattle.tier_tool.specs.declared.task.Task.TheVariants.{Op, Get}
use Rattle.store_face.specs.Tables.{Table}
use Rattle.store_face.specs.Views.{StoreView, CrashMaps, Durable, Now, Holds, no_map}
use Rattle.tier_outside.specs.Moments.{last}
use Rattle.store_face.specs.Calls.{Stays, Got}
use Rattle.tier_tool.specs.Answers.{of_request, of_reading, replied}
use Rattle.tier_tool.specs.Bases.{StandsFor, IsUnreadable, IsFresh, ActsOn, BeforeOrAfter}
use Rattle.tier_tool.specs.Steps.Serving.{SameUnreadable, IsAnswered, InDoubt, LineEnds}
use Rattle.tier_tool.specs.Tasks.{name_of}
use Rattle.tier_tool.specs.Steps.Pools.{IsStateOf, Has, Found, IsWith, IsTorn, WasPut}
use Rattle.tier_tool.specs.Steps.Pools.{WithOrWithout}
use Rattle.store_face.specs.Rooms.{record_size}
use Rattle.tier_tool.specs.Costs.{change_of, cost, cost_of, state_key}
use Rattle.tier_tool.specs.Plain.{Plain, answer, after, after_request, acts_after}
use Rattle.tier_chron.specs.declared.answer.Answer.{Answer}
use Rattle.tier_tool.specs.declared.base.LineFault.{LineFault}
use Rattle.tier_tool.specs.declared.base.LineFault.TheVariants as fault
use Rattle.tier_tool.proofs.Bases.{has_readable, has_state, stands_put, unreadable_put}
use Rattle.tier_tool.proofs.Pools.{At, now_two, now_same, now_weaker}
use Rattle.store_face.proofs.Later.{fails_later, stays_twice}

-- ---- a state that was looked up

unknown_lawful : IsState unknown
unfolding IsStrictlySortedBy
unknown_lawful = record { counted = record { accepted = omega arith; acted = omega arith }; object = tt; each_kept = All-nil IsKept; rising = tt }

-- a name without a value has the unknown state
pub found_none : (name key : List ℕ) (value : Option (List ℕ)) (s : NameState) (old new : StoreView) → key ≡ state_key name → value ≡ None → s ≡ unknown → Got key old new (Ok value) → Found name old new (Ok s)
found_none name key value s old new e none is got = (
  subst IsState (sym is) unknown_lawful,
  now_weaker old.moments (λ was. value ≡ fin.get was.before.table key) (λ was. Has name s was.before.table)
      (λ was there. subst (λ (o : Option (List ℕ)). IsStateOf o s) (sym none ∙ there ∙ ap (λ (k : List ℕ). fin.get was.before.table k) e) is) got.1,
  got.0,
)

-- ---- nothing changed

now_itself : (m n : Option (List CrashMaps)) → n ≡ m → At m (λ was. At n (λ s. s ≡ was))
now_itself None n e = tt
now_itself (Some ss) n e = now_same (Some ss) n (λ s. s ≡ last no_map ss) (sym e) refl

-- what the plain store answers to a line that changes nothing, where the name has this state
abbrev pub Unchanged : Task → NameState → Answer → Type 0
Unchanged line s a = (p : Plain) → s ≡ state_of p.store (name_of line) → (a ≡ answer p line) × (after p line ≡ p)

same_unreadable : (t u : Table) → u ≡ t → SameUnreadable t u
same_unreadable t u e = subst (SameUnreadable t) (sym e) (λ name. (λ un. un, λ un. un))

no_act : (p q : Plain) → q ≡ p → q.acts ≡ p.acts + 0
no_act p q e = let same : q.acts ≡ p.acts = ap (λ (w : Plain). w.acts) e in omega (arith, same)

still_stands : (t u : Table) (p q : Plain) → StandsFor t p.store → u ≡ t → q ≡ p → StandsFor u q.store
still_stands t u p q stands e f = subst (λ (w : Plain). StandsFor u w.store) (sym f) (subst (λ (w : Table). StandsFor w p.store) (sym e) stands)

answered_same : (line : Task) (t : Table) (s : NameState) (a : Answer) (new : StoreView) → Has (name_of line) s t → Holds new (λ u. u ≡ t) → Unchanged line s a → IsAnswered line t new a false
answered_same line t s a new has same plainly = record {
  readable = has_readable t (name_of line) s has;
  unreadable = now_weaker new.moments (λ n. n.before.table ≡ t) (λ n. SameUnreadable t n.before.table) (λ n. same_unreadable t n.before.table) same;
  plainly = λ p stands.
      let q = plainly p (has_state t p.store (name_of line) s has stands) in
      (q.0, no_act p (after p line) q.1, now_weaker new.moments (λ n. n.before.table ≡ t) (λ n. StandsFor n.before.table (after p line).store) (λ n e. still_stands t n.before.table p (after p line) stands e q.1) same);
}

ends_same : (line : Task) (s : NameState) (a : Answer) (old new : StoreView) → Holds old (Has (name_of line) s) → Stays old new → old.live ≡ true → Unchanged line s a → LineEnds line old new (Ok (a, false))
ends_same line s a old new has stays live plainly = (
  now_two old.moments (λ was. Has (name_of line) s was.before.table) (λ was. At new.moments (λ n. n ≡ was)) (λ was. IsAnswered line was.before.table new a false)
      (λ was h same. answered_same line was.before.table s a new h (now_weaker new.moments (λ n. n ≡ was) (λ n. n.before.table ≡ was.before.table) (λ n. ap (λ (w : CrashMaps). w.before.table)) same) plainly)
      has (now_itself old.moments new.moments stays.moments),
  stays.live ∙ live,
  stays.later,
  stays.moments,
)

-- a request that does not act
pub ends_unchanged : (req : Req) (s : NameState) (x : Acted) (a : Answer) (old new : StoreView) → act s req ≡ x → a ≡ of_request x → ((p : Plain) → after_request p req.name x ≡ p)
    → Holds old (Has req.name s) → Stays old new → old.live ≡ true → LineEnds (Op req) old new (Ok (a, false))
ends_unchanged req s x a old new is told kept has stays live =
    ends_same (Op req) s a old new has stays live (λ p e.
    let same : act (state_of p.store req.name) req ≡ x = ap (λ (w : NameState). act w req) (sym e) ∙ is in
    (told ∙ ap of_request (sym same), ap (after_request p req.name) same ∙ kept p))

-- a reading
pub ends_reading : (client : ℕ) (name : List ℕ) (vector : List SubOp) (s : NameState) (a : Answer) (old new : StoreView) → a ≡ of_reading (look s vector)
    → Holds old (Has name s) → Stays old new → old.live ≡ true → LineEnds (Get client name vector) old new (Ok (a, false))
ends_reading client name vector s a old new told has stays live =
    ends_same (Get client name vector) s a old new has stays live (λ p e. (told ∙ ap (λ (w : NameState). of_reading (look w vector)) e, refl))

-- ---- a request that acts

-- what the plain store does, where its state of the name is the one found
acts_so : (req : Req) (s : NameState) (x : Acted) (t : Table) (store : Store) → act s req ≡ x → Has req.name s t → StandsFor t store → act (state_of store req.name) req ≡ x
acts_so req s x t store is has stands = ap (λ (w : NameState). act w req) (sym (has_state t store req.name s has stands)) ∙ is

after_put : (req : Req) (s next : NameState) (reply : Reply) (t u : Table) (store : Store) → act s req ≡ Fresh next reply → Has req.name s t → StandsFor t store → IsWith req.name next t u
    → StandsFor u (store_after store req.name (act (state_of store req.name) req))
after_put req s next reply t u store is has stands put =
    subst (λ (x : Acted). StandsFor u (store_after store req.name x)) (sym (acts_so req s (Fresh next reply) t store is has stands)) (stands_put t u store req.name next stands put)

answered_put : (req : Req) (s next : NameState) (reply : Reply) (a : Answer) (t : Table) (new : StoreView) → act s req ≡ Fresh next reply → a ≡ replied reply false
    → Has req.name s t → Holds new (IsWith req.name next t) → IsAnswered (Op req) t new a true
answered_put req s next reply a t new is told has put = record {
  readable = has_readable t req.name s has;
  unreadable = now_weaker new.moments (λ n. IsWith req.name next t n.before.table) (λ n. SameUnreadable t n.before.table) (λ n. unreadable_put t n.before.table req.name next (has_readable t req.name s has)) put;
  plainly = λ p stands.
      let same = acts_so req s (Fresh next reply) t p.store is has stands in (
        told ∙ ap of_request (sym same),
        ap (acts_after p.acts) same,
        now_weaker new.moments (λ n. IsWith req.name next t n.before.table) (λ n. StandsFor n.before.table (after p (Op req)).store) (λ n. after_put req s next reply t n.before.table p.store is has stands) put,
      );
}

-- a request that acted, and whose state was put
pub ends_acted : (req : Req) (s next : NameState) (reply : Reply) (a : Answer) (old mid new : StoreView) → act s req ≡ Fresh next reply → a ≡ replied reply false
    → Holds old (Has req.name s) → Stays old mid → WasPut req.name next mid new (Ok tt) → LineEnds (Op req) old new (Ok (a, true))
ends_acted req s next reply a old mid new is told has stays put = (
  now_two old.moments (λ was. Has req.name s was.before.table) (λ was. Holds new (IsWith req.name next was.before.table)) (λ was. IsAnswered (Op req) was.before.table new a true)
      (λ was. answered_put req s next reply a was.before.table new is told) has (now_same mid.moments old.moments (λ was. Holds new (IsWith req.name next was.before.table)) stays.moments put.0),
  put.1,
  omega (arith, stays.later, put.2),
  tt,
)

-- a fault that is given back as it is
pub given_back : {T : Type 0} (P : Result T LineFault → Type 0) (result : Result T LineFault) (f : LineFault) → IsErr result × IsErrAnd result (λ e. e ≡ f) → P (Err f) → P result
given_back P (Ok done) f h p = absurd (false≢true h.0)
given_back P (Err e) f h p = subst (λ (w : LineFault). P (Err w)) (sym h.1) p

-- a line that would have acted
acting : (req : Req) (s next : NameState) (reply : Reply) (old : StoreView) → act s req ≡ Fresh next reply → Holds old (Has req.name s)
    → Holds old (λ t. (¬ IsUnreadable t req.name) × ((store : Store) → StandsFor t store → ActsOn store (Op req)))
acting req s next reply old is has =
    now_weaker old.moments (λ was. Has req.name s was.before.table) (λ was. (¬ IsUnreadable was.before.table req.name) × ((store : Store) → StandsFor was.before.table store → ActsOn store (Op req)))
    (λ was h. (has_readable was.before.table req.name s h, λ store stands. subst IsFresh (sym (acts_so req s (Fresh next reply) was.before.table store is h stands)) tt)) has

one_side : (req : Req) (s next : NameState) (reply : Reply) (t : Table) (used : ℕ) (d : Durable) (p : Plain) → act s req ≡ Fresh next reply → Has req.name s t
    → StandsFor t p.store → WithOrWithout req.name next t used d → BeforeOrAfter p (Op req) used d
one_side req s next reply t used d p is has stands (inl same) = inl (subst (λ (w : Table). StandsFor w p.store) (sym same.0) stands, same.1)
one_side req s next reply t used d p is has stands (inr put) =
    let so : cost p.store (Op req) ≡ record_size (change_of req.name next) = ap (cost_of req.name) (acts_so req s (Fresh next reply) t p.store is has stands) in
    inr (after_put req s next reply t d.table p.store is has stands put.0, omega (arith, put.1, so))

in_doubt_put : (req : Req) (s next : NameState) (reply : Reply) (used : ℕ) (old new : StoreView) → act s req ≡ Fresh next reply → Holds old (Has req.name s)
    → Holds old (λ t. Now new (IsTorn req.name next t used)) → Holds old (λ t. Now new (InDoubt (Op req) t used))
in_doubt_put req s next reply used old new is has torn =
    now_two old.moments (λ was. Has req.name s was.before.table) (λ was. Now new (IsTorn req.name next was.before.table used)) (λ was. Now new (InDoubt (Op req) was.before.table used))
    (λ was h. now_weaker new.moments (IsTorn req.name next was.before.table used) (InDoubt (Op req) was.before.table used)
    (λ n torn p stands. (one_side req s next reply was.before.table used n.before p is h stands torn.before, one_side req s next reply was.before.table used n.after p is h stands torn.after))) has torn

-- a request that acted, and whose state was not put
pub ends_not_put : (req : Req) (s next : NameState) (reply : Reply) (old mid new : StoreView) (f : LineFault) → act s req ≡ Fresh next reply
    → Holds old (Has req.name s) → Stays old mid → WasPut req.name next mid new (Err f) → LineEnds (Op req) old new (Err f)
ends_not_put req s next reply old mid new (fault.NoSpace used need limit) is has stays put = (acting req s next reply old is has, put.0, stays_twice old mid new stays put.1)
ends_not_put req s next reply old mid new fault.BadRecord is has stays put = absurd put
ends_not_put req s next reply old mid new fault.Disk is has stays put = (
  in_doubt_put req s next reply old.used old new is has
      (subst (λ used. Holds old (λ t. Now new (IsTorn req.name next t used))) stays.used
      (now_same mid.moments old.moments (λ was. Now new (IsTorn req.name next was.before.table mid.used)) stays.moments put.0)),
  fails_later old mid new stays put.1,
)
ends_not_put req s next reply old mid new fault.NoMemory is has stays put = stays_twice old mid new stays put
