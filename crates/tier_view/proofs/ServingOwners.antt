-- The owner of a Write that acts may act, where both stores tell.
use Rattle.std.proofs.Common.{◌≡◌, inl, inr, ℕ, ◌&&◌, ◌||◌, not, Bool, true, false, List, [], ◌∷◌, map, Option, Some, None, refl, sym, ap, subst, ◌∙◌}
use Rattle.std.proofs.lemmas.Bool.{eq-eqb}
use Rattle.std.specs.List.{AllByRecursion, list_any}
use Rattle.obj_model.specs.declared.req.Req.{Req}
use Rattle.obj_ops.specs.Acts.{act}
use Rattle.tier_chron.specs.Calls.{Call, call_of}
use Rattle.tier_chron.specs.Shapes as chron
use Rattle.tier_chron.specs.Shapes.{IsAskedBy, is_fault}
use Rattle.tier_chron.specs.declared.asked.Asked.{Asked}
use Rattle.tier_chron.specs.declared.asked.Asked.TheVariants.{Write, Read, Flush, Finish, Evict, Drain, Agent, Start}
use Rattle.tier_chron.specs.declared.entries.Act.{Act}
use Rattle.tier_chron.specs.declared.entries.Logged.{Logged}
use Rattle.tier_join.specs.Group.{tier_of}
use Rattle.tier_join.proofs.BaseSteps.{state_is}
use Rattle.tier_join.proofs.Commits.{some_maps}
use Rattle.tier_protocol.specs.Owners.{Asking, HasNoAct, IsOpen}
use Rattle.tier_protocol.specs.Tiers.{IsIn}
use Rattle.tier_protocol.proofs.Owners.{acts_for}
use Rattle.tier_view.specs.Calls.{Entry}
use Rattle.tier_view.specs.Serves.{OwnersMayAct}
use Rattle.tier_view.specs.Traffic.{Sent, wire_of}
use Rattle.tier_view.specs.Views.{act_in, asking_by, asking_of, calls_in, closes, joined, ledger_in}
use Rattle.tier_view.specs.Whole.{HasOwner}
use Rattle.tier_view.proofs.Beginning.{surely_owned}
use Rattle.tier_view.proofs.Delivering.{is_owned, on_wire}

-- ---- a call that asked a request

asked_so : (x : Asked) (o : Option ℕ) (line : ℕ) (q : Req) → asking_by x o ≡ Some (record { line = line; req = q }) → (x ≡ Write q) × (o ≡ Some line)
asked_so (Write r) (Some l) line q e =
    let a : ◌≡◌ {A = Asking} (record { line = l; req = r }) (record { line = line; req = q }) = cc in
    (ap Write (ap (λ y. y.req) a), ap Some (ap (λ y. y.line) a))
asked_so (Write r) None line q e = absurd (cc)
asked_so (Read client n vector) o line q e = absurd (cc)
asked_so (Flush n blocking begin_only) o line q e = absurd (cc)
asked_so (Finish n) o line q e = absurd (cc)
asked_so (Evict n) o line q e = absurd (cc)
asked_so Drain o line q e = absurd (cc)
asked_so Agent o line q e = absurd (cc)
asked_so Start o line q e = absurd (cc)

pub asked_by : (c : Option Call) (a : Act) → asking_of c ≡ Some (record { line = a.line; req = a.req }) → IsAskedBy a c
asked_by None a e = absurd (cc)
asked_by (Some c) a e = asked_so c.asked c.line a.line a.req e

-- ---- a call that is open

acts_apart : (n : ℕ) (acts : List Act) → HasNoAct n (map act_in acts) → chron.HasNoAct n acts
acts_apart n [] h = tt
acts_apart n (a ∷ acts) h = (h (act_in a) (inl refl), acts_apart n acts (λ b on. h b (inr on)))

only_fault : (b : Bool) → (true && not b) ≡ false → b ≡ true
only_fault true e = refl
only_fault false e = absurd (cc)

left_false : (a b : Bool) → (a || b) ≡ false → (a ≡ false) × (b ≡ false)
left_false true b e = absurd (cc)
left_false false b e = (refl, e)

faults_alone : (n : ℕ) (answers : List Logged) → list_any (closes n) answers ≡ false → AllByRecursion (λ l. l.call ≡ n → is_fault l.answer ≡ true) answers
faults_alone n [] h = tt
faults_alone n (l ∷ ls) h =
    let two = left_false (closes n l) (list_any (closes n) ls) h in
    (λ same. only_fault (is_fault l.answer) (subst (λ b. (b && not (is_fault l.answer)) ≡ false) (eq-eqb l.call n same) two.0), faults_alone n ls two.1)

-- ---- the owner of a message

owner_of : (entries : List Entry) (ms : List Sent) (m : Sent) → AllByRecursion (λ s. HasOwner entries s.message s.owner) ms → IsIn m ms → HasOwner entries m.message m.owner
owner_of entries [] m h on = absurd on
owner_of entries (x ∷ ms) m h (inl same) = subst (λ s. HasOwner entries s.message s.owner) (sym same) h.0
owner_of entries (x ∷ ms) m h (inr on) = owner_of entries ms m h.1 on

pub owners_may_act : OwnersMayAct
owners_may_act v m o op r b t answer h none told on message owner has acts =
    let began = h.began told in
    let some = some_maps (joined v) told in
    let k = surely_owned began.0 v some.0 none (began.1.owners some.0 some.1) in
    let pair = tier_of began.0 (joined v).memory k.spells.recs k.spells.base in
    let fresh = ap (λ x. act x r) (state_is began.0 (joined v) some.0 r.name b has some.1 k.spells) ∙ acts in
    let free : IsOpen (ledger_in v) o.call =
    (acts_for pair (ledger_in v) v.standing.base_epoch op r t answer (record { epoch = v.standing.base_epoch; opid = op; req = r; call = o.call; line = o.line }) k.spells.sound k.owners
    (subst (λ x. IsIn x (wire_of v.traffic.messages)) message (on_wire v.traffic.messages m on)) refl fresh
    (is_owned v.traffic.messages m v.standing.base_epoch op r o on message owner) (refl, refl, refl)).0 in
    record {
      asked = asked_by (call_of (calls_in v.calls.entries) o.call) (record { call = o.call; line = o.line; req = r; reply = answer })
          (subst (λ x. HasOwner v.calls.entries x (Some o)) message (subst (HasOwner v.calls.entries m.message) owner (owner_of v.calls.entries v.traffic.messages m h.traffic.owned on)));
      first = acts_apart o.call v.log.acts free.0;
      free = faults_alone o.call v.log.answers free.1;
    }
