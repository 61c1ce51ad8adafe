-- What stands of a name after the parts of a move.
use Rattle.std.proofs.Common.{◌≡◌, ◌≢◌, ◌⊎◌, Bool, true, false, cond, Option, Some, None, unwrap_or, refl, sym, ap, subst, ◌∙◌, inl, inr}
use Rattle.std.specs.Cmp.{eq_by_cmp_equiv, Equal-is}
use Rattle.std.specs.Ordering.{eq_by_cmp}
use Rattle.std.specs.Cmp.Lexicographic.{nat_list_cmp_total}
use Rattle.std.specs.FinMap as fin
use Rattle.obj_model.specs.Names.{name_cmp}
use Rattle.obj_model.specs.States.{unknown}
use Rattle.obj_model.specs.declared.reply.Reply.{Reply}
use Rattle.obj_model.specs.declared.req.Req.{Req}
use Rattle.obj_model.specs.declared.state.NameState.{NameState}
use Rattle.obj_ops.specs.declared.request.Acted.TheVariants.{Fresh}
use Rattle.obj_ops.specs.Acts.{act}
use Rattle.obj_ops.specs.Stores.{state_of, store_after}
use Rattle.tier_protocol.specs.Tiers.{Name, TierRec, Flight, Tier, cell_of, plain_of}
use Rattle.tier_protocol.specs.Moves.{set_at, with_rec, with_flight, with_base, with_act}
use Rattle.tier_protocol.proofs.Requests.{replay_more}

by_test : (n k : Name) (b : Bool) → eq_by_cmp name_cmp n k ≡ b → (n ≡ k) ⊎ (n ≢ k)
by_test n k true e = inl (fin.slice_cmp-IsAntisymmetric fin.nat_cmp-IsAntisymmetric n k ((Equal-is
    (name_cmp n k)).0 e))
by_test n k false e = inr (λ same. let h : true ≡ false = sym
    ((eq_by_cmp_equiv nat_list_cmp_total).refl k) ∙ subst
    (λ m. eq_by_cmp name_cmp m k ≡ false) same e in absurd (cc))

-- two names are one, or not
pub same_or_not : (n k : Name) → (n ≡ k) ⊎ (n ≢ k)
same_or_not n k = by_test n k (eq_by_cmp name_cmp n k) refl

-- what holds of one name, and of each other, holds of all
pub names_by : (P : Name → Type 0) (k : Name) → P k → ((n : Name) → n ≢ k → P n) → (n : Name) → P n
names_by P k this others n = elim (same_or_not n k) [
  | inl same ↦ subst P
      (sym same) this
  | inr other ↦ others n other
]

here : (k : Name) → eq_by_cmp name_cmp k k ≡ true
here k = (eq_by_cmp_equiv nat_list_cmp_total).refl k

there_by : (n k : Name) → n ≢ k → (b : Bool) → eq_by_cmp name_cmp n k ≡ b → b ≡ false
there_by n k ne true e = absurd (ne (fin.slice_cmp-IsAntisymmetric fin.nat_cmp-IsAntisymmetric n k
    ((Equal-is (name_cmp n k)).0 e)))
there_by n k ne false e = refl

there : (n k : Name) → n ≢ k → eq_by_cmp name_cmp n k ≡ false
there n k ne = there_by n k ne (eq_by_cmp name_cmp n k) refl

pub get_here : {X : Type 0} (m : fin.FinMap name_cmp X) (k : Name) (v : Option X)
    → fin.get (set_at m k v) k ≡ v
get_here m k None = fin.get-remove nat_list_cmp_total m k k ∙ ap (λ b. cond b None (fin.get m k))
    (here k)
get_here m k (Some x) = fin.get-insert nat_list_cmp_total m k x k
    ∙ ap (λ b. cond b (Some x) (fin.get m k)) (here k)

pub get_there : {X : Type 0} (m : fin.FinMap name_cmp X) (k : Name) (v : Option X) (n : Name)
    → n ≢ k → fin.get (set_at m k v) n ≡ fin.get m n
get_there m k None n ne = fin.get-remove nat_list_cmp_total m k n
    ∙ ap (λ b. cond b None (fin.get m n)) (there n k ne)
get_there m k (Some x) n ne = fin.get-insert nat_list_cmp_total m k x n
    ∙ ap (λ b. cond b (Some x) (fin.get m n)) (there n k ne)

-- a record
pub rec_here : (t : Tier) (k : Name) (v : Option TierRec) → cell_of (with_rec k v t) k ≡ record
    (cell_of t k) { rec = v }
rec_here t k v = ap (λ r. record (cell_of t k) { rec = r }) (get_here t.recs k v)

pub rec_there : (t : Tier) (k : Name) (v : Option TierRec) (n : Name) → n ≢ k
    → cell_of (with_rec k v t) n ≡ cell_of t n
rec_there t k v n ne = ap (λ r. record (cell_of t n) { rec = r }) (get_there t.recs k v n ne)

-- work on a name
pub flight_here : (t : Tier) (k : Name) (f : Option Flight) → cell_of (with_flight k f t) k ≡ record
    (cell_of t k) { flight = f }
flight_here t k f = ap (λ x. record (cell_of t k) { flight = x }) (get_here t.flights k f)

pub flight_there : (t : Tier) (k : Name) (f : Option Flight) (n : Name) → n ≢ k
    → cell_of (with_flight k f t) n ≡ cell_of t n
flight_there t k f n ne = ap (λ x. record (cell_of t n) { flight = x })
    (get_there t.flights k f n ne)

-- the base's state
pub base_here : (t : Tier) (k : Name) (s : NameState) → cell_of (with_base k s t) k ≡ record
    (cell_of t k) { base = s }
base_here t k s = ap (λ o. record (cell_of t k) { base = unwrap_or o unknown }) (get_here t.base k
    (Some s))

pub base_there : (t : Tier) (k : Name) (s : NameState) (n : Name) → n ≢ k
    → cell_of (with_base k s t) n ≡ cell_of t n
base_there t k s n ne = ap (λ o. record (cell_of t n) { base = unwrap_or o unknown })
    (get_there t.base k (Some s) n ne)

-- an act
pub act_here : (t : Tier) (r : Req) (s : NameState) (answer : Reply)
    → act (cell_of t r.name).plain r ≡ Fresh s answer → cell_of (with_act r t) r.name ≡ record
    (cell_of t r.name) { plain = s }
act_here t r s answer e =
    ap (λ store. record (cell_of t r.name) { plain = state_of store r.name })
    (replay_more t.acts t.opening r ∙ ap (store_after (plain_of t) r.name) e)
    ∙ ap (λ o. record (cell_of t r.name) { plain = unwrap_or o unknown }) (get_here
    (plain_of t) r.name (Some s))

pub act_there : (t : Tier) (r : Req) (s : NameState) (answer : Reply) (n : Name)
    → act (cell_of t r.name).plain r ≡ Fresh s answer → n ≢ r.name
    → cell_of (with_act r t) n ≡ cell_of t n
act_there t r s answer n e ne =
    ap (λ store. record (cell_of t n) { plain = state_of store n }) (replay_more t.acts t.opening r
    ∙ ap (store_after (plain_of t) r.name) e)
    ∙ ap (λ o. record (cell_of t n) { plain = unwrap_or o unknown }) (get_there (plain_of t) r.name
    (Some s) n ne)
