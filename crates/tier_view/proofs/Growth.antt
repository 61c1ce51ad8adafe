-- What was said of the tables stays said when they grow.
use Rattle.std.proofs.Common.{◌≡◌, ◌≤◌, ◌<◌, ◌⊎◌, inl, inr, ℕ, ◌+◌, ◌==◌, cond, Bool, true, false, List, [], ◌∷◌, ◌++◌, length, Option, Some, None, refl, sym, ap, subst, ◌∙◌, true≢false, arith}
use Rattle.agent_state.specs.declared.totals.Share.{Share}
use Rattle.obj_model.specs.declared.tier.Kind.{Kind}
use Rattle.tier_chron.specs.declared.answer.Answer.{Answer}
use Rattle.tier_chron.specs.declared.answer.Answer.TheVariants as answer
use Rattle.tier_chron.specs.declared.asked.Asked.{Asked}
use Rattle.tier_chron.specs.declared.asked.Asked.TheVariants.{Write, Read, Flush, Finish, Evict, Drain, Agent, Start}
use Rattle.tier_chron.specs.declared.entries.Logged.{Logged}
use Rattle.tier_protocol.specs.Tiers.{Name, IsIn}
use Rattle.tier_view.specs.Calls.{Calls, Entry, Flown, entry_of}
use Rattle.tier_view.specs.Grows.{Extends, Remains, Stays}
use Rattle.tier_view.specs.Whole.{AsksFor, BeganIn, HasCause, HaveCauses, IsFirstEpoch, StoodAt, WasBlocked, faults_told}
use Rattle.obj_model.specs.declared.change.Pool.{Pool}

-- ---- lists that extend others

-- an element has its heir
pub heir : {X : Type 0} (Same : X → X → Type 0) (More : List X → Type 0) (xs ys : List X) → Extends Same More xs ys
    → (x : X) → IsIn x xs → (y : X) × IsIn y ys × Same x y
heir Same More [] ys h x on = absurd on
heir Same More (z ∷ xs) [] h x on = absurd h
heir Same More (z ∷ xs) (y ∷ ys) h x (inl e) = (y, inl refl, subst (λ u. Same u y) (sym e) h.0)
heir Same More (z ∷ xs) (y ∷ ys) h x (inr on) = let k = heir Same More xs ys h.1 x on in (k.0, inr k.1, k.2)

-- ---- entries of calls

-- what is found stays
abbrev pub StaysFound : Option Entry → Option Entry → Type 0
StaysFound None new = Unit {0}
StaysFound (Some e) None = ⊥
StaysFound (Some e) (Some f) = Stays e f

pub entry_stays : (More : List Entry → Type 0) (old new : List Entry) → Extends Stays More old new → (n : ℕ) → StaysFound (entry_of old n) (entry_of new n)
entry_stays More [] new h n = tt
entry_stays More (e ∷ es) [] h n = absurd h
entry_stays More (e ∷ es) (f ∷ fs) h n = by (e.number == n) (f.number == n) (sym (ap (λ k. k == n) h.0.number)) (entry_of es n) (entry_of fs n) (entry_stays More es fs h.1 n)
  where
    by : (b c : Bool) → b ≡ c → (o p : Option Entry) → StaysFound o p → StaysFound (cond b (Some e) o) (cond c (Some f) p)
    by true true same o p k = h.0
    by true false same o p k = absurd (true≢false same)
    by false true same o p k = absurd (true≢false (sym same))
    by false false same o p k = k

pub asks_stays : (name : Name) (o p : Option Entry) → StaysFound o p → AsksFor name o → AsksFor name p
asks_stays name None p h k = absurd k
asks_stays name (Some e) None h k = absurd h
asks_stays name (Some e) (Some f) h k = subst (λ a. AsksFor name (Some (record f { asked = a }))) (sym h.asked) k

began_in_stays : (old new : List Entry) → ((b : Entry) → IsIn b old → (c : Entry) × IsIn c new × Stays b c) → (epoch : ℕ) (a : Asked) (was : ℕ) → BeganIn old epoch a was → BeganIn new epoch a was
began_in_stays old new heirs epoch (Finish name) was k =
    let c = heirs k.0 k.1 in
    (c.0, c.1, (k.2.0, c.2.asked ∙ k.2.1), c.2.epoch ∙ k.3)
began_in_stays old new heirs epoch (Write r) was k = k
began_in_stays old new heirs epoch (Read client name vector) was k = k
began_in_stays old new heirs epoch (Flush name blocking begin_only) was k = k
began_in_stays old new heirs epoch (Evict name) was k = k
began_in_stays old new heirs epoch Drain was k = k
began_in_stays old new heirs epoch Agent was k = k
began_in_stays old new heirs epoch Start was k = k

pub first_stays : (old new : List Entry) → ((b : Entry) → IsIn b old → (c : Entry) × IsIn c new × Stays b c) → (o p : Option Entry) → StaysFound o p → (was : ℕ)
    → IsFirstEpoch old o was → IsFirstEpoch new p was
first_stays old new heirs None p h was k = absurd k
first_stays old new heirs (Some e) None h was k = absurd h
first_stays old new heirs (Some e) (Some f) h was k =
    subst (λ a. BeganIn new f.epoch a was) (sym h.asked) (subst (λ n. BeganIn new n e.asked was) (sym h.epoch) (began_in_stays old new heirs e.epoch e.asked was k))

-- ---- causes

stood_stays : (before now i : ℕ) (f g : Flown) → i < before → Remains before now f g → StoodAt i f.came f.went → StoodAt i g.came g.went
stood_stays before now i f g less h stood = by f.went g.went h.went stood
  where
    by : (o p : Option ℕ) → (p ≡ o) ⊎ ((o ≡ None) × ((at : ℕ) × (p ≡ Some at) × (before ≤ at) × (at ≤ now))) → StoodAt i f.came o → StoodAt i g.came p
    by o p (inl same) k = subst (StoodAt i g.came) (sym same) (subst (λ c. StoodAt i c o) (sym h.came) k)
    by o p (inr gone) k =
        let came : f.came ≤ i = subst (StoodAt i f.came) gone.0 k in
        subst (StoodAt i g.came) (sym gone.1.1) (omega (arith, came, h.came), omega (arith, less, gone.1.2))

blocked_stays : (before now i : ℕ) (old new : Calls) (MoreCalls : List Entry → Type 0) (MoreWork : List Flown → Type 0)
    → Extends Stays MoreCalls old.entries new.entries → Extends (Remains before now) MoreWork old.flown new.flown → i < before
    → (l : Logged) (k : Kind) (op : ℕ) → WasBlocked i old l k op → WasBlocked i new l k op
blocked_stays before now i old new MoreCalls MoreWork calls work less l k op h =
    let g = heir (Remains before now) MoreWork old.flown new.flown work h.work h.on in
    record {
      work = g.0;
      on = g.1;
      kind = g.2.kind ∙ h.kind;
      opid = g.2.opid ∙ h.opid;
      name = subst (λ n. AsksFor n (entry_of new.entries l.call)) (sym g.2.name)
          (asks_stays h.work.name (entry_of old.entries l.call) (entry_of new.entries l.call) (entry_stays MoreCalls old.entries new.entries calls l.call) h.name);
      other = λ same. h.other (sym g.2.call ∙ same);
      stood = stood_stays before now i h.work g.0 less g.2 h.stood;
    }

module _ (before now : ℕ) (old new : Calls) (MoreCalls : List Entry → Type 0) (MoreWork : List Flown → Type 0) (calls : Extends Stays MoreCalls old.entries new.entries)
    (work : Extends (Remains before now) MoreWork old.flown new.flown) (share share' : Share) (same : share' ≡ share) (epoch epoch' : ℕ) (later : epoch ≤ epoch') where
  cause_stays : (i : ℕ) → i < before → (l : Logged) (x : Answer) → HasCause i old share epoch l x → HasCause i new share' epoch' l x
  cause_stays i less l (answer.Blocked k op) h = blocked_stays before now i old new MoreCalls MoreWork calls work less l k op h
  cause_stays i less l (answer.Full micro) h = subst (λ s. HasCause i new s epoch' l (answer.Full micro)) (sym same) h
  cause_stays i less l (answer.Restarted was at) h = (
    h.0,
    omega (arith, h.1, later),
    first_stays old.entries new.entries (heir Stays MoreCalls old.entries new.entries calls) (entry_of old.entries l.call) (entry_of new.entries l.call)
        (entry_stays MoreCalls old.entries new.entries calls l.call) was h.2,
  )
  cause_stays i less l x h = tt

  pub causes_stay : (i : ℕ) (ls : List Logged) → i + length ls ≤ before → HaveCauses i old share epoch ls → HaveCauses i new share' epoch' ls
  causes_stay i [] le h = tt
  causes_stay i (l ∷ ls) le h = (cause_stays i (omega (arith, le)) l l.answer h.0, causes_stay (i + 1) ls (omega (arith, le)) h.1)

pub causes_append : (i : ℕ) (calls : Calls) (share : Share) (epoch : ℕ) (ls ms : List Logged) → HaveCauses i calls share epoch ls → HaveCauses (i + length ls) calls share epoch ms
    → HaveCauses i calls share epoch (ls ++ ms)
causes_append i calls share epoch [] ms h k = subst (λ n. HaveCauses n calls share epoch ms) (omega arith) k
causes_append i calls share epoch (l ∷ ls) ms h k =
    (h.0, causes_append (i + 1) calls share epoch ls ms h.1 (subst (λ n. HaveCauses n calls share epoch ms) (omega arith) k))

-- ---- faults that were told

pub faults_append : (pool : Pool) (ls ms : List Logged) → faults_told pool (ls ++ ms) ≡ faults_told pool ls + faults_told pool ms
faults_append pool [] ms = omega arith
faults_append pool (l ∷ ls) ms = omega (arith, faults_append pool ls ms)

-- ---- the table of calls

not_false : (b : Bool) → (b ≡ true → false ≡ true) → b ≡ false
not_false true h = absurd (true≢false (sym (h refl)))
not_false false h = refl
