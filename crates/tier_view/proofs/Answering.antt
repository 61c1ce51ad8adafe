-- Quiet steps: each is a step, and behind a step it is a part of that.
use Rattle.std.proofs.Common.{◌≡◌, ◌≢◌, ◌≤◌, ◌<◌, ◌⊎◌, inl, inr, ℕ, ◌+◌, Bool, true, false, true≢false, List, [], ◌∷◌, ◌++◌, length, map, Option, Some, None, refl, sym, ap, subst, ◌∙◌, arith}
use Rattle.std.proofs.lemmas.List.{append-nil, append_assoc}
use Rattle.std.specs.List.{AllByRecursion}
use Rattle.obj_ops.specs.Stores.{Store}
use Rattle.tier_chron.specs.Logs.{Log}
use Rattle.tier_chron.specs.declared.asked.Asked.{Asked}
use Rattle.tier_chron.specs.declared.entries.Logged.{Logged}
use Rattle.tier_join.specs.Group.{BothTell}
use Rattle.tier_join.specs.Promises.{Promises}
use Rattle.tier_join.specs.Steps.{Rests, with_doubt}
use Rattle.tier_join.proofs.Rests.{first_rests, then_rests}
use Rattle.tier_view.specs.Answers.{IsLoggedAt, KeepsQuietly, LeavingIsQuiet, NoAnswer, NoMore, NoWork, Quiet, QuietIsStep, QuietLeadsStep, QuietsJoin, SameWork, StepsJoinQuiet, told}
use Rattle.tier_view.specs.Calls.{Entry, Flown, entry_of}
use Rattle.tier_view.specs.Grows.{AreEntered, AtMostOne, CallsGrow, Extends, Grows, HaveCome, IsComing, IsNew, IsNotOver, LogGrows, OneCommit, Remains, Stays, Wanted, WorkGrows, no_commit}
use Rattle.tier_view.specs.Standing.{Standing}
use Rattle.tier_view.specs.Stores.{Stores}
use Rattle.tier_view.specs.Views.{GroupView, joined}
use Rattle.tier_view.specs.Worlds.{Began}
use Rattle.std.specs.Option.{option_map}
use Rattle.tier_view.specs.Stores.{doubt_in}
use Rattle.tier_view.specs.Tables.{goes_without}
use Rattle.tier_view.proofs.Growth.{StaysFound, entry_stays}
use Rattle.tier_view.proofs.Keeping.{all_append}
use Rattle.tier_view.proofs.Resting.{extends_same, remains_itself, stays_itself}

-- ---- lists

extends_more : {X : Type 0} (Same : X → X → Type 0) (More Other : List X → Type 0) → ((xs : List X) → More xs → Other xs) → (xs ys : List X) → Extends Same More xs ys → Extends Same Other xs ys
extends_more Same More Other f [] ys h = f ys h
extends_more Same More Other f (x ∷ xs) [] h = absurd h
extends_more Same More Other f (x ∷ xs) (y ∷ ys) h = (h.0, extends_more Same More Other f xs ys h.1)

same_length : {X : Type 0} (Same : X → X → Type 0) (xs ys : List X) → Extends Same NoMore xs ys → length ys ≡ length xs
same_length Same [] ys h = ap length h
same_length Same (x ∷ xs) [] h = absurd h
same_length Same (x ∷ xs) (y ∷ ys) h = omega (arith, same_length Same xs ys h.1)

-- what extends a list, changed entry by entry
extends_then : {X : Type 0} (First Second Both : X → X → Type 0) (More Other : List X → Type 0) → ((x y z : X) → First x y → Second y z → Both x z)
    → ((ys zs : List X) → More ys → Extends Second NoMore ys zs → Other zs)
    → (xs ys zs : List X) → Extends First More xs ys → Extends Second NoMore ys zs → Extends Both Other xs zs
extends_then First Second Both More Other joins ends [] ys zs g h = ends ys zs g h
extends_then First Second Both More Other joins ends (x ∷ xs) [] zs g h = absurd g
extends_then First Second Both More Other joins ends (x ∷ xs) (y ∷ ys) [] g h = absurd h
extends_then First Second Both More Other joins ends (x ∷ xs) (y ∷ ys) (z ∷ zs) g h =
    (joins x y z g.0 h.0, extends_then First Second Both More Other joins ends xs ys zs g.1 h.1)

-- ---- entries

stays_then : (d e f : Entry) → Stays d e → Stays e f → Stays d f
stays_then d e f g h = record {
  number = h.number ∙ g.number;
  line = h.line ∙ g.line;
  asked = h.asked ∙ g.asked;
  epoch = h.epoch ∙ g.epoch;
  begin = h.begin ∙ g.begin;
  adopted = λ a. h.adopted (g.adopted a);
  ended = λ a. h.ended (g.ended a);
}

new_stays : (next now count : ℕ) (what : Option Wanted) (e f : Entry) → IsNew next now count what e → Stays e f → IsNew next now count what f
new_stays next now count what e f g h = record {
  number = h.number ∙ g.number;
  epoch = h.epoch ∙ g.epoch;
  begin = h.begin ∙ g.begin;
  wanted = g.wanted ∙ sym (ap {A = Option ℕ} {B = Option Wanted} (λ l. Some (record { line = l; asked = f.asked })) h.line ∙ ap {A = Asked} {B = Option Wanted} (λ a. Some (record { line = e.line; asked = a })) h.asked);
  lined = λ none. subst (λ a. goes_without a ≡ true) (sym h.asked) (g.lined (sym h.line ∙ none));
}

entered_stay : (next epoch begin last : ℕ) (what : Option Wanted) (es fs : List Entry) → AreEntered next epoch begin last what es → Extends Stays NoMore es fs → AreEntered next epoch begin last what fs
entered_stay next epoch begin last what [] fs g h = subst (AreEntered next epoch begin last what) (sym h) g
entered_stay next epoch begin last what (e ∷ []) [] g h = absurd h
entered_stay next epoch begin last what (e ∷ []) (f ∷ fs) g h = subst (λ more. AreEntered next epoch begin last what (f ∷ more)) (sym h.1) (g.0, new_stays next epoch begin what e f g.1 h.0)
entered_stay next epoch begin last what (e ∷ d ∷ es) fs g h = absurd g

-- ---- work

module _ (a b c : ℕ) (up : a ≤ b) (on : b ≤ c) where
  remains_then : (f g k : Flown) → Remains a b f g → Remains b c g k → Remains a c f k
  remains_then f g k i j = record {
    call = j.call ∙ i.call;
    kind = j.kind ∙ i.kind;
    name = j.name ∙ i.name;
    opid = j.opid ∙ i.opid;
    came = j.came ∙ i.came;
    went = by f.went g.went k.went i.went j.went;
  }
    where
      by : (o p q : Option ℕ) → (p ≡ o) ⊎ ((o ≡ None) × ((at : ℕ) × (p ≡ Some at) × (a ≤ at) × (at ≤ b)))
          → (q ≡ p) ⊎ ((p ≡ None) × ((at : ℕ) × (q ≡ Some at) × (b ≤ at) × (at ≤ c)))
          → (q ≡ o) ⊎ ((o ≡ None) × ((at : ℕ) × (q ≡ Some at) × (a ≤ at) × (at ≤ c)))
      by o p q (inl x) (inl y) = inl (y ∙ x)
      by o p q (inl x) (inr y) = inr (sym x ∙ y.0, (y.1.0, y.1.1, omega (arith, up, y.1.2), y.1.3))
      by o p q (inr x) (inl y) = inr (x.0, (x.1.0, y ∙ x.1.1, x.1.2, omega (arith, on, x.1.3)))
      by o p q (inr x) (inr y) = let no : Some x.1.0 ≡ None = sym x.1.1 ∙ y.0 in absurd (cc)

extends_imply : {X : Type 0} (Same Other : X → X → Type 0) (More Rest : List X → Type 0) → ((x y : X) → Same x y → Other x y) → ((ys : List X) → More ys → Rest ys)
    → (xs ys : List X) → Extends Same More xs ys → Extends Other Rest xs ys
extends_imply Same Other More Rest f g [] ys h = g ys h
extends_imply Same Other More Rest f g (x ∷ xs) [] h = absurd h
extends_imply Same Other More Rest f g (x ∷ xs) (y ∷ ys) h = (f x y h.0, extends_imply Same Other More Rest f g xs ys h.1)

no_length : {X : Type 0} (xs : List X) → length xs ≡ 0 → xs ≡ []
no_length [] e = refl
no_length (x ∷ xs) e = absurd (omega (arith, e))

-- where a list did not grow, nothing came
nothing_came : {X : Type 0} (Same : X → X → Type 0) (More : List X → Type 0) (xs ys : List X) → Extends Same More xs ys → length ys ≡ length xs → Extends Same (λ zs. (zs ≡ []) × More zs) xs ys
nothing_came Same More [] ys h e = (no_length ys e, h)
nothing_came Same More (x ∷ xs) [] h e = absurd h
nothing_came Same More (x ∷ xs) (y ∷ ys) h e = (h.0, nothing_came Same More xs ys h.1 (omega (arith, e)))

pub found_stays : (o p : Option Entry) → StaysFound o p → o ≢ None → p ≢ None
found_stays None p h known none = known refl
found_stays (Some e) None h known none = absurd h
found_stays (Some e) (Some f) h known none = absurd (cc)

module _ (before es fs : List Entry) (count : ℕ) (old v w : Standing) (epoch : w.cache_epoch ≡ v.cache_epoch) (opids : w.next_opid ≡ v.next_opid) (known : (n : ℕ) → entry_of es n ≢ None → entry_of fs n ≢ None) where
  come_stay : (gs : List Flown) → HaveCome before es count old v gs → HaveCome before fs count old w gs
  come_stay [] (inl h) = inl (epoch ∙ h.0, opids ∙ h.1)
  come_stay [] (inr h) = inr (λ same. h.0 (sym epoch ∙ same), opids ∙ h.1)
  come_stay (f ∷ []) h = (epoch ∙ h.0, opids ∙ h.1, record { opid = h.2.opid; came = h.2.came; stands = h.2.stands; known = known f.call h.2.known; going = h.2.going })
  come_stay (f ∷ g ∷ gs) h = absurd h

-- ---- the history

none_told : (xs ys : List Logged) → xs ++ ys ≡ xs → ys ≡ []
none_told [] ys e = e
none_told (x ∷ xs) ys e = none_told xs ys (cc)

one_told : (o : Option Logged) → AtMostOne (told o)
one_told None = tt
one_told (Some l) = tt

all_told : (acts : ℕ) (o : Option Logged) → IsLoggedAt acts o → AllByRecursion (λ l. l.end ≡ acts) (told o)
all_told acts None h = tt
all_told acts (Some l) h = (h, tt)

-- ---- the stores

stores_rest : (v w : GroupView) → w.stores ≡ v.stores → Rests (joined v) (joined w)
stores_rest v w same = record {
  cache = ap (λ s. s.cache.moments) same;
  base = ap (λ s. s.base.moments) same;
  doubt = ap (λ s. option_map doubt_in s.pending) same;
}

same_later : (a b : ℕ) → b ≡ a → a ≤ b
same_later a b e = omega (arith, e)

longer : (xs ys : List Logged) → length xs ≤ length (xs ++ ys)
longer [] ys = omega arith
longer (x ∷ xs) ys = omega (arith, longer xs ys)

-- a quiet step, but for the stores at which the group began
pub record Still (old new : GroupView) : Type 0 where
  pub pools : Promises (with_doubt (joined old).doubt) (joined old) (joined new)
  pub stores : new.stores ≡ old.stores
  pub opening : new.log.opening ≡ old.log.opening
  pub acts : new.log.acts ≡ old.log.acts
  pub answer : Option Logged
  pub is_answer : new.log.answers ≡ old.log.answers ++ told answer
  pub ends : IsLoggedAt (length new.log.acts) answer
  pub last : new.calls.last ≡ old.calls.last
  pub entries : Extends Stays NoMore old.calls.entries new.calls.entries
  pub flown : Extends (Remains (length old.log.answers) (length new.log.answers)) NoMore old.calls.flown new.calls.flown
  pub epoch : new.standing.cache_epoch ≡ old.standing.cache_epoch
  pub opids : new.standing.next_opid ≡ old.standing.next_opid
  pub share : new.agent.share ≡ old.agent.share
  pub values : new.agent.values ≡ old.agent.values

abbrev pub still_of_quiet : (v w : GroupView) → Quiet v w → Still v w
still_of_quiet v w q = record {
  pools = q.pools;
  stores = q.stores;
  opening = q.opening;
  acts = q.acts;
  answer = q.answer;
  is_answer = q.is_answer;
  ends = q.ends;
  last = q.last;
  entries = q.entries;
  flown = q.flown;
  epoch = q.epoch;
  opids = q.opids;
  share = q.share;
  values = q.values;
}

pub quiet_of_still : (v w : GroupView) → Still v w → ((start : Store) → BothTell (joined v) → Began start v → Began start w) → Quiet v w
quiet_of_still v w q began = record {
  pools = q.pools;
  began = began;
  stores = q.stores;
  opening = q.opening;
  acts = q.acts;
  answer = q.answer;
  is_answer = q.is_answer;
  ends = q.ends;
  last = q.last;
  entries = q.entries;
  flown = q.flown;
  epoch = q.epoch;
  opids = q.opids;
  share = q.share;
  values = q.values;
}

answers_later : (v w : GroupView) → Still v w → length v.log.answers ≤ length w.log.answers
answers_later v w q = subst (λ ls. length v.log.answers ≤ length ls) (sym q.is_answer) (longer v.log.answers (told q.answer))

-- ---- a quiet step is a step

abbrev quiet_log : (v w : GroupView) → Still v w → LogGrows v.log w.log
quiet_log v w q = record {
  opening = [];
  acts = [];
  answers = told q.answer;
  is_opening = q.opening ∙ sym (append-nil v.log.opening);
  is_acts = q.acts ∙ sym (append-nil v.log.acts);
  is_answers = q.is_answer;
  ends = all_told (length w.log.acts) q.answer q.ends;
}

pub still_calls : (v w : GroupView) → Still v w → CallsGrow w.standing.cache_epoch (length v.log.acts) None v.calls w.calls
still_calls v w q = extends_more Stays NoMore (AreEntered (v.calls.last + 1) w.standing.cache_epoch (length v.log.acts) w.calls.last None)
    (λ es none. subst (AreEntered (v.calls.last + 1) w.standing.cache_epoch (length v.log.acts) w.calls.last None) (sym none) (ap (λ n. n + 1) q.last)) v.calls.entries w.calls.entries q.entries

pub still_flown : (v w : GroupView) → Still v w → WorkGrows v w
still_flown v w q = extends_more (Remains (length v.log.answers) (length w.log.answers)) NoMore (HaveCome v.calls.entries w.calls.entries (length v.log.answers) v.standing w.standing)
    (λ fs none. subst (HaveCome v.calls.entries w.calls.entries (length v.log.answers) v.standing w.standing) (sym none) (inl (q.epoch, q.opids))) v.calls.flown w.calls.flown q.flown

quiet_grows : (v w : GroupView) → Quiet v w → Grows (with_doubt (joined v).doubt) None v w
quiet_grows v w q = let s = still_of_quiet v w q in record {
  pools = q.pools;
  began = q.began;
  log = quiet_log v w s;
  one_answer = one_told q.answer;
  calls = still_calls v w s;
  flown = still_flown v w s;
  commit = subst (OneCommit v.stores) (sym q.stores) (no_commit refl refl);
  epoch = same_later _ _ q.epoch;
  cache_faults = same_later _ _ (ap (λ s. s.cache.faults) q.stores);
  base_faults = same_later _ _ (ap (λ s. s.base.faults) q.stores);
  share = q.share;
  values = q.values;
}

pub quiet_is_step : QuietIsStep
quiet_is_step v w h = (h.0, quiet_grows v w h.1)

-- ---- two steps in one

module _ (other : Store → Store) (wanted : Option Wanted) (u v w : GroupView) (g : Grows other wanted u v) (q : Quiet v w) (one : NoAnswer u v ⊎ NoAnswer v w) (work : NoWork u v ⊎ SameWork v w) where
  earlier : length u.log.answers ≤ length v.log.answers
  earlier = subst (λ ls. length u.log.answers ≤ length ls) (sym g.log.is_answers) (longer u.log.answers g.log.answers)

  abbrev both_log : LogGrows u.log w.log
  both_log = record {
    opening = g.log.opening;
    acts = g.log.acts;
    answers = g.log.answers ++ told q.answer;
    is_opening = q.opening ∙ g.log.is_opening;
    is_acts = q.acts ∙ g.log.is_acts;
    is_answers = q.is_answer ∙ ap (λ ls. ls ++ told q.answer) g.log.is_answers ∙ append_assoc u.log.answers g.log.answers (told q.answer);
    ends = all_append (λ l. l.end ≡ length w.log.acts) g.log.answers (told q.answer)
        (subst (λ n. AllByRecursion (λ l. l.end ≡ n) g.log.answers) (sym (ap length q.acts)) g.log.ends) (all_told (length w.log.acts) q.answer q.ends);
  }

  once : NoAnswer u v ⊎ NoAnswer v w → AtMostOne (g.log.answers ++ told q.answer)
  once (inl none) = subst (λ ls. AtMostOne (ls ++ told q.answer)) (sym (none_told u.log.answers g.log.answers (sym g.log.is_answers ∙ none))) (one_told q.answer)
  once (inr none) = subst AtMostOne (sym (ap (λ ls. g.log.answers ++ ls) (none_told v.log.answers (told q.answer) (sym q.is_answer ∙ none)) ∙ append-nil g.log.answers)) g.one_answer

  both_calls : CallsGrow w.standing.cache_epoch (length u.log.acts) wanted u.calls w.calls
  both_calls =
      subst (λ n. Extends Stays (AreEntered (u.calls.last + 1) w.standing.cache_epoch (length u.log.acts) n wanted) u.calls.entries w.calls.entries) (sym q.last)
      (subst (λ n. Extends Stays (AreEntered (u.calls.last + 1) n (length u.log.acts) v.calls.last wanted) u.calls.entries w.calls.entries) (sym q.epoch)
      (extends_then Stays Stays Stays (AreEntered (u.calls.last + 1) v.standing.cache_epoch (length u.log.acts) v.calls.last wanted) (AreEntered (u.calls.last + 1) v.standing.cache_epoch (length u.log.acts) v.calls.last wanted)
      stays_then (entered_stay (u.calls.last + 1) v.standing.cache_epoch (length u.log.acts) v.calls.last wanted) u.calls.entries v.calls.entries w.calls.entries g.calls q.entries))

  still_known : (n : ℕ) → entry_of v.calls.entries n ≢ None → entry_of w.calls.entries n ≢ None
  still_known n = found_stays (entry_of v.calls.entries n) (entry_of w.calls.entries n) (entry_stays NoMore v.calls.entries w.calls.entries q.entries n)

  abbrev First : Flown → Flown → Type 0
  First = Remains (length u.log.answers) (length v.log.answers)

  abbrev Second : Flown → Flown → Type 0
  Second = Remains (length v.log.answers) (length w.log.answers)

  abbrev Both : Flown → Flown → Type 0
  Both = Remains (length u.log.answers) (length w.log.answers)

  abbrev Come : List Flown → Type 0
  Come = HaveCome u.calls.entries v.calls.entries (length u.log.answers) u.standing v.standing

  abbrev Came : List Flown → Type 0
  Came = HaveCome u.calls.entries w.calls.entries (length u.log.answers) u.standing w.standing

  came : (fs : List Flown) → Come fs → Came fs
  came = come_stay u.calls.entries v.calls.entries w.calls.entries (length u.log.answers) u.standing v.standing w.standing q.epoch q.opids still_known

  both_remain : (f h k : Flown) → First f h → Second h k → Both f k
  both_remain = remains_then (length u.log.answers) (length v.log.answers) (length w.log.answers) earlier (answers_later v w (still_of_quiet v w q))

  nothing_more : (ys zs : List Flown) → (ys ≡ []) × Come ys → Extends Second NoMore ys zs → Came zs
  nothing_more [] zs h k = subst Came (sym k) (came [] h.1)
  nothing_more (y ∷ ys) zs h k = absurd (omega (arith, ap length h.0))

  both_flown : NoWork u v ⊎ SameWork v w → WorkGrows u w
  both_flown (inl none) = extends_then First Second Both (λ zs. (zs ≡ []) × Come zs) Came both_remain nothing_more u.calls.flown v.calls.flown w.calls.flown
      (nothing_came First Come u.calls.flown v.calls.flown g.flown none) q.flown
  both_flown (inr same) = subst (Extends Both Came u.calls.flown) (sym same)
      (extends_imply First Both Come Came (λ f h k. both_remain f h h k (remains_itself (length v.log.answers) (length w.log.answers) h)) came u.calls.flown v.calls.flown g.flown)

  joined_step : Grows other wanted u w
  joined_step = record {
    pools = then_rests other (with_doubt (joined v).doubt) (joined u) (joined v) (joined w) g.pools (stores_rest v w q.stores) q.pools (ap (map (λ a. a.req)) q.acts);
    began = λ start told b. q.began start (g.pools.tell told) (g.began start told b);
    log = both_log;
    one_answer = once one;
    calls = both_calls;
    flown = both_flown work;
    commit = subst (OneCommit u.stores) (sym q.stores) g.commit;
    epoch = subst (λ n. u.standing.cache_epoch ≤ n) (sym q.epoch) g.epoch;
    cache_faults = subst (λ s. u.stores.cache.faults ≤ s.cache.faults) (sym q.stores) g.cache_faults;
    base_faults = subst (λ s. u.stores.base.faults ≤ s.base.faults) (sym q.stores) g.base_faults;
    share = q.share ∙ g.share;
    values = q.values ∙ g.values;
  }

pub steps_join_quiet : StepsJoinQuiet
steps_join_quiet = joined_step

-- ---- two quiet steps in one

more_nothing : {X : Type 0} (Same : X → X → Type 0) (ys zs : List X) → NoMore ys → Extends Same NoMore ys zs → NoMore zs
more_nothing Same [] zs h k = k
more_nothing Same (y ∷ ys) zs h k = absurd (omega (arith, ap length h))

module _ (u v w : GroupView) (p : Still u v) (q : Still v w) where
  still_at : (o : Option Logged) → w.log.answers ≡ u.log.answers ++ told o → IsLoggedAt (length w.log.acts) o → Still u w
  still_at o is ends = record {
    pools = then_rests (with_doubt (joined u).doubt) (with_doubt (joined v).doubt) (joined u) (joined v) (joined w) p.pools (stores_rest v w q.stores) q.pools (ap (map (λ a. a.req)) q.acts);
    stores = q.stores ∙ p.stores;
    opening = q.opening ∙ p.opening;
    acts = q.acts ∙ p.acts;
    answer = o;
    is_answer = is;
    ends = ends;
    last = q.last ∙ p.last;
    entries = extends_then Stays Stays Stays NoMore NoMore stays_then (more_nothing Stays) u.calls.entries v.calls.entries w.calls.entries p.entries q.entries;
    flown = extends_then (Remains (length u.log.answers) (length v.log.answers)) (Remains (length v.log.answers) (length w.log.answers)) (Remains (length u.log.answers) (length w.log.answers)) NoMore NoMore
        (remains_then (length u.log.answers) (length v.log.answers) (length w.log.answers) (answers_later u v p) (answers_later v w q)) (more_nothing (Remains (length v.log.answers) (length w.log.answers)))
        u.calls.flown v.calls.flown w.calls.flown p.flown q.flown;
    epoch = q.epoch ∙ p.epoch;
    opids = q.opids ∙ p.opids;
    share = q.share ∙ p.share;
    values = q.values ∙ p.values;
  }

  pub still_both : NoAnswer u v ⊎ NoAnswer v w → Still u w
  still_both (inl none) = still_at q.answer (q.is_answer ∙ ap (λ ls. ls ++ told q.answer) none) q.ends
  still_both (inr none) = still_at p.answer (none ∙ p.is_answer) (subst (λ n. IsLoggedAt n p.answer) (sym (ap length q.acts)) p.ends)

pub quiets_join : QuietsJoin
quiets_join u v w p q one =
    quiet_of_still u w (still_both u v w (still_of_quiet u v p) (still_of_quiet v w q) one) (λ start tell b. q.began start (p.pools.tell tell) (p.began start tell b))

-- ---- a quiet step, and then a step

extends_lead : {X : Type 0} (First Second Both : X → X → Type 0) (More Other : List X → Type 0) → ((x y z : X) → First x y → Second y z → Both x z) → ((zs : List X) → More zs → Other zs)
    → (xs ys zs : List X) → Extends First NoMore xs ys → Extends Second More ys zs → Extends Both Other xs zs
extends_lead First Second Both More Other joins ends [] ys zs g h = ends zs (subst (λ us. Extends Second More us zs) g h)
extends_lead First Second Both More Other joins ends (x ∷ xs) [] zs g h = absurd g
extends_lead First Second Both More Other joins ends (x ∷ xs) (y ∷ ys) [] g h = absurd h
extends_lead First Second Both More Other joins ends (x ∷ xs) (y ∷ ys) (z ∷ zs) g h =
    (joins x y z g.0 h.0, extends_lead First Second Both More Other joins ends xs ys zs g.1 h.1)

not_over_before : (o p : Option Entry) → StaysFound o p → IsNotOver p → IsNotOver o
not_over_before None p h k = tt
not_over_before (Some e) None h k = absurd h
not_over_before (Some e) (Some f) h k = by e.ended refl
  where
    by : (b : Bool) → e.ended ≡ b → e.ended ≡ false
    by true is = absurd (true≢false (sym (h.ended is) ∙ k))
    by false is = is

module _ (other : Store → Store) (wanted : Option Wanted) (u v w : GroupView) (q : Quiet u v) (g : Grows other wanted v w) (none : NoAnswer u v) where
  same_count : length v.log.answers ≡ length u.log.answers
  same_count = ap length none

  led_come : (gs : List Flown) → HaveCome v.calls.entries w.calls.entries (length v.log.answers) v.standing w.standing gs → HaveCome u.calls.entries w.calls.entries (length u.log.answers) u.standing w.standing gs
  led_come [] (inl h) = inl (h.0 ∙ q.epoch, h.1 ∙ q.opids)
  led_come [] (inr h) = inr (λ same. h.0 (same ∙ sym q.epoch), h.1)
  led_come (f ∷ []) h = (
    h.0 ∙ q.epoch,
    h.1 ∙ ap (λ n. n + 1) q.opids,
    record {
      opid = h.2.opid ∙ q.opids;
      came = h.2.came ∙ same_count;
      stands = h.2.stands;
      known = h.2.known;
      going = not_over_before (entry_of u.calls.entries f.call) (entry_of v.calls.entries f.call) (entry_stays NoMore u.calls.entries v.calls.entries q.entries f.call) h.2.going;
    },
  )
  led_come (f ∷ k ∷ gs) h = absurd h

  led_entered : (es : List Entry) → AreEntered (v.calls.last + 1) w.standing.cache_epoch (length v.log.acts) w.calls.last wanted es → AreEntered (u.calls.last + 1) w.standing.cache_epoch (length u.log.acts) w.calls.last wanted es
  led_entered es h =
      subst (λ n. AreEntered (n + 1) w.standing.cache_epoch (length u.log.acts) w.calls.last wanted es) q.last
      (subst (λ acts. AreEntered (v.calls.last + 1) w.standing.cache_epoch (length acts) w.calls.last wanted es) q.acts h)

  led_step : Grows other wanted u w
  led_step = record {
    pools = first_rests other (with_doubt (joined u).doubt) (joined u) (joined v) (joined w) (ap (map (λ a. a.req)) q.acts) (stores_rest u v q.stores) q.pools g.pools;
    began = λ start told b. g.began start (q.pools.tell told) (q.began start told b);
    log = record {
      opening = g.log.opening;
      acts = g.log.acts;
      answers = g.log.answers;
      is_opening = g.log.is_opening ∙ ap (λ xs. xs ++ g.log.opening) q.opening;
      is_acts = g.log.is_acts ∙ ap (λ xs. xs ++ g.log.acts) q.acts;
      is_answers = g.log.is_answers ∙ ap (λ xs. xs ++ g.log.answers) none;
      ends = g.log.ends;
    };
    one_answer = g.one_answer;
    calls = extends_lead Stays Stays Stays (AreEntered (v.calls.last + 1) w.standing.cache_epoch (length v.log.acts) w.calls.last wanted)
        (AreEntered (u.calls.last + 1) w.standing.cache_epoch (length u.log.acts) w.calls.last wanted) stays_then led_entered u.calls.entries v.calls.entries w.calls.entries q.entries g.calls;
    flown = extends_lead (Remains (length u.log.answers) (length v.log.answers)) (Remains (length v.log.answers) (length w.log.answers)) (Remains (length u.log.answers) (length w.log.answers))
        (HaveCome v.calls.entries w.calls.entries (length v.log.answers) v.standing w.standing) (HaveCome u.calls.entries w.calls.entries (length u.log.answers) u.standing w.standing)
        (remains_then (length u.log.answers) (length v.log.answers) (length w.log.answers) (answers_later u v (still_of_quiet u v q)) behind)
        led_come u.calls.flown v.calls.flown w.calls.flown q.flown g.flown;
    commit = subst (λ s. OneCommit s w.stores) q.stores g.commit;
    epoch = subst (λ n. n ≤ w.standing.cache_epoch) q.epoch g.epoch;
    cache_faults = subst (λ s. s.cache.faults ≤ w.stores.cache.faults) q.stores g.cache_faults;
    base_faults = subst (λ s. s.base.faults ≤ w.stores.base.faults) q.stores g.base_faults;
    share = g.share ∙ q.share;
    values = g.values ∙ q.values;
  }
    where
      behind : length v.log.answers ≤ length w.log.answers
      behind = subst (λ ls. length v.log.answers ≤ length ls) (sym g.log.is_answers) (longer v.log.answers g.log.answers)

pub quiet_leads_step : QuietLeadsStep
quiet_leads_step = led_step

-- ---- a step that leaves stores, history and calls

pub leaving_is_quiet : LeavingIsQuiet
leaving_is_quiet v w h l = (
  h.0,
  record {
    pools = h.1.pools;
    began = h.1.began;
    stores = l.stores;
    opening = ap (λ g. g.opening) l.log;
    acts = ap (λ g. g.acts) l.log;
    answer = None;
    is_answer = ap (λ g. g.answers) l.log ∙ sym (append-nil v.log.answers);
    ends = tt;
    last = ap (λ c. c.last) l.calls;
    entries = subst (λ c. Extends Stays NoMore v.calls.entries c.entries) (sym l.calls) (extends_same Stays NoMore stays_itself v.calls.entries refl);
    flown = subst (λ c. Extends (Remains (length v.log.answers) (length w.log.answers)) NoMore v.calls.flown c.flown) (sym l.calls)
        (extends_same (Remains (length v.log.answers) (length w.log.answers)) NoMore (remains_itself (length v.log.answers) (length w.log.answers)) v.calls.flown refl);
    epoch = l.epoch;
    opids = l.opids;
    share = h.1.share;
    values = h.1.values;
  },
)
