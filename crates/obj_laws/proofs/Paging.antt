-- Pages of an omap, put together.
use Rattle.std.proofs.Common.{◌≡◌, ◌<◌, ◌≤◌, ℕ, ◌+◌, ◌*◌, suc, Bool, true, false, List, [], ◌∷◌, ◌++◌, length, map, take, drop, Option, Some, None, Ok, nat_lt, Result, zero, zero-mul, refl, sym, ap, subst, ◌∙◌, arith}
use Rattle.std.specs.Prelude.{T, ◌&&◌, filter}
use Rattle.std.specs.FinMap as fin
use Rattle.std.specs.FinMap.{entries_sorted}
use Rattle.std.specs.List.{AllByRecursion}
use Rattle.std.specs.List.Sorted.{IsStrictlySortedBy}
use Rattle.std.specs.Ordering.{is_lt, ordering_reverse}
use Rattle.std.specs.declared.cmp.Ordering.{Ordering}
use Rattle.std.specs.declared.cmp.Ordering.TheVariants.{Less, Equal, Greater}
use Rattle.std.proofs.lemmas.Cmp.{nat_list_cmp_total, tied_itself}
use Rattle.std.proofs.lemmas.List.{append-nil, length-take, length-drop, length-append, take-append-drop, take-map, take_all, nil_from_length}
use Rattle.std.proofs.lemmas.Bool.{ltb-true, ltb-false}
use Rattle.std.proofs.Math.Seq.{take-add}
use Rattle.std.proofs.Math.Nat.{suc-mul}
use Rattle.obj_model.specs.Names.{name_cmp}
use Rattle.obj_model.specs.Tables.{Table, entries_above, is_above}
use Rattle.obj_model.specs.declared.out.Pair.{Pair}
use Rattle.obj_model.specs.declared.out.Out.TheVariants.{Pairs}
use Rattle.obj_model.specs.declared.reply.Why.{Why}
use Rattle.obj_model.specs.declared.state.Obj.{Obj}
use Rattle.obj_model.proofs.Rising as rising
use Rattle.obj_model.proofs.Rising.{above_more, not_back, not_itself, rise_of}
use Rattle.obj_ops.specs.Effects.{empty_obj, page, pair_of}
use Rattle.obj_ops.specs.Ops.{Step}
use Rattle.obj_laws.specs.Pages.{AreInTurn, EndShort, FullPagesAreFew, IsPage, KeysRise, PagesTellAll, PagesTellEachOnce, Reading, ReadingEnds, ShortPageIsLast, all_told, last_key, pairs_above}

abbrev Entry : Type 0
Entry = List ℕ × List ℕ

-- the keys of these entries are above a key
abbrev Over : List ℕ → List Entry → Type 0
Over k es = AllByRecursion (λ q. name_cmp k q ≡ Less) (map (λ e. e.0) es)

-- the keys of these entries rise
abbrev Rise : List Entry → Type 0
Rise es = rising.Rise (map (λ e. e.0) es)

rise_entries : (t : Table) → Rise (fin.entries t)
rise_entries t = rise_of (fin.entries t) (entries_sorted t)

abbrev kept : Option (List ℕ) → List Entry → List Entry
kept after es = filter (λ e. is_above after e.0) es

-- where a key is above, all keys over it are
all_kept : (after : Option (List ℕ)) (k : List ℕ) (es : List Entry) → is_above after k ≡ true → Over k es → kept after es ≡ es
all_kept after k [] h over = refl
all_kept after k (e ∷ es) h over = rw (above_more after k e.0 h over.0) (ap (λ l. e ∷ l) (all_kept after k es h over.1))

all_over : (k : List ℕ) (es : List Entry) → Over k es → kept (Some k) es ≡ es
all_over k [] over = refl
all_over k (e ∷ es) over = rw over.0 (ap (λ l. e ∷ l) (all_over k es over.1))

by_test : (P : List Entry → Type 0) (after : Option (List ℕ)) (e : Entry) (es : List Entry) (b : Bool) → is_above after e.0 ≡ b
    → (is_above after e.0 ≡ true → P (e ∷ kept after es)) → (is_above after e.0 ≡ false → P (kept after es)) → P (kept after (e ∷ es))
by_test P after e es true h in_it out = rw h (in_it h)
by_test P after e es false h in_it out = rw h (out h)

kept_over : (after : Option (List ℕ)) (k : List ℕ) (es : List Entry) → Over k es → Over k (kept after es)
kept_over after k [] over = tt
kept_over after k (e ∷ es) over =
    by_test (Over k) after e es (is_above after e.0) refl (λ h. (over.0, kept_over after k es over.1)) (λ h. kept_over after k es over.1)

head_over : (k : List ℕ) (e : Entry) (es fs : List Entry) → fs ≡ e ∷ es → Over k fs → name_cmp k e.0 ≡ Less
head_over k e es fs h over = let all : Over k (e ∷ es) = subst (Over k) h over in all.0

-- what is above the first of those that are above is the rest of them
above_first : (after : Option (List ℕ)) (es : List Entry) (e : Entry) (rest : List Entry) → Rise es → kept after es ≡ e ∷ rest → kept (Some e.0) es ≡ rest
above_first after [] e rest rise = λ h. absurd (cc)
above_first after (x ∷ xs) e rest rise =
    by_test (λ l. l ≡ e ∷ rest → kept (Some e.0) (x ∷ xs) ≡ rest) after x xs (is_above after x.0) refl
    (λ g here.
    let same : x ≡ e = cc in
    let left : kept after xs ≡ rest = cc in
    subst (λ (y : Entry). kept (Some y.0) (x ∷ xs) ≡ rest) same
    (rw (not_itself x.0) (all_over x.0 xs rise.0 ∙ sym (all_kept after x.0 xs g rise.0) ∙ left)))
    (λ g there.
    let low : name_cmp x.0 e.0 ≡ Less = head_over x.0 e rest (kept after xs) there (kept_over after x.0 xs rise.0) in
    rw (not_back x.0 e.0 low) (above_first after xs e rest rise.1 there))

-- what is above the last key of so many of these entries is the rest of them
abbrev Leaves : Table → ℕ → Option (List ℕ) → List Entry → Type 0
Leaves t n after es = pairs_above (last_key after (take n (map pair_of es))) t ≡ drop n (map pair_of es)

behind_by : (n : ℕ) (after : Option (List ℕ)) (t : Table) → ((k : List ℕ) → Leaves t n (Some k) (entries_above (Some k) t))
    → (es : List Entry) → entries_above after t ≡ es → Leaves t (suc n) after (entries_above after t)
behind_by n after t rest [] h = subst (Leaves t (suc n) after) (sym h) (ap (map pair_of) h)
behind_by n after t rest (e ∷ es) h =
    let next : entries_above (Some e.0) t ≡ es = above_first after (fin.entries t) e es (rise_entries t) h in
    subst (Leaves t (suc n) after) (sym h) (subst (Leaves t n (Some e.0)) next (rest e.0))

-- what is above the last key of a page is what the page left
behind : (max : ℕ) (after : Option (List ℕ)) (t : Table) → pairs_above (last_key after (take max (pairs_above after t))) t ≡ drop max (pairs_above after t)
behind zero after t = refl
behind (suc n) after t = behind_by n after t (λ k. behind n (Some k) t) (entries_above after t) refl

same_pairs : (o : Option Obj) (ps qs : List Pair) → ◌≡◌ {A = Result Step Why} (Ok (record { obj = o; out = Pairs ps })) (Ok (record { obj = o; out = Pairs qs })) → ps ≡ qs
same_pairs o ps qs h =
    let same : ◌≡◌ {A = Step} (record { obj = o; out = Pairs ps }) (record { obj = o; out = Pairs qs }) = cc in
    let out : Pairs ps ≡ Pairs qs = ap (λ (s : Step). s.out) same in
    cc

-- a page that is told is the first of what is above its key
page_is : (t : Table) (max : ℕ) (after : Option (List ℕ)) (p : List Pair) → IsPage t max after p → p ≡ take max (pairs_above after t)
page_is t max after p h =
    sym (same_pairs (Some h.obj) (page after max h.obj.omap) p h.told) ∙ ap (page after max) h.its

there : (t : Table) (max : ℕ) (after : Option (List ℕ)) → IsPage t max after (take max (pairs_above after t))
there t max after = record { obj = record empty_obj { omap = t }; ver = 0; its = refl; told = refl }

-- what the pages behind a page are told of
left_behind : (t : Table) (max : ℕ) (after : Option (List ℕ)) (p : List Pair) → IsPage t max after p → pairs_above (last_key after p) t ≡ drop max (pairs_above after t)
left_behind t max after p h = subst (λ q. pairs_above (last_key after q) t ≡ drop max (pairs_above after t)) (sym (page_is t max after p h)) (behind max after t)

one_more : (n max : ℕ) → max + n * max ≡ suc n * max
one_more n max = omega (arith, suc-mul n max)

-- so many pages tell so many entries
pub tell_each_once : (t : Table) (max : ℕ) → PagesTellEachOnce t max
tell_each_once t max after [] turn = sym (ap (λ n. take n (pairs_above after t)) (zero-mul max))
tell_each_once t max after (p ∷ ps) turn =
    let all = pairs_above after t in
    let here : p ≡ take max all = page_is t max after p turn.0 in
    let rest : all_told ps ≡ take (length ps * max) (drop max all) = tell_each_once t max (last_key after p) ps turn.1 ∙ ap (take (length ps * max)) (left_behind t max after p turn.0) in
    ap (λ q. q ++ all_told ps) here ∙ ap (λ q. take max all ++ q) rest ∙ sym (take-add max (length ps * max) all) ∙ ap (λ k. take k all) (one_more (length ps) max)

take_over : (k : List ℕ) (n : ℕ) (es : List Entry) → Over k es → Over k (take n es)
take_over k zero es over = tt
take_over k (suc n) [] over = tt
take_over k (suc n) (e ∷ es) over = (over.0, take_over k n es over.1)

take_rise : (n : ℕ) (es : List Entry) → Rise es → Rise (take n es)
take_rise zero es rise = tt
take_rise (suc n) [] rise = tt
take_rise (suc n) (e ∷ es) rise = (take_over e.0 n es rise.0, take_rise n es rise.1)

kept_rise : (after : Option (List ℕ)) (es : List Entry) → Rise es → Rise (kept after es)
kept_rise after [] rise = tt
kept_rise after (e ∷ es) rise =
    by_test Rise after e es (is_above after e.0) refl (λ h. (kept_over after e.0 es rise.0, kept_rise after es rise.1)) (λ h. kept_rise after es rise.1)

over_pairs : (k : List ℕ) (es : List Entry) → Over k es → AllByRecursion (λ q. name_cmp k q ≡ Less) (map (λ p. p.key) (map pair_of es))
over_pairs k [] over = tt
over_pairs k (e ∷ es) over = (over.0, over_pairs k es over.1)

rise_pairs : (es : List Entry) → Rise es → IsStrictlySortedBy name_cmp (map (λ p. p.key) (map pair_of es))
unfolding IsStrictlySortedBy
rise_pairs [] rise = tt
rise_pairs (e ∷ es) rise = (over_pairs e.0 es rise.0, rise_pairs es rise.1)

-- over all pages the keys rise
pub keys_rise : (t : Table) (max : ℕ) → KeysRise t max
keys_rise t max after pages turn =
    let n = length pages * max in
    let es = entries_above after t in
    let told : all_told pages ≡ map pair_of (take n es) = tell_each_once t max after pages turn ∙ take-map pair_of n es in
    subst (λ (l : List Pair). IsStrictlySortedBy name_cmp (map (λ p. p.key) l)) (sym told)
    (rise_pairs (take n es) (take_rise n es (kept_rise after (fin.entries t) (rise_entries t))))

-- a page that is not full leaves nothing
nothing_left : (max : ℕ) (all : List Pair) → length (take max all) < max → (take max all ≡ all) × ((n : ℕ) → take n (drop max all) ≡ [])
nothing_left max all short =
    let cut = length-take max all in
    let few : length all ≤ max = omega (arith, cut, short) in
    (take_all max all few, λ n. nil_from_length _ (let a = length-take n (drop max all) in let b = length-drop max all in omega (arith, a, b, few)))

-- a short page is the last
pub short_is_last : (t : Table) (max : ℕ) → ShortPageIsLast t max
short_is_last t max after p h short =
    let all = pairs_above after t in
    let here : p ≡ take max all = page_is t max after p h in
    let none = nothing_left max all (subst (λ (q : List Pair). length q < max) here short) in
    (here ∙ none.0, λ pages turn. tell_each_once t max (last_key after p) pages turn ∙ ap (take (length pages * max)) (left_behind t max after p h) ∙ none.1 (length pages * max))

all_pass : (es : List Entry) → kept None es ≡ es
all_pass [] = refl
all_pass (e ∷ es) = ap (λ l. e ∷ l) (all_pass es)

all_by : (t : Table) (max : ℕ) (after : Option (List ℕ)) (pages : List (List Pair)) → AreInTurn t max after pages → EndShort max pages → all_told pages ≡ pairs_above after t
all_by t max after [] turn end = absurd end
all_by t max after (p ∷ []) turn end = append-nil p ∙ (short_is_last t max after p turn.0 end).0
all_by t max after (p ∷ q ∷ ps) turn end =
    let all = pairs_above after t in
    let rest : all_told (q ∷ ps) ≡ drop max all = all_by t max (last_key after p) (q ∷ ps) turn.1 end ∙ left_behind t max after p turn.0 in
    ap (λ l. l ++ all_told (q ∷ ps)) (page_is t max after p turn.0) ∙ ap (λ l. take max all ++ l) rest ∙ take-append-drop max all

-- pages up to a short one tell all
pub tell_all : (t : Table) (max : ℕ) → PagesTellAll t max
tell_all t max = (all_by t max, ap (map pair_of) (all_pass (fin.entries t)))

full_length : (max : ℕ) (pages : List (List Pair)) → AllByRecursion (λ p. length p ≡ max) pages → length (all_told pages) ≡ length pages * max
full_length max [] full = sym (zero-mul max)
full_length max (p ∷ ps) full = length-append p (all_told ps) ∙ ap (λ n. n + length (all_told ps)) full.0 ∙ ap (λ n. max + n) (full_length max ps full.1) ∙ one_more (length ps) max

-- full pages are few
pub full_are_few : (t : Table) (max : ℕ) → FullPagesAreFew t max
full_are_few t max after pages turn full =
    let all = pairs_above after t in
    let long = full_length max pages full in
    let told = ap (λ l. length l) (tell_each_once t max after pages turn) in
    let cut = length-take (length pages * max) all in
    omega (arith, long, told, cut)

ends_behind : (max : ℕ) (p : List Pair) (pages : List (List Pair)) → EndShort max pages → EndShort max (p ∷ pages)
ends_behind max p [] end = absurd end
ends_behind max p (q ∷ ps) end = end

alone : (t : Table) (max : ℕ) (after : Option (List ℕ)) → length (pairs_above after t) < max → Reading t max after
alone t max after few =
    let cut = length-take max (pairs_above after t) in
    record {
      pages = take max (pairs_above after t) ∷ [];
      in_turn = (there t max after, tt);
      short = omega (arith, cut, few);
      enough = omega (arith, few);
      few = omega (arith, few);
    }

read_on : (t : Table) (max : ℕ) (after : Option (List ℕ)) → max ≤ length (pairs_above after t) → Reading t max (last_key after (take max (pairs_above after t))) → Reading t max after
read_on t max after full rest =
    let all = pairs_above after t in
    let p = take max all in
    let left = ap (λ l. length l) (behind max after t) in
    let cut = length-drop max all in
    let more = one_more (length rest.pages) max in
    let enough = rest.enough in
    let few = rest.few in
    record {
      pages = p ∷ rest.pages;
      in_turn = (there t max after, rest.in_turn);
      short = ends_behind max p rest.pages rest.short;
      enough = omega (arith, left, cut, more, full, enough);
      few = omega (arith, left, cut, more, full, few);
    }

-- where a page is full, the pages behind it have less to tell
fewer : (t : Table) (max fuel : ℕ) (after : Option (List ℕ)) → 1 ≤ max → length (pairs_above after t) ≤ suc fuel → max ≤ length (pairs_above after t)
    → length (pairs_above (last_key after (take max (pairs_above after t))) t) ≤ fuel
fewer t max fuel after some le full =
    let left = ap (λ l. length l) (behind max after t) in
    let cut = length-drop max (pairs_above after t) in
    omega (arith, some, le, full, left, cut)

by_length : (t : Table) (max : ℕ) (after : Option (List ℕ)) (b : Bool) → nat_lt (length (pairs_above after t)) max ≡ b
    → (max ≤ length (pairs_above after t) → Reading t max (last_key after (take max (pairs_above after t)))) → Reading t max after
by_length t max after true h rest = alone t max after (ltb-true (length (pairs_above after t)) max h)
by_length t max after false h rest = let full : max ≤ length (pairs_above after t) = ltb-false (length (pairs_above after t)) max h in read_on t max after full (rest full)

reading : (fuel : ℕ) (t : Table) (max : ℕ) (after : Option (List ℕ)) → 1 ≤ max → length (pairs_above after t) ≤ fuel → Reading t max after
reading zero t max after some le = alone t max after (omega (arith, some, le))
reading (suc fuel) t max after some le =
    by_length t max after (nat_lt (length (pairs_above after t)) max) refl
    (λ full. reading fuel t max (last_key after (take max (pairs_above after t))) some (fewer t max fuel after some le full))

-- reading ends
pub ends : (t : Table) (max : ℕ) → ReadingEnds t max
ends t max after some = reading (length (pairs_above after t)) t max after some (omega arith)
