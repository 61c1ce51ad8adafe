-- An index gives the name that a pass over the rows picks.
use Rattle.std.proofs.Common.{◌≡◌, ◌∙◌, sym, ap, ap₂, refl, ℕ, Bool, true, false, cond, List, [], ◌∷◌, Option, Some, None, not, ◌&&◌, ◌||◌, map, filter, true≢false}
use Rattle.std.specs.Prelude.{if◌then◌else◌}
use Rattle.std.specs.List.{AllByRecursion, find}
use Rattle.std.specs.List.Sorted.{IsStrictlySortedBy}
use Rattle.std.specs.Option.{option_or}
use Rattle.std.specs.Ordering.{is_lt, ordering_reverse}
use Rattle.std.specs.Cmp.Lexicographic.{nat_list_cmp_total}
use Rattle.std.specs.declared.cmp.Ordering.TheVariants.{Less}
use Rattle.agent_state.specs.declared.modes.FlushMode.{FlushMode}
use Rattle.agent_state.specs.declared.modes.FlushMode.TheVariants as flush
use Rattle.agent_state.specs.declared.modes.EvictMode.{EvictMode}
use Rattle.agent_state.specs.declared.modes.EvictMode.TheVariants as evict
use Rattle.agent_state.specs.declared.modes.Modes.{Modes}
use Rattle.obj_model.specs.Names.{name_cmp}
use Rattle.obj_model.specs.Tables.{is_above}
use Rattle.agent_pick.specs.declared.row.Row.{Row}
use Rattle.agent_pick.specs.declared.row.Rule.{Rule}
use Rattle.agent_pick.specs.IndexLaws.{AreRising, HasNames, IndexedPicks, IsIndexOf, is_ready_clean, is_ready_dirty}
use Rattle.agent_pick.specs.Indexes.{NameSet, Ready, first_in, first_of, first_wanted, is_evicting, is_flushing, is_plain, lesser, where_wanted}
use Rattle.agent_pick.specs.Picks.{first_from, start_of}
use Rattle.agent_pick.specs.Rules.{evicts, flushes, is_aged, is_cold, qualifies}
use Rattle.agent_pick.proofs.Cyclic.{cyclic, name_of, picked_at, wrapped}
use Rattle.agent_pick.proofs.Ties.{entries_are, entries_for}

-- ---- the first of a set

-- the row's name is above this one, and it passes
abbrev from : Option (List ℕ) → (Row → Bool) → Row → Bool
from after test r = is_above after r.name && test r

first_cases : (after : Option (List ℕ)) (r : Row) (a t : Bool) (rs : List Row)
    (o : Option Row) → is_above after r.name ≡ a →
    first_of (filter (λ e. is_above after e.0) (entries_for rs)) ≡ name_of o →
    first_of (filter (λ e. is_above after e.0) (entries_for (cond t (r ∷ rs) rs)))
    ≡ name_of (cond (a && t) (Some r) o)
first_cases after r true true rs o e rest =
    ap (λ b. first_of (cond b ((r.name, tt) ∷ filter (λ e. is_above after e.0) (entries_for rs))
    (filter (λ e. is_above after e.0) (entries_for rs)))) e
first_cases after r false true rs o e rest =
    ap (λ b. first_of (cond b ((r.name, tt) ∷ filter (λ e. is_above after e.0) (entries_for rs))
    (filter (λ e. is_above after e.0) (entries_for rs)))) e ∙ rest
first_cases after r true false rs o e rest = rest
first_cases after r false false rs o e rest = rest

first_found : (after : Option (List ℕ)) (test : Row → Bool) (rows : List Row) →
    first_of (filter (λ e. is_above after e.0) (entries_for (filter test rows)))
    ≡ name_of (find (from after test) rows)
first_found after test [] = refl
first_found after test (r ∷ rs) =
    first_cases after r (is_above after r.name) (test r) (filter test rs)
    (find (from after test) rs) refl (first_found after test rs)

first_in_rows : (after : Option (List ℕ)) (test : Row → Bool) (rows : List Row) (s : NameSet) →
    AreRising rows → HasNames test rows s →
    first_in after s ≡ name_of (find (from after test) rows)
first_in_rows after test rows s rise tie =
    ap (λ es. first_of (filter (λ e. is_above after e.0) es)) (entries_are test rows s rise tie)
    ∙ first_found after test rows

-- ---- the lesser of two firsts

-- the row, if there is one, comes behind this name
abbrev IsBehind : List ℕ → Option Row → Type 0
IsBehind n None = Unit {0}
IsBehind n (Some r) = name_cmp n r.name ≡ Less

behind_one : (n : List ℕ) (r : Row) (b : Bool) (o : Option Row) → name_cmp n r.name ≡ Less →
    IsBehind n o → IsBehind n (cond b (Some r) o)
behind_one n r true o one rest = one
behind_one n r false o one rest = rest

found_behind : (n : List ℕ) (test : Row → Bool) (rs : List Row) →
    AllByRecursion (λ y. name_cmp n y ≡ Less) (map (λ (r : Row). r.name) rs) →
    IsBehind n (find test rs)
found_behind n test [] all = tt
found_behind n test (r ∷ rs) all =
    behind_one n r (test r) (find test rs) all.0 (found_behind n test rs all.1)

same_both : (b : Bool) (n : List ℕ) → (if b then Some n else Some n) ≡ Some n
same_both true n = refl
same_both false n = refl

first_is_less : (n : List ℕ) (o : Option Row) → IsBehind n o → lesser (Some n) (name_of o) ≡ Some n
first_is_less n None less = refl
first_is_less n (Some r) less =
    ap (λ o. if is_lt o then Some r.name else Some n)
    (nat_list_cmp_total.antisymm r.name n ∙ ap ordering_reverse less)

second_is_less : (n : List ℕ) (o : Option Row) → IsBehind n o → lesser (name_of o) (Some n) ≡ Some n
second_is_less n None less = refl
second_is_less n (Some r) less = ap (λ o. if is_lt o then Some n else Some r.name) less

lesser_step : (r : Row) (p q : Bool) (a b c : Option Row) → IsBehind r.name a →
    IsBehind r.name b → lesser (name_of a) (name_of b) ≡ name_of c →
    lesser (name_of (cond p (Some r) a)) (name_of (cond q (Some r) b))
    ≡ name_of (cond (p || q) (Some r) c)
lesser_step r true true a b c la lb rest = same_both (is_lt (name_cmp r.name r.name)) r.name
lesser_step r true false a b c la lb rest = first_is_less r.name b lb
lesser_step r false true a b c la lb rest = second_is_less r.name a la
lesser_step r false false a b c la lb rest = rest

lesser_found : (p q : Row → Bool) (rows : List Row) → AreRising rows →
    lesser (name_of (find p rows)) (name_of (find q rows))
    ≡ name_of (find (λ r. p r || q r) rows)
unfolding IsStrictlySortedBy
lesser_found p q [] rise = refl
lesser_found p q (r ∷ rs) rise =
    lesser_step r (p r) (q r) (find p rs) (find q rs) (find (λ r. p r || q r) rs)
    (found_behind r.name p rs rise.0) (found_behind r.name q rs rise.0)
    (lesser_found p q rs rise.1)

-- ---- what is wanted

none_found : (rows : List Row) (test : Row → Bool) → ((r : Row) → test r ≡ false) →
    find test rows ≡ None
none_found [] test fails = refl
none_found (r ∷ rs) test fails =
    ap (λ b. cond b (Some r) (find test rs)) (fails r) ∙ none_found rs test fails

and_true : (a b : Bool) → (a && b) ≡ (a && (b && true))
and_true false b = refl
and_true true true = refl
and_true true false = refl

and_false : (a b : Bool) → (a && (b && false)) ≡ false
and_false false b = refl
and_false true true = refl
and_false true false = refl

where_found : (w : Bool) (after : Option (List ℕ)) (test : Row → Bool) (rows : List Row) →
    where_wanted w (name_of (find (from after test) rows))
    ≡ name_of (find (from after (λ r. test r && w)) rows)
where_found true after test rows =
    (λ i. name_of (find (λ (r : Row). and_true (is_above after r.name) (test r) i) rows))
where_found false after test rows =
    sym (ap name_of (none_found rows (from after (λ r. test r && false))
    (λ r. and_false (is_above after r.name) (test r))))

or_false : (b : Bool) → (b || false) ≡ b
or_false true = refl
or_false false = refl

merged : (a b d f e : Bool) →
    ((a && ((not b && d) && f)) || (a && ((not b && not d) && e)))
    ≡ (a && (not b && (if d then f else e)))
merged false b d f e = refl
merged true true d f e = refl
merged true false true f e = or_false f
merged true false false f e = refl

first_both : (s : Ready) (modes : Modes) (after : Option (List ℕ)) (rows : List Row) →
    AreRising rows → IsIndexOf rows s →
    first_wanted s modes after
    ≡ name_of (find (λ (r : Row). is_above after r.name && (not r.busy
    && (if r.dirty then is_flushing modes.flush else is_evicting modes.evict))) rows)
first_both s modes after rows rise tie =
    let f = is_flushing modes.flush in
    let e = is_evicting modes.evict in
    let p = from after (λ r. is_ready_dirty r && f) in
    let q = from after (λ r. is_ready_clean r && e) in
    ap₂ lesser
    (ap (where_wanted f) (first_in_rows after is_ready_dirty rows s.dirty rise tie.dirty)
    ∙ where_found f after is_ready_dirty rows)
    (ap (where_wanted e) (first_in_rows after is_ready_clean rows s.clean rise tie.clean)
    ∙ where_found e after is_ready_clean rows)
    ∙ lesser_found p q rows rise
    ∙ (λ i. name_of (find (λ (r : Row). merged (is_above after r.name) r.busy r.dirty f e i) rows))

flushes_plain : (f : FlushMode) (e : EvictMode) (aged : Bool) → is_plain f e ≡ true →
    flushes f e aged ≡ is_flushing f
flushes_plain flush.Idle e aged plain = refl
flushes_plain flush.Low evict.Full aged plain = refl
flushes_plain flush.High e aged plain = refl
flushes_plain flush.Low evict.Idle aged plain = absurd (true≢false (sym plain))
flushes_plain flush.Low evict.Some aged plain = absurd (true≢false (sym plain))

evicts_plain : (f : FlushMode) (e : EvictMode) (aged cold : Bool) → is_plain f e ≡ true →
    evicts e aged cold ≡ is_evicting e
evicts_plain f evict.Idle aged cold plain = refl
evicts_plain f evict.Full aged cold plain = refl
evicts_plain flush.Idle evict.Some aged cold plain = absurd (true≢false (sym plain))
evicts_plain flush.Low evict.Some aged cold plain = absurd (true≢false (sym plain))
evicts_plain flush.High evict.Some aged cold plain = absurd (true≢false (sym plain))

wanted_plain : (all : List Row) (rule : Rule) → is_plain rule.modes.flush rule.modes.evict ≡ true →
    (r : Row) →
    (not r.busy
    && (if r.dirty then is_flushing rule.modes.flush else is_evicting rule.modes.evict))
    ≡ qualifies all rule r
wanted_plain all rule plain r =
    ap₂ (λ f e. not r.busy && (if r.dirty then f else e))
    (sym (flushes_plain rule.modes.flush rule.modes.evict
    (is_aged r.mtime rule.values.cache_min_flush_age rule.moment) plain))
    (sym (evicts_plain rule.modes.flush rule.modes.evict
    (is_aged r.mtime rule.values.cache_min_evict_age rule.moment)
    (is_cold all rule.modes.effort r.temperature) plain))

first_plain : (s : Ready) (rule : Rule) (after : Option (List ℕ)) (rows : List Row) →
    AreRising rows → IsIndexOf rows s → is_plain rule.modes.flush rule.modes.evict ≡ true →
    first_wanted s rule.modes after ≡ name_of (find (from after (qualifies rows rule)) rows)
first_plain s rule after rows rise tie plain =
    first_both s rule.modes after rows rise tie
    ∙ (λ i. name_of (find (λ (r : Row). is_above after r.name && wanted_plain rows rule plain r i)
    rows))

named_or : (a b : Option Row) → name_of (option_or a b) ≡ option_or (name_of a) (name_of b)
named_or None b = refl
named_or (Some r) b = refl

pub indexed_picks : IndexedPicks
indexed_picks rows s cursor rule rise tie plain =
    let test = qualifies rows rule in
    let start = start_of cursor rows in
    ap₂ option_or (first_plain s rule cursor rows rise tie plain)
    (first_plain s rule None rows rise tie plain)
    ∙ sym (picked_at rows (first_from test start rows)
    ∙ ap name_of (wrapped test start rows ∙ cyclic test cursor rows rise)
    ∙ named_or (find (from cursor test) rows) (find test rows))
