-- Lies that are refused.
use Rattle.std.proofs.Common.{◌≡◌, ◌≢◌, ◌⊎◌, inl, inr, ℕ, ◌+◌, Bool, true, false, true≢false, List, [], ◌∷◌, ◌++◌, length, Option, Some, sym, ap, subst, ◌∙◌}
use Rattle.std.specs.List.{AllByRecursion}
use Rattle.obj_model.specs.declared.change.Change.{Change}
use Rattle.store_face.specs.Rooms.{Room}
use Rattle.store_face.specs.Tables.{changed_by}
use Rattle.store_face.specs.Views.{CrashMaps, Durable, IsBehind, alone, no_map}
use Rattle.tier_outside.specs.Moments as moments
use Rattle.tier_chron.specs.Calls.{call_of}
use Rattle.obj_model.specs.declared.out.Out.{Out}
use Rattle.tier_chron.specs.Shapes.{IsAnswered, IsAskedBy, may_answer}
use Rattle.tier_chron.specs.declared.answer.Answer.TheVariants as answer
use Rattle.tier_chron.specs.declared.asked.Asked.TheVariants.{Flush}
use Rattle.tier_chron.specs.declared.entries.Logged.{Logged}
use Rattle.tier_view.specs.Grows.{AreEntered, Extends, HaveCome, Remains, Stays}
use Rattle.tier_view.specs.Lies.{BlockedIsByWork, EntriesAskWhatIsWanted, FlushesAreToldNoValues, MadeUpWorkIsRefused, SecondCommitsAreRefused, StrangersDoNotAct}
use Rattle.tier_view.specs.Tables.{IsOfKind, SoundFlown}
use Rattle.tier_view.specs.Views.{calls_in}
use Rattle.tier_view.specs.Whole.{HasCause, HaveCauses, WasBlocked}
use Rattle.tier_view.proofs.Beginning.{none_of_kind}

pub strangers_do_not_act : StrangersDoNotAct
strangers_do_not_act v a acts h is none =
    subst (IsAskedBy a) none (subst (AllByRecursion (λ b. IsAskedBy b (call_of (calls_in v.calls.entries) b.call))) is h.shaped.asked).0

-- what is said of more than the old list is said of what was put behind it
more_of : {X : Type 0} (Same : X → X → Type 0) (More : List X → Type 0) (xs ys : List X) → Extends Same More xs (xs ++ ys) → More ys
more_of Same More [] ys h = h
more_of Same More (x ∷ xs) ys h = more_of Same More xs ys h.1

last_of : {X : Type 0} (P : X → Type 0) (xs : List X) (x : X) → AllByRecursion P (xs ++ x ∷ []) → P x
last_of P [] x h = h.0
last_of P (y ∷ xs) x h = last_of P xs x h.1

pub entries_ask_what_is_wanted : EntriesAskWhatIsWanted
entries_ask_what_is_wanted other wanted v w e g is ne =
    let More = AreEntered (v.calls.last + 1) w.standing.cache_epoch (length v.log.acts) w.calls.last wanted in
    ne (more_of Stays More v.calls.entries (e ∷ []) (subst (Extends Stays More v.calls.entries) is g.calls)).1.wanted

pub made_up_work_is_refused : MadeUpWorkIsRefused
made_up_work_is_refused other wanted v w f h g is none =
    let Same = Remains (length v.log.answers) (length w.log.answers) in
    let More = HaveCome v.calls.entries w.calls.entries (length v.log.answers) v.standing w.standing in
    let came = more_of Same More v.calls.flown (f ∷ []) (subst (Extends Same More v.calls.flown) is g.flown) in
    let P = SoundFlown w.calls.entries w.traffic.flights (length w.log.answers) in
    let sound = last_of P v.calls.flown f (subst (AllByRecursion P) is h.flights.table) in
    none_of_kind f.kind f.opid (subst (λ o. IsOfKind o f.kind f.opid) none (sound.stands came.2.stands))

-- ---- a second commit

two_since : (P : CrashMaps → CrashMaps → Type 0) (om nm : Option (List CrashMaps)) (c x y : CrashMaps) → om ≡ Some (c ∷ []) → nm ≡ Some (c ∷ x ∷ y ∷ []) → moments.Grows no_map om nm P → P c x × P c y
two_since P om nm c x y was now g =
    let same : Some (c ∷ x ∷ y ∷ []) ≡ Some (c ∷ g.more) = sym now ∙ g.grew ∙ ap (λ m. moments.grown m g.more) was in
    let more : g.more ≡ x ∷ y ∷ [] = cc in
    let each : moments.Each g.more (P c) = subst (λ m. moments.Now no_map m (λ w. moments.Each g.more (P w))) was g.each in
    let both : moments.Each (x ∷ y ∷ []) (P c) = subst (λ m. moments.Each m (P c)) more each in
    (both.0, both.1.0)

changed_so : (room : Room) (cs : List Change) (d e : Durable) → e.table ≢ d.table → (e ≡ d) ⊎ IsBehind room cs d e → e.table ≡ changed_by d.table cs
changed_so room cs d e ne (inl same) = absurd (ne (ap (λ x. x.table) same))
changed_so room cs d e ne (inr h) = h.table

among_so : (d e : Durable) → e.table ≢ d.table → (e ≡ d) ⊎ (e ≡ d) → ⊥
among_so d e ne (inl same) = ne (ap (λ x. x.table) same)
among_so d e ne (inr same) = ne (ap (λ x. x.table) same)

pub second_commits_are_refused : SecondCommitsAreRefused
second_commits_are_refused old new d e f was now ne nf two (inl one) =
    let g = two_since _ old.moments new.moments (alone d) (alone e) (alone f) was now one.1 in
    two (changed_so old.room one.0 d e ne g.0.before ∙ sym (changed_so old.room one.0 d f nf g.1.before))
second_commits_are_refused old new d e f was now ne nf two (inr among) =
    let g = two_since _ old.moments new.moments (alone d) (alone e) (alone f) was now among in
    among_so d e ne g.0.before

-- ---- answers that cannot be

no_values : (name : List ℕ) (blocking begin_only : Bool) (ver : ℕ) (outs : List Out) → may_answer (Flush name blocking begin_only) (answer.Values ver outs) ≡ true → ⊥
no_values name blocking false ver outs e = true≢false (sym e)
no_values name blocking true ver outs e = true≢false (sym e)

pub flushes_are_told_no_values : FlushesAreToldNoValues
flushes_are_told_no_values v l ls c name blocking begin_only ver outs h is found asked told =
    let P = λ (m : Logged). IsAnswered v.log.acts m (call_of (calls_in v.calls.entries) m.call) in
    let first : IsAnswered v.log.acts l (Some c) = subst (IsAnswered v.log.acts l) found (subst (AllByRecursion P) is h.shaped.answered).0 in
    no_values name blocking begin_only ver outs (subst (λ x. may_answer (Flush name blocking begin_only) x ≡ true) told (subst (λ x. may_answer x l.answer ≡ true) asked first.kind))

pub blocked_is_by_work : BlockedIsByWork
blocked_is_by_work v l ls k op h is told alone_ =
    let first : HasCause 0 v.calls v.agent.share v.standing.cache_epoch l l.answer = (subst (HaveCauses 0 v.calls v.agent.share v.standing.cache_epoch) is h.causes).0 in
    let by : WasBlocked 0 v.calls l k op = subst (HasCause 0 v.calls v.agent.share v.standing.cache_epoch l) told first in
    by.other (alone_ by.work by.on by.kind by.opid)
