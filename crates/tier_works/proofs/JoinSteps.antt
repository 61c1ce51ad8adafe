-- Two steps in one, and a call that was entered just now.
use Rattle.std.proofs.Common.{◌≡◌, ◌≢◌, ◌≤◌, ◌<◌, inl, inr, ℕ, ◌==◌, ◌||◌, ◌+◌, cond, false, List, [], ◌∷◌, ◌++◌, Option, Some, None, refl, sym, ap, subst, ◌∙◌, arith}
use Rattle.std.specs.FinMap as fin
use Rattle.std.specs.List.{AllByRecursion}
use Rattle.std.proofs.lemmas.Bool.{eq-eqb, eqb-true, ne_eqb}
use Rattle.tier_chron.proofs.Calls.{no_act}
use Rattle.tier_chron.proofs.Lists.{either_way}
use Rattle.tier_chron.specs.Calls.{call_of}
use Rattle.tier_chron.specs.declared.entries.Logged.{Logged}
use Rattle.tier_flight.specs.Ends.{is_call}
use Rattle.tier_flight.specs.Numbers.{has_call, reads_call}
use Rattle.tier_protocol.specs.Tiers.{Flight, IsIn, Name, ReadFlight}
use Rattle.tier_view.specs.Calls.{IsGoing, IsInFlight, call_in, entry_of}
use Rattle.tier_view.specs.Steps.{entry_for}
use Rattle.tier_view.specs.Tables.{IsDriven, IsListed, SoundEntry}
use Rattle.tier_view.specs.Views.{calls_in}
use Rattle.tier_view.specs.declared.parts.Begun.{Begun}
use Rattle.tier_view.specs.declared.parts.Entry.{Entry}
use Rattle.tier_view.specs.declared.parts.Flown.{Flown}
use Rattle.tier_view.proofs.Answering.{quiet_leads_step, quiets_join, steps_join_quiet}
use Rattle.tier_view.proofs.JoiningCalls.{opening_leads_step}
use Rattle.tier_view.proofs.Keeping.{none_above}
use Rattle.tier_works.specs.Joins.{EntryBeginsStep, NewCallsAreFree, QuietBeginsStep, QuietEndsStep, QuietFollowsQuiet}

-- ---- two in one

pub quiet_ends_step : QuietEndsStep
quiet_ends_step other wanted u v w first second answers work =
    (second.0, steps_join_quiet other wanted u v w first.1 second.1 answers work)

pub quiet_begins_step : QuietBeginsStep
quiet_begins_step other wanted u v w first second silent =
    (second.0, quiet_leads_step other wanted u v w first.1 second.1 silent)

pub quiet_follows_quiet : QuietFollowsQuiet
quiet_follows_quiet u v w first second answers =
    (second.0, quiets_join u v w first.1 second.1 answers)

pub entry_begins_step : EntryBeginsStep
entry_begins_step other v w line asked h lined epoch step =
    (step.0, opening_leads_step other v w line asked h lined epoch step.1)

-- ---- numbers that were given out

-- a call in flight has one of them
going_given : (last epoch : ℕ) (answers : List Logged) (es : List Entry) (n : ℕ)
    → AllByRecursion (SoundEntry last epoch answers) es → IsInFlight es n → n ≤ last
going_given last epoch answers [] n h going = absurd going
going_given last epoch answers (e ∷ es) n h going =
    either_way (e.number == n)
    (λ same. omega (arith, eqb-true e.number n same, h.0.given))
    (λ other. going_given last epoch answers es n h.1
    (subst (λ b. IsGoing (cond b (Some e) (entry_of es n))) other going))

-- ---- the call that is entered last

last_found : (last epoch : ℕ) (answers : List Logged) (es : List Entry) (e : Entry)
    → AllByRecursion (SoundEntry last epoch answers) es → last < e.number
    → entry_of (es ++ e ∷ []) e.number ≡ Some e
last_found last epoch answers [] e h above =
    ap (λ b. cond b (Some e) None) (eq-eqb e.number e.number refl)
last_found last epoch answers (d ∷ es) e h above =
    ap (λ b. cond b (Some d) (entry_of (es ++ e ∷ []) e.number))
    (ne_eqb d.number e.number (λ same. absurd (omega (arith, same, h.0.given, above))))
    ∙ last_found last epoch answers es e h.1 above

last_known : (last epoch : ℕ) (answers : List Logged) (es : List Entry) (e : Entry)
    → AllByRecursion (SoundEntry last epoch answers) es → last < e.number
    → call_of (calls_in (es ++ e ∷ [])) e.number ≡ Some (call_in e)
last_known last epoch answers [] e h above =
    ap (λ b. cond b (Some (call_in e)) None) (eq-eqb e.number e.number refl)
last_known last epoch answers (d ∷ es) e h above =
    ap (λ b. cond b (Some (call_in d)) (call_of (calls_in (es ++ e ∷ [])) e.number))
    (ne_eqb d.number e.number (λ same. absurd (omega (arith, same, h.0.given, above))))
    ∙ last_known last epoch answers es e h.1 above

-- ---- no work waits for it

module _ (es : List Entry) (flown : List Flown) (bs : List Begun) (epoch : ℕ) (n : Name) (new : ℕ)
    (unused : (c : ℕ) → IsInFlight es c → c ≢ new) where
  none_driven : (o : Option ℕ) → IsDriven es o → is_call new o ≡ false
  none_driven None h = refl
  none_driven (Some c) h = ne_eqb c new (unused c h)

  none_reads : (list : List ReadFlight) → ((r : ReadFlight) → IsIn r list → IsInFlight es r.call)
      → reads_call new list ≡ false
  none_reads [] h = refl
  none_reads (r ∷ rs) h =
      ap (λ b. b || reads_call new rs) (ne_eqb r.call new (unused r.call (h r (inl refl))))
      ∙ none_reads rs (λ q on. h q (inr on))

  none_waits : (f : Flight) → IsListed es flown bs epoch n f → has_call (Some f) new ≡ false
  none_waits (Flight.Promote call op gather ask) h = ne_eqb call new (unused call h.0)
  none_waits (Flight.Write driver owner op r) h = none_driven driver h.0
  none_waits (Flight.Reads list) h = none_reads list (λ r on. (h r on).0)
  none_waits (Flight.Flush call op seq blocking drain) h = none_driven call h.0

  pub none_waits_on : (w : Option Flight)
      → ((f : Flight) → w ≡ Some f → IsListed es flown bs epoch n f) → has_call w new ≡ false
  none_waits_on None h = refl
  none_waits_on (Some f) h = none_waits f (h f refl)

pub new_calls_are_free : NewCallsAreFree
new_calls_are_free v line asked h =
    let e : Entry = entry_for line asked v in
    let found = last_found v.calls.last v.standing.cache_epoch v.log.answers v.calls.entries e
    h.calls (omega arith) in
    record {
      found = found;
      known = last_known v.calls.last v.standing.cache_epoch v.log.answers v.calls.entries e
          h.calls (omega arith);
      going = subst IsGoing (sym found) refl;
      actless = no_act (calls_in v.calls.entries) (v.calls.last + 1) v.log.acts
          (none_above v.calls.last v.standing.cache_epoch v.log.answers v.calls.entries
          (v.calls.last + 1) h.calls (omega arith)) h.shaped.asked;
      idle = λ n. none_waits_on v.calls.entries v.calls.flown v.traffic.begun
          v.standing.cache_epoch n (v.calls.last + 1)
          (λ c going same. absurd (omega (
            arith,
            same,
            going_given v.calls.last v.standing.cache_epoch v.log.answers v.calls.entries c h.calls
                going,
          )))
          (fin.get v.traffic.flights n) (h.flights.listed n);
    }
