-- A call ends that work of another holds up.
use Rattle.std.proofs.Common.{◌≡◌, ◌≢◌, ◌≤◌, ◌<◌, ◌⊎◌, inl, inr, ℕ, ◌+◌, ◌==◌, cond, Bool, true, false, List, [], ◌∷◌, ◌++◌, length, Option, Some, None, refl, sym, ap, subst, ◌∙◌, true≢false, arith}
use Rattle.std.specs.Prelude.{if◌then◌else◌}
use Rattle.std.specs.FinMap as fin
use Rattle.std.specs.List.{AllByRecursion}
use Rattle.std.proofs.lemmas.Bool.{eqb-true}
use Rattle.obj_model.specs.declared.req.Req.{Req}
use Rattle.obj_model.specs.declared.tier.Kind.{Kind}
use Rattle.obj_model.specs.declared.tier.Kind.TheVariants as kind
use Rattle.obj_ops.specs.Stores.{Store}
use Rattle.tier_chron.proofs.Lists.{all_imply, either_way}
use Rattle.tier_chron.specs.Calls.{Call, call_of}
use Rattle.tier_chron.specs.Fits.{TellsTruth, TellsCall, TellsRead, TellsWrite}
use Rattle.tier_chron.specs.Places.{state_at}
use Rattle.tier_chron.specs.Shapes.{IsAnswered}
use Rattle.tier_chron.specs.declared.answer.Answer.{Answer}
use Rattle.tier_chron.specs.declared.answer.Answer.TheVariants as answer
use Rattle.tier_chron.specs.declared.asked.Asked.{Asked}
use Rattle.tier_chron.specs.declared.asked.Asked.TheVariants.{Write, Read, Flush, Finish, Evict, Drain, Agent, Start}
use Rattle.tier_chron.specs.declared.entries.Act.{Act}
use Rattle.tier_chron.specs.declared.entries.Logged.{Logged}
use Rattle.tier_flight.specs.Busy.{busy_at, flush_busy, read_busy, reads_busy, write_busy}
use Rattle.tier_flight.specs.declared.busy.Busy.{Busy}
use Rattle.tier_flight.specs.declared.busy.Want.{Want}
use Rattle.tier_flight.specs.declared.busy.Want.TheVariants as want
use Rattle.tier_protocol.specs.Tiers.{Flight, Flights, Name, ReadFlight, IsIn}
use Rattle.tier_view.specs.Answered.{BlockedCallsKeep, HasFaultCause, NewCallsHaveNoWork}
use Rattle.tier_view.specs.Answers.{DropsWork, NoMore, ended_calls, gone_some}
use Rattle.tier_view.specs.Calls.{Calls, Entry, Flown, entry_of}
use Rattle.tier_view.specs.Changes.{ended_in}
use Rattle.tier_view.specs.Stops.{gone_at, gone_by}
use Rattle.tier_view.specs.Tables.{AnyCall, HasCome, IsListed, IsOfKind, IsStanding, IsTimed, SoundEntry, SoundFlights, SoundFlown}
use Rattle.tier_view.specs.Traffic.{Begun}
use Rattle.tier_view.specs.Views.{GroupView, calls_in}
use Rattle.tier_view.specs.Whole.{AsksFor, HasCause, IsWhole, StoodAt, WasBlocked}
use Rattle.tier_view.proofs.AnsweringEnds.{ending_calls_keeps}
use Rattle.tier_view.proofs.AnsweringFaults.{counted_with}
use Rattle.tier_view.proofs.AnsweringWork.{entries_end, flights_left}
use Rattle.tier_view.proofs.Growth.{asks_stays, entry_stays}

-- ---- the busy table tells of the work that stands

abbrev IsOfBusy : Option Flight → Option Busy → Type 0
IsOfBusy w None = Unit {0}
IsOfBusy w (Some b) = IsOfKind w b.kind b.opid

write_is : (driver : Option ℕ) (owner op : ℕ) (r : Req) (x : Want) → IsOfBusy (Some (Flight.Write driver owner op r)) (write_busy driver op x)
write_is (Some d) owner op r x = refl
write_is None owner op r want.Read = tt
write_is None owner op r want.PromoteRead = tt
write_is None owner op r want.Write = tt
write_is None owner op r want.Flush = refl
write_is None owner op r want.Evict = refl

reads_is : (list : List ReadFlight) (x : Want) → IsOfBusy (Some (Flight.Reads list)) (reads_busy list x)
reads_is [] x = tt
reads_is (r ∷ rs) want.Read = tt
reads_is (r ∷ rs) want.PromoteRead = (r, inl refl, refl)
reads_is (r ∷ rs) want.Write = (r, inl refl, refl)
reads_is (r ∷ rs) want.Flush = tt
reads_is (r ∷ rs) want.Evict = tt

flush_is : (call : Option ℕ) (op seq : ℕ) (blocking drain : Bool) (x : Want) → IsOfBusy (Some (Flight.Flush call op seq blocking drain)) (flush_busy blocking op x)
flush_is call op seq blocking drain want.Read = tt
flush_is call op seq blocking drain want.PromoteRead = tt
flush_is call op seq true drain want.Write = refl
flush_is call op seq false drain want.Write = tt
flush_is call op seq blocking drain want.Flush = refl
flush_is call op seq blocking drain want.Evict = refl

busy_is : (w : Option Flight) (x : Want) → IsOfBusy w (busy_at w x)
busy_is None x = tt
busy_is (Some (Flight.Promote call op gather ask)) x = refl
busy_is (Some (Flight.Write driver owner op r)) x = write_is driver owner op r x
busy_is (Some (Flight.Reads list)) x = reads_is list x
busy_is (Some (Flight.Flush call op seq blocking drain)) x = flush_is call op seq blocking drain x

busy_of_kind : (w : Option Flight) (x : Want) (k : Kind) (op : ℕ) → busy_at w x ≡ Some (record { kind = k; opid = op }) → IsOfKind w k op
busy_of_kind w x k op is = subst (IsOfBusy w) is (busy_is w x)

-- ---- and that is in the table of what came

anyone : (flown : List Flown) (k : Kind) (n : Name) (op : ℕ) (by : Flown → Type 0) → HasCome flown k n op by → HasCome flown k n op AnyCall
anyone flown k n op by h = record { entry = h.entry; on = h.on; standing = h.standing; whose = tt }

numbered : (flown : List Flown) (k : Kind) (n : Name) (o op : ℕ) → o ≡ op → HasCome flown k n o AnyCall → HasCome flown k n op AnyCall
numbered flown k n o op same h = subst (λ x. HasCome flown k n x AnyCall) same h

came_of : (es : List Entry) (flown : List Flown) (begun : List Begun) (epoch : ℕ) (n : Name) (w : Option Flight) (k : Kind) (op : ℕ) → ((f : Flight) → w ≡ Some f → IsListed es flown begun epoch n f)
    → IsOfKind w k op → HasCome flown k n op AnyCall
came_of es flown begun epoch n None kind.Promote op listed is = absurd is
came_of es flown begun epoch n None kind.Write op listed is = absurd is
came_of es flown begun epoch n None kind.Read op listed is = absurd is
came_of es flown begun epoch n None kind.Flush op listed is = absurd is
came_of es flown begun epoch n (Some (Flight.Promote call o gather ask)) kind.Promote op listed is = numbered flown kind.Promote n o op is (anyone flown kind.Promote n o _ (listed _ refl).1)
came_of es flown begun epoch n (Some (Flight.Promote call o gather ask)) kind.Write op listed is = absurd is
came_of es flown begun epoch n (Some (Flight.Promote call o gather ask)) kind.Read op listed is = absurd is
came_of es flown begun epoch n (Some (Flight.Promote call o gather ask)) kind.Flush op listed is = absurd is
came_of es flown begun epoch n (Some (Flight.Write driver owner o r)) kind.Promote op listed is = absurd is
came_of es flown begun epoch n (Some (Flight.Write driver owner o r)) kind.Write op listed is = numbered flown kind.Write n o op is (anyone flown kind.Write n o _ (listed _ refl).1)
came_of es flown begun epoch n (Some (Flight.Write driver owner o r)) kind.Read op listed is = absurd is
came_of es flown begun epoch n (Some (Flight.Write driver owner o r)) kind.Flush op listed is = absurd is
came_of es flown begun epoch n (Some (Flight.Reads list)) kind.Promote op listed is = absurd is
came_of es flown begun epoch n (Some (Flight.Reads list)) kind.Write op listed is = absurd is
came_of es flown begun epoch n (Some (Flight.Reads list)) kind.Read op listed is = numbered flown kind.Read n is.0.opid op is.2 (anyone flown kind.Read n is.0.opid _ (listed _ refl is.0 is.1).1)
came_of es flown begun epoch n (Some (Flight.Reads list)) kind.Flush op listed is = absurd is
came_of es flown begun epoch n (Some (Flight.Flush call o seq blocking drain)) kind.Promote op listed is = absurd is
came_of es flown begun epoch n (Some (Flight.Flush call o seq blocking drain)) kind.Write op listed is = absurd is
came_of es flown begun epoch n (Some (Flight.Flush call o seq blocking drain)) kind.Read op listed is = absurd is
came_of es flown begun epoch n (Some (Flight.Flush call o seq blocking drain)) kind.Flush op listed is = numbered flown kind.Flush n o op is (listed _ refl).2

gone_there : (now : ℕ) (w : Option ℕ) → gone_by now w ≡ None → ⊥
gone_there now None e = absurd (cc)
gone_there now (Some at) e = absurd (cc)

not_gone : (now : ℕ) (b : Bool) (f g : Flown) → g ≡ (if b then gone_at now f else f) → g.went ≡ None → g ≡ f
not_gone now true f g e there = absurd (gone_there now f.went (sym (ap (λ x. x.went) e) ∙ there))
not_gone now false f g e there = e

-- what stands where some has gone stood before
stands_of : (now : ℕ) (o : Option ℕ) (fs : List Flown) (g : Flown) → IsIn g (gone_some now o fs) → g.went ≡ None → IsIn g fs
stands_of now None fs g on there = on
stands_of now (Some p) [] g on there = absurd on
stands_of now (Some p) (f ∷ fs) g (inl is) there = inl (not_gone now (f.opid == p) f g is there)
stands_of now (Some p) (f ∷ fs) g (inr on) there = inr (stands_of now (Some p) fs g on there)

one_of : {X : Type 0} (P : X → Type 0) (xs : List X) (x : X) → AllByRecursion P xs → IsIn x xs → P x
one_of P [] x h on = absurd on
one_of P (y ∷ ys) x h (inl is) = subst P (sym is) h.0
one_of P (y ∷ ys) x h (inr on) = one_of P ys x h.1 on

-- ---- it tells nothing of objects

blocked_write : (start : Store) (acts : List Act) (asked : Asked) (l : Logged) (k : Kind) (op : ℕ) → l.answer ≡ answer.Blocked k op → TellsTruth start acts asked l
blocked_write start acts (Write req) l k op is = subst (TellsWrite (state_at start acts l.place req.name) acts req l) (sym is) tt
blocked_write start acts (Read client name vector) l k op is = subst (TellsRead (state_at start acts l.place name) vector) (sym is) tt
blocked_write start acts (Flush name blocking begin_only) l k op is = tt
blocked_write start acts (Finish name) l k op is = tt
blocked_write start acts (Evict name) l k op is = tt
blocked_write start acts Drain l k op is = tt
blocked_write start acts Agent l k op is = tt
blocked_write start acts Start l k op is = tt

blocked_true : (start : Store) (acts : List Act) (l : Logged) (c : Option Call) (k : Kind) (op : ℕ) → l.answer ≡ answer.Blocked k op → IsAnswered acts l c → TellsCall start acts l c
blocked_true start acts l None k op is h = absurd h
blocked_true start acts l (Some c) k op is h = blocked_write start acts c.asked l k op is

-- ---- all of it

module _ (v : GroupView) (l : Logged) (left : Flights) (dropped : Option ℕ) (h : IsWhole v) (d : DropsWork l.call v.traffic.flights left dropped) where
  abbrev C : Calls
  C = ended_calls (length v.log.answers) l.call dropped v.calls

  sound : SoundFlights C.entries C.flown left v.traffic.begun v.standing.cache_epoch (length v.log.answers)
  sound = flights_left l.call v.calls.entries v.calls.flown v.traffic.flights left v.traffic.begun v.standing.cache_epoch (length v.log.answers) (length v.log.answers) dropped (omega arith) d h.flights

  stood : (came : ℕ) (went : Option ℕ) → went ≡ None → IsTimed (length v.log.answers) came went → StoodAt (length v.log.answers) came went
  stood came None e k = k
  stood came (Some at) e k = absurd (cc)

  blocked : (name : Name) (x : Want) (k : Kind) (op : ℕ) → busy_at (fin.get left name) x ≡ Some (record { kind = k; opid = op }) → AsksFor name (entry_of v.calls.entries l.call)
      → ((f : Flown) → IsIn f v.calls.flown → IsStanding k name op f → f.call ≢ l.call) → WasBlocked (length v.log.answers) C l k op
  blocked name x k op busy asks others =
      let c : HasCome C.flown k name op AnyCall = came_of C.entries C.flown v.traffic.begun v.standing.cache_epoch name (fin.get left name) k op (sound.listed name) (busy_of_kind (fin.get left name) x k op busy) in
      record {
        work = c.entry;
        on = c.on;
        kind = c.standing.kind;
        opid = c.standing.opid;
        name = subst (λ n. AsksFor n (entry_of C.entries l.call)) (sym c.standing.name)
            (asks_stays name (entry_of v.calls.entries l.call) (entry_of C.entries l.call) (entry_stays NoMore v.calls.entries C.entries (entries_end l.call v.calls.entries) l.call) asks);
        other = others c.entry (stands_of (length v.log.answers) dropped v.calls.flown c.entry c.on c.standing.there) c.standing;
        stood = stood c.entry.came c.entry.went c.standing.there (one_of (SoundFlown C.entries left (length v.log.answers)) C.flown c.entry sound.table c.on).timed;
      }

pub blocked_calls_keep : BlockedCallsKeep
blocked_calls_keep v l left dropped name x k op h d may is busy asks others good =
    ending_calls_keeps v l.call (Some l) left dropped h d (
      record {
        own = refl;
        may = may;
        cause = subst (HasCause (length v.log.answers) (ended_calls (length v.log.answers) l.call dropped v.calls) v.agent.share v.standing.cache_epoch l) (sym is) (blocked v l left dropped h d name x k op busy asks others);
        counted = counted_with v l h (subst (HasFaultCause v l) (sym is) tt);
      },
      record { tells = λ start tell b. blocked_true start v.log.acts l (call_of (calls_in v.calls.entries) l.call) k op is may.answered; good = inr good },
    )

-- ---- a call that is entered next

number_free : (last epoch : ℕ) (answers : List Logged) (es : List Entry) (n : ℕ) → AllByRecursion (SoundEntry last epoch answers) es → last < n → entry_of es n ≡ None
number_free last epoch answers [] n h above = refl
number_free last epoch answers (e ∷ es) n h above =
    either_way (e.number == n)
    (λ same. absurd (omega (arith, eqb-true e.number n same, h.0.given, above)))
    (λ other. ap (λ b. cond b (Some e) (entry_of es n)) other ∙ number_free last epoch answers es n h.1 above)

pub new_calls_have_no_work : NewCallsHaveNoWork
new_calls_have_no_work v h =
    all_imply (SoundFlown v.calls.entries v.traffic.flights (length v.log.answers)) (λ f. f.call ≢ v.calls.last + 1)
    (λ f k same. k.known (ap (entry_of v.calls.entries) same ∙ number_free v.calls.last v.standing.cache_epoch v.log.answers v.calls.entries (v.calls.last + 1) h.calls (omega arith)))
    v.calls.flown h.flights.table
