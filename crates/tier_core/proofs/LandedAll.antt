-- A proxied write lands: the group behind it.
use Rattle.std.proofs.Common.{◌≡◌, ℕ, ◌+◌, ◌==◌, List, length, Option, Some, None, refl, sym, ap, subst, ◌∙◌}
use Rattle.std.specs.Prelude.{MatchOption, if◌then◌else◌}
use Rattle.std.proofs.lemmas.List.{length-map}
use Rattle.std.specs.List.{AllByRecursion}
use Rattle.base_pool.specs.Serves.{IsMsg}
use Rattle.base_pool.specs.Views.{BaseView}
use Rattle.store_face.specs.Views.{Sound}
use Rattle.tier_calls.specs.Tables.{TableView}
use Rattle.tier_chron.specs.Logs.{Log, answered_log}
use Rattle.tier_chron.specs.declared.entries.Act.{Act}
use Rattle.tier_chron.specs.declared.entries.Logged.{Logged}
use Rattle.tier_flight.specs.Changes.{IsDroppedIn}
use Rattle.tier_flight.specs.Numbers.{HaveOneRead}
use Rattle.tier_traffic.specs.Wires.{WiresView}
use Rattle.tier_view.specs.Answers.{KeepsQuietly, ended_call, told_log}
use Rattle.tier_view.specs.declared.parts.Entry.{Entry}
use Rattle.tier_view.specs.declared.parts.Flown.{Flown}
use Rattle.tier_view.specs.declared.parts.Sent.{Sent}
use Rattle.tier_view.specs.Changes.{gone_in}
use Rattle.tier_view.specs.Starts.{forgot_awaited}
use Rattle.tier_view.specs.Stops.{gone_at}
use Rattle.tier_view.specs.Stores.{Stores}
use Rattle.tier_view.specs.Views.{GroupView}
use Rattle.tier_view.specs.Whole.{IsWhole}
use Rattle.tier_core.specs.Ends.{GoesWith, calls_ended, calls_gone, wires_ended}
use Rattle.tier_core.specs.Keeps.{IsKept, MayBeAsked}
use Rattle.tier_core.specs.Lands.{EndsOwner, HearsWrite, IsOwnFor, IsTold, IsUntold, LandsParts, LandsTold, landed_here, owner_turn, wires_landed, write_landed}
use Rattle.tier_core.specs.Parts.{group_of}
use Rattle.tier_core.specs.declared.landing.Landing.{Landing}
use Rattle.tier_core.specs.declared.landing.Landing.TheVariants as landing
use Rattle.tier_core.specs.declared.lands.Own.{Own}
use Rattle.tier_core.specs.declared.lands.Told.{Told}
use Rattle.tier_core.specs.declared.parts.Agent.{Agent}
use Rattle.tier_core.specs.declared.parts.Start.{Start}
use Rattle.tier_core.specs.declared.turns.Turn.{Turn}
use Rattle.tier_core.proofs.EndedCalls.{end_is, ended_is, ended_kept}
use Rattle.tier_core.proofs.Resting.{nothing_quietly}
use Rattle.tier_core.proofs.Landed.{freed_quietly, landed_quietly, told_quietly}

-- as much work has come
as_many : (now op : ℕ) (fs : List Flown) → length (gone_in now op fs) ≡ length fs
as_many now op fs = length-map fs (λ (f : Flown). if f.opid == op then gone_at now f else f)

-- a table with the same room, behind work that went
went_kept : (v w : GroupView) (base : BaseView) (old new : TableView) (op : ℕ) → IsKept v base old → IsWhole w → w.stores ≡ v.stores → w.standing ≡ v.standing
    → w.traffic.messages ≡ v.traffic.messages → w.calls.entries ≡ v.calls.entries → w.calls.flown ≡ gone_in (length v.log.answers) op v.calls.flown → new.earlier ≡ old.earlier → IsKept w base new
went_kept v w base old new op h whole stores standing messages entries flown earlier = record {
  whole = whole;
  cached = subst (λ s. Sound s.cache) (sym stores) h.cached;
  based = h.based;
  level = λ live. h.level live ∙ ap (λ s. s.base_epoch) (sym standing);
  counted = subst (λ s. s.next_opid + new.earlier ≡ length w.calls.flown + 1) (sym standing)
      (subst (λ n. v.standing.next_opid + n ≡ length w.calls.flown + 1) (sym earlier)
      (subst (λ fs. v.standing.next_opid + old.earlier ≡ length fs + 1) (sym flown)
      (subst (λ n. v.standing.next_opid + old.earlier ≡ n + 1) (sym (as_many (length v.log.answers) op v.calls.flown)) h.counted)));
  messages = subst (λ ms. AllByRecursion (λ (m : Sent). IsMsg m.message) ms) (sym messages) h.messages;
  asked = subst (λ es. AllByRecursion (λ (e : Entry). MayBeAsked e.asked) es) (sym entries) h.asked;
}

-- ---- the parts where the owner is answered

module _ (told : Told) (number : ℕ) (log after : Log) (t s u : TableView) (w y x : WiresView) (turn : Turn) (own : Option Own) (now count : ℕ) (acts : List Act) (logged : Logged) (dropped : Option ℕ) where
  abbrev Gone : TableView
  Gone = calls_gone (length log.answers) (Some told.wrote.opid) t

  abbrev Rest : WiresView
  Rest = wires_landed told.name number w

  abbrev Answer_ : Logged
  Answer_ = landed_here turn (length log.acts) told.wrote.acted own

  pub ends_owner : now ≡ length log.answers → count ≡ length log.acts → acts ≡ log.acts → s ≡ calls_gone now (Some told.wrote.opid) t → y ≡ Rest
      → owner_turn told.driver told.owner t.calls.entries ≡ Some turn → IsOwnFor turn.call acts told.wrote.acted own → logged ≡ landed_here turn count told.wrote.acted own
      → after ≡ told_log (Some logged) log → GoesWith turn.call y.traffic.flights dropped → HaveOneRead y.traffic.flights → IsDroppedIn turn.call y.traffic.flights x.traffic.flights
      → u ≡ calls_ended (length log.answers) turn.call dropped s → x ≡ wires_ended turn.call x.traffic.flights y → EndsOwner told number log after t u w x turn.call
  ends_owner answers counted listed gone landed owns of is logs goes reads left calls wires =
      let same : s ≡ Gone = gone ∙ ap (λ (n : ℕ). calls_gone n (Some told.wrote.opid) t) answers in
      let told_is : logged ≡ Answer_ = is ∙ ap {A = ℕ} {B = Logged} (λ n. landed_here turn n told.wrote.acted own) counted in
      record {
        turn = turn;
        is_turn = owns;
        is_call = refl;
        own = own;
        is_own = subst (λ (xs : List Act). IsOwnFor turn.call xs told.wrote.acted own) listed of;
        ends = record {
          dropped = dropped;
          logged = logs ∙ ap (λ (l : Logged). answered_log l log) told_is;
          goes = subst (λ (z : WiresView). GoesWith turn.call z.traffic.flights dropped) landed goes;
          reads = subst (λ (z : WiresView). HaveOneRead z.traffic.flights) landed reads;
          left = subst (λ (z : WiresView). IsDroppedIn turn.call z.traffic.flights x.traffic.flights) landed left;
          calls = calls ∙ ap (calls_ended (length log.answers) turn.call dropped) same;
          wires = wires ∙ ap (wires_ended turn.call x.traffic.flights) landed;
        };
      }

-- what a landing leaves of a group
pub record IsLandedIn (old new : GroupView) (base : BaseView) (table : TableView) (heard : Type 0) : Type 0 where
  pub kept : IsKept new base table
  pub is : heard
  pub step : KeepsQuietly old new

module _ (stores : Stores) (log after : Log) (t u : TableView) (w x : WiresView) (start : Start) (agent : Agent) (base : BaseView) (number : ℕ) (told : Told) where
  abbrev Old : GroupView
  Old = group_of stores log t.calls w.traffic start agent

  abbrev New : GroupView
  New = group_of stores after u.calls x.traffic start agent

  abbrev M : GroupView
  M = write_landed told.name told.wrote.opid number Old

  abbrev T : TableView
  T = calls_gone (length log.answers) (Some told.wrote.opid) t

  abbrev X : WiresView
  X = wires_landed told.name number w

  module _ (h : IsKept Old base t) (none : stores.pending ≡ None) (is : IsTold w.traffic start.cache_epoch number told) where
    between : IsKept M base T
    between = went_kept Old M base t T told.wrote.opid h (landed_quietly Old number told h.whole none is).0 refl refl refl refl refl refl

    pub landed_all : (result : Landing) → LandsParts told number log after t u w x result → IsLandedIn Old New base u (HearsWrite number Old New result)
    landed_all (landing.Answered call) e =
        let l : Logged = landed_here e.turn (length log.acts) told.wrote.acted e.own in
        let m : GroupView = ended_call e.turn.call (Some l) x.traffic.flights e.ends.dropped M in
        let quiet : KeepsQuietly Old m =
        told_quietly Old number told h.whole none is e.turn e.is_turn e.own e.is_own x.traffic.flights e.ends.dropped e.ends.reads e.ends.goes e.ends.left in
        let same : New ≡ m = ended_is stores log after T u X x start agent e.turn.call (Some l) e.ends.dropped e.ends.logged e.ends.calls e.ends.wires in
        record {
          kept = subst (λ (v : GroupView). IsKept v base u) (sym same)
              (ended_kept M base T u e.turn.call (Some l) x.traffic.flights e.ends.dropped between quiet.0 (ap (λ (y : TableView). y.earlier) e.ends.calls));
          is = record {
            told = told;
            is_told = is;
            turn = e.turn;
            is_turn = e.is_turn;
            is_call = e.is_call;
            own = e.own;
            is_own = e.is_own;
            ended = end_is stores log after T u X x start agent base e.turn.call (Some l) e.ends.dropped e.ends.logged e.ends.calls e.ends.wires e.ends.goes e.ends.left;
          };
          step = subst (KeepsQuietly Old) (sym same) quiet;
        }
    landed_all (landing.GoesOn call) e =
        let m : GroupView = forgot_awaited told.driver M in
        let quiet : KeepsQuietly Old m = freed_quietly Old number told h.whole none is in
        let same : New ≡ m =
        ap (λ (l : Log). group_of stores l u.calls x.traffic start agent) e.log_is
        ∙ ap (λ (y : TableView). group_of stores log y.calls x.traffic start agent) e.calls
        ∙ ap (λ (y : WiresView). group_of stores log T.calls y.traffic start agent) e.wires in
        record {
          kept = subst (λ (v : GroupView). IsKept v base u) (sym same) (went_kept Old m base t u told.wrote.opid h quiet.0 refl refl refl refl refl (ap (λ (y : TableView). y.earlier) e.calls));
          is = record { told = told; is_told = is; none = e.none; is_call = e.is_call; is = same };
          step = subst (KeepsQuietly Old) (sym same) quiet;
        }
    landed_all landing.Nothing e = absurd e

-- the same where something was told, or nothing
module _ (stores : Stores) (log after : Log) (t u : TableView) (w x : WiresView) (start : Start) (agent : Agent) (base : BaseView) (number : ℕ) where
  abbrev Before : GroupView
  Before = group_of stores log t.calls w.traffic start agent

  abbrev After : GroupView
  After = group_of stores after u.calls x.traffic start agent

  module _ (h : IsKept Before base t) (none : stores.pending ≡ None) where
    pub told_all : (told : Option Told) → MatchOption told (IsUntold w.traffic start.cache_epoch number) (IsTold w.traffic start.cache_epoch number) → (result : Landing)
        → LandsTold told number log after t u w x result → IsLandedIn Before After base u (HearsWrite number Before After result)
    told_all (Some told) is result e = landed_all stores log after t u w x start agent base number told h none is result e
    told_all None not (landing.Answered call) e = absurd e
    told_all None not (landing.GoesOn call) e = absurd e
    told_all None not landing.Nothing e =
        let same : After ≡ Before =
        ap (λ (l : Log). group_of stores l u.calls x.traffic start agent) e.log_is
        ∙ ap (λ (y : TableView). group_of stores log y.calls x.traffic start agent) e.calls
        ∙ ap (λ (y : WiresView). group_of stores log t.calls y.traffic start agent) e.wires in
        record {
          kept = subst (λ (v : GroupView). IsKept v base u) (sym same) (subst (λ (y : TableView). IsKept Before base y) (sym e.calls) h);
          is = (same, not);
          step = subst (KeepsQuietly Before) (sym same) (nothing_quietly Before h.whole);
        }
