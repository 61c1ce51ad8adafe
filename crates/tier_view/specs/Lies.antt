-- Lies about a group, each of which what always holds, or growth, refuses.
use Rattle.std.specs.Prelude.{◌≡◌, ◌≢◌, ℕ, Bool, List, [], ◌∷◌, ◌++◌, Option, Some, None}
use Rattle.std.specs.FinMap as fin
use Rattle.obj_ops.specs.Stores.{Store}
use Rattle.store_face.specs.Views.{Durable, StoreView, alone}
use Rattle.obj_model.specs.declared.out.Out.{Out}
use Rattle.obj_model.specs.declared.tier.Kind.{Kind}
use Rattle.tier_chron.specs.Calls.{Call, call_of}
use Rattle.tier_chron.specs.declared.answer.Answer.TheVariants as answer
use Rattle.tier_chron.specs.declared.asked.Asked.TheVariants.{Flush}
use Rattle.tier_chron.specs.declared.entries.Logged.{Logged}
use Rattle.tier_protocol.specs.Tiers.{IsIn}
use Rattle.tier_chron.specs.declared.entries.Act.{Act}
use Rattle.tier_view.specs.Calls.{Entry, Flown}
use Rattle.tier_view.specs.Grows.{Grows, IsTouched, Wanted}
use Rattle.tier_view.specs.Views.{GroupView, calls_in}
use Rattle.tier_view.specs.Whole.{IsWhole}

-- an act, the first of its history, under a call that is not there
abbrev pub StrangersDoNotAct : Type 0
StrangersDoNotAct =
    (v : GroupView) (a : Act) (acts : List Act) → IsWhole v → v.log.acts ≡ a ∷ acts
    → call_of (calls_in v.calls.entries) a.call ≡ None → ⊥

-- an entry, at the end of the table, that asked something else than what was wanted
abbrev pub EntriesAskWhatIsWanted : Type 0
EntriesAskWhatIsWanted =
    (other : Store → Store) (wanted : Option Wanted) (v w : GroupView) (e : Entry)
    → Grows other wanted v w → w.calls.entries ≡ v.calls.entries ++ e ∷ []
    → wanted ≢ Some (record { line = e.line; asked = e.asked }) → ⊥

-- work that is said to have come, and does not stand
abbrev pub MadeUpWorkIsRefused : Type 0
MadeUpWorkIsRefused =
    (other : Store → Store) (wanted : Option Wanted) (v w : GroupView) (f : Flown) → IsWhole w
    → Grows other wanted v w → w.calls.flown ≡ v.calls.flown ++ f ∷ []
    → fin.get w.traffic.flights f.name ≡ None → ⊥

-- A store that had one map, and since then two others one after another: two commits of one step.
abbrev pub SecondCommitsAreRefused : Type 0
SecondCommitsAreRefused =
    (old new : StoreView) (d e f : Durable) → old.moments ≡ Some (alone d ∷ [])
    → new.moments ≡ Some (alone d ∷ alone e ∷ alone f ∷ [])
    → e.table ≢ d.table → f.table ≢ d.table → e.table ≢ f.table → IsTouched old new → ⊥

-- values, the first answer of its history, that are told to a flush
abbrev pub FlushesAreToldNoValues : Type 0
FlushesAreToldNoValues =
    (v : GroupView) (l : Logged) (ls : List Logged) (c : Call) (name : List ℕ)
    (blocking begin_only : Bool) (ver : ℕ) (outs : List Out) → IsWhole v
    → v.log.answers ≡ l ∷ ls → call_of (calls_in v.calls.entries) l.call ≡ Some c
    → c.asked ≡ Flush name blocking begin_only → l.answer ≡ answer.Values ver outs → ⊥

-- a Blocked, the first answer of its history, by work that no other call had
abbrev pub BlockedIsByWork : Type 0
BlockedIsByWork =
    (v : GroupView) (l : Logged) (ls : List Logged) (k : Kind) (op : ℕ) → IsWhole v
    → v.log.answers ≡ l ∷ ls → l.answer ≡ answer.Blocked k op
    → ((f : Flown) → IsIn f v.calls.flown → f.kind ≡ k → f.opid ≡ op → f.call ≡ l.call) → ⊥
