-- The store at which a group began: at whatever a stop leaves of the pools, their maps spell a
-- sound pair in which each Write has its owner, and the history is one from that store.
use Rattle.std.specs.Prelude.{◌≡◌, ◌⊎◌, List, Option, Some, None}
use Rattle.obj_model.specs.declared.state.NameState.{NameState}
use Rattle.obj_ops.specs.Acts.{act}
use Rattle.obj_ops.specs.Stores.{Store, state_of}
use Rattle.obj_ops.specs.declared.request.Acted.TheVariants.{Fresh}
use Rattle.tier_chron.specs.Fits.{IsHistoryFrom}
use Rattle.tier_chron.specs.Laws.{IsNamedFor, IsOpeningFor, MayAct}
use Rattle.tier_chron.specs.Logs.{Log}
use Rattle.tier_chron.specs.Places.{behind}
use Rattle.tier_join.specs.Group.{Memory, TwoMaps, AreLeft, BeganAt, ShowsIn, Spells, map_in, tier_of, with_act, with_epoch}
use Rattle.tier_protocol.specs.Owners.{Ledger, SoundOwners, with_call_act}
use Rattle.tier_view.specs.Calls.{Entry}
use Rattle.tier_view.specs.Stores.{Pending}
use Rattle.tier_view.specs.Views.{GroupView, act_in, calls_in, joined, ledger_in, memory_of}

-- The maps spell a sound pair with this memory, and in it each Write has its owner.
pub record IsOwned (start : Store) (m : Memory) (l : Ledger) (z : TwoMaps) : Type 0 where
  pub spells : Spells start m z
  pub owners : SoundOwners (tier_of start m spells.recs spells.base) l

-- Maps that have the commit in doubt, where memory has to follow. An act that they show is that of
-- the call with which it is kept.
abbrev pub IsOwnedWith : Store → Memory → Ledger → Pending → TwoMaps → Type 0
IsOwnedWith start m l (Pending.Plain pool name) z = ⊥
IsOwnedWith start m l (Pending.Act pool first a seq) z =
    ShowsIn pool a.req.name seq (map_in pool z)
    × IsOwned start (with_act a.req m) (with_call_act (act_in a) l) z
IsOwnedWith start m l (Pending.Epoch pool e) z = IsOwned start (with_epoch pool e m) l z

abbrev pub IsOwnedBy : Store → Memory → Ledger → Option Pending → TwoMaps → Type 0
IsOwnedBy start m l None z = IsOwned start m l z
IsOwnedBy start m l (Some p) z = IsOwned start m l z ⊎ IsOwnedWith start m l p z

-- An act in doubt is the next one of the plain store, with its reply and its opening.
abbrev pub IsNextAct : Store → Log → Option Pending → Type 0
IsNextAct start log None = Unit {0}
IsNextAct start log (Some (Pending.Plain pool name)) = Unit {0}
IsNextAct start log (Some (Pending.Act pool first a seq)) =
    ((after : NameState)
    × (act (state_of (behind start log.acts) a.req.name) a.req ≡ Fresh after a.reply)
    × (after.seq ≡ seq))
    × IsOpeningFor (behind start log.acts) log.opening a first
IsNextAct start log (Some (Pending.Epoch pool e)) = Unit {0}

-- the same, as far as it speaks of no store: its call may act
abbrev pub MayPend : List Entry → Log → Option Pending → Type 0
MayPend entries log None = Unit {0}
MayPend entries log (Some (Pending.Plain pool name)) = Unit {0}
MayPend entries log (Some (Pending.Act pool first a seq)) =
    MayAct (calls_in entries) log a × IsNamedFor log.opening a first
MayPend entries log (Some (Pending.Epoch pool e)) = Unit {0}

-- the pools and the ledger, in one of the two worlds of a doubt
abbrev pub HasOwners : Store → GroupView → TwoMaps → Type 0
HasOwners start v z =
    IsOwnedBy start (memory_of v.log v.traffic v.standing) (ledger_in v) v.stores.pending z

-- The group began at this store.
pub record Began (start : Store) (v : GroupView) : Type 0 where
  pub pools : BeganAt start (joined v)
  pub owners : (z : TwoMaps) → AreLeft (joined v) z → HasOwners start v z
  pub history : IsHistoryFrom start (calls_in v.calls.entries) v.log
  pub next : IsNextAct start v.log v.stores.pending
