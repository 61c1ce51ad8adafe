-- The plain store at each place of a history. The store at which the history began is handed in
-- everywhere.
use Rattle.std.specs.Prelude.{ℕ, zero, suc, List, [], ◌∷◌, take, map, slice_get, Option, None}
use Rattle.std.specs.FinMap as fin
use Rattle.obj_model.specs.declared.req.Req.{Req}
use Rattle.obj_model.specs.declared.state.NameState.{NameState}
use Rattle.obj_ops.specs.Acts.{act}
use Rattle.obj_ops.specs.Stores.{Store, state_of, store_after, replay}
use Rattle.tier_chron.specs.declared.entries.First.{First}
use Rattle.tier_chron.specs.declared.entries.Act.{Act}

-- a store behind one request
abbrev pub behind_one : Store → Req → Store
behind_one store r = store_after store r.name (act (state_of store r.name) r)

-- a store behind acts: their requests are done one after another
abbrev pub behind : Store → List Act → Store
behind start acts = replay start (map (λ a. a.req) acts)

-- the store at a place: the first store behind so many of the acts
abbrev pub store_at : Store → List Act → ℕ → Store
store_at start acts place = behind start (take place acts)

-- the state of a name at a place
abbrev pub state_at : Store → List Act → ℕ → List ℕ → NameState
state_at start acts place name = state_of (store_at start acts place) name

-- the act of a number, counted from 1
abbrev pub act_at : List Act → ℕ → Option Act
act_at acts zero = None
act_at acts (suc k) = slice_get acts k

-- a store with the openings written over it
abbrev pub written_over : Store → List First → Store
written_over store [] = store
written_over store (f ∷ opening) = fin.insert (written_over store opening) f.name f.state
