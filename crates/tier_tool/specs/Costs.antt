-- What a line uses of the room for the base's log, over a plain store.
use Rattle.std.specs.Prelude.{ℕ, List, [], ◌∷◌}
use Rattle.obj_model.specs.declared.change.Change.{Change}
use Rattle.obj_model.specs.declared.change.Change.TheVariants.{Put}
use Rattle.obj_model.specs.declared.state.NameState.{NameState}
use Rattle.obj_ops.specs.Acts.{act}
use Rattle.obj_ops.specs.Stores.{Store, state_of}
use Rattle.obj_ops.specs.declared.request.Acted.{Acted}
use Rattle.obj_ops.specs.declared.request.Acted.TheVariants.{Fresh, Again, Stale, Worn}
use Rattle.rec_codec.specs.Spelling.{state_bytes}
use Rattle.store_face.specs.Rooms.{record_size}
use Rattle.tier_tool.specs.declared.task.Task.{Task}
use Rattle.tier_tool.specs.declared.task.Task.TheVariants.{Op, Get}

-- the key of a name's state in a base pool: the letter N, and the name
abbrev pub state_key : List ℕ → List ℕ
state_key name = 78 ∷ name

-- the change that gives a name a state
abbrev pub change_of : List ℕ → NameState → List Change
change_of name s = Put (state_key name) (state_bytes s) ∷ []

-- What a request of this name takes of the room where it was answered so: where it acts, the record
-- of its change.
abbrev pub cost_of : List ℕ → Acted → ℕ
cost_of name (Fresh s reply) = record_size (change_of name s)
cost_of name (Again reply) = 0
cost_of name (Stale kept) = 0
cost_of name (Worn limit) = 0

-- what a line takes of the room, over a plain store; a reading takes nothing
abbrev pub cost : Store → Task → ℕ
cost store (Op req) = cost_of req.name (act (state_of store req.name) req)
cost store (Get client name vector) = 0
