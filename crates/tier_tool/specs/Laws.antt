-- What follows from the definition of the answers, in plain words.
use Rattle.std.specs.Prelude.{◌≡◌, ℕ, List, [], ◌∷◌, ◌++◌}
use Rattle.obj_model.specs.declared.change.Pool.TheVariants.{Base}
use Rattle.obj_model.specs.declared.req.Req.{Req}
use Rattle.obj_ops.specs.Stores.{Store, replay}
use Rattle.log_image.specs.Images.{HoldsLog}
use Rattle.store_face.specs.Views.{Durable}
use Rattle.log_store.specs.Opens.{OpensAs}
use Rattle.tier_tool.specs.declared.task.Task.{Task}
use Rattle.tier_tool.specs.declared.task.Task.TheVariants.{Op, Get}
use Rattle.tier_tool.specs.declared.task.Numbered.{Numbered}
use Rattle.tier_tool.specs.Bases.{StandsFor}
use Rattle.tier_tool.specs.Plain.{Plain, after, answers, begun, plain}

-- a request before others, where the line is one
abbrev pub with_request : Task → List Req → List Req
with_request (Op req) others = req ∷ others
with_request (Get client name vector) others = others

-- the write requests among lines, in their order
abbrev pub requests : List Numbered → List Req
requests [] = []
requests (n ∷ lines) = with_request n.line (requests lines)

-- the store and its count behind lines
abbrev pub behind : List Numbered → Plain → Plain
behind [] p = p
behind (n ∷ lines) p = behind lines (after p n.line)

-- what lines are answered does not depend on the lines behind them
abbrev pub LaterLinesChangeNothing : List Numbered → List Numbered → Type 0
LaterLinesChangeNothing before others =
    (store : Store)
    → plain (before ++ others) store
    ≡ plain before store ++ answers others (behind before (begun store))

-- lines leave the store that their write requests leave, one after another
abbrev pub RequestsMakeTheStore : List Numbered → Type 0
RequestsMakeTheStore lines =
    (store : Store) → (behind lines (begun store)).store ≡ replay store (requests lines)

-- A run that opens a disk which is a log goes on from the plain store that its map stands for, with
-- as much of the room used.
abbrev pub TheNextRunGoesOn : Type 0
TheNextRunGoesOn =
    (image : List ℕ) (was log : Durable) (store : Store) → HoldsLog Base 257 image was
    → StandsFor was.table store → OpensAs Base 257 log image
    → StandsFor log.table store × (log.used ≡ was.used)
