-- A pool's map in memory as its callers see it.
use Rattle.std.specs.Prelude.{List, [], refl}
use Rattle.std.specs.FinMap as fin
use Rattle.std.specs.Coded.{Coded, code_by, coded×, coded_ℕ, coded_list}
use Rattle.obj_model.specs.declared.change.Change.{Change}
use Rattle.obj_model.specs.contracts.change.Change as change
use Rattle.store_face.specs.Tables.{Table}

-- a map, and the changes of it that are prepared
pub record PoolView : Type 0 where
  pub table : Table
  pub ready : List Change

-- a map of which nothing is prepared
abbrev pub at_rest : Table → PoolView
at_rest t = record { table = t; ready = [] }

-- how a map is written down as a value of contracts
abbrev pub coded_pool : Coded PoolView
coded_pool =
    code_by (Table × List Change) (coded× (fin.code (coded_list coded_ℕ) (coded_list coded_ℕ))
    (coded_list change.the_row.coded))
    (λ p. (p.table, p.ready)) (λ c. record { table = c.0; ready = c.1 }) (λ _. refl)
