use Rattle.std.specs.Prelude.{◌≡◌, ◌≤◌, ◌++◌, length, None}
use Rattle.std.specs.List.{flat_map, AllByRecursion}
use Rattle.std.specs.FinMap as fin
use Rattle.obj_model.specs.Names.{name_fault}
use Rattle.rec_codec.specs.Spelling.{pair, table}
use Rattle.rec_codec.proofs.writing.put_table.Given as goal

-- what was put and the pairs that are left are the whole; if the keys that are left are names, so are all
abbrev pub invariant-loop-key : goal.invariant-loop-key
invariant-loop-key l = record {
  put : l.out.items ++ flat_map pair l.key-iterator ≡ l.fn.out.items ++ table l.pairs;
  named : AllByRecursion (λ e. name_fault e.0 ≡ None) l.key-iterator → AllByRecursion (λ e. name_fault e.0 ≡ None) (fin.entries l.pairs);
  short : AllByRecursion (λ e. length e.1 ≤ 4096) l.key-iterator;
}
