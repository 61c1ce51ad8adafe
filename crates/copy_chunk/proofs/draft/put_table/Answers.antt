use Rattle.std.proofs.Common.{◌++◌, List, map, sym, ap, subst, ◌∙◌}
use Rattle.obj_model.specs.declared.out.Pair.{Pair}
use Rattle.copy_chunk.specs.Chunks.{entry_of}
use Rattle.copy_chunk.specs.Gathers.{table_fits}
use Rattle.copy_chunk.specs.Steps.{IsRising}
use Rattle.copy_chunk.proofs.Keys.{taken_rise}
use Rattle.copy_chunk.proofs.draft.put_table.Goals as goal

pub put_pairs-requires : goal.put_pairs-requires
put_pairs-requires c =
    subst (λ (ps : List Pair). IsRising (c.args.table.now.entries ++ map entry_of ps))
    (sym c.into_vec.ensures)
    (taken_rise c.args.most c.args.table.now.entries c.args.pairs c.table_fits.ensures.rising
    (ap (table_fits c.args.most c.args.table.now.entries) (sym c.as_slice.ensures)
    ∙ sym c.table_fits.ensures.exact ∙ c.if-not-table_fits.false))
