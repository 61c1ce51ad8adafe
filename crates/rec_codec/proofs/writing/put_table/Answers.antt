use Rattle.std.proofs.Common.{◌≡◌, List, None, subst, ◌∙◌}
use Rattle.std.specs.List.{AllByRecursion}
use Rattle.std.specs.Map.Iter.{deref_pair}
use Rattle.std.proofs.lemmas.Map.Iter.{rest_all}
use Rattle.obj_model.specs.Names.{name_fault}
use Rattle.rec_codec.specs.Spelling.{Entry}
use Rattle.rec_codec.proofs.Puts.{table_starts, table_short, table_named}
use Rattle.rec_codec.proofs.writing.put_table.Goals as goal

pub loop-key-init : goal.loop-key-init
loop-key-init c =
    let left = c.into_iter-key-iterator.ensures.into_iter_gives ∙ c.iter-key-items.ensures.entries in
    record {
      put = table_starts c.args.out.now.items c.put_u16.new.out.items c.args.pairs.now c.len.result c.into_iter-key-iterator.result c.len.ensures c.in_ok-put_u16.ensures left;
      named = λ h. subst (λ (es : List Entry). AllByRecursion (λ e. name_fault e.0 ≡ None) es) left h;
      short = table_short c.args.pairs.now c.into_iter-key-iterator.result c.requires left;
    }

pub returns-clause-named : goal.returns-clause-named
returns-clause-named c =
    table_named c.args.pairs.now c.loop-key.key-iterator (rest_all deref_pair c.loop-key.key-iterator c.next.new.self c.next.result c.in-None.is c.next.ensures.steps) c.loop-key.invariant.named
