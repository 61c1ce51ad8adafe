use Rattle.rec_codec.proofs.Puts.{kept_few}
use Rattle.std.proofs.Common.{◌<◌, length, List, subst, sym}
use Rattle.obj_model.specs.declared.reply.Kept.{Kept}
use Rattle.rec_codec.proofs.writing.put_state.Goals as goal

pub put_kept_list-requires : goal.put_kept_list-requires
put_kept_list-requires c = subst (λ (ks : List Kept). length ks < 65536) (sym c.as_slice.ensures) (kept_few c.args.state.now c.requires)
