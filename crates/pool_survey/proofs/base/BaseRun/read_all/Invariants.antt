use Rattle.std.specs.Prelude.{◌≡◌, true}
use Rattle.std.specs.Option.{option_copied}
use Rattle.store_face.specs.Views.{Sound}
use Rattle.pool_survey.proofs.BaseReads.{Reading}
use Rattle.pool_survey.proofs.base.BaseRun.read_all.Given as goal

-- what was read up to the place
abbrev pub invariant-loop : goal.invariant-loop
invariant-loop g l = record {
  sound : Sound (g.P.Store.state l.base);
  live : (g.P.Store.state l.base).live ≡ true;
  reading : Reading (option_copied l.bound) l.fn.self l.self (g.P.Store.state l.fn.base) (g.P.Store.state l.base);
}
