use Rattle.std.specs.Prelude.{◌≡◌, true}
use Rattle.store_face.specs.Views.{Sound}
use Rattle.pool_survey.specs.Runs.{AreRead}
use Rattle.pool_survey.specs.Surveys.{BothStay}
use Rattle.pool_survey.proofs.both.survey.Given as goal

-- both stores stay, and were read up to their places
abbrev pub invariant-loop : goal.invariant-loop
invariant-loop g l = record {
  cache_sound : Sound (g.C.Store.state l.cache);
  base_sound : Sound (g.B.Store.state l.base);
  cache_live : (g.C.Store.state l.cache).live ≡ true;
  base_live : (g.B.Store.state l.base).live ≡ true;
  stay : BothStay (g.C.Store.state l.fn.cache) (g.C.Store.state l.cache) (g.B.Store.state l.fn.base) (g.B.Store.state l.base);
  read : AreRead l.run (g.C.Store.state l.cache) (g.B.Store.state l.base);
}
