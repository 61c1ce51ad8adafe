use Rattle.std.specs.Prelude.{◌≡◌, true}
use Rattle.store_face.specs.Calls.{Stays}
use Rattle.store_face.specs.Views.{Holds, Sound}
use Rattle.pool_survey.specs.Runs.{SoFar}
use Rattle.pool_survey.proofs.sums.sum_records.Given as goal

-- the store stays, and was read up to the place
abbrev pub invariant-loop : goal.invariant-loop
invariant-loop g l = record {
  sound : Sound (g.C.Store.state l.cache);
  live : (g.C.Store.state l.cache).live ≡ true;
  stays : Stays (g.C.Store.state l.fn.cache) (g.C.Store.state l.cache);
  read : Holds (g.C.Store.state l.cache) (SoFar l.run);
}
