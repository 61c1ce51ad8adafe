use Rattle.std.specs.Prelude.{◌≡◌, ◌+◌, ◌*◌, ◌≤◌, drop}
use Rattle.hit_archive.specs.Archives.{warmth, grade}
use Rattle.hit_archive.proofs.sets.sum_of_grades.Given as goal

-- the sum so far and what is left are the whole sum, and the grade is that of the next set
abbrev pub invariant-loop-set : goal.invariant-loop-set
invariant-loop-set l = record {
  adds : l.total + warmth l.name l.decay l.set-index (drop l.set-index l.sets) ≡ warmth l.name l.decay 0 l.sets;
  its_grade : l.grade ≡ grade l.decay l.set-index;
  grade_bound : l.grade ≤ 1000000;
  bound : l.total ≤ 1000000 * l.set-index;
}
