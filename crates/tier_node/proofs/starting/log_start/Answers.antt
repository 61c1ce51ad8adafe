use Rattle.std.proofs.Common.{None, Some}
use Rattle.tier_node.proofs.Joined.{run_behind}
use Rattle.tier_node.proofs.Single.{single}
use Rattle.tier_node.proofs.StartFaults.{failed_so}
use Rattle.tier_stop.specs.Needs.{start_needed}
use Rattle.tier_node.proofs.starting.log_start.Goals as goal

pub fail_line-requires : goal.fail_line-requires
fail_line-requires g c = record {
  so = failed_so (start_needed c.args.g.now) (Some c.args.line) None c.in-Failed.fault
      c.args.g.now c.start_step.new.group c.in-Failed.ensures c.rest.ensures.whole;
}

pub returns-in-Failed-clause-run : goal.returns-in-Failed-clause-run
returns-in-Failed-clause-run g c =
    run_behind c.args.g.now c.start_step.new.group c.fail_line.new.g
    (single c.args.g.now c.start_step.new.group c.start_step.ensures.step) c.fail_line.ensures.run

pub returns-in-NoMemory-clause-run : goal.returns-in-NoMemory-clause-run
returns-in-NoMemory-clause-run g c =
    single c.args.g.now c.start_step.new.group c.start_step.ensures.step

pub returns-in-Ready-clause-run : goal.returns-in-Ready-clause-run
returns-in-Ready-clause-run g c =
    single c.args.g.now c.start_step.new.group c.start_step.ensures.step

pub returns-in-Going-clause-run : goal.returns-in-Going-clause-run
returns-in-Going-clause-run g c =
    single c.args.g.now c.start_step.new.group c.start_step.ensures.step

pub returns-in-Sent-clause-run : goal.returns-in-Sent-clause-run
returns-in-Sent-clause-run g c =
    single c.args.g.now c.start_step.new.group c.start_step.ensures.step
