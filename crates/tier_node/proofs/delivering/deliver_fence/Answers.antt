use Rattle.tier_core.specs.declared.delivering.Delivered.TheVariants as delivered
use Rattle.tier_node.proofs.Delivered.{delivered_run}
use Rattle.tier_node.proofs.Joined.{run_behind}
use Rattle.tier_node.proofs.KeptFences.{failed_for_all, failed_so}
use Rattle.tier_node.proofs.delivering.deliver_fence.Goals as goal

pub fail_kept-requires-clause-kind : goal.fail_kept-requires-clause-kind
fail_kept-requires-clause-kind g c =
    failed_for_all c.args.message c.args.g.now c.deliver.new.self c.in-Failed.fault
    c.in-Failed.ensures

pub fail_kept-requires-clause-so : goal.fail_kept-requires-clause-so
fail_kept-requires-clause-so g c =
    failed_so c.args.message c.args.g.now c.deliver.new.self c.in-Failed.fault c.in-Failed.ensures
    c.rest.ensures.whole

pub returns-in-Failed-clause-run : goal.returns-in-Failed-clause-run
returns-in-Failed-clause-run g c =
    run_behind c.args.g.now c.deliver.new.self c.fail_kept.new.g
    (delivered_run c.args.message c.args.g.now c.deliver.new.self
    (delivered.Failed c.in-Failed.fault) c.in-Failed.ensures) c.fail_kept.ensures.run

pub returns-in-Carried-clause-run : goal.returns-in-Carried-clause-run
returns-in-Carried-clause-run g c =
    delivered_run c.args.message c.args.g.now c.deliver.new.self
    (delivered.Carried c.in-Carried.reply) c.in-Carried.ensures

pub returns-in-Void-clause-run : goal.returns-in-Void-clause-run
returns-in-Void-clause-run g c =
    delivered_run c.args.message c.args.g.now c.deliver.new.self delivered.Void c.in-Void.ensures

pub returns-in-NoMemory-clause-run : goal.returns-in-NoMemory-clause-run
returns-in-NoMemory-clause-run g c =
    delivered_run c.args.message c.args.g.now c.deliver.new.self delivered.NoMemory
    c.in-NoMemory.ensures

pub returns-in-Nothing-clause-run : goal.returns-in-Nothing-clause-run
returns-in-Nothing-clause-run g c =
    delivered_run c.args.message c.args.g.now c.deliver.new.self delivered.Nothing
    c.in-Nothing.ensures
