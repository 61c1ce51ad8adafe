use Rattle.std.proofs.Common.{rules, ◌≡◌, ◌∙◌, ap, cond, None, Some}
use Rattle.std.specs.Option.{option_copied}
use Rattle.tier_types.specs.declared.flight.Flight.TheVariants as flight
use Rattle.tier_flight.specs.Indexes.{ends_opid, ends_reads, name_in}
use Rattle.tier_flight.proofs.NumbersLeft.{reads_end}
use Rattle.tier_flight.proofs.numbers.leave_ended.Goals as goal

pub returns-in-Some-Reads : goal.returns-in-Some-Reads
returns-in-Some-Reads c =
    let old = c.args.opids.now in
    let call = c.args.call in
    let list = c.in-Some-Reads.list in
    let there : Some (flight.Reads list) ≡ option_copied c.args.work = search rules in
    λ k. c.leave_ended_reads.ensures k
    ∙ ap (λ rs. cond (ends_reads call rs rs k) None (name_in old k)) c.as_slice.ensures
    ∙ ap (λ b. cond b None (name_in old k)) (reads_end call list k)
    ∙ ap (λ w. cond (ends_opid call w k) None (name_in old k)) there
