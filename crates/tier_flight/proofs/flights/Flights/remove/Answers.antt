use Rattle.std.proofs.Common.{◌∙◌, ap, sym, refl, cond, None, true≢false}
use Rattle.std.specs.FinMap as fin
use Rattle.tier_flight.specs.Indexes.{name_in}
use Rattle.tier_flight.specs.Numbers.{has_call, has_opid}
use Rattle.tier_flight.proofs.Indexed.{kept, lost}
use Rattle.tier_flight.proofs.OneRead.{one_put}
use Rattle.tier_flight.proofs.Standing.{all_lost}
use Rattle.tier_flight.proofs.flights.Flights.remove.Goals as goal

pub invariant_of-self : goal.invariant_of-self
invariant_of-self c =
    let m = c.self.inside.by_name in
    let name = c.args.name.now in
    let opids = c.self.inside.numbers.opids in
    let calls = c.self.inside.numbers.calls in (
      record {
        opid = lost has_opid opids c.leave_all.new.self.opids m c.remove.new.self name None
            c.in-Some.ensures.taken c.self.invariant.0.opid
            (λ k. c.leave_all.ensures.opids k
            ∙ ap (λ b. cond b None (name_in opids k))
            (all_lost has_opid (λ i. refl) (fin.get m name) c.in-Some.work
            c.in-Some.ensures.before k))
            (λ k is. absurd (true≢false (sym is)));
        call = lost has_call calls c.leave_all.new.self.calls m c.remove.new.self name None
            c.in-Some.ensures.taken c.self.invariant.0.call
            (λ k. c.leave_all.ensures.calls k
            ∙ ap (λ b. cond b None (name_in calls k))
            (all_lost has_call (λ i. refl) (fin.get m name) c.in-Some.work
            c.in-Some.ensures.before k))
            (λ k is. absurd (true≢false (sym is)));
      },
      one_put m c.remove.new.self name None c.in-Some.ensures.taken c.self.invariant.1 (λ call. tt),
    )

pub invariant_of-self-in-None : goal.invariant_of-self-in-None
invariant_of-self-in-None c =
    let m = c.self.inside.by_name in
    let name = c.args.name.now in (
      record {
        opid = kept has_opid c.self.inside.numbers.opids m c.remove.new.self name None
            c.in-None.ensures.taken c.self.invariant.0.opid
            (λ k. ap (λ w. has_opid w k) c.in-None.ensures.before);
        call = kept has_call c.self.inside.numbers.calls m c.remove.new.self name None
            c.in-None.ensures.taken c.self.invariant.0.call
            (λ k. ap (λ w. has_call w k) c.in-None.ensures.before);
      },
      one_put m c.remove.new.self name None c.in-None.ensures.taken c.self.invariant.1 (λ call. tt),
    )
