use Rattle.std.proofs.Common.{Option, Some, None, refl, subst, sym}
use Rattle.obj_model.specs.declared.tier.Path.TheVariants.{Hit}
use Rattle.tier_chron.specs.declared.answer.Answer.{Answer}
use Rattle.tier_core.specs.declared.serving.Served.TheVariants.{Answered, Absent, Unread, Uncommitted}
use Rattle.tier_moves.proofs.ServedCalls.{absent_leaves, absent_may_go, answered_step, may_be_served, silent_ends, uncommitted_ends, uncommitted_leaves, unread_ends, unread_leaves}
use Rattle.tier_moves.specs.Begins.{EndsBy, MayEndBy}
use Rattle.tier_moves.proofs.serving.serve.Goals as goal

pub serve_here-requires-clause-may : goal.serve_here-requires-clause-may
serve_here-requires-clause-may g c =
    may_be_served c.args.ask.now c.args.g.now c.args.turn c.requires.entered c.requires.clear

pub returns-in-Answered-clause-step : goal.returns-in-Answered-clause-step
returns-in-Answered-clause-step g c =
    answered_step c.args.turn c.args.ask.now c.args.g.now c.serve_here.new.self
    c.rest.ensures.whole c.requires.entered Answered c.in-Answered.ensures.serves refl

pub go-requires : goal.go-requires
go-requires g c =
    absent_may_go c.args.turn c.args.ask.now c.args.g.now c.serve_here.new.self
    c.rest.ensures.whole c.requires.entered c.requires.clear c.in-Absent.ensures.serves

pub returns-in-Absent-clause-served : goal.returns-in-Absent-clause-served
returns-in-Absent-clause-served g c = record {
  behind = c.serve_here.new.self;
  came = Absent;
  serves = c.in-Absent.ensures.serves;
  bare = c.in-Absent.ensures.bare;
  ends = c.go.ensures.goes;
}

pub returns-in-Absent-clause-step : goal.returns-in-Absent-clause-step
returns-in-Absent-clause-step g c =
    let v = c.args.g.now in
    let w = c.serve_here.new.self in
    let s = c.in-Absent.ensures.serves in
    silent_ends c.args.turn c.args.ask.now v w c.rest.ensures.whole c.requires.entered Absent s
    (absent_leaves c.args.turn c.args.ask.now v w c.rest.ensures.whole c.requires.entered s)
    c.go.new.g c.go.ensures.step

pub end_by-requires : goal.end_by-requires
end_by-requires g c =
    subst (MayEndBy c.serve_here.new.self c.args.turn None) (sym c.told_unread.ensures)
    (unread_ends c.args.turn c.args.ask.now c.args.g.now c.serve_here.new.self
    c.rest.ensures.whole c.requires.entered c.in-Unread.fault c.in-Unread.ensures.serves)

pub returns-in-Unread-clause-served : goal.returns-in-Unread-clause-served
returns-in-Unread-clause-served g c = record {
  behind = c.serve_here.new.self;
  came = Unread c.in-Unread.fault;
  serves = c.in-Unread.ensures.serves;
  bare = tt;
  ends = subst (λ (met : Option Answer).
      EndsBy c.args.turn None met c.serve_here.new.self c.end_by.new.g c.end_by.result)
      c.told_unread.ensures c.end_by.ensures.ended;
}

pub returns-in-Unread-clause-step : goal.returns-in-Unread-clause-step
returns-in-Unread-clause-step g c =
    let v = c.args.g.now in
    let w = c.serve_here.new.self in
    let s = c.in-Unread.ensures.serves in
    silent_ends c.args.turn c.args.ask.now v w c.rest.ensures.whole c.requires.entered
    (Unread c.in-Unread.fault) s
    (unread_leaves c.args.turn c.args.ask.now v w c.rest.ensures.whole c.requires.entered
    c.in-Unread.fault s)
    c.end_by.new.g c.end_by.ensures.step

pub end_by-requires-in-Uncommitted : goal.end_by-requires-in-Uncommitted
end_by-requires-in-Uncommitted g c =
    subst (MayEndBy c.serve_here.new.self c.args.turn (Some Hit)) (sym c.told_of.ensures)
    (uncommitted_ends c.args.turn c.args.ask.now c.args.g.now c.serve_here.new.self
    c.rest.ensures.whole c.requires.entered c.in-Uncommitted.fault
    c.in-Uncommitted.ensures.serves)

pub returns-in-Uncommitted-clause-served : goal.returns-in-Uncommitted-clause-served
returns-in-Uncommitted-clause-served g c = record {
  behind = c.serve_here.new.self;
  came = Uncommitted c.in-Uncommitted.fault;
  serves = c.in-Uncommitted.ensures.serves;
  bare = tt;
  ends = subst (λ (met : Option Answer).
      EndsBy c.args.turn (Some Hit) met c.serve_here.new.self c.end_by-in-Uncommitted.new.g c.end_by-in-Uncommitted.result)
      c.told_of.ensures c.end_by-in-Uncommitted.ensures.ended;
}

pub returns-in-Uncommitted-clause-step : goal.returns-in-Uncommitted-clause-step
returns-in-Uncommitted-clause-step g c =
    let v = c.args.g.now in
    let w = c.serve_here.new.self in
    let s = c.in-Uncommitted.ensures.serves in
    silent_ends c.args.turn c.args.ask.now v w c.rest.ensures.whole c.requires.entered
    (Uncommitted c.in-Uncommitted.fault) s
    (uncommitted_leaves c.args.turn c.args.ask.now v w c.rest.ensures.whole c.requires.entered
    c.in-Uncommitted.fault s)
    c.end_by-in-Uncommitted.new.g c.end_by-in-Uncommitted.ensures.step
