use Rattle.std.proofs.Common.{arith, length, ◌≡◌, ◌<◌, ◌+◌, ◌∙◌, sym, subst, take, drop, List, ℕ}
use Rattle.std.proofs.lemmas.List.{take_at}
use Rattle.tier_outside.specs.DiskMoments.{Now}
use Rattle.gate_journal.specs.Journals.{IsRecord}
use Rattle.gate_journal.proofs.Heads.{whole_record}
use Rattle.gate_journal.proofs.record.read_record.Goals as goal

pub returns-clause-read : goal.returns-clause-read
returns-clause-read g c =
    let buffer = c.read_at.new.buf in
    let long : length c.deref_mut.result.now ≡ c.in-Some.size =
    c.deref_mut.ensures.len ∙ c.in_ok-payload.ensures.len in
    let same : length buffer ≡ c.in-Some.size = c.read_at.auto.buf ∙ long in
    let filled : c.from_vec.result ≡ buffer =
    c.from_vec.ensures ∙ take_at buffer
    (drop (length buffer) c.in_ok-payload.payload.items) c.in_ok-payload.payload.len
    (same ∙ sym c.in_ok-payload.ensures.len) in
    let head = rw c.in-Some.is at c.in_ok-size.ensures.read in
    let read = rw c.in_ok-size.ensures.same at c.in_ok-count.ensures.bytes in
    subst (λ (p : List ℕ). (c.args.gate + 5 + length p < c.args.limit)
    × Now (g.D.Disk.moments c.args.disk.now)
    (λ d. IsRecord (take c.args.limit d.content) c.args.gate p))
    (sym filled)
    (whole_record c.args.gate c.args.limit c.in-Some.size c.in_ok-count.count
    (g.D.Disk.moments c.args.disk.now) c.deref_mut.result.now buffer long same c.requires.there
    head.0 head.1 read (omega (
      arith,
      c.if-count-len.false,
      c.len.ensures,
      c.in_ok-payload.ensures.len,
    )))
