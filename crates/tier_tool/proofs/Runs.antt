-- How a run on the base ends, from how it was opened, what was told, and how it was closed.
use Rattle.tier_outside.specs.Moments as moments
use Rattle.std.proofs.Common.{◌≡◌, inl, inr, ◌≤◌, ℕ, List, [], ◌∷◌, ◌++◌, Option, Some, None}
use Rattle.std.proofs.Common.{refl, sym, ap, subst, ◌∙◌}
use Rattle.log_image.specs.Images.{HoldsLog}
use Rattle.log_store.specs.Commits.{SameStore}
use Rattle.log_store.specs.Opens.{KeepsRefused, Opened, OpeningStops, OpensAs, Refused}
use Rattle.log_store.specs.Views.{EachHolds, HoldsEither, LogView, store_of}
use Rattle.log_store.specs.declared.fault.AttachFault.{AttachFault}
use Rattle.log_store.specs.declared.fault.AttachFault.TheVariants as fault
use Rattle.obj_model.specs.declared.change.Pool.TheVariants.{Base}
use Rattle.obj_ops.specs.Stores.{Store}
use Rattle.report_text.specs.Faults.{bad_image_text, wrong_pair_text}
use Rattle.store_face.specs.Tables.{Table}
use Rattle.store_face.specs.Views.{CrashMaps, Durable, alone, no_map}
use Rattle.store_face.specs.Views as store
use Rattle.tier_outside.specs.Causes.{Rose}
use Rattle.tier_outside.specs.Disk.{DiskMoment, EachImage, IsImage}
use Rattle.tier_outside.specs.DiskMoments.{last, grown, Leaves, SomeImage}
use Rattle.tier_outside.proofs.DiskMoments.{now_since, now_weaker}
use Rattle.tier_tool.specs.Bases.{StandsFor}
use Rattle.tier_tool.specs.Lines.{Ending, IsLeft, LineAnswer, AnswersLines, Standing}
use Rattle.tier_tool.specs.Lines.{EndsAs, given, lines_given, standing}
use Rattle.tier_tool.specs.Lines.Ending.{Failed, Lacking, Unheard, Unwritten, Whole}
use Rattle.tier_tool.specs.Lines.LineAnswer.{Given, NoRoom, BadRecord}
use Rattle.tool_jobs.specs.Outside.{Targets, base_of, room_of}
use Rattle.tier_tool.specs.Plain.{Plain, after, answered, answers}
use Rattle.tier_tool.specs.Runs.{BackLeaves, IsKept, RunsTasks, SaidFrom}
use Rattle.tier_tool.specs.Steps.Opening.{TellsUnopened}
use Rattle.tier_tool.specs.Steps.Serving.{GoesOn}
use Rattle.tier_tool.specs.Steps.Telling.{SaysFrom, TellsLines}
use Rattle.tool_jobs.specs.Putting.{Took}
use Rattle.tier_tool.specs.declared.task.Numbered.{Numbered}
use Rattle.tool_jobs.proofs.Told.{rose_later}
use Rattle.tier_tool.proofs.Views.{now_same}

abbrev DiskMoments : Type 0
DiskMoments = Option (List DiskMoment)

-- ---- the base was not opened

-- what a crash leaves now was left by a crash since, or nothing changed
back_leaves : (old new : DiskMoments) → Leaves old new (OpeningStops Base 257)
    → BackLeaves old new (OpeningStops Base 257)
back_leaves None new left = tt
back_leaves (Some ds) new left =
    now_since (Some ds) new (OpeningStops Base 257 (last ds)) (λ image is. inl is) left

-- what was refused was not written
back_kept : (old new : DiskMoments) → Leaves old new IsImage → BackLeaves old new IsImage
back_kept None new left = tt
back_kept (Some ds) new left = now_since (Some ds) new (IsImage (last ds)) (λ image is. is) left

-- the base was not opened, and why was told
pub unopened_runs : (lines : List Numbered) (f : AttachFault) (old new : Targets) (status : ℕ)
    → Refused Base 257 (base_of old.pairs).moments
    (Rose (base_of old.pairs).faults (base_of new.pairs).faults) f
    → KeepsRefused (base_of old.pairs).moments (base_of new.pairs).moments f
    → Leaves (base_of old.pairs).moments (base_of new.pairs).moments (OpeningStops Base 257)
    → TellsUnopened f old.out new.out status → RunsTasks lines old new status
unopened_runs lines fault.Disk old new status refused kept left tells =
    inr (inl (record {
      ended = tells.0;
      cause = refused;
      silent = tells.1;
      base_kept = back_leaves _ _ left;
    }))
unopened_runs lines (fault.BadImage at) old new status refused kept left tells =
    inr (inr (inl (record {
      why = bad_image_text Base 0 at;
      cause = inl (at, refl, refused);
      base_kept = back_kept _ _ kept;
      told = tells;
    })))
unopened_runs lines (fault.WrongPair found want) old new status refused kept left tells =
    inr (inr (inl (record {
      why = wrong_pair_text Base 0 found want;
      cause = inr (found, ap (λ k. wrong_pair_text Base 0 found k) refused.0, refused.1, refused.2);
      base_kept = back_kept _ _ kept;
      told = tells;
    })))
unopened_runs lines fault.NoMemory old new status refused kept left tells =
    inl (record { ended = tells.0; silent = tells.1; base_kept = back_leaves _ _ left })

-- ---- the base was opened

-- how a run of lines ends does not depend on why the disk failed
ends_weaker : (disk_rose whole_disk sink_rose : Type 0) (said : List LineAnswer) (left : List Numbered)
    (ending : Ending) (put : List ℕ) (status : ℕ) → (disk_rose → whole_disk)
    → EndsAs disk_rose sink_rose said left ending put status
    → EndsAs whole_disk sink_rose said left ending put status
ends_weaker disk_rose whole_disk sink_rose said left Whole put status weaker ends = ends
ends_weaker disk_rose whole_disk sink_rose said left Unheard put status weaker ends = ends
ends_weaker disk_rose whole_disk sink_rose said left Unwritten put status weaker ends = ends
ends_weaker disk_rose whole_disk sink_rose said left (Failed n) put status weaker ends = record {
  others = ends.others;
  at = ends.at;
  cause = weaker ends.cause;
  part = ends.part;
  told = ends.told;
  heard = ends.heard;
}
ends_weaker disk_rose whole_disk sink_rose said left (Lacking n) put status weaker ends = ends

-- whatever a crash leaves of the disk holds a map that was left
kept_now : (base : DiskMoments) (s : CrashMaps) (q : Standing) (ending : Ending)
    → EachHolds Base 257 base s → IsLeft q ending s.before → IsLeft q ending s.after
    → IsKept q ending base
kept_now base s q ending holds before after_ =
    now_weaker base (λ e. EachImage e (HoldsEither Base 257 s))
    (λ e. EachImage e (λ image. (log : Durable) × HoldsLog Base 257 image log
    × IsLeft q ending log))
    (λ e each image is. one image (each image is)) holds
  where
    one : (image : List ℕ) → HoldsEither Base 257 s image
        → (log : Durable) × HoldsLog Base 257 image log × IsLeft q ending log
    one image (inl h) = (s.before, h, before)
    one image (inr h) = (s.after, h, after_)

-- the answers among what is said are the plain store's, to the lines that were answered
given_answers : (t : Table) (room : ℕ) (p q : Standing) (lines : List Numbered)
    (said : List LineAnswer) (left : List Numbered) → AnswersLines t room p lines said left q
    → given said ≡ answers (lines_given lines said) p.plain
given_answers t room p q lines [] left says = refl
given_answers t room p q [] (s ∷ said) left says = absurd says
given_answers t room p q (n ∷ lines) (Given a ∷ said) left says =
    let behind : says.0.plain ≡ after p.plain n.line = ap (λ (w : Standing). w.plain) says.1.3 in
    let more = given_answers t room says.0 q lines said left says.2 in
    ap (λ x. x ∷ given said) says.1.1
    ∙ ap (λ rest. answered p.plain n ∷ rest)
    (more ∙ ap (λ (w : Plain). answers (lines_given lines said) w) behind)
given_answers t room p q (n ∷ lines) (NoRoom number used more limit ∷ said) left says =
    let behind : says.0.plain ≡ p.plain = ap (λ (w : Standing). w.plain) says.1.7 in
    given_answers t room says.0 q lines said left says.2
    ∙ ap (λ (w : Plain). answers (lines_given lines said) w) behind
given_answers t room p q (n ∷ lines) (BadRecord number name ∷ said) left says =
    let behind : says.0.plain ≡ p.plain = ap (λ (w : Standing). w.plain) says.1.3 in
    given_answers t room says.0 q lines said left says.2
    ∙ ap (λ (w : Plain). answers (lines_given lines said) w) behind

kept_said : (t : Table) (room : ℕ) (st : Store) (used : ℕ) (lines : List Numbered)
    (said : List LineAnswer) (left : List Numbered) (ending : Ending) (w : LogView) (base : DiskMoments)
    (ss more : List CrashMaps) → w.moments ≡ moments.grown (Some ss) more
    → store.Now (store_of w) (EachHolds Base 257 base)
    → SaysFrom t room (standing st used) lines said left ending (store_of w)
    → SaidFrom t room st used lines said left ending base
kept_said t room st used lines said left ending w base ss more grew holds says =
    let there = Some (ss ++ more) in
    record {
      now = says.now;
      says = says.says;
      plainly = given_answers t room (standing st used) says.now lines said left says.says;
      kept = kept_now base (moments.last no_map (ss ++ more)) says.now ending
          (now_same w.moments there (EachHolds Base 257 base) grew holds)
          (now_same w.moments there (λ s. IsLeft says.now ending s.before) grew says.before)
          (now_same w.moments there (λ s. IsLeft says.now ending s.after) grew says.after_);
    }

-- the store that was closed is of the pool and pair that was opened
same_sides : (room : ℕ) (old base : DiskMoments) (v w : LogView) → Opened Base 257 room old v
    → SameStore v w → store.Now (store_of w) (EachHolds w.role w.pair base)
    → store.Now (store_of w) (EachHolds Base 257 base)
same_sides room old base v w opened same holds =
    let role : w.role ≡ Base = same.role ∙ opened.role_is in
    let pair : w.pair ≡ 257 = same.pair ∙ opened.pair_is in
    subst (λ k. store.Now (store_of w) (EachHolds Base k base)) pair
    (subst (λ r. store.Now (store_of w) (EachHolds r w.pair base)) role holds)

-- the base was opened, lines were told, and it was closed
pub opened_runs : (lines : List Numbered) (old new : Targets) (v w : LogView) (status : ℕ)
    → Opened Base 257 (room_of old.pairs) (base_of old.pairs).moments v
    → Leaves (base_of old.pairs).moments v.disk (OpeningStops Base 257) → SameStore v w
    → GoesOn (store_of v) (store_of w)
    → store.Now (store_of w) (EachHolds w.role w.pair (base_of new.pairs).moments)
    → (base_of old.pairs).faults ≤ v.faults → (base_of new.pairs).faults ≡ w.faults
    → Took old.out.bytes new.out.bytes
    (λ put. TellsLines lines v w (Rose v.faults w.faults)
    (Rose old.out.faults new.out.faults) put status)
    → RunsTasks lines old new status
opened_runs lines old new v w status opened stops same goes holds later faults told =
    let tells = told.2 in
    inr (inr (inr (record {
      said = tells.said;
      left = tells.left;
      ending = tells.ending;
      put = told.0;
      taken = told.1;
      ends = ends_weaker _ _ _ tells.said tells.left tells.ending told.0 status
          (rose_as (base_of old.pairs).faults v.faults w.faults (base_of new.pairs).faults later
          faults) tells.ends;
      from = from tells (base_of old.pairs).moments stops.grew opened.from;
    })))
  where
    room : ℕ
    room = room_of old.pairs

    base : DiskMoments
    base = (base_of new.pairs).moments

    rose_as : (a b c d : ℕ) → a ≤ b → d ≡ c → Rose b c → Rose a d
    rose_as a b c d h same rose = subst (Rose a) (sym same) (rose_later a b c h rose)

    TellsPut : List ℕ → Type 0
    TellsPut put =
        TellsLines lines v w (Rose v.faults w.faults) (Rose old.out.faults new.out.faults) put status

    AnswersLines : (put : List ℕ) → TellsPut put → ℕ → Table → Type 0
    AnswersLines put tells limit t =
        (st : Store) → StandsFor t st
        → SaysFrom t limit (standing st v.used) lines tells.said tells.left tells.ending
        (store_of w)

    from : {put : List ℕ} (tells : TellsPut put) (a : DiskMoments) → v.disk ≡ grown a stops.more
        → SomeImage a (OpensAs Base 257 (record { table = opened.table; used = v.used }))
        → SomeImage a (λ image. (log : Durable) × OpensAs Base 257 log image
        × ((st : Store) → StandsFor log.table st
        → SaidFrom log.table room st log.used lines tells.said tells.left tells.ending base))
    from tells None grew left = tt
    from tells (Some ds) grew left =
        let log : Durable = record { table = opened.table; used = v.used } in
        let one = alone log ∷ [] in
        let tells_of : v.moments ≡ Some one =
        opened.told_is ∙ ap (λ x. moments.told x one) grew in
        let says = subst (λ limit. AnswersLines _ tells limit opened.table) opened.room_is
        (now_same v.moments (Some one) (λ (s : CrashMaps). AnswersLines _ tells v.room s.before.table)
        tells_of tells.from) in
        let later : w.moments ≡ moments.grown (Some one) goes.more =
        goes.grew ∙ ap (λ m. moments.grown m goes.more) tells_of in (
          left.0,
          left.1,
          (
            log,
            left.2,
            λ st stands. kept_said opened.table room st v.used lines tells.said tells.left
                tells.ending w base one goes.more later
                (same_sides room (base_of old.pairs).moments base v w opened same holds)
                (says st stands),
          ),
        )
