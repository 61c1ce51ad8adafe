-- What answers behind a commit of the cache rest on.
use Rattle.std.proofs.Common.{◌≡◌, suc, List, [], ◌∷◌, ◌++◌, length, Some, take, refl, sym, ap, subst, ◌∙◌}
use Rattle.std.specs.Prelude.{slice_get}
use Rattle.std.specs.Option.{option_map}
use Rattle.obj_ops.specs.Stores.{state_of}
use Rattle.tier_chron.specs.Fits.{TellsRead, TellsWrite}
use Rattle.tier_chron.specs.Places.{act_at, behind, state_at}
use Rattle.tier_chron.specs.declared.entries.Act.{Act}
use Rattle.tier_join.proofs.Telling.{records_are_plain}
use Rattle.tier_view.specs.Locals.{LastActIsPlaced, RecordsAnswerPlainly, RecordsTellTruth}
use Rattle.tier_view.specs.Stores.{doubt_in}

last_there : (acts : List Act) (a : Act) → slice_get (acts ++ a ∷ []) (length acts) ≡ Some a
last_there [] a = refl
last_there (x ∷ acts) a = last_there acts a

one_longer : (acts : List Act) (a : Act) → length (acts ++ a ∷ []) ≡ suc (length acts)
one_longer [] a = refl
one_longer (x ∷ acts) a = ap (λ n. suc n) (one_longer acts a)

pub last_act_is_placed : LastActIsPlaced
last_act_is_placed first a v = ap (act_at (v.log.acts ++ a ∷ [])) (one_longer v.log.acts a) ∙ last_there v.log.acts a

all_taken : (acts : List Act) → take (length acts) acts ≡ acts
all_taken [] = refl
all_taken (x ∷ acts) = ap (λ xs. x ∷ xs) (all_taken acts)

pub records_answer_plainly : RecordsAnswerPlainly
records_answer_plainly start v k r told b none has =
    ap (λ acts. state_of (behind start acts) k) (all_taken v.log.acts)
    ∙ sym (records_are_plain start _ k r (record { tell = told; began = b.pools; settled = ap (option_map doubt_in) none }) has)

pub records_tell_truth : RecordsTellTruth
records_tell_truth start v k r place told b none has at =
    let same : state_at start v.log.acts place k ≡ r.state = ap (λ n. state_at start v.log.acts n k) at ∙ records_answer_plainly start v k r told b none has in
    record {
      writes = λ q l tells. subst (λ s. TellsWrite s v.log.acts q l l.answer) (sym same) tells;
      reads = λ vector x tells. subst (λ s. TellsRead s vector x) (sym same) tells;
    }
