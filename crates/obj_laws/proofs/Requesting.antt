-- What is kept of requests, over runs of requests.
use Rattle.std.proofs.Common.{◌≡◌, ◌≢◌, ◌<◌, ◌≤◌, ℕ, ◌^◌, Bool, true, false, eqb, List, [], ◌∷◌, ◌++◌, Option, Some, None, Result, Ok, Err, refl, sym, ap, subst, ◌∙◌, arith}
use Rattle.std.proofs.lemmas.Bool.{eqb-true, eqb-false}
use Rattle.obj_model.specs.declared.reply.Kept.{Kept}
use Rattle.obj_model.specs.declared.reply.Reply.{Reply}
use Rattle.obj_model.specs.declared.req.Req.{Req}
use Rattle.obj_model.specs.declared.state.NameState.{NameState}
use Rattle.obj_model.specs.declared.state.Obj.{Obj}
use Rattle.obj_ops.specs.declared.request.Acted.{Acted}
use Rattle.obj_ops.specs.declared.request.Acted.TheVariants.{Fresh, Again, Stale, Worn}
use Rattle.obj_ops.specs.Ops.{Run, Refusal, run}
use Rattle.obj_ops.specs.Acts.{act, acted, after, keep, kept_of, state_after}
use Rattle.obj_ops.specs.Laws.{IsDone}
use Rattle.obj_ops.specs.Stores.{Store, state_of, store_after, replay}
use Rattle.obj_ops.proofs.Cases.{act_cases, IsNewer}
use Rattle.obj_ops.proofs.Keeping.{kept_of-keep_same, kept_of-keep_other}
use Rattle.obj_ops.proofs.Replays.{at_most_once}
use Rattle.obj_ops.proofs.Stores.{after_cases}
use Rattle.obj_laws.specs.Requests.{ActLowersNoTid, ActsCount, AnswersStay, Follows, HasTid, IsActed, IsBefore, IsFresh, IsPast, IsStaleBehind, LaterActs, OneMoreStep, PastIsKept, ReplaysJoin, TidsStay}

-- the request with its reply, as a state keeps it
abbrev kept_with : Req → Reply → Kept
kept_with r reply = record { client = r.client; tid = r.tid; reply = reply }

by_run : (P : Acted → Type 0) (s : NameState) (r : Req)
    → ((ver : ℕ) (obj : Option Obj) (reply : Reply) → P (Fresh (after s r ver obj reply) reply))
    → (x : Result Run Refusal) → P (acted s r x)
by_run P s r fresh (Ok x) = fresh _ _ _
by_run P s r fresh (Err e) = fresh _ _ _

before : (r : Req) (kept : Option Kept) → IsNewer r kept → IsBefore r.tid kept
before r None newer = tt
before r (Some k) newer = newer

not_before : (tid : ℕ) (kept : Option Kept) → HasTid tid kept → IsBefore tid kept → ⊥
not_before tid None has low = has
not_before tid (Some k) has low = omega (arith, has, low)

not_newer : (r : Req) (kept : Option Kept) → HasTid r.tid kept → IsNewer r kept → ⊥
not_newer r kept has newer = not_before r.tid kept has (before r kept newer)

has_tid : (tid : ℕ) (kept : Option Kept) (k : Kept) → kept ≡ Some k → tid ≤ k.tid → HasTid tid kept
has_tid tid kept k e le = subst (HasTid tid) (sym e) le

-- a request is past exactly where its tid is kept
pub past_kept : (s : NameState) (r : Req) → PastIsKept s r
past_kept s r = (
  act_cases (λ a. IsPast a → HasTid r.tid (kept_of r.client s.seen)) s r
      (λ k e lt past. has_tid r.tid (kept_of r.client s.seen) k e (omega (arith, lt)))
      (λ k e same past. has_tid r.tid (kept_of r.client s.seen) k e (omega (arith, same)))
      (λ e newer past. absurd past)
      (λ room newer. by_run (λ a. IsPast a → HasTid r.tid (kept_of r.client s.seen)) s r (λ ver obj reply past. absurd past) (run s.ver r.vector s.obj)),
  λ has. act_cases IsPast s r (λ k e lt. tt) (λ k e same. tt)
      (λ e newer. absurd (not_newer r (kept_of r.client s.seen) has newer))
      (λ room newer. absurd (not_newer r (kept_of r.client s.seen) has newer)),
)

-- what holds of a kept request goes on to a later one in its place
abbrev GoesOn : (Option Kept → Type 0) → Type 0
GoesOn P = (old : Option Kept) (q : Req) (given : Reply) → P old → IsNewer q old → P (Some (kept_with q given))

keep_holds : (P : Option Kept → Type 0) → GoesOn P → (client : ℕ) (q : Req) (given : Reply) (seen : List Kept) (same : Bool) → eqb client q.client ≡ same
    → P (kept_of client seen) → IsNewer q (kept_of q.client seen) → P (kept_of client (keep (kept_with q given) seen))
keep_holds P on client q given seen true e h newer =
    let same : client ≡ q.client = eqb-true client q.client e in
    let put : P (Some (kept_with q given)) = on (kept_of q.client seen) q given (subst (λ c. P (kept_of c seen)) same h) newer in
    subst (λ c. P (kept_of c (keep (kept_with q given) seen))) (sym same) (subst P (sym (kept_of-keep_same (kept_with q given) seen)) put)
keep_holds P on client q given seen false e h newer = subst P (sym (kept_of-keep_other client (kept_with q given) seen (eqb-false client q.client e))) h

act_holds : (P : Option Kept → Type 0) → GoesOn P → (client : ℕ) (s : NameState) (q : Req) → P (kept_of client s.seen) → P (kept_of client (state_after s (act s q)).seen)
act_holds P on client s q h =
    act_cases (λ a. P (kept_of client (state_after s a).seen)) s q (λ k e lt. h) (λ k e same. h) (λ e newer. h)
    (λ room newer. by_run (λ a. P (kept_of client (state_after s a).seen)) s q
    (λ ver obj given. keep_holds P on client q given s.seen (eqb client q.client) refl h newer) (run s.ver q.vector s.obj))

-- what holds of a state, and of what any request leaves of it, holds after any run of requests
replay_holds : (P : NameState → Type 0) → ((s : NameState) (q : Req) → P s → P (state_after s (act s q))) → (name : List ℕ) (rs : List Req) (store : Store)
    → P (state_of store name) → P (state_of (replay store rs) name)
replay_holds P on name [] store h = h
replay_holds P on name (q ∷ rs) store h =
    replay_holds P on name rs (store_after store q.name (act (state_of store q.name) q))
    (after_cases P store q.name (act (state_of store q.name) q) name (λ e. on (state_of store q.name) q (subst (λ n. P (state_of store n)) e h)) h)

tid_goes_on : (tid : ℕ) → GoesOn (HasTid tid)
tid_goes_on tid None q given has newer = absurd has
tid_goes_on tid (Some k) q given has newer = omega (arith, has, newer)

-- no act lowers a tid
pub act_lowers_none : (s : NameState) (r : Req) → ActLowersNoTid s r
act_lowers_none s r client tid has = act_holds (HasTid tid) (tid_goes_on tid) client s r has

-- nor does a run of requests
pub tids_stay : (name : List ℕ) (client : ℕ) → TidsStay name client
tids_stay name client store rs tid has =
    replay_holds (λ s. HasTid tid (kept_of client s.seen)) (λ s q h. act_holds (HasTid tid) (tid_goes_on tid) client s q h) name rs store has

-- this request is kept with this reply, or a later one of its client
abbrev Remembers : Req → Reply → Option Kept → Type 0
Remembers r reply None = ⊥
Remembers r reply (Some k) = (r.tid ≤ k.tid) × (k.tid ≡ r.tid → k.reply ≡ reply)

remembers_on : (r : Req) (reply : Reply) → GoesOn (Remembers r reply)
remembers_on r reply None q given h newer = absurd h
remembers_on r reply (Some k) q given h newer = (omega (arith, h.0, newer), λ e. absurd (omega (arith, h.0, newer, e)))

remembers_has : (r : Req) (reply : Reply) (kept : Option Kept) → Remembers r reply kept → HasTid r.tid kept
remembers_has r reply None h = h
remembers_has r reply (Some k) h = h.0

done_by : (s : NameState) (r : Req) (reply : Reply) → Remembers r reply (kept_of r.client s.seen) → IsDone r reply (act s r)
done_by s r reply h =
    act_cases (IsDone r reply) s r (λ k e lt. lt)
    (λ k e same. let g : Remembers r reply (Some k) = subst (Remembers r reply) e h in g.1 (sym same))
    (λ e newer. absurd (not_newer r (kept_of r.client s.seen) (remembers_has r reply (kept_of r.client s.seen) h) newer))
    (λ room newer. absurd (not_newer r (kept_of r.client s.seen) (remembers_has r reply (kept_of r.client s.seen) h) newer))

stale_by : (s : NameState) (r : Req) (tid : ℕ) → r.tid < tid → HasTid tid (kept_of r.client s.seen) → IsStaleBehind tid (act s r)
stale_by s r tid low h =
    act_cases (IsStaleBehind tid) s r (λ k e lt. subst (HasTid tid) e h)
    (λ k e same. let g : HasTid tid (Some k) = subst (HasTid tid) e h in absurd (omega (arith, low, g, same)))
    (λ e newer. absurd (not_newer r (kept_of r.client s.seen) (lower (kept_of r.client s.seen) h) newer))
    (λ room newer. absurd (not_newer r (kept_of r.client s.seen) (lower (kept_of r.client s.seen) h) newer))
  where
    lower : (kept : Option Kept) → HasTid tid kept → HasTid r.tid kept
    lower None has = has
    lower (Some k) has = omega (arith, low, has)

-- a worn name stays as it is
worn_stays : (s : NameState) → s.seq ≡ 2 ^ 62 → (q : Req) → state_after s (act s q) ≡ s
worn_stays s worn q = act_cases (λ a. state_after s a ≡ s) s q (λ k e lt. refl) (λ k e same. refl) (λ e newer. refl) (λ room newer. absurd (room worn))

worn_later : (s : NameState) (name : List ℕ) (rs : List Req) (store : Store) → s.seq ≡ 2 ^ 62 → state_of store name ≡ s → state_of (replay store rs) name ≡ s
worn_later s name rs store worn e =
    replay_holds (λ x. x ≡ s) (λ x q h. ap (λ y. state_after y (act y q)) h ∙ worn_stays s worn q) name rs store e

-- what a request was answered, by cases, with what that says of its state
answer_by : (r : Req) (store : Store) (others : List Req) (a : Acted) → act (state_of store r.name) r ≡ a
    → Follows r a (act (state_of (replay store (r ∷ others)) r.name) r)
answer_by r store others (Fresh t reply) e = at_most_once r store t reply others e
answer_by r store others (Again reply) e =
    done_by (state_of (replay store (r ∷ others)) r.name) r reply
    (replay_holds (λ s. Remembers r reply (kept_of r.client s.seen)) (λ s q h. act_holds (Remembers r reply) (remembers_on r reply) r.client s q h) r.name (r ∷ others) store
    (act_cases (λ a. a ≡ Again reply → Remembers r reply (kept_of r.client (state_of store r.name).seen)) (state_of store r.name) r
    (λ k f lt g. absurd (cc))
    (λ k f same g. subst (Remembers r reply) (sym f) (omega (arith, same), λ h. let told : k.reply ≡ reply = cc in told))
    (λ f newer g. absurd (cc))
    (λ room newer. by_run (λ a. a ≡ Again reply → Remembers r reply (kept_of r.client (state_of store r.name).seen)) (state_of store r.name) r (λ ver obj given g. absurd (cc)) (run (state_of store r.name).ver r.vector (state_of store r.name).obj)) e))
answer_by r store others (Stale tid) e =
    let now = act_cases (λ a. a ≡ Stale tid → (r.tid < tid) × HasTid tid (kept_of r.client (state_of store r.name).seen)) (state_of store r.name) r
    (λ k f lt g. let same : k.tid ≡ tid = cc in (omega (arith, same, lt), has_tid tid (kept_of r.client (state_of store r.name).seen) k f (omega (arith, same))))
    (λ k f same g. absurd (cc)) (λ f newer g. absurd (cc))
    (λ room newer. by_run (λ a. a ≡ Stale tid → (r.tid < tid) × HasTid tid (kept_of r.client (state_of store r.name).seen)) (state_of store r.name) r (λ ver obj given g. absurd (cc)) (run (state_of store r.name).ver r.vector (state_of store r.name).obj)) e in
    stale_by (state_of (replay store (r ∷ others)) r.name) r tid now.0 (tids_stay r.name r.client store (r ∷ others) tid now.1)
answer_by r store others (Worn limit) e =
    let worn = act_cases (λ a. a ≡ Worn limit → (state_of store r.name).seq ≡ 2 ^ 62) (state_of store r.name) r
    (λ k f lt g. absurd (cc)) (λ k f same g. absurd (cc)) (λ f newer g. f)
    (λ room newer. by_run (λ a. a ≡ Worn limit → (state_of store r.name).seq ≡ 2 ^ 62) (state_of store r.name) r (λ ver obj given g. absurd (cc)) (run (state_of store r.name).ver r.vector (state_of store r.name).obj)) e in
    ap (λ s. act s r) (worn_later (state_of store r.name) r.name (r ∷ others) store worn refl) ∙ e

-- a request that was answered does not act again
pub answers_stay : (r : Req) → AnswersStay r
answers_stay r store others = answer_by r store others (act (state_of store r.name) r) refl

is_acted : (s : NameState) (r : Req) (ver : ℕ) (obj : Option Obj) (reply : Reply) → s.seq ≢ 2 ^ 62 → IsNewer r (kept_of r.client s.seen) → IsActed s r (after s r ver obj reply) reply
is_acted s r ver obj reply room newer = record {
  later = before r (kept_of r.client s.seen) newer;
  room = room;
  below = λ h. omega (arith, h.acted, room);
  counted = refl;
  kept = kept_of-keep_same (kept_with r reply) s.seen;
}

-- what an act met and left
pub acts_count : (s : NameState) (r : Req) → ActsCount s r
acts_count s r t reply =
    act_cases (λ a. a ≡ Fresh t reply → IsActed s r t reply) s r (λ k e lt g. absurd (cc)) (λ k e same g. absurd (cc)) (λ e newer g. absurd (cc))
    (λ room newer. by_run (λ a. a ≡ Fresh t reply → IsActed s r t reply) s r
    (λ ver obj given g.
    let state : after s r ver obj given ≡ t = cc in
    let told : given ≡ reply = cc in
    subst (λ x. IsActed s r x reply) state (subst (λ y. IsActed s r (after s r ver obj given) y) told (is_acted s r ver obj given room newer)))
    (run s.ver r.vector s.obj))

-- a later request acts
pub later_acts : (s : NameState) (r : Req) → LaterActs s r
later_acts s r low room =
    act_cases IsFresh s r
    (λ k e lt. absurd (not_before r.tid (kept_of r.client s.seen) (has_tid r.tid (kept_of r.client s.seen) k e (omega (arith, lt))) low))
    (λ k e same. absurd (not_before r.tid (kept_of r.client s.seen) (has_tid r.tid (kept_of r.client s.seen) k e (omega (arith, same))) low))
    (λ e newer. absurd (room e))
    (λ has newer. by_run IsFresh s r (λ ver obj reply. record { state = after s r ver obj reply; reply = reply; is = refl }) (run s.ver r.vector s.obj))

join_by : (first others : List Req) (store : Store) → replay store (first ++ others) ≡ replay (replay store first) others
join_by [] others store = refl
join_by (q ∷ first) others store = join_by first others (store_after store q.name (act (state_of store q.name) q))

-- runs of requests join
pub replays_join : ReplaysJoin
replays_join store first others = join_by first others store

-- one more request is one more step
pub one_more_step : (r : Req) → OneMoreStep r
one_more_step r store rs = join_by rs (r ∷ []) store
