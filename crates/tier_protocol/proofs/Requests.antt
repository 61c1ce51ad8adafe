-- What requests meet and leave, in the words of the protocol.
use Rattle.std.proofs.Common.{◌≡◌, ◌≢◌, ◌⊎◌, ℕ, ◌+◌, ◌^◌, true, false, List, [], ◌∷◌, ◌++◌, Option, Result, Ok, Err, refl, ap, subst, inl, inr}
use Rattle.obj_model.specs.declared.reply.Reply.{Reply}
use Rattle.obj_model.specs.declared.req.Req.{Req}
use Rattle.obj_model.specs.declared.state.NameState.{NameState}
use Rattle.obj_model.specs.declared.state.Obj.{Obj}
use Rattle.obj_ops.specs.declared.request.Acted.{Acted}
use Rattle.obj_ops.specs.declared.request.Acted.TheVariants.{Fresh, Again, Stale, Worn}
use Rattle.obj_ops.specs.Ops.{Run, Refusal, run}
use Rattle.obj_ops.specs.Acts.{act, acted, after, kept_of, state_after}
use Rattle.obj_ops.specs.Stores.{Store, state_of, store_after, replay}
use Rattle.obj_ops.proofs.Cases.{act_cases}
use Rattle.obj_ops.proofs.Replays.{acted_kept}
use Rattle.obj_laws.specs.Requests.{HasTid, IsPast}
use Rattle.obj_laws.proofs.Requesting.{act_lowers_none, acts_count, one_more_step, past_kept}
use Rattle.tier_protocol.specs.Sound.{AreFresh, Covers, is_fresh, is_past}

-- an act counts one more
pub fresh_seq : (s : NameState) (r : Req) (t : NameState) (reply : Reply) → act s r ≡ Fresh t reply
    → t.seq ≡ s.seq + 1
fresh_seq s r t reply e = (acts_count s r t reply e).counted

-- its name was not worn out
pub fresh_room : (s : NameState) (r : Req) (t : NameState) (reply : Reply) → act s r ≡ Fresh t reply
    → s.seq ≢ 2 ^ 62
fresh_room s r t reply e = (acts_count s r t reply e).room

past_of : (a : Acted) → is_past a ≡ true → IsPast a
past_of (Fresh t reply) e = absurd (cc)
past_of (Again reply) e = tt
past_of (Stale kept) e = tt
past_of (Worn limit) e = absurd (cc)

of_past : (a : Acted) → IsPast a → is_past a ≡ true
of_past (Fresh t reply) past = absurd past
of_past (Again reply) past = refl
of_past (Stale kept) past = refl
of_past (Worn limit) past = absurd past

-- a covered request is kept, or a later one of its client is
pub past_keeps : (s : NameState) (r : Req) → Covers s r → HasTid r.tid (kept_of r.client s.seen)
past_keeps s r covers = (past_kept s r).0 (past_of (act s r) covers)

pub keeps_past : (s : NameState) (r : Req) → HasTid r.tid (kept_of r.client s.seen) → Covers s r
keeps_past s r has = of_past (act s r) ((past_kept s r).1 has)

-- a covered request does not act
pub covered_not_fresh : (s : NameState) (r : Req) (t : NameState) (reply : Reply) → Covers s r
    → act s r ≡ Fresh t reply → ⊥
covered_not_fresh s r t reply covers e =
    let h : is_past (Fresh t reply) ≡ true = subst (λ a. is_past a ≡ true) e covers in absurd (cc)

-- what is kept stays kept, or something later of its client is
pub covers_stays : (s : NameState) (r q : Req) (t : NameState) (reply : Reply) → Covers s r
    → act s q ≡ Fresh t reply → Covers t r
covers_stays s r q t reply covers e =
    keeps_past t r
    (subst (λ a. HasTid r.tid (kept_of r.client (state_after s a).seen)) e
    (act_lowers_none s q r.client r.tid (past_keeps s r covers)))

-- a request that acted is answered again, so it is covered
pub fresh_again : (s : NameState) (r : Req) (t : NameState) (reply : Reply)
    → act s r ≡ Fresh t reply
    → act t r ≡ Again reply
fresh_again s r = acted_kept s r

pub fresh_covers : (s : NameState) (r : Req) (t : NameState) (reply : Reply)
    → act s r ≡ Fresh t reply
    → Covers t r
fresh_covers s r t reply e = ap is_past (acted_kept s r t reply e)

by_run : (P : Acted → Type 0) (s : NameState) (r : Req)
    → ((ver : ℕ) (obj : Option Obj) (reply : Reply) → P (Fresh (after s r ver obj reply) reply))
    → (x : Result Run Refusal) → P (acted s r x)
by_run P s r fresh (Ok x) = fresh _ _ _
by_run P s r fresh (Err e) = fresh _ _ _

-- worn out is answered only where the name is
worn_out : (s : NameState) (r : Req) (limit : ℕ) → act s r ≡ Worn limit → s.seq ≡ 2 ^ 62
worn_out s r limit =
    act_cases (λ a. a ≡ Worn limit → s.seq ≡ 2 ^ 62) s r (λ k f lt e. absurd (cc))
    (λ k f same e. absurd (cc)) (λ f newer e. f)
    (λ room newer. by_run (λ a. a ≡ Worn limit → s.seq ≡ 2 ^ 62) s r
    (λ ver obj reply e. absurd (cc)) (run s.ver r.vector s.obj))

-- a request that does not act is covered, or its name is worn out
pub spent_of : (s : NameState) (r : Req) (a : Acted) → act s r ≡ a → is_fresh a ≡ false
    → (s.seq ≡ 2 ^ 62) ⊎ Covers s r
spent_of s r (Fresh t reply) e not_fresh = absurd (cc)
spent_of s r (Again reply) e not_fresh = inr (ap is_past e)
spent_of s r (Stale kept) e not_fresh = inr (ap is_past e)
spent_of s r (Worn limit) e not_fresh = inl (worn_out s r limit e)

-- the plain store after one act more
pub replay_more : (rs : List Req) (store : Store) (r : Req)
    → replay store (rs ++ r ∷ [])
    ≡ store_after (replay store rs) r.name (act (state_of (replay store rs) r.name) r)
replay_more rs store r = one_more_step r store rs

-- the history stays legal with one act more
pub fresh_more : (rs : List Req) (store : Store) (r : Req) → AreFresh store rs
    → is_fresh (act (state_of (replay store rs) r.name) r) ≡ true → AreFresh store (rs ++ r ∷ [])
fresh_more [] store r h acts = (acts, tt)
fresh_more (q ∷ rs) store r h acts =
    (h.0, fresh_more rs (store_after store q.name (act (state_of store q.name) q)) r h.1 acts)
