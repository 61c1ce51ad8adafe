-- Requests over runs of requests.
use Rattle.std.specs.Prelude.{◌≡◌, ◌≢◌, ◌<◌, ◌≤◌, ℕ, ◌+◌, List, [], ◌∷◌, ◌++◌, Option, Some, None}
use Rattle.obj_model.specs.Limits.{number_limit}
use Rattle.obj_model.specs.States.{IsCounted}
use Rattle.obj_model.specs.declared.reply.Kept.{Kept}
use Rattle.obj_model.specs.declared.reply.Reply.{Reply}
use Rattle.obj_model.specs.declared.req.Req.{Req}
use Rattle.obj_model.specs.declared.state.NameState.{NameState}
use Rattle.obj_ops.specs.declared.request.Acted.{Acted}
use Rattle.obj_ops.specs.declared.request.Acted.TheVariants.{Fresh, Again, Stale, Worn}
use Rattle.obj_ops.specs.Acts.{act, kept_of, state_after}
use Rattle.obj_ops.specs.Laws.{IsDone}
use Rattle.obj_ops.specs.Stores.{Store, state_of, store_after, replay}

-- this tid is kept, or a later one
abbrev pub HasTid : ℕ → Option Kept → Type 0
HasTid tid None = ⊥
HasTid tid (Some k) = tid ≤ k.tid

-- nothing is kept, or an earlier tid than this
abbrev pub IsBefore : ℕ → Option Kept → Type 0
IsBefore tid None = Unit {0}
IsBefore tid (Some k) = k.tid < tid

-- an answer without an act: that of a request that acted before, or of one behind which a later one
-- acted
abbrev pub IsPast : Acted → Type 0
IsPast (Fresh t reply) = ⊥
IsPast (Again reply) = Unit {0}
IsPast (Stale tid) = Unit {0}
IsPast (Worn limit) = ⊥

-- a request is past exactly where its tid, or a later one, is kept of its client
abbrev pub PastIsKept : NameState → Req → Type 0
PastIsKept s r =
    (IsPast (act s r) → HasTid r.tid (kept_of r.client s.seen))
    × (HasTid r.tid (kept_of r.client s.seen) → IsPast (act s r))

-- no act lowers the tid that is kept of any client
abbrev pub ActLowersNoTid : NameState → Req → Type 0
ActLowersNoTid s r =
    (client tid : ℕ) → HasTid tid (kept_of client s.seen)
    → HasTid tid (kept_of client (state_after s (act s r)).seen)

-- nor do any requests, one after another
abbrev pub TidsStay : List ℕ → ℕ → Type 0
TidsStay name client =
    (store : Store) (rs : List Req) (tid : ℕ)
    → HasTid tid (kept_of client (state_of store name).seen)
    → HasTid tid (kept_of client (state_of (replay store rs) name).seen)

-- stale behind this tid, or a later one
abbrev pub IsStaleBehind : ℕ → Acted → Type 0
IsStaleBehind tid (Fresh t reply) = ⊥
IsStaleBehind tid (Again reply) = ⊥
IsStaleBehind tid (Stale later) = tid ≤ later
IsStaleBehind tid (Worn limit) = ⊥

-- what a request that was answered so is answered later
abbrev pub Follows : Req → Acted → Acted → Type 0
Follows r (Fresh t reply) next = IsDone r reply next
Follows r (Again reply) next = IsDone r reply next
Follows r (Stale tid) next = IsStaleBehind tid next
Follows r (Worn limit) next = next ≡ Worn limit

-- whatever requests come between, a request that was answered once does not act
abbrev pub AnswersStay : Req → Type 0
AnswersStay r =
    (store : Store) (others : List Req)
    → Follows r (act (state_of store r.name) r)
    (act (state_of (replay store (r ∷ others)) r.name) r)

-- around an act: the request is later than what was kept of its client, its name was not worn out,
-- the act counts one and is kept with its reply
pub record IsActed (s : NameState) (r : Req) (t : NameState) (reply : Reply) : Type 0 where
  pub later : IsBefore r.tid (kept_of r.client s.seen)
  pub room : s.seq ≢ number_limit
  pub below : IsCounted s → s.seq < number_limit
  pub counted : t.seq ≡ s.seq + 1
  pub kept :
      kept_of r.client t.seen ≡ Some (record { client = r.client; tid = r.tid; reply = reply })

-- each act is such
abbrev pub ActsCount : NameState → Req → Type 0
ActsCount s r = (t : NameState) (reply : Reply) → act s r ≡ Fresh t reply → IsActed s r t reply

-- an answer that acts
pub record IsFresh (a : Acted) : Type 0 where
  pub state : NameState
  pub reply : Reply
  pub is : a ≡ Fresh state reply

-- a later request than what is kept of its client acts, where its name is not worn out
abbrev pub LaterActs : NameState → Req → Type 0
LaterActs s r =
    IsBefore r.tid (kept_of r.client s.seen) → s.seq ≢ number_limit → IsFresh (act s r)

-- some requests and then others leave what all leave
abbrev pub ReplaysJoin : Type 0
ReplaysJoin =
    (store : Store) (first others : List Req)
    → replay store (first ++ others) ≡ replay (replay store first) others

-- with one request more the store is one step further
abbrev pub OneMoreStep : Req → Type 0
OneMoreStep r =
    (store : Store) (rs : List Req)
    → replay store (rs ++ r ∷ [])
    ≡ store_after (replay store rs) r.name (act (state_of (replay store rs) r.name) r)
