-- Where a line stands: behind which moment, and in which block.
use Rattle.std.specs.Prelude.{◌≡◌, ◌≤◌, ℕ, ◌==◌, ◌||◌, nat_lt, Bool, true, false, List, [], ◌∷◌, ◌++◌, length, Option, Some, None, if◌then◌else◌, bytes_eq, refl}
use Rattle.std.specs.List.{list_any}
use Rattle.std.specs.Coded.{Coded, code_by, coded×, coded_ℕ, coded_list, coded_option}
use Rattle.script_lang.specs.declared.line.Line.{Line}
use Rattle.script_lang.specs.declared.line.Line.TheVariants as line
use Rattle.script_lang.specs.declared.verbs.LineVerb.TheVariants as verb
use Rattle.script_lang.specs.Verbs.{line_word}

-- The moment that was set last, and in a block the clients of its lines so far.
pub record Context : Type 0 where
  pub moment : ℕ
  pub block : Option (List ℕ)

-- before the first line
abbrev pub start : Context
start = record { moment = 0; block = None }

-- the client has a line in the block
abbrev pub is_among : ℕ → List ℕ → Bool
is_among client clients = list_any (λ c. c == client) clients

-- the clients of a block with one more, which counts once
abbrev pub joined : ℕ → Option (List ℕ) → Option (List ℕ)
joined client None = None
joined client (Some clients) =
    Some (if is_among client clients then clients else clients ++ client ∷ [])

-- the context behind a line
abbrev pub moved : Context → Line → Context
moved ctx (line.Op req) = record { moment = ctx.moment; block = joined req.client ctx.block }
moved ctx (line.Get client name vector) =
    record { moment = ctx.moment; block = joined client ctx.block }
moved ctx (line.SetTime moment) = record { moment = moment; block = ctx.block }
moved ctx line.Par = record { moment = ctx.moment; block = Some [] }
moved ctx line.End = record { moment = ctx.moment; block = None }
moved ctx other = ctx

-- one of these lines ends a block
abbrev pub has_end : List (List ℕ) → Bool
has_end texts = list_any (λ text. bytes_eq text (line_word verb.End)) texts

-- the client has a line in the block, or there are fewer than 16 clients
abbrev pub has_room : ℕ → List ℕ → Bool
has_room client clients = is_among client clients || nat_lt (length clients) 16

-- The line may stand in this block, or outside one, with these lines behind it: a block has
-- requests and readings of at most 16 clients, and is ended.
abbrev pub is_in_place : Option (List ℕ) → List (List ℕ) → Line → Bool
is_in_place None texts line.Par = has_end texts
is_in_place None texts line.End = false
is_in_place None texts other = true
is_in_place (Some clients) texts (line.Op req) = has_room req.client clients
is_in_place (Some clients) texts (line.Get client name vector) = has_room client clients
is_in_place (Some clients) texts line.End = true
is_in_place (Some clients) texts other = false

-- a moment is not below an earlier one
abbrev pub IsInTime : ℕ → Line → Type 0
IsInTime least (line.SetTime moment) = least ≤ moment
IsInTime least other = Unit {0}

-- the line may stand here, with these lines behind it
pub record MayStand (ctx : Context) (texts : List (List ℕ)) (said : Line) : Type 0 where
  pub in_time : IsInTime ctx.moment said
  pub in_place : is_in_place ctx.block texts said ≡ true

-- how a context is written down as a value of contracts
abbrev pub coded_context : Coded Context
coded_context =
    code_by (ℕ × Option (List ℕ)) (coded× coded_ℕ (coded_option (coded_list coded_ℕ)))
    (λ c. (c.moment, c.block)) (λ p. record { moment = p.0; block = p.1 }) (λ _. refl)
