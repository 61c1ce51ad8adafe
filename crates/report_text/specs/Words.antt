-- Words that several texts share.
use Rattle.std.specs.Prelude.{ℕ, Bool, true, false, List, [], ◌∷◌, ◌++◌, length, decimal, codes}
use Rattle.std.specs.List.{flat_map}
use Rattle.obj_model.specs.declared.change.Pool.{Pool}
use Rattle.obj_model.specs.declared.change.Pool.TheVariants as pool
use Rattle.obj_model.specs.declared.out.Out.{Out}
use Rattle.obj_model.specs.declared.out.Out.TheVariants as out
use Rattle.obj_model.specs.declared.out.Pair.{Pair}
use Rattle.obj_model.specs.declared.reply.Reply.{Reply}
use Rattle.obj_model.specs.declared.reply.Reply.TheVariants as reply
use Rattle.obj_model.specs.declared.reply.Why.{Why}
use Rattle.obj_model.specs.declared.reply.Why.TheVariants.{Exists, NoEnt, NoData, Canceled, Range, Overflow, TooBig}
use Rattle.obj_model.specs.declared.tier.Kind.{Kind}
use Rattle.obj_model.specs.declared.tier.Kind.TheVariants as kind
use Rattle.obj_model.specs.declared.tier.Path.{Path}
use Rattle.obj_model.specs.declared.tier.Path.TheVariants as path
use Rattle.script_lang.specs.Spelling.{bytes_word}

-- a number behind a space
abbrev pub number_text : ℕ → List ℕ
number_text n = codes " " ++ decimal n

-- a name behind a space
abbrev pub key_text : List ℕ → List ℕ
key_text key = codes " " ++ key

-- a key and its value, each behind a space
abbrev pub pair_text : Pair → List ℕ
pair_text pair = codes " " ++ pair.key ++ codes " " ++ bytes_word pair.value

-- why a sub-operation was refused
abbrev pub why_text : Why → List ℕ
why_text Exists = codes "exists"
why_text NoEnt = codes "noent"
why_text NoData = codes "nodata"
why_text Canceled = codes "canceled"
why_text Range = codes "range"
why_text Overflow = codes "overflow"
why_text (TooBig limit asked) = codes "toobig" ++ number_text limit ++ number_text asked

-- what one sub-operation tells
abbrev pub out_text : Out → List ℕ
out_text out.Checked = codes "ok"
out_text (out.Bytes bytes) = bytes_word bytes
out_text (out.Size size) = decimal size
out_text (out.Names keys) = decimal (length keys) ++ flat_map key_text keys
out_text (out.Pairs pairs) = decimal (length pairs) ++ flat_map pair_text pairs

-- what one more sub-operation tells, behind a semicolon
abbrev pub next_out_text : Out → List ℕ
next_out_text o = codes " ; " ++ out_text o

-- what the sub-operations of a vector tell, with a semicolon between two
abbrev pub outs_text : List Out → List ℕ
outs_text [] = []
outs_text (first ∷ others) = out_text first ++ flat_map next_out_text others

-- a version and a place
abbrev pub standing_text : ℕ → ℕ → List ℕ
standing_text ver place = codes " v" ++ decimal ver ++ codes " @" ++ decimal place

-- a mark behind a reply that was kept
abbrev pub kept_text : Bool → List ℕ
kept_text true = codes " kept"
kept_text false = []

-- the word of a kind of unfinished work
abbrev pub kind_text : Kind → List ℕ
kind_text kind.Promote = codes "promote"
kind_text kind.Write = codes "write"
kind_text kind.Read = codes "read"
kind_text kind.Flush = codes "flush"

-- the word of a pool
abbrev pub pool_text : Pool → List ℕ
pool_text pool.Cache = codes "cache"
pool_text pool.Base = codes "base"

-- the word of a path
abbrev pub path_text : Path → List ℕ
path_text path.Hit = codes "hit"
path_text path.Promote = codes "promote"
path_text path.ProxyRead = codes "proxy-read"
path_text path.ProxyWrite = codes "proxy-write"

-- the reply of an act
abbrev pub reply_text : Reply → List ℕ
reply_text (reply.Done ver) = codes "done v" ++ decimal ver
reply_text (reply.Refused at why ver) =
    codes "refused" ++ number_text at ++ codes " " ++ why_text why ++ codes " v" ++ decimal ver
