-- The first words of lines and of sub-operations.
use Rattle.std.specs.Prelude.{ℕ, Bool, List, [], ◌∷◌, Option, find, bytes_eq, codes}
use Rattle.std.specs.List.{list_any}
use Rattle.obj_model.specs.declared.sub_op.SubOp.{SubOp}
use Rattle.obj_model.specs.declared.sub_op.SubOp.TheVariants as op
use Rattle.script_lang.specs.declared.verbs.LineVerb.{LineVerb}
use Rattle.script_lang.specs.declared.verbs.LineVerb.TheVariants as line
use Rattle.script_lang.specs.declared.verbs.OpVerb.{OpVerb}
use Rattle.script_lang.specs.declared.verbs.OpVerb.TheVariants as verb

-- ---- lines

-- the word of a line's verb
abbrev pub line_word : LineVerb → List ℕ
line_word line.Op = codes "op"
line_word line.Get = codes "get"
line_word line.Flush = codes "flush"
line_word line.Tryflush = codes "tryflush"
line_word line.Begin = codes "begin"
line_word line.Finish = codes "finish"
line_word line.Evict = codes "evict"
line_word line.Drain = codes "drain"
line_word line.Agent = codes "agent"
line_word line.Mode = codes "mode"
line_word line.Time = codes "time"
line_word line.Stop = codes "stop"
line_word line.Par = codes "par"
line_word line.End = codes "end"

-- all verbs of lines
abbrev pub line_verbs : List LineVerb
line_verbs =
    line.Op ∷ line.Get ∷ line.Flush ∷ line.Tryflush ∷ line.Begin ∷ line.Finish ∷ line.Evict
    ∷ line.Drain ∷ line.Agent ∷ line.Mode ∷ line.Time ∷ line.Stop ∷ line.Par ∷ line.End ∷ []

-- the verb of this word among these, if there is one
abbrev pub line_verb_among : List LineVerb → List ℕ → Option LineVerb
line_verb_among verbs word = find (λ v. bytes_eq word (line_word v)) verbs

-- the verb of a line that begins with this word, if there is one
unfoldable pub line_verb_of : List ℕ → Option LineVerb
line_verb_of word = line_verb_among line_verbs word

-- ---- what is left out

-- what the real system has in place of a line or a sub-operation, and is left out here
abbrev pub left_out_verbs : List (List ℕ)
left_out_verbs =
    codes "snap" ∷ codes "rollback" ∷ codes "clone" ∷ codes "watch" ∷ codes "notify"
    ∷ codes "exec" ∷ codes "lock" ∷ codes "unlock" ∷ codes "dedup" ∷ codes "redirect" ∷ []

-- the modes of the real system that are left out here
abbrev pub left_out_modes : List (List ℕ)
left_out_modes = codes "forward" ∷ codes "readforward" ∷ codes "readonly" ∷ []

-- the word is one of these
abbrev pub is_one_of : List (List ℕ) → List ℕ → Bool
is_one_of words word = list_any (λ other. bytes_eq word other) words

-- ---- sub-operations

-- the word of a verb
abbrev pub op_word : OpVerb → List ℕ
op_word verb.Create = codes "create"
op_word verb.WriteFull = codes "writefull"
op_word verb.Write = codes "write"
op_word verb.Append = codes "append"
op_word verb.Zero = codes "zero"
op_word verb.Truncate = codes "truncate"
op_word verb.Remove = codes "remove"
op_word verb.SetXattr = codes "setxattr"
op_word verb.RmXattr = codes "rmxattr"
op_word verb.OmapSet = codes "omapset"
op_word verb.OmapRm = codes "omaprm"
op_word verb.OmapClear = codes "omapclear"
op_word verb.AssertExists = codes "assert_exists"
op_word verb.AssertVer = codes "assert_ver"
op_word verb.CmpXattr = codes "cmpxattr"
op_word verb.Read = codes "read"
op_word verb.Stat = codes "stat"
op_word verb.GetXattr = codes "getxattr"
op_word verb.ListXattrs = codes "listxattrs"
op_word verb.OmapGet = codes "omapget"
op_word verb.OmapList = codes "omaplist"

-- all verbs
abbrev pub op_verbs : List OpVerb
op_verbs =
    verb.Create ∷ verb.WriteFull ∷ verb.Write ∷ verb.Append ∷ verb.Zero ∷ verb.Truncate
    ∷ verb.Remove ∷ verb.SetXattr ∷ verb.RmXattr ∷ verb.OmapSet ∷ verb.OmapRm ∷ verb.OmapClear
    ∷ verb.AssertExists ∷ verb.AssertVer ∷ verb.CmpXattr ∷ verb.Read ∷ verb.Stat ∷ verb.GetXattr
    ∷ verb.ListXattrs ∷ verb.OmapGet ∷ verb.OmapList ∷ []

-- the verb of this word among these, if there is one
abbrev pub verb_among : List OpVerb → List ℕ → Option OpVerb
verb_among verbs word = find (λ v. bytes_eq word (op_word v)) verbs

-- the verb of a word, if there is one
unfoldable pub op_verb_of : List ℕ → Option OpVerb
op_verb_of word = verb_among op_verbs word

-- the verb of a sub-operation
abbrev pub verb_of : SubOp → OpVerb
verb_of op.Create = verb.Create
verb_of (op.WriteFull bytes) = verb.WriteFull
verb_of (op.Write off bytes) = verb.Write
verb_of (op.Append bytes) = verb.Append
verb_of (op.Zero off len) = verb.Zero
verb_of (op.Truncate size) = verb.Truncate
verb_of op.Remove = verb.Remove
verb_of (op.SetXattr key bytes) = verb.SetXattr
verb_of (op.RmXattr key) = verb.RmXattr
verb_of (op.OmapSet key bytes) = verb.OmapSet
verb_of (op.OmapRm key) = verb.OmapRm
verb_of op.OmapClear = verb.OmapClear
verb_of op.AssertExists = verb.AssertExists
verb_of (op.AssertVer ver) = verb.AssertVer
verb_of (op.CmpXattr key bytes) = verb.CmpXattr
verb_of (op.Read off len) = verb.Read
verb_of op.Stat = verb.Stat
verb_of (op.GetXattr key) = verb.GetXattr
verb_of op.ListXattrs = verb.ListXattrs
verb_of (op.OmapGet key) = verb.OmapGet
verb_of (op.OmapList after max) = verb.OmapList
