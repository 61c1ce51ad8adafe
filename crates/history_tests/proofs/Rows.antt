-- Rows of what fits: a small history that fits, and one that does not.
use Rattle.std.proofs.Common.{◌≡◌, ℕ, Option, Some, None, refl, ap, arith}
use Rattle.obj_model.specs.declared.reply.Reply.{Reply}
use Rattle.obj_model.specs.declared.reply.Reply.TheVariants as reply
use Rattle.tier_chron.specs.declared.entries.Act.{Act}
use Rattle.history_tests.specs.Fitting.{BlockedHasNoAct, FaultMayHaveAnAct, KeptTellsTheReply, OwnActAtItsPlace, RefusedIsNotDone, StaleHasNoAct, ValuesAreOfTheirPlace}

-- parts of an act that is there
abbrev pub call_in : Option Act → ℕ
call_in None = 0
call_in (Some a) = a.call

abbrev pub reply_in : Reply → Option Act → Reply
reply_in given None = given
reply_in given (Some a) = a.reply

pub own_act : OwnActAtItsPlace
own_act = record {
  there = λ start req. record {
    kind = refl;
    numbers = tt;
    way = refl;
    single = ((λ e. absurd (cc)), ((λ e. ((λ f. absurd (cc)), tt)), ((λ e. tt), tt)));
    own = ((λ e. absurd (cc)), ((λ e. refl), ((λ e. absurd (cc)), tt)));
    beside = refl;
    told = tt;
  };
  early = λ start req h. absurd (omega (arith, ap call_in h.beside));
  late = λ start req h. absurd (omega (arith, ap call_in h.beside));
}

pub refused : RefusedIsNotDone
refused = record {
  refused = λ start req why. record {
    kind = refl;
    numbers = tt;
    way = refl;
    single = ((λ e. tt), tt);
    own = ((λ e. refl), tt);
    beside = refl;
    told = tt;
  };
  done = λ start req why h.
      let no : reply.Refused 2 why 0 ≡ reply.Done 0 = ap (reply_in (reply.Done 0)) h.beside
      in absurd (cc);
}

pub kept : KeptTellsTheReply
kept = record {
  same = λ start req again. record {
    kind = refl;
    numbers = tt;
    way = refl;
    single = tt;
    own = tt;
    beside = tt;
    told = record { again = again; same = tt };
  };
  other = λ start req again h. let no = h.told.again in absurd (cc);
  fresh = λ start req t acts h. let no = h.told.again in absurd (cc);
}

pub stale : StaleHasNoAct
stale = record {
  told = λ start req late. record {
    kind = refl;
    numbers = tt;
    way = refl;
    single = tt;
    own = tt;
    beside = tt;
    told = record { stale = late; none = tt };
  };
  other = λ start req late h. let no = h.told.stale in absurd (cc);
  own = λ start req h. h.told.none.0 refl;
}

pub values : ValuesAreOfTheirPlace
values = record {
  behind = λ start r name ops outs seen. record {
    kind = refl;
    numbers = tt;
    way = refl;
    single = ((λ e. tt), tt);
    own = ((λ e. absurd (cc)), tt);
    beside = tt;
    told = seen;
  };
  before = λ start r name ops outs seen h. let no = h.told in absurd (cc);
}

pub fault : FaultMayHaveAnAct
fault = record {
  none = λ start req pool. record {
    kind = refl;
    numbers = tt;
    way = refl;
    single = tt;
    own = tt;
    beside = tt;
    told = tt;
  };
  one = λ start req pool. record {
    kind = refl;
    numbers = tt;
    way = refl;
    single = ((λ e. tt), tt);
    own = ((λ e. refl), tt);
    beside = tt;
    told = tt;
  };
  two = λ start req pool h. (h.single.0 refl).0 refl;
}

pub blocked : BlockedHasNoAct
blocked = record {
  other = λ start req. record {
    kind = refl;
    numbers = tt;
    way = refl;
    single = ((λ e. tt), tt);
    own = ((λ e. absurd (cc)), tt);
    beside = ((λ e. absurd (cc)), tt);
    told = tt;
  };
  own = λ start req h. h.beside.0 refl;
}
