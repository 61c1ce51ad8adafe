use Rattle.std.specs.Prelude.{◌≡◌}
use Rattle.serde_json.specs.View.{members_view}
use Rattle.settings_json.specs.Settings.{with_all, defaults}
use Rattle.settings_json.proofs.with_members.Given as goal

-- the members that are left, over the values so far, give what all members give
abbrev pub invariant-loop-key : goal.invariant-loop-key
invariant-loop-key l = with_all (members_view l.key-iterator) l.values ≡ with_all
    (members_view l.members.entries) defaults
