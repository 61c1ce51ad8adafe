-- The sums over the records, where one gives place to another.
use Rattle.std.proofs.Common.{◌≡◌, List, [], ◌∷◌, ◌++◌, map, Option, Some, None, sym, ap, subst, ◌∙◌}
use Rattle.std.specs.FinMap as fin
use Rattle.std.specs.Cmp.Lexicographic.{nat_list_cmp_total}
use Rattle.std.proofs.lemmas.List.{append_assoc, append-nil, map-append}
use Rattle.agent_state.specs.Modes.{AreTotals}
use Rattle.tier_protocol.specs.Moves.{set_at}
use Rattle.tier_protocol.specs.Tiers.{Name, Recs, TierRec}
use Rattle.tier_rec.specs.Records.{listed, totals_after, totals_over}
use Rattle.tier_rec.proofs.Totals.{totals_go_on}
use Rattle.tier_view.specs.Locals.{SumsFollow}
use Rattle.tier_view.specs.Whole.{records_in}
use Rattle.tier_view.proofs.LocalPlaces.{Place, none_found, place, put_anew}

abbrev values : List (Name × TierRec) → List TierRec
values rows = map (λ e. e.1) rows

module _ (recs : Recs) (k : Name) where
  abbrev P : Place k (fin.entries (fin.remove recs k))
  P = place k (fin.entries (fin.remove recs k)) (none_found recs k)

  parts : (r : Option TierRec) → records_in (set_at recs k r) ≡ values P.before ++ listed r ++ values P.behind
  parts None = ap values P.is ∙ map-append (λ (e : Name × TierRec). e.1) P.before P.behind ∙ ap (λ rows. rows ++ values P.behind) (sym (append-nil (values P.before)))
  parts (Some x) =
      ap (λ m. records_in m) (put_anew recs k x) ∙ ap values (fin.entries-insert nat_list_cmp_total (fin.remove recs k) k x) ∙ ap values (P.there x)
      ∙ map-append (λ (e : Name × TierRec). e.1) P.before ((k, x) ∷ P.behind) ∙ sym (append_assoc (values P.before) (x ∷ []) (values P.behind))

pub sums_follow : SumsFollow
sums_follow recs k old new few =
    ap (λ rs. totals_after (totals_over rs) old new) (parts recs k old)
    ∙ totals_go_on old new (values (P recs k).before) (values (P recs k).behind) (subst (λ rs. AreTotals (totals_over rs)) (parts recs k new) few)
    ∙ sym (ap totals_over (parts recs k new))
