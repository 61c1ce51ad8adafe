-- What is put into a table of a draft is put into the table of its state.
use Rattle.std.proofs.Common.{◌++◌, ℕ, Bool, true, false, List, map, Some, None, sym, ap, ◌∙◌}
use Rattle.std.specs.FinMap as fin
use Rattle.obj_model.specs.declared.out.Pair.{Pair}
use Rattle.obj_model.specs.declared.reply.Kept.{Kept}
use Rattle.obj_model.specs.declared.state.NameState.{NameState}
use Rattle.obj_model.proofs.NameMaps.{kept_entries}
use Rattle.copy_chunk.specs.declared.chunk.Cursor.TheVariants.{Attrs, Omap}
use Rattle.copy_chunk.specs.declared.chunk.Part.TheVariants as part
use Rattle.copy_chunk.specs.Chunks.{Entry, entry_of}
use Rattle.copy_chunk.specs.Gathers.{table_fits}
use Rattle.copy_chunk.specs.Steps.{IsRising, PutsTable, Puts}

module _ (ver seq : ℕ) (body : List ℕ) (seen : List Kept) where
  abbrev pub built : List Entry → List Entry → NameState
  built attrs omap =
      record {
        ver = ver;
        seq = seq;
        obj =
            Some (record {
              body = body;
              attrs = fin.from_entries attrs;
              omap = fin.from_entries omap;
            });
        seen = seen;
      }

  pub attrs_put : (old new omap : List Entry) (ps : List Pair) (done : Bool) → IsRising old
      → PutsTable 64 ps old done new
      → Puts (Attrs None) (part.Pairs ps) (built old omap) done (built new omap)
  attrs_put old new omap ps true rise h = (
    ap (λ (es : List Entry). table_fits 64 es ps) (kept_entries old rise) ∙ h.0,
    ap (λ (es : List Entry). built es omap)
        (h.1 ∙ ap (λ (es : List Entry). es ++ map entry_of ps) (sym (kept_entries old rise))),
  )
  attrs_put old new omap ps false rise h = (
    ap (λ (es : List Entry). table_fits 64 es ps) (kept_entries old rise)
        ∙ h.0,
    ap (λ (es : List Entry). built es omap) h.1,
  )

  pub omap_put : (attrs old new : List Entry) (ps : List Pair) (done : Bool) → IsRising old
      → PutsTable 1024 ps old done new
      → Puts (Omap None) (part.Pairs ps) (built attrs old) done (built attrs new)
  omap_put attrs old new ps true rise h = (
    ap (λ (es : List Entry). table_fits 1024 es ps) (kept_entries old rise) ∙ h.0,
    ap (λ (es : List Entry). built attrs es)
        (h.1 ∙ ap (λ (es : List Entry). es ++ map entry_of ps) (sym (kept_entries old rise))),
  )
  omap_put attrs old new ps false rise h = (
    ap (λ (es : List Entry). table_fits 1024 es ps) (kept_entries old rise)
        ∙ h.0,
    ap (λ (es : List Entry). built attrs es) h.1,
  )
