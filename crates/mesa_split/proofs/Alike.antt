-- Ranges that were merged twice.
use Rattle.std.proofs.Common.{◌≡◌, ℕ, ◌+◌, List, [], ◌∷◌, length, sym, ap, subst, ◌∙◌, arith}
use Rattle.std.specs.Prelude.{Option, None, Some}
use Rattle.mesa_compact.specs.mesa_columns.declared.rows.Row.{Row}
use Rattle.mesa_schema.specs.Changes.{Lineage}
use Rattle.mesa_open_files.specs.Inputs.{AreTold}
use Rattle.mesa_open_files.specs.Made.{AreMadeViews, Content, IsMadeFile}
use Rattle.mesa_open_files.specs.Tasks.{HaveMerged, IsMerged}
use Rattle.mesa_open_files.specs.declared.made.MadeFile.{MadeFile}
use Rattle.mesa_open_files.specs.declared.made.MadeFiles.{MadeFiles}
use Rattle.mesa_open_files.specs.declared.made.MadeView.{MadeView}
use Rattle.mesa_open_files.specs.declared.merging.NewDelta.{NewDelta}
use Rattle.mesa_open_files.specs.declared.merging.Task.{Task}
use Rattle.mesa_split.specs.Laws.{AreSameDeltas, AreSameFiles, AreSameViews}

module _ {M : Type 0} (bytes : M → Option (List ℕ)) (id_of : M → ℕ) where
  pub one_file : (content : Content) (a b : MadeFile M) → IsMadeFile bytes id_of content a → IsMadeFile bytes id_of content b → AreSameFiles bytes a b
  one_file content a b p q = (
    (λ x y ax by. p.told x ax ∙ sym (q.told y by)),
    (λ i. record {
      format = (p.reference.format ∙ sym q.reference.format) i;
      id = b.file.id;
      len = (p.reference.len ∙ sym q.reference.len) i;
      rows = (p.reference.rows ∙ sym q.reference.rows) i;
      blocks = (p.reference.blocks ∙ sym q.reference.blocks) i;
      first = (p.reference.first ∙ sym q.reference.first) i;
      last = (p.reference.last ∙ sym q.reference.last) i;
      aggregates = (p.reference.aggregates ∙ sym q.reference.aggregates) i;
      digest = (p.reference.digest ∙ sym q.reference.digest) i;
    }),
  )

  one_views : (number : ℕ) (contents : List Content) (xs ys : List (MadeView M)) → AreMadeViews bytes id_of number contents xs → AreMadeViews bytes id_of number contents ys → AreSameViews bytes xs ys
  one_views number [] [] [] p q = tt
  one_views number [] [] (y ∷ ys) p q = absurd q
  one_views number [] (x ∷ xs) ys p q = absurd p
  one_views number (c ∷ cs) [] ys p q = absurd p
  one_views number (c ∷ cs) (x ∷ xs) [] p q = absurd q
  one_views number (c ∷ cs) (x ∷ xs) (y ∷ ys) p q = (q.0 ∙ sym p.0, one_file c x.file y.file p.1 q.1, one_views (number + 1) cs xs ys p.2 q.2)

  none_and_some : (l : Lineage) (rows : List Row) (made : MadeFiles M) → rows ≡ [] → HaveMerged bytes id_of l rows (Some made) → ⊥
  none_and_some l rows made none have = let some = have.table.rows.some in let zero : length rows ≡ 0 = ap length none in omega (arith, some, zero)

  one_range : (l : Lineage) (rows : List Row) (x y : Option (MadeFiles M)) → HaveMerged bytes id_of l rows x → HaveMerged bytes id_of l rows y → AreSameDeltas bytes x y
  one_range l rows None None p q = tt
  one_range l rows None (Some b) p q = none_and_some l rows b p q
  one_range l rows (Some a) None p q = none_and_some l rows a q p
  one_range l rows (Some a) (Some b) p q = (one_file _ a.file b.file p.table q.table, one_views 0 _ a.views.items b.views.items p.grouped q.grouped)

  pub one_delta : {R : Type 0} (read : R → Option (List ℕ)) (l : Lineage) (t : Task R) (a b : NewDelta M) (contents : List (List Row)) → AreTold read t.inputs.items contents
      → IsMerged bytes id_of read l t a → IsMerged bytes id_of read l t b → AreSameDeltas bytes a.files b.files
  one_delta read l t a b contents told p q =
      one_range l _ a.files b.files (subst (λ rows. HaveMerged bytes id_of l rows a.files) (p.merge contents told) p.files) (subst (λ rows. HaveMerged bytes id_of l rows b.files) (q.merge contents told) q.files)
