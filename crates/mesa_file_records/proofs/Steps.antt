-- Steps of the loops over a batch's parts.
use Rattle.std.proofs.Common.{◌≡◌, ℕ, ◌+◌, List, ◌∷◌, ◌++◌, length, refl, sym, ◌∙◌, ap, subst, arith, append_assoc, Option, Some, None}
use Rattle.std.proofs.lemmas.List.{length-append}
use Rattle.mesa_list.specs.Checks.{◌>>◌}
use Rattle.mesa_record.specs.declared.record.Part.{Part}
use Rattle.mesa_engine.specs.mesa_store_spec.Catalog.{Catalog, meta_at}
use Rattle.mesa_open_files.specs.declared.prepared.PreparedPart.{PreparedPart}
use Rattle.mesa_file_records.specs.declared.failure.Unpublished.{Unpublished}
use Rattle.mesa_file_records.specs.declared.failure.Unpublished.TheVariants as un
use Rattle.mesa_file_records.specs.Adopted.{ArePartsOf, files_of_part, files_of_parts, part_under, parts_under, told_under}
use Rattle.mesa_file_records.specs.Bounds.{IsDue, parts_checked, totals_checked}
use Rattle.mesa_file_records.proofs.Lists.{told_joined}

-- the first part's refusal is the parts'
pub due_first : {M : Type 0} (c : Catalog) (p : PreparedPart M) (rest : List (PreparedPart M)) (e : Unpublished) → IsDue (totals_checked (meta_at c p.table) p.totals) e → IsDue (parts_checked c (p ∷ rest)) e
due_first c p rest (un.Refused x) is = ap (λ r. r >> parts_checked c rest) is
due_first c p rest un.Memory is = tt

pub if_none : (o : Option Part) → ((p : Part) → o ≡ Some p → ⊥) → o ≡ None
if_none None never = refl
if_none (Some p) never = absurd (never p refl)

module _ {M : Type 0} (bytes : M → Option (List ℕ)) (c : Catalog) (id next : ℕ) (p : PreparedPart M) (rest left : List (PreparedPart M)) (first : left ≡ p ∷ rest) (next_is : next ≡ id + length (files_of_part p)) where
  pub there_next : ArePartsOf c left → ArePartsOf c rest
  there_next all = (subst (ArePartsOf c) first all).1

  pub parts_next : (all more own whole : List Part) → own ≡ part_under c id p.table p.totals p.files → more ≡ all ++ own → all ++ parts_under c id left ≡ whole → more ++ parts_under c next rest ≡ whole
  parts_next all more own whole is added so_far =
      (λ i. (added ∙ ap (λ x. all ++ x) is) i ++ parts_under c (next_is i) rest) ∙ append_assoc all (part_under c id p.table p.totals p.files) (parts_under c (id + length (files_of_part p)) rest)
      ∙ ap (λ ps. all ++ parts_under c id ps) (sym first) ∙ so_far

  pub made_next : (old new whole : List (ℕ × Option (List ℕ))) → new ≡ old ++ told_under bytes id (files_of_part p) → old ++ told_under bytes id (files_of_parts left) ≡ whole → new ++ told_under bytes next (files_of_parts rest) ≡ whole
  made_next old new whole added so_far =
      (λ i. added i ++ told_under bytes (next_is i) (files_of_parts rest)) ∙ append_assoc old (told_under bytes id (files_of_part p)) (told_under bytes (id + length (files_of_part p)) (files_of_parts rest))
      ∙ ap (λ x. old ++ x) (sym (told_joined bytes id (files_of_part p) (files_of_parts rest))) ∙ ap (λ ps. old ++ told_under bytes id (files_of_parts ps)) (sym first) ∙ so_far

  pub count_next : (total : ℕ) → id + length (files_of_parts left) ≡ total → next + length (files_of_parts rest) ≡ total
  count_next total so_far =
      let sum = length-append (files_of_part p) (files_of_parts rest) in
      let were = ap (λ ps. length (files_of_parts ps)) first in
      omega (arith, sum, were, so_far, next_is)
