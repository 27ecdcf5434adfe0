-- A table's columns and views, from one recast to the next.
use Rattle.std.proofs.Common.{◌≡◌, inl, inr, length, sym, ◌∙◌, arith, true}
use Rattle.std.specs.Prelude.{is_ok}
use Rattle.std.proofs.lemmas.List.{take_all}
use Rattle.mesa_columns.specs.declared.changes.Change.{Change}
use Rattle.mesa_columns.specs.declared.views.View.{View}
use Rattle.mesa_pick_files.specs.mesa_schema.Changes.{Lineage, epoch_of, rule_checked, with_change}
use Rattle.mesa_pick_files.specs.mesa_schema.Lineages.{IsLineage}
use Rattle.mesa_pick_files.specs.mesa_schema.Recasts.{Recast, recast_lineage}
use Rattle.mesa_pick_files.specs.mesa_schema.Views.{with_view}
use Rattle.mesa_file_records.specs.Grown.{HasBecome, HasGrown, HasSameColumns}
use Rattle.mesa_file_records.proofs.Growing.{epoch_was, grown_changed, grown_not, grown_viewed}

pub become_not : (l : Lineage) → HasBecome l l
become_not l = inl (grown_not l)

pub become_changed : (was now : Lineage) (change : Change) → IsLineage now → is_ok (rule_checked now change) ≡ true → HasBecome was now → HasBecome was (with_change now change)
become_changed was now change is rule (inl grown) = inl (grown_changed was now change is rule grown)
become_changed was now change is rule (inr later) = inr later

pub become_viewed : (was now : Lineage) (v : View) → HasBecome was now → HasBecome was (with_view now v)
become_viewed was now v (inl grown) = inl (grown_viewed was now v grown)
become_viewed was now v (inr later) = inr later

-- a recast begins behind the epoch that was
pub become_recast : (was now : Lineage) (r : Recast) → HasBecome was now → HasBecome was (recast_lineage now r)
become_recast was now r (inl grown) = inr (let le = epoch_was was now grown in omega (arith, le))
become_recast was now r (inr later) = inr (omega (arith, later))

pub grown_where_begun : (was now : Lineage) → now.begins ≡ was.begins → HasBecome was now → HasGrown was now
grown_where_begun was now same (inl grown) = grown
grown_where_begun was now same (inr later) = absurd (omega (arith, same, later))

-- all changes that there are were there
all_there : (was now : Lineage) → epoch_of now ≡ epoch_of was → HasGrown was now → now.changes ≡ was.changes
all_there was now same grown = sym (take_all (length was.changes) now.changes (omega (arith, same, grown.begins))) ∙ grown.changes

pub same_columns : (was now : Lineage) → epoch_of now ≡ epoch_of was → HasBecome was now → HasSameColumns was now
same_columns was now same (inl grown) = record { begins = grown.begins; first = grown.first; changes = all_there was now same grown }
same_columns was now same (inr later) = absurd (omega (arith, same, later))
