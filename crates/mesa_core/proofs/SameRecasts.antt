-- Recasts of which the same is known.
use Rattle.std.proofs.Common.{◌≡◌, inl, inr, ◌∙◌, ℕ, ◌≤◌, List, [], ◌∷◌, refl, sym, ap, subst, Option, None, Some}
use Rattle.std.specs.Prelude.{option_map, option_to_list}
use Rattle.std.specs.List.{AllByRecursion}
use Rattle.mesa_recast_turns.specs.mesa_schema.Changes.{Lineage, columns_of, epoch_of}
use Rattle.mesa_delta.specs.declared.input.Input.{Input}
use Rattle.mesa_recast_turns.specs.mesa_pick_files.Ranges.{HasInput, HoldsAll, HoldsAt, Ranged, ranged}
use Rattle.mesa_engine.specs.mesa_store_spec.Catalog.{TableMeta}
use Rattle.mesa_engine.specs.mesa_record.declared.record.Files.{Files}
use Rattle.mesa_recast_turns.specs.mesa_history_spec.Sources.{Source, Written, range_rows, sources_from}
use Rattle.mesa_core.specs.Recasts.{KnownRecast, known_recast}
use Rattle.mesa_recast_turns.proofs.mesa_copy.Same.{bounded_same}
use Rattle.mesa_recast_turns.specs.mesa_copy.Copying.{AreRangesBounded, IsRecastBounded, KnownRange, known_range, known_ranges}
use Rattle.mesa_recast_turns.specs.mesa_merge.Inputs.{Known, known_of, knowns_of}
use Rattle.mesa_core.proofs.Known.{cons_none, first_same, merge_stays, none_some, rest_same, some_same}
use Rattle.mesa_recast_turns.specs.mesa_file_records.Recasts.{HasItsRange, HasItsRanges, sources_at}
use Rattle.mesa_open_files.specs.Recasts.{own, recast_table}
use Rattle.mesa_open_files.specs.declared.recasting.Recast.{Recast}
use Rattle.mesa_open_files.specs.declared.recasting.RecastRange.{RecastRange}
use Rattle.mesa_core.specs.Known.{AllAreBounded, AllHaveRanges}

module _ {R : Type 0} (bytes : R → Option (List ℕ)) where
  -- a range's own files
  owns_same : (old new : Option (Input R)) → option_map (known_of bytes) new ≡ option_map (known_of bytes) old → knowns_of bytes (option_to_list new) ≡ knowns_of bytes (option_to_list old)
  owns_same None None same = refl
  owns_same None (Some n) same = absurd (none_some _ (sym same))
  owns_same (Some o) None same = absurd (none_some _ same)
  owns_same (Some o) (Some n) same = ap (λ (k : Known). k ∷ []) (some_same _ _ same)

  one_known : (l : Lineage) (written : List Written) (old new : RecastRange R) → known_range bytes new ≡ known_range bytes old → HasItsRange bytes l written old → HasItsRange bytes l written new
  one_known l written old new same has =
      let from : new.from ≡ old.from = ap (λ (k : KnownRange). k.from) same in
      let to : new.to ≡ old.to = ap (λ (k : KnownRange). k.to) same in
      let files = owns_same old.input new.input (ap (λ (k : KnownRange). k.file) same) in
      let sources : sources_at old written ≡ sources_at new written = λ j. sources_from (sym from j) (sym to j) written in
      record {
        epochs = subst (AllByRecursion (λ (s : Source). s.epoch ≤ epoch_of l)) sources has.epochs;
        rows = λ its merge. has.rows its (merge_stays bytes (columns_of l) (own new) (own old) its (sym files) merge) ∙ ap (range_rows l (epoch_of l)) sources;
      }

  all_known : (l : Lineage) (written : List Written) (old new : List (RecastRange R)) → known_ranges bytes new ≡ known_ranges bytes old → AllByRecursion (HasItsRange bytes l written) old → AllByRecursion (HasItsRange bytes l written) new
  all_known l written [] [] same has = tt
  all_known l written [] (n ∷ new) same has = absurd (cons_none _ _ same)
  all_known l written (o ∷ old) [] same has = absurd (cons_none _ _ (sym same))
  all_known l written (o ∷ old) (n ∷ new) same has = (one_known l written o n (first_same _ _ _ _ same) has.0, all_known l written old new (rest_same _ _ _ _ same) has.1)

  pub ranges_known : (old : Recast R) (written : List Written) → HasItsRanges bytes old written → AllHaveRanges bytes (known_recast bytes old) written
  ranges_known old written has new same =
      let table : recast_table old ≡ recast_table new = sym (ap (λ (k : KnownRecast). k.lineage) same) in
      subst (λ (l : Lineage). AllByRecursion (HasItsRange bytes l written) new.ranges.items) table
      (all_known (recast_table old) written old.ranges.items new.ranges.items (ap (λ (k : KnownRecast). k.ranges) same) has)

  pub bounded_known : (old : Recast R) → IsRecastBounded bytes old → AllAreBounded bytes (known_recast bytes old)
  bounded_known old has new same =
      let table : recast_table old ≡ recast_table new = sym (ap (λ (k : KnownRecast). k.lineage) same) in
      subst (λ (l : Lineage). AreRangesBounded bytes (columns_of l) new.ranges.items) table (bounded_same bytes (columns_of (recast_table old)) old.ranges.items new.ranges.items (ap (λ (k : KnownRecast). k.ranges) same) has)

  -- ---- the ranges that a recast holds

  input_known : (a b : Option (Input R)) (i : Input R) → option_map (known_of bytes) b ≡ option_map (known_of bytes) a → a ≡ Some i → (j : Input R) × (b ≡ Some j)
  input_known a None i same is = absurd (none_some (known_of bytes i) (same ∙ ap (option_map (known_of bytes)) is))
  input_known a (Some j) i same is = (j, refl)

  -- ranges of which the same is known have inputs where these have them
  has_known : (old new : List (RecastRange R)) (from to : ℕ) → known_ranges bytes new ≡ known_ranges bytes old → HasInput old from to → HasInput new from to
  has_known [] new from to same has = absurd has
  has_known (o ∷ old) [] from to same has = absurd (cons_none _ _ (sym same))
  has_known (o ∷ old) (n ∷ new) from to same (inl one) =
      let first : known_range bytes n ≡ known_range bytes o = first_same _ _ _ _ same in
      let found = input_known o.input n.input one.2 (ap (λ (k : KnownRange). k.file) first) one.3 in
      inl (ap (λ (k : KnownRange). k.from) first ∙ one.0, ap (λ (k : KnownRange). k.to) first ∙ one.1, found.0, found.1)
  has_known (o ∷ old) (n ∷ new) from to same (inr more) = inr (has_known old new from to (rest_same _ _ _ _ same) more)

  holds_at : (old new : List (RecastRange R)) (x : Ranged) → known_ranges bytes new ≡ known_ranges bytes old → HoldsAt old x.from x.to x.delta.files → HoldsAt new x.from x.to x.delta.files
  holds_at old new x same = by x.delta.files
    where
      by : (files : Option Files) → HoldsAt old x.from x.to files → HoldsAt new x.from x.to files
      by None has = tt
      by (Some f) has = has_known old new x.from x.to same has

  holds_known : (old new : List (RecastRange R)) (xs : List Ranged) → known_ranges bytes new ≡ known_ranges bytes old → AllByRecursion (λ (x : Ranged). HoldsAt old x.from x.to x.delta.files) xs → AllByRecursion (λ (x : Ranged). HoldsAt new x.from x.to x.delta.files) xs
  holds_known old new [] same has = tt
  holds_known old new (x ∷ xs) same has = (holds_at old new x same has.0, holds_known old new xs same has.1)

  pub recast_holds : (old new : Recast R) (s : TableMeta) → known_recast bytes new ≡ known_recast bytes old → HoldsAll old.ranges.items s → HoldsAll new.ranges.items s
  recast_holds old new s same has = holds_known old.ranges.items new.ranges.items (ranged s) (ap (λ (k : KnownRecast). k.ranges) same) has
