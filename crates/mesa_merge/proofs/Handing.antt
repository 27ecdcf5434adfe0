-- A merge whose lists were lent and came back.
use Rattle.std.proofs.Common.{◌≡◌, ℕ, ◌<◌, ◌≤◌, List, [], ◌++◌, sym, ◌∙◌, ap, subst, length, get_or, take, drop, arith, true, false}
use Rattle.std.proofs.lemmas.List.{append-nil, drop_all, take_all}
use Rattle.std.specs.Prelude.{Option, None}
use Rattle.mesa_scan.specs.mesa_columns.declared.rows.Row.{Row}
use Rattle.mesa_scan.specs.mesa_columns.Columns.{Columns, aggs_of}
use Rattle.mesa_delta.specs.declared.input.Input.{Input}
use Rattle.mesa_scan.specs.declared.cursor.Cursor.{Cursor}
use Rattle.mesa_merge.specs.Hands.{hands_of}
use Rattle.mesa_merge.specs.Matches.{IsTree}
use Rattle.mesa_merge.specs.Merged.{AreBelow, HasMergedBetween}
use Rattle.mesa_merge.specs.Merging.{IsMerging}
use Rattle.mesa_merge.specs.declared.matches.Tree.{Tree}
use Rattle.mesa_merge.specs.declared.merge.Merge.{Merge}

-- what was lent whole and came back as long is what came back
pub refill : {X : Type 0} (len : ℕ) (old new : List X) → length old ≡ len → length new ≡ length old → take len (new ++ drop (length new) old) ≡ new
refill len old new e f =
    let all : length old ≤ length new = omega (arith, f) in
    let whole : length new ≤ len = omega (arith, e, f) in
    ap (λ rest. take len (new ++ rest)) (drop_all (length new) old all) ∙ ap (take len) (append-nil new) ∙ take_all len new whole

-- of a merge with these lists just these rows were given
pub merged_with : {R : Type 0} (bytes : R → Option (List ℕ)) (low high : Option (List ℕ)) (s : Columns) (m : Merge R) (inputs : List (Input R)) (cursors : List Cursor) (tree : Tree) (givens : List (List Row))
    → m.inputs.items ≡ inputs → m.cursors.items ≡ cursors → m.tree ≡ tree → m.begun ≡ true → m.failed ≡ None → m.high ≡ high → ((j : ℕ) → AreBelow high (get_or givens j [])) → (0 < length inputs → m.aggs.items ≡ aggs_of s)
    → IsTree (hands_of cursors) tree → IsMerging bytes low s inputs cursors givens → HasMergedBetween bytes low high s m givens
merged_with bytes low high s m inputs cursors tree givens ei ec ew begun going end below columns played merging =
    let all : IsMerging bytes low s m.inputs.items m.cursors.items givens = subst (λ is. IsMerging bytes low s is m.cursors.items givens) (sym ei) (subst (λ cs. IsMerging bytes low s inputs cs givens) (sym ec) merging) in
    record {
      going = going;
      columns = λ some. columns (subst (λ is. 0 < length is) ei some);
      tree = subst (λ cs. IsTree (hands_of cs) m.tree) (sym ec) (subst (IsTree (hands_of cursors)) (sym ew) played);
      alike = all.alike;
      given = all.given;
      end = end;
      below = below;
      none = λ no. let both : true ≡ false = sym begun ∙ no in cc;
      fresh = λ no. let both : true ≡ false = sym begun ∙ no in cc;
      merging = λ _. all;
    }
