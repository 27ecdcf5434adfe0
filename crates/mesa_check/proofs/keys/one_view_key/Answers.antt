use Rattle.std.proofs.Common.{◌≡◌, ◌<◌, ◌∙◌, ap, sym, subst, length, arith, List, map, true}
use Rattle.std.specs.Prelude.{IfSome, slice_get, Option, Some, None}
use Rattle.std.proofs.lemmas.Result.{IfOk-weaker}
use Rattle.mesa_pick_files.specs.Files.{own_lineage}
use Rattle.mesa_schema.specs.Changes.{Lineage, columns_of, epoch_of, lifted}
use Rattle.mesa_schema.specs.Views.{view_rows}
use Rattle.mesa_pick_files.specs.mesa_columns.declared.rows.Row.{Row}
use Rattle.mesa_pick_files.specs.mesa_columns.declared.views.View.{View}
use Rattle.mesa_compare.specs.Difference.{first_difference}
use Rattle.mesa_compare.specs.Compared.{present_rows}
use Rattle.mesa_check.specs.Found.{rows_found}
use Rattle.mesa_check.specs.Faults.{keep_bound}
use Rattle.mesa_check.specs.Tested.{IsThere}
use Rattle.mesa_check.proofs.Rows.{keeps_sums, view_shown}
use Rattle.mesa_check.proofs.Recorded.{own_rows, view_live_file, view_there}
use Rattle.mesa_check.proofs.keys.one_view_key.Goals as goal

-- what a view's own rows are, and what differs from them
both_views : (o : Option View) (P Q R : View → Type 0) → ((w : View) → P w → Q w → R w) → IfSome o P → IfSome o Q → IfSome o R
both_views None P Q R f p q = q
both_views (Some w) P Q R f p q = f w p q

pub returns-clause-key : goal.returns-clause-key
returns-clause-key g c =
    let l = c.args.table.now.evolving.now.value in
    let v = c.args.view.now in
    let own = c.in_ok-own.own.value in
    let same : length c.deref.result.now.views ≡ length l.views = ap (λ (m : Lineage). length m.views) c.deref.ensures in
    let count = c.views.ensures in
    let test = c.if-view-views.false in
    let there : v.view < length l.views = omega (arith, same, count, test) in
    let its : IfSome (slice_get l.views v.view) (λ (w : View). own ≡ own_lineage l w) = subst (λ (m : Lineage). IfSome (slice_get m.views v.view) (λ (w : View). own ≡ own_lineage m w)) c.deref-2.ensures c.in_ok-own.ensures in
    let live_file = view_live_file l v own there its in
    IfOk-weaker c.view_difference.result _ _ (λ o differs i found d told here beside rows keeps.
    let mine = rows_found found v.file.id in
    let all = rows_found found c.args.table.now.file.now.id in
    let asked : keep_bound (columns_of l) (present_rows c.args.table.now all) ≡ true = subst (λ (rs : List Row). keep_bound (columns_of l) rs ≡ true) rows keeps in
    let found_so = differs i all mine told here (subst (IsThere i found) (sym live_file) beside) (keeps_sums (columns_of l) (present_rows c.args.table.now all) asked) in
    view_shown found l d v (slice_get l.views v.view) o (view_there l v.view there) keeps
    (both_views (slice_get l.views v.view) (λ (w : View). own ≡ own_lineage l w) (λ (w : View). o ≡ first_difference (view_rows (columns_of l) w (present_rows c.args.table.now all)) (map (lifted own 0 (epoch_of own)) mine)) _
    (λ w is shown. shown ∙ (λ k. first_difference (view_rows (columns_of l) w (sym rows k)) (own_rows l w own mine is k))) its found_so)) c.view_difference.ensures.difference
