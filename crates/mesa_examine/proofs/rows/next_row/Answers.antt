use Rattle.std.proofs.Common.{◌≡◌, ◌∷◌, ◌++◌, List, drop, ap, subst, sym, ◌∙◌}
use Rattle.std.specs.Prelude.{None}
use Rattle.mesa_open_files.specs.mesa_columns.declared.rows.Row.{Row}
use Rattle.mesa_schema.specs.Changes.{columns_of}
use Rattle.mesa_open_files.specs.mesa_columns.Rows.{AreRowsOf, IsRowOf}
use Rattle.mesa_scan.specs.Cursors.{at_hand}
use Rattle.mesa_scan.proofs.Taken.{taken}
use Rattle.mesa_examine.proofs.Streams.{form_in}
use Rattle.mesa_examine.proofs.rows.next_row.Goals as goal

pub returns-clause-some : goal.returns-clause-some
returns-clause-some g c =
    let bytes = g.R.FileReader.bytes in
    let now = c.fill.new.input in
    let row : Row = c.fill-2.new.self in
    let some = rw c.in-Some.is at c.head.ensures.some in
    let rest : at_hand c.step.new.self ≡ some.0 = c.step.ensures.rows ∙ ap (drop 1) some.1 in
    let hand : at_hand c.fill.new.self ≡ row ∷ at_hand c.step.new.self = some.1 ∙ (λ k. sym c.in_ok-fill.ensures k ∷ sym rest k) in
    λ given h.
    let mid = c.in-Ok.ensures.given None given h in
    let form : AreRowsOf (columns_of now.evolving.value) (given ++ row ∷ at_hand c.step.new.self) = subst (λ (l : List Row). AreRowsOf (columns_of now.evolving.value) (given ++ l)) hand (c.rises.ensures.form None given mid) in (
      taken bytes None now c.fill.new.self c.step.new.self given row mid hand c.step.ensures.still,
      subst (λ s. IsRowOf s row) (ap (λ e. columns_of e.value) c.fill.ensures.same.evolving) (form_in (columns_of now.evolving.value) given row (at_hand c.step.new.self) form),
    )

pub returns-in_default-clause-none : goal.returns-in_default-clause-none
returns-in_default-clause-none g c = λ given h.
    let mid = c.in-Ok.ensures.given None given h in
    (mid, c.ends.ensures.all given mid c.in-Ok.ensures.ready (rw c.in_default.is at c.head.ensures.none))
