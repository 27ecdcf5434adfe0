use Rattle.std.proofs.Common.{subst}
use Rattle.std.specs.Prelude.{IsTrue}
use Rattle.std.proofs.lemmas.Result.{IfOk-weaker}
use Rattle.mesa_pick_files.specs.mesa_columns.Schema.{is_schema}
use Rattle.mesa_schema.specs.Changes.{Lineage, columns_at}
use Rattle.mesa_compare.specs.mesa_open_files.Opening.{wanted_columns}
use Rattle.mesa_check.proofs.Recorded.{found_once, has_rows, some_as_found}
use Rattle.mesa_check.proofs.files.test_file.Goals as goal

pub returns-clause-sums : goal.returns-clause-sums
returns-clause-sums g c =
    let w = c.args.wanted.now in
    let schema : IsTrue (is_schema (wanted_columns w)) = subst (λ (l : Lineage). IsTrue (is_schema (columns_at l w.epoch))) c.deref.ensures (c.present.ensures.rules.schemas w.epoch) in
    IfOk-weaker c.examine.result _ _ (λ o is i rows told found. found_once c.one_file.ensures i w rows o schema c.length_of.ensures.fits (is i told) found) c.examine.ensures.found

pub returns-clause-some : goal.returns-clause-some
returns-clause-some g c =
    let w = c.args.wanted.now in
    let schema : IsTrue (is_schema (wanted_columns w)) = subst (λ (l : Lineage). IsTrue (is_schema (columns_at l w.epoch))) c.deref.ensures (c.present.ensures.rules.schemas w.epoch) in
    IfOk-weaker c.examine.result _ _ (λ o is i rows told found. some_as_found w rows o (found_once c.one_file.ensures i w rows o schema c.length_of.ensures.fits (is i told) found)) c.examine.ensures.found

pub returns-clause-there : goal.returns-clause-there
returns-clause-there g c = IfOk-weaker c.examine.result _ _ (λ o is i told some. has_rows i c.args.wanted.now o some (is i told)) c.examine.ensures.found
