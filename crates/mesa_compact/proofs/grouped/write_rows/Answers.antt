use Rattle.std.proofs.Common.{◌≡◌, ◌++◌, ◌∷◌, [], map, take, sym, ◌∙◌, subst, refl}
use Rattle.mesa_open_files.specs.mesa_block.Rows.{Rise}
use Rattle.mesa_open_files.specs.mesa_block.Spelling.{key_of}
use Rattle.mesa_open_files.specs.mesa_columns.declared.rows.Row.{Row}
use Rattle.mesa_open_files.specs.mesa_columns.Columns.{Columns}
use Rattle.mesa_open_files.specs.mesa_columns.Lent.{lent}
use Rattle.mesa_open_files.specs.mesa_columns.Rows.{IsRowOf}
use Rattle.mesa_delta.specs.Writing.{columns_of}
use Rattle.mesa_merge.specs.Sums.{sum_damage}
use Rattle.mesa_compact.proofs.Causing.{caused_damage, caused_ok, caused_write}
use Rattle.mesa_compact.proofs.Following.{rises}
use Rattle.mesa_compact.proofs.Regrouped.{rise_at}
use Rattle.mesa_compact.proofs.Putting.{all_at}
use Rattle.std.proofs.Common.{true, false}
use Rattle.mesa_answer.specs.Answering.{KeepsSums}
use Rattle.mesa_answer.proofs.Bounds.{sums_taken}
use Rattle.mesa_compact.proofs.Causing.{no_write_damage}
use Rattle.mesa_compact.proofs.Following.{sums_follow, taken_form}
use Rattle.mesa_compact.specs.Damaged.{TotalLeaves}
use Rattle.mesa_compact.proofs.Leaving.{among_at, refused}
use Rattle.mesa_compact.proofs.grouped.write_rows.Goals as goal

pub push-requires-after_bounds : goal.push-requires-after_bounds
push-requires-after_bounds g c = λ _ _.
    let rows = c.args.rows.now in
    let i = c.rows.row-index in
    let row = c.row-item.result in
    let cols : columns_of c.rows.writer ≡ columns_of c.args.writer.now = c.rows.invariant.columns in (
      take i rows,
      c.rows.invariant.taken,
      record {
        form = subst (λ (s : Columns). IsRowOf s (lent c.lend-next.result)) (sym cols) (subst (IsRowOf (columns_of c.args.writer.now)) (sym (c.lend-next.ensures ∙ c.row-item.is)) (all_at (IsRowOf (columns_of c.args.writer.now)) rows i row c.requires.form c.rows-test.true));
        greater = subst (λ (x : Row). Rise (map key_of (take i rows ++ x ∷ []))) (sym (c.lend-next.ensures ∙ c.row-item.is)) (rise_at rows i row c.rows-test.true (rises rows c.requires.rise));
        sums = (c.allows.ensures (take i rows) c.rows.invariant.taken).0 c.if-not-allows.false;
      },
    )

pub returns-then-not-allows-clause-causes : goal.returns-then-not-allows-clause-causes
returns-then-not-allows-clause-causes g c = λ reads.
    let inv = c.rows.invariant in
    let rows = c.args.rows.now in
    let i = c.rows.row-index in
    let s : Columns = columns_of c.args.writer.now in
    let here = refused (columns_of c.rows.writer) (take i rows) (lent c.lend-next.result) c.allows.result (c.allows.ensures (take i rows) inv.taken) c.if-not-allows.true in
    let there = subst (λ (t : Columns). TotalLeaves t (take i rows) (lent c.lend-next.result)) inv.columns here in
    let row = subst (λ (x : Row). TotalLeaves s (take i rows) x) c.lend-next.ensures there in
    caused_damage _ _ _ reads reads _ (sum_damage c.args.newest) inv.faults refl c.sum_fault.ensures (refl, among_at (TotalLeaves s) [] rows i c.row-item.result c.rows-test.true c.row-item.is row)

pub returns-in-Err-clause-causes : goal.returns-in-Err-clause-causes
returns-in-Err-clause-causes g c = λ reads. caused_write _ _ _ _ reads reads c.in-Err.error c.from.result c.rows.invariant.faults refl c.from.ensures c.in-Err.ensures.cause

pub returns-clause-causes : goal.returns-clause-causes
returns-clause-causes g c = λ reads. caused_ok _ _ _ reads reads _ c.rows.invariant.faults refl

pub returns-then-not-allows-clause-accepts : goal.returns-then-not-allows-clause-accepts
returns-then-not-allows-clause-accepts g c = λ d e keeps.
    let inv = c.rows.invariant in
    let rows = c.args.rows.now in
    let i = c.rows.row-index in
    let row = c.row-item.result in
    let s : Columns = columns_of c.rows.writer in
    let same : lent c.lend-next.result ≡ row = c.lend-next.ensures in
    let all : KeepsSums s (take i rows ++ lent c.lend-next.result ∷ []) =
    subst (λ (t : Columns). KeepsSums t (take i rows ++ lent c.lend-next.result ∷ [])) (sym inv.columns)
    (subst (λ (x : Row). KeepsSums (columns_of c.args.writer.now) (take i rows ++ x ∷ [])) (sym same) (sums_taken (columns_of c.args.writer.now) i rows row c.rows-test.true c.row-item.is keeps)) in
    let no : false ≡ true = sym c.if-not-allows.true ∙ (c.allows.ensures (take i rows) inv.taken).1 (λ _. sums_follow s (take i rows) (lent c.lend-next.result) (taken_form s _ inv.taken.good) all) in
    cc

pub returns-in-Err-clause-accepts : goal.returns-in-Err-clause-accepts
returns-in-Err-clause-accepts g c = λ d e keeps. no_write_damage c.in-Err.error c.from.result c.from.ensures d e
