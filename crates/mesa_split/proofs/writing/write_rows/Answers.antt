use Rattle.std.proofs.Common.{◌≡◌, ◌+◌, ◌++◌, ◌∷◌, [], take, true, false, inl, inr, refl, sym, ◌∙◌, ap, subst, append_assoc}
use Rattle.std.specs.Prelude.{Some, slice_get}
use Rattle.mesa_compact.specs.mesa_columns.declared.rows.Row.{Row}
use Rattle.mesa_compact.specs.mesa_columns.Columns.{Columns}
use Rattle.mesa_compact.specs.mesa_columns.Lent.{lent}
use Rattle.mesa_compact.specs.mesa_columns.Rows.{IsRowOf, keys_rise}
use Rattle.mesa_delta.specs.Writing.{HasTaken, columns_of}
use Rattle.mesa_delta.specs.declared.error.FileError.TheVariants.{Damaged}
use Rattle.mesa_answer.specs.Answering.{KeepsSums}
use Rattle.mesa_merge.specs.Sums.{sum_damage}
use Rattle.mesa_compact.specs.Damaged.{RowLeaves, TotalLeaves}
use Rattle.mesa_compact.specs.Grouping.{HavePut}
use Rattle.mesa_compact.proofs.Leaving.{refused}
use Rattle.mesa_compact.proofs.Causing.{caused_damage, caused_ok, caused_unread, caused_write, no_write_damage}
use Rattle.mesa_compact.proofs.Following.{rises, sums_follow, taken_form}
use Rattle.mesa_compact.proofs.Putting.{takes_kept}
use Rattle.mesa_split.proofs.Written.{leaves_there, sums_there, take_there, there_of, up_to}
use Rattle.mesa_split.proofs.writing.write_rows.Goals as goal

pub put_all-requires-clause-gathering : goal.put_all-requires-clause-gathering
put_all-requires-clause-gathering g c =
    let start = c.requires.poured in
    (start.0 ++ take c.rows.i c.args.rows.now, (c.rows.invariant.poured start.0 start.1 start.2).put)

pub put_all-requires-clause-form : goal.put_all-requires-clause-form
put_all-requires-clause-form g c =
    let s = columns_of c.args.writer.now in
    (s, there_of (IsRowOf s) c.args.rows.now c.rows.i (lent c.row-next.result) c.requires.form c.row-next.ensures, takes_kept s c.args.groups.now c.rows.groups c.rows.invariant.wanted c.requires.takes)

pub push-requires-after_bounds : goal.push-requires-after_bounds
push-requires-after_bounds g c = λ _ _.
    let start = c.requires.poured in
    let rows = c.args.rows.now in
    let i = c.rows.i in
    let given = start.0 in
    let inv = c.rows.invariant in
    let now = inv.poured given start.1 start.2 in
    let next : Row = lent c.row-next.result in
    let at : slice_get rows i ≡ Some next = c.row-next.ensures in
    let more : (given ++ take i rows) ++ next ∷ [] ≡ given ++ take (i + 1) rows =
    append_assoc given (take i rows) (next ∷ []) ∙ ap (λ rs. given ++ rs) (sym (take_there rows i next at)) in (
      given ++ take i rows,
      now.taken,
      record {
        form = subst (λ (s : Columns). IsRowOf s next) (sym inv.columns) (there_of (IsRowOf (columns_of c.args.writer.now)) rows i next c.requires.form at);
        greater = rises ((given ++ take i rows) ++ next ∷ []) (ap keys_rise more ∙ up_to given rows (i + 1) start.2);
        sums = (c.allows.ensures (given ++ take i rows) now.taken).0 c.if-not-allows.false;
      },
    )

pub rows-preserved : goal.rows-preserved
rows-preserved g c =
    let rows = c.args.rows.now in
    let i = c.rows.i in
    let inv = c.rows.invariant in
    let next : Row = lent c.row-next.result in
    let at : slice_get rows i ≡ Some next = c.row-next.ensures in
    record {
      poured = λ given h rise.
          let now = inv.poured given h rise in
          let more : (given ++ take i rows) ++ next ∷ [] ≡ given ++ take (i + 1) rows =
          append_assoc given (take i rows) (next ∷ []) ∙ ap (λ rs. given ++ rs) (sym (take_there rows i next at)) in
          record {
            taken = subst (HasTaken g.T.Draft.bytes c.push.new.self) more (c.in-Ok-push.ensures.taken (given ++ take i rows) now.taken);
            put = subst (HavePut c.put_all.new.groups) more (c.in-Ok.ensures.put (given ++ take i rows) now.put);
          };
      columns = c.in-Ok-push.ensures.columns ∙ inv.columns;
      id = c.in-Ok-push.ensures.id ∙ inv.id;
      draft = c.in-Ok-push.ensures.draft ∙ inv.draft;
      faults = c.in-Ok-push.ensures.cause.quiet ∙ inv.faults;
      wanted = c.in-Ok.ensures.wanted ∙ inv.wanted;
    }

pub returns-then-not-allows-clause-causes : goal.returns-then-not-allows-clause-causes
returns-then-not-allows-clause-causes g c = λ reads.
    let inv = c.rows.invariant in
    let rows = c.args.rows.now in
    let i = c.rows.i in
    let next : Row = lent c.row-next.result in
    let at : slice_get rows i ≡ Some next = c.row-next.ensures in
    let s : Columns = columns_of c.args.writer.now in
    caused_damage _ _ _ reads reads _ (sum_damage c.args.newest) inv.faults refl c.sum_fault.ensures (
      refl,
      λ given h rise.
          let now = inv.poured given h rise in
          let here = refused (columns_of c.rows.writer) (given ++ take i rows) next c.allows.result (c.allows.ensures (given ++ take i rows) now.taken) c.if-not-allows.true in
          let there = subst (λ (t : Columns). TotalLeaves t (given ++ take i rows) next) inv.columns here in
          leaves_there (RowLeaves s) given rows i next at (inl there),
    )

pub returns-then-not-allows-clause-accepts : goal.returns-then-not-allows-clause-accepts
returns-then-not-allows-clause-accepts g c = λ d e given h rise keeps.
    let rows = c.args.rows.now in
    let i = c.rows.i in
    let inv = c.rows.invariant in
    let s : Columns = columns_of c.rows.writer in
    let next : Row = lent c.row-next.result in
    let at : slice_get rows i ≡ Some next = c.row-next.ensures in
    let now = inv.poured given h rise in
    let all : KeepsSums s ((given ++ take i rows) ++ next ∷ []) =
    subst (λ (t : Columns). KeepsSums t ((given ++ take i rows) ++ next ∷ [])) (sym inv.columns)
    (sums_there (columns_of c.args.writer.now) given rows i next at keeps) in
    let no : false ≡ true = sym c.if-not-allows.true ∙ (c.allows.ensures (given ++ take i rows) now.taken).1 (λ _. sums_follow s (given ++ take i rows) next (taken_form s _ now.taken.good) all) in
    cc

pub returns-in-Err-clause-causes : goal.returns-in-Err-clause-causes
returns-in-Err-clause-causes g c = λ reads.
    let inv = c.rows.invariant in
    let rows = c.args.rows.now in
    let i = c.rows.i in
    let next : Row = lent c.row-next.result in
    let at : slice_get rows i ≡ Some next = c.row-next.ensures in
    let s : Columns = columns_of c.args.writer.now in
    caused_unread _ _ _ reads reads c.in-Err.unfit inv.faults refl c.in-Err.ensures.unread (λ d is. (
      c.in-Err.ensures.damaged d is,
      λ given h rise.
          let now = inv.poured given h rise in
          leaves_there (RowLeaves s) given rows i next at (inr (c.in-Err.ensures.leaves d is s (given ++ take i rows) now.put (takes_kept s c.args.groups.now c.rows.groups inv.wanted c.requires.takes))),
    ))

pub returns-in-Err-clause-accepts : goal.returns-in-Err-clause-accepts
returns-in-Err-clause-accepts g c = λ d e given h rise keeps.
    let rows = c.args.rows.now in
    let i = c.rows.i in
    let inv = c.rows.invariant in
    let s : Columns = columns_of c.args.writer.now in
    let next : Row = lent c.row-next.result in
    let at : slice_get rows i ≡ Some next = c.row-next.ensures in
    let now = inv.poured given h rise in
    let damaged : c.in-Err.unfit ≡ Damaged d = cc in
    c.in-Err.ensures.never d damaged s (given ++ take i rows) now.put (takes_kept s c.args.groups.now c.rows.groups inv.wanted c.requires.takes)
    (sums_there s given rows i next at keeps)

pub returns-in-Err-push-clause-causes : goal.returns-in-Err-push-clause-causes
returns-in-Err-push-clause-causes g c = λ reads. caused_write _ _ _ _ reads reads c.in-Err-push.error c.from.result c.rows.invariant.faults refl c.from.ensures c.in-Err-push.ensures.cause

pub returns-in-Err-push-clause-accepts : goal.returns-in-Err-push-clause-accepts
returns-in-Err-push-clause-accepts g c = λ d e given h rise keeps. no_write_damage c.in-Err-push.error c.from.result c.from.ensures d e

pub returns-clause-causes : goal.returns-clause-causes
returns-clause-causes g c = λ reads. caused_ok _ _ _ reads reads _ c.rows.invariant.faults refl
