use Rattle.std.proofs.Common.{◌≡◌, ◌<◌, List, length, refl, sym, ◌∙◌, subst, true}
use Rattle.mesa_open_files.specs.mesa_columns.declared.rows.Row.{Row}
use Rattle.mesa_open_files.specs.mesa_columns.Columns.{Columns}
use Rattle.mesa_open_files.specs.mesa_columns.Rows.{AreRowsOf, keys_rise}
use Rattle.mesa_schema.specs.Views.{view_columns, view_key_places, view_rows, view_value_places}
use Rattle.mesa_answer.specs.Gathering.{Wanted}
use Rattle.mesa_open_files.specs.Made.{IsMadeFile}
use Rattle.mesa_compact.specs.Damaged.{LeavesAmong, TotalLeaves}
use Rattle.mesa_compact.proofs.Causing.{caused_memory, caused_on, same_end}
use Rattle.mesa_compact.proofs.Whole.{if_ok_map}
use Rattle.mesa_compact.proofs.Regrouped.{groups_are, viewed_some}
use Rattle.mesa_answer.specs.Answering.{KeepsSums}
use Rattle.mesa_compact.proofs.Whole.{if_err_map}
use Rattle.mesa_compact.proofs.Regrouped.{view_sums}
use Rattle.mesa_compact.proofs.grouped.grouped_file.Goals as goal

pub into_rows-requires : goal.into_rows-requires
into_rows-requires g c = let put = c.requires.put in record { gathering = (put.2, put.3) }

pub rows_file-requires-clause-some : goal.rows_file-requires-clause-some
rows_file-requires-clause-some g c = λ _ _.
    let put = c.requires.put in
    let rows = c.as_slice.ensures ∙ groups_are put.0 put.1 _ put.2 c.in-Ok.rows put.5 (c.in-Ok.ensures.rows put.2 put.3) c.in-Ok.ensures.few in
    subst (λ (rows : List Row). 0 < length rows) (sym rows) (viewed_some put.0 put.1 put.2 put.4)

pub rows_file-requires-clause-form : goal.rows_file-requires-clause-form
rows_file-requires-clause-form g c = λ _ _.
    let put = c.requires.put in
    let rows = c.as_slice.ensures ∙ groups_are put.0 put.1 _ put.2 c.in-Ok.rows put.5 (c.in-Ok.ensures.rows put.2 put.3) c.in-Ok.ensures.few in
    let form : AreRowsOf put.0 put.2 = subst (λ (w : Wanted). AreRowsOf w.schema put.2) put.5 put.3.form in
    subst (λ (s : Columns). AreRowsOf s c.as_slice.result.now) (sym put.6) (subst (AreRowsOf (view_columns put.0 put.1)) (sym rows) (c.groups_rise.ensures.form put.0 (view_key_places put.0 put.1) (view_value_places put.0 put.1) put.2 form))

pub rows_file-requires-clause-rise : goal.rows_file-requires-clause-rise
rows_file-requires-clause-rise g c = λ _ _.
    let put = c.requires.put in
    let rows = c.as_slice.ensures ∙ groups_are put.0 put.1 _ put.2 c.in-Ok.rows put.5 (c.in-Ok.ensures.rows put.2 put.3) c.in-Ok.ensures.few in
    subst (λ (rows : List Row). keys_rise rows ≡ true) (sym rows) (c.groups_rise.ensures.rise put.0 (view_key_places put.0 put.1) (view_value_places put.0 put.1) put.2)

pub returns-in-Err-clause-causes : goal.returns-in-Err-clause-causes
returns-in-Err-clause-causes g c = λ reads. caused_memory _ _ _ reads reads refl refl

pub returns-clause-causes : goal.returns-clause-causes
returns-clause-causes g c = λ reads.
    caused_on _ _ _ _ _ reads reads reads c.rows_file.result c.rows_file.result refl refl (c.rows_file.ensures.causes reads) (same_end c.rows_file.result) (λ d told. (
      told.0,
      λ s v rows put wanted columns.
          let its = c.as_slice.ensures ∙ groups_are s v _ rows c.in-Ok.rows wanted (c.in-Ok.ensures.rows rows put) c.in-Ok.ensures.few in
          subst (λ (t : Columns). LeavesAmong (TotalLeaves t) (view_rows s v rows)) columns (subst (LeavesAmong (TotalLeaves c.args.schema.now)) its told.1),
    ))

pub returns-clause-made : goal.returns-clause-made
returns-clause-made g c = if_ok_map c.rows_file.result _ _ (λ made file s v rows put wanted columns.
    let same = c.as_slice.ensures ∙ groups_are s v _ rows c.in-Ok.rows wanted (c.in-Ok.ensures.rows rows put) c.in-Ok.ensures.few in
    subst (λ (t : Columns). IsMadeFile g.M.Made.bytes g.M.Made.id_of (record { columns = t; rows = view_rows s v rows }) made) columns
    (subst (λ (its : List Row). IsMadeFile g.M.Made.bytes g.M.Made.id_of (record { columns = c.args.schema.now; rows = its }) made) same file)) c.rows_file.ensures.made

pub returns-clause-accepts : goal.returns-clause-accepts
returns-clause-accepts g c = if_err_map c.rows_file.result _ _ (λ e none d is s v rows put wanted columns keeps.
    let its = c.as_slice.ensures ∙ groups_are s v _ rows c.in-Ok.rows wanted (c.in-Ok.ensures.rows rows put) c.in-Ok.ensures.few in
    none d is (subst (λ (t : Columns). KeepsSums t c.as_slice.result.now) (sym columns) (subst (KeepsSums (view_columns s v)) (sym its) (view_sums s v _ rows wanted put.values put.form keeps)))) c.rows_file.ensures.accepts
