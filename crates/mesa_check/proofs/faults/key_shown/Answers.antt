use Rattle.std.proofs.Common.{◌++◌, ◌∙◌, ap, sym}
use Rattle.std.specs.Prelude.{slice_get}
use Rattle.std.proofs.lemmas.Option.{IfSome_then}
use Rattle.std.proofs.lemmas.Result.{IfOk-weaker}
use Rattle.mesa_pick_files.specs.Lent.{now_if_any}
use Rattle.mesa_catalog_table.specs.Meaning.{meta_of}
use Rattle.mesa_check.specs.Faults.{view_keys}
use Rattle.mesa_check.specs.Held.{delta_of}
use Rattle.mesa_check.specs.Shown.{key_list, tested_range}
use Rattle.mesa_check.proofs.Told.{merged_in, merged_out}
use Rattle.mesa_check.proofs.faults.key_shown.Goals as goal

pub returns-then-not-is_cumulative-clause-key : goal.returns-then-not-is_cumulative-clause-key
returns-then-not-is_cumulative-clause-key g c =
    IfOk-weaker c.view_key.result _ _ (λ o key next i found held told files below agrees read so.
    ap (λ ks. slice_get (ks ++ view_keys found c.args.table.now.evolving.value (delta_of c.args.one.now.range)) 0) (merged_out found (meta_of next c.args.table.now) (tested_range c.args.one.now) (sym c.is_cumulative.ensures ∙ c.if-not-is_cumulative.true))
    ∙ sym (key i found told read so)) c.view_key.ensures.key

pub merged_key-requires-clause-order : goal.merged_key-requires-clause-order
merged_key-requires-clause-order g c κs within = IfSome_then (now_if_any c.args.before) c.requires.order (λ b order. order (sym c.is_cumulative.ensures ∙ c.if-not-is_cumulative.false))

pub returns-in-Some-clause-key : goal.returns-in-Some-clause-key
returns-in-Some-clause-key g c = λ next i found held told files below agrees read so.
    let is = merged_in found (meta_of next c.args.table.now) (tested_range c.args.one.now) (sym c.is_cumulative.ensures ∙ c.if-not-is_cumulative.false) in
    let key = c.in_ok-key.ensures.key next i found held told files below agrees read so in
    ap (λ ks. slice_get (ks ++ view_keys found c.args.table.now.evolving.value (delta_of c.args.one.now.range)) 0) (is ∙ sym key ∙ ap key_list c.in-Some.is)

pub returns-in-None-clause-key : goal.returns-in-None-clause-key
returns-in-None-clause-key g c =
    IfOk-weaker c.view_key-in-None.result _ _ (λ o key next i found held told files below agrees read so.
    let is = merged_in found (meta_of next c.args.table.now) (tested_range c.args.one.now) (sym c.is_cumulative.ensures ∙ c.if-not-is_cumulative.false) in
    let none = c.in_ok-key.ensures.key next i found held told files below agrees read so in
    ap (λ ks. slice_get (ks ++ view_keys found c.args.table.now.evolving.value (delta_of c.args.one.now.range)) 0) (is ∙ sym none ∙ ap key_list c.in-None.is)
    ∙ sym (key i found (c.in_ok-key.ensures.unmoved.told ∙ told) read so)) c.view_key-in-None.ensures.key
