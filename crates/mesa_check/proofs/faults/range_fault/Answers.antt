use Rattle.std.proofs.Common.{◌∙◌, ap, sym}
use Rattle.std.specs.Prelude.{option_map, Some}
use Rattle.mesa_catalog_table.specs.Meaning.{meta_of}
use Rattle.mesa_check.specs.Faults.{fault_of}
use Rattle.mesa_check.specs.Shown.{tested_range}
use Rattle.mesa_check.proofs.Told.{fault_shown, fault_stands, found_where, stands_as}
use Rattle.mesa_check.proofs.faults.range_fault.Goals as goal

pub returns-then-stands-clause-first : goal.returns-then-stands-clause-first
returns-then-stands-clause-first g c = λ next i found held told files below agrees read over.
    let u = meta_of next c.args.table.now in
    fault_stands found u (tested_range c.args.one.now) (sym (stands_as found u c.args.one.now c.args.over read.tested over) ∙ sym c.stands.ensures ∙ c.if-stands.true)

pub returns-in-Some-clause-first : goal.returns-in-Some-clause-first
returns-in-Some-clause-first g c = λ next i found held told files below agrees read over.
    let u = meta_of next c.args.table.now in
    let r = tested_range c.args.one.now in
    let stands = sym c.stands.ensures ∙ c.if-stands.false in
    let so = found_where c.args.one.now c.args.over stands in
    fault_shown found u r (sym (stands_as found u c.args.one.now c.args.over read.tested over) ∙ stands)
    ∙ ap (λ o. option_map (fault_of u r) (option_map Some o)) (c.in_ok-key.ensures.key next i found held told files below agrees read so ∙ c.in-Some.is)

pub returns-in-None-clause-first : goal.returns-in-None-clause-first
returns-in-None-clause-first g c = λ next i found held told files below agrees read over.
    let u = meta_of next c.args.table.now in
    let r = tested_range c.args.one.now in
    let stands = sym c.stands.ensures ∙ c.if-stands.false in
    let so = found_where c.args.one.now c.args.over stands in
    fault_shown found u r (sym (stands_as found u c.args.one.now c.args.over read.tested over) ∙ stands)
    ∙ ap (λ o. option_map (fault_of u r) (option_map Some o)) (c.in_ok-key.ensures.key next i found held told files below agrees read so ∙ c.in-None.is)
