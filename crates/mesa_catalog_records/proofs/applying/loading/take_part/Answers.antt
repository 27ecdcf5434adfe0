use Rattle.std.proofs.Common.{◌≡◌, ◌<◌, ◌∙◌, ap, sym, arith, length, true, false, refl}
use Rattle.std.specs.Prelude.{◌==◌, find, position}
use Rattle.std.proofs.lemmas.Bool.Decides.{nat_tests}
use Rattle.std.proofs.lemmas.Option.{slice_get_read}
use Rattle.mesa_table_records.specs.Readied.{is_part_of}
use Rattle.mesa_catalog_records.proofs.Loads.{find_without, found_at, found_nowhere, found_passes}
use Rattle.mesa_catalog_records.proofs.applying.loading.take_part.Goals as goal

pub returns-in-None-clause-taken : goal.returns-in-None-clause-taken
returns-in-None-clause-taken c =
    let p = is_part_of c.args.number in
    sym (found_nowhere p c.args.parts.now.items (sym (c.in-None.ensures.place ∙ ap (position p) c.deref.ensures.value)))

pub returns-in-Some-clause-taken : goal.returns-in-Some-clause-taken
returns-in-Some-clause-taken c =
    let p = is_part_of c.args.number in
    let items = c.args.parts.now.items in
    let at = sym (c.in-Some.ensures.place ∙ ap (position p) c.deref.ensures.value) in
    let within : c.in-Some.place < length items = let h = c.in-Some.ensures.within in let e = ap length c.deref.ensures.value in omega arith in
    sym (found_at p items c.in-Some.place at ∙ slice_get_read items (length items) c.in-Some.place c.remove.result refl within c.remove.ensures.value)

pub returns-in-Some-clause-others : goal.returns-in-Some-clause-others
returns-in-Some-clause-others c = λ m ne.
    let p = is_part_of c.args.number in
    let items = c.args.parts.now.items in
    let at = sym (c.in-Some.ensures.place ∙ ap (position p) c.deref.ensures.value) in
    let within : c.in-Some.place < length items = let h = c.in-Some.ensures.within in let e = ap length c.deref.ensures.value in omega arith in
    let found = found_at p items c.in-Some.place at ∙ slice_get_read items (length items) c.in-Some.place c.remove.result refl within c.remove.ensures.value in
    let passes : (c.remove.result.table == c.args.number) ≡ true = found_passes p items c.remove.result found in
    let fails : (c.remove.result.table == m) ≡ false = grind (arith, nat_tests) in
    ap (find (is_part_of m)) c.remove.ensures.items
    ∙ find_without (is_part_of m) items c.in-Some.place c.remove.result within (ap (is_part_of m) (sym c.remove.ensures.value) ∙ fails)
