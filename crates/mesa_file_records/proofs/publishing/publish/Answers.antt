use Rattle.std.proofs.Common.{◌≡◌, ◌∙◌, ◌<◌, ◌++◌, List, Ok, ap, sym, subst, arith}
use Rattle.std.proofs.lemmas.Result.{err_from_is_err_and}
use Rattle.mesa_disk.specs.Files.{files_of}
use Rattle.mesa_model.specs.Warehouse.{max_versions}
use Rattle.mesa_record.specs.declared.record.Record.TheVariants as record_of
use Rattle.mesa_engine.specs.mesa_store_spec.Catalog.{Catalog}
use Rattle.mesa_engine.specs.EngineState.{next_id}
use Rattle.mesa_open_files.specs.declared.prepared.PreparedPart.{PreparedPart}
use Rattle.mesa_file_records.specs.Adopted.{ArePartsOf, files_of_parts, parts_under, told_under}
use Rattle.mesa_file_records.specs.Bounds.{IsDue, parts_checked}
use Rattle.mesa_file_records.proofs.Told.{are_there, bounds_due, count_made, few_there, full_due, is_loaded, is_published}
use Rattle.mesa_file_records.proofs.publishing.publish.Goals as goal

pub returns-in_err-version-clause-refused : goal.returns-in_err-version-clause-refused
returns-in_err-version-clause-refused g c =
    let p = err_from_is_err_and c.from_residual.result c.from_residual.ensures.1 in
    let l = c.args.metadata.now.state in
    rw (p.1, p.2) (λ words batch unclosed read is. full_due l words batch c.in_err-version.field-0.0 unclosed read (ap (λ (k : Catalog). k.next) (sym c.catalog-catalog.ensures) ∙ c.in_err-version.ensures.full.0) c.in_err-version.ensures.full.1)

pub check_bounds-requires-clause-parts : goal.check_bounds-requires-clause-parts
check_bounds-requires-clause-parts g c κs within =
    let l = c.args.metadata.now.state in
    let pre = c.requires.prepared in
    subst (λ (k : Catalog). ArePartsOf k c.deref.result.now) (sym c.catalog-catalog.ensures)
    (subst (λ (ps : List (PreparedPart _)). ArePartsOf l.catalogue ps) (sym c.deref.ensures.value) (are_there g.M.Made.bytes g.M.Made.id_of l c.requires.shaped pre.0 c.args.prepared pre.1))

pub returns-in_err-check_bounds-clause-refused : goal.returns-in_err-check_bounds-clause-refused
returns-in_err-check_bounds-clause-refused g c =
    let p = err_from_is_err_and c.from_residual-in_err-check_bounds.result c.from_residual-in_err-check_bounds.ensures.1 in
    let l = c.args.metadata.now.state in
    let e = c.in_err-check_bounds.field-0.0 in
    let few = (ap (λ (k : Catalog). k.next) (sym c.catalog-catalog.ensures)) in
    let due : IsDue (parts_checked l.catalogue c.args.prepared.parts.items) e = subst (λ r. IsDue r e) (λ i. parts_checked (c.catalog-catalog.ensures i) (c.deref.ensures.value i)) c.in_err-check_bounds.ensures.refused in
    rw (p.1, p.2) (λ words batch unclosed read is. bounds_due g.M.Made.bytes g.M.Made.id_of l c.requires.shaped batch c.args.prepared is words read e unclosed (omega (arith, few, c.in_ok-version.ensures.next.0, c.in_ok-version.ensures.next.1)) due)

pub parts-requires-clause-there : goal.parts-requires-clause-there
parts-requires-clause-there g c κs within =
    let l = c.args.metadata.now.state in
    let pre = c.requires.prepared in
    subst (λ (k : Catalog). ArePartsOf k c.args.prepared.parts.items) (sym c.catalog-catalog.ensures) (are_there g.M.Made.bytes g.M.Made.id_of l c.requires.shaped pre.0 c.args.prepared pre.1)

pub parts-requires-clause-room : goal.parts-requires-clause-room
parts-requires-clause-room g c κs within =
    let l = c.args.metadata.now.state in
    let pre = c.requires.prepared in
    let few = few_there g.M.Made.bytes g.M.Made.id_of l c.requires.shaped pre.0 c.args.prepared pre.1 in
    let run = ap (λ (k : Catalog). k.run) c.catalog-catalog.ensures in
    omega (arith, few, run)

pub returns-clause-published : goal.returns-clause-published
returns-clause-published g c =
    let bytes = g.M.Made.bytes in
    let l = c.args.metadata.now.state in
    let parts = c.args.prepared.parts.items in
    let same = c.catalog-catalog.ensures in
    let run = ap (λ (k : Catalog). k.run) same in
    let version : c.in_ok-version.version ≡ l.catalogue.next = c.in_ok-version.ensures.next.0 ∙ ap (λ (k : Catalog). k.next) same in
    let few : l.catalogue.next < max_versions = omega (arith, version, c.in_ok-version.ensures.next.1) in
    let checked : parts_checked l.catalogue parts ≡ Ok tt = (λ i. parts_checked (sym same i) (sym c.deref.ensures.value i)) ∙ c.in_ok-check_bounds.ensures.checked in
    let first : c.number.result ≡ next_id l = omega (arith, run) in
    let made : files_of bytes c.parts.new.self.made.items ≡ told_under bytes (next_id l) (files_of_parts parts) = c.in_ok-parts.ensures.made ∙ (λ i. files_of bytes (c.new.ensures.items i) ++ told_under bytes (first i) (files_of_parts parts)) in
    let count = count_made bytes c.parts.new.self.made.items (next_id l) (files_of_parts parts) made in
    λ words batch read is.
    is_published bytes g.M.Made.id_of l c.requires.shaped batch c.args.prepared is words read few checked c.requires.given c.requires.room _
    (λ i. record_of.Publish (version i) ((c.in_ok-parts.ensures.parts ∙ (λ j. parts_under (same j) (first j) parts)) i)) made
    (let ok = c.parts.new.self.made.ok in omega (arith, count, ok.0))

pub returns-clause-version : goal.returns-clause-version
returns-clause-version g c = c.in_ok-version.ensures.next.0 ∙ ap (λ (k : Catalog). k.next) c.catalog-catalog.ensures

pub returns-clause-loaded : goal.returns-clause-loaded
returns-clause-loaded g c =
    let l = c.args.metadata.now.state in
    let parts = c.args.prepared.parts.items in
    let same = c.catalog-catalog.ensures in
    let version : c.in_ok-version.version ≡ l.catalogue.next = c.in_ok-version.ensures.next.0 ∙ ap (λ (k : Catalog). k.next) same in
    let few : l.catalogue.next < max_versions = omega (arith, version, c.in_ok-version.ensures.next.1) in
    let checked : parts_checked l.catalogue parts ≡ Ok tt = (λ i. parts_checked (sym same i) (sym c.deref.ensures.value i)) ∙ c.in_ok-check_bounds.ensures.checked in
    λ words batch read is. is_loaded g.M.Made.bytes g.M.Made.id_of l c.requires.shaped batch c.args.prepared is words read few checked
