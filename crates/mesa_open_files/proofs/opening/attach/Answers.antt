use Rattle.std.proofs.Common.{◌≡◌, ◌∙◌, ℕ, List, Option, sym, subst}
use Rattle.sha2.specs.Sha256.{sha256}
use Rattle.mesa_disk.specs.Image.{Image}
use Rattle.mesa_scan.specs.mesa_delta_format.Indexed.{Indexed, IsIndexOf}
use Rattle.mesa_delta.specs.Reading.{IsReaderOf, index_of}
use Rattle.mesa_scan.specs.mesa_delta_format.Summary.{file_layout}
use Rattle.mesa_open_files.specs.Opening.{IsTrueOf}
use Rattle.mesa_open_files.proofs.Attaching.{known_of_reader, read_index}
use Rattle.mesa_open_files.proofs.opening.attach.Goals as goal

pub returns-in-Some-clause-index : goal.returns-in-Some-clause-index
returns-in-Some-clause-index g c =
    subst (λ (x : Indexed). (tail : List ℕ) × IsIndexOf c.args.file.now (file_layout c.args.schema.now c.args.file.now) tail x × (sha256 tail ≡ c.args.file.now.digest)) (sym c.whole.ensures.index) c.in-Some.ensures.index

pub returns-in-Some-clause-over : goal.returns-in-Some-clause-over
returns-in-Some-clause-over g c =
    let bytes = g.D.Reader.FileReader.bytes in
    let id = c.args.file.now.id in
    let known = subst (λ (t : Option Image). IsTrueOf t id c.in-Some.index) c.in-Ok.ensures.unmoved.told c.in-Some.ensures.true_of in
    subst (λ r. IsReaderOf bytes r (index_of c.whole.result)) (sym c.whole.ensures.reader)
    (subst (λ (x : Indexed). IsReaderOf bytes c.in-Ok.reader x) (sym c.whole.ensures.index)
    (known_of_reader bytes (g.D.Disk.story c.args.disk.now).told id c.in-Ok.reader c.in-Some.index known c.in-Ok.ensures.opened c.in-Ok.ensures.untold))

pub keep_index-requires-clause-told : goal.keep_index-requires-clause-told
keep_index-requires-clause-told g c =
    let bytes = g.D.Reader.FileReader.bytes in
    let told = (g.D.Disk.story c.args.disk.now).told in
    let x = index_of c.in-Ok-attach.opened in
    let over : IsReaderOf bytes c.in-Ok.reader x = λ b is. c.in-Ok-attach.ensures.over b (c.in-Ok-attach.ensures.bytes ∙ is) in
    let known = read_index bytes told c.args.file.now.id c.in-Ok.reader x c.in-Ok.ensures.opened over in
    let named = subst (λ (n : ℕ). IsTrueOf told n x) (sym c.in-Ok-attach.ensures.index.1.id) known in
    subst (λ (t : Option Image). IsTrueOf t c.index.result.now.file c.index.result.now) (sym c.in-Ok.ensures.unmoved.told)
    (subst (λ (y : Indexed). IsTrueOf told y.file y) (sym c.index.ensures) named)
