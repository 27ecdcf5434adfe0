use Rattle.std.proofs.Common.{◌≡◌, ◌∙◌, ℕ, inr, rules, sym, ap, subst}
use Rattle.std.specs.Prelude.{IfNone}
use Rattle.sha2.specs.Sha256.{sha256}
use Rattle.mesa_delta_format.specs.mesa_block.Layout.{Layout}
use Rattle.mesa_delta_format.specs.mesa_file.declared.damage.Seen.TheVariants.{Fits, Misfit}
use Rattle.mesa_delta_format.specs.declared.place.Entry.{Entry}
use Rattle.mesa_delta.specs.Damages.{IsPiece, IsMisfit}
use Rattle.mesa_delta_format.specs.Places.{entry_of}
use Rattle.mesa_delta.specs.Reading.{IsNoneIn}
use Rattle.mesa_delta.proofs.Indexing.{no_block}
use Rattle.mesa_delta.proofs.reader.test.Goals as goal

pub returns-in-None-clause-damaged : goal.returns-in-None-clause-damaged
returns-in-None-clause-damaged g c = λ d is.
    let x = c.args.index.now in
    let piece = c.args.bytes.now in
    let e = entry_of x.entries c.args.i in
    let at = c.entry-entry.ensures.entry in
    let content = g.R.FileReader.bytes c.args.reader.now in
    let same : c.misfit.result ≡ d = cc in
    let s : Layout = record { format = c.format.result; columns = c.schema.result.now } in
    let layout : s ≡ x.layout = λ i. record { format = c.format.ensures i; columns = c.schema.ensures i } in
    let none : IsNoneIn s c.entry-entry.result.short piece = subst (λ o. IfNone o (IsNoneIn s c.entry-entry.result.short piece)) c.in-None.is c.in_ok-block.ensures.none in
    let here : IsNoneIn x.layout e.short piece = subst (λ (k : Entry). IsNoneIn x.layout k.short piece) at (subst (λ (s : Layout). IsNoneIn s c.entry-entry.result.short piece) layout none) in
    let never = no_block c.fits_alone.ensures x c.args.i piece c.entry-entry.ensures.index c.requires.within here in
    let read : IsPiece content e.offset e.len piece = c.requires.piece in
    let found : sha256 piece ≡ c.entry-entry.result.digest = search rules in
    let digest : sha256 piece ≡ e.digest = found ∙ ap (λ (k : Entry). k.digest) at in
    let damage : c.misfit.result ≡ record { file = x.file; place = e.offset; want = Fits; found = Misfit 0 } =
    c.misfit.ensures ∙ ap (λ (f : ℕ). record { file = f; place = c.entry-entry.result.offset; want = Fits; found = Misfit 0 }) c.file-in-None.ensures ∙ ap (λ (k : Entry). record { file = x.file; place = k.offset; want = Fits; found = Misfit 0 }) at in
    let told : IsMisfit x.file e.offset e.digest piece d = (sym same ∙ damage, digest) in
    inr (search rules, (piece, read, inr (told, never)))
