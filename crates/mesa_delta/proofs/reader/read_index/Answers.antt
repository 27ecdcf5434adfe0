use Rattle.std.proofs.Common.{◌≡◌, ◌-◌, ◌∙◌, length, inr, rules, sym, ap, subst}
use Rattle.sha2.specs.Sha256.{sha256}
use Rattle.mesa_delta_format.specs.mesa_block.Layout.{Layout}
use Rattle.mesa_delta_format.specs.Indexed.{IsIndexOf, tail_length, tail_place}
use Rattle.mesa_delta.specs.Damages.{IsPiece, IsMisfit}
use Rattle.mesa_delta_format.specs.mesa_file.declared.damage.Seen.TheVariants.{Fits, Misfit}
use Rattle.std.specs.Prelude.{IfNone}
use Rattle.mesa_delta.proofs.Over.{over_is, no_tail, HasNone}
use Rattle.mesa_delta.proofs.reader.read_index.Goals as goal

pub returns-in-Some-clause-over : goal.returns-in-Some-clause-over
returns-in-Some-clause-over g c = λ b told.
    let file = c.args.file.now in
    let s : Layout = record { format = c.args.file.now.format; columns = c.args.schema.now } in
    let piece = c.read_piece.new.bytes.items in
    let place = c.saturating_sub-place.result in
    let found : IsIndexOf file s piece c.in-Some.index = search rules in
    let len : length b ≡ file.len = c.check_length.ensures.told b told ∙ c.in_default.ensures.ok in
    let at : place ≡ file.len - tail_length s.columns file.blocks = c.saturating_sub-place.ensures ∙ ap (λ n. file.len - n) c.tail_len.ensures in
    over_is file s piece b c.in-Some.index place found len at (c.in_ok-read_piece.ensures.piece.told b told)

pub returns-in-None-clause-damaged : goal.returns-in-None-clause-damaged
returns-in-None-clause-damaged g c = λ d is.
    let file = c.args.file.now in
    let s : Layout = record { format = c.args.file.now.format; columns = c.args.schema.now } in
    let piece = c.read_piece.new.bytes.items in
    let place = c.saturating_sub-place.result in
    let at : place ≡ tail_place s file = c.saturating_sub-place.ensures ∙ ap (λ n. file.len - n) c.tail_len.ensures in
    let same : c.misfit.result ≡ d = cc in
    let none : HasNone file s c.deref-2.result.now = subst (λ o. IfNone o (HasNone file s c.deref-2.result.now)) c.in-None.is c.in_ok-index.ensures.none in
    let never = no_tail c.fits_alone.ensures file s piece c.keys-columns.ensures.sound (search rules) (search rules) (subst (HasNone file s) c.deref-2.ensures.value none) in
    let read : IsPiece (g.R.FileReader.bytes c.args.reader.now) (tail_place s file) (file.len - tail_place s file) piece = subst (λ p. IsPiece (g.R.FileReader.bytes c.args.reader.now) p (file.len - p) piece) at c.in_ok-read_piece.ensures.piece in
    let digest : sha256 piece ≡ file.digest = search rules in
    let told : IsMisfit file.id (tail_place s file) file.digest piece d = (sym same ∙ c.misfit.ensures ∙ ap (λ p. record { file = file.id; place = p; want = Fits; found = Misfit 0 }) at, digest) in
    inr (search rules, (piece, read, inr (told, never)))
