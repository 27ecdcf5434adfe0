use Rattle.std.proofs.Common.{◌≡◌, ◌∙◌, ℕ, List, Some, sym, ap, subst}
use Rattle.std.specs.Option.{option_map}
use Rattle.sha2.specs.Sha256.{sha256}
use Rattle.mesa_open_files.specs.mesa_delta_format.Indexed.{Indexed, IsIndexOf}
use Rattle.mesa_open_files.specs.mesa_delta_format.Summary.{file_layout}
use Rattle.mesa_index_cache.specs.Kept.{index_in, kept_at}
use Rattle.mesa_index_cache.proofs.indexes.Indexes.find.Goals as goal

pub returns-in-Ok-clause-kept : goal.returns-in-Ok-clause-kept
returns-in-Ok-clause-kept c =
    let at : kept_at c.args.file.now.id c.args.self.now ≡ Some c.in_ok-kept.kept.now = ap (λ id. kept_at id c.args.self.now) (sym c.number.ensures) ∙ sym c.in_ok-kept.ensures.value in
    ap (option_map index_in) at ∙ ap (λ (x : Indexed). Some x) (sym c.in-Ok.ensures)

pub returns-in-Ok-clause-index : goal.returns-in-Ok-clause-index
returns-in-Ok-clause-index c =
    subst (λ (x : Indexed). (tail : List ℕ) × IsIndexOf c.args.file.now (file_layout c.args.schema.now c.args.file.now) tail x × (sha256 tail ≡ c.args.file.now.digest)) (sym c.in-Ok.ensures) (c.is_of.ensures c.if-not-is_of.false)
