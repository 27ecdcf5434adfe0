use Rattle.std.proofs.Common.{◌≡◌, ◌-◌, get_or, length, sym, ◌∙◌, ap, subst, arith}
use Rattle.std.specs.Prelude.{slice_get, Some}
use Rattle.mesa_open_files.specs.mesa_delta_format.Indexed.{Indexed}
use Rattle.mesa_merge.specs.Inputs.{known_of, knowns_of}
use Rattle.mesa_merge.proofs.Inputs.{known_get}
use Rattle.mesa_compact.proofs.Whole.{known_count}
use Rattle.mesa_compact.proofs.files.newest_of.Goals as goal

pub returns : goal.returns
returns g c =
    let bytes = g.R.FileReader.bytes in
    let is = c.args.inputs.now in
    let i = get_or is (length is - 1) c.index-inputs-inputs.result in
    record {
      file = known_of bytes i;
      last = subst (λ n. slice_get (knowns_of bytes is) (n - 1) ≡ Some (known_of bytes i)) (sym (known_count bytes is)) (known_get bytes is (length is - 1) c.index-inputs-inputs.result (omega (arith, c.requires)));
      is = c.file.ensures ∙ ap (λ (x : Indexed). x.file) c.index.ensures;
    }
