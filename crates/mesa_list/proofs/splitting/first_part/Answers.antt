use Rattle.std.proofs.Common.{◌+◌, ◌∷◌, ◌∙◌, ap, sym, take}
use Rattle.std.proofs.lemmas.List.{take_rest}
use Rattle.mesa_list.specs.Split.{split_at}
use Rattle.mesa_list.proofs.Splits.{split_found, split_whole}
use Rattle.mesa_list.proofs.splitting.first_part.Goals as goal

pub returns-in_default : goal.returns-in_default
returns-in_default c = split_whole c.args.separator c.args.bytes.now (sym c.place_of_byte.ensures.place ∙ c.in_default.is)

pub returns : goal.returns
returns c =
    split_found c.args.separator c.args.bytes.now c.in-Some.end (sym c.place_of_byte.ensures.place ∙ c.in-Some.is)
    ∙ ap (λ xs. take c.in-Some.end c.args.bytes.now ∷ split_at c.args.separator xs) (sym (take_rest c.args.bytes.now (c.in-Some.end + 1)))
