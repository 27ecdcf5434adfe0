use Rattle.std.proofs.Common.{◌∙◌, ap, sym}
use Rattle.mesa_answer.specs.Gathered.{wanted_of}
use Rattle.mesa_answer.specs.Gathering.{Wanted, first_groups}
use Rattle.mesa_answer.proofs.Seeking.{group_there}
use Rattle.mesa_answer.proofs.groups.Groups.holds.Goals as goal

pub returns : goal.returns
returns c = λ given put.
    let w = wanted_of c.args.self.now in
    let there = group_there w.schema w.columns c.args.key.now given c.args.self.now.held (put.held ∙ ap (λ (v : Wanted). first_groups v given) c.requires.begins) in
    (λ yes. there.0 (sym c.holds.ensures ∙ yes), λ has. c.holds.ensures ∙ there.1 has)
