use Rattle.std.proofs.Common.{◌≡◌, ◌∙◌, ◌∷◌, ◌++◌, [], List, ap, subst, sym}
use Rattle.std.proofs.lemmas.List.{nil_from_length}
use Rattle.std.specs.Prelude.{flat_map}
use Rattle.mesa_answer.specs.Gathered.{HasPut, wanted_of}
use Rattle.mesa_answer.specs.declared.groups.Groups.{Groups}
use Rattle.mesa_group_blocks.specs.declared.jobs.Job.{Job}
use Rattle.mesa_group_blocks.specs.Jobs.{pieces_in}
use Rattle.mesa_group_blocks.specs.Pieces.{rows_of_pieces}
use Rattle.mesa_group_blocks.proofs.Joined.{AreJoined, joined_last, joined_more, one_of, popped}
use Rattle.mesa_group_blocks.proofs.beside.joined.Goals as goal

pub each_job-init : goal.each_job-init
each_job-init c =
    let all : List Job = c.args.jobs.items in
    let last : Job = c.in-Some.last in
    let is : c.pop.new.self.items ++ last ∷ [] ≡ all = sym c.in-Some.ensures.items in
    (last ∷ [], is, subst (AreJoined all (last ∷ [])) (sym c.in-Some-groups_of.ensures.groups) (joined_last all c.pop.new.self.items last is c.in-Some-groups_of.ensures.none c.in-Some-groups_of.ensures.all))

pub each_job-preserved : goal.each_job-preserved
each_job-preserved c =
    let inv = c.each_job.invariant in
    let all : List Job = c.args.jobs.items in
    let job : Job = c.in-Some-pop.job in
    let before : List Job = c.pop-in-each_job.new.self.items in
    let is = popped all c.each_job.jobs.items before inv.0 job c.in-Some-pop.ensures.items inv.1 in (
      job ∷ inv.0,
      is,
      joined_more all before inv.0 job c.each_job.all c.join.new.self is c.in-Some-groups_of-2.ensures.none c.in-Some-groups_of-2.ensures.all inv.2
          (λ given more h k. c.in-Ok.ensures.put given more (subst (λ (g : Groups). HasPut g given) (sym c.in-Some-groups_of-2.ensures.groups) h) k) (c.join.ensures.wanted ∙ ap wanted_of c.in-Some-groups_of-2.ensures.groups),
    )

pub join-requires-clause-gathering : goal.join-requires-clause-gathering
join-requires-clause-gathering c =
    let inv = c.each_job.invariant in
    let all : List Job = c.args.jobs.items in
    let job : Job = c.in-Some-pop.job in
    let before : List Job = c.pop-in-each_job.new.self.items in
    let is = popped all c.each_job.jobs.items before inv.0 job c.in-Some-pop.ensures.items inv.1 in
    let one = one_of c.requires.0 c.requires.1 c.requires.2 all before inv.0 job is c.requires.3 in
    (one.given, subst (λ (g : Groups). HasPut g one.given) (sym c.in-Some-groups_of-2.ensures.groups) one.put)

pub join-requires-clause-newer : goal.join-requires-clause-newer
join-requires-clause-newer c =
    let rest = c.each_job.invariant.2 c.requires.0 c.requires.1 c.requires.2 c.requires.3 in
    (rest.0, rest.1)

pub join-requires-clause-same : goal.join-requires-clause-same
join-requires-clause-same c =
    let inv = c.each_job.invariant in
    let all : List Job = c.args.jobs.items in
    let job : Job = c.in-Some-pop.job in
    let before : List Job = c.pop-in-each_job.new.self.items in
    let is = popped all c.each_job.jobs.items before inv.0 job c.in-Some-pop.ensures.items inv.1 in
    let one = one_of c.requires.0 c.requires.1 c.requires.2 all before inv.0 job is c.requires.3 in
    let rest = inv.2 c.requires.0 c.requires.1 c.requires.2 c.requires.3 in
    rest.2 ∙ sym one.wanted ∙ sym (ap wanted_of c.in-Some-groups_of-2.ensures.groups)

pub returns : goal.returns
returns c = λ files w f each.
    let inv = c.each_job.invariant in
    let rest = inv.2 files w f each in
    let done : inv.0 ≡ c.args.jobs.items = ap (λ (js : List Job). js ++ inv.0) (sym (nil_from_length c.each_job.jobs.items (sym c.each_job.jobs.ok.0 ∙ c.in_default-pop.ensures.cases.0))) ∙ inv.1 in
    (rest.0, rest.1, rest.2, λ contents told. rest.3 contents told ∙ ap (λ (js : List Job). rows_of_pieces f files contents (flat_map pieces_in js)) done)
