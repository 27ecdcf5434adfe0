use Rattle.std.proofs.Common.{◌≡◌, ◌∙◌, ◌++◌, ◌∷◌, [], List, length, ap, arith, sym, subst}
use Rattle.std.specs.BTreeMap.{insert_entry}
use Rattle.mesa_model.specs.mesa_columns.declared.rows.Row.{Row}
use Rattle.mesa_answer.specs.Held.{ArePlaced, Entry, key_cmp, rows_in}
use Rattle.std.specs.List.Sorted.{IsStrictlySortedBy}
use Rattle.std.specs.Map.{keys_of}
use Rattle.mesa_answer.proofs.Entries.{placed_more, put_more}
use Rattle.mesa_answer.proofs.held.add.Goals as goal

pub returns-clause-placed : goal.returns-clause-placed
returns-clause-placed c =
    let groups = c.args.groups.now.items in
    let es = c.args.places.now.entries in
    let entries : c.insert.new.self.entries ≡ insert_entry key_cmp es c.args.key (length groups) = c.in_default.ensures.entries ∙ ap (insert_entry key_cmp es c.args.key) (omega (arith, c.len-place.ensures, c.args.groups.now.ok.0)) in
    let rise = subst (λ (xs : List Entry). IsStrictlySortedBy key_cmp (keys_of xs)) entries c.insert.ensures.ordered in
    subst (λ (gs : List Row). ArePlaced gs c.insert.new.self.entries) (sym c.in_ok-push.ensures.items)
    (subst (ArePlaced (groups ++ c.args.row ∷ [])) (sym entries) (placed_more groups c.args.row es c.args.key c.requires.placed c.requires.absent c.requires.own rise))

pub returns-clause-put : goal.returns-clause-put
returns-clause-put c = λ aggs.
    let groups = c.args.groups.now.items in
    let es = c.args.places.now.entries in
    let entries : c.insert.new.self.entries ≡ insert_entry key_cmp es c.args.key (length groups) = c.in_default.ensures.entries ∙ ap (insert_entry key_cmp es c.args.key) (omega (arith, c.len-place.ensures, c.args.groups.now.ok.0)) in
    (λ i. rows_in (c.in_ok-push.ensures.items i) (entries i)) ∙ put_more aggs groups c.args.row es c.args.key c.requires.placed c.requires.absent c.requires.own
