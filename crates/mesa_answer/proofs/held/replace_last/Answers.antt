use Rattle.std.proofs.Common.{◌≡◌, ◌<◌, ◌∙◌, length, ap, arith, sym}
use Rattle.std.specs.BTreeMap.{insert_entry}
use Rattle.mesa_answer.specs.Held.{Entry, key_cmp}
use Rattle.mesa_answer.proofs.Entries.{Replaces, length-inserted, placed_replaced, popped_of, put_replaced}
use Rattle.mesa_answer.proofs.held.replace_last.Goals as goal

pub returns-clause-placed : goal.returns-clause-placed
returns-clause-placed c =
    let groups = c.args.groups.now.items in
    let es = c.args.places.now.entries in
    let after = c.pop_last.new.self.entries in
    let last : Entry = (c.in-Some.ensures.0, c.in-Some.place) in
    let inserted : c.insert.new.self.entries ≡ insert_entry key_cmp es c.args.key last.1 = c.in_ok-insert.ensures.entries in
    let more : 0 < length c.insert.new.self.entries = omega (arith, ap length inserted, length-inserted es c.args.key last.1 c.requires.absent) in
    let popped = popped_of c.insert.new.self.entries after c.pop_last.result more c.pop_last.ensures.variant c.pop_last.ensures.removal in
    let replaces : Replaces groups c.args.row es after c.args.key last popped.0 = record {
      placed = c.requires.placed;
      at = c.in-Some.ensures.1;
      none = c.requires.absent;
      before = c.requires.before;
      own = c.requires.own;
      popped_is = sym inserted ∙ popped.1;
      rise = c.pop_last.ensures.ordered;
    } in
    placed_replaced groups c.args.row es after c.args.key last popped.0 replaces

pub returns-clause-put : goal.returns-clause-put
returns-clause-put c = λ aggs.
    let groups = c.args.groups.now.items in
    let es = c.args.places.now.entries in
    let after = c.pop_last.new.self.entries in
    let last : Entry = (c.in-Some.ensures.0, c.in-Some.place) in
    let inserted : c.insert.new.self.entries ≡ insert_entry key_cmp es c.args.key last.1 = c.in_ok-insert.ensures.entries in
    let more : 0 < length c.insert.new.self.entries = omega (arith, ap length inserted, length-inserted es c.args.key last.1 c.requires.absent) in
    let popped = popped_of c.insert.new.self.entries after c.pop_last.result more c.pop_last.ensures.variant c.pop_last.ensures.removal in
    let replaces : Replaces groups c.args.row es after c.args.key last popped.0 = record {
      placed = c.requires.placed;
      at = c.in-Some.ensures.1;
      none = c.requires.absent;
      before = c.requires.before;
      own = c.requires.own;
      popped_is = sym inserted ∙ popped.1;
      rise = c.pop_last.ensures.ordered;
    } in
    put_replaced aggs groups c.args.row es after c.args.key last popped.0 replaces
