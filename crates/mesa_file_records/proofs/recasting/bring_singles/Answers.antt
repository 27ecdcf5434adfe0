use Rattle.std.proofs.Common.{◌+◌, ◌∷◌, [], ◌++◌, ◌^◌, sym, ◌∙◌, subst, take, drop, List}
use Rattle.mesa_disk.specs.Files.{files_of}
use Rattle.mesa_record.specs.declared.checkpoint.CheckpointSingle.{CheckpointSingle}
use Rattle.mesa_file_records.specs.Recasts.{AreSinglesRewritten, HasFileAt, rewritten_under, singles_in}
use Rattle.mesa_file_records.proofs.Bringing.{AreBrought, IsAhead, ahead_past, ahead_taken, all_further, its_file, none_brought, one_further, past_empty, past_taken, room_there, same_brought}
use Rattle.mesa_file_records.proofs.recasting.bring_singles.Goals.{in-Some+in_ok-files+in_ok-push, in_default}
use Rattle.mesa_file_records.proofs.recasting.bring_singles.Goals as goal

pub loop-single-init : goal.loop-single-init
loop-single-init g c =
    let bytes = g.M.Made.bytes in
    let old = c.args.left.now.items in
    let id = c.args.adopting.now.next in
    let files = files_of bytes c.args.adopting.now.made.items in
    let rise = c.requires.rise in
    record {
      brought = subst (λ (ss : List CheckpointSingle). AreBrought bytes old id c.args.epoch files [] old ss id files) (sym c.new-singles.ensures.items) (none_brought bytes old id c.args.epoch files);
      ahead = record { from = rise.0; next = rise.1; rise = rise.2; there = c.requires.there };
    }

-- there is an id for one more
pub bring_range-requires-clause-room : goal.bring_range-requires-clause-room
bring_range-requires-clause-room g c κs within =
    let bytes = g.M.Made.bytes in
    let loaded = c.args.loaded.now in
    let left = c.loop-single.left.items in
    let i = c.loop-single.single-index in
    let x = c.single-item.result in
    let now = c.loop-single.invariant in
    let some = (λ j. (sym c.deref.ensures j).files) ∙ (λ j. (sym c.behind-single.view_is j).files) ∙ c.in-Some.is in
    room_there bytes c.args.left.now.items c.args.adopting.now.next c.args.epoch (files_of bytes c.args.adopting.now.made.items) (take i loaded) left c.loop-single.singles.items c.loop-single.adopting.next (files_of bytes c.loop-single.adopting.made.items) (2 ^ 64) now.brought c.requires.room
    x.version x.version (subst (HasFileAt left x.version x.version) some (its_file left loaded i x c.loop-single-test.true c.single-item.is now.ahead))

pub loop-single-preserved : goal.loop-single-preserved
loop-single-preserved g c =
    let bytes = g.M.Made.bytes in
    let old = c.args.left.now.items in
    let id = c.args.adopting.now.next in
    let files = files_of bytes c.args.adopting.now.made.items in
    let loaded = c.args.loaded.now in
    let i = c.loop-single.single-index in
    let x = c.single-item.result in
    let now = c.loop-single.invariant in
    let left = c.loop-single.left.items in
    let singles = c.loop-single.singles.items in
    let next = c.loop-single.adopting.next in
    let made = files_of bytes c.loop-single.adopting.made.items in
    let its = (λ j. (sym c.deref.ensures j).files) ∙ (λ j. (sym c.behind-single.view_is j).files) in
    elim c.match-deref.branch [
      | in-Some+in_ok-files+in_ok-push w ↦
          let took = w.in_ok-files.ensures.brought in
          let then = w.bring_range.new.left.items in
          let one : CheckpointSingle = record { version = x.version; epoch = c.args.epoch; files = w.in_ok-files.files; totals = w.in_ok-files.totals } in
          let later = w.bring_range.new.adopting.next in
          let all = files_of bytes w.bring_range.new.adopting.made.items in
          record {
            brought = same_brought bytes old id c.args.epoch files (take (i + 1) loaded) then c.match-deref.left.items (singles ++ one ∷ []) c.match-deref.singles.items later c.match-deref.adopting.next all (files_of bytes c.match-deref.adopting.made.items)
                (λ j. (w.left-is j).items) ((λ j. (w.singles-is j).items) ∙ w.in_ok-push.ensures.items) (λ j. (w.adopting-is j).next) (λ j. files_of bytes (w.adopting-is j).made.items)
                (one_further bytes old id c.args.epoch files loaded i x c.loop-single-test.true c.single-item.is then (singles ++ one ∷ []) later all
                (past_taken bytes old id c.args.epoch files (take i loaded) left singles next made now.brought x w.in-Some.old (its ∙ w.in-Some.is) took.0 then took.1 took.2 took.3 one
                (λ j. record { version = x.version; epoch = c.args.epoch; files = took.5 j; totals = took.4 j }) later took.6 all took.7));
            ahead = subst (λ ys. IsAhead ys (drop (i + 1) loaded)) (sym (λ j. (w.left-is j).items)) (ahead_taken left loaded i x c.loop-single-test.true c.single-item.is now.ahead took.0 then took.1 took.3);
          }
      | in_default w ↦ record {
        brought = same_brought bytes old id c.args.epoch files (take (i + 1) loaded) left c.match-deref.left.items singles c.match-deref.singles.items next c.match-deref.adopting.next made (files_of bytes c.match-deref.adopting.made.items)
            (λ j. (w.left-is j).items) (λ j. (w.singles-is j).items) (λ j. (w.adopting-is j).next) (λ j. files_of bytes (w.adopting-is j).made.items)
            (one_further bytes old id c.args.epoch files loaded i x c.loop-single-test.true c.single-item.is left singles next made (past_empty bytes old id c.args.epoch files (take i loaded) left singles next made now.brought x (its ∙ w.in_default.is)));
        ahead = subst (λ ys. IsAhead ys (drop (i + 1) loaded)) (sym (λ j. (w.left-is j).items)) (ahead_past left loaded i x c.loop-single-test.true c.single-item.is now.ahead);
      }
    ]

pub returns : goal.returns
returns g c =
    let bytes = g.M.Made.bytes in
    let files = files_of bytes c.args.adopting.now.made.items in
    let all = all_further bytes c.args.left.now.items c.args.adopting.now.next c.args.epoch files c.args.loaded.now c.loop-single.single-index c.loop-single-test.false c.loop-single.left.items c.loop-single.singles.items c.loop-single.adopting.next (files_of bytes c.loop-single.adopting.made.items) c.loop-single.invariant.brought in
    record { brought = (all.taken, all.are, subst (AreSinglesRewritten c.args.epoch (singles_in c.args.loaded.now) (rewritten_under c.args.adopting.now.next all.taken)) (sym c.from_vec.ensures) all.rewritten, all.next_is, all.made_is) }
