use Rattle.mesa_file_tests.proofs.query.beside.told.Goals as goal

pub answer-requires-after_bounds : goal.answer-requires-after_bounds
answer-requires-after_bounds g c κs within = c.pinned_of-pinned.ensures

pub whole-requires-after_bounds : goal.whole-requires-after_bounds
whole-requires-after_bounds g c = λ κs. c.pinned_of-pinned-2.ensures
