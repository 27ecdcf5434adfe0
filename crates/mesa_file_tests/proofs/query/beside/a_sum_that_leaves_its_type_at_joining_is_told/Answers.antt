use Rattle.mesa_file_tests.proofs.query.beside.a_sum_that_leaves_its_type_at_joining_is_told.Goals as goal

pub answer-requires-after_bounds : goal.answer-requires-after_bounds
answer-requires-after_bounds g c = λ κs. c.pinned_of-pinned.ensures
