use Rattle.mesa_file_tests.proofs.query.answering.page_of.Goals as goal

pub answer-requires-after_bounds : goal.answer-requires-after_bounds
answer-requires-after_bounds g c = λ _ _. (c.requires.0, record { query = c.requires.1; inputs = c.requires.2 })
