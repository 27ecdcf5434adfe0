use Rattle.mesa_file_tests.proofs.query.warmed.expect_answers.Goals as goal

pub expect_cold-requires-after_bounds : goal.expect_cold-requires-after_bounds
expect_cold-requires-after_bounds g c κs within =
    (c.requires.0, c.cool-pinned.ensures.pinned c.requires.0 (c.expect_warm-2.ensures c.requires.0 (c.expect_warm.ensures c.requires.0 c.requires.1)))
