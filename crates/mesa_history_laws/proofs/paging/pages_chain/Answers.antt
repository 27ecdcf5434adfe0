use Rattle.mesa_history_laws.proofs.Pages.{answers_rise, consecutive, goes_on, once}
use Rattle.mesa_history_laws.proofs.paging.pages_chain.Goals as goal

pub returns : goal.returns
returns c = record { answers_rise = answers_rise; goes_on = goes_on; consecutive = consecutive; once = once }
