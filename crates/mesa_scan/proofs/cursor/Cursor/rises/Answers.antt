use Rattle.mesa_scan.proofs.Rising.{from_low, given_above, given_forms, given_rises}
use Rattle.mesa_scan.proofs.cursor.Cursor.rises.Goals as goal

pub returns-clause-form : goal.returns-clause-form
returns-clause-form g c = λ low given h. given_forms c.lifts_to_present.ensures.form g.R.FileReader.bytes low c.args.input.now c.args.self.now given h

pub returns-clause-rise : goal.returns-clause-rise
returns-clause-rise g c = λ low given h. given_rises g.R.FileReader.bytes low c.args.input.now c.args.self.now given h

pub returns-clause-above : goal.returns-clause-above
returns-clause-above g c = λ low given row rows h hand. given_above g.R.FileReader.bytes low c.args.input.now c.args.self.now given row rows h hand

pub returns-clause-from : goal.returns-clause-from
returns-clause-from g c = λ low given row rows h hand. from_low g.R.FileReader.bytes low c.args.input.now c.args.self.now given row rows h hand
