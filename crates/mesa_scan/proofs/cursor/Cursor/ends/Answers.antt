use Rattle.mesa_scan.proofs.Ending.{all_given, all_given_from}
use Rattle.mesa_scan.proofs.cursor.Cursor.ends.Goals as goal

pub returns-clause-all : goal.returns-clause-all
returns-clause-all g c = λ given h ready none. all_given g.R.FileReader.bytes c.args.input.now c.args.self.now given h ready none

pub returns-clause-from : goal.returns-clause-from
returns-clause-from g c = λ low given h ready none b all told indexed. all_given_from g.R.FileReader.bytes low c.args.input.now c.args.self.now given h ready none b all told indexed
