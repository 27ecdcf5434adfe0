use Rattle.mesa_scan.proofs.Ending.{all_between}
use Rattle.mesa_scan.proofs.cursor.Cursor.stops.Goals as goal

pub returns : goal.returns
returns g c = λ low high given row rows h hand le under b all told indexed.
    all_between c.lifts_to_present.ensures.rise g.R.FileReader.bytes low high c.args.input.now c.args.self.now given row rows h hand le under b all told indexed
