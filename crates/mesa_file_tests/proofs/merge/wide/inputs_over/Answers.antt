use Rattle.std.proofs.Common.{◌≡◌, ℕ, List, [], ◌∷◌, ◌++◌, ap, rules, subst, sym}
use Rattle.std.specs.Prelude.{Option}
use Rattle.mesa_schema.specs.Changes.{Lineage, columns_of}
use Rattle.mesa_query.specs.mesa_columns.Columns.{Columns}
use Rattle.mesa_delta.specs.declared.input.Input.{Input}
use Rattle.mesa_scan.specs.Cursors.{IsInput}
use Rattle.mesa_merge.specs.Inputs.{AreInputs}
use Rattle.mesa_file_tests.proofs.merge.wide.inputs_over.Goals as goal

more_inputs : {R : Type 0} (bytes : R → Option (List ℕ)) (s : Columns) (is : List (Input R)) (i : Input R) → AreInputs bytes s is → IsInput bytes i → columns_of i.evolving.value ≡ s → AreInputs bytes s (is ++ i ∷ [])
more_inputs bytes s [] i h one same = record { each = (one, tt); alike = (same, tt) }
more_inputs bytes s (x ∷ is) i h one same =
    let rest = more_inputs bytes s is i (record { each = h.each.1; alike = h.alike.1 }) one same in
    record { each = (h.each.0, rest.each); alike = (h.alike.0, rest.alike) }

pub readers-init : goal.readers-init
readers-init g c =
    let none : c.new-inputs.result.items ≡ [] = first_of (cc, search rules) in
    subst (AreInputs g.R.FileReader.bytes (columns_of c.args.table.now.value)) (sym none) (record { each = tt; alike = tt })

pub readers-preserved : goal.readers-preserved
readers-preserved g c =
    let s = columns_of c.args.table.now.value in
    let one = c.input_of.ensures in
    let more = more_inputs g.R.FileReader.bytes s c.readers.inputs.items c.input_of.result c.readers.invariant one.input (ap (λ (t : Lineage). columns_of t) one.table) in
    let grown : c.push.new.self.items ≡ c.readers.inputs.items ++ c.input_of.result ∷ [] = search rules in
    subst (AreInputs g.R.FileReader.bytes s) (sym grown) more
