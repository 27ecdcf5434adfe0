use Rattle.std.proofs.Common.{◌≡◌, ◌≤◌, length, true}
use Rattle.mesa_fold.specs.mesa_columns.Columns.{kinds_of}
use Rattle.mesa_filter.specs.Filter.{are_within, filter_of, terms_from}
use Rattle.mesa_list.proofs.Lists.{ahead}
use Rattle.mesa_filter.proofs.parsing.terms.Given as goal

-- the terms so far and those that are left are all
abbrev pub invariant-ands : goal.invariant-ands
invariant-ands l = record {
  read : ahead l.terms (terms_from l.schema l.number l.parts) ≡ filter_of l.schema l.text;
  within : are_within (kinds_of l.schema) l.terms ≡ true;
  few : l.number ≤ 65;
}

abbrev pub decreases-ands : goal.decreases-ands
decreases-ands l = length l.parts
