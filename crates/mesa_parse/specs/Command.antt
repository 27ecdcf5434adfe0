-- The command line, as clap has it.
use Rattle.std.specs.Prelude.{codes, true}
use Rattle.clap.specs.Words.{App, Rule, Shape, Text, new_app, new_rule, with_rule, with_subcommand}
use Rattle.clap.specs.Simple.{on_top}

-- a text that has to stand there
abbrev pub needed : Text → Rule
needed id = record (new_rule id) { required = true }

-- `gen` has a seed and a number of versions
abbrev pub gen : App
gen = with_rule (with_rule (new_app (codes "gen")) (needed (codes "seed"))) (needed (codes "versions"))

-- `digest` has the name of a relation
abbrev pub digest : App
digest = with_rule (new_app (codes "digest")) (needed (codes "relation"))

-- all words are arguments, none asks for help, and one of the commands has to stand there
abbrev pub set_up : Shape → Shape
set_up s = record s { no_binary_name = true; disable_help_flag = true; disable_help_subcommand = true; subcommand_required = true }

-- the command line: `run`, `check`, `gen` with its two texts, or `digest` with its one
abbrev pub mesa : App
mesa = with_subcommand (with_subcommand (with_subcommand (with_subcommand (on_top set_up (new_app (codes "mesa"))) (new_app (codes "run")).top) (new_app (codes "check")).top) gen.top) digest.top
