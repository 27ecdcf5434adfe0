-- What the matches of a command say.
use Rattle.std.proofs.Common.{◌≡◌, List, true, false, sym, ap, ◌∙◌, Option, Some, None, Box}
use Rattle.std.specs.Prelude.{codes, if◌then◌else◌, option_map}
use Rattle.std.specs.Str.{bytes_eq}
use Rattle.std.specs.Box.{box_value}
use Rattle.clap.specs.Words.{Row, Text, first_of, first_value, rows_of}
use Rattle.clap.specs.Simple.{subcommand_rows}
use Rattle.clap.specs.declared.parser.matches.Found.{Found}
use Rattle.clap.specs.declared.parser.matches.SubCommand.{SubCommand}
use Rattle.clap.specs.declared.parser.matches.ArgMatches.TheViews.{out-SubCommand}
use Rattle.clap.proofs.WalkLemmas.{first_value-rows}
use Rattle.mesa_parse.specs.declared.forms.Form.TheVariants.{Run, Check}
use Rattle.mesa_parse.specs.Found.{digest_found, form_found, gen_found}

module _ {Z : Type 0} where
  told : (s : Option (Box SubCommand Z)) (n : Text) (rows : List Row) → option_map (λ b. (out-SubCommand (box_value b)).name.now) s ≡ Some n → option_map (λ p. p.1) (subcommand_rows s) ≡ Some rows → subcommand_rows s ≡ Some (n, rows)
  told None n rows name all = cc name
  told (Some b) n rows name all = cc (name, all)

  -- a command that is `digest`
  pub digest_named : (s : Option (Box SubCommand Z)) (n : Text) (f : Found) → option_map (λ b. (out-SubCommand (box_value b)).name.now) s ≡ Some n → option_map (λ p. p.1) (subcommand_rows s) ≡ Some (rows_of f)
      → bytes_eq n (codes "run") ≡ false → bytes_eq n (codes "check") ≡ false → bytes_eq n (codes "digest") ≡ true → form_found (subcommand_rows s) ≡ digest_found (first_value f (codes "relation"))
  digest_named s n f name all run check digest =
      ap form_found (told s n (rows_of f) name all)
      ∙ (λ i. if run i then Some Run else if check i then Some Check else if digest i then digest_found (sym (first_value-rows f (codes "relation")) i) else gen_found (first_of (codes "seed") (rows_of f)) (first_of (codes "versions") (rows_of f)))

  -- a command that is none of `run`, `check` and `digest`
  pub gen_named : (s : Option (Box SubCommand Z)) (n : Text) (f : Found) → option_map (λ b. (out-SubCommand (box_value b)).name.now) s ≡ Some n → option_map (λ p. p.1) (subcommand_rows s) ≡ Some (rows_of f)
      → bytes_eq n (codes "run") ≡ false → bytes_eq n (codes "check") ≡ false → bytes_eq n (codes "digest") ≡ false → form_found (subcommand_rows s) ≡ gen_found (first_value f (codes "seed")) (first_value f (codes "versions"))
  gen_named s n f name all run check digest =
      ap form_found (told s n (rows_of f) name all)
      ∙ (λ i. if run i then Some Run else if check i then Some Check else if digest i then digest_found (first_of (codes "relation") (rows_of f)) else gen_found (sym (first_value-rows f (codes "seed")) i) (sym (first_value-rows f (codes "versions")) i))
