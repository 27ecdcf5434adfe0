use Rattle.std.proofs.Common.{◌≡◌, ◌++◌, drop}
use Rattle.mesa_binding.proofs.viewing.names_of.Given as goal

-- the names so far and the words that are left are all words
abbrev pub invariant-words : goal.invariant-words
invariant-words g l = l.names ++ drop l.word-index l.words ≡ l.words
