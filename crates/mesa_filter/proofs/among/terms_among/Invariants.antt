use Rattle.std.proofs.Common.{◌≡◌, map, take}
use Rattle.mesa_filter.specs.Among.{term_among}
use Rattle.mesa_filter.proofs.among.terms_among.Given as goal

-- the terms so far
abbrev pub invariant-terms : goal.invariant-terms
invariant-terms l = l.moved ≡ map (term_among l.among) (take l.term-index l.terms)
