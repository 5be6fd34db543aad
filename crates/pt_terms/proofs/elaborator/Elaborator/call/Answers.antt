use Rattle.std.proofs.Common.{ℕ, map, sym, subst, arith, Bor}
use Rattle.pt_terms.specs.declared.meaning.Meaning.{Meaning}
use Rattle.pt_terms.specs.Sound.{AreReplacing}
use Rattle.pt_terms.proofs.SortLemmas.{have-length}
use Rattle.pt_terms.proofs.ReplacedParameters.{replacements-in}
use Rattle.pt_terms.proofs.elaborator.Elaborator.call.Goals as goal

abbrev pair : ℕ × Bor Meaning → ℕ × Meaning
pair r = (r.0, r.1.now)

pub replacements-requires-clause-sorts : goal.replacements-requires-clause-sorts
replacements-requires-clause-sorts c = omega (arith, have-length c.args.self.now.given c.args.parameters.now c.args.sorts.now c.requires.sorts, c.if-arguments-parameters.false)

pub instance-requires-clause-replacements : goal.instance-requires-clause-replacements
instance-requires-clause-replacements c =
    subst (λ rs. AreReplacing c.args.self.now (map pair rs)) (sym c.as_slice.ensures.value)
    (replacements-in c.args.parameters.now c.args.sorts.now c.args.arguments.now c.args.self.now c.args.self.now (map pair c.in_ok-found.found.items) c.requires.sorts c.requires.arguments (c.in_ok-found.ensures c.args.self.now))
