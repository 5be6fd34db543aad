use Rattle.pt_terms.specs.declared.meaning.Sort.TheVariants as sort
use Rattle.pt_terms.specs.Sorts.{HasSort}
use Rattle.pt_terms.proofs.FreeTerms.{sum-in}
use Rattle.pt_terms.proofs.elaborator.Elaborator.sum.Goals as goal

pub returns-in-Ok-clause-range : goal.returns-in-Ok-clause-range
returns-in-Ok-clause-range c = (rw c.in-Ok.ensures.0 c.in-Ok.ensures.1, rw c.in-Ok.ensures.0 (sum-in (λ v. HasSort c.args.self.now.given v sort.Int) c.args.a.now c.args.b.now 0 c.requires.a.1 c.requires.b.1))
