use Rattle.std.proofs.Common.{to_z, of_z, w64}
use Rattle.pt_terms.specs.declared.meaning.Sort.TheVariants as sort
use Rattle.pt_terms.specs.Sorts.{HasSort}
use Rattle.pt_terms.proofs.FreeTerms.{scale-in}
use Rattle.pt_terms.proofs.elaborator.Elaborator.scale.Goals as goal

pub returns-in-Ok-clause-range : goal.returns-in-Ok-clause-range
returns-in-Ok-clause-range c = (rw c.in-Ok.ensures.0 c.in-Ok.ensures.1, rw c.in-Ok.ensures.0 (scale-in (λ v. HasSort c.args.self.now.given v sort.Int) (to_z w64 (of_z w64 c.args.by)) c.args.f.now 0 c.requires.1))
