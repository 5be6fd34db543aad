use Rattle.std.proofs.Common.{rules, ◌≡◌, ◌+◌, ◌<◌, length, List, [], ◌∷◌, ◌++◌, drop, ap, subst, sym, ◌∙◌, arith, ℤ, FitsSigned}
use Rattle.std.specs.Int.{w128}
use Rattle.std.proofs.lemmas.Int.{to_z-of_z}
use Rattle.pt_terms.specs.declared.meaning.Sort.TheVariants as sort
use Rattle.pt_terms.specs.Elaboration.{Work, give, ◌>>=◌}
use Rattle.pt_read.specs.Commands.{components}
use Rattle.pt_read.proofs.Steps.{component_fails, component_goes}
use Rattle.pt_read.proofs.numerals.components.Goals as goal

pub returns-in-Err : goal.returns-in-Err
returns-in-Err c = λ (w : Work).
    let sorted : c.loop-i.i < length c.args.sorts.now = omega (arith, c.loop-i-test.true, c.requires) in
    component_fails c.args.sorts.now c.args.es.now c.loop-i.i sort.Int c.index-es-i.result c.loop-i.found.items w _ sorted c.loop-i-test.true c.index-es-i.is (c.loop-i.invariant.told w) c.in-Err.refusal (c.in-Err.ensures w)

pub loop-i-preserved : goal.loop-i-preserved
loop-i-preserved c = record {
  told = λ (w : Work).
      let sorted : c.loop-i.i < length c.args.sorts.now = omega (arith, c.loop-i-test.true, c.requires) in
      let fits : FitsSigned w128 c.in-Ok.z = search rules in
      let pushed : c.push.new.self.items ≡ c.loop-i.found.items ++ c.in-Ok.z ∷ [] = c.in_ok-push-in-Ok.ensures.items ∙ ap (λ (z : ℤ). c.loop-i.found.items ++ z ∷ []) (to_z-of_z w128 c.in-Ok.z fits) in
      subst (λ (found : List ℤ). (components (drop (c.loop-i.i + 1) c.args.sorts.now) (drop (c.loop-i.i + 1) c.args.es.now) >>= λ zs. give (found ++ zs)) w ≡ components c.args.sorts.now c.args.es.now w) (sym pushed)
      (component_goes c.args.sorts.now c.args.es.now c.loop-i.i sort.Int c.index-es-i.result c.loop-i.found.items w _ sorted c.loop-i-test.true c.index-es-i.is (c.loop-i.invariant.told w) c.in-Ok.z (c.in-Ok.ensures w));
}
