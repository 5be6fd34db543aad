use Rattle.std.proofs.Common.{ℕ, ◌<◌, ◌≤◌, ◌+◌, List, ◌++◌, length, map, drop, ap, ◌∙◌, arith, Bor}
use Rattle.pt_terms.specs.declared.meaning.Meaning.{Meaning}
use Rattle.pt_terms.specs.declared.meaning.Sort.TheVariants as sort
use Rattle.pt_terms.specs.Elaboration.{give, ◌>>=◌}
use Rattle.pt_terms.specs.Theory.{replacements}
use Rattle.pt_terms.proofs.PairLists.{replacing_fails, replacing_goes, replacing_ends, more-mapped}
use Rattle.pt_terms.proofs.definitions.replacements.Goals as goal

abbrev Replacement : Type 0
Replacement = ℕ × Bor Meaning

abbrev pair : Replacement → ℕ × Meaning
pair r = (r.0, r.1.now)

pub returns-in-Err : goal.returns-in-Err
returns-in-Err c = λ w.
    let in-parameters : c.loop-i.i < length c.args.parameters.now = omega (arith, c.requires.parameters, c.loop-i-test.true) in
    let in-sorts : c.loop-i.i < length c.args.sorts.now = omega (arith, c.requires.sorts, c.loop-i-test.true) in
    replacing_fails c.args.parameters.now c.args.sorts.now c.args.arguments.now c.loop-i.i 0 sort.Int c.index-arguments-i.result (map pair c.loop-i.found.items) w _ in-parameters in-sorts c.loop-i-test.true c.index-arguments-i.is (c.loop-i.invariant.told w) c.in-Err.refusal (c.in-Err.ensures w)

pub loop-i-preserved : goal.loop-i-preserved
loop-i-preserved c = record {
  told = λ w.
      let in-parameters : c.loop-i.i < length c.args.parameters.now = omega (arith, c.requires.parameters, c.loop-i-test.true) in
      let in-sorts : c.loop-i.i < length c.args.sorts.now = omega (arith, c.requires.sorts, c.loop-i-test.true) in
      ap (λ (found : List (ℕ × Meaning)). (replacements (drop (c.loop-i.i + 1) c.args.parameters.now) (drop (c.loop-i.i + 1) c.args.sorts.now) (drop (c.loop-i.i + 1) c.args.arguments.now) >>= λ rs. give (found ++ rs)) w) (more-mapped pair c.loop-i.found.items c.push.new.self.items _ c.in_ok-push-in-Ok.ensures.items)
      ∙ replacing_goes c.args.parameters.now c.args.sorts.now c.args.arguments.now c.loop-i.i 0 sort.Int c.index-arguments-i.result (map pair c.loop-i.found.items) w _ in-parameters in-sorts c.loop-i-test.true c.index-arguments-i.is (c.loop-i.invariant.told w) (c.in-Ok.ensures w);
}

pub returns : goal.returns
returns c = λ w.
    let end : length c.args.parameters.now ≤ c.loop-i.i = omega (arith, c.requires.parameters, c.loop-i-test.false) in
    replacing_ends c.args.parameters.now c.args.sorts.now c.args.arguments.now c.loop-i.i (map pair c.loop-i.found.items) w _ end (c.loop-i.invariant.told w)
