use Rattle.std.proofs.Common.{◌≡◌, ◌<◌, ◌+◌, [], ◌∷◌, ◌++◌, map, length, length-append, arith, ◌∙◌, sym, ap, subst, All}
use Rattle.pt_terms.proofs.Ranges.{replacing_more, nodes_more}
use Rattle.pt_terms.proofs.BelowLemmas.{grows_trans}
use Rattle.pt_terms.proofs.NodeCopies.{copying_fails, copying_goes, all-pushed}
use Rattle.pt_terms.proofs.elaborator.Elaborator.copy_nodes.Goals as goal

pub returns-in-Err-clause-gives : goal.returns-in-Err-clause-gives
returns-in-Err-clause-gives c =
    let within : c.loop-i.i < length c.args.marks.now = omega (arith, c.loop-i-test.true, c.requires.marks) in
    let inside : c.loop-i.i < length c.args.self.now.formula = omega (arith, c.loop-i-test.true, c.requires.count) in
    copying_fails c.args.at (map (λ r. (r.0, r.1.now)) c.args.replacements.now) c.args.self.now c.loop-i.numbers.items c.args.marks.now c.loop-i.i c.loop-i.self _ within c.loop-i.invariant.size inside c.loop-i.invariant.grows c.loop-i.invariant.told _ c.as_slice.result.now c.as_slice.ensures.value _ c.in-Err.ensures.gives

pub loop-i-preserved : goal.loop-i-preserved
loop-i-preserved c =
    let within : c.loop-i.i < length c.args.marks.now = omega (arith, c.loop-i-test.true, c.requires.marks) in
    let inside : c.loop-i.i < length c.args.self.now.formula = omega (arith, c.loop-i-test.true, c.requires.count) in
    let pushed : c.push.new.self.items ≡ c.loop-i.numbers.items ++ c.in-Ok.j ∷ [] = c.in_ok-push-in-Ok.ensures.items in
    record {
      told = rw pushed (copying_goes c.args.at (map (λ r. (r.0, r.1.now)) c.args.replacements.now) c.args.self.now c.loop-i.numbers.items c.args.marks.now c.loop-i.i c.loop-i.self _ within c.loop-i.invariant.size inside c.loop-i.invariant.grows c.loop-i.invariant.told _ c.as_slice.result.now c.as_slice.ensures.value c.in-Ok.j c.copy_next.new.self c.in-Ok.ensures.gives);
      size = ap length pushed ∙ length-append c.loop-i.numbers.items (c.in-Ok.j ∷ []) ∙ ap (λ n. n + 1) c.loop-i.invariant.size;
      range = subst (All (λ j. j < length c.copy_next.new.self.formula)) (sym pushed) (all-pushed (λ j. j < length c.copy_next.new.self.formula) c.loop-i.numbers.items c.in-Ok.j (nodes_more c.loop-i.self c.copy_next.new.self c.loop-i.numbers.items c.in-Ok.ensures.grows c.loop-i.invariant.range) c.in-Ok.ensures.range);
      replacements = replacing_more c.loop-i.self c.copy_next.new.self (map (λ r. (r.0, r.1.now)) c.args.replacements.now) c.in-Ok.ensures.grows c.loop-i.invariant.replacements;
      grows = grows_trans c.args.self.now c.loop-i.self c.copy_next.new.self c.loop-i.invariant.grows c.in-Ok.ensures.grows;
    }
