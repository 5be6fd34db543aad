use Rattle.std.proofs.Common.{◌≡◌, ℕ, ◌<◌, ◌^◌, refl, subst, arith}
use Rattle.std.specs.Int.{w64, trailing_zeros}
use Rattle.std.proofs.lemmas.Grind.{common_steps}
use Rattle.pt_project.proofs.BitLaws.{ReadsBits, reads-none, reads-more, reads-all, cleared-less}
use Rattle.pt_project.proofs.bits.push_bits.Goals as goal

pub loop-left-init : goal.loop-left-init
loop-left-init c = reads-none c.args.word c.args.first c.args.numbers.now.items c.requires.increasing c.requires.below

pub loop-left-smaller : goal.loop-left-smaller
loop-left-smaller c =
    let some : 0 < c.loop-left.left = grind (arith, common_steps) in
    let small : c.loop-left.left < 2 ^ 64 = omega arith in
    cleared-less c.loop-left.left (trailing_zeros w64 c.loop-left.left) some small refl

pub loop-left-preserved : goal.loop-left-preserved
loop-left-preserved c =
    let some : 0 < c.loop-left.left = grind (arith, common_steps) in
    let small : c.loop-left.left < 2 ^ 64 = omega arith in
    reads-more c.args.word c.args.first c.args.numbers.now.items c.loop-left.left (trailing_zeros w64 c.loop-left.left) _ c.loop-left.numbers.items c.push.new.self.items some small refl refl c.in_ok-push.ensures.items c.loop-left.invariant

pub returns-clause-members : goal.returns-clause-members
returns-clause-members c =
    let none : c.loop-left.left ≡ 0 = grind (arith, common_steps) in
    reads-all c.args.word c.args.first c.args.numbers.now.items c.loop-left.numbers.items (subst (λ (left : ℕ). ReadsBits c.args.word c.args.first c.args.numbers.now.items left c.loop-left.numbers.items) none c.loop-left.invariant)
