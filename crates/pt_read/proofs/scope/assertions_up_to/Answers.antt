use Rattle.std.proofs.Common.{◌≡◌, ◌<◌, ◌-◌, ℕ, suc, arith, ◌∙◌}
use Rattle.std.proofs.lemmas.Option.{slice_get-get_or}
use Rattle.pt_read.proofs.Levels.{front-kept}
use Rattle.pt_read.proofs.scope.assertions_up_to.Goals as goal

last : (n : ℕ) → 0 < n → suc (n - 1) ≡ n
last n h = omega arith

pub returns-else-assertions-kept : goal.returns-else-assertions-kept
returns-else-assertions-kept c =
    let at = slice_get-get_or c.args.assertions.now (c.loop-kept.kept - 1) (record { term = 0; conjunction = 0; level = 0 }) (omega (arith, c.loop-kept-test.true, c.loop-kept.invariant.within)) in
    let front = front-kept c.args.assertions.now (c.loop-kept.kept - 1) c.args.level _ c.requires at c.if-assertions-kept.false in
    let front' = rw (last c.loop-kept.kept c.loop-kept-test.true) at front in
    c.loop-kept.invariant.front ∙ front'
