use Rattle.std.proofs.Common.{◌≡◌, ◌<◌, ◌≤◌, ◌⊎◌, inl, inr, length, get_or, arith}
use Rattle.std.proofs.lemmas.Bool.Decides.{nat_tests}
use Rattle.pt_formula.proofs.Unions.{merge_less, merge_same, merge_more, merge_end, take_rest}
use Rattle.pt_formula.proofs.variables.Variables.united.Goals as goal
use Rattle.pt_formula.proofs.variables.Variables.united.Goals.{then-loop-i-test+else-j-b, else-loop-i-test}

pub loop-i-preserved-in-Less : goal.loop-i-preserved-in-Less
loop-i-preserved-in-Less c =
    let lt : get_or c.args.a.now c.loop-i.i 0 < get_or c.args.b.now c.loop-i.j 0 = grind (arith, nat_tests, c.in-Less.ensures) in
    rw c.in_ok-push-in-Less.ensures.items (merge_less _ _ _ _ _ c.loop-i-test.true c.if-j-b.true lt c.loop-i.invariant)

pub loop-i-preserved-in-Equal : goal.loop-i-preserved-in-Equal
loop-i-preserved-in-Equal c =
    let same : get_or c.args.a.now c.loop-i.i 0 ≡ get_or c.args.b.now c.loop-i.j 0 = grind (arith, nat_tests, c.in-Equal.ensures) in
    rw c.in_ok-push-in-Equal.ensures.items (merge_same _ _ _ _ _ c.loop-i-test.true c.if-j-b.true same c.loop-i.invariant)

pub loop-i-preserved : goal.loop-i-preserved
loop-i-preserved c =
    let lt : get_or c.args.b.now c.loop-i.j 0 < get_or c.args.a.now c.loop-i.i 0 = grind (arith, nat_tests, c.in-Greater.ensures) in
    rw c.in_ok-push-in-Greater.ensures.items (merge_more _ _ _ _ _ c.loop-i-test.true c.if-j-b.true lt c.loop-i.invariant)

pub returns : goal.returns
returns c =
    let ends : (length c.args.a.now ≤ c.loop-i.i) ⊎ (length c.args.b.now ≤ c.loop-i.j) = elim c.loop-i-test.branch [ then-loop-i-test+else-j-b w ↦ inr (omega arith) | else-loop-i-test w ↦ inl (omega arith) ] in
    rw (c.in_ok-extend_from_slice-2.ensures.items, c.in_ok-extend_from_slice.ensures.items, take_rest c.args.a.now c.loop-i.i, take_rest c.args.b.now c.loop-i.j) (merge_end _ _ _ _ _ ends c.loop-i.invariant)
