use Rattle.std.proofs.Common.{◌≡◌, ◌+◌, ◌↔◌, ◌∷◌, [], ◌++◌, Bool, IsTrue, List, get_or, pos, neg_ℤ, subst, sym, arith}
use Rattle.std.proofs.lemmas.Int.{ints}
use Rattle.pt_atoms.specs.Atoms.{Meets}
use Rattle.pt_atoms.specs.Searches.{IsRowOfOutputs}
use Rattle.pt_atoms.proofs.Rows.{outputs_push}
use Rattle.pt_atoms.proofs.Stepping.{meets_alike}
use Rattle.pt_atoms.proofs.search.add_outputs.Goals as goal

pub loop-sum-preserved : goal.loop-sum-preserved
loop-sum-preserved c =
    let p = c.args.parameter in
    let sums = c.args.sums.now in
    let k = c.loop-sum.sum-index in
    let old = c.args.outputs.now.items in
    let mid = c.loop-sum.outputs.items in
    let small = c.requires.small k c.loop-sum-test.true in
    let range = c.requires.constant in
    let says : IsTrue c.holds_at.result ↔ Meets p.kind (neg_ℤ (get_or sums k (pos 0))) p.constant =
    meets_alike p.kind _ _ _ _ c.holds_at.result c.holds_at.ensures (omega (arith, ints, small)) (omega (arith, ints, range)) in
    let items : c.push.new.self.items ≡ mid ++ c.holds_at.result ∷ [] = c.in_ok-push.ensures.items in
    subst (λ (xs : List Bool). IsRowOfOutputs p sums old xs (k + 1)) (sym items) (outputs_push p sums old mid k c.holds_at.result c.loop-sum.invariant says)
