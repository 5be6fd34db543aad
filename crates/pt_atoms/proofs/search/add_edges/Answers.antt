use Rattle.std.proofs.Common.{◌≡◌, ◌+◌, ◌^◌, ◌∷◌, [], ◌++◌, ℕ, List, length, subst, sym, ap, arith}
use Rattle.std.proofs.lemmas.Int.{ints}
use Rattle.pt_sets.specs.Words.{IsLetter}
use Rattle.pt_atoms.specs.Parameters.{parameter_after}
use Rattle.pt_atoms.specs.Searches.{IsAdded, IsFull, IsRowOfEdges}
use Rattle.pt_atoms.specs.declared.parameter.Parameter.{Parameter}
use Rattle.pt_atoms.proofs.Rows.{edges_push}
use Rattle.pt_atoms.proofs.Searching.{step_is, parameter_next, added_grows, added_reached, full_cause}
use Rattle.pt_atoms.proofs.search.add_edges.Goals as goal

pub returns-in-Err-clause-cause : goal.returns-in-Err-clause-cause
returns-in-Err-clause-cause c =
    let n = c.args.normal.now in
    let p = c.args.parameter in
    let d = c.loop-letter.letter in
    let keys = c.loop-letter.found.keys in
    let letter : IsLetter (length n.coefficients) d = (let end = c.letters_of-letter-end.ensures in
    let size = ap (λ s. 2 ^ length s) c.as_slice.ensures in
    let below = c.loop-letter-test.true in
    omega (arith, end, size, below)) in
    let next : c.step-next.result ≡ parameter_after n.coefficients p d =
    step_is n p c.step-next.result c.args.sums.now d _ c.requires.normal_form c.requires.parameter c.requires.sums letter c.step-next.ensures (λ s e small range. omega (arith, ints, e, small, range)) in
    let reached = parameter_next n p d c.requires.normal_form c.requires.parameter letter in
    full_cause n (parameter_after n.coefficients p d) keys c.args.bound c.in-Err.fault c.requires.normal_form c.loop-letter.invariant.0 reached
    (subst (λ (q : Parameter). IsFull q keys c.args.bound c.in-Err.fault) next c.in-Err.ensures.full)

pub loop-letter-preserved : goal.loop-letter-preserved
loop-letter-preserved c =
    let n = c.args.normal.now in
    let p = c.args.parameter in
    let d = c.loop-letter.letter in
    let old = c.loop-letter.found.keys in
    let new = c.add.new.found.keys in
    let letter : IsLetter (length n.coefficients) d = (let end = c.letters_of-letter-end.ensures in
    let size = ap (λ s. 2 ^ length s) c.as_slice.ensures in
    let below = c.loop-letter-test.true in
    omega (arith, end, size, below)) in
    let next : c.step-next.result ≡ parameter_after n.coefficients p d =
    step_is n p c.step-next.result c.args.sums.now d _ c.requires.normal_form c.requires.parameter c.requires.sums letter c.step-next.ensures (λ s e small range. omega (arith, ints, e, small, range)) in
    let reached = parameter_next n p d c.requires.normal_form c.requires.parameter letter in
    let added : IsAdded (parameter_after n.coefficients p d) old new c.in-Ok.place = subst (λ (q : Parameter). IsAdded q old new c.in-Ok.place) next c.in-Ok.ensures.added in
    let items : c.push.new.self.items ≡ c.loop-letter.edges.items ++ c.in-Ok.place ∷ [] = c.in_ok-push.ensures.items in (
      added_reached n (parameter_after n.coefficients p d) old new c.in-Ok.place c.loop-letter.invariant.0 reached added,
      c.in-Ok.ensures.within,
      subst (λ (xs : List ℕ). IsRowOfEdges n p c.args.found.now.keys new c.args.edges.now.items xs (d + 1)) (sym items)
          (edges_push n p c.args.found.now.keys old new c.args.edges.now.items c.loop-letter.edges.items d c.in-Ok.place c.loop-letter.invariant.2 (added_grows (parameter_after n.coefficients p d) old new c.in-Ok.place added) added.0),
    )
