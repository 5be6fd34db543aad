use Rattle.std.proofs.Common.{◌≡◌, ℕ, ◌∙◌, List, get_or, Some, ap, sym, arith, below_more}
use Rattle.std.proofs.lemmas.List.{length-map}
use Rattle.pt_cells.proofs.Agreeing.{at_index, set-same}
use Rattle.pt_cells.proofs.noted.compare_all.Goals as goal

pub compare-requires : goal.compare-requires
compare-requires c =
    let name : ℕ × List ℕ → ℕ = λ w. w.0 in
    let xs : List (ℕ × List ℕ) = c.args.one.now.items in
    let ys : List (ℕ × List ℕ) = c.args.other.now.items in
    let k = c.loop-k.k in
    let x : ℕ × List ℕ = c.index_mut.result.now in
    let y : ℕ × List ℕ = c.index_mut-in-loop-k.result.now in
    let at_x : x ≡ get_or xs k x = c.index_mut.ensures.value ∙ ap (λ zs. get_or zs k x) c.loop-k.invariant.one in
    let at_y : y ≡ get_or ys k y = c.index_mut-in-loop-k.ensures.value ∙ ap (λ zs. get_or zs k y) c.loop-k.invariant.other in
    sym (c.requires k x.0 y.0 (at_index name xs k x (omega arith) at_x) (at_index name ys k y (omega arith) at_y))

pub loop-k-preserved : goal.loop-k-preserved
loop-k-preserved c =
    let code : ℕ × List ℕ → List ℕ = λ w. w.1 in
    let xs : List (ℕ × List ℕ) = c.args.one.now.items in
    let ys : List (ℕ × List ℕ) = c.args.other.now.items in
    let k = c.loop-k.k in
    let x : ℕ × List ℕ = c.index_mut.result.now in
    let y : ℕ × List ℕ = c.index_mut-in-loop-k.result.now in
    let at_x : x ≡ get_or xs k x = c.index_mut.ensures.value ∙ ap (λ zs. get_or zs k x) c.loop-k.invariant.one in
    let at_y : y ≡ get_or ys k y = c.index_mut-in-loop-k.ensures.value ∙ ap (λ zs. get_or zs k y) c.loop-k.invariant.other in
    record {
      one = rw c.loop-k.invariant.one (set-same xs k x c.compare.new.self at_x c.compare.ensures.same.0);
      other = rw c.loop-k.invariant.other (set-same ys k y c.compare.new.other at_y c.compare.ensures.same.1);
      agree = below_more _ _ c.loop-k.invariant.agree (at_index code xs k x (omega arith) at_x ∙ ap (λ w. Some w.1) (sym c.compare.ensures.one) ∙ sym (at_index code ys k y (omega arith) at_y));
    }

pub returns-clause-agree : goal.returns-clause-agree
returns-clause-agree c = λ index in_one in_other.
    let code : ℕ × List ℕ → List ℕ = λ w. w.1 in
    let xs : List (ℕ × List ℕ) = c.args.one.now.items in
    let ys : List (ℕ × List ℕ) = c.args.other.now.items in
    c.loop-k.invariant.agree index (omega (arith, length-map xs code, length-map ys code, in_one, in_other))
