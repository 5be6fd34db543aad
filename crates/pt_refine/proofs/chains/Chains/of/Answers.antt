use Rattle.std.proofs.Common.{arith, ◌≡◌, ℕ, ◌+◌, ◌<◌, List, length, get_or, set, ap, sym, subst}
use Rattle.std.specs.Vec.{vec_len}
use Rattle.std.proofs.lemmas.List.{get_or_read}
use Rattle.pt_refine.proofs.Chaining.{ChainsTo, edge-in, chains-more}
use Rattle.pt_refine.proofs.chains.Chains.of.Goals as goal

pub index-requires : goal.index-requires
index-requires c =
    let lt : c.loop-cell.cell < length c.args.table.now.edges = rw c.edges-edges.ensures.value at c.loop-cell-test.true in
    let to = edge-in c.args.table.now c.loop-cell.cell c.edges-edges.ensures.valid lt in
    let size = c.loop-cell.invariant.last_len in
    let len = c.loop-cell.last.ok.0 in
    rw c.edges-edges.ensures.value (omega arith)

pub index_mut-requires : goal.index_mut-requires
index_mut-requires c =
    let lt : c.loop-cell.cell < length c.args.table.now.edges = rw c.edges-edges.ensures.value at c.loop-cell-test.true in
    let to = edge-in c.args.table.now c.loop-cell.cell c.edges-edges.ensures.valid lt in
    let size = c.loop-cell.invariant.last_len in
    let len = c.loop-cell.last.ok.0 in
    rw c.edges-edges.ensures.value (omega arith)

pub loop-cell-preserved : goal.loop-cell-preserved
loop-cell-preserved c =
    let a = c.args.table.now in
    let cell = c.loop-cell.cell in
    let t = get_or c.edges-edges.result.now cell 0 in
    let was = c.loop-cell.invariant in
    let lt : cell < length a.edges = rw c.edges-edges.ensures.value at c.loop-cell-test.true in
    let t_is : get_or a.edges cell 0 ≡ t = ap (λ (xs : List ℕ). get_or xs cell 0) (sym c.edges-edges.ensures.value) in
    let to = edge-in a cell c.edges-edges.ensures.valid lt in
    let t_in : t < a.states = omega arith in
    let t_last : t < length c.loop-cell.last.items = omega (arith, was.last_len) in
    let m_is = get_or_read c.loop-cell.last.items t c.index.result.now t_last c.index.ensures 0 in
    subst (λ (items : List ℕ). ChainsTo (λ i. get_or a.edges i 0) a.states (cell + 1) (set c.loop-cell.last.items t (cell + 1)) items) (sym c.in_ok-push.ensures.items)
    (chains-more was t c.index.result.now t_is t_in m_is)
