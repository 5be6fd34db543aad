use Rattle.std.proofs.Common.{◌≡◌, ℕ, ◌*◌, ◌^◌, ◌≤◌, subst, arith}
use Rattle.indexmap.specs.IndexSet.{index_set_len}
use Rattle.pt_product.specs.Pairs.{task}
use Rattle.pt_product.specs.Searching.{HasProgress}
use Rattle.pt_product.proofs.search.search_pairs.Goals as goal

pub returns-clause-done : goal.returns-clause-done
returns-clause-done c =
    let k = task c.args.op c.args.a.now c.args.b.now in
    let count = c.len.ensures.len in
    let past : index_set_len c.loop-state.search.pairs ≤ c.loop-state.state = omega (arith, c.loop-state-test.false, count) in
    let all : c.loop-state.state ≡ index_set_len c.loop-state.search.pairs = omega arith in
    subst (λ (n : ℕ). HasProgress k c.args.bound c.loop-state.search (n * 2 ^ c.args.a.now.tracks)) all c.loop-state.invariant.progress
