use Rattle.std.proofs.Common.{◌<◌, length, arith}
use Rattle.pt_code.proofs.Numbering.{state-at}
use Rattle.pt_code.proofs.near.visit_next.Goals as goal

pub of-requires : goal.of-requires
of-requires c =
    let rows = c.requires.rows in
    let all = rows.all in
    let order = c.args.order.now in
    let inside : c.args.next < length order.states.items = let next = c.requires.next in omega (arith, next, order.states.ok.0) in
    let (at, in_q) = state-at order.states.items order.places.items c.args.next c.index-state.result.now c.requires.numbered.within inside c.index-state.ensures in
    let in_rows : c.index-state.result.now < order.places.len = omega (arith, in_q, order.places.ok.0) in
    record {
      state = omega (arith, all, in_rows, c.args.near.now.starts.ok.0);
      rise = rows.rise c.index-state.result.now in_rows;
      end = let end = rows.end c.index-state.result.now in_rows in omega (arith, end, c.args.near.now.targets.ok.0);
    }
