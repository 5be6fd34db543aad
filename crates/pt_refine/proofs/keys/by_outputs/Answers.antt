use Rattle.std.proofs.Common.{rules, arith, ◌≡◌, ◌+◌, ◌^◌, ◌≤◌}
use Rattle.pt_refine.proofs.Digits.{outputs-more}
use Rattle.pt_refine.proofs.keys.by_outputs.Goals as goal

pub loop-from-preserved : goal.loop-from-preserved
loop-from-preserved g c =
    let old = c.loop-from.invariant in
    let size = old.classes.numbering.size in
    let split = c.in_ok-classes.ensures in
    let within : c.loop-from.from + c.min-count.result ≤ 2 ^ c.args.table.now.tracks = search rules in
    record {
      classes = outputs-more c.args.table.now c.loop-from.from c.min-count.result _ _ _ _ _ within old.classes c.in_ok-keys.ensures.keys (search rules);
      few = search rules;
      within = within;
    }
