use Rattle.std.proofs.Common.{◌+◌, ◌<◌, arith}
use Rattle.std.proofs.lemmas.Result.{err_from_is_err_and}
use Rattle.pt_syntax.specs.Cursors.{tokens_at}
use Rattle.pt_syntax.proofs.NestLaws.{leaf_turn, list_turn, list_refused, says, opens, says_ahead, opens_ahead}
use Rattle.pt_syntax.proofs.nested.+items_of.Goals as goal

pub loop-items-preserved-in-Leaf : goal.loop-items-preserved-in-Leaf
loop-items-preserved-in-Leaf t c = record {
  told = leaf_turn c.loop-items.items c.push.new.self c.in_ok-token.field-0.position c.in-Leaf.leaf c.args.around (tokens_at c.args.bytes.now c.loop-items.at) (tokens_at c.args.bytes.now c.in_ok-token.field-0.behind) _ (says c.args.bytes.now c.loop-items.at c.in_ok-token.field-0 c.in-Leaf.leaf c.in_ok-token.ensures (cc)) c.in_ok-push-in-Leaf.ensures.ok c.loop-items.invariant.told;
  within = c.in_ok-token.ensures.within;
  behind = omega (arith, says_ahead c.args.bytes.now c.loop-items.at c.in_ok-token.field-0 c.in-Leaf.leaf c.in_ok-token.ensures (cc), c.loop-items.invariant.behind);
}

pub returns-in_err-inner-in-Opening : goal.returns-in_err-inner-in-Opening
returns-in_err-inner-in-Opening t c =
    let p = err_from_is_err_and c.from_residual-in_err-inner-in-Opening.result c.from_residual-in_err-inner-in-Opening.ensures.1 in
    let low : c.args.around + 1 < 256 = omega arith in
    rw (p.1, p.2) (list_refused c.loop-items.items c.in_ok-token.field-0.position c.args.around (c.args.around + 1) (tokens_at c.args.bytes.now c.loop-items.at) (tokens_at c.args.bytes.now c.in_ok-token.field-0.behind) _ c.in_err-inner-in-Opening.field-0.0 (opens c.args.bytes.now c.loop-items.at c.in_ok-token.field-0 c.in_ok-token.ensures (cc)) (omega arith) low c.in_err-inner-in-Opening.ensures c.loop-items.invariant.told)

pub loop-items-preserved : goal.loop-items-preserved
loop-items-preserved t c =
    let low : c.args.around + 1 < 256 = omega arith in
    record {
      told = list_turn c.loop-items.items c.push-in-Opening.new.self c.in_ok-inner-in-Opening.inner.items c.in_ok-token.field-0.position c.args.around (c.args.around + 1) (tokens_at c.args.bytes.now c.loop-items.at) (tokens_at c.args.bytes.now c.in_ok-token.field-0.behind) (tokens_at c.args.bytes.now c.in_ok-inner-in-Opening.inner.behind) _ (opens c.args.bytes.now c.loop-items.at c.in_ok-token.field-0 c.in_ok-token.ensures (cc)) (omega arith) low c.in_ok-inner-in-Opening.ensures.told c.in_ok-push-in-Opening.ensures.ok c.loop-items.invariant.told;
      within = c.in_ok-inner-in-Opening.ensures.within;
      behind = omega (arith, opens_ahead c.args.bytes.now c.loop-items.at c.in_ok-token.field-0 c.in_ok-token.ensures (cc), c.in_ok-inner-in-Opening.ensures.ahead, c.loop-items.invariant.behind);
    }
