use Rattle.std.proofs.Common.{◌∙◌, sym, refl, arith}
use Rattle.pt_syntax.specs.Lexemes.{Gap}
use Rattle.pt_syntax.proofs.TokenLaws.{turn}
use Rattle.pt_syntax.proofs.Turns.{refused_unclosed, refused_malformed, opening, closing}
use Rattle.pt_syntax.proofs.token.next_token.Goals as goal

pub loop-at-preserved : goal.loop-at-preserved
loop-at-preserved c = record {
  told = sym (turn c.args.bytes.now c.loop-at.at c.behind-at.result (Gap c.in-Gap.n) c.in-Gap.n c.in-Gap.ensures.0 refl c.in-Gap.ensures.1.0 c.in-Gap.ensures.1.1 c.behind-at.ensures) ∙ c.loop-at.invariant.told;
  within = c.behind-at.ensures.within;
  behind = omega (arith, c.behind-at.ensures.offset, c.loop-at.invariant.behind);
}

pub returns-in-Opening : goal.returns-in-Opening
returns-in-Opening c = opening c.args.bytes.now c.args.start c.loop-at.at c.parenthesis.result c.loop-at.invariant.told c.loop-at.invariant.behind c.in-Opening.ensures.0 c.loop-at-test.true c.parenthesis.ensures.token c.parenthesis.ensures.position c.parenthesis.ensures.behind

pub returns-in-Closing : goal.returns-in-Closing
returns-in-Closing c = closing c.args.bytes.now c.args.start c.loop-at.at c.parenthesis-in-Closing.result c.loop-at.invariant.told c.loop-at.invariant.behind c.in-Closing.ensures.0 c.loop-at-test.true c.parenthesis-in-Closing.ensures.token c.parenthesis-in-Closing.ensures.position c.parenthesis-in-Closing.ensures.behind

pub returns-in-Malformed : goal.returns-in-Malformed
returns-in-Malformed c = refused_malformed c.args.bytes.now c.args.start c.loop-at.at c.syntax-in-Malformed.result c.loop-at.invariant.told c.in-Malformed.ensures.0 c.loop-at-test.true c.syntax-in-Malformed.ensures

pub returns-in-Unclosed : goal.returns-in-Unclosed
returns-in-Unclosed c = refused_unclosed c.args.bytes.now c.args.start c.loop-at.at c.behind.result c.syntax.result c.loop-at.invariant.told c.in-Unclosed.ensures.0 c.loop-at-test.true c.behind.ensures c.syntax.ensures
