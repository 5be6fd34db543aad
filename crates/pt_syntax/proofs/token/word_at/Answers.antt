use Rattle.std.proofs.Common.{◌≡◌, ◌+◌, ◌-◌, ◌∙◌, ap, sym, take, drop, refl, arith}
use Rattle.pt_syntax.specs.Lexemes.{Word, Says}
use Rattle.pt_syntax.specs.Fronts.{leaf_of}
use Rattle.pt_syntax.specs.Cursors.{tokens_at}
use Rattle.pt_syntax.proofs.TokenLaws.{turn}
use Rattle.pt_syntax.proofs.token.word_at.Goals as goal

pub returns : goal.returns
returns c =
    let count : (c.args.at.offset + c.args.count) - c.args.at.offset ≡ c.args.count = omega arith in
    let leaf : c.in_ok-leaf.leaf ≡ leaf_of c.args.word (take c.args.count (drop c.args.at.offset c.args.bytes.now)) = c.in_ok-leaf.ensures ∙ ap (λ k. leaf_of c.args.word (take k (drop c.args.at.offset c.args.bytes.now))) count in
    record {
      told = turn c.args.bytes.now c.args.at c.behind.result (Word c.args.count (leaf_of c.args.word (take c.args.count (drop c.args.at.offset c.args.bytes.now)))) c.args.count c.requires.front.0 refl c.requires.front.1.0 c.requires.front.1.1 c.behind.ensures ∙ ap (λ x. Says c.args.at.position x (tokens_at c.args.bytes.now c.behind.result)) (sym leaf);
      within = c.behind.ensures.within;
      ahead = omega (arith, c.requires.front.1.0, c.behind.ensures.offset);
    }
