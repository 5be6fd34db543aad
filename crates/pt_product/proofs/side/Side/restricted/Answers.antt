use Rattle.std.proofs.Common.{◌≡◌, ℕ, ◌^◌, ◌<◌, length, subst, sym, ◌∙◌}
use Rattle.std.proofs.lemmas.List.{get_or_default}
use Rattle.pt_sets.specs.Words.{IsLetter}
use Rattle.pt_sets.specs.Costs.{restricted}
use Rattle.pt_sets.proofs.Restricted.{restricted-IsLetter}
use Rattle.pt_product.specs.Pairs.{OneSide}
use Rattle.pt_product.proofs.side.Side.restricted.Goals as goal

pub returns-clause-letter : goal.returns-clause-letter
returns-clause-letter c =
    let s = c.self.inside in
    let letters = c.self.invariant.1 in
    let at : c.args.letter < 2 ^ s.tracks = subst (λ (o : OneSide). c.args.letter < 2 ^ o.tracks) (sym c.self.view_is) c.requires in
    let inside : c.args.letter < length s.letters.items = subst (λ (n : ℕ). c.args.letter < n) (sym letters.count) at in
    let value : c.index.result.now ≡ restricted s.map.items c.args.letter =
    c.index.ensures ∙ get_or_default s.letters.items c.args.letter c.index.result.now 0 inside ∙ letters.letter c.args.letter at in
    let letter = subst (λ (n : ℕ). IsLetter s.handle.tracks n) (sym value) (restricted-IsLetter s.handle.tracks s.tracks s.map.items c.args.letter c.self.invariant.0) in
    subst (λ (o : OneSide). IsLetter o.handle.tracks c.index.result.now) c.self.view_is letter
