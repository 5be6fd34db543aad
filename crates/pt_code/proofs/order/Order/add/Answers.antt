use Rattle.std.proofs.Common.{rules, ◌≡◌, ◌<◌, ◌≤◌, ◌∷◌, [], ◌++◌, List, ℕ, length, sym, subst, arith, set}
use Rattle.pt_code.specs.Searching.{IsNumbered}
use Rattle.pt_code.proofs.Numbering.{numbered-few, numbered-more, numbered-room}
use Rattle.pt_code.proofs.order.Order.add.Goals as goal

pub overflow_cast-place : goal.overflow_cast-place
overflow_cast-place c =
    let few = numbered-few c.args.self.now.states.items c.args.self.now.places.items c.requires.numbered in
    let count : c.len-place.result ≡ length c.args.self.now.states.items = search rules in
    let room : length c.args.self.now.places.items ≤ 65536 = search rules in
    omega (arith, few, count, room)

pub push_reserved-requires : goal.push_reserved-requires
push_reserved-requires c =
    let states = c.args.self.now.states.items in
    let places = c.args.self.now.places.items in
    let none = c.requires.new in
    let within : c.args.state < length places = search rules in
    let room = numbered-room states places c.requires.numbered c.args.state within none in
    omega (arith, room, c.args.self.now.reserved, c.args.self.now.states.ok.0, c.args.self.now.places.ok.0)

pub returns-clause-numbered : goal.returns-clause-numbered
returns-clause-numbered c =
    let states = c.args.self.now.states.items in
    let places = c.args.self.now.places.items in
    let count : c.len-place.result ≡ length states = search rules in
    let none = c.requires.new in
    let within : c.args.state < length places = search rules in
    let more = numbered-more states places c.requires.numbered c.args.state within none in
    let grown : c.push_reserved.new.self.items ≡ states ++ c.args.state ∷ [] = search rules in
    subst (λ (l : List ℕ). IsNumbered l (set places c.args.state c.len-place.result)) (sym grown)
    (subst (λ (n : ℕ). IsNumbered (states ++ c.args.state ∷ []) (set places c.args.state n)) (sym count) more)
