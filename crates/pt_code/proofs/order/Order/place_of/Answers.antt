use Rattle.std.proofs.Common.{◌≡◌, ◌<◌, ◌≤◌, ℕ, length, ap, sym, ◌∙◌, arith, get_or}
use Rattle.std.proofs.lemmas.Grind.{get_or_default_zero}
use Rattle.pt_code.proofs.Numbering.{known-place, unknown, none-position}
use Rattle.pt_code.proofs.order.Order.place_of.Goals as goal

pub returns-then-index-state-clause-place : goal.returns-then-index-state-clause-place
returns-then-index-state-clause-place c =
    let states = c.args.self.now.states.items in
    let inside : c.index-place.result.now < length states = omega (arith, c.if-place-len.true, c.len.ensures, c.args.self.now.states.ok.0) in
    let is : get_or states c.index-place.result.now 0 ≡ c.args.state = sym (c.index.ensures ∙ get_or_default_zero states c.index-place.result.now c.index.result.now inside) ∙ c.if-index-state.true in
    known-place states c.args.self.now.places.items c.requires.numbered c.args.state c.index-place.result.now inside is

pub returns-else-index-state-clause-met : goal.returns-else-index-state-clause-met
returns-else-index-state-clause-met c =
    let states = c.args.self.now.states.items in
    let places = c.args.self.now.places.items in
    let within : c.args.state < length places = omega (arith, c.requires.state, c.args.self.now.places.ok.0) in
    let place : c.index-place.result.now ≡ get_or places c.args.state 0 = c.index-place.ensures ∙ get_or_default_zero places c.args.state c.index-place.result.now within in
    let inside : c.index-place.result.now < length states = omega (arith, c.if-place-len.true, c.len.ensures, c.args.self.now.states.ok.0) in
    let at : c.index.result.now ≡ get_or states c.index-place.result.now 0 = c.index.ensures ∙ get_or_default_zero states c.index-place.result.now c.index.result.now inside in
    unknown states places c.requires.numbered c.args.state (λ h same. c.if-index-state.false (at ∙ ap (λ (n : ℕ). get_or states n 0) place ∙ same))

pub returns-else-index-state-clause-place : goal.returns-else-index-state-clause-place
returns-else-index-state-clause-place c = none-position c.args.state c.args.self.now.states.items (returns-else-index-state-clause-met c) ∙ sym c.args.self.now.states.ok.0

pub returns-else-place-len-clause-met : goal.returns-else-place-len-clause-met
returns-else-place-len-clause-met c =
    let states = c.args.self.now.states.items in
    let places = c.args.self.now.places.items in
    let within : c.args.state < length places = omega (arith, c.requires.state, c.args.self.now.places.ok.0) in
    let place : c.index-place.result.now ≡ get_or places c.args.state 0 = c.index-place.ensures ∙ get_or_default_zero places c.args.state c.index-place.result.now within in
    let past : length states ≤ c.index-place.result.now = omega (arith, c.if-place-len.false, c.len.ensures, c.args.self.now.states.ok.0) in
    unknown states places c.requires.numbered c.args.state (λ h. absurd (omega (arith, place, past, h)))

pub returns-else-place-len-clause-place : goal.returns-else-place-len-clause-place
returns-else-place-len-clause-place c = none-position c.args.state c.args.self.now.states.items (returns-else-place-len-clause-met c) ∙ sym c.args.self.now.states.ok.0
