use Rattle.std.proofs.Common.{◌≡◌, ◌-◌, ℕ, map, filter, take, nat_le, Bool, refl, ap, sym, ◌∙◌}
use Rattle.pt_read.specs.declared.command.CommandKind.TheVariants as kind
use Rattle.pt_terms.specs.Names.{Symbol, constants_in}
use Rattle.pt_read.specs.Scope.{Assertion, popped}
use Rattle.pt_read.specs.Kept.{shown, shown_assertion}
use Rattle.pt_read.specs.Lasting.{IsSound}
use Rattle.pt_read.proofs.SoundLaws.{sound-after}
use Rattle.pt_read.proofs.Levels.{ordered-kept, filter-shown, low}
use Rattle.pt_read.proofs.scope.Scope.pop.Goals as goal

pub assertions_up_to-assertions-requires : goal.assertions_up_to-assertions-requires
assertions_up_to-assertions-requires c = rw c.as_slice.ensures.value (ordered-kept c.self.inside.assertions.items c.self.invariant.sound.order)

-- what the parts are afterwards
abbrev low_symbol : ℕ → Symbol → Bool
low_symbol level x = nat_le x.level level

symbols-left : (c : goal.After-self-1) → c.truncate-3.new.self ≡ filter (low_symbol (c.self.inside.depth - c.args.levels)) c.self.inside.symbols
symbols-left c = c.truncate-3.ensures ∙ ap (λ n. filter (low_symbol (c.self.inside.depth - n)) c.self.inside.symbols) c.from.ensures

assertions-left : (c : goal.After-self-1) → map shown_assertion c.truncate-2.new.self.items ≡ filter (λ (x : Assertion). nat_le x.level (c.self.inside.depth - c.args.levels)) (map shown_assertion c.self.inside.assertions.items)
assertions-left c =
    let front : filter (low (c.self.inside.depth - c.from.result)) c.self.inside.assertions.items ≡ take c.assertions_up_to-assertions.result c.self.inside.assertions.items = rw c.as_slice.ensures.value at c.assertions_up_to-assertions.ensures in
    ap (map shown_assertion) (c.truncate-2.ensures.items ∙ sym front)
    ∙ sym (filter-shown (c.self.inside.depth - c.from.result) c.self.inside.assertions.items)
    ∙ ap (λ n. filter (λ (x : Assertion). nat_le x.level (c.self.inside.depth - n)) (map shown_assertion c.self.inside.assertions.items)) c.from.ensures

constants-left : (c : goal.After-self-1) → c.truncate.new.self.items ≡ constants_in c.truncate-3.new.self
constants-left c =
    c.truncate.ensures.items
    ∙ ap (take c.constants_up_to-constants.result) c.self.invariant.constants
    ∙ sym c.constants_up_to-constants.ensures.front
    ∙ ap constants_in (sym c.truncate-3.ensures)

pub invariant_of-self : goal.invariant_of-self
invariant_of-self c =
    let sound : IsSound (popped c.args.levels (shown c.self.inside)) = sound-after (shown c.self.inside) (kind.Pop c.args.levels) tt c.self.invariant.sound in
    record {
      constants = constants-left c;
      sound = rw (c.from.ensures, symbols-left c, assertions-left c) sound;
    }

pub returns : goal.returns
returns c = rw (← c.self.view_is, c.from.ensures, symbols-left c, assertions-left c) refl
