use Rattle.std.proofs.Common.{refl}
use Rattle.pt_formula.specs.Formulas.{IsFormula}
use Rattle.pt_read.specs.Kept.{shown}
use Rattle.pt_read.specs.Context.{Stands}
use Rattle.pt_read.proofs.Elaborating.{scope-names, scope-joined, scope-stands, elaborated}
use Rattle.pt_read.proofs.SoundLaws.{sound-grown}
use Rattle.pt_read.proofs.scope.Scope.elaborate.Goals as goal

pub elaborate-command-requires-clause-names : goal.elaborate-command-requires-clause-names
elaborate-command-requires-clause-names c = scope-names (shown c.self.inside) c.self.invariant.sound

pub elaborate-command-requires-clause-last : goal.elaborate-command-requires-clause-last
elaborate-command-requires-clause-last c = rw (c.joined-joined.ensures, ← c.self.view_is) (scope-joined (shown c.self.inside) c.self.invariant.sound)

after : (c : goal.After-is_formula-2) → IsFormula c.elaborate-command.new.work.formula
after c = rw c.formula-2.ensures.value at c.is_formula-2.ensures

pub invariant_of-self : goal.invariant_of-self
invariant_of-self c = record {
  constants = c.self.invariant.constants;
  sound = sound-grown (shown c.self.inside) c.elaborate-command.new.work
      (c.terms_are_over_the_names_that_they_see.ensures.whole c.elaborate-command.new.work.formula (after c))
      c.elaborate-command.ensures.grows.nodes c.elaborate-command.ensures.grows.sorts c.self.invariant.sound;
}

pub returns-clause-elaborated : goal.returns-clause-elaborated
returns-clause-elaborated c =
    let stands : Stands (shown c.self.inside) c.self.inside.symbols c.joined-joined.result = rw (c.joined-joined.ensures, ← c.self.view_is) (scope-stands (shown c.self.inside)) in
    rw (← c.self.view_is)
    (elaborated c.terms_are_over_the_names_that_they_see.ensures.whole c.terms_are_over_the_names_that_they_see.ensures.terms
    (shown c.self.inside) c.args.at c.args.items.now c.elaborate-command.new.work c.elaborate-command.result (after c) c.formula.ensures.below c.self.invariant.sound
    (c.elaborate-command.ensures.gives (shown c.self.inside) stands) c.elaborate-command.ensures.range c.elaborate-command.ensures.grows)

pub returns-clause-adds : goal.returns-clause-adds
returns-clause-adds c = rw (← c.self.view_is) (record { nodes = c.elaborate-command.ensures.grows.nodes; sorts = c.elaborate-command.ensures.grows.sorts; given = c.elaborate-command.ensures.grows.given; depth = refl; symbols = refl; assertions = refl })
