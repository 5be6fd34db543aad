use Rattle.std.proofs.Common.{◌≡◌, map, List, [], ◌∷◌, ◌++◌, ap, sym, subst, ◌∙◌}
use Rattle.std.proofs.lemmas.List.{map-append}
use Rattle.pt_read.specs.declared.scope.Assertion as kept
use Rattle.pt_read.specs.declared.command.CommandKind.TheVariants as kind
use Rattle.pt_read.specs.Scope.{Assertion, after}
use Rattle.pt_read.specs.Kept.{shown, shown_assertion}
use Rattle.pt_read.specs.Lasting.{IsSound}
use Rattle.pt_read.specs.Fits.{IsNewAssertion}
use Rattle.pt_read.proofs.SoundLaws.{sound-after}
use Rattle.pt_read.proofs.scope.Scope.add_assertion.Goals as goal

pub invariant_of-self-2 : goal.invariant_of-self-2
invariant_of-self-2 c =
    let new : kept.Assertion = record { term = c.args.term; conjunction = c.args.conjunction; level = c.self.inside.depth } in
    let fits : IsNewAssertion (shown c.self.inside) c.args.term c.args.conjunction = rw c.self.view_is c.requires in
    let sound : IsSound (after (kind.Assert c.args.term c.args.conjunction) (shown c.self.inside)) = sound-after (shown c.self.inside) (kind.Assert c.args.term c.args.conjunction) fits c.self.invariant.sound in
    let added : map shown_assertion c.push.new.self.items ≡ map shown_assertion c.self.inside.assertions.items ++ shown_assertion new ∷ [] = ap (map shown_assertion) c.in_ok-push.ensures.items ∙ map-append shown_assertion c.self.inside.assertions.items (new ∷ []) in
    record {
      constants = c.self.invariant.constants;
      sound = subst (λ (made : List Assertion). IsSound (record { formula = c.self.inside.work.formula; given = c.self.inside.work.given; depth = c.self.inside.depth; symbols = c.self.inside.symbols; assertions = made })) (sym added) sound;
    }
