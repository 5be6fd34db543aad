use Rattle.std.proofs.Common.{map, ap, sym, ◌∙◌}
use Rattle.std.specs.Prelude.{Some}
use Rattle.pt_terms.specs.declared.meaning.Meaning.TheVariants.{Int, Bool as Truth}
use Rattle.pt_terms.proofs.SortLemmas.{not-both}
use Rattle.pt_terms.proofs.ReplacedVariables.{replacement-in}
use Rattle.pt_terms.proofs.elaborator.Elaborator.added.Goals as goal

pub scale-requires : goal.scale-requires
scale-requires c =
    (replacement-in (map (λ r. (r.0, r.1.now)) c.args.replacements.now) c.args.term.0 c.args.self.now (Int c.in-Some-Int.f) c.requires.replacements (sym c.in-Some-Int.ensures ∙ ap Some c.in-Some-Int.field-0-is)).0

pub unreachable-requires : goal.unreachable-requires
unreachable-requires c =
    not-both c.args.self.now.given c.args.term.0 c.requires.term
    (replacement-in (map (λ r. (r.0, r.1.now)) c.args.replacements.now) c.args.term.0 c.args.self.now (Truth c.in-Some-Bool.field-0-0) c.requires.replacements (sym c.in-Some-Bool.ensures ∙ ap Some c.in-Some-Bool.field-0-is)).1
