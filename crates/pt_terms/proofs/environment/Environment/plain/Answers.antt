use Rattle.std.proofs.Common.{ap, sym, ◌∙◌}
use Rattle.pt_terms.specs.Names.{find_symbol}
use Rattle.pt_terms.specs.Names.{find_bound, Env}
use Rattle.pt_terms.specs.Symbols.{shown_use}
use Rattle.pt_terms.proofs.EnvLemmas.{bound_found, some_use, ok_same}
use Rattle.pt_terms.proofs.environment.Environment.plain.Goals as goal

pub returns-in-Some-clause-range : goal.returns-in-Some-clause-range
returns-in-Some-clause-range c w h =
    let bound = ap (λ (e : Env). e.bound) c.self.view_is in
    ok_same w c.copy_of.result c.in-Some.bound.now c.copy_of.ensures.same
    (bound_found w c.args.self.now.bound c.args.name.now c.in-Some.bound.now h.bound (sym (c.in-Some.ensures ∙ ap (λ bs. find_bound bs c.args.name.now) bound)))

pub returns-in-None-clause-range : goal.returns-in-None-clause-range
returns-in-None-clause-range c w h =
    let live = ap (λ (e : Env). e.live) c.self.view_is in
    c.live_use.ensures.range w (some_use w c.args.self.now.live c.args.name.now c.find-in-None.result (λ u. shown_use u.now) (c.find-in-None.ensures ∙ ap (λ ss. find_symbol ss c.args.name.now) live) h.live)
