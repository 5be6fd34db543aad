use Rattle.std.proofs.Common.{◌≡◌, ◌∙◌, ◌+◌, ℕ, ap}
use Rattle.pt_drill.specs.Drill.{next, drawn}
use Rattle.pt_drill.proofs.draws.Draws.group.Goals as goal

pub returns-clause-numbers : goal.returns-clause-numbers
returns-clause-numbers c =
    let s : ℕ = c.args.self.now.state in
    let first : c.draw-a.new.self.state ≡ next s = c.draw-a.ensures.state in
    let second : c.draw-b.new.self.state ≡ next (next s) = c.draw-b.ensures.state ∙ ap next first in
    let third : c.draw-c.new.self.state ≡ next (next (next s)) = c.draw-c.ensures.state ∙ ap next second in
    let fourth : c.draw-m.new.self.state ≡ next (next (next (next s))) = c.draw-m.ensures.state ∙ ap next third in
    let fifth : c.draw-d.new.self.state ≡ next (next (next (next (next s)))) = c.draw-d.ensures.state ∙ ap next fourth in
    let sixth : c.draw-e.new.self.state ≡ next (next (next (next (next (next s))))) = c.draw-e.ensures.state ∙ ap next fifth in
    let a = c.draw-a.ensures.drawn ∙ ap (drawn 5) first in
    let b = c.draw-b.ensures.drawn ∙ ap (drawn 5) second in
    let x = c.draw-c.ensures.drawn ∙ ap (drawn 32) third in
    let m = c.draw-m.ensures.drawn ∙ ap (drawn 6) fourth in
    let d = c.draw-d.ensures.drawn ∙ ap (drawn 7) fifth in
    let e = c.draw-e.ensures.drawn ∙ ap (drawn 32) sixth in
    λ i. record { a = 1 + a i; b = 1 + b i; c = x i; m = 2 + m i; d = d i; e = e i }
