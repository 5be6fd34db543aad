-- One more group of the script.
use Rattle.std.proofs.Common.{◌≡◌, ◌∙◌, ◌+◌, ◌++◌, ℕ, suc, List, ap, ap₂, append_assoc, codes, arith}
use Rattle.pt_drill.specs.declared.draws.Group.{Group}
use Rattle.pt_drill.specs.Drill.{definition, drill_text, group_at, groups, line, questions, state_at}

abbrev declarations : List ℕ
declarations = line (codes "(declare-const p Int)") ++ line (codes "(declare-const q Int)")

regrouped : (seed i : ℕ) → (drill_text seed i ++ definition i (group_at (state_at seed i))) ++ questions i ≡ drill_text seed (suc i)
regrouped seed i =
    let defined : List ℕ = definition i (group_at (state_at seed i)) in
    ap (λ (l : List ℕ). l ++ questions i) (append_assoc declarations (groups seed i) defined) ∙ append_assoc declarations (groups seed i ++ defined) (questions i)

pub one_more : (seed i state : ℕ) (group : Group) (before middle after : List ℕ) → before ≡ drill_text seed i → state ≡ state_at seed i → group ≡ group_at state
    → middle ≡ before ++ definition i group → after ≡ middle ++ questions i → after ≡ drill_text seed (i + 1)
one_more seed i state group before middle after written at numbers defined asked =
    let next : suc i ≡ i + 1 = omega arith in
    asked ∙ ap (λ (l : List ℕ). l ++ questions i) (defined ∙ ap₂ (λ (l : List ℕ) (g : Group). l ++ definition i g) written (numbers ∙ ap group_at at))
    ∙ regrouped seed i ∙ ap (drill_text seed) next
