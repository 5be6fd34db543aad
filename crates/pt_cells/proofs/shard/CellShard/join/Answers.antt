use Rattle.std.proofs.Common.{◌≡◌, ◌∙◌, ap, sym, subst, arith, length, List, ℕ, Option, Some, slice_get}
use Rattle.pt_shards.specs.Shards.{Agree, JoinsLists}
use Rattle.pt_cells.specs.Places.{name_from}
use Rattle.pt_cells.proofs.Agreeing.{JoinsLists-first, JoinsLists-second}
use Rattle.pt_cells.proofs.shard.CellShard.join.Goals as goal

pub compare_all-requires : goal.compare_all-requires
compare_all-requires c = λ p m n h k.
    let one : name_from 1024 c.pass.inside.notes p ≡ Some m =
    subst (λ (notes : List (ℕ × Option (List ℕ))). name_from 1024 notes p ≡ Some m) (sym (ap (λ s. s.notes) c.pass.view_is))
    (c.requires.first.named p m (ap (λ xs. slice_get xs p) (sym (ap (λ s. s.cells) c.pass.view_is)) ∙ h)) in
    let other : name_from 1024 c.other.inside.notes p ≡ Some n =
    subst (λ (notes : List (ℕ × Option (List ℕ))). name_from 1024 notes p ≡ Some n) (sym (ap (λ s. s.notes) c.other.view_is))
    (c.requires.second.named p n (ap (λ xs. slice_get xs p) (sym (ap (λ s. s.cells) c.other.view_is)) ∙ k)) in
    c.compare.ensures.agree p m n one other

pub returns-then-len-clause-joins : goal.returns-then-len-clause-joins
returns-then-len-clause-joins c =
    let first : List (List ℕ) = c.args.pass.now.codes in
    let second : List (List ℕ) = c.args.other.codes in
    let agree : Agree first second = rw (c.pass.invariant ∙ ap (λ s. s.codes) c.pass.view_is, c.other.invariant ∙ ap (λ s. s.codes) c.other.view_is) at c.compare_all.ensures.agree in
    let swapped : c.swap.new.x.codes ≡ second = ap (λ s. s.codes) c.swap.ensures.x_after ∙ ap (λ s. s.codes) c.other.view_is in
    subst (λ (codes : List (List ℕ)). JoinsLists first second codes) (sym swapped)
    (JoinsLists-second first second agree (omega (arith, ap (λ s. length s.codes) c.pass.view_is, ap (λ s. length s.codes) c.other.view_is)))

pub returns-clause-joins : goal.returns-clause-joins
returns-clause-joins c =
    let first : List (List ℕ) = c.args.pass.now.codes in
    let second : List (List ℕ) = c.args.other.codes in
    let agree : Agree first second = rw (c.pass.invariant ∙ ap (λ s. s.codes) c.pass.view_is, c.other.invariant ∙ ap (λ s. s.codes) c.other.view_is) at c.compare_all.ensures.agree in
    subst (λ (codes : List (List ℕ)). JoinsLists first second codes) (sym (ap (λ s. s.codes) c.pass.view_is))
    (JoinsLists-first first second agree (omega (arith, ap (λ s. length s.codes) c.pass.view_is, ap (λ s. length s.codes) c.other.view_is)))
