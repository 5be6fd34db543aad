use Rattle.std.proofs.Common.{◌≡◌, ℕ, List, [], ◌∷◌, ◌++◌, Option, Some, length, set, ap, sym, ◌∙◌, subst}
use Rattle.pt_sets.specs.Automata.{Automaton}
use Rattle.pt_query.specs.Walks.{IsWalk}
use Rattle.pt_query.proofs.WalkSteps.{walk-begins}
use Rattle.pt_query.proofs.walking.first_walk.Goals as goal

-- the same search over equal lists
same-walk : (a : Automaton) (start i l : ℕ) (o o' p p' m m' : List ℕ) (q q' : List (Option ℕ)) → o' ≡ o → p' ≡ p → m' ≡ m → q' ≡ q → IsWalk a start o p m q i l → IsWalk a start o' p' m' q' i l
same-walk a start i l o o' p p' m m' q q' is_o is_p is_m is_q w =
    subst (λ (x : List ℕ). IsWalk a start x p' m' q' i l) (sym is_o)
    (subst (λ (x : List ℕ). IsWalk a start o x m' q' i l) (sym is_p)
    (subst (λ (x : List ℕ). IsWalk a start o p x q' i l) (sym is_m) (subst (λ (x : List (Option ℕ)). IsWalk a start o p m x i l) (sym is_q) w)))

pub returns : goal.returns
returns c =
    let a = c.args.table.now in
    let s = c.args.start in
    let put : (x : ℕ) (xs : List ℕ) → xs ≡ [] → xs ++ x ∷ [] ≡ x ∷ [] = λ x xs is. ap (λ (ys : List ℕ). ys ++ x ∷ []) is in
    let none = c.in_ok-no_places.field-0.items in
    same-walk a s 0 0 (s ∷ []) c.push_state.new.walk.states.items (0 ∷ []) c.push_state.new.walk.parents.items (0 ∷ []) c.push_state.new.walk.letters.items (set none s (Some 0)) c.push_state.new.walk.places.items
    (c.in_ok-push_state.ensures.states ∙ put s c.new.result.items c.new.ensures.items)
    (c.in_ok-push_state.ensures.parents ∙ put 0 c.new-2.result.items c.new-2.ensures.items)
    (c.in_ok-push_state.ensures.letters ∙ put 0 c.new-3.result.items c.new-3.ensures.items)
    (c.in_ok-push_state.ensures.places ∙ ap (λ (xs : List ℕ). set none s (Some (length xs))) c.new.ensures.items)
    (walk-begins a s c.requires none (c.in_ok-no_places.ensures.count ∙ c.states.ensures.states) c.in_ok-no_places.ensures.none)
