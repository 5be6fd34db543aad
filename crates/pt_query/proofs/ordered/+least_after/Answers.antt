use Rattle.std.proofs.Common.{◌≡◌, ℕ, ◌+◌, ◌-◌, ◌<◌, List, [], ◌∷◌, Option, Some, length, reverse, get_or, take, drop, sym, subst}
use Rattle.std.specs.Prelude.{IfNone}
use Rattle.std.specs.Global.{Vec}
use Rattle.pt_sets.specs.Automata.{Automaton, next_of}
use Rattle.pt_sets.specs.Shortlex.{IsLexBefore}
use Rattle.pt_query.specs.Fresh.{IsFreshFrom, IsLeastFrom, HasNoneFrom, IsLeastAfter, HasNoneAfter}
use Rattle.pt_query.proofs.Causes.{some-moved, none-moved}
use Rattle.pt_query.proofs.FreshWords.{split-head, split-one, after-least, after-none}
use Rattle.pt_query.proofs.ordered.+least_after.Goals.{then-bound-gt1+in_ok-word+in_default, else-bound-gt1}
use Rattle.pt_query.proofs.ordered.+least_after.Goals as goal

-- no word begins with the letter and goes on after the rest of the bound
abbrev NoneBehind : Automaton → ℕ → ℕ → List ℕ → Type 0
NoneBehind a q l rest = (u : List ℕ) → (0 < length u) → IsFreshFrom a (Some l) (next_of a q l) u → length u ≡ length rest → IsLexBefore rest u → ⊥

pub returns-clause-some : goal.returns-clause-some
returns-clause-some t c =
    let a = c.args.table.now in
    let q = c.args.state in
    let bound = c.args.bound.now in
    let l = get_or bound 0 0 in
    let with_rest : (rest : List ℕ) → bound ≡ l ∷ rest → NoneBehind a q l rest → (word : Vec ℕ) → IsLeastFrom a c.args.before q (length bound) (l + 1) (reverse word.items) → IsLeastAfter a c.args.before q bound (reverse word.items) =
    λ rest is none word least. subst (λ (b : List ℕ). IsLeastAfter a c.args.before q b (reverse word.items)) (sym is) (after-least a c.args.before q l rest (reverse word.items) none (subst (λ (b : List ℕ). IsLeastFrom a c.args.before q (length b) (l + 1) (reverse word.items)) is least)) in
    some-moved (λ (word : Vec ℕ). IsLeastFrom a c.args.before q (length bound) (l + 1) (reverse word.items)) (λ (word : Vec ℕ). IsLeastAfter a c.args.before q bound (reverse word.items)) c.least_from.result
    (elim c.if-bound-gt1.branch [
      | then-bound-gt1+in_ok-word+in_default w ↦
          let rest = take (length bound - 1) (drop 1 bound) in
          let has_none : HasNoneAfter a (Some l) w.next-next.result rest = subst (λ (f : Option (Vec ℕ)). IfNone f (HasNoneAfter a (Some l) w.next-next.result rest)) w.in_default.is w.in_ok-word.ensures.none in
          with_rest rest (split-head bound c.requires.some) (λ u some h len after. has_none u (subst (λ (r : ℕ). IsFreshFrom a (Some l) r u) (sym w.next-next.ensures) h) len after)
      | else-bound-gt1 w ↦ with_rest [] (split-one bound c.requires.some w.if-bound-gt1.false) (λ u some h len after. after)
    ]) c.least_from.ensures.some

pub returns-clause-none : goal.returns-clause-none
returns-clause-none t c =
    let a = c.args.table.now in
    let q = c.args.state in
    let bound = c.args.bound.now in
    let l = get_or bound 0 0 in
    let with_rest : (rest : List ℕ) → bound ≡ l ∷ rest → NoneBehind a q l rest → HasNoneFrom a c.args.before q (length bound) (l + 1) → HasNoneAfter a c.args.before q bound =
    λ rest is none least. subst (λ (b : List ℕ). HasNoneAfter a c.args.before q b) (sym is) (after-none a c.args.before q l rest none (subst (λ (b : List ℕ). HasNoneFrom a c.args.before q (length b) (l + 1)) is least)) in
    none-moved (HasNoneFrom a c.args.before q (length bound) (l + 1)) (HasNoneAfter a c.args.before q bound) c.least_from.result
    (elim c.if-bound-gt1.branch [
      | then-bound-gt1+in_ok-word+in_default w ↦
          let rest = take (length bound - 1) (drop 1 bound) in
          let has_none : HasNoneAfter a (Some l) w.next-next.result rest = subst (λ (f : Option (Vec ℕ)). IfNone f (HasNoneAfter a (Some l) w.next-next.result rest)) w.in_default.is w.in_ok-word.ensures.none in
          with_rest rest (split-head bound c.requires.some) (λ u some h len after. has_none u (subst (λ (r : ℕ). IsFreshFrom a (Some l) r u) (sym w.next-next.ensures) h) len after)
      | else-bound-gt1 w ↦ with_rest [] (split-one bound c.requires.some w.if-bound-gt1.false) (λ u some h len after. after)
    ]) c.least_from.ensures.none
