use Rattle.std.proofs.Common.{◌≡◌, ℕ, ◌+◌, ◌-◌, ◌<◌, ◌^◌, List, [], ◌∷◌, Option, Some, length, reverse, ap, sym, ◌∙◌, subst, arith, rules}
use Rattle.std.specs.Prelude.{IfSome, IfNone}
use Rattle.std.specs.Global.{Vec}
use Rattle.std.proofs.lemmas.List.{reverse-append}
use Rattle.pt_sets.specs.Automata.{next_of}
use Rattle.pt_query.specs.Fresh.{IsFreshFrom, IsAcceptedFrom, IsLeastFrom, HasNoneFrom, FirstAtLeast}
use Rattle.pt_query.proofs.FreshWords.{fresh-accepted, first-zero, more-step, more-least}
use Rattle.pt_query.proofs.ordered.+least_from.Goals.{then-may_end+in_ok-word+in_default, else-may_end}
use Rattle.pt_query.proofs.ordered.+least_from.Goals as goal

pub returns-in-Some-clause-some : goal.returns-in-Some-clause-some
returns-in-Some-clause-some t c =
    let a = c.args.table.now in
    let l = c.loop-letter.letter in
    let n = c.args.count - 1 in
    let some : 0 < n = omega (arith, c.requires.some, c.if-count-eq1.false) in
    let count : n + 1 ≡ c.args.count = omega (arith, c.requires.some) in
    let is_l : l < 2 ^ a.tracks = search rules in
    let w = reverse c.in-Some.word.items in
    let at : IsLeastFrom a (Some l) c.next-next.result n 0 w = subst (λ (f : Option (Vec ℕ)). IfSome f (λ word. IsLeastFrom a (Some l) c.next-next.result n 0 (reverse word.items))) c.in-Some.is c.in_ok-word.ensures.some in
    let is : IsLeastFrom a (Some l) (next_of a c.args.state l) n 0 w = subst (λ (r : ℕ). IsLeastFrom a (Some l) r n 0 w) c.next-next.ensures at in
    let more : reverse c.push.new.self.items ≡ l ∷ w = ap (λ (xs : List ℕ). reverse xs) c.in_ok-push.ensures.items ∙ reverse-append c.in-Some.word.items (l ∷ []) in
    subst (IsLeastFrom a c.args.before c.args.state c.args.count c.args.low) (sym more)
    (subst (λ (k : ℕ). IsLeastFrom a c.args.before c.args.state k c.args.low (l ∷ w)) count
    (more-least a c.args.before c.args.state n c.args.low l w some c.loop-letter.auto.letter is_l is (subst (λ (k : ℕ). (y : List ℕ) → IsFreshFrom a c.args.before c.args.state y → length y ≡ k → FirstAtLeast c.args.low y → FirstAtLeast l y) (sym count) c.loop-letter.invariant)))

pub loop-letter-preserved : goal.loop-letter-preserved
loop-letter-preserved t c y fresh len first =
    let a = c.args.table.now in
    let q = c.args.state in
    let l = c.loop-letter.letter in
    let n = c.args.count - 1 in
    let some : 0 < n = omega (arith, c.requires.some, c.if-count-eq1.false) in
    let count : n + 1 ≡ c.args.count = omega (arith, c.requires.some) in
    let earlier = subst (λ (k : ℕ). (y : List ℕ) → IsFreshFrom a c.args.before q y → length y ≡ k → FirstAtLeast c.args.low y → FirstAtLeast l y) (sym count) c.loop-letter.invariant in
    let none : (u : List ℕ) → IsFreshFrom a (Some l) (next_of a q l) u → length u ≡ n → ⊥ =
    elim c.if-may_end.branch [
      | then-may_end+in_ok-word+in_default w ↦
          let has_none : HasNoneFrom a (Some l) c.next-next.result n 0 = subst (λ (f : Option (Vec ℕ)). IfNone f (HasNoneFrom a (Some l) c.next-next.result n 0)) w.in_default.is w.in_ok-word.ensures.none in
          λ u h size. has_none u (subst (λ (r : ℕ). IsFreshFrom a (Some l) r u) (sym c.next-next.ensures) h) size (first-zero a (Some l) (next_of a q l) u h)
      | else-may_end w ↦
          λ u h size.
          let yes = c.may_end.ensures u (subst (λ (r : ℕ). IsAcceptedFrom a r u) (sym c.next-next.ensures) (fresh-accepted a (Some l) (next_of a q l) u h)) size in
          let no = w.if-may_end.false in
          cc
    ] in
    more-step a c.args.before q n c.args.low l some earlier none y fresh (len ∙ sym count) first
