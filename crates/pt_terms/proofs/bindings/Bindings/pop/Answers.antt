use Rattle.std.proofs.Common.{◌≡◌, ◌<◌, ◌++◌, ◌∷◌, ℕ, All, Option, [], length, length-set, map, reverse, ap, sym, subst, ◌∙◌, arith, rules}
use Rattle.pt_terms.specs.declared.bindings.Binding.{Binding}
use Rattle.pt_terms.specs.declared.bindings.Bindings.TheInside.{Inside}
use Rattle.pt_terms.specs.Bindings.{AreLinked, AreIndexed, newest_place}
use Rattle.pt_terms.proofs.BoundNames.{popped_linked, popped_newest, popped_named}
use Rattle.pt_terms.proofs.bindings.Bindings.pop.Goals as goal

links : (s : Inside) (stack : Rattle.std.proofs.Common.List Binding) (b : Binding) → AreIndexed s → s.stack.items ≡ stack ++ b ∷ [] → AreLinked (length s.names.keys) (b ∷ reverse stack)
links s stack b i e = popped_linked stack b (length s.names.keys) (subst (λ xs. AreLinked (length s.names.keys) (reverse xs)) e i.linked)

pub invariant_of-self : goal.invariant_of-self
invariant_of-self c =
    let all = links c.self.inside c.pop.new.self.items c.in-Some.binding c.self.invariant c.in-Some.ensures.items in
    let lt : c.in-Some.binding.name < length c.self.inside.newest.items = omega (arith, c.self.invariant.count, all.0) in
    record {
      distinct = c.self.invariant.distinct;
      count = rw (length-set c.self.inside.newest.items c.in-Some.binding.name c.in-Some.binding.hidden) c.self.invariant.count;
      newest = λ n. popped_newest c.self.inside.newest.items c.pop.new.self.items c.in-Some.binding n lt all.1 (λ m. c.self.invariant.newest m ∙ ap (λ xs. newest_place m (reverse xs)) c.in-Some.ensures.items);
      linked = all.2;
      named = popped_named c.pop.new.self.items c.in-Some.binding (length c.self.inside.names.keys) (subst (λ xs. All (λ (b : Binding). b.name < length c.self.inside.names.keys) xs) c.in-Some.ensures.items c.self.invariant.named);
    }

pub invariant_of-self-in-Some-2 : goal.invariant_of-self-in-Some-2
invariant_of-self-in-Some-2 c =
    let all = links c.self.inside c.pop.new.self.items c.in-Some.binding c.self.invariant c.in-Some.ensures.items in
    let lt : c.in-Some.binding.name < length c.self.inside.newest.items = omega (arith, c.self.invariant.count, all.0) in
    record {
      distinct = c.self.invariant.distinct;
      count = rw (length-set c.self.inside.newest.items c.in-Some.binding.name c.in-Some.binding.hidden) c.self.invariant.count;
      newest = λ n. popped_newest c.self.inside.newest.items c.pop.new.self.items c.in-Some.binding n lt all.1 (λ m. c.self.invariant.newest m ∙ ap (λ xs. newest_place m (reverse xs)) c.in-Some.ensures.items);
      linked = all.2;
      named = popped_named c.pop.new.self.items c.in-Some.binding (length c.self.inside.names.keys) (subst (λ xs. All (λ (b : Binding). b.name < length c.self.inside.names.keys) xs) c.in-Some.ensures.items c.self.invariant.named);
    }

pub invariant_of-self-in-Some-3 : goal.invariant_of-self-in-Some-3
invariant_of-self-in-Some-3 c =
    let all = links c.self.inside c.pop.new.self.items c.in-Some.binding c.self.invariant c.in-Some.ensures.items in
    let lt : c.in-Some.binding.name < length c.self.inside.newest.items = omega (arith, c.self.invariant.count, all.0) in
    record {
      distinct = c.self.invariant.distinct;
      count = rw (length-set c.self.inside.newest.items c.in-Some.binding.name c.in-Some.binding.hidden) c.self.invariant.count;
      newest = λ n. popped_newest c.self.inside.newest.items c.pop.new.self.items c.in-Some.binding n lt all.1 (λ m. c.self.invariant.newest m ∙ ap (λ xs. newest_place m (reverse xs)) c.in-Some.ensures.items);
      linked = all.2;
      named = popped_named c.pop.new.self.items c.in-Some.binding (length c.self.inside.names.keys) (subst (λ xs. All (λ (b : Binding). b.name < length c.self.inside.names.keys) xs) c.in-Some.ensures.items c.self.invariant.named);
    }
