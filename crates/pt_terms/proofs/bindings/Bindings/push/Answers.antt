use Rattle.std.proofs.Common.{◌≡◌, ◌<◌, All, ◌∷◌, Some, [], length, length-set, map, reverse, ap, sym, subst, ◌∙◌, arith}
use Rattle.std.proofs.lemmas.List.{reverse-append, length-map}
use Rattle.pt_terms.specs.declared.bindings.Binding.{Binding}
use Rattle.pt_terms.specs.Bindings.{newest_place, shown_binding, names_of, AreLinked}
use Rattle.pt_terms.proofs.BoundNames.{place_in-get, linked_more, keys_more, pushed_newest, pushed_linked, shown_more, pushed_named, named_more}
use Rattle.pt_terms.proofs.bindings.Bindings.push.Goals as goal

pub invariant_of-self : goal.invariant_of-self
invariant_of-self c =
    let le = keys_more (λ k. k.items) c.number_of.new.names.keys c.self.inside.names.keys c.in_err-number.ensures.names.0 c.in_err-number.ensures.names.1 in
    record {
      distinct = c.in_err-number.ensures.distinct;
      count = c.in_err-number.ensures.count;
      newest = λ n. c.in_err-number.ensures.newest n ∙ c.self.invariant.newest n;
      linked = linked_more _ _ _ le c.self.invariant.linked;
      named = named_more c.self.inside.stack.items _ _ le c.self.invariant.named;
    }

pub invariant_of-self-in_err-push : goal.invariant_of-self-in_err-push
invariant_of-self-in_err-push c =
    let le = keys_more (λ k. k.items) c.number_of.new.names.keys c.self.inside.names.keys c.in_ok-number.ensures.names.0 c.in_ok-number.ensures.names.1 in
    record {
      distinct = c.in_ok-number.ensures.distinct;
      count = c.in_ok-number.ensures.count;
      newest = λ n. c.in_ok-number.ensures.newest n ∙ c.self.invariant.newest n ∙ ap (λ xs. newest_place n (reverse xs)) (sym c.in_err-push.ensures.items);
      linked = subst (λ xs. AreLinked (length c.number_of.new.names.keys) (reverse xs)) (sym c.in_err-push.ensures.items) (linked_more _ _ _ le c.self.invariant.linked);
      named = subst (λ xs. All (λ (b : Binding). b.name < length c.number_of.new.names.keys) xs) (sym c.in_err-push.ensures.items) (named_more c.self.inside.stack.items _ _ le c.self.invariant.named);
    }

abbrev binding : (c : goal.After-self-1) → Binding
binding c = record { name = c.in_ok-number.number; stands_for = c.args.stands_for; hidden = c.index-hidden.result.now }

pub invariant_of-self-2 : goal.invariant_of-self-2
invariant_of-self-2 c =
    let le = keys_more (λ k. k.items) c.number_of.new.names.keys c.self.inside.names.keys c.in_ok-number.ensures.names.0 c.in_ok-number.ensures.names.1 in
    let lt : c.in_ok-number.number < length c.number_of.new.newest.items = omega (arith, c.in_ok-number.ensures.count, c.in_ok-number.ensures.range) in
    let is : c.len-place.result ≡ length c.self.inside.stack.items = omega (arith, c.self.inside.stack.ok) in
    let hidden = c.index-hidden.ensures ∙ sym (place_in-get c.number_of.new.newest.items c.in_ok-number.number c.index-hidden.result.now lt) ∙ c.in_ok-number.ensures.newest c.in_ok-number.number ∙ c.self.invariant.newest c.in_ok-number.number in
    record {
      distinct = c.in_ok-number.ensures.distinct;
      count = rw (length-set c.number_of.new.newest.items c.in_ok-number.number (Some c.len-place.result)) c.in_ok-number.ensures.count;
      newest = λ n. pushed_newest c.number_of.new.newest.items c.self.inside.stack.items (binding c) c.len-place.result n lt is (λ m. c.in_ok-number.ensures.newest m ∙ c.self.invariant.newest m) ∙ ap (λ xs. newest_place n (reverse xs)) (sym c.in_ok-push.ensures.items);
      linked = subst (λ xs. AreLinked (length c.number_of.new.names.keys) (reverse xs)) (sym c.in_ok-push.ensures.items) (pushed_linked c.self.inside.stack.items (binding c) _ _ c.in_ok-number.ensures.range hidden le c.self.invariant.linked);
      named = subst (λ xs. All (λ (b : Binding). b.name < length c.number_of.new.names.keys) xs) (sym c.in_ok-push.ensures.items) (pushed_named c.self.inside.stack.items (binding c) _ _ le c.in_ok-number.ensures.range c.self.invariant.named);
    }

pub returns : goal.returns
returns c =
    let names = map (λ k. k.items) c.number_of.new.names.keys in
    ap (λ xs. map (shown_binding (map (λ k. k.items) c.number_of.new.names.keys)) (reverse xs)) c.in_ok-push.ensures.items
    ∙ ap (map (shown_binding (map (λ k. k.items) c.number_of.new.names.keys))) (reverse-append c.self.inside.stack.items (binding c ∷ []))
    ∙ ap (λ n. (n, c.args.stands_for) ∷ map (shown_binding (map (λ k. k.items) c.number_of.new.names.keys)) (reverse c.self.inside.stack.items)) c.in_ok-number.ensures.name
    ∙ ap (λ bs. (c.args.name.now, c.args.stands_for) ∷ bs)
    (ap (λ ns. map (shown_binding ns) (reverse c.self.inside.stack.items)) c.in_ok-number.ensures.names.1
    ∙ shown_more (names_of c.self.inside) c.in_ok-number.ensures.names.0 (reverse c.self.inside.stack.items) (rw (length-map c.self.inside.names.keys (λ k. k.items)) c.self.invariant.linked)
    ∙ c.self.view_is)
