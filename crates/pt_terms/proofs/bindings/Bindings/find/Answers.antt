use Rattle.std.proofs.Common.{◌≡◌, ◌<◌, ◌≤◌, ℕ, ◌==◌, Some, None, Option, [], length, map, reverse, slice_get, option_map, is_some, false, ap, sym, subst, ◌∙◌, arith, rules}
use Rattle.std.proofs.lemmas.List.{length-map, length-reverse, reverse-reverse}
use Rattle.std.specs.Str.{bytes_eq}
use Rattle.pt_terms.specs.declared.bindings.Bindings.TheInside.{Inside}
use Rattle.pt_grammar.specs.Words.{Name}
use Rattle.pt_terms.specs.Bindings.{name_at, names_of, newest_place, AreLinked, AreIndexed}
use Rattle.pt_terms.specs.Names.{find_bound}
use Rattle.pt_terms.proofs.BoundNames.{key_name, within_keys, same_number, no_number, place_in-get, newest_within, find_none, find_unbound, find_newest, slice_get-at, any_keys}
use Rattle.pt_terms.proofs.bindings.Bindings.find.Goals as goal

linked : (s : Inside) → AreIndexed s → AreLinked (length (names_of s)) (reverse s.stack.items)
linked s i = rw (length-map s.names.keys (λ k. k.items)) i.linked

same : (s : Inside) (n : ℕ) (name : Name) → AreIndexed s → n < length s.names.keys → name_at (names_of s) n ≡ name → (j : ℕ) → j < length (names_of s) → bytes_eq (name_at (names_of s) j) name ≡ (j == n)
same s n name i lt named = same_number (names_of s) n name i.distinct (rw (length-map s.names.keys (λ k. k.items)) lt) named

place : (s : Inside) (n : ℕ) (d p : Option ℕ) → AreIndexed s → n < length s.names.keys → d ≡ Rattle.std.proofs.Common.get_or s.newest.items n d → d ≡ p → newest_place n (reverse s.stack.items) ≡ p
place s n d p i lt read is = sym (i.newest n) ∙ place_in-get s.newest.items n d (omega (arith, i.count)) ∙ sym read ∙ is

pub index-requires-in-Some-index : goal.index-requires-in-Some-index
index-requires-in-Some-index c =
    let lt = within_keys c.self.inside.names.keys c.in-Some.number c.in-Some.field-0-1.now c.in-Some.ensures.stored in
    let at = place c.self.inside c.in-Some.number c.index.result.now (Some c.in-Some-index.place) c.self.invariant lt c.index.ensures c.in-Some-index.is in
    let below = newest_within c.in-Some.number (reverse c.self.inside.stack.items) c.in-Some-index.place at in
    let long = length-reverse c.self.inside.stack.items in
    omega (arith, c.self.inside.stack.ok)

pub returns-in-Some-index : goal.returns-in-Some-index
returns-in-Some-index c =
    let lt = within_keys c.self.inside.names.keys c.in-Some.number c.in-Some.field-0-1.now c.in-Some.ensures.stored in
    let named = key_name (λ k. k.items) c.self.inside.names.keys c.in-Some.number c.in-Some.field-0-1.now c.args.name.now c.in-Some.ensures.stored c.in-Some.ensures.key in
    let at = place c.self.inside c.in-Some.number c.index.result.now (Some c.in-Some-index.place) c.self.invariant lt c.index.ensures c.in-Some-index.is in
    let below = newest_within c.in-Some.number (reverse c.self.inside.stack.items) c.in-Some-index.place at in
    let long = length-reverse c.self.inside.stack.items in
    let got = slice_get-at c.self.inside.stack.items c.in-Some-index.place c.index-in-Some-index.result.now (omega arith) c.index-in-Some-index.ensures in
    let found = find_newest (names_of c.self.inside) c.in-Some.number c.args.name.now (reverse c.self.inside.stack.items) c.in-Some-index.place (linked c.self.inside c.self.invariant) (same c.self.inside c.in-Some.number c.args.name.now c.self.invariant lt named) at in
    sym (ap (λ bs. find_bound bs c.args.name.now) (sym c.self.view_is) ∙ found
    ∙ ap (λ xs. option_map (λ b. b.stands_for) (slice_get xs c.in-Some-index.place)) (reverse-reverse c.self.inside.stack.items)
    ∙ ap (option_map (λ b. b.stands_for)) got)

pub returns-in-None-index : goal.returns-in-None-index
returns-in-None-index c =
    let lt = within_keys c.self.inside.names.keys c.in-Some.number c.in-Some.field-0-1.now c.in-Some.ensures.stored in
    let named = key_name (λ k. k.items) c.self.inside.names.keys c.in-Some.number c.in-Some.field-0-1.now c.args.name.now c.in-Some.ensures.stored c.in-Some.ensures.key in
    let at = place c.self.inside c.in-Some.number c.index.result.now None c.self.invariant lt c.index.ensures c.in-None-index.is in
    let found = find_unbound (names_of c.self.inside) c.in-Some.number c.args.name.now (reverse c.self.inside.stack.items) (linked c.self.inside c.self.invariant) (same c.self.inside c.in-Some.number c.args.name.now c.self.invariant lt named) at in
    sym (ap (λ bs. find_bound bs c.args.name.now) (sym c.self.view_is) ∙ found)

pub returns-in-None : goal.returns-in-None
returns-in-None c =
    let none = any_keys (λ k. k.items) c.self.inside.names.keys c.args.name.now (sym c.in-None.ensures.found) in
    let found = find_none (names_of c.self.inside) c.args.name.now (reverse c.self.inside.stack.items) (linked c.self.inside c.self.invariant) (no_number (names_of c.self.inside) c.args.name.now none) in
    sym (ap (λ bs. find_bound bs c.args.name.now) (sym c.self.view_is) ∙ found)
