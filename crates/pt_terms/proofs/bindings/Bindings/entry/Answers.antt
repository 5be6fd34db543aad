use Rattle.std.proofs.Common.{◌≡◌, ◌<◌, ap, sym, length, reverse, slice_get, ◌∙◌, arith}
use Rattle.std.proofs.lemmas.List.{length-map, length-reverse}
use Rattle.pt_terms.specs.Bindings.{names_of, shown_binding, shown}
use Rattle.pt_terms.proofs.BoundNames.{entry_at, name_of-get, slice_get-at}
use Rattle.pt_terms.proofs.bindings.Bindings.entry.Goals as goal

pub returns : goal.returns
returns c =
    let long : length (shown c.self.inside) ≡ length c.args.self.now = ap length c.self.view_is in
    let same = length-map (reverse c.self.inside.stack.items) (shown_binding (names_of c.self.inside)) in
    let back = length-reverse c.self.inside.stack.items in
    let lt : c.args.place < length c.self.inside.stack.items = omega arith in
    ap (λ bs. slice_get (reverse bs) c.args.place) (sym c.self.view_is)
    ∙ entry_at (names_of c.self.inside) c.self.inside.stack.items c.args.place c.index-binding.result.now c.as_slice.result.now
    (slice_get-at c.self.inside.stack.items c.args.place c.index-binding.result.now lt c.index-binding.ensures)
    (name_of-get (λ k. k.items) c.self.inside.names.keys c.index-binding.result.now.name c.index.result.now c.index.ensures ∙ sym c.as_slice.ensures.value)
