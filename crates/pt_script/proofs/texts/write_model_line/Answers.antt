use Rattle.std.proofs.Common.{◌≡◌, ◌∷◌, [], ◌++◌, codes, List, ℕ, ap, ◌∙◌, rules}
use Rattle.pt_formula.specs.Truth.{valuation}
use Rattle.pt_script.specs.Texts.{symbol, sort_name, value}
use Rattle.pt_script.proofs.Joining.{more, more-two}
use Rattle.pt_script.proofs.texts.write_model_line.Goals as goal

pub returns : goal.returns
returns c =
    let name : List ℕ = symbol c.args.constant.now.name in
    let told : List ℕ = value c.args.constant.now.sort (valuation c.args.variables.now c.args.values.now c.args.constant.now.variable) in
    let front : List ℕ = codes "  (define-fun " in
    let middle : List ℕ = codes " () " in
    let kind : List ℕ = sort_name c.args.constant.now.sort in
    let blank : List ℕ = codes " " in
    let written : c.write_value.new.out.items ≡ c.push.new.self.items ++ told = search rules in
    more-two c.args.out.now.items (((((front ++ name) ++ middle) ++ kind) ++ blank) ++ told) (codes ")") (10 ∷ []) c.write_value.new.out.items c.write_line.new.out.items
    (more c.args.out.now.items ((((front ++ name) ++ middle) ++ kind) ++ blank) told c.push.new.self.items c.write_value.new.out.items
    (more c.args.out.now.items (((front ++ name) ++ middle) ++ kind) blank c.extend_from_slice-3.new.self.items c.push.new.self.items
    (more c.args.out.now.items ((front ++ name) ++ middle) kind c.extend_from_slice-2.new.self.items c.extend_from_slice-3.new.self.items
    (more c.args.out.now.items (front ++ name) middle c.write_symbol.new.out.items c.extend_from_slice-2.new.self.items
    (more c.args.out.now.items front name c.extend_from_slice.new.self.items c.write_symbol.new.out.items c.in_ok-extend_from_slice.ensures.items
    (c.in_ok-write_symbol.ensures ∙ ap (λ (n : List ℕ). c.extend_from_slice.new.self.items ++ symbol n) c.as_slice.ensures)) c.in_ok-extend_from_slice-2.ensures.items)
    (c.in_ok-extend_from_slice-3.ensures.items ∙ ap (λ (n : List ℕ). c.extend_from_slice-2.new.self.items ++ n) c.name_of_sort.ensures)) c.in_ok-push.ensures.items)
    written)
    c.in_ok-write_line.ensures
