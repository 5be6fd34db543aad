use Rattle.std.proofs.Common.{map, ap, sym, ◌∙◌}
use Rattle.std.specs.Str.{bytes_eq}
use Rattle.pt_terms.specs.Bindings.{place_in}
use Rattle.pt_terms.proofs.BoundNames.{find_passes, eq_true, inserted_names, inserted_distinct, name_of-get, place_in-push}
use Rattle.pt_terms.proofs.numbering.number_of.Goals as goal

pub returns-in-Some-clause-name : goal.returns-in-Some-clause-name
returns-in-Some-clause-name c =
    name_of-get (λ k. k.items) c.args.names.now.keys c.in-Some.number c.in-Some.field-0-1.now c.in-Some.ensures.stored
    ∙ sym (eq_true c.args.name.now c.in-Some.field-0-1.now.items (find_passes (λ k. bytes_eq c.args.name.now k.items) c.args.names.now.keys c.in-Some.field-0-1.now (sym c.in-Some.ensures.key)))

pub returns-in_err-copy-clause-newest : goal.returns-in_err-copy-clause-newest
returns-in_err-copy-clause-newest c n = ap (λ xs. place_in xs n) c.in_ok-push.ensures.items ∙ place_in-push c.args.newest.now.items n

pub returns-in_err-number-clause-newest : goal.returns-in_err-number-clause-newest
returns-in_err-number-clause-newest c n = ap (λ xs. place_in xs n) c.in_ok-push.ensures.items ∙ place_in-push c.args.newest.now.items n

pub returns-clause-name : goal.returns-clause-name
returns-clause-name c =
    let stored = c.in_ok-number.ensures.stored in
    name_of-get (λ k. k.items) c.insert_full.new.self.keys c.in_ok-number.number stored.0 stored.1
    ∙ sym (eq_true c.in_ok-copy.copy.items stored.0.items stored.2) ∙ c.in_ok-copy.ensures.items

pub returns-clause-names : goal.returns-clause-names
returns-clause-names c =
    let more = inserted_names (λ k. k.items) c.args.names.now.keys c.in_ok-copy.copy in
    (more.0, ap (map (λ k. k.items)) c.in_ok-number.ensures.keys ∙ more.1)

pub returns-clause-distinct : goal.returns-clause-distinct
returns-clause-distinct c = rw c.in_ok-number.ensures.keys (inserted_distinct (λ k. k.items) c.args.names.now.keys c.in_ok-copy.copy c.requires.distinct)

pub returns-clause-newest : goal.returns-clause-newest
returns-clause-newest c n = ap (λ xs. place_in xs n) c.in_ok-push.ensures.items ∙ place_in-push c.args.newest.now.items n
