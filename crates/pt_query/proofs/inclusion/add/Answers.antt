use Rattle.std.proofs.Common.{◌≡◌, false, length, refl, ap, sym, ◌∙◌}
use Rattle.std.specs.Prelude.{is_some}
use Rattle.std.specs.List.{list_any}
use Rattle.pt_query.proofs.PairKeys.{pair_eq, found-at, absent, inserted, inserted-at}
use Rattle.pt_query.proofs.inclusion.add.Goals as goal

pub returns-in-Some-clause-found : goal.returns-in-Some-clause-found
returns-in-Some-clause-found c = (_, found-at c.args.pair c.args.pairs.now.keys _ (sym c.get_index_of.ensures.index ∙ c.in-Some.is))

pub returns-then-place-bound-clause-full : goal.returns-then-place-bound-clause-full
returns-then-place-bound-clause-full c =
    let none : list_any (pair_eq c.args.pair) c.args.pairs.now.keys ≡ false = sym c.get_index_of.ensures.found ∙ ap is_some c.in_default.is in
    let count : length c.args.pairs.now.keys ≡ c.args.bound = sym c.len-place.ensures.len ∙ c.if-place-bound.true in
    (refl, count, absent c.args.pair c.args.pairs.now.keys none)

pub returns-clause-found : goal.returns-clause-found
returns-clause-found c =
    let none : list_any (pair_eq c.args.pair) c.args.pairs.now.keys ≡ false = sym c.get_index_of.ensures.found ∙ ap is_some c.in_default.is in
    (c.len-place.result, inserted-at c.args.pair c.args.pairs.now.keys c.insert.new.self.keys c.len-place.result (sym c.len-place.ensures.len) none c.in_ok-insert.ensures.keys)

pub returns-clause-adds : goal.returns-clause-adds
returns-clause-adds c =
    let none : list_any (pair_eq c.args.pair) c.args.pairs.now.keys ≡ false = sym c.get_index_of.ensures.found ∙ ap is_some c.in_default.is in
    inserted c.args.pair c.args.pairs.now.keys c.insert.new.self.keys none c.in_ok-insert.ensures.keys
