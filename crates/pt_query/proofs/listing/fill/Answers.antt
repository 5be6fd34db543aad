use Rattle.std.proofs.Common.{ℕ, ◌<◌, List, ◌∷◌, [], Option, length, ap, sym, ◌∙◌, subst, arith, rules, length-append}
use Rattle.std.specs.Prelude.{IfSome}
use Rattle.std.specs.Global.{Vec}
use Rattle.pt_query.specs.Fresh.{IsListed, IsNextWord, words_of}
use Rattle.pt_query.proofs.Listed.{words-push, listed-push}
use Rattle.pt_query.proofs.listing.fill.Goals as goal

pub loop-alloc-preserved : goal.loop-alloc-preserved
loop-alloc-preserved c =
    let a = c.args.table.now in
    let q = c.args.start in
    let n = c.args.count in
    let old = c.loop-alloc.found.items in
    let v = c.in-Some.word in
    let next = subst (λ (f : Option (Vec ℕ)). IfSome f (λ word. IsNextWord a q n (words_of c.as_slice.result.now) word.items)) c.in-Some.is c.in_ok-word.ensures.some in
    let at = subst (λ (vs : List (Vec ℕ)). IsNextWord a q n (words_of vs) v.items) c.as_slice.ensures.value next in
    let is = ap words_of c.in_ok-push-in-Some.ensures.items ∙ words-push old v in
    record {
      listed = subst (IsListed a q n) (sym is) (listed-push a q n (words_of old) c.loop-alloc.invariant.listed v.items at);
      room = (let more = ap (λ (vs : List (Vec ℕ)). length vs) c.in_ok-push-in-Some.ensures.items ∙ length-append old (v ∷ []) in let less : length old < c.args.k = search rules in omega (arith, more, less));
    }
