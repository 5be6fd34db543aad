use Rattle.std.proofs.Common.{◌≡◌, ℕ, zero, suc, ◌-◌, List, [], ◌++◌, length, take, replicate, get_or, Option, None, refl, ap, ◌∙◌, arith}
use Rattle.std.specs.Prelude.{vec_len}
use Rattle.std.proofs.lemmas.List.{length-replicate}
use Rattle.pt_query.proofs.walking.no_places.Goals as goal

get_or-none : (p i : ℕ) → get_or {A = Option ℕ} (replicate p None) i None ≡ None
get_or-none zero i = refl
get_or-none (suc p) zero = refl
get_or-none (suc p) (suc i) = get_or-none p i

take-none : (n m : ℕ) (xs : List (Option ℕ)) → xs ≡ [] → take n xs ++ replicate m None ≡ replicate m None
take-none n m xs is = ap (λ (ys : List (Option ℕ)). take n ys ++ replicate m None) is ∙ of-empty n
  where
    of-empty : (n : ℕ) → take {A = Option ℕ} n [] ++ replicate m None ≡ replicate m None
    of-empty zero = refl
    of-empty (suc n) = refl

pub returns-clause-count : goal.returns-clause-count
returns-clause-count c =
    let n = c.args.count in
    let size = c.new-places.ensures.len in
    let is = c.in_ok-resize.ensures.items ∙ take-none n (n - vec_len c.new-places.result) c.new-places.result.items c.new-places.ensures.items in
    let all : n - vec_len c.new-places.result ≡ n = omega (arith, size) in
    ap length is ∙ length-replicate (n - vec_len c.new-places.result) None ∙ all

pub returns-clause-none : goal.returns-clause-none
returns-clause-none c q =
    let n = c.args.count in
    let is = c.in_ok-resize.ensures.items ∙ take-none n (n - vec_len c.new-places.result) c.new-places.result.items c.new-places.ensures.items in
    ap (λ (xs : List (Option ℕ)). get_or xs q None) is ∙ get_or-none (n - vec_len c.new-places.result) q
