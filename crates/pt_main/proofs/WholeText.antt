-- A source that was read to its end, or to one byte past the limit.
use Rattle.std.proofs.Common.{◌≡◌, ℕ, ◌≤◌, List, [], ◌++◌, length, drop, ap, sym, ◌∙◌, subst}
use Rattle.std.specs.Prelude.{Option, Some, None, IfSome, Result, Ok, Err, OnOk}
use Rattle.std.proofs.lemmas.List.{drop_all}
use Rattle.std.proofs.Math.Seq.{drop-append_seam}
use Rattle.pt_io.specs.Streams.{TookCount}

pub read_whole : (old new : Option (List ℕ)) (all : List ℕ) (n : ℕ) → IfSome old (λ bytes. (all ≡ bytes) × (new ≡ Some [])) → length all ≤ n → IfSome old (λ text. new ≡ Some (drop n text))
read_whole None new all n h fits = tt
read_whole (Some text) new all n h fits =
    let short : length text ≤ n = subst (λ (l : List ℕ). length l ≤ n) h.0 fits in
    h.1 ∙ ap Some (sym (drop_all n text short))

pub read_past : (old new : Option (List ℕ)) (n : ℕ) → TookCount old new n → IfSome old (λ text. new ≡ Some (drop n text))
read_past None new n h = tt
read_past (Some text) new n h =
    let bytes = h.0 in
    let rest = h.2.0 in
    let behind : drop n text ≡ rest = ap (λ (l : List ℕ). drop n l) h.2.1 ∙ ap (λ (k : ℕ). drop k (bytes ++ rest)) (sym h.1) ∙ drop-append_seam bytes rest in
    h.2.2 ∙ ap Some (sym behind)
