-- What is taken and written by several calls.
use Rattle.std.proofs.Common.{◌≡◌, ℕ, ◌+◌, ◌≤◌, List, [], ◌++◌, length, take, drop, refl, ap, sym, ◌∙◌, subst, append_assoc, length-append, arith}
use Rattle.std.specs.Prelude.{Option, Some, None, Result, Ok, Err, OnErr}
use Rattle.std.proofs.lemmas.List.{append-nil, take-append-drop, drop-drop}
use Rattle.std.proofs.Math.Seq.{take-add}
use Rattle.pt_io.specs.Streams.{Took, TookAtMost, Wrote, WroteFront}

pub took-nothing : (a : Option (List ℕ)) → Took a a []
took-nothing None = tt
took-nothing (Some left) = (left, refl, refl)

-- what two calls took is what they took together
pub took-then : (a b c : Option (List ℕ)) (x y : List ℕ) → Took a b x → Took b c y → Took a c (x ++ y)
took-then None b c x y first second = tt
took-then (Some left) b c x y first second =
    let more = subst (λ (o : Option (List ℕ)). Took o c y) first.2 second in
    (more.0, first.1 ∙ ap (λ (l : List ℕ). x ++ l) more.1 ∙ sym (append_assoc x y more.0), more.2)

pub wrote-nothing : (a : Option (List ℕ)) → Wrote a a []
wrote-nothing None = tt
wrote-nothing (Some all) = (all, refl, sym (append-nil all))

-- what two calls appended is what they appended together
pub wrote-then : (a b c : Option (List ℕ)) (x y : List ℕ) → Wrote a b x → Wrote b c y → Wrote a c (x ++ y)
wrote-then a b None x y first second = tt
wrote-then a b (Some all) x y first second =
    let before = subst (λ (o : Option (List ℕ)). Wrote a o x) second.1 first in
    (before.0, before.1, second.2 ∙ ap (λ (l : List ℕ). l ++ y) before.2 ∙ append_assoc before.0 x y)

-- the first i bytes were appended, and then n of the others
pub wrote-more : (a b c : Option (List ℕ)) (bytes : List ℕ) (i n : ℕ) → Wrote a b (take i bytes) → Wrote b c (take n (drop i bytes)) → Wrote a c (take (i + n) bytes)
wrote-more a b c bytes i n first second = subst (Wrote a c) (sym (take-add i n bytes)) (wrote-then a b c (take i bytes) (take n (drop i bytes)) first second)

-- the first i bytes were appended, and then nothing
pub wrote-front : (a b c : Option (List ℕ)) (bytes : List ℕ) (i : ℕ) → Wrote a b (take i bytes) → Wrote b c [] → WroteFront a c bytes
wrote-front a b c bytes i first second =
    (take i bytes, drop i bytes, sym (take-append-drop i bytes), subst (Wrote a c) (append-nil (take i bytes)) (wrote-then a b c (take i bytes) [] first second))

-- the next n of the bytes from a place on were taken
pub took-next : (bytes got : List ℕ) (at n : ℕ) → got ≡ take n (drop at bytes) → Took (Some (drop at bytes)) (Some (drop (at + n) bytes)) got
took-next bytes got at n is =
    (drop (at + n) bytes, sym (take-append-drop n (drop at bytes)) ∙ ap (λ (l : List ℕ). l ++ drop n (drop at bytes)) (sym is) ∙ ap (λ (l : List ℕ). got ++ l) (drop-drop n at bytes), refl)

-- a fact holds at a refusal, since it holds
pub on_refusal : {T E : Type 0} (r : Result T E) (P : Type 0) → P → OnErr r P
on_refusal (Ok x) P h = tt
on_refusal (Err e) P h = h

-- some bytes were taken, and then at most n others
pub took-at-most-then : (a b c : Option (List ℕ)) (x : List ℕ) (n m : ℕ) → Took a b x → TookAtMost b c n → length x + n ≤ m → TookAtMost a c m
took-at-most-then a b c x n m first second fits =
    (x ++ second.0, omega (arith, length-append x second.0), took-then a b c x second.0 first second.2)
