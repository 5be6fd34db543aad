-- A front of the output of a text is a prefix of its output.
use Rattle.std.proofs.Common.{◌≡◌, inl, inr, ℕ, ◌≤◌, Bool, true, List, [], ◌∷◌, ◌++◌, length, refl, ap, sym, subst, ◌∙◌, append_assoc, arith}
use Rattle.std.proofs.lemmas.List.{append-nil}
use Rattle.std.proofs.lemmas.Bool.{cases_lt}
use Rattle.pt_eval.specs.Laws.{RefusalsHaveACause}
use Rattle.pt_syntax.specs.Lists.{Script}
use Rattle.pt_script.specs.State.{Standing}
use Rattle.pt_main.specs.Runs.{Turn, HasRun}
use Rattle.pt_main.specs.Output.{IsOutput, IsFrontOf, IsFrontOfOutput, replies}
use Rattle.pt_main.proofs.OneRun.{one_run, run_size, ends_after, none_longer, one_output}

module _ (text : List ℕ) (bound : ℕ) where
  -- the replies of a run begin those of each longer one
  replies_begin : (xs ys : List Turn) (s t : Standing) (l m : Script) → length xs ≤ length ys → HasRun text bound xs s l → HasRun text bound ys t m → IsFrontOf (replies xs) (replies ys)
  replies_begin [] ys s t l m le run run' = (replies ys, nothing (replies ys))
    where
      nothing : (out : List ℕ) → out ≡ [] ++ out
      nothing out = refl
  replies_begin (x ∷ xs) [] s t l m le run run' = absurd (omega arith)
  replies_begin (x ∷ xs) (y ∷ ys) s t l m le run run' =
      elim (cases_lt (length xs) (length ys)) [
        | inl shorter ↦
            let (before, commands, earlier, going, next, step) = run' in
            let (rest, is) = replies_begin (x ∷ xs) ys s before l commands (omega arith) run earlier in
            (rest ++ y.reply, ap (λ (out : List ℕ). out ++ y.reply) is ∙ append_assoc (replies (x ∷ xs)) rest y.reply)
        | inr equal ↦
            let same = one_run text bound (x ∷ xs) (y ∷ ys) s t l m (omega arith) run run' in
            ([], ap replies (sym same.0) ∙ sym (append-nil (replies (x ∷ xs))))
      ]

front_of_front : (front rest more out whole last : List ℕ) → whole ≡ out ++ more → out ≡ front ++ rest → IsFrontOf front (whole ++ last)
front_of_front front rest more out whole last is split =
    (rest ++ (more ++ last), ap (λ (l : List ℕ). l ++ last) (is ∙ ap (λ (l : List ℕ). l ++ more) split) ∙ append_assoc (front ++ rest) more last ∙ append_assoc front rest (more ++ last))

pub front_is_prefix : RefusalsHaveACause → (text : List ℕ) (bound : ℕ) (front out : List ℕ) (refused : Bool) → IsFrontOfOutput text bound front → IsOutput text bound out refused → IsFrontOf front out
front_is_prefix law text bound front out refused (xs, line, inr refusal, (rest, split)) output =
    let whole : IsOutput text bound (replies xs ++ line) true = (xs, line, inr (refusal, refl), refl) in
    let same = one_output law text bound (replies xs ++ line) out true refused whole output in
    (rest, sym same.0 ∙ split)
front_is_prefix law text bound front out refused (xs, line, inl (s, left, run, none), (rest, split)) (ys, last, ends, is) =
    elim (ends_after law text bound ys last refused ends) [
      | inl (t, more, run', stops) ↦
          let shown : replies xs ≡ front ++ rest = sym (append-nil (replies xs)) ∙ ap (λ (l : List ℕ). replies xs ++ l) (sym none) ∙ split in
          elim (cases_lt (length ys) (length xs)) [
            | inl longer ↦ absurd (none_longer law text bound ys xs last refused s left longer (t, more, run', stops) run)
            | inr le ↦
                let (added, begins) = replies_begin text bound xs ys s t left more le run run' in
                subst (IsFrontOf front) (sym is) (front_of_front front rest added (replies xs) (replies ys) last begins shown)
          ]
      | inr (long, nothing, says, status) ↦ absurd (omega (arith, run_size text bound xs s left run, long))
    ]
