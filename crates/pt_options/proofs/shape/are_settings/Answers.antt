use Rattle.std.proofs.Common.{◌≡◌, ◌++◌, ◌∙◌, ℕ, List, ap, subst, sym, refl, true≢false, arith, take}
use Rattle.std.specs.Prelude.{string_bytes}
use Rattle.pt_options.specs.Options.{IsSetting, start}
use Rattle.pt_options.proofs.Shapes.{Stands, all_are, each_more, once_more, no_setting, named_twice}
use Rattle.pt_options.proofs.shape.are_settings.Goals as goal

pub returns-in_default : goal.returns-in_default
returns-in_default c =
    let known = c.in-Some.ensures in
    let is : string_bytes c.index-words-i.result ≡ start known.0 ++ known.1 = sym c.as_str.ensures.value ∙ known.5 ∙ ap (λ (s : List ℕ). s ++ known.1) known.3 in
    let stands : Stands string_bytes (start known.0) (take c.loop-i.i c.args.words.now) =
    subst (λ (s : List ℕ). Stands string_bytes s (take c.loop-i.i c.args.words.now)) known.3 (c.stands_in.ensures.0 c.if-not-stands_in.false) in (
      λ same. absurd (true≢false (sym same)),
      λ settings. absurd (named_twice string_bytes c.args.words.now c.loop-i.i c.index-words-i.result (omega arith) c.index-words-i.is known.0 known.1 known.2 is stands settings),
    )

pub returns-in_default-2 : goal.returns-in_default-2
returns-in_default-2 c =
    let none = rw c.in_default.is at c.start_of.ensures in (
      λ same. absurd (true≢false (sym same)),
      λ settings. absurd (no_setting string_bytes c.args.words.now c.loop-i.i c.index-words-i.result (omega arith) c.index-words-i.is (λ is. none (subst IsSetting (sym c.as_str.ensures.value) is)) settings),
    )

pub loop-i-preserved : goal.loop-i-preserved
loop-i-preserved c =
    let known = c.in-Some.ensures in
    let is : string_bytes c.index-words-i.result ≡ start known.0 ++ known.1 = sym c.as_str.ensures.value ∙ known.5 ∙ ap (λ (s : List ℕ). s ++ known.1) known.3 in
    let first : Stands string_bytes (start known.0) (take c.loop-i.i c.args.words.now) → ⊥ =
    λ stands. true≢false (sym (c.stands_in.ensures.1 (subst (λ (s : List ℕ). Stands string_bytes s (take c.loop-i.i c.args.words.now)) (sym known.3) stands)) ∙ c.if-not-stands_in.true) in
    record {
      each = each_more string_bytes c.args.words.now c.loop-i.i c.index-words-i.result (omega arith) c.index-words-i.is (known.0, known.1, known.2, known.4, is) c.loop-i.invariant.each;
      once = once_more string_bytes c.args.words.now c.loop-i.i c.index-words-i.result (omega arith) c.index-words-i.is known.0 known.1 known.2 is first c.loop-i.invariant.once;
    }

pub returns : goal.returns
returns c = (
  λ same. all_are string_bytes c.args.words.now c.loop-i.i (omega arith) c.loop-i.invariant.each c.loop-i.invariant.once,
  λ settings. refl,
)
