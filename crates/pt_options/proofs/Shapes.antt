-- The first words are settings, each with a name of its own.
use Rattle.std.proofs.Common.{◌≡◌, ◌<◌, ◌≤◌, ◌+◌, ◌∙◌, ◌++◌, ℕ, zero, suc, List, [], ◌∷◌, length, map, take, inl, inr, sym, ap, subst, arith, length-take}
use Rattle.std.specs.Prelude.{slice_index_or}
use Rattle.std.specs.List.{Any, Contains}
use Rattle.std.proofs.lemmas.Bool.{cases_lt}
use Rattle.std.proofs.lemmas.List.{get_or_default, get_or-map, get_or-take, length-map}
use Rattle.pt_options.specs.Options.{names, start, AreSettings, HasName, IsSetting}
use Rattle.pt_options.proofs.Starts.{one_name}

module _ {X : Type 0} (f : X → List ℕ) where
  abbrev pub EachBefore : List X → ℕ → Type 0
  EachBefore xs i = (k : ℕ) (d : X) → k < i → IsSetting (f (slice_index_or xs k d))

  abbrev pub OnceBefore : List X → ℕ → Type 0
  OnceBefore xs i = (name : List ℕ) → Contains names name → (k j : ℕ) (d : X) → k < j → j < i
      → HasName (f (slice_index_or xs k d)) name → HasName (f (slice_index_or xs j d)) name → ⊥

  -- one of the words begins so
  abbrev pub Stands : List ℕ → List X → Type 0
  Stands front xs = Any (λ word. (value : List ℕ) × (f word ≡ front ++ value)) xs

  mapped : (P : List ℕ → Type 0) (xs : List X) (k : ℕ) (d : List ℕ) → k < length xs → ((e : X) → P (f (slice_index_or xs k e))) → P (slice_index_or (map f xs) k d)
  mapped P [] k d lt h = absurd (omega arith)
  mapped P (x ∷ xs) k d lt h = subst P (sym (get_or-map f (x ∷ xs) k x d lt)) (h x)

  mapped_two : (P : List ℕ → List ℕ → Type 0) (xs : List X) (k j : ℕ) (d : List ℕ) → k < length xs → j < length xs
      → ((e : X) → P (f (slice_index_or xs k e)) (f (slice_index_or xs j e))) → P (slice_index_or (map f xs) k d) (slice_index_or (map f xs) j d)
  mapped_two P [] k j d lt less h = absurd (omega arith)
  mapped_two P (x ∷ xs) k j d lt less h =
      subst (λ (t : List ℕ). P t (slice_index_or (map f (x ∷ xs)) j d)) (sym (get_or-map f (x ∷ xs) k x d lt))
      (subst (λ (t : List ℕ). P (f (slice_index_or (x ∷ xs) k x)) t) (sym (get_or-map f (x ∷ xs) j x d less)) (h x))

  pub all_are : (xs : List X) (i : ℕ) → length xs ≤ i → EachBefore xs i → OnceBefore xs i → AreSettings (map f xs)
  all_are xs i past each once = record {
    each = λ k d lt.
        let less : k < length xs = omega (arith, length-map xs f) in
        mapped IsSetting xs k d less (λ e. each k e (omega arith));
    once = λ name known k j d before lt.
        let less : j < length xs = omega (arith, length-map xs f) in
        mapped_two (λ one two. HasName one name → HasName two name → ⊥) xs k j d (omega arith) less (λ e. once name known k j e before (omega arith));
  }

  module _ (xs : List X) (i : ℕ) (x : X) (lt : i < length xs) (at : x ≡ slice_index_or xs i x) where
    here : (d : X) → slice_index_or xs i d ≡ x
    here d = get_or_default xs i d x lt ∙ sym at

    mapped_here : (d : List ℕ) → slice_index_or (map f xs) i d ≡ f x
    mapped_here d = get_or-map f xs i x d lt ∙ ap f (sym at)

    pub each_more : IsSetting (f x) → EachBefore xs i → EachBefore xs (i + 1)
    each_more is each k d below = elim (cases_lt k i) [
      | inl before ↦ each k d before
      | inr past ↦
          let same : i ≡ k = omega arith in
          subst (λ (j : ℕ). IsSetting (f (slice_index_or xs j d))) same (subst (λ (y : X). IsSetting (f y)) (sym (here d)) is)
    ]

    pub once_more : (own value : List ℕ) → Contains names own → f x ≡ start own ++ value → ¬ Stands (start own) (take i xs) → OnceBefore xs i → OnceBefore xs (i + 1)
    once_more own value also is none once name known k j d before below one two = elim (cases_lt j i) [
      | inl inside ↦ once name known k j d before inside one two
      | inr past ↦
          let same : j ≡ i = omega arith in
          let last : f x ≡ start name ++ two.0 = sym (ap f (here d)) ∙ ap (λ (n : ℕ). f (slice_index_or xs n d)) (sym same) ∙ two.1 in
          let named : name ≡ own = one_name name own two.0 value known also (sym last ∙ is) in
          let word : X = slice_index_or xs k d in
          let less : k < i = omega arith in
          none (
            k,
            word,
            omega (arith, length-take i xs),
            get_or-take i xs k word less ∙ get_or_default xs k word d (omega arith),
            (one.0, one.1 ∙ ap (λ (n : List ℕ). start n ++ one.0) named),
          )
    ]

    pub no_setting : ¬ IsSetting (f x) → ¬ AreSettings (map f xs)
    no_setting refused settings = refused (subst IsSetting (mapped_here (f x)) (settings.each i (f x) (omega (arith, length-map xs f))))

    pub named_twice : (own value : List ℕ) → Contains names own → f x ≡ start own ++ value → Stands (start own) (take i xs) → ¬ AreSettings (map f xs)
    named_twice own value also is some settings =
        let k : ℕ = some.0 in
        let word : X = some.1 in
        let less : k < i = omega (arith, some.2, length-take i xs) in
        let inside : k < length xs = omega arith in
        let found : slice_index_or (map f xs) k (f word) ≡ f word = get_or-map f xs k word (f word) inside ∙ ap f (sym (get_or-take i xs k word less) ∙ some.3) in
        settings.once own also k i (f word) less (omega (arith, length-map xs f)) (some.4.0, found ∙ some.4.1) (value, mapped_here (f word) ∙ is)
