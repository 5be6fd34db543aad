-- What a look-up and an insert do to the entries.
use Rattle.std.proofs.Common.{◌≡◌, ◌⊎◌, inl, inr, ℕ, ◌-◌, Bool, true, false, cond, List, [], ◌∷◌, take, Contains, IfSome, IfNone, Option, Some, None, refl, sym, ap, ◌∙◌, subst}
use Rattle.std.specs.Option.{option_map_or}
use Rattle.std.specs.Map.{lookup, lookup_entry, remove_entry}
use Rattle.lru.specs.LruCache.{LruCache, lru_cache, promoted, put_entries}
use Rattle.lru.proofs.CallerLemmas.{Contains-lookup, Contains-promoted, Contains-take}
use Rattle.lru.proofs.Splits.{Contains-cons}
use Rattle.pt_memo.specs.declared.answer.Answer.{Answer}
use Rattle.pt_memo.specs.Memos.{OneMemo, one_memo, counted}

module _ {K V : Type 0} (test : K → Bool) where
  -- what is found stands in an entry whose key passes
  pub found : (es : List (K × V)) (o : Option V) → o ≡ lookup test es → IfSome o (λ v. (k : K) × Contains es (k, v) × (test k ≡ true))
  found es (Some v) is = Contains-lookup test es v (sym is)
  found es None is = tt

  -- where no value is found no entry has the key
  pub no_entry : (es : List (K × V)) → lookup test es ≡ None → lookup_entry test es ≡ None
  no_entry [] h = refl
  no_entry (e ∷ es) h =
      (elim (test e.0) as (λ b. cond b (Some e.1) (lookup test es) ≡ None → cond b (Some e) (lookup_entry test es) ≡ None) [ true ↦ λ f. cc | false ↦ λ f. no_entry es f ]) h

  -- where no key passes the order stays
  stays : (es : List (K × V)) → lookup test es ≡ None → promoted test es ≡ es
  stays es h = ap (λ o. option_map_or (λ e. e ∷ remove_entry test es) o es) (no_entry es h)

module _ {K V : Type 0} (test : K → Bool) where
  pub unknown : (memo new : OneMemo K V) (o : Option (Answer V)) → o ≡ lookup test memo.entries → new ≡ one_memo (promoted test memo.entries) memo.capacity memo.built → IfNone o (new ≡ memo)
  unknown memo new (Some v) is front = tt
  unknown memo new None is front = front ∙ ap (λ es. one_memo es memo.capacity memo.built) (stays test memo.entries (sym is))

module _ {K V : Type 0} (eq : K → K → Bool) (k : K) (v : V) where
  -- an insert of a key that is not there
  pub inserted : (cache new : LruCache K V) → lookup (eq k) cache.entries ≡ None → new ≡ lru_cache (put_entries eq cache k v) cache.cap → new ≡ lru_cache ((k, v) ∷ take (cache.cap - 1) cache.entries) cache.cap
  inserted cache new none is = is ∙ ap (λ o. lru_cache (option_map_or (λ e. (e.0, v) ∷ remove_entry (eq k) cache.entries) o ((k, v) ∷ take (cache.cap - 1) cache.entries)) cache.cap) (no_entry (eq k) cache.entries none)

module _ {K V : Type 0} (k : K) (v : V) where
  -- each entry is the new one or was there
  pub new_or_old : (n : ℕ) (es : List (K × V)) (e : K × V) → Contains ((k, v) ∷ take n es) e → (e ≡ (k, v)) ⊎ Contains es e
  new_or_old n es e c = elim (Contains-cons (k, v) (take n es) e c) [
    | inl same ↦ inl (sym same)
    | inr rest ↦ inr (Contains-take n es e rest)
  ]
