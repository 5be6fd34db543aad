-- What each kind of front makes of a reader's turn.
use Rattle.std.proofs.Common.{◌≡◌, ◌<◌, ◌≤◌, ◌-◌, ◌∙◌, ℕ, List, ap, sym, subst, inl, refl, arith, length, take, drop}
use Rattle.std.proofs.Math.Seq.{take-length}
use Rattle.std.proofs.lemmas.List.{length-drop}
use Rattle.pt_syntax.specs.declared.kinds.ReadRefusal.{ReadRefusal}
use Rattle.pt_syntax.specs.declared.token.Cursor.{Cursor}
use Rattle.pt_syntax.specs.declared.token.Found.{Found}
use Rattle.pt_syntax.specs.declared.token.Token.TheVariants as token
use Rattle.pt_syntax.specs.Lexemes.{Opening, Closing, Unclosed, Malformed, Fails, place_behind}
use Rattle.pt_syntax.specs.Lists.{syntax_at}
use Rattle.pt_syntax.specs.Fronts.{front_lexeme}
use Rattle.pt_syntax.specs.Cursors.{IsBehind, IsToken, Refuses, tokens_at, with_token, IsAhead}
use Rattle.pt_syntax.proofs.TokenLaws.{turn, fails_unclosed, fails_malformed}

more_left : (bytes : List ℕ) (n : ℕ) → n < length bytes → 0 < length (drop n bytes)
more_left bytes n h = omega (arith, length-drop n bytes)

pub opening : (bytes : List ℕ) (start c : Cursor) (f : Found) → tokens_at bytes c ≡ tokens_at bytes start → start.offset ≤ c.offset → Opening ≡ front_lexeme (drop c.offset bytes) → c.offset < length bytes → f.token ≡ token.Opening → f.position ≡ c.position → IsBehind bytes c 1 f.behind → IsToken bytes start f
opening bytes start c f told far is more t p b = record {
  told = sym told ∙ turn bytes c f.behind Opening 1 is refl (omega arith) (more_left bytes c.offset more) b ∙ ap (λ q. with_token token.Opening q (tokens_at bytes f.behind)) (sym p) ∙ ap (λ k. with_token k f.position (tokens_at bytes f.behind)) (sym t);
  within = b.within;
  ahead = subst (λ k. IsAhead k start f.behind) (sym t) (omega (arith, b.offset));
}

pub closing : (bytes : List ℕ) (start c : Cursor) (f : Found) → tokens_at bytes c ≡ tokens_at bytes start → start.offset ≤ c.offset → Closing ≡ front_lexeme (drop c.offset bytes) → c.offset < length bytes → f.token ≡ token.Closing → f.position ≡ c.position → IsBehind bytes c 1 f.behind → IsToken bytes start f
closing bytes start c f told far is more t p b = record {
  told = sym told ∙ turn bytes c f.behind Closing 1 is refl (omega arith) (more_left bytes c.offset more) b ∙ ap (λ q. with_token token.Closing q (tokens_at bytes f.behind)) (sym p) ∙ ap (λ k. with_token k f.position (tokens_at bytes f.behind)) (sym t);
  within = b.within;
  ahead = subst (λ k. IsAhead k start f.behind) (sym t) (omega (arith, b.offset));
}

pub refused_malformed : (bytes : List ℕ) (start c : Cursor) (refusal : ReadRefusal) → tokens_at bytes c ≡ tokens_at bytes start → Malformed ≡ front_lexeme (drop c.offset bytes) → c.offset < length bytes → refusal ≡ syntax_at c.position → Refuses (tokens_at bytes start) refusal
refused_malformed bytes start c refusal told is more e =
    inl (sym told ∙ fails_malformed c.position (drop c.offset bytes) is (more_left bytes c.offset more) ∙ ap (λ r. Fails r.position) (sym e), e ∙ ap (λ r. syntax_at r.position) (sym e))

pub refused_unclosed : (bytes : List ℕ) (start c end : Cursor) (refusal : ReadRefusal) → tokens_at bytes c ≡ tokens_at bytes start → Unclosed ≡ front_lexeme (drop c.offset bytes) → c.offset < length bytes → IsBehind bytes c (length bytes - c.offset) end → refusal ≡ syntax_at end.position → Refuses (tokens_at bytes start) refusal
refused_unclosed bytes start c end refusal told is more b e =
    let whole : take (length bytes - c.offset) (drop c.offset bytes) ≡ drop c.offset bytes = ap (λ k. take k (drop c.offset bytes)) (sym (length-drop c.offset bytes)) ∙ take-length (drop c.offset bytes) in
    let place : place_behind c.position (drop c.offset bytes) ≡ end.position = ap (place_behind c.position) (sym whole) ∙ sym b.position in
    inl (sym told ∙ fails_unclosed c.position (drop c.offset bytes) is (more_left bytes c.offset more) ∙ ap Fails place ∙ ap (λ r. Fails r.position) (sym e), e ∙ ap (λ r. syntax_at r.position) (sym e))
