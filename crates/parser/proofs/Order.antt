-- The tokens of a text, one behind the other.
--     by_tokens         what holds of no token, and with a token before others, holds of all
--     tokens_in_order   they are nonempty, inside the text, in text order and without overlap
use mathlib.Core.Path.{◌≡◌, refl}
use mathlib.Core.List.{List, [], ◌∷◌}
use Prim.Native.Nat.{ℕ, suc, zero, ◌-◌, ◌<◌, ◌≤◌}
use native.Mathlib.Omega.{arith}
use lib.ListN.{length}
use Rattle.lexer.specs.declared.location.Lexer.{Lexer}
use Rattle.lexer.specs.declared.location.ParserToken.{ParserToken}
use Rattle.lexer.specs.declared.location.Next.{Next}
use Rattle.lexer.specs.declared.location.Next.TheVariants as N
use Rattle.lexer.specs.Location.{opening}
use Rattle.lexer.specs.Tokens as L
use Rattle.lexer.specs.Tokens.{Lexeme, tokens, lexeme_of}
use Rattle.lexer.proofs.NextLaws.{next_inside, tokens_on, tokens_end, tokens_unrecognized}
use Rattle.parser.specs.Steps.{place}
use Rattle.parser.specs.Order.{token_start, token_end, InOrder, no_token_law, one_token}

-- R a ts: of tokens from the index a on
module _ (text : List ℕ) (R : ℕ → List Lexeme → Type 0) (none : (a : ℕ) → a ≤ length text → R a [])
    (more : (a : ℕ) (p : ParserToken) (ts : List Lexeme) → a ≤ p.loc.start.index → p.loc.start.index < p.loc.end.index → p.loc.end.index ≤ length text →
    R p.loc.end.index ts → R a (lexeme_of text p ∷ ts)) where
  by_next : (s : Lexer) → s.at ≤ length text → ((q : Lexer) → s.at < q.at → q.at ≤ length text → R q.at (tokens text q)) →
      (r : Next) → L.next text s ≡ r → R s.at (tokens text s)
  by_next s h later N.End e = rw (tokens_end text s e) (none s.at h)
  by_next s h later (N.Unrecognized q) e = rw (tokens_unrecognized text s q e) (none s.at h)
  by_next s h later (N.On p b) e =
      let i = next_inside text s b p e in
      let k : R p.loc.end.index (tokens text b) = rw i.2 (later b (omega (arith, i.0, i.1, i.2)) i.3) in
      rw (tokens_on text s b p e) (more s.at p (tokens text b) i.0 i.1 (omega (arith, i.2, i.3)) k)

  -- with at most m bytes left
  by_left : (m : ℕ) (s : Lexer) → s.at ≤ length text → length text - s.at ≤ m → R s.at (tokens text s)
  by_left zero s g h = by_next s g (λ q a b. absurd (omega (arith, h, a, b))) (L.next text s) refl
  by_left (suc m) s g h = by_next s g (λ q a b. by_left m q b (omega (arith, h, a, b))) (L.next text s) refl

  pub by_tokens : (s : Lexer) → s.at ≤ length text → R s.at (tokens text s)
  by_tokens s h = by_left (length text) s h (omega arith)

pub tokens_in_order : (text : List ℕ) → InOrder (length text) 0 (tokens text opening)
unfolding opening lexeme_of token_start token_end place
tokens_in_order text = by_tokens text (InOrder (length text)) (λ a h. no_token_law h) (λ a p ts h o k g. one_token h o g) opening (omega arith)

pub inside : {n a : ℕ} {ts : List Lexeme} → InOrder n a ts → a ≤ n
inside (no_token_law h) = h
inside (one_token h k o) = let i = inside o in omega arith
