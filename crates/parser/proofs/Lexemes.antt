-- The tokens of a text, each by itself.
--     tokens_stand    each lies inside the text and has the bytes of its place
--     tokens_ruled    its kind is that of the first rule that its bytes have
use mathlib.Core.Path.{◌≡◌, refl}
use mathlib.Core.Bool.{Bool, true, false, cond}
use mathlib.Core.List.{List, [], ◌∷◌}
use Prim.Native.Nat.{ℕ, suc, zero, ◌-◌, ◌≤◌}
use native.Mathlib.Omega.{arith}
use lib.ListN.{length, take, drop, length-drop}
use Rattle.token.specs.Patterns.{rules}
use Rattle.token.specs.Match.{First}
use Rattle.token.specs.Scan.{scan}
use Rattle.token.specs.Scanned.{Scan}
use Rattle.std.specs.Prelude.{Some, None}
use Rattle.token.proofs.Keyword.{hit_first}
use Rattle.lexer.specs.declared.location.Lexer.{Lexer}
use Rattle.lexer.specs.declared.location.ParserToken.{ParserToken}
use Rattle.lexer.specs.Location.{between, opening}
use Rattle.lexer.specs.Location.{pass as passed}
use Rattle.lexer.specs.Cuts.{Cuts, end, stuck, cut, cuts}
use Rattle.lexer.specs.Tokens.{Lexeme, lexeme, skipped, lexemes, tokens, lexeme_of}
use Rattle.lexer.proofs.CutLaws.{hit_fits, cuts_nil, cuts_miss, cuts_hit}
use Rattle.ast.specs.Lists.{All, anil, acons}
use Rattle.parser.specs.Steps.{kind, bytes, place}
use Rattle.parser.proofs.Order.{by_tokens}

-- a token inside the text, with the bytes that stand at its place
pub record Stands (text : List ℕ) (t : Lexeme) : Type 0 where
  pub inside : (place t).end.index ≤ length text
  pub ordered : (place t).start.index ≤ (place t).end.index
  pub same : bytes t ≡ take ((place t).end.index - (place t).start.index) (drop (place t).start.index text)

-- a token of the code that lies inside the text
lexeme_stands : (text : List ℕ) (p : ParserToken) → p.loc.end.index ≤ length text → p.loc.start.index ≤ p.loc.end.index → Stands text (lexeme_of text p)
unfolding lexeme_of place bytes
lexeme_stands text p h o = record { inside = h; ordered = o; same = refl }

pub tokens_stand : (text : List ℕ) → All (Stands text) (tokens text opening)
unfolding opening
tokens_stand text =
    by_tokens text (λ a ts. All (Stands text) ts) (λ a h. anil)
    (λ a p ts h o k hs. acons (lexeme_stands text p k (omega (arith, o))) hs) opening (omega arith)

-- each cut has a rule
abbrev Ruled : Cuts → Type 0
Ruled end = Unit
Ruled stuck = Unit
Ruled (cut k w r cs) = First rules w k × Ruled cs

ruled_step : (m : ℕ) (t : List ℕ) → ((u : List ℕ) → length u ≤ m → Ruled (cuts u)) → length t ≤ suc m → Ruled (cuts t)
ruled_step m [] ih h = rw cuts_nil tt
ruled_step m (c ∷ t) ih h = go (scan (c ∷ t)) refl
  where
    go : (s : Scan) → scan (c ∷ t) ≡ s → Ruled (cuts (c ∷ t))
    go None e = rw (cuts_miss (c ∷ t) (omega arith) e) tt
    go (Some (k, n)) e =
        rw (cuts_hit (c ∷ t) k n e)
        (hit_first (c ∷ t) k n e, ih (drop n (c ∷ t)) (omega (arith, length-drop n (c ∷ t), (hit_fits (c ∷ t) k n e).0)))

ruled_nil : (t : List ℕ) → length t ≤ 0 → Ruled (cuts t)
ruled_nil [] h = rw cuts_nil tt
ruled_nil (c ∷ t) h = absurd (omega arith)

ruled_from : (m : ℕ) (t : List ℕ) → length t ≤ m → Ruled (cuts t)
ruled_from zero t h = ruled_nil t h
ruled_from (suc m) t h = ruled_step m t (ruled_from m) h

-- its kind is that of the first rule that its bytes have
pub record HasRule (t : Lexeme) : Type 0 where
  pub rule : First rules (bytes t) (kind t)

ruled_lexemes : (cs : Cuts) (s : Lexer) → Ruled cs → All HasRule (lexemes cs s)
unfolding lexemes bytes kind
ruled_lexemes end s a = anil
ruled_lexemes stuck s a = anil
ruled_lexemes (cut k b r cs) s a = go (skipped k) (ruled_lexemes cs (passed b k r s) a.1)
  where
    go : (x : Bool) → All HasRule (lexemes cs (passed b k r s))
        → All HasRule (cond x (lexemes cs (passed b k r s)) (lexeme k b (between s (passed b k r s)) ∷ lexemes cs (passed b k r s)))
    go true g = g
    go false g = acons (record { rule = a.0 }) g

pub tokens_ruled : (text : List ℕ) → All HasRule (tokens text opening)
unfolding tokens opening
tokens_ruled text = ruled_lexemes (cuts text) _ (ruled_from (length text) text (omega arith))
