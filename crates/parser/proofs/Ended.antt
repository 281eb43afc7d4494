-- Where the last token does not end at offset 1, places decide nothing of a document either.
use mathlib.Core.Path.{◌≡◌, refl, ap, sym, ◌∙◌}
use mathlib.Core.Bool.{Bool, true, false}
use mathlib.Core.List.{List, [], ◌∷◌}
use Prim.Native.Nat.{ℕ, suc, zero}
use lib.Dec.{eqb}
use Rattle.token.specs.declared.Token.{Token}
use Rattle.lexer.specs.declared.location.LOC.{LOC}
use Rattle.lexer.specs.Tokens.{Lexeme, lexeme}
use Rattle.ast.specs.Ast.{Definition}
use Rattle.ast.specs.Move.{move_l, moves}
use Rattle.ast.proofs.Forget.{gone, nowhere, bares, forget}
use Rattle.parser.specs.Steps.{place, St, pos, Res, ok, P, bind, test, loop, many}
use Rattle.parser.specs.Definitions as D
use Rattle.parser.specs.Definitions.{parse_definition, document_end, parse_document}
use Rattle.parser.proofs.Same.{move_s, bare_s, bare_r, ended, ended_document, same_document, document_same}
use Rattle.ast.specs.Lists.{All, anil, acons}
use Rattle.parser.specs.Order.{final}
use Rattle.parser.proofs.Sure.{
  GoodL,
  GoodS,
  good,
  Sure,
  sure,
  refused,
  separator_s,
  comments_s,
  document_end_s,
  definition_s,
}

-- nothing is asked of the tokens
abbrev Free : Token → List ℕ → Type 0
Free k w = Unit {0}

free : (ts : List Lexeme) → All (GoodL Free) ts
free [] = anil
free (t ∷ ts) = acons tt (free ts)

-- a last token that does not end at offset 1
abbrev pub Far : LOC → Type 0
Far l = eqb l.end.index 1 ≡ false

-- ---- where the last token is far, `over` tests for emptiness

bind_eq : {A B : Type 0} {U : A → Type 0} {m : Res A} {k j : A → P B} →
    Sure Free Far U m → ((a : A) (s : St) → GoodS Free Far s → k a s ≡ j a s) → bind m k ≡ bind m j
unfolding bind
bind_eq (sure {a = a} {s = s} h g) f = f a s g
bind_eq refused f = refl

test_eq : {A : Type 0} (b : Bool) (p q r : P A) (s : St) → q s ≡ r s → test b p q s ≡ test b p r s
unfolding test
test_eq true p q r s e = refl
test_eq false p q r s e = e

over_ended : {s : St} → GoodS Free Far s → D.over s ≡ ended s
unfolding D.over ended test final
over_ended (good c anil z) = rw z
over_ended (good c (acons h hs) z) = refl

end_ended : {s : St} → GoodS Free Far s → document_end s ≡ ended_document s
unfolding document_end ended_document
end_ended g =
    bind_eq (separator_s Free Far g) λ u s g. bind_eq (comments_s Free Far g) λ u s g. bind_eq (separator_s Free Far g) λ u s g. over_ended g

loop_ended : (n : ℕ) {s : St} → GoodS Free Far s → loop [] ◌∷◌ document_end parse_definition n s ≡ loop [] ◌∷◌ ended_document parse_definition n s
unfolding loop
loop_ended zero g = refl
loop_ended (suc n) {s} g =
    rw (← end_ended g)
    (bind_eq (document_end_s Free Far s g) λ b s g. test_eq b _ _ _ s
    (bind_eq (definition_s Free Far s g) λ a s g. ap (λ (m : Res (List Definition)). bind m (λ x s. ok (a ∷ x) s)) (loop_ended n g)))

module _ (l : LOC) (ts : List Lexeme) (far : Far (final l ts)) where
  pub document_ended : parse_document (pos l [] ts) ≡ same_document (pos l [] ts)
  unfolding parse_document same_document many
  document_ended = loop_ended 65537 (good anil (free ts) far)

-- ---- bare tokens are far

final_bare : (ts : List Lexeme) → final nowhere (bares ts) ≡ nowhere
unfolding final moves move_l place
final_bare [] = refl
final_bare (lexeme k w l ∷ ts) = final_bare ts

bare_far : (ts : List Lexeme) → Far (final nowhere (bares ts))
bare_far ts = rw final_bare

-- the bare tokens read as the bare document
module _ (l : LOC) (ts : List Lexeme) (far : Far (final l ts)) where
  pub parse_same : parse_document (bare_s (pos l [] ts)) ≡ bare_r forget (parse_document (pos l [] ts))
  unfolding move_s moves
  parse_same =
      document_ended nowhere (bares ts) (bare_far ts) ∙ document_same gone (pos l [] ts) ∙ ap (bare_r forget) (sym (document_ended l ts far))
