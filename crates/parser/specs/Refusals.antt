-- What the steps raise where a text is refused in the grammar (document 02, Change 8).
use Rattle.std.specs.Prelude.{◌≡◌, Bool, false, ◌||◌, ℕ, eqb}
use mathlib.Core.List.{List, [], ◌∷◌, Memᴰ}
use Rattle.std.specs.Prelude.{Some, None}
use Prim.Native.String.{String}
use Rattle.token.specs.Regex.{bytes}
use Rattle.lexer.specs.declared.location.LOC.{LOC}
use Rattle.lexer.specs.Error.{UnexpectedEOF}
use Rattle.lexer.specs.Location.{between, opening}
use Rattle.lexer.specs.Tokens.{Lexeme, tokens}
use Rattle.parser.specs.Steps.{place, MissingTypeDeclaration, InvalidReturnType, Raised, raise, Res, ok, no}
use Rattle.parser.specs.Order.{final}
use Rattle.parser.specs.Read.{parsed}

-- the place of a text's last token; that before the first byte if it has none
unfoldable pub last_place : List ℕ → LOC
last_place text = final (between opening opening) (tokens text opening)

-- the kinds that no step raises with a token in hand: 3, 5, 7
abbrev pub end_kind : ℕ → Bool
end_kind e = eqb e UnexpectedEOF || (eqb e MissingTypeDeclaration || eqb e InvalidReturnType)

-- with no token left at the last one, whatever is raised; with a token of the text in hand at that one, and then neither 3 nor 5 nor 7
pub data Refusal (text : List ℕ) : Raised → LOC → Type 0 where
  none_left : {e : ℕ} {l : LOC} → l ≡ last_place text → Refusal text (raise e None) l
  in_hand : {e : ℕ} {t : Lexeme} → Memᴰ t (tokens text opening) → end_kind e ≡ false → Refusal text (raise e (Some t)) (place t)

-- ---- examples: the number raised, and whether a token is in hand

unfoldable pub raised : {A : Type 0} → Res A → List ℕ
raised (ok a s) = []
raised (no (raise e None) l) = e ∷ 0 ∷ []
raised (no (raise e (Some t)) l) = e ∷ 1 ∷ []

pub data Example : Type 0 where
  raises : String → ℕ → ℕ → Example

abbrev pub Raise : List Example → Type 0
Raise [] = Unit
Raise (raises s e n ∷ es) = (raised (parsed (bytes s)) ≡ e ∷ n ∷ []) × Raise es

-- where a type, a return type or a value is missing at the end, 5, 7 and 3 are raised; with a token in hand there, 4 and 6
abbrev pub examples : List Example
examples =
    raises "typedef" 5 0 ∷ raises "typedef ;" 4 1 ∷ raises "typedef list<" 5 0 ∷ raises "typedef list<>" 4 1
    ∷ raises "struct A{" 5 0 ∷ raises "struct A{1:" 5 0 ∷ raises "struct A{required" 5 0 ∷ raises "struct A{1:}" 4 1
    ∷ raises "service S{" 7 0 ∷ raises "service S{oneway" 7 0 ∷ raises "service S{;=" 4 1 ∷ raises "service S{void" 2 0 ∷ raises "service S{void f(" 5 0
    ∷ raises "const i32 X=" 3 0 ∷ raises "const i32 X=;" 6 1 ∷ raises "enum" 15 0 ∷ raises "enum 1" 15 1 ∷ raises "enum E{A=" 6 0 ∷ raises ";" 1 0 ∷ []
