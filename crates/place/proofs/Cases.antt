-- The places of offsets around line ends, by computation (document 02, Change 1).
use mathlib.Core.Path.{◌≡◌, refl}
use mathlib.Core.List.{List, [], ◌∷◌}
use Prim.Native.Nat.{ℕ}
use Prim.Native.String.{String}
use Rattle.token.specs.Code.{code, is}
use Rattle.token.specs.Regex.{bytes, ranges, within, nullable, is_nothing, then, or, deriv}
use Rattle.token.specs.Patterns.{
  one_of,
  none_of,
  plus,
  opt,
  exact,
  word_rule,
  token,
  words,
  marks,
  name,
  quoted,
  digits,
  sign,
  exponent,
  point,
  stars,
  shapes,
  rest,
  rules,
}
use Rattle.token.specs.Scan.{derivs, first, keep, scan_from, scan}
use Rattle.lexer.specs.Location.{pair, ends_line, behind, span_of, opening}
use Rattle.place.specs.Place.{kind_of, length_of, walk, place_of}

-- a text, an offset, its line and its column
pub data Case : Type 0 where
  at : String → ℕ → ℕ → ℕ → Case

abbrev pub Hold : List Case → Type 0
Hold [] = Unit
Hold (at s o l c ∷ cs) = (place_of (bytes s) o ≡ record { line = l; column = c; index = o }) × Hold cs

abbrev pub cases : List Case
cases =
    -- between the two bytes of the pair one is still on the line that it ends
    at "\r\nenum E{}" 1 1 2
    ∷ at "\r\nenum E{}" 2 2 1
    -- a `\r` at the end of the text ends a line
    ∷ at "enum E{}\r" 9 2 1
    ∷ at "\n\r" 2 3 1
    ∷ at "\r\r\n" 3 3 1
    -- in a block comment `\n` alone, in a string nothing
    ∷ at "/*\r\n*/" 6 2 3
    ∷ at "/*\r*/" 5 1 6
    ∷ at "'\r\n'" 4 1 5
    -- behind a byte that starts no token
    ∷ at "@\r\n@" 3 2 1
    ∷ []

pub cases_hold : Hold cases
unfolding code is bytes ranges within nullable is_nothing then or deriv one_of none_of plus opt exact word_rule token words marks name quoted digits sign exponent point stars shapes rest rules derivs first keep scan_from scan pair ends_line behind span_of opening kind_of length_of walk place_of
cases_hold = (refl, (refl, (refl, (refl, (refl, (refl, (refl, (refl, (refl, tt)))))))))
