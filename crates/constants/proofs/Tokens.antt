-- Every IntegerLiteral token of any text is an IntConstant, and every DoubleLiteral is what both take or has a bare dot.
use mathlib.Core.Path.{◌≡◌, refl}
use mathlib.Core.Logic.{◌⊎◌}
use mathlib.Core.Bool.{true}
use mathlib.Core.List.{List}
use Prim.Native.Nat.{ℕ}
use lib.ListN.{take}
use Rattle.token.specs.Code.{code, is}
use Rattle.token.specs.Patterns.{rules, words, rest, marks, shapes, word_rule, token}
use Rattle.token.specs.Scan.{scan}
use Rattle.token.specs.declared.Token.TheVariants as T
use Rattle.std.specs.Prelude.{Some}
use Rattle.token.proofs.Keyword.{hit_first}
use Rattle.token.proofs.Pattern.{absent, once, first_in}
use Rattle.constants.specs.Constants.{IntConstant, Shared, BareDot, integer_pattern, double_pattern}
use Rattle.constants.proofs.Exactly.{int_exactly, rico_double}

once_int : once T.IntegerLiteral rules ≡ true
unfolding once absent rules words rest marks shapes word_rule token is code
once_int = refl

once_double : once T.DoubleLiteral rules ≡ true
unfolding once absent rules words rest marks shapes word_rule token is code
once_double = refl

pub int_token : (t : List ℕ) (n : ℕ) → scan t ≡ Some (T.IntegerLiteral, n) → IntConstant (take n t)
unfolding integer_pattern
int_token t n e = (int_exactly (take n t)).1 (first_in T.IntegerLiteral rules (take n t) once_int (hit_first t T.IntegerLiteral n e))

pub double_token : (t : List ℕ) (n : ℕ) → scan t ≡ Some (T.DoubleLiteral, n) → Shared (take n t) ⊎ BareDot (take n t)
unfolding double_pattern
double_token t n e = (rico_double (take n t)).0 (first_in T.DoubleLiteral rules (take n t) once_double (hit_first t T.DoubleLiteral n e))
