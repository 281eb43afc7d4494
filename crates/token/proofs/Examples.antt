-- Worked examples of `scan` and of the number of a word, by computation.
use mathlib.Core.Path.{◌≡◌, refl}
use mathlib.Core.List.{List, ◌++◌}
use Rattle.std.specs.Prelude.{Option, Some, None}
use Prim.Native.Nat.{ℕ}
use Prim.Native.String.{String}
use Rattle.token.specs.Regex.{bytes}
use Rattle.token.specs.Patterns.{Word, token, words, rules}
use Rattle.token.specs.Scan.{first, keep, scan_from, scan}
use Rattle.token.specs.Automaton.{rules_at}
use Rattle.token.specs.Breaks.{Stops}
use Rattle.token.specs.Tables.{classes, trie}
use Rattle.token.specs.Run.{class_of}
use Rattle.token.specs.WordNumber.{step_by, step, number_from, number, keyword_in, keyword as keyword_of}
use Rattle.token.specs.declared.Token.TheVariants as T
use Rattle.token.specs.Scanned.{Scan}
use Rattle.token.proofs.Stable.{fixed}

-- `rules_at` unfolds all that the patterns are made of
unfoldable on : String → Scan
unfolding rules_at words rules first keep scan_from scan
on s = scan (bytes s)

keyword : on "struct A{" ≡ Some (T.Struct, 6)
unfolding on
keyword = refl

name_of_parts : on "structA.b.c.1 " ≡ Some (T.Identifier, 11)
unfolding on
name_of_parts = refl

signed_double : on "-12.5e+3," ≡ Some (T.DoubleLiteral, 8)
unfolding on
signed_double = refl

block_comment : on "/* a **/ b */" ≡ Some (T.BlockComment, 8)
unfolding on
block_comment = refl

escaped_quote : on "\"a\\\"b\" c" ≡ Some (T.StringLiteral, 6)
unfolding on
escaped_quote = refl

hex : on "0x1F:" ≡ Some (T.HexLiteral, 4)
unfolding on
hex = refl

lone_slash : on "/ a" ≡ None
unfolding on
lone_slash = refl

line_comment : on "//a*b\nc" ≡ Some (T.LineComment, 5)
unfolding on
line_comment = refl

open_comment : on "/*/" ≡ None
unfolding on
open_comment = refl

hex_mark_only : on "0x" ≡ Some (T.IntegerLiteral, 1)
unfolding on
hex_mark_only = refl

exponent_mark_only : on "1e" ≡ Some (T.IntegerLiteral, 1)
unfolding on
exponent_mark_only = refl

end_dot : on "a." ≡ Some (T.Identifier, 1)
unfolding on
end_dot = refl

keyword_dot : on "i32.5" ≡ Some (T.I32, 3)
unfolding on
keyword_dot = refl

no_token_law : on "@" ≡ None
unfolding on
no_token_law = refl

open_string : on "'a" ≡ None
unfolding on
open_string = refl

boolean : on "true" ≡ Some (T.BooleanLiteral, 4)
unfolding on
boolean = refl

one_line_end : on "\r\n" ≡ Some (T.Newline, 1)
unfolding on
one_line_end = refl

run_of_blanks : on " \t x" ≡ Some (T.Blank, 3)
unfolding on
run_of_blanks = refl

-- a fixed token of a printer, in front of what stops it
struct : (r : List ℕ) → Stops T.Struct r → scan (bytes "struct" ++ r) ≡ Some (T.Struct, 6)
unfolding on
struct r st = fixed (bytes "struct") r T.Struct tt refl st

-- ---- the keyword that the number of some bytes stands for

unfoldable stands : String → Option Word
unfolding words token bytes number number_from step step_by class_of classes trie keyword_of keyword_in
stands s = keyword_of (number (bytes s))

include : stands "include" ≡ Some (token T.Include "include")
unfolding stands
include = refl

prefix_of_include : stands "in" ≡ None
unfolding stands
prefix_of_include = refl

longer_than_include : stands "includes" ≡ None
unfolding stands
longer_than_include = refl

first_of_parts : stands "include.a" ≡ None
unfolding stands
first_of_parts = refl

truth : stands "true" ≡ Some (token T.BooleanLiteral "true")
unfolding stands
truth = refl

other_case : stands "True" ≡ None
unfolding stands
other_case = refl
