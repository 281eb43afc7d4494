-- The last token of a print does not end at offset 1: each definition has a keyword, and a keyword is longer than one byte.
--     print_far     for every list of definitions
use mathlib.Core.Path.{◌≡◌, refl, ap, ◌∙◌}
use mathlib.Core.Bool.{Bool, true, false, cond, false≢true}
use mathlib.Core.List.{List, [], ◌∷◌}
use Prim.Native.Nat.{ℕ, ◌≤◌}
use native.Mathlib.Omega.{arith}
use borrow.Author.Tests.{ne_eqb}
use lib.Dec.{eqb}
use lib.ListN.{length}
use Rattle.token.specs.Regex.{bytes as ascii}
use Rattle.token.specs.declared.Token.{Token}
use Rattle.lexer.specs.declared.location.LOC.{LOC}
use Rattle.lexer.specs.declared.location.Lexer.{Lexer}
use Rattle.lexer.specs.Cuts.{Cuts, end, stuck, cut}
use Rattle.lexer.specs.Location.{pass, span_of, between}
use Rattle.lexer.specs.Tokens.{Lexeme, lexeme, skipped, lexemes}
use Rattle.lexer.proofs.CutLaws.{pass_at}
use Rattle.ast.specs.Ast.{Definition, Include, CppInclude, Namespace, Const, Typedef, Enum, structure, Service, Struct, Union, Exception}
use Rattle.ast.specs.Move.{move_l, moves}
use Rattle.ast.proofs.Forget.{bares}
use Rattle.parser.specs.Steps.{place}
use Rattle.parser.specs.Order.{final}
use Rattle.parser.proofs.Ended.{Far}
use Rattle.writer.specs.Print.{Piece, keyword, write_comment, write_comments, structure_keyword, write_definition, write_each, pieces}
use Rattle.writer.proofs.Toks.{toks}
use Rattle.writer.proofs.Back.{core_definition, notes_definition, write_definition_law}

-- one of the tokens is longer than one byte
pub data Long : List Lexeme → Type 0 where
  here : {k : Token} {w : List ℕ} {l : LOC} {ts : List Lexeme} → 2 ≤ length w → Long (lexeme k w l ∷ ts)
  there : {t : Lexeme} {ts : List Lexeme} → Long ts → Long (t ∷ ts)

-- the last token ends no earlier than the lexer stands
final_on : (n : ℕ) (cs : Cuts) (s : Lexer) (l : LOC) → n ≤ l.end.index → n ≤ s.at → n ≤ (final l (lexemes cs s)).end.index
unfolding final lexemes place between span_of
final_on n end s l h g = h
final_on n stuck s l h g = h
final_on n (cut k w r cs) s l h g = go (skipped k) (final_on n cs (pass w k r s))
  where
    z : n ≤ (pass w k r s).at
    z = omega (arith, pass_at w k r s, g)

    go : (b : Bool) → ((x : LOC) → n ≤ x.end.index → n ≤ (pass w k r s).at → n ≤ (final x (lexemes cs (pass w k r s))).end.index)
        → n ≤ (final l (cond b (lexemes cs (pass w k r s)) (lexeme k w (between s (pass w k r s)) ∷ lexemes cs (pass w k r s)))).end.index
    go true ih = ih l h z
    go false ih = ih (between s (pass w k r s)) z z

final_long : (cs : Cuts) (s : Lexer) (l : LOC) → Long (lexemes cs s) → 2 ≤ (final l (lexemes cs s)).end.index
unfolding final lexemes place between span_of
final_long end s l h = elim h [ ]
final_long stuck s l h = elim h [ ]
final_long (cut k w r cs) s l h = go (skipped k) h (final_long cs (pass w k r s))
  where
    far : 2 ≤ length w → 2 ≤ (pass w k r s).at
    far g = omega (arith, pass_at w k r s, g)

    go : (b : Bool) → Long (cond b (lexemes cs (pass w k r s)) (lexeme k w (between s (pass w k r s)) ∷ lexemes cs (pass w k r s)))
        → ((x : LOC) → Long (lexemes cs (pass w k r s)) → 2 ≤ (final x (lexemes cs (pass w k r s))).end.index)
        → 2 ≤ (final l (cond b (lexemes cs (pass w k r s)) (lexeme k w (between s (pass w k r s)) ∷ lexemes cs (pass w k r s)))).end.index
    go true g ih = ih l g
    go false (here g) ih = final_on 2 cs (pass w k r s) (between s (pass w k r s)) (far g) (far g)
    go false (there g) ih = ih (between s (pass w k r s)) g

long_bare : (ts : List Lexeme) → Long (bares ts) → Long ts
unfolding moves move_l
long_bare [] h = elim h [ ]
long_bare (lexeme k w l ∷ ts) (here g) = here g
long_bare (lexeme k w l ∷ ts) (there g) = there (long_bare ts g)

long_comments : (cs : List Lexeme) (r : List Piece) → Long (toks r) → Long (toks (write_comments [] cs r))
unfolding write_comments write_comment toks
long_comments [] r h = h
long_comments (lexeme k w l ∷ cs) r h = there (long_comments cs r h)

long_core : (ind : List ℕ) (d : Definition) (r : List Piece) → Long (toks (core_definition ind d r))
unfolding core_definition structure_keyword keyword toks ascii
long_core ind (Include l c n) r = here {w = ascii "include"} (omega arith)
long_core ind (CppInclude l c n) r = here {w = ascii "cpp_include"} (omega arith)
long_core ind (Namespace l c s n) r = here {w = ascii "namespace"} (omega arith)
long_core ind (Const l c t n v) r = here {w = ascii "const"} (omega arith)
long_core ind (Typedef l c t n) r = here {w = ascii "typedef"} (omega arith)
long_core ind (Enum l c n ms a) r = here {w = ascii "enum"} (omega arith)
long_core ind (structure Struct l c n fs a) r = here {w = ascii "struct"} (omega arith)
long_core ind (structure Union l c n fs a) r = here {w = ascii "union"} (omega arith)
long_core ind (structure Exception l c n fs a) r = here {w = ascii "exception"} (omega arith)
long_core ind (Service l c n x fs a) r = here {w = ascii "service"} (omega arith)

long_definition : (ind : List ℕ) (d : Definition) (r : List Piece) → Long (toks (write_definition ind d r))
long_definition ind d r = rw (write_definition_law ind d r) (long_comments (notes_definition d) (core_definition ind d r) (long_core ind d r))

long_print : (indent : ℕ) (d : Definition) (ds : List Definition) → Long (toks (pieces indent (d ∷ ds)))
unfolding pieces write_each
long_print indent d ds = long_definition _ d _

far_two : (n : ℕ) → 2 ≤ n → eqb n 1 ≡ false
far_two n h = ne_eqb n 1 (λ e. omega (arith, e, h))

print_none : (indent : ℕ) → toks (pieces indent []) ≡ []
unfolding toks pieces write_each
print_none indent = refl

vacant : List Lexeme → Bool
vacant [] = true
vacant (t ∷ ts) = false

far_none : (ts : List Lexeme) (l : LOC) → Far l → bares ts ≡ [] → Far (final l ts)
unfolding final moves vacant
far_none [] l f e = f
far_none (t ∷ ts) l f e = absurd (false≢true (ap vacant e))

-- the tokens of a text that, without their places, are those of a print
pub print_far : (indent : ℕ) (ds : List Definition) (cs : Cuts) (s : Lexer) (l : LOC) → Far l → bares (lexemes cs s) ≡ toks (pieces indent ds) → Far (final l (lexemes cs s))
print_far indent [] cs s l f e = far_none (lexemes cs s) l f (e ∙ print_none indent)
print_far indent (d ∷ ds) cs s l f e = far_two _ (final_long cs s l (long_bare (lexemes cs s) (rw e (long_print indent d ds))))
