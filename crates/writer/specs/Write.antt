-- Printing as a whole: every row of document 01's table, for any text, indent, tables and output.
use Rattle.std.specs.Prelude.{cond, List, [], ◌∷◌, ◌++◌, ℕ, ◌-◌, ltb, length, get_or, replicate}
use Rattle.lexer.specs.Error.{TextTooLong, IndentTooWide, OutputFull}
use Rattle.lexer.specs.Outcome.{Outcome, accepted, refused}
use Rattle.lexer.specs.Limit.{limit}
use Rattle.ast.specs.Ast.{Definition}
use Rattle.ast.specs.Records.{node_rows, notes, cleared}
use Rattle.parser.specs.Read.{outcome, fitted, left, rows_by}
use Rattle.writer.specs.Print.{printed}
use Rattle.std.specs.declared.result.Result.{Result}
use Rattle.lexer.specs.declared.error.Refusal.{Refusal}
use Rattle.lexer.specs.Refusal.{said_by}
use Rattle.writer.specs.declared.Print.{Print}

-- the most spaces a level
abbrev pub widest : ℕ
widest = 8

-- 20, then 26, then the rest as in a reading
unfoldable pub outcome_at : ℕ → List ℕ → Outcome (List Definition)
outcome_at indent t = cond (ltb limit (length t)) (refused TextTooLong 0 0) (cond (ltb widest indent) (refused IndentTooWide 0 0) (outcome t))

-- then 27; the bytes written stand behind the counts
unfoldable pub fitted_out : Outcome (List ℕ) → List ℕ → List ℕ → Outcome (List ℕ)
fitted_out (accepted ns) print out = cond (ltb (length out) (length print)) (refused OutputFull 0 0) (accepted (ns ++ length print ∷ []))
fitted_out (refused e p n) print out = refused e p n

-- the bytes written, of an accepted printing's numbers
abbrev pub bytes_written : List ℕ → ℕ
bytes_written ns = get_or ns 2 0

-- 24 and 25 as in a reading, then 27
unfoldable pub answer : ℕ → Outcome (List Definition) → List ℕ → List ℕ → List ℕ → Outcome (List ℕ)
answer indent (accepted ds) nodes comments out = fitted_out (fitted ds nodes comments) (printed indent ds) out
answer indent (refused e p n) nodes comments out = refused e p n

-- the output afterwards: the print and 0 past it, or all 0
unfoldable pub written : Outcome (List ℕ) → List ℕ → List ℕ → List ℕ
written (accepted ns) print out = print ++ replicate (length out - length print) 0
written (refused e p n) print out = cleared out

unfoldable pub print_of : ℕ → Outcome (List Definition) → List ℕ
print_of indent (accepted ds) = printed indent ds
print_of indent (refused e p n) = []

-- what the code's answer says
abbrev pub Printed : Type 0
Printed = Result Print Refusal

abbrev pub said : Printed → Outcome (List ℕ)
said = said_by (λ p. p.nodes ∷ p.comments ∷ p.bytes ∷ [])

-- what a printing answers, both tables and the output afterwards
pub record Printing : Type 0 where
  pub says : Outcome (List ℕ)
  pub nodes : List ℕ
  pub comments : List ℕ
  pub output : List ℕ

-- the code's answer, both tables and the output, as a printing
abbrev pub told : Printed → List ℕ → List ℕ → List ℕ → Printing
told a ns cs out = record { says = said a; nodes = ns; comments = cs; output = out }

unfoldable pub printing : List ℕ → ℕ → List ℕ → List ℕ → List ℕ → Printing
printing t indent ns cs out =
    let o = outcome_at indent t in
    let a = answer indent o ns cs out in
    record { says = a; nodes = left a (rows_by node_rows o) ns; comments = left a (rows_by notes o) cs; output = written a (print_of indent o) out }
