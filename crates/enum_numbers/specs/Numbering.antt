-- The numbers of a text's enum members as a whole call: the reading's refusals first, its 24 and 25 among them, then 28, then 24 for the list; any text, tables and list.
use Rattle.std.specs.Prelude.{List, [], ◌∷◌, ℕ, ℤ, Result}
use Rattle.lexer.specs.Refusal.{said_by}
use Rattle.lexer.specs.Outcome.{Outcome, accepted, refused}
use Rattle.lexer.specs.declared.error.Refusal.{Refusal}
use Rattle.ast.specs.Ast.{Definition}
use Rattle.ast.specs.Records.{node_rows, notes}
use Rattle.parser.specs.Read.{outcome, answer, after, left, rows_by}
use Rattle.enum_members.specs.Numbers.{Numbers, numbers, member_numbers, counted, numbers_of, listed}

unfoldable pub numbers_by : Outcome (List Definition) → Numbers
numbers_by (accepted ds) = member_numbers ds
numbers_by (refused e p n) = numbers []

-- what a numbering answers, both tables and the list afterwards
pub record Numbering : Type 0 where
  pub says : Outcome (List ℕ)
  pub nodes : List ℕ
  pub comments : List ℕ
  pub list : List ℤ

-- the code's answer, both tables and the list, as a numbering
abbrev pub told : Result ℕ Refusal → List ℕ → List ℕ → List ℤ → Numbering
told r ns cs list = record { says = said_by (λ n. n ∷ []) r; nodes = ns; comments = cs; list = list }

unfoldable pub numbering : List ℕ → List ℕ → List ℕ → List ℤ → Numbering
numbering t ns cs list =
    let o = outcome t in
    let m = numbers_by o in
    let a = after (answer o ns cs) (counted m list) in
    record { says = a; nodes = left a (rows_by node_rows o) ns; comments = left a (rows_by notes o) cs; list = listed a (numbers_of m) list }
