-- Reading as a whole: every row of document 01's table up to 25, for any text and any two tables.
use Rattle.std.specs.Prelude.{cond, List, [], ◌∷◌, ℕ, ◌-◌, eqb, ltb, length}
use Rattle.std.specs.Prelude.{Some, None}
use Rattle.lexer.specs.declared.location.LOC.{LOC}
use Rattle.lexer.specs.Error.{UnrecognizedToken, UnexpectedEOF, NodesFull, CommentsFull}
use Rattle.lexer.specs.Outcome.{Outcome, accepted, refused}
use Rattle.lexer.specs.Location.{between, opening}
use Rattle.lexer.specs.Tokens.{tokens}
use Rattle.lexer.specs.Check.{checked}
use Rattle.ast.specs.Ast.{Definition}
use Rattle.ast.specs.Records.{comment_width, node_width, node_rows, notes, room, filled, cleared}
use Rattle.parser.specs.Steps.{Raised, raise, Res, ok, no, pos}
use Rattle.parser.specs.Definitions.{parse_document}
use Rattle.std.specs.declared.result.Result.{Result}
use Rattle.lexer.specs.declared.error.Refusal.{Refusal}
use Rattle.lexer.specs.Refusal.{said_by}
use Rattle.parser.specs.declared.Counts.{Counts}

-- the grammar over the tokens of a text
unfoldable pub parsed : List ℕ → Res (List Definition)
parsed t = parse_document (pos (between opening opening) [] (tokens t opening))

-- `error` of parser/mod.rs: with a token in hand the kind that was raised;
-- with none left THE END RULE, whatever was raised: 3 if the last token ends at the text's length, else 1
unfoldable pub error : Raised → LOC → List ℕ → ℕ
error (raise e (Some t)) l text = e
error (raise e None) l text = cond (eqb l.end.index (length text)) UnexpectedEOF UnrecognizedToken

unfoldable pub answered : Res (List Definition) → List ℕ → Outcome (List Definition)
answered (ok ds s) t = accepted ds
answered (no r l) t = refused (error r l t) l.start.index (l.end.index - l.start.index)

-- 20, 21, 22, then the grammar
unfoldable pub outcome_by : Outcome (List ℕ) → List ℕ → Outcome (List Definition)
outcome_by (accepted ns) t = answered (parsed t) t
outcome_by (refused e p n) t = refused e p n

-- a text's definitions, or its refusal, before the tables are looked at
unfoldable pub outcome : List ℕ → Outcome (List Definition)
outcome t = outcome_by (checked t) t

-- then 24 and 25; the counts of nodes and of comments
unfoldable pub fitted : List Definition → List ℕ → List ℕ → Outcome (List ℕ)
fitted ds nodes comments =
    cond (ltb (room node_width nodes) (length (node_rows ds))) (refused NodesFull 0 0)
    (cond (ltb (room comment_width comments) (length (notes ds))) (refused CommentsFull 0 0) (accepted (length (node_rows ds) ∷ length (notes ds) ∷ [])))

unfoldable pub answer : Outcome (List Definition) → List ℕ → List ℕ → Outcome (List ℕ)
answer (accepted ds) nodes comments = fitted ds nodes comments
answer (refused e p n) nodes comments = refused e p n

-- what a call answers that reads first: the reading's refusal, else its own answer
unfoldable pub after : Outcome (List ℕ) → Outcome (List ℕ) → Outcome (List ℕ)
after (accepted ns) o = o
after (refused e p n) o = refused e p n

-- a table after any call: filled where it is accepted, all 0 where it is refused
unfoldable pub left : Outcome (List ℕ) → List (List ℕ) → List ℕ → List ℕ
left (accepted ns) rs table = filled rs table
left (refused e p n) rs table = cleared table

unfoldable pub rows_by : (List Definition → List (List ℕ)) → Outcome (List Definition) → List (List ℕ)
rows_by f (accepted ds) = f ds
rows_by f (refused e p n) = []

-- what the code's answer says
abbrev pub Answer : Type 0
Answer = Result Counts Refusal

abbrev pub said : Answer → Outcome (List ℕ)
said = said_by (λ c. c.nodes ∷ c.comments ∷ [])

-- what a reading answers, and both tables afterwards
pub record Reading : Type 0 where
  pub says : Outcome (List ℕ)
  pub nodes : List ℕ
  pub comments : List ℕ

-- the code's answer and both tables, as a reading
abbrev pub told : Answer → List ℕ → List ℕ → Reading
told a ns cs = record { says = said a; nodes = ns; comments = cs }

unfoldable pub reading : List ℕ → List ℕ → List ℕ → Reading
reading t ns cs =
    let o = outcome t in
    let a = answer o ns cs in
    record { says = a; nodes = left a (rows_by node_rows o) ns; comments = left a (rows_by notes o) cs }
