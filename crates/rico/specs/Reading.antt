-- A reading by rico's own rules, and what it has in common with the port's.
use Rattle.std.specs.Prelude.{ℕ, ◌≡◌, List, []}
use Rattle.std.specs.Prelude.{Option}
use Rattle.lexer.specs.Outcome.{Outcome, accepted, refused}
use Rattle.lexer.specs.Location.{between, opening}
use Rattle.lexer.specs.Tokens.{Lexeme}
use Rattle.lexer.specs.Check.{checked}
use Rattle.ast.specs.Ast.{Definition}
use Rattle.ast.specs.Lists.{maps}
use Rattle.ast.specs.Records.{node_rows, notes}
use Rattle.ast.specs.Move.{move, unlined, unlined_row}
use Rattle.parser.specs.Steps.{pos, Res, P}
use Rattle.parser.specs.Read.{answered}
use Rattle.fuel.specs.Fueled.{parse_document}
use Rattle.writer.specs.Print.{printed}
use Rattle.rico.specs.Lines.{tokens}
use Rattle.rico.specs.Fields.{parse_field_id, stopping}

-- the grammar over tokens, by a rule for a field's id: the port's readers but for that rule
unfoldable pub parsed_by : P (Option Lexeme) → List Lexeme → Res (List Definition)
parsed_by rule ts = parse_document rule 65537 (pos (between opening opening) [] ts)

-- 20, 21, 22, then the grammar
unfoldable pub outcome_by : P (Option Lexeme) → List Lexeme → Outcome (List ℕ) → List ℕ → Outcome (List Definition)
outcome_by rule ts (accepted ns) t = answered (parsed_by rule ts) t
outcome_by rule ts (refused e p n) t = refused e p n

-- a reading with rico's lines
unfoldable pub outcome_with : P (Option Lexeme) → List ℕ → Outcome (List Definition)
outcome_with rule t = outcome_by rule (tokens t) (checked t) t

-- rico's answer for a text: its lines, and its rule for a field without an id
unfoldable pub outcome : List ℕ → Outcome (List Definition)
outcome = outcome_with parse_field_id

-- Each begun field starts with an integer token: a reading never comes to the refusal of one that does not, so its answer is the same whatever that refusal's number.
-- A refused text is read up to its refusal; what stands behind it is not begun
abbrev pub IntegersBegin : List ℕ → Type 0
IntegersBegin t = (e f : ℕ) → outcome_with (stopping e) t ≡ outcome_with (stopping f) t

-- an outcome without lines and columns; a refusal's place and length are indexes, and stay
unfoldable pub unlined_outcome : Outcome (List Definition) → Outcome (List Definition)
unlined_outcome (accepted ds) = accepted (move unlined ds)
unlined_outcome (refused e p n) = refused e p n

-- refused alike; or accepted with the same print, and with records that differ in lines and columns alone
abbrev pub Alike : Outcome (List Definition) → Outcome (List Definition) → Type 0
Alike (accepted ds) (accepted es) =
    ((indent : ℕ) → printed indent ds ≡ printed indent es)
    × (maps unlined_row (node_rows ds) ≡ maps unlined_row (node_rows es)) × (maps unlined_row (notes ds) ≡ maps unlined_row (notes es))
Alike (refused e p n) (refused f q m) = (e ≡ f) × (p ≡ q) × (n ≡ m)
Alike (accepted ds) (refused f q m) = ⊥
Alike (refused e p n) (accepted es) = ⊥
