-- Tokens that differ in lines and columns alone are answered alike, and trees that do are printed and recorded alike.
--     answered_alike   refused with the same number, place and length, or read as trees that differ in lines and columns alone
--     printed_alike    such trees are printed the same
--     rows_alike       their nodes' records differ in lines and columns alone
--     notes_alike      so do their comments' records
--     outcomes_alike   so outcomes that are equal without lines and columns are alike
use mathlib.Core.Path.{◌≡◌, refl, ap, sym, ◌∙◌}
use mathlib.Core.List.{List, [], ◌∷◌}
use Rattle.std.specs.Prelude.{Some, None}
use Prim.Native.Nat.{ℕ}
use native.Mathlib.Omega.{arith}
use lib.ListN.{length, get_or}
use Rattle.lexer.specs.declared.location.Span.{Span}
use Rattle.lexer.specs.Location.{between, opening}
use Rattle.lexer.specs.Outcome.{Outcome, accepted, refused}
use Rattle.lexer.specs.Tokens.{Lexeme}
use Rattle.ast.specs.Ast.{Definition}
use Rattle.ast.specs.Lists.{maps}
use Rattle.ast.specs.Move.{move_loc, moves, move, unlined, unlined_row}
use Rattle.ast.specs.Records.{node_rows, notes}
use Rattle.ast.proofs.MovedRows.{rows_unlined, notes_unlined}
use Rattle.parser.specs.Steps.{St, pos, raise, Res, ok, no}
use Rattle.parser.specs.Definitions.{parse_document}
use Rattle.parser.specs.Read.{error, answered}
use Rattle.parser.proofs.Same.{move_s, move_r, document_moved}
use Rattle.writer.specs.Print.{printed}
use Rattle.writer.proofs.Places.{print_move}
use Rattle.rico.specs.Reading.{unlined_outcome, Alike}

-- ---- what is answered

keeps : (s : Span) → (unlined s).index ≡ s.index
unfolding unlined
keeps s = refl

answered_unlined : (m : Res (List Definition)) (t : List ℕ) → unlined_outcome (answered m t) ≡ answered (move_r unlined (move unlined) m) t
unfolding unlined_outcome answered error move_r unlined
answered_unlined (ok ds s) t = refl
answered_unlined (no (raise e None) l) t = refl
answered_unlined (no (raise e (Some k)) l) t = refl

-- the tokens of a document, before the first is taken
abbrev start : List Lexeme → St
start ts = pos (between opening opening) [] ts

start_unlined : (ts us : List Lexeme) → moves unlined ts ≡ moves unlined us → move_s unlined (start ts) ≡ move_s unlined (start us)
unfolding move_s moves
start_unlined ts us e = ap (pos (move_loc unlined (between opening opening)) []) e

document_unlined : (ts us : List Lexeme) → moves unlined ts ≡ moves unlined us →
    move_r unlined (move unlined) (parse_document (start ts)) ≡ move_r unlined (move unlined) (parse_document (start us))
document_unlined ts us e =
    sym (document_moved unlined keeps (start ts)) ∙ ap parse_document (start_unlined ts us e) ∙ document_moved unlined keeps (start us)

pub answered_alike : (ts us : List Lexeme) → moves unlined ts ≡ moves unlined us → (t : List ℕ) →
    unlined_outcome (answered (parse_document (pos (between opening opening) [] ts)) t)
    ≡ unlined_outcome (answered (parse_document (pos (between opening opening) [] us)) t)
answered_alike ts us e t =
    answered_unlined (parse_document (start ts)) t ∙ ap (λ (m : Res (List Definition)). answered m t) (document_unlined ts us e)
    ∙ sym (answered_unlined (parse_document (start us)) t)

-- ---- what is printed and recorded

module _ (ds es : List Definition) (e : move unlined ds ≡ move unlined es) where
  pub printed_alike : (indent : ℕ) → printed indent ds ≡ printed indent es
  printed_alike indent = sym (print_move unlined indent ds) ∙ ap (printed indent) e ∙ print_move unlined indent es

  pub rows_alike : maps unlined_row (node_rows ds) ≡ maps unlined_row (node_rows es)
  rows_alike = sym (rows_unlined ds) ∙ ap node_rows e ∙ rows_unlined es

  pub notes_alike : maps unlined_row (notes ds) ≡ maps unlined_row (notes es)
  notes_alike = sym (notes_unlined ds) ∙ ap notes e ∙ notes_unlined es

-- ---- outcomes

definitions : Outcome (List Definition) → List Definition
definitions (accepted ds) = ds
definitions (refused e p n) = []

refusal : Outcome (List Definition) → List ℕ
refusal (accepted ds) = []
refusal (refused e p n) = e ∷ p ∷ n ∷ []

pub outcomes_alike : (o q : Outcome (List Definition)) → unlined_outcome o ≡ unlined_outcome q → Alike o q
unfolding unlined_outcome definitions refusal
outcomes_alike (accepted ds) (accepted es) e =
    let f : move unlined ds ≡ move unlined es = ap definitions e in
    (printed_alike ds es f, rows_alike ds es f, notes_alike ds es f)
outcomes_alike (refused e p n) (refused f q m) h =
    let r : e ∷ p ∷ n ∷ [] ≡ f ∷ q ∷ m ∷ [] = ap refusal h in
    (ap (λ (l : List ℕ). get_or l 0 0) r, ap (λ (l : List ℕ). get_or l 1 0) r, ap (λ (l : List ℕ). get_or l 2 0) r)
outcomes_alike (accepted ds) (refused f q m) h = let z : ◌≡◌ {A = ℕ} 0 3 = ap (λ (o : Outcome (List Definition)). length (refusal o)) h in omega arith
outcomes_alike (refused e p n) (accepted es) h = let z : ◌≡◌ {A = ℕ} 3 0 = ap (λ (o : Outcome (List Definition)). length (refusal o)) h in omega arith
