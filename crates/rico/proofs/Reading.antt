-- The port's reading beside rico's.
--     lines_same    in a text without the pair a reading with rico's lines is the port's
--     lines_alike   in every text it is refused, read and printed the same, but for lines and columns of the records
--     fields_same   where the begun fields all start with an integer token, rico's answer is the one of the port's field rule, with rico's lines
--     begun_never   such texts by the number that they are not refused with
--     same, alike   so rico's answer is the port's without the pair, and is so but for lines and columns of the records with it
use mathlib.Core.Path.{◌≡◌, refl, sym, ◌∙◌}
use mathlib.Core.Bool.{false}
use mathlib.Core.List.{List}
use Prim.Native.Nat.{ℕ}
use Rattle.lexer.specs.Outcome.{Outcome, accepted, refused}
use Rattle.lexer.specs.Location.{has_pair, opening}
use Rattle.lexer.specs.Tokens as K
use Rattle.lexer.specs.Check.{checked}
use Rattle.parser.specs.Definitions as D
use Rattle.parser.specs.Read as R
use Rattle.rico.specs.Lines.{tokens}
use Rattle.rico.specs.Fields.{parse_field_id, stopping}
use Rattle.rico.specs.Reading.{parsed_by, outcome_by, outcome_with, outcome, IntegersBegin, unlined_outcome, Alike}
use Rattle.rico.proofs.Lines.{same_tokens, alike_tokens}
use Rattle.fuel.proofs.Anchor.{document_anchor}
use Rattle.rico.proofs.Fields.{rico_till, port_till, same_answer, never_answer}
use Rattle.rico.proofs.Alike.{answered_alike, outcomes_alike}

-- ---- the lines

module _ (t : List ℕ) where
  same_by : has_pair t ≡ false → (c : Outcome (List ℕ)) → outcome_by D.parse_field_id (tokens t) c t ≡ R.outcome_by c t
  unfolding R.outcome_by R.parsed outcome_by parsed_by
  same_by e (accepted ns) = rw (document_anchor, same_tokens t e)
  same_by e (refused n p l) = refl

  pub lines_same : has_pair t ≡ false → outcome_with D.parse_field_id t ≡ R.outcome t
  unfolding R.outcome outcome_with
  lines_same e = same_by e (checked t)

  alike_by : (c : Outcome (List ℕ)) → unlined_outcome (R.outcome_by c t) ≡ unlined_outcome (outcome_by D.parse_field_id (tokens t) c t)
  unfolding R.outcome_by R.parsed outcome_by parsed_by
  alike_by (accepted ns) = rw document_anchor (answered_alike (K.tokens t opening) (tokens t) (alike_tokens t) t)
  alike_by (refused n p l) = refl

  pub lines_alike : Alike (R.outcome t) (outcome_with D.parse_field_id t)
  unfolding R.outcome outcome_with
  lines_alike = outcomes_alike _ _ (alike_by (checked t))

-- ---- the fields

module _ (t : List ℕ) where
  fields_by : (c : Outcome (List ℕ)) → outcome_by (stopping 0) (tokens t) c t ≡ outcome_by (stopping 1) (tokens t) c t →
      outcome_by parse_field_id (tokens t) c t ≡ outcome_by D.parse_field_id (tokens t) c t
  unfolding outcome_by
  fields_by (accepted ns) e = sym (same_answer (rico_till 0 1 (tokens t)) t e) ∙ same_answer (port_till 0 1 (tokens t)) t e
  fields_by (refused n p l) e = refl

  pub fields_same : IntegersBegin t → outcome t ≡ outcome_with D.parse_field_id t
  unfolding outcome outcome_with
  fields_same h = fields_by (checked t) (h 0 1)

  never_by : (n : ℕ) (c : Outcome (List ℕ)) → ((p l : ℕ) → outcome_by (stopping 0) (tokens t) c t ≡ refused 0 p l → ⊥) →
      outcome_by (stopping 0) (tokens t) c t ≡ outcome_by (stopping n) (tokens t) c t
  unfolding outcome_by
  never_by n (accepted ns) h = never_answer (rico_till 0 n (tokens t)) t h
  never_by n (refused e p l) h = refl

  pub begun_never : ((p l : ℕ) → outcome_with (stopping 0) t ≡ refused 0 p l → ⊥) → IntegersBegin t
  unfolding outcome_with
  begun_never h e f = sym (never_by e (checked t) h) ∙ never_by f (checked t) h

-- ---- both

module _ (t : List ℕ) (h : IntegersBegin t) where
  pub same : has_pair t ≡ false → outcome t ≡ R.outcome t
  same e = fields_same t h ∙ lines_same t e

  pub alike : Alike (R.outcome t) (outcome t)
  alike = rw (fields_same t h) (lines_alike t)
