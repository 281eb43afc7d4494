-- The claims shut out each of these tables, by computation:
--     token_before   a definition's range that starts at the token before its keyword
--     two_tokens     a name's range that covers two tokens
--     shared_token   two definitions that share a token
--     left_out       a definition that is left out
use mathlib.Core.Path.{◌≡◌, refl, sym, ap, ◌∙◌}
use mathlib.Core.Bool.{Bool, true, false, cond, ◌&&◌, false≢true}
use mathlib.Core.List.{List, [], ◌∷◌, Memᴰ}
use Prim.Native.Nat.{ℕ, suc, zero, ◌≤◌}
use native.Mathlib.Omega.{arith}
use borrow.Author.Tests.{eq-eqb, ltb-true}
use lib.Dec.{eqb, ltb}
use lib.ListN.{length, get_or}
use Rattle.token.specs.Code.{code, is, among}
use Rattle.token.specs.Regex.{bytes, ranges, within, nullable, is_nothing, then, or, deriv}
use Rattle.token.specs.Patterns.{
  one_of,
  none_of,
  plus,
  opt,
  exact,
  word_rule,
  token,
  words,
  marks,
  name,
  quoted,
  digits,
  sign,
  exponent,
  point,
  stars,
  shapes,
  rest,
  rules,
}
use Rattle.token.specs.Scan.{derivs, first, keep, scan_from, scan}
use Rattle.lexer.specs.Cuts.{cut_at, cuts_from, cuts}
use Rattle.lexer.specs.Location.{pair, ends_line, behind, pass, span_of, between, opening}
use Rattle.lexer.specs.Tokens.{Lexeme, skipped, lexemes, tokens}
use Rattle.ast.specs.Kind as K
use Rattle.ast.specs.Records.{no_parent}
use Rattle.ast.proofs.Bools.{and_left}
use Rattle.parser.specs.Steps.{kind, place}
use Rattle.parser.specs.Order.{token_start, token_end, gap_kinds}
use Rattle.ranges.specs.Ranges.{row_at, kind_of, parent_of, start_of, end_of, starts_at, numbers, is_definition, keywords, held, Definition, Lies, in_definition, in_gap, Ranges}

-- a token of a definition's keyword starts at a
begins : ℕ → ℕ → List Lexeme → Bool
begins k a [] = false
begins k a (t ∷ ts) = cond (eqb a (token_start t) && among (kind t) (keywords k)) true (begins k a ts)

begins_of : (k a : ℕ) {t : Lexeme} {ts : List Lexeme} → Memᴰ t ts → a ≡ token_start t → among (kind t) (keywords k) ≡ true → begins k a ts ≡ true
unfolding begins
begins_of k a {t} (Memᴰ.head {x = x} e) h m =
    let y : eqb a (token_start x) ≡ true = eq-eqb a (token_start x) (h ∙ ap token_start e) in
    let z : among (kind x) (keywords k) ≡ true = rw e at m in
    rw (y, z)
begins_of k a (Memᴰ.tail {x = x} {xs = xs} g) h m = go (eqb a (token_start x) && among (kind x) (keywords k)) (begins_of k a g h m)
  where
    go : (b : Bool) → begins k a xs ≡ true → cond b true (begins k a xs) ≡ true
    go true e = refl
    go false e = e

begins_at : (text : List ℕ) (k p f a b c : ℕ) (r : List ℕ) → let w = k ∷ p ∷ f ∷ a ∷ b ∷ c ∷ r in Definition text w → begins k a (tokens text opening) ≡ true
unfolding starts_at numbers token_start kind_of
begins_at text k p f a b c r d = begins_of k a d.token (ap (λ (l : List ℕ). get_or l 0 0) d.starts) d.kinds

-- a row in a text of one line
abbrev pub line : ℕ → ℕ → ℕ → ℕ → ℕ → List ℕ
line k p a b past = k ∷ p ∷ 0 ∷ a ∷ 1 ∷ suc a ∷ b ∷ 1 ∷ suc b ∷ past ∷ []

pub token_before : Ranges (bytes "/**/enum A{}") (line K.Enum no_parent 0 12 2 ∷ line K.Name 0 9 10 2 ∷ []) → ⊥
unfolding code is among bytes ranges within nullable is_nothing then or deriv one_of none_of plus opt exact word_rule token words marks name quoted digits sign exponent point stars shapes rest rules derivs first keep scan_from scan cut_at cuts_from cuts pair ends_line behind pass span_of between opening skipped lexemes tokens kind place token_start token_end row_at kind_of parent_of start_of end_of starts_at numbers is_definition keywords held no_parent begins
token_before c = false≢true (begins_at (bytes "/**/enum A{}") K.Enum no_parent 0 0 1 1 _ (c.definitions 0 refl))

pub two_tokens : Ranges (bytes "namespace py a") (line K.Namespace no_parent 0 14 3 ∷ line K.Name 0 10 12 2 ∷ line K.Name 0 10 14 3 ∷ []) → ⊥
unfolding code is among bytes ranges within nullable is_nothing then or deriv one_of none_of plus opt exact word_rule token words marks name quoted digits sign exponent point stars shapes rest rules derivs first keep scan_from scan cut_at cuts_from cuts pair ends_line behind pass span_of between opening skipped lexemes tokens kind place token_start token_end row_at kind_of parent_of start_of end_of starts_at numbers is_definition keywords held no_parent begins
two_tokens c = let e : ◌≡◌ {A = ℕ} 2 1 = ap length (c.names 2 (omega arith) refl).only in omega arith

pub shared_token : Ranges (bytes "enum A{}enum B{}") (line K.Enum no_parent 0 12 2 ∷ line K.Name 0 5 6 2 ∷ line K.Enum no_parent 8 16 4 ∷ line K.Name 2 13 14 4 ∷ []) → ⊥
unfolding code is among bytes ranges within nullable is_nothing then or deriv one_of none_of plus opt exact word_rule token words marks name quoted digits sign exponent point stars shapes rest rules derivs first keep scan_from scan cut_at cuts_from cuts pair ends_line behind pass span_of between opening skipped lexemes tokens kind place token_start token_end row_at kind_of parent_of start_of end_of starts_at numbers is_definition keywords held no_parent begins
shared_token c = let h : 12 ≤ 8 = c.order 0 2 (omega arith) refl refl in omega arith

-- the second definition's keyword lies nowhere
nowhere : (t : Lexeme) → token_end t ≡ 12 → among (kind t) gap_kinds ≡ false → Lies (line K.Enum no_parent 0 8 2 ∷ line K.Name 0 5 6 2 ∷ []) t → ⊥
unfolding row_at end_of parent_of is_definition no_parent
nowhere t e g (in_gap h) = false≢true (sym g ∙ h)
nowhere t e g (in_definition zero d a b) = omega (arith, e, b)
nowhere t e g (in_definition (suc zero) d a b) = false≢true d
nowhere t e g (in_definition (suc (suc i)) d a b) = omega (arith, ltb-true (suc (suc i)) 2 (and_left (ltb (suc (suc i)) 2) _ d))

pub left_out : Ranges (bytes "enum A{}enum B{}") (line K.Enum no_parent 0 8 2 ∷ line K.Name 0 5 6 2 ∷ []) → ⊥
unfolding code is among bytes ranges within nullable is_nothing then or deriv one_of none_of plus opt exact word_rule token words marks name quoted digits sign exponent point stars shapes rest rules derivs first keep scan_from scan cut_at cuts_from cuts pair ends_line behind pass span_of between opening skipped lexemes tokens kind place token_start token_end row_at kind_of parent_of start_of end_of starts_at numbers is_definition keywords held no_parent begins
left_out c = nowhere _ refl refl (c.all _ (Memᴰ.tail (Memᴰ.tail (Memᴰ.tail (Memᴰ.tail (Memᴰ.head refl))))))
