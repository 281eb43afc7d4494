-- What the steps raise where a text is refused in the grammar (document 02, Change 8).
--     refusals        with no token left, at the last one; or with a token of the text in hand, at that one, and then neither 3 nor 5 nor 7
--     none_in_hand    so 3, 5 and 7 are raised only where no token is left
--     never_answered  and no text is refused with 5 or 7
use mathlib.Core.Path.{◌≡◌, refl, sym, ap, ◌∙◌}
use mathlib.Core.Bool.{Bool, true, false, cond, ◌||◌, false≢true}
use mathlib.Core.List.{List, [], ◌∷◌, Memᴰ}
use Rattle.std.specs.Prelude.{Option, None}
use Prim.Native.Nat.{ℕ, ◌≤◌}
use lib.Dec.{eqb}
use lib.ListN.{length}
use Rattle.lexer.specs.declared.location.LOC.{LOC}
use Rattle.lexer.specs.Error.{UnexpectedEOF, UnrecognizedToken}
use Rattle.lexer.specs.Location.{opening}
use Rattle.lexer.specs.Outcome.{Outcome, accepted, refused}
use Rattle.lexer.specs.Tokens.{Lexeme, tokens}
use Rattle.lexer.specs.Check.{checked}
use Rattle.lexer.proofs.Ascii.{fine_means}
use Rattle.ast.specs.Ast.{Definition}
use Rattle.ast.specs.Lists.{All, anil, acons}
use Rattle.ast.proofs.Bools.{or_right}
use Rattle.parser.specs.Steps.{MissingTypeDeclaration, InvalidReturnType, Raised, raise, Res, ok, no}
use Rattle.parser.specs.Read.{parsed, error, answered, outcome_by, outcome}
use Rattle.parser.specs.Refusals.{last_place, end_kind, Refusal}
use Rattle.parser.specs.Refusals as R
use Rattle.parser.proofs.Walk.{Fault, none_left, in_hand, document_fault}

-- each of the tokens is one of them
member_more : {ts us : List Lexeme} {t : Lexeme} → All (λ u. Memᴰ u ts) us → All (λ u. Memᴰ u (t ∷ ts)) us
member_more anil = anil
member_more (acons h hs) = acons (Memᴰ.tail h) (member_more hs)

pub members : (ts : List Lexeme) → All (λ t. Memᴰ t ts) ts
members [] = anil
members (t ∷ ts) = acons (Memᴰ.head refl) (member_more (members ts))

abbrev Member : List ℕ → Lexeme → Type 0
Member text t = Memᴰ t (tokens text opening)

refusal_of : {text : List ℕ} (short : length text ≤ 65536) {r : Raised} {l : LOC} → Fault (length text) short (Member text) (last_place text) r l → Refusal text r l
refusal_of short (none_left e) = R.none_left e
refusal_of short (in_hand h f) = R.in_hand h f

at_end : {text : List ℕ} {e : ℕ} {x : Option Lexeme} {l : LOC} → Refusal text (raise e x) l → end_kind e ≡ true → (x ≡ None) × (l ≡ last_place text)
at_end (R.none_left p) h = (refl, p)
at_end (R.in_hand m f) h = absurd (false≢true (sym f ∙ h))

module _ (text : List ℕ) (short : length text ≤ 65536) where
  pub refusals : (r : Raised) (l : LOC) → parsed text ≡ no r l → Refusal text r l
  refusals r l e = refusal_of short (document_fault text short (Member text) (members (tokens text opening)) e)

  pub none_in_hand : (e : ℕ) (x : Option Lexeme) (l : LOC) → parsed text ≡ no (raise e x) l → end_kind e ≡ true → (x ≡ None) × (l ≡ last_place text)
  none_in_hand e x l p h = at_end (refusals (raise e x) l p) h

-- ---- answers

-- 5 or 7
abbrev FiveSeven : ℕ → Bool
FiveSeven e = eqb e MissingTypeDeclaration || eqb e InvalidReturnType

end_neither : (b : Bool) → FiveSeven (cond b UnexpectedEOF UnrecognizedToken) ≡ false
end_neither true = refl
end_neither false = refl

error_neither : {text : List ℕ} {r : Raised} {l : LOC} → Refusal text r l → FiveSeven (error r l text) ≡ false
unfolding error
error_neither {text} {l = l} (R.none_left p) = end_neither (eqb l.end.index (length text))
error_neither (R.in_hand {e = e} m f) = or_right (eqb e UnexpectedEOF) (FiveSeven e) f

number : Outcome (List Definition) → ℕ
number (accepted ds) = 0
number (refused e p n) = e

answered_neither : (text : List ℕ) → length text ≤ 65536 → (m : Res (List Definition)) → parsed text ≡ m → FiveSeven (number (answered m text)) ≡ false
unfolding answered number
answered_neither text short (ok ds s) p = refl
answered_neither text short (no r l) p = error_neither (refusals text short r l p)

pub never_answered : (text : List ℕ) {ns : List ℕ} {e p n : ℕ} → checked text ≡ accepted ns → outcome text ≡ refused e p n → FiveSeven e ≡ false
unfolding outcome outcome_by number
never_answered text {e = e} c o =
    let q : number (answered (parsed text) text) ≡ e = ap number (rw c at o) in
    rw q at (answered_neither text (fine_means text c).0 (parsed text) refl)
