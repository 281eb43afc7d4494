-- An answer as its numbers.
--     told_said                                 the numbers of an answer whose counts stand behind 0
--     check_answer, read_answer, enum_answer, print_answer, move_answer
--                                               what each call answers and leaves, from what the code's answer says
use mathlib.Core.Path.{◌≡◌, sym, ap, ◌∙◌}
use mathlib.Core.List.{List, [], ◌∷◌}
use Prim.Native.Nat.{ℕ}
use lib.IntN.{ℤ}
use Rattle.lexer.specs.Outcome.{Outcome, numbers}
use Rattle.std.specs.Prelude.{Ok, Err, IsOkAnd, MatchResult}
use Rattle.std.specs.declared.result.Result.{Result}
use Rattle.lexer.specs.declared.error.Refusal.{Refusal}
use Rattle.lexer.specs.Refusal.{said_by}
use Rattle.lexer.specs.Check.{checked, found}
use Rattle.parser.specs.Read as R
use Rattle.parser.specs.Read.{Answer, Reading}
use Rattle.enum_numbers.specs.Numbering as N
use Rattle.enum_numbers.specs.Numbering.{Numbering}
use Rattle.writer.specs.Write as W
use Rattle.writer.specs.Write.{Printed, Printing}
use Rattle.move_tables.specs.Moves as M
use Rattle.move_tables.specs.Moves.{Moved, Moving}
use Rattle.link.specs.Told.{laid, told_numbers}

-- the numbers of an answer whose counts stand behind 0
pub told_said : {A : Type 0} {P : A → List ℕ → Type 0} (f : A → List ℕ) → ((x : A) (ns : List ℕ) → P x ns → ns ≡ 0 ∷ f x)
    → (a : Result A Refusal) (b : Result (List ℕ) Refusal) → MatchResult a (λ x. IsOkAnd b (P x)) (λ e. b ≡ Err e) → told_numbers b ≡ numbers (said_by f a)
unfolding told_numbers said_by numbers
told_said f p (Ok x) (Ok ns) h = p x ns h
told_said f p (Ok x) (Err e) h = elim h [ ]
told_said f p (Err e) b h = ap told_numbers h

-- the numbers of what an answer says, in a slice
laid_same : {o q : Outcome (List ℕ)} (l l' ns : List ℕ) → o ≡ q → ns ≡ numbers o → l' ≡ laid ns l → l' ≡ laid (numbers q) l
laid_same l l' ns e n k = k ∙ ap (λ (x : List ℕ). laid x l) (n ∙ ap numbers e)

pub check_answer : (t : List ℕ) (a : Result (Unit {0}) Refusal) → found a ≡ checked t → (l l' ns : List ℕ) → ns ≡ numbers (found a) → l' ≡ laid ns l → l' ≡ laid (numbers (checked t)) l
check_answer t a e l l' ns n k = laid_same l l' ns e n k

pub read_answer : (a : Answer) (t u : List ℕ) (r : Reading) → R.told a t u ≡ r → (l l' ns : List ℕ) → ns ≡ numbers (R.said a) → l' ≡ laid ns l
    → (t ≡ r.nodes) × (u ≡ r.comments) × (l' ≡ laid (numbers r.says) l)
read_answer a t u r e l l' ns n k =
    (ap (λ (x : Reading). x.nodes) e, ap (λ (x : Reading). x.comments) e, laid_same l l' ns (ap (λ (x : Reading). x.says) e) n k)

pub enum_answer : (a : Result ℕ Refusal) (t u : List ℕ) (x : List ℤ) (r : Numbering) → N.told a t u x ≡ r → (l l' ns : List ℕ) → ns ≡ numbers (said_by (λ n. n ∷ []) a) → l' ≡ laid ns l
    → (t ≡ r.nodes) × (u ≡ r.comments) × (x ≡ r.list) × (l' ≡ laid (numbers r.says) l)
enum_answer a t u x r e l l' ns n k = (
  ap (λ (y : Numbering). y.nodes) e,
  ap (λ (y : Numbering). y.comments) e,
  ap (λ (y : Numbering). y.list) e,
  laid_same l l' ns (ap (λ (y : Numbering). y.says) e) n k,
)

pub print_answer : (a b : Printed) (t u o : List ℕ) (r : Printing) → W.told a t u o ≡ r → (l l' ns : List ℕ) → a ≡ b → numbers (W.said b) ≡ ns → l' ≡ laid ns l
    → (t ≡ r.nodes) × (u ≡ r.comments) × (o ≡ r.output) × (l' ≡ laid (numbers r.says) l)
print_answer a b t u o r e l l' ns h n k = (
  ap (λ (x : Printing). x.nodes) e,
  ap (λ (x : Printing). x.comments) e,
  ap (λ (x : Printing). x.output) e,
  laid_same l l' ns (ap W.said (sym h) ∙ ap (λ (x : Printing). x.says) e) (sym n) k,
)

pub move_answer : (a : Moved) (o : List ℕ) (r : Moving) → M.told a o ≡ r → (l l' ns : List ℕ) → ns ≡ numbers (M.said a) → l' ≡ laid ns l
    → (o ≡ r.out) × (l' ≡ laid (numbers r.says) l)
move_answer a o r e l l' ns n k = (ap (λ (x : Moving). x.out) e, laid_same l l' ns (ap (λ (x : Moving). x.says) e) n k)
