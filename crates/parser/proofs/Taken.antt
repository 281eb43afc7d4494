-- What acceptance says of a text.
--     taken_means   it passes 20 to 22, and its tokens read as its definitions
use mathlib.Core.Path.{◌≡◌, refl, ap, ◌∙◌}
use mathlib.Core.Bool.{Bool, true, false, false≢true}
use mathlib.Core.List.{List, []}
use Prim.Native.Nat.{ℕ, ◌≤◌}
use lib.ListN.{length}
use Rattle.lexer.specs.Outcome.{Outcome, accepted, refused}
use Rattle.lexer.specs.Check.{checked}
use Rattle.lexer.proofs.CheckLaws.{fine}
use Rattle.lexer.proofs.Ascii.{fine_means}
use Rattle.ast.specs.Ast.{Definition}
use Rattle.parser.specs.Steps.{St, Res, ok, no}
use Rattle.parser.specs.Read.{parsed, answered, outcome_by, outcome}

pub record Taken (t : List ℕ) (ds : List Definition) : Type 0 where
  pub short : length t ≤ 65536
  pub fine : checked t ≡ accepted []
  pub after : St
  pub reads : parsed t ≡ ok ds after

accepts : Outcome (List Definition) → Bool
accepts (accepted ds) = true
accepts (refused e p n) = false

definitions : Outcome (List Definition) → List Definition
definitions (accepted ds) = ds
definitions (refused e p n) = []

same : (xs ds : List Definition) → accepted xs ≡ accepted ds → xs ≡ ds
unfolding definitions
same xs ds e = ap definitions e

fine_nil : (t : List ℕ) {ns : List ℕ} → checked t ≡ accepted ns → checked t ≡ accepted []
fine_nil t e = let f = fine_means t e in fine t f.0 f.1 f.2

taken_by : (c : Outcome (List ℕ)) (m : Res (List Definition)) (t : List ℕ) (ds : List Definition) → checked t ≡ c → parsed t ≡ m → outcome_by c t ≡ accepted ds → Taken t ds
unfolding outcome_by answered accepts
taken_by (accepted ns) (ok xs s) t ds f p e = record {
  short = (fine_means t f).0;
  fine = fine_nil t f;
  after = s;
  reads = p ∙ ap (λ (x : List Definition). ok x s) (same xs ds (rw p at e));
}
taken_by (accepted ns) (no x l) t ds f p e = absurd (false≢true (ap accepts (rw p at e)))
taken_by (refused x q n) m t ds f p e = absurd (false≢true (ap accepts e))

pub taken_means : (t : List ℕ) (ds : List Definition) → outcome t ≡ accepted ds → Taken t ds
unfolding outcome
taken_means t ds e = taken_by (checked t) (parsed t) t ds refl refl e
