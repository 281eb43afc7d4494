-- The writing of both tables, and the whole printing, in code.
--     refuses, handed              all wiped; what is lent, by the names that it was lent under
--     fits_is, over_is             the output wiped behind the print; 27
--     written_is                   what the writing of the document left, if it fits
--     all_long, all_wide           20 and 26
--     all_refused, all_accepted    the reading refused the text, and the reading accepted it
use mathlib.Core.Path.{◌≡◌, sym, ap, ◌∙◌}
use mathlib.Core.List.{List, [], ◌∷◌}
use Prim.Native.Nat.{ℕ, ◌*◌, ◌≤◌, ◌<◌}
use borrow.Author.Tests.{lt-ltb, le-ltb}
use lib.ListN.{length, take}
use Rattle.ast.specs.Clear.{Cleared}
use Rattle.ast.specs.Records.{comment_width, node_width, room}
use Rattle.ast.proofs.ClearLaws.{cleared_by}
use Rattle.std.specs.Prelude.{Ok, Err}
use Rattle.lexer.specs.Refusal.{said_by}
use Rattle.lexer.specs.declared.error.Refusal.{Refusal}
use Rattle.parser.specs.declared.Counts.{Counts}
use Rattle.parser.specs.Read.{Answer}
use Rattle.parser.specs.Read.{Reading, reading, said, told as read_told}
use Rattle.steps.specs.Into.{rest_at, wiped}
use Rattle.steps.proofs.Cells.{wipe_all}
use Rattle.lexer.specs.Outcome.{accepted}
use Rattle.writer.specs.Write.{Printed, Printing, told}
use Rattle.reader.specs.declared.Lent.{Lent}
use Rattle.reader.specs.Refuses.{Refuses}
use Rattle.std.specs.Result.{IsErr, IsErrAnd}
use Rattle.std.proofs.lemmas.Result.{err_from_is_err_and}
use Rattle.cursor.specs.declared.Cursor.{Cursor}
use Rattle.cursor.specs.Onto.{Reached, reached}
use Rattle.write_definitions.specs.Onto.{document_out}
use Rattle.printer.specs.Onto.{opening, refusing, judged, fits, ended, used, writing, by_answer, by_reading, all}

-- what clear leaves
as_wiped : (i : ℕ) (o o' : List ℕ) → Cleared (λ x. x ≡ 0) i o o' → o' ≡ wiped i o
unfolding wiped
as_wiped = cleared_by 0

pub refuses : {s t : Lent ℕ} {r : Printed} {f : Refusal} → Refuses (λ x. x ≡ 0) f s t r
    → told r t.nodes.now t.comments.now t.out.now ≡ judged (Err f) s.nodes.now s.comments.now s.out.now
unfolding judged refusing said_by
refuses {s} {t} w = rw (w.says, w.nodes, w.comments, as_wiped 0 s.out.now t.out.now w.out, wipe_all)

pub handed : (X : Printing) (p : Printed) (t t' u u' o o' : List ℕ) → told p t u o ≡ X → t' ≡ t → u' ≡ u → o' ≡ o → told p t' u' o' ≡ X
handed X p t t' u u' o o' e h k l = rw (h, k, l) e

pub fits_is : (n c len : ℕ) (t u o o' : List ℕ) → len ≤ length o → Cleared (λ x. x ≡ 0) len o o'
    → record { says = accepted (n ∷ c ∷ len ∷ []); nodes = t; comments = u; output = o' } ≡ fits n c len t u o
unfolding fits
fits_is n c len t u o o' h e = rw (le-ltb (length o) len h, as_wiped len o o' e)

pub over_is : (n c len : ℕ) (t u o : List ℕ) → length o < len → refusing 27 0 0 t u o ≡ fits n c len t u o
unfolding fits
over_is n c len t u o h = rw (lt-ltb (length o) len h)

pub written_is : (text : List ℕ) (indent n c : ℕ) (t u o o' : List ℕ) (p : Cursor) (r : Printing) (a b : ℕ) → a ≡ rest_at (n * node_width) (length t) → b ≡ rest_at (c * comment_width) (length u)
    → reached p o' ≡ document_out text (take a t) (room node_width (take a t)) (take b u) (room comment_width (take b u)) indent (record { node = 0; comment = 0; length = 0 }) o
    → r ≡ fits n c p.length t u o' → r ≡ writing text indent n c t u o
unfolding writing used ended opening
written_is text indent n c t u o o' p r a b h k e f = f ∙ ap (λ (i : Reached). ended i n c t u) e ∙ rw (h, k)

module _ (text : List ℕ) (indent : ℕ) (t u o : List ℕ) where
  pub all_long : 65536 < length text → refusing 20 0 0 t u o ≡ all text indent t u o
  unfolding all
  all_long h = rw (lt-ltb _ _ h)

  pub all_wide : length text ≤ 65536 → 8 < indent → refusing 26 0 0 t u o ≡ all text indent t u o
  unfolding all
  all_wide h k = rw (le-ltb _ _ h, lt-ltb _ _ k)

  module _ (h : length text ≤ 65536) (k : indent ≤ 8) (a : Answer) (t₁ u₁ : List ℕ) (e : read_told a t₁ u₁ ≡ reading text t u) where
    all_read : by_answer (said a) text indent t₁ u₁ o ≡ all text indent t u o
    unfolding all by_reading
    all_read = ap (λ (r : Reading). by_reading r text indent o) e ∙ rw (le-ltb _ _ h, le-ltb _ _ k)

    pub all_refused : (r : Refusal) → a ≡ Err r → (p : Printed) → IsErr p × IsErrAnd p (λ z. z ≡ r) → judged p t₁ u₁ o ≡ all text indent t u o
    unfolding judged by_answer said_by
    all_refused r f p g =
        let w = err_from_is_err_and p g.1 in
        let e : p ≡ Err r = cc in
        rw e (ap (λ (x : Answer). by_answer (said x) text indent t₁ u₁ o) (sym f) ∙ all_read)

    pub all_accepted : (c : Counts) → a ≡ Ok c → writing text indent c.nodes c.comments t₁ u₁ o ≡ all text indent t u o
    unfolding by_answer said_by
    all_accepted c f = ap (λ (x : Answer). by_answer (said x) text indent t₁ u₁ o) (sym f) ∙ all_read
