-- What the code does is the numbering of the text.
--     refuses, handed   nothing is left; what is lent, by the names that it was lent under
--     refused_means     the reading refused the text, and a `?` hands that on
--     accepted_means    the reading accepted it, and its members were numbered
use mathlib.Core.Path.{◌≡◌, sym, ap, ◌∙◌}
use mathlib.Core.List.{List, [], ◌∷◌}
use Prim.Native.Nat.{ℕ}
use lib.ListN.{length, replicate, length-replicate}
use lib.IntN.{ℤ, pos}
use Rattle.lexer.specs.Outcome.{Outcome, accepted, refused}
use Rattle.ast.specs.Ast.{Definition}
use Rattle.ast.specs.Records.{node_rows, notes}
use Rattle.ast.proofs.Counts.{cleared_same}
use Rattle.parser.specs.declared.Counts.{Counts}
use Rattle.parser.specs.Read.{Answer}
use Rattle.parser.specs.Read.{outcome, answer, after, left, rows_by, reading, told as read_told}
use Rattle.records.specs.Table.{File}
use Rattle.records.proofs.RecordLaws.{cleared_twice}
use Rattle.records.proofs.Reading.{Accepts, read_refused, read_accepted}
use Rattle.std.specs.Prelude.{Result, Ok, Err}
use Rattle.lexer.specs.Refusal.{number_of, said_by}
use Rattle.lexer.specs.declared.error.Refusal.{Refusal}
use Rattle.enum_members.specs.Numbers as E
use Rattle.enum_members.specs.Numbers.{member_numbers, counted, numbers_of, listed, Listing, listing}
use Rattle.enum_members.proofs.WalkLaws.{wipe_all}
use Rattle.reader.specs.declared.Lent.{Lent}
use Rattle.reader.specs.Refuses.{Refuses}
use Rattle.std.specs.Result.{IsErr, IsErrAnd}
use Rattle.std.proofs.lemmas.Result.{err_from_is_err_and}
use Rattle.enum_numbers.specs.Numbering.{Numbering, told, numbers_by, numbering}
use Rattle.enum_numbers.specs.Whole.{refusing, judged}

pub refuses : {s t : Lent ℤ} {r : Result ℕ Refusal} {f : Refusal} → Refuses (λ x. x ≡ pos 0) f s t r
    → told r t.nodes.now t.comments.now t.out.now ≡ judged (Err f) s.nodes.now s.comments.now s.out.now
unfolding judged refusing said_by
refuses w = rw (w.says, w.nodes, w.comments, wipe_all w.out.0 _ _ w.out.1 w.out.2)

pub handed : (X : Numbering) (r : Result ℕ Refusal) (t t' u u' : List ℕ) (o o' : List ℤ) → told r t u o ≡ X → t' ≡ t → u' ≡ u → o' ≡ o → told r t' u' o' ≡ X
handed X r t t' u u' o o' e h k l = rw (h, k, l) e

list_twice : (l : List ℤ) → E.cleared (E.cleared l) ≡ E.cleared l
unfolding E.cleared
list_twice l = ap (λ (n : ℕ). replicate n (pos 0)) (length-replicate (length l) (pos 0))

module _ (t ns cs : List ℕ) (list : List ℤ) where
  -- by what the members give
  given : (ds : List Definition) {ks : List ℕ} → outcome t ≡ accepted ds → answer (outcome t) ns cs ≡ accepted ks → (x : Outcome (List ℕ)) → counted (member_numbers ds) list ≡ x →
      record { says = x; nodes = left x (node_rows ds) ns; comments = left x (notes ds) cs; list = listed x (numbers_of (member_numbers ds)) list } ≡ numbering t ns cs list
  unfolding numbering numbers_by after rows_by
  given ds f q x e = rw (q, f, e)

  by_members : {n c : ℕ} {ns₁ cs₁ : List ℕ} (q : Accepts t ns cs n c ns₁ cs₁) (m : Result ℕ Refusal) (list₁ : List ℤ) → E.told m list₁ ≡ listing (member_numbers q.ds) list →
      judged m ns₁ cs₁ list₁ ≡ numbering t ns cs list
  unfolding judged refusing said_by left listing listed
  by_members q (Ok k) list₁ e =
      let x : counted (member_numbers q.ds) list ≡ accepted (k ∷ []) = sym (ap (λ (z : Listing). z.says) e) in
      let y : list₁ ≡ listed (accepted (k ∷ [])) (numbers_of (member_numbers q.ds)) list =
      ap (λ (z : Listing). z.list) e ∙ ap (λ (z : Outcome (List ℕ)). listed z (numbers_of (member_numbers q.ds)) list) x in
      rw (q.nodes, q.comments, y) (given q.ds q.found q.answers (accepted (k ∷ [])) x)
  by_members {ns₁ = ns₁} {cs₁ = cs₁} q (Err r) list₁ f =
      let x : counted (member_numbers q.ds) list ≡ refused (number_of r.kind) r.place r.length = sym (ap (λ (z : Listing). z.says) f) in
      let y : list₁ ≡ E.cleared list = ap (λ (z : Listing). z.list) f ∙ ap (λ (z : Outcome (List ℕ)). listed z (numbers_of (member_numbers q.ds)) list) x in
      rw (cleared_same ns ns₁ q.long, cleared_same cs cs₁ q.broad, y, list_twice list) (given q.ds q.found q.answers (refused (number_of r.kind) r.place r.length) x)

  module _ (a : Answer) (ns₁ cs₁ : List ℕ) (r : read_told a ns₁ cs₁ ≡ reading t ns cs) where
    pub refused_means : (f : Refusal) → a ≡ Err f → (m : Result ℕ Refusal) → IsErr m × IsErrAnd m (λ z. z ≡ f) → judged m ns₁ cs₁ list ≡ numbering t ns cs list
    unfolding judged refusing numbering after left listed
    refused_means f h m g =
        let p = err_from_is_err_and m g.1 in
        let e : m ≡ Err f = cc in
        let q = read_refused t ns cs a ns₁ cs₁ r h in
        rw (e, q.answers, q.nodes, q.comments, cleared_twice ns, cleared_twice cs)

    pub accepted_means : (k : Counts) → a ≡ Ok k → (m : Result ℕ Refusal) (list₁ : List ℤ) →
        ((ds : List Definition) → File t ns₁ k.nodes ds → E.told m list₁ ≡ listing (member_numbers ds) list) → judged m ns₁ cs₁ list₁ ≡ numbering t ns cs list
    accepted_means k h m list₁ g = let q = read_accepted t ns cs a ns₁ cs₁ r h in by_members q m list₁ (g q.ds q.file)
