-- The document and the whole reading in code.
--     gives, gives_on       what a call gives, by what else it is; of tables that are lent on
--     handed                the tables, by the names that they were lent under
--     all_read, from_first  the first token, and then all of the text
--     rest_is               a definition that was lent the unused rest of the table
--     parse_unknown         22, of a text that is parsed
--     parse_judged          what the grammar finds
--     read_long, read_ill, read_unknown   20, 21 and 22
use mathlib.Core.Path.{◌≡◌, refl, sym, ap, ap₂, ◌∙◌}
use mathlib.Core.List.{List, ◌++◌, append-nil}
use Rattle.std.specs.Prelude.{Option, Some, None}
use Prim.Native.Nat.{ℕ, ◌*◌, ◌-◌, ◌≤◌}
use native.Mathlib.Omega.{arith}
use lib.ListN.{length, take, drop, length-drop, drop_of_length-le}
use borrow.Rule.Slice.PartMut.{put_mid}
use Rattle.lexer.specs.Outcome.{refused}
use Rattle.lexer.specs.Refusal.{number_of}
use Rattle.lexer.specs.Cuts.{cuts, unrecognized}
use Rattle.lexer.specs.Check.{checked}
use Rattle.scan.proofs.Part.{part}
use Rattle.ast.specs.Records.{node_width, cleared}
use Rattle.steps.specs.declared.state.State.{State}
use Rattle.std.specs.Prelude.{Ok, Err}
use Rattle.steps.specs.declared.state.Parser.{Parser}
use Rattle.steps.specs.Reads.{Parsed, tells, Reads, Does}
use Rattle.steps.proofs.Chain.{begins, kept, last}
use Rattle.parser.specs.Read.{Answer, Reading, outcome_by, outcome, answer, left, reading}
use Rattle.steps.specs.Into.{Out, done, stop, advance_in, advanced, after, rest_at}
use Rattle.parse_definitions.specs.Into.{definition_in}
use Rattle.reader.specs.declared.Tables.{Tables}
use Rattle.reader.specs.Gives.{Gives}
use Rattle.reader.specs.Into.{in_rest, rest_in, document_in, unread, beginning, refusing, refusing_at, judged, unscanned, settled, parsing}

-- a call's answer and tables, by what else they are
pub gives : {m n : List ℕ → List ℕ → Reading} {s t : Tables} {r : Answer} → Gives m s t r → m s.nodes.now s.comments.now ≡ n s.nodes.now s.comments.now → Gives n s t r
gives g e = record { goes = g.goes ∙ e; nodes = g.nodes; comments = g.comments }

-- the same, of tables that are lent on
pub gives_on : {m n : List ℕ → List ℕ → Reading} {s s' t : Tables} {r : Answer} → Gives m s' t r → m s'.nodes.now s'.comments.now ≡ n s.nodes.now s.comments.now
    → s'.nodes.ghost_name ≡ s.nodes.ghost_name → s'.comments.ghost_name ≡ s.comments.ghost_name → Gives n s t r
gives_on g e h k = record { goes = g.goes ∙ e; nodes = g.nodes ∙ h; comments = g.comments ∙ k }

lent_tail : (at : ℕ) (t u : List ℕ) → put_mid at (length t - at) t u ≡ take at t ++ u
lent_tail at t u =
    let h : length (drop at t) ≤ length t - at = omega (arith, length-drop at t) in
    rw (drop_of_length-le (drop at t) h, append-nil u) refl

told_rest : (a : Parsed) (i : ℕ) (st : State) (t t₁ t₂ u' : List ℕ) → t₂ ≡ take i t ++ t₁ → tells a st t₂ u' ≡ in_rest i t (tells a st t₁ u')
unfolding tells in_rest
told_rest (Ok x) i st t t₁ t₂ u' e = ap (λ (x : List ℕ). done st x u') e
told_rest (Err r) i st t t₁ t₂ u' e = ap (λ (x : List ℕ). stop (number_of r.kind) r.loc st x u') e

pub rest_is : (text : List ℕ) (st st' : State) (at : ℕ) (t t₁ u u' : List ℕ) (a : Parsed) → at ≡ rest_at (st.next * node_width) (length t) →
    tells a st' t₁ u' ≡ definition_in text st.next st (take (length t - at) (drop at t)) u → tells a st' (put_mid at (length t - at) t t₁) u' ≡ rest_in text st t u
unfolding rest_in
rest_is text st st' at t t₁ u u' a h e =
    told_rest a at st' t t₁ _ u' (lent_tail at t t₁)
    ∙ ap (in_rest at t) (e ∙ ap (λ (x : List ℕ). definition_in text st.next st x u) (part t at))
    ∙ ap (λ (i : ℕ). in_rest i t (definition_in text st.next st (drop i t) u)) h

refusing_same : (e p n : ℕ) (t u t' u' : List ℕ) → length t' ≡ length t → length u' ≡ length u → refusing e p n t' u' ≡ refusing e p n t u
unfolding refusing cleared
refusing_same e p n t u t' u' h g = rw (h, g)

judged_same : (o : Out) (len : ℕ) (t u t₁ u₁ : List ℕ) → length t₁ ≡ length t → length u₁ ≡ length u → judged o len t₁ u₁ ≡ judged o len t u
unfolding judged refusing_at
judged_same (done st t' u') len t u t₁ u₁ h g = refl
judged_same (stop e l st t' u') len t u t₁ u₁ h g = refusing_same _ _ _ t u t₁ u₁ h g

module _ (text t u t₁ u₁ : List ℕ) (o : Out) (from : ℕ) (document : o ≡ document_in text (beginning text) t u)
    (f : from ≡ unscanned o) (y : length t₁ ≡ length t) (z : length u₁ ≡ length u) where
  parsed : (v : Option ℕ) → unrecognized (cuts (drop from text)) from ≡ v → settled v o (length text) t u ≡ parsing text t u
  unfolding parsing
  parsed v g =
      ap (λ (w : Option ℕ). settled w o (length text) t u) (sym g ∙ ap (λ (i : ℕ). unrecognized (cuts (drop i text)) i) f)
      ∙ ap (λ (o : Out). settled (unrecognized (cuts (drop (unscanned o) text)) (unscanned o)) o (length text) t u) document

  pub parse_unknown : (p : ℕ) (r : Reading) → unrecognized (cuts (drop from text)) from ≡ Some p → r ≡ refusing 22 p 0 t₁ u₁ → r ≡ parsing text t u
  unfolding settled
  parse_unknown p r g q = q ∙ refusing_same _ _ _ t u t₁ u₁ y z ∙ parsed (Some p) g

  pub parse_judged : (r : Reading) → unrecognized (cuts (drop from text)) from ≡ None → r ≡ judged o (length text) t₁ u₁ → r ≡ parsing text t u
  unfolding settled
  parse_judged r g q = q ∙ judged_same _ _ t u t₁ u₁ y z ∙ parsed None g

-- the tables, by the names that they were lent under
pub handed : (X : Out) (a : Parsed) (st : State) (t t' u u' : List ℕ) → tells a st t u ≡ X → t' ≡ t → u' ≡ u → tells a st t' u' ≡ X
handed X a st t t' u u' e h g = ap₂ (λ (x y : List ℕ). tells a st x y) h g ∙ e

-- the first token, and then all of the text
pub all_read : {s t u : Parser} {r : Parsed} → Does (λ x. advance_in x.text) s t → Reads (λ x. document_in x.text) t u r
    → Reads (λ x st. document_in x.text (advanced x.text st)) s u r
unfolding advance_in after
all_read a d = last d (kept a (document_in _) (begins refl))

pub from_first : (text t u : List ℕ) (o : Out) (st : State) → o ≡ document_in text (advanced text st) t u → st ≡ unread → o ≡ document_in text (beginning text) t u
unfolding beginning
from_first text t u o st e h = e ∙ ap (λ (s : State). document_in text (advanced text s) t u) h

-- 20, 21, 22
module _ (text t u : List ℕ) where
  pub read_long : checked text ≡ refused 20 0 0 → refusing 20 0 0 t u ≡ reading text t u
  unfolding reading outcome outcome_by answer left refusing
  read_long e = rw e refl

  pub read_ill : (p : ℕ) → checked text ≡ refused 21 p 0 → refusing 21 p 0 t u ≡ reading text t u
  unfolding reading outcome outcome_by answer left refusing
  read_ill p e = rw e refl

  pub read_unknown : (p : ℕ) → checked text ≡ refused 22 p 0 → refusing 22 p 0 t u ≡ reading text t u
  unfolding reading outcome outcome_by answer left refusing
  read_unknown p e = rw e refl
