-- What readers of definitions are, as their first call and what follows it; and by the keyword.
use mathlib.Core.Path.{◌≡◌, refl, ap}
use mathlib.Core.Bool.{cond}
use mathlib.Core.List.{List}
use Prim.Native.Nat.{ℕ}
use lib.Dec.{eqb}
use Rattle.std.specs.Prelude.{Option, Some, None}
use Rattle.token.specs.Code.{code}
use Rattle.token.specs.declared.Token.{Token}
use Rattle.token.specs.declared.Token.TheVariants as T
use Rattle.ast.specs.Records.{no_parent}
use Rattle.parser.proofs.KindLaws.{unlike}
use Rattle.steps.specs.declared.state.State.{State}
use Rattle.steps.specs.Into.{code_of, numbered, M, ◌⨟◌, advance_in, after, begin_node_in, done, node_in, open_in, opened, own_in, refused}
use Rattle.steps.proofs.Shapes.{assoc}
use Rattle.parse_fields.specs.Into.{name_in}
use Rattle.parse_definitions.specs.Into.{begin_in, define_in, definition_by, definition_in, extends_in, own_record_in}

pub define_is : (text : List ℕ) (b k : ℕ) (inside : ℕ → M) (st : State) (t u : List ℕ) → define_in text b k inside st t u ≡
    after (begin_node_in st t u) (advance_in text ⨟ (inside st.next ⨟ node_in st.next k 0 st.loc.start b no_parent))
unfolding define_in begin_in own_record_in begin_node_in open_in after
define_is text b k inside st t u = assoc (own_in st.next (opened st) t u) (advance_in text) (inside st.next ⨟ node_in st.next k 0 st.loc.start b no_parent)

pub extends_is : (text : List ℕ) (b p : ℕ) (st : State) (t u : List ℕ) → extends_in text b p st t u ≡ cond (eqb (code_of st) 11) (after (advance_in text st t u) (name_in text 18 b p)) (done st t u)
unfolding extends_in advance_in after
extends_is text b p st t u = refl

-- ---- by the token ahead

module _ (text : List ℕ) (b : ℕ) (st : State) (t u : List ℕ) where
  pub definition_at : {k : Token} → st.token ≡ Some k → definition_in text b st t u ≡ definition_by text b (code k) st t u
  unfolding definition_in numbered
  definition_at h = ap (λ (a : Option Token). definition_by text b (numbered a) st t u) h

  pub definition_none : st.token ≡ None → definition_in text b st t u ≡ refused 2 st t u
  unfolding definition_in definition_by numbered
  definition_none h = ap (λ (a : Option Token). definition_by text b (numbered a) st t u) h

  pub by_none_of : (k : Token) → (k ≡ T.Namespace → ⊥) → (k ≡ T.CppInclude → ⊥) → (k ≡ T.Include → ⊥) → (k ≡ T.Typedef → ⊥) → (k ≡ T.Const → ⊥) → (k ≡ T.Enum → ⊥) → (k ≡ T.Struct → ⊥)
      → (k ≡ T.Union → ⊥) → (k ≡ T.Exception → ⊥) → (k ≡ T.Service → ⊥) → definition_by text b (code k) st t u ≡ refused 2 st t u
  unfolding definition_by code
  by_none_of k n c i y o e s v x w = rw (unlike n, unlike c, unlike i, unlike y, unlike o, unlike e, unlike s, unlike v, unlike x, unlike w)
