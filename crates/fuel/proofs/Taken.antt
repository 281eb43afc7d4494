-- Every reader of an element takes at least one token, and no end test puts one back: of each by what parser's Paid says it pays.
use mathlib.Core.List.{List, [], ◌∷◌}
use Prim.Native.Nat.{ℕ, ◌*◌, ◌≤◌}
use native.Mathlib.Omega.{arith}
use Rattle.token.specs.declared.Token.{Token}
use Rattle.token.specs.declared.Token.TheVariants as T
use Rattle.lexer.specs.Tokens.{Lexeme}
use Rattle.ast.specs.Ast.{FieldInitialValue, Include, CppInclude}
use Rattle.ast.specs.Tree.{Tree, node}
use Rattle.ast.specs.Records.{size}
use Rattle.parser.specs.Steps.{St, pos, Res, P, refuse, next, want, start, here, taken, skip_separator, skip_comments, skip_comments_discard, skip_trivia, closed}
use Rattle.parser.specs.Values.{values_end, map_property, field_value}
use Rattle.parser.specs.Definitions as D
use Rattle.parser.specs.Definitions.{
  parse_type,
  parse_annotation,
  annotations_end,
  parse_field_id,
  parse_required,
  parse_field,
  members_end,
  parse_return_type,
  parse_oneway,
  parse_function,
  parse_initializer,
  parse_enum_member,
  parse_include,
  parse_namespace,
  parse_typedef,
  parse_extends,
  parse_definition,
  document_end,
}
use Rattle.parser.proofs.Paid.{
  Paid,
  paid,
  refused as unpaid,
  next_p,
  want_p,
  here_p,
  start_p,
  taken_p,
  separator_p,
  comments_p,
  discard_p,
  trivia_p,
  closed_p,
  value_p,
  parse_type_p,
  annotation_p,
  field_id_p,
  field_p,
  return_type_p,
  function_p,
  initializer_p,
  member_p,
  include_p,
  cpp_include_p,
  namespace_p,
  typedef_p,
  extends_p,
  definition_p,
}
use Rattle.fuel.specs.Takes.{tokens_left, Leaves, leaves, refused, Takes, Keeps}
use Rattle.fuel.proofs.Loop.{Alike, alike, itself, leaves_alike, weak_a, bind_a, test_a, when_a, fail_a, neither}

-- ---- what is paid was taken

module _ {A : Type 0} {x y : A → ℕ} {b : ℕ} where
  takes_paid : {r : Res A} (n : ℕ) → ((v : A) → 1 ≤ x v) → Paid x y (2 * n) b r → Leaves 1 n r
  takes_paid n f (paid {v = v} {s = s} h) = leaves {s = s} (omega (arith, f v))
  takes_paid n f unpaid = refused

  keeps_paid : {r : Res A} (n : ℕ) → Paid x y (2 * n) b r → Leaves 0 n r
  keeps_paid n (paid {s = s} h) = leaves {s = s} (omega arith)
  keeps_paid n unpaid = refused

-- a tree has a node
rooted : (t : Tree) → 1 ≤ size t
unfolding size
rooted (node k f l w c ts) = omega arith

-- ---- the readers of an element, each of which takes a token

pub value_takes : (d : ℕ) → Takes (field_value d)
value_takes d s = takes_paid _ (λ v. rooted _) (value_p d s)

pub annotation_takes : Takes parse_annotation
annotation_takes s = takes_paid _ (λ v. rooted _) (annotation_p s)

pub field_takes : Takes parse_field
field_takes s = takes_paid _ (λ v. rooted _) (field_p 0 s)

pub member_takes : Takes parse_enum_member
member_takes s = takes_paid _ (λ v. rooted _) (member_p s)

pub function_takes : Takes parse_function
function_takes s = takes_paid _ (λ v. rooted _) (function_p s)

pub definition_takes : Takes parse_definition
definition_takes s = takes_paid _ (λ v. rooted _) (definition_p s)

-- ---- the steps between

pub next_takes : Takes next
next_takes s = takes_paid _ (λ v. omega arith) (next_p s)

pub want_takes : (ks : List Token) (e : ℕ) → Takes (want ks e)
want_takes ks e s = takes_paid _ (λ v. omega arith) (want_p ks e s)

pub type_takes : Takes parse_type
type_takes s = takes_paid _ (λ v. rooted _) (parse_type_p s)

pub return_type_takes : Takes parse_return_type
return_type_takes s = takes_paid _ (λ v. rooted _) (return_type_p s)

pub include_takes : Takes (parse_include Include)
include_takes s = takes_paid _ (λ v. rooted _) (include_p s)

pub cpp_include_takes : Takes (parse_include CppInclude)
cpp_include_takes s = takes_paid _ (λ v. rooted _) (cpp_include_p s)

pub namespace_takes : Takes parse_namespace
namespace_takes s = takes_paid _ (λ v. rooted _) (namespace_p s)

pub typedef_takes : Takes parse_typedef
typedef_takes s = takes_paid _ (λ v. rooted _) (typedef_p s)

pub here_keeps : Keeps here
here_keeps s = keeps_paid _ (here_p s)

pub start_keeps : Keeps start
start_keeps s = keeps_paid _ (start_p s)

pub taken_keeps : Keeps taken
taken_keeps s = keeps_paid _ (taken_p s)

pub separator_keeps : Keeps skip_separator
separator_keeps s = keeps_paid _ (separator_p s)

pub comments_keeps : Keeps skip_comments
comments_keeps s = keeps_paid _ (comments_p s)

pub discard_keeps : Keeps skip_comments_discard
discard_keeps s = keeps_paid _ (discard_p s)

pub trivia_keeps : Keeps skip_trivia
trivia_keeps s = keeps_paid _ (trivia_p s)

pub closed_keeps : (k : Token) → Keeps (closed k)
closed_keeps k s = keeps_paid _ (closed_p k s)

pub initializer_keeps : Keeps parse_initializer
initializer_keeps s = keeps_paid _ (initializer_p s)

pub extends_keeps : Keeps parse_extends
extends_keeps s = keeps_paid _ (extends_p s)

-- ---- of two readings of the same, and of readings one behind another

pub taking : {A : Type 0} {p : P A} → Takes p → (s : St) → Alike 1 (tokens_left s) (p s) (p s)
taking h s = leaves_alike (h s)

pub keeping : {A : Type 0} {p : P A} → Keeps p → (s : St) → Alike 0 (tokens_left s) (p s) (p s)
keeping h s = leaves_alike (h s)

pub refuse_a : {A : Type 0} {x a : ℕ} (e : ℕ) (t : Lexeme) (s : St) → Alike x a (refuse {A = A} e t s) (refuse e t s)
unfolding refuse
refuse_a e t s = neither

pub field_id_keeps : Keeps parse_field_id
field_id_keeps s = keeps_paid _ (field_id_p s)

pub required_keeps : Keeps parse_required
unfolding parse_required
required_keeps s =
    itself (when_a _ _ _ _ _ s (bind_a (taking next_takes s) λ t u h. alike {s = u} (omega arith))
    (when_a _ _ _ _ _ s (bind_a (taking next_takes s) λ t u h. alike {s = u} (omega arith)) (alike {s = s} (omega arith))))

pub oneway_keeps : Keeps parse_oneway
unfolding parse_oneway
oneway_keeps s =
    itself (when_a _ _ _ _ _ s (bind_a (taking next_takes s) λ t u h. alike {s = u} (omega arith)) (alike {s = s} (omega arith)))

-- ---- the end tests, none of which puts a token back

pub values_end_keeps : (k : Token) → Keeps (values_end k)
unfolding values_end
values_end_keeps k s =
    itself (bind_a (keeping separator_keeps s) λ x u h1. bind_a (keeping discard_keeps u) λ x v h2. weak_a (λ n g. omega arith) (keeping (closed_keeps k) v))

pub annotations_end_keeps : Keeps annotations_end
unfolding annotations_end
annotations_end_keeps s = itself (bind_a (keeping discard_keeps s) λ x u h1. weak_a (λ n g. omega arith) (keeping (closed_keeps T.RightParen) u))

pub members_end_keeps : (k : Token) → Keeps (members_end k)
unfolding members_end
members_end_keeps k s =
    itself (bind_a (keeping separator_keeps s) λ x u h1. bind_a (keeping comments_keeps u) λ x v h2. weak_a (λ n g. omega arith) (keeping (closed_keeps k) v))

over_keeps : Keeps D.over
unfolding D.over
over_keeps (pos l c []) = itself (test_a _ _ _ _ _ (pos l c []) (fail_a 1 (pos l c [])) (alike {s = pos l c []} (omega arith)))
over_keeps (pos l c (t ∷ ts)) = leaves {s = pos l c (t ∷ ts)} (omega arith)

pub document_end_keeps : Keeps document_end
unfolding document_end
document_end_keeps s =
    itself (bind_a (keeping separator_keeps s) λ x u h1. bind_a (keeping comments_keeps u) λ x v h2. bind_a (keeping separator_keeps v) λ x w h3.
    weak_a (λ n g. omega arith) (keeping over_keeps w))

-- ---- properties: of two value readers that agree and take a token

pub property_a : (p q : P FieldInitialValue) (b : ℕ) → ((s : St) → tokens_left s ≤ b → Alike 1 (tokens_left s) (p s) (q s)) →
    (s : St) → tokens_left s ≤ b → Alike 1 (tokens_left s) (map_property p s) (map_property q s)
unfolding map_property
property_a p q b hp s h =
    bind_a (keeping start_keeps s) λ x u h1. bind_a (hp u (omega arith)) λ k v h2. bind_a (taking (want_takes _ 2) v) λ x w h3.
    bind_a (hp w (omega arith)) λ y z h4. bind_a (keeping here_keeps z) λ e i h5. alike {s = i} (omega arith)

pub property_takes : (p : P FieldInitialValue) → Takes p → Takes (map_property p)
property_takes p h s = itself (property_a p p (tokens_left s) (λ u g. leaves_alike (h u)) s (omega arith))
