-- How far rico's rule for a field that begins with no integer and the one of document 02's Change 4 are equal.
--     rico_till, port_till   a reading by either, and one that stops at the first begun field that starts with no integer
--     same_answer            if it never stops there, its answer is the reading's
--     never_answer           it does not if it is not refused with 0
use native.Mathlib.Omega.{arith}
use mathlib.Core.Path.{◌≡◌, refl, ap}
use mathlib.Core.Bool.{Bool, true, false}
use mathlib.Core.List.{List, [], ◌∷◌}
use Rattle.std.specs.Prelude.{Option, Some}
use Prim.Native.Nat.{ℕ, suc, zero}
use Rattle.token.specs.declared.Token.{Token}
use Rattle.token.specs.declared.Token.TheVariants as T
use Rattle.lexer.specs.declared.location.LOC.{LOC}
use Rattle.lexer.specs.Outcome.{Outcome, accepted, refused}
use Rattle.lexer.specs.Tokens.{Lexeme}
use Rattle.ast.specs.Ast.{Structure, Struct, Union, Exception, Definition}
use Rattle.parser.specs.Steps.{place, St, pos, raise, Res, ok, no, P, bind, test, peek, when, fail, start, taken, loop}
use Rattle.parser.specs.Types.{type_by, field_type}
use Rattle.parser.specs.Read.{error, answered}
use Rattle.parser.specs.Definitions as D
use Rattle.parser.specs.Definitions.{parse_type, parse_required, members_end, document_end}
use Rattle.fuel.specs.Fueled.{parse_field, parse_members, parse_parameters, parse_throws, parse_function, parse_structure, parse_service, parse_definition, parse_document}
use Rattle.rico.specs.Fields.{parse_field_id, stopping}
use Rattle.rico.specs.Reading.{parsed_by}

-- the first two readings came to the refusal of a begun field, with the numbers x and y, at one token; or all three are the same
pub data Till (x y : ℕ) {A : Type 0} : Res A → Res A → Res A → Type 0 where
  stopped : {t : Lexeme} {p : LOC} {r : Res A} → Till x y (no (raise x (Some t)) p) (no (raise y (Some t)) p) r
  alike : {r : Res A} → Till x y r r r

module _ (x y : ℕ) where
  bind_t : {A B : Type 0} {m n r : Res A} {f g h : A → P B} → Till x y m n r → ((a : A) (s : St) → Till x y (f a s) (g a s) (h a s)) → Till x y (bind m f) (bind n g) (bind r h)
  unfolding bind
  bind_t stopped k = stopped
  bind_t (alike {r = ok a s}) k = k a s
  bind_t (alike {r = no e l}) k = alike

  ok_t : {A B : Type 0} (f g h : A → P B) (a : A) (s : St) → Till x y (f a s) (g a s) (h a s) → Till x y (bind (ok a s) f) (bind (ok a s) g) (bind (ok a s) h)
  unfolding bind
  ok_t f g h a s k = k

  -- three readers, in step
  abbrev Tills : {A : Type 0} → P A → P A → P A → Type 0
  Tills f g h = (s : St) → Till x y (f s) (g s) (h s)

  module _ {A : Type 0} (f g h p q r : P A) (s : St) (k : Till x y (f s) (g s) (h s)) (j : Till x y (p s) (q s) (r s)) where
    test_t : (b : Bool) → Till x y (test b f p s) (test b g q s) (test b h r s)
    unfolding test
    test_t true = k
    test_t false = j

    when_t : (ks : List Token) → Till x y (when ks f p s) (when ks g q s) (when ks h r s)
    unfolding when
    when_t ks = test_t (peek ks s)

  module _ {A B : Type 0} (e : B) (c : A → B → B) (end : P Bool) (f g h : P A) (k : Tills f g h) where
    loop_t : (n : ℕ) → Tills (loop e c end f n) (loop e c end g n) (loop e c end h n)
    unfolding loop
    loop_t zero s = alike
    loop_t (suc n) s = bind_t alike λ b s. test_t _ _ _ _ _ _ s alike (bind_t (k s) λ a s. bind_t (loop_t n s) λ x s. alike) b

  members_t : {A : Type 0} (n : ℕ) (l r : Token) (f g h : P A) → Tills f g h → Tills (parse_members n l r f) (parse_members n l r g) (parse_members n l r h)
  unfolding parse_members
  members_t n l r f g h k s = bind_t alike λ x s. loop_t [] ◌∷◌ (members_end r) f g h k n s

  -- ---- from the field to the document, for any three rules and any number of turns

  module _ (n : ℕ) (f g h : P (Option Lexeme)) (k : Tills (parse_field f n) (parse_field g n) (parse_field h n)) where
    parameters_t : Tills (parse_parameters f n) (parse_parameters g n) (parse_parameters h n)
    unfolding parse_parameters
    parameters_t = members_t n T.LeftParen T.RightParen (parse_field f n) (parse_field g n) (parse_field h n) k

    throws_t : Tills (parse_throws f n) (parse_throws g n) (parse_throws h n)
    unfolding parse_throws
    throws_t s = when_t _ _ _ _ _ _ s (bind_t alike λ t s. bind_t (parameters_t s) λ fs s. alike) alike _

    function_t : Tills (parse_function f n) (parse_function g n) (parse_function h n)
    unfolding parse_function
    function_t s =
        bind_t alike λ c s. bind_t alike λ o s. bind_t alike λ t s. bind_t alike λ m s. bind_t (parameters_t s) λ ps s. bind_t (throws_t s) λ th s. alike

    structure_t : (z : Structure) → Tills (parse_structure f n z) (parse_structure g n z) (parse_structure h n z)
    unfolding parse_structure
    structure_t z s =
        bind_t alike λ c s. bind_t alike λ y s. bind_t alike λ m s.
        bind_t (members_t n T.LeftBrace T.RightBrace (parse_field f n) (parse_field g n) (parse_field h n) k s) λ xs s. alike

    service_t : Tills (parse_service f n) (parse_service g n) (parse_service h n)
    unfolding parse_service
    service_t s =
        bind_t alike λ c s. bind_t alike λ y s. bind_t alike λ m s. bind_t alike λ x s.
        bind_t (members_t n T.LeftBrace T.RightBrace (parse_function f n) (parse_function g n) (parse_function h n) function_t s) λ xs s. alike

    definition_t : Tills (parse_definition f n) (parse_definition g n) (parse_definition h n)
    unfolding parse_definition
    definition_t s =
        when_t _ _ _ _ _ _ s alike
        (when_t _ _ _ _ _ _ s alike
        (when_t _ _ _ _ _ _ s alike
        (when_t _ _ _ _ _ _ s alike
        (when_t _ _ _ _ _ _ s alike
        (when_t _ _ _ _ _ _ s alike
        (when_t _ _ _ _ _ _ s (structure_t Struct s)
        (when_t _ _ _ _ _ _ s (structure_t Union s)
        (when_t _ _ _ _ _ _ s (structure_t Exception s)
        (when_t _ _ _ _ _ _ s (service_t s) alike _) _) _) _) _) _) _) _) _) _

    document_t : Tills (parse_document f n) (parse_document g n) (parse_document h n)
    unfolding parse_document
    document_t = loop_t [] ◌∷◌ document_end (parse_definition f n) (parse_definition g n) (parse_definition h n) definition_t n

  -- ---- the rules

  rico_rule : Tills (stopping x) (stopping y) parse_field_id
  unfolding stopping parse_field_id fail
  rico_rule (pos l c []) = when_t _ _ _ _ _ _ (pos l c []) alike alike _
  rico_rule (pos l c (t ∷ ts)) = when_t _ _ _ _ _ _ (pos l c (t ∷ ts)) alike stopped _

  rico_field : (n : ℕ) → Tills (parse_field (stopping x) n) (parse_field (stopping y) n) (parse_field parse_field_id n)
  unfolding parse_field
  rico_field n s = bind_t alike λ c s. bind_t alike λ b s. bind_t (rico_rule s) λ i s. alike

  port_rule : (l : LOC) (c : List Lexeme) (t : Lexeme) (ts : List Lexeme) → let s = pos l c (t ∷ ts) in Till x y (stopping x s) (stopping y s) (D.parse_field_id s)
  unfolding stopping D.parse_field_id fail
  port_rule l c t ts = when_t _ _ _ _ _ _ (pos l c (t ∷ ts)) alike stopped _

  -- with no token left there is no field, and the type is missing
  end_field : (n : ℕ) (l : LOC) (c : List Lexeme) →
      let s = pos l c [] in Till x y (parse_field (stopping x) n s) (parse_field (stopping y) n s) (parse_field D.parse_field_id n s)
  unfolding parse_field taken start bind stopping D.parse_field_id when test peek parse_required parse_type field_type type_by
  end_field n l c = alike

  port_field : (n : ℕ) → Tills (parse_field (stopping x) n) (parse_field (stopping y) n) (parse_field D.parse_field_id n)
  unfolding parse_field taken start
  port_field n (pos l c []) = end_field n l c
  port_field n (pos l c (t ∷ ts)) =
      let s = pos l [] (t ∷ ts) in ok_t _ _ _ c s (ok_t _ _ _ (place t) s (bind_t (port_rule l [] t ts) λ i s. alike))

  -- ---- readings

  -- up to a begun field that starts with no integer, rico's rule and the port's read what a stop there reads
  pub rico_till : (ts : List Lexeme) → Till x y (parsed_by (stopping x) ts) (parsed_by (stopping y) ts) (parsed_by parse_field_id ts)
  unfolding parsed_by
  rico_till ts = document_t 65537 (stopping x) (stopping y) parse_field_id (rico_field 65537) _

  pub port_till : (ts : List Lexeme) → Till x y (parsed_by (stopping x) ts) (parsed_by (stopping y) ts) (parsed_by D.parse_field_id ts)
  unfolding parsed_by
  port_till ts = document_t 65537 (stopping x) (stopping y) D.parse_field_id (port_field 65537) _

-- ---- answers

unfoldable number : Outcome (List Definition) → ℕ
number (accepted ds) = 0
number (refused e p n) = e

-- where the answer does not depend on the number of the stop, it is the third reading's
pub same_answer : {m n r : Res (List Definition)} → Till 0 1 m n r → (t : List ℕ) → answered m t ≡ answered n t → answered m t ≡ answered r t
unfolding answered error number
same_answer stopped t e = let z : ◌≡◌ {A = ℕ} 0 1 = ap number e in absurd (omega arith)
same_answer alike t e = refl

-- a reading that is not refused with 0, no refusal's number, does not depend on it
pub never_answer : {y : ℕ} {m n r : Res (List Definition)} → Till 0 y m n r → (t : List ℕ) → ((p l : ℕ) → answered m t ≡ refused 0 p l → ⊥) → answered m t ≡ answered n t
unfolding answered error
never_answer (stopped {p = p}) t h = absurd (h _ _ refl)
never_answer alike t h = refl
