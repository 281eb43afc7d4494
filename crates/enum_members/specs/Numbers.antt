-- The number behind each enum member (document 02, Change 2).
use Rattle.std.specs.Prelude.{cond, List, [], ◌∷◌, ◌++◌, ℕ, ◌-◌, ltb, length, replicate, ℤ, pos, Result}
use Rattle.std.specs.Prelude.{Option, Some, None}
use Rattle.std.proofs.Math.IntN.{suc_ℤ}
use Rattle.lexer.specs.Error.{NodesFull, EnumNumberOutside}
use Rattle.lexer.specs.Outcome.{Outcome, accepted, refused}
use Rattle.lexer.specs.Refusal.{said_by}
use Rattle.lexer.specs.declared.error.Refusal.{Refusal}
use Rattle.lexer.specs.Tokens.{Lexeme}
use Rattle.number.specs.Value.{value, i32}
use Rattle.ast.specs.Ast.{EnumMember, member, Definition, Include, CppInclude, Namespace, Const, Typedef, Enum, structure, Service}
use Rattle.parser.specs.Steps.{place}

-- every member's number; or the name of the first member whose number is outside the range
pub data Numbers : Type 0 where
  numbers : List ℤ → Numbers
  outside : Lexeme → Numbers

unfoldable pub before : ℤ → Numbers → Numbers
before x (numbers xs) = numbers (x ∷ xs)
before x (outside n) = outside n

-- 'A written integer or hex digit string is that number, hex read as unsigned. A member without one gets the previous plus one': the one ahead
unfoldable pub number : ℤ → Option Lexeme → ℤ
number ahead None = ahead
number ahead (Some t) = value t

-- the members of an enum, before others: '-2147483648 and 2147483647 are numbers; the member after 2147483647 without its own is refused'
unfoldable pub of_members : ℤ → List EnumMember → Numbers → Numbers
of_members ahead [] others = others
of_members ahead (member l c n v a ∷ ms) others =
    let x = number ahead v in
    cond (i32 x) (before x (of_members (suc_ℤ x) ms others)) (outside n)

-- 'The list comes by enum in text order'; 'the first gets 0'
unfoldable pub member_numbers : List Definition → Numbers
member_numbers [] = numbers []
member_numbers (Include l c n ∷ ds) = member_numbers ds
member_numbers (CppInclude l c n ∷ ds) = member_numbers ds
member_numbers (Namespace l c s n ∷ ds) = member_numbers ds
member_numbers (Const l c t n v ∷ ds) = member_numbers ds
member_numbers (Typedef l c t n ∷ ds) = member_numbers ds
member_numbers (Enum l c n ms a ∷ ds) = of_members (pos 0) ms (member_numbers ds)
member_numbers (structure s l c n fs a ∷ ds) = member_numbers ds
member_numbers (Service l c n x fs a ∷ ds) = member_numbers ds

-- '28, a member's number outside the range, .. at the member's name'; 'a list too short is refused with 24, after 28'; the count
unfoldable pub counted : Numbers → List ℤ → Outcome (List ℕ)
counted (outside n) list = refused EnumNumberOutside (place n).start.index ((place n).end.index - (place n).start.index)
counted (numbers xs) list = cond (ltb (length list) (length xs)) (refused NodesFull 0 0) (accepted (length xs ∷ []))

unfoldable pub numbers_of : Numbers → List ℤ
numbers_of (numbers xs) = xs
numbers_of (outside n) = []

unfoldable pub cleared : List ℤ → List ℤ
cleared list = replicate (length list) (pos 0)

-- the list afterwards: the numbers, and 0 past them; or all 0
unfoldable pub listed : Outcome (List ℕ) → List ℤ → List ℤ → List ℤ
listed (accepted ns) xs list = xs ++ replicate (length list - length xs) (pos 0)
listed (refused e p n) xs list = cleared list

-- what numbering the members answers, and the list afterwards
pub record Listing : Type 0 where
  pub says : Outcome (List ℕ)
  pub list : List ℤ

unfoldable pub listing : Numbers → List ℤ → Listing
listing ns list = let a = counted ns list in record { says = a; list = listed a (numbers_of ns) list }

-- the code's answer and the list, as a listing
abbrev pub told : Result ℕ Refusal → List ℤ → Listing
told r list = record { says = said_by (λ n. n ∷ []) r; list = list }
