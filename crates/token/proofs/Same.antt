-- Rules compared by a test that antt computes: `rules_eq`, rules that pass it are the same.
use mathlib.Core.Path.{◌≡◌, refl, sym, ap, ap₂, ◌∙◌}
use mathlib.Core.Bool.{Bool, true, false, cond}
use mathlib.Core.List.{List, [], ◌∷◌}
use Prim.Native.Nat.{ℕ}
use lib.Dec.{T, eqb, eqb→eq}
use Rattle.token.specs.Regex.{Range, to, Regex, nothing, empty, set, unset, seq, alt, star}
use Rattle.token.specs.Patterns.{Rule, rule}
use Rattle.token.specs.Code.{is}
use Rattle.token.proofs.Truth.{T_true}
use Rattle.token.proofs.Codes.{same_kind}
use Rattle.token.proofs.Every.{both, both_left, both_right}

-- ---- sets

unfoldable pub same_ranges : List Range → List Range → Bool
same_ranges [] [] = true
same_ranges [] (y ∷ ys) = false
same_ranges (x ∷ xs) [] = false
same_ranges (to a b ∷ xs) (to c d ∷ ys) = both (eqb a c) (both (eqb b d) (same_ranges xs ys))

ranges_eq : (xs ys : List Range) → T (same_ranges xs ys) → xs ≡ ys
unfolding same_ranges
ranges_eq [] [] t = refl
ranges_eq [] (y ∷ ys) t = absurd t
ranges_eq (x ∷ xs) [] t = absurd t
ranges_eq (to a b ∷ xs) (to c d ∷ ys) t =
    let u = both_right (eqb a c) _ t in
    rw (eqb→eq a c (both_left (eqb a c) _ t), eqb→eq b d (both_left (eqb b d) _ u), ranges_eq xs ys (both_right (eqb b d) _ u))

-- ---- regular expressions: which of the seven, and its parts

unfoldable pub tag : Regex → ℕ
tag nothing = 0
tag empty = 1
tag (set a) = 2
tag (unset a) = 3
tag (seq r s) = 4
tag (alt r s) = 5
tag (star r) = 6

unfoldable pub set_of : Regex → List Range
set_of nothing = []
set_of empty = []
set_of (set a) = a
set_of (unset a) = a
set_of (seq r s) = []
set_of (alt r s) = []
set_of (star r) = []

unfoldable pub left : Regex → Regex
left nothing = nothing
left empty = nothing
left (set a) = nothing
left (unset a) = nothing
left (seq r s) = r
left (alt r s) = r
left (star r) = r

unfoldable pub right : Regex → Regex
right nothing = nothing
right empty = nothing
right (set a) = nothing
right (unset a) = nothing
right (seq r s) = s
right (alt r s) = s
right (star r) = nothing

made : ℕ → List Range → Regex → Regex → Regex
made n a r s =
    cond (eqb n 0) nothing
    (cond (eqb n 1) empty (cond (eqb n 2) (set a) (cond (eqb n 3) (unset a) (cond (eqb n 4) (seq r s) (cond (eqb n 5) (alt r s) (star r))))))

again : (r : Regex) → r ≡ made (tag r) (set_of r) (left r) (right r)
unfolding made tag set_of left right
again nothing = refl
again empty = refl
again (set a) = refl
again (unset a) = refl
again (seq r s) = refl
again (alt r s) = refl
again (star r) = refl

made_by : (n : ℕ) (s : Regex) → T (eqb (tag s) n) → s ≡ made n (set_of s) (left s) (right s)
made_by n s t = again s ∙ ap (λ (m : ℕ). made m (set_of s) (left s) (right s)) (eqb→eq (tag s) n t)

unfoldable pub same_regex : Regex → Regex → Bool
same_regex nothing s = eqb (tag s) 0
same_regex empty s = eqb (tag s) 1
same_regex (set a) s = both (eqb (tag s) 2) (same_ranges a (set_of s))
same_regex (unset a) s = both (eqb (tag s) 3) (same_ranges a (set_of s))
same_regex (seq q r) s = both (eqb (tag s) 4) (both (same_regex q (left s)) (same_regex r (right s)))
same_regex (alt q r) s = both (eqb (tag s) 5) (both (same_regex q (left s)) (same_regex r (right s)))
same_regex (star q) s = both (eqb (tag s) 6) (same_regex q (left s))

regex_eq : (r s : Regex) → T (same_regex r s) → r ≡ s
unfolding same_regex made
regex_eq nothing s t = sym (made_by 0 s t)
regex_eq empty s t = sym (made_by 1 s t)
regex_eq (set a) s t = ap set (ranges_eq a (set_of s) (both_right (eqb (tag s) 2) _ t)) ∙ sym (made_by 2 s (both_left (eqb (tag s) 2) _ t))
regex_eq (unset a) s t = ap unset (ranges_eq a (set_of s) (both_right (eqb (tag s) 3) _ t)) ∙ sym (made_by 3 s (both_left (eqb (tag s) 3) _ t))
regex_eq (seq q r) s t =
    let u = both_right (eqb (tag s) 4) _ t in
    ap₂ seq (regex_eq q (left s) (both_left (same_regex q (left s)) _ u)) (regex_eq r (right s) (both_right (same_regex q (left s)) _ u))
    ∙ sym (made_by 4 s (both_left (eqb (tag s) 4) _ t))
regex_eq (alt q r) s t =
    let u = both_right (eqb (tag s) 5) _ t in
    ap₂ alt (regex_eq q (left s) (both_left (same_regex q (left s)) _ u)) (regex_eq r (right s) (both_right (same_regex q (left s)) _ u))
    ∙ sym (made_by 5 s (both_left (eqb (tag s) 5) _ t))
regex_eq (star q) s t = ap star (regex_eq q (left s) (both_right (eqb (tag s) 6) _ t)) ∙ sym (made_by 6 s (both_left (eqb (tag s) 6) _ t))

-- ---- rules

unfoldable pub same_rules : List Rule → List Rule → Bool
same_rules [] [] = true
same_rules [] (y ∷ ys) = false
same_rules (x ∷ xs) [] = false
same_rules (rule k r ∷ xs) (rule j s ∷ ys) = both (is k j) (both (same_regex r s) (same_rules xs ys))

pub rules_eq : (xs ys : List Rule) → T (same_rules xs ys) → xs ≡ ys
unfolding same_rules
rules_eq [] [] t = refl
rules_eq [] (y ∷ ys) t = absurd t
rules_eq (x ∷ xs) [] t = absurd t
rules_eq (rule k r ∷ xs) (rule j s ∷ ys) t =
    let u = both_right (is k j) _ t in
    rw (same_kind k j (T_true _ (both_left (is k j) _ t)), regex_eq r s (both_left (same_regex r s) _ u), rules_eq xs ys (both_right (same_regex r s) _ u))
