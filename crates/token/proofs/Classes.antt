-- The table of classes is held to the patterns: a byte leaves of each state what its class's representative leaves, and that is the next state.
--     step_law      behind the byte c the state s is the state that `step` gives for its class
--     kind_law      the first rule of a state that the empty text matches is the one that `kind_at` gives
use mathlib.Core.Path.{◌≡◌, refl, ap, ◌∙◌}
use mathlib.Core.Bool.{Bool, true, false, cond, beq}
use mathlib.Core.List.{List, [], ◌∷◌}
use Prim.Native.Nat.{ℕ, ◌<◌}
use lib.Dec.{T, ltb, ltb→lt}
use lib.ListN.{length, get_or}
use Rattle.token.specs.Regex.{Regex, nothing, empty, set, unset, seq, alt, star, within, nullable, is_nothing, then, or, deriv}
use Rattle.token.specs.Patterns.{Rule, rule}
use Rattle.token.specs.Scan.{derivs, first}
use Rattle.token.specs.Tables.{classes, reps}
use Rattle.token.specs.Run.{class_of}
use Rattle.token.specs.Automaton.{
  State,
  start,
  dead,
  blanks,
  comment,
  signed,
  dot,
  signed_dot,
  slash,
  zero as zeroed,
  whole,
  fraction,
  exponent_sign,
  exponent_digit,
  exponent_mark,
  hex_mark,
  hex_digits,
  named,
  name_dot,
  block,
  block_star,
  in_string,
  escaped,
  closed,
  rules_at,
  openings,
  step,
  kind_at,
}
use Rattle.token.proofs.Every.{both, both_left, both_right, every, at}
use Rattle.token.proofs.Same.{same_ranges, tag, set_of, left, right as right_of, same_regex, same_rules, rules_eq}
use Rattle.token.specs.Code.{code, is}

-- the two bytes are in the same sets of r, so they leave the same of it
alike : ℕ → ℕ → Regex → Bool
alike c d nothing = true
alike c d empty = true
alike c d (set s) = beq (within c s) (within d s)
alike c d (unset s) = beq (within c s) (within d s)
alike c d (seq r s) = both (alike c d r) (alike c d s)
alike c d (alt r s) = both (alike c d r) (alike c d s)
alike c d (star r) = alike c d r

pub beq_eq : (a b : Bool) → T (beq a b) → a ≡ b
beq_eq true true t = refl
beq_eq true false t = absurd t
beq_eq false true t = absurd t
beq_eq false false t = refl

alike_deriv : (c d : ℕ) (r : Regex) → T (alike c d r) → deriv c r ≡ deriv d r
unfolding alike deriv
alike_deriv c d nothing t = refl
alike_deriv c d empty t = refl
alike_deriv c d (set s) t = ap (λ (b : Bool). cond b empty nothing) (beq_eq (within c s) (within d s) t)
alike_deriv c d (unset s) t = ap (λ (b : Bool). cond b nothing empty) (beq_eq (within c s) (within d s) t)
alike_deriv c d (seq r s) t =
    rw (alike_deriv c d r (both_left (alike c d r) _ t), alike_deriv c d s (both_right (alike c d r) _ t))
alike_deriv c d (alt r s) t =
    rw (alike_deriv c d r (both_left (alike c d r) _ t), alike_deriv c d s (both_right (alike c d r) _ t))
alike_deriv c d (star r) t = rw (alike_deriv c d r t)

alikes : ℕ → ℕ → List Rule → Bool
alikes c d [] = true
alikes c d (rule k r ∷ rs) = both (alike c d r) (alikes c d rs)

alikes_derivs : (c d : ℕ) (rs : List Rule) → T (alikes c d rs) → derivs c rs ≡ derivs d rs
unfolding alikes derivs
alikes_derivs c d [] t = refl
alikes_derivs c d (rule k r ∷ rs) t =
    rw (alike_deriv c d r (both_left (alike c d r) _ t), alikes_derivs c d rs (both_right (alike c d r) _ t))

-- THE TEST of the table of classes, in each state: a byte is in the same sets as the representative of its class
right : List Rule → ℕ → ℕ → Bool
right rs c k = both (ltb k 60) (alikes c (get_or reps k 0) rs)

class_test : (s : State) → T (every (right (rules_at s)) 0 classes)
unfolding right rules_at reps alikes alike within classes
class_test start = tt
class_test dead = tt
class_test blanks = tt
class_test comment = tt
class_test signed = tt
class_test dot = tt
class_test signed_dot = tt
class_test slash = tt
class_test zeroed = tt
class_test whole = tt
class_test fraction = tt
class_test exponent_sign = tt
class_test exponent_digit = tt
class_test exponent_mark = tt
class_test hex_mark = tt
class_test hex_digits = tt
class_test named = tt
class_test name_dot = tt
class_test block = tt
class_test block_star = tt
class_test (in_string true) = tt
class_test (in_string false) = tt
class_test (escaped true) = tt
class_test (escaped false) = tt
class_test (closed k) = tt

pub classes_length : length classes ≡ 256
unfolding classes
classes_length = refl

class_right : (s : State) (c : ℕ) → c < 256 → T (right (rules_at s) c (class_of c))
unfolding class_of
class_right s c h = at (right (rules_at s)) classes 0 (class_test s) c (rw classes_length h)

pub class_below : (c : ℕ) → c < 256 → class_of c < 60
unfolding right
class_below c h = ltb→lt _ _ (both_left (ltb (class_of c) 60) _ (class_right dead c h))

reps_law : (s : State) (c : ℕ) → c < 256 → derivs c (rules_at s) ≡ derivs (get_or reps (class_of c) 0) (rules_at s)
unfolding right
reps_law s c h = alikes_derivs c (get_or reps (class_of c) 0) (rules_at s) (both_right (ltb (class_of c) 60) _ (class_right s c h))

-- THE TEST of `step`, in each state: the representative of each class leaves the state that `step` gives
stepped : State → ℕ → ℕ → Bool
stepped s i c = same_rules (derivs c (rules_at s)) (rules_at (step s i))

step_test : (s : State) → T (every (stepped s) 0 reps)
unfolding stepped same_rules same_regex same_ranges tag set_of left right_of is code rules_at step openings reps derivs deriv is_nothing nullable then or within
step_test start = tt
step_test dead = tt
step_test blanks = tt
step_test comment = tt
step_test signed = tt
step_test dot = tt
step_test signed_dot = tt
step_test slash = tt
step_test zeroed = tt
step_test whole = tt
step_test fraction = tt
step_test exponent_sign = tt
step_test exponent_digit = tt
step_test exponent_mark = tt
step_test hex_mark = tt
step_test hex_digits = tt
step_test named = tt
step_test name_dot = tt
step_test block = tt
step_test block_star = tt
step_test (in_string true) = tt
step_test (in_string false) = tt
step_test (escaped true) = tt
step_test (escaped false) = tt
step_test (closed k) = tt

pub reps_length : length reps ≡ 60
unfolding reps
reps_length = refl

rep_step : (s : State) (k : ℕ) → k < 60 → derivs (get_or reps k 0) (rules_at s) ≡ rules_at (step s k)
unfolding stepped
rep_step s k h = rules_eq _ _ (at (stepped s) reps 0 (step_test s) k (rw reps_length h))

pub step_law : (s : State) (c : ℕ) → c < 256 → derivs c (rules_at s) ≡ rules_at (step s (class_of c))
step_law s c h = reps_law s c h ∙ rep_step s (class_of c) (class_below c h)

pub kind_law : (s : State) → first (rules_at s) ≡ kind_at s
unfolding first rules_at kind_at nullable
kind_law start = refl
kind_law dead = refl
kind_law blanks = refl
kind_law comment = refl
kind_law signed = refl
kind_law dot = refl
kind_law signed_dot = refl
kind_law slash = refl
kind_law zeroed = refl
kind_law whole = refl
kind_law fraction = refl
kind_law exponent_sign = refl
kind_law exponent_digit = refl
kind_law exponent_mark = refl
kind_law hex_mark = refl
kind_law hex_digits = refl
kind_law named = refl
kind_law name_dot = refl
kind_law block = refl
kind_law block_star = refl
kind_law (in_string true) = refl
kind_law (in_string false) = refl
kind_law (escaped true) = refl
kind_law (escaped false) = refl
kind_law (closed k) = refl
