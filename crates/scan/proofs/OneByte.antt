-- Classes that hold one byte alone: the line feed's, the star's and the slash's.
use mathlib.Core.Path.{◌≡◌}
use mathlib.Core.Bool.{Bool, ◌&&◌, beq}
use Prim.Native.Nat.{ℕ, ◌<◌}
use lib.Dec.{T, eqb, ltb, leb}
use Rattle.token.specs.Tables.{classes}
use Rattle.token.specs.Run.{class_of, stops}
use Rattle.token.proofs.Every.{every, at}
use Rattle.token.proofs.Classes.{classes_length, beq_eq}

-- the byte c is the line feed exactly if a run up to its class, x, ends there
line : ℕ → ℕ → Bool
line c x = beq (eqb c 10) (leb 39 x && ltb x 40)

line_test : T (every line 0 classes)
unfolding line classes
line_test = tt

pub stops_line : (c : ℕ) → c < 256 → eqb c 10 ≡ stops 39 40 c
unfolding line stops class_of
stops_line c h = beq_eq _ _ (at line classes 0 line_test c (rw classes_length h))

-- the byte c is b exactly if its class, x, is k
only : ℕ → ℕ → ℕ → ℕ → Bool
only b k c x = beq (eqb c b) (eqb x k)

star_test : T (every (only 42 37) 0 classes)
unfolding only classes
star_test = tt

pub class_star : (c : ℕ) → c < 256 → eqb c 42 ≡ eqb (class_of c) 37
unfolding only class_of
class_star c h = beq_eq _ _ (at (only 42 37) classes 0 star_test c (rw classes_length h))

slash_test : T (every (only 47 38) 0 classes)
unfolding only classes
slash_test = tt

pub class_slash : (c : ℕ) → c < 256 → eqb c 47 ≡ eqb (class_of c) 38
unfolding only class_of
class_slash c h = beq_eq _ _ (at (only 47 38) classes 0 slash_test c (rw classes_length h))
