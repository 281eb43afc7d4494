-- The bound of loop_fuel is the least: as much fuel as there are tokens left is too little, for any list of tokens.
use mathlib.Core.Path.{◌≡◌, refl}
use mathlib.Core.Bool.{Bool, true, false}
use mathlib.Core.List.{List, [], ◌∷◌}
use Rattle.std.specs.Prelude.{None}
use Prim.Native.Nat.{suc}
use native.Mathlib.Omega.{arith}
use lib.ListN.{length}
use Rattle.lexer.specs.declared.location.LOC.{LOC}
use Rattle.lexer.specs.Error.{UnexpectedEOF}
use Rattle.lexer.specs.Tokens.{Lexeme}
use Rattle.parser.specs.Steps.{pos, raise, ok, no, P, place, bind, test, fail, next, loop}
use Rattle.fuel.specs.Takes.{leaves, Keeps}

-- the end test of a list of all tokens
unfoldable pub none_left : P Bool
none_left (pos l c []) = ok true (pos l c [])
none_left (pos l c (t ∷ ts)) = ok false (pos l c (t ∷ ts))

pub none_left_keeps : Keeps none_left
unfolding none_left
none_left_keeps (pos l c []) = leaves {s = pos l c []} (omega arith)
none_left_keeps (pos l c (t ∷ ts)) = leaves {s = pos l c (t ∷ ts)} (omega arith)

pub too_little : (l : LOC) (c ts : List Lexeme) → (q : LOC) × (loop [] ◌∷◌ none_left next (length ts) (pos l c ts) ≡ no (raise UnexpectedEOF None) q)
unfolding loop none_left next fail bind test
too_little l c [] = (l, refl)
too_little l c (t ∷ ts) = let h = too_little (place t) c ts in (h.0, rw h.1)

pub just_enough : (l : LOC) (c ts : List Lexeme) → (q : LOC) × (loop [] ◌∷◌ none_left next (suc (length ts)) (pos l c ts) ≡ ok ts (pos q c []))
unfolding loop none_left next bind test
just_enough l c [] = (l, refl)
just_enough l c (t ∷ ts) = let h = just_enough (place t) c ts in (h.0, rw h.1)
