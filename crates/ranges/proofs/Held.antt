-- Tokens do not overlap, so the range of each holds that one alone.
use mathlib.Core.Path.{◌≡◌, refl, ap}
use mathlib.Core.Bool.{Bool, true, false, ◌&&◌}
use mathlib.Core.List.{List, [], ◌∷◌, Memᴰ}
use Prim.Native.Nat.{ℕ, ◌<◌, ◌≤◌}
use native.Mathlib.Omega.{arith}
use borrow.Author.Tests.{lt-ltb, le-ltb}
use lib.Dec.{ltb}
use Rattle.lexer.specs.Location.{opening}
use Rattle.lexer.specs.Tokens.{Lexeme, tokens}
use Rattle.ast.specs.Lists.{All, anil, acons}
use Rattle.parser.specs.Order.{token_start, token_end, InOrder, no_token_law, one_token}
use Rattle.parser.proofs.Order.{tokens_in_order}
use Rattle.ranges.specs.Ranges.{held}

and_false : (a b : Bool) → b ≡ false → (a && b) ≡ false
and_false true b e = e
and_false false b e = refl

module _ (a b : ℕ) (t : Lexeme) (ts : List Lexeme) where
  held_in : token_start t < b → a < token_end t → held a b (t ∷ ts) ≡ t ∷ held a b ts
  unfolding held
  held_in h k = rw (lt-ltb (token_start t) b h, lt-ltb a (token_end t) k)

  held_before : token_end t ≤ a → held a b (t ∷ ts) ≡ held a b ts
  unfolding held
  held_before h = rw (and_false (ltb (token_start t) b) (ltb a (token_end t)) (le-ltb a (token_end t) h))

  held_after : b ≤ token_start t → held a b (t ∷ ts) ≡ held a b ts
  unfolding held
  held_after h = rw (le-ltb (token_start t) b h)

-- none of those behind the range
held_none : {n : ℕ} (x b : ℕ) {a : ℕ} {ts : List Lexeme} → b ≤ a → InOrder n a ts → held x b ts ≡ []
unfolding held
held_none x b h (no_token_law k) = refl
held_none x b h (one_token {t = t} {ts = ts} f g o) = rw (held_after x b t ts (omega arith)) (held_none x b (omega arith) o)

-- a token of all, and the range holds no other
pub record Held (all : List Lexeme) (t : Lexeme) : Type 0 where
  pub token : Memᴰ t all
  pub only : held (token_start t) (token_end t) all ≡ t ∷ []

record From (a : ℕ) (all : List Lexeme) (t : Lexeme) : Type 0 where
  here : Held all t
  behind : a ≤ token_start t

one_more : {a : ℕ} (t : Lexeme) {us ts : List Lexeme} → a ≤ token_start t → token_start t < token_end t → All (From (token_end t) us) ts → All (From a (t ∷ us)) ts
one_more t h k anil = anil
one_more t {us} h k (acons {x = u} f fs) =
    acons
    (record {
      here = record {
        token = Memᴰ.tail f.here.token;
        only = rw (held_before (token_start u) (token_end u) t us f.behind) f.here.only;
      };
      behind = omega (arith, f.behind);
    })
    (one_more t h k fs)

held_each : {n a : ℕ} {ts : List Lexeme} → InOrder n a ts → All (From a ts) ts
held_each (no_token_law h) = anil
held_each (one_token {t = t} {ts = ts} h k o) =
    acons
    (record {
      here = record {
        token = Memᴰ.head refl;
        only = rw (held_in (token_start t) (token_end t) t ts k k) (ap (λ (l : List Lexeme). t ∷ l) (held_none (token_start t) (token_end t) (omega arith) o));
      };
      behind = h;
    })
    (one_more t h k (held_each o))

here_each : {a : ℕ} {all ts : List Lexeme} → All (From a all) ts → All (Held all) ts
here_each anil = anil
here_each (acons f fs) = acons f.here (here_each fs)

pub tokens_held : (text : List ℕ) → All (Held (tokens text opening)) (tokens text opening)
tokens_held text = here_each (held_each (tokens_in_order text))
