-- More fuel changes nothing: the loop that every list is read by, once, for any reader that takes a token each turn.
--     loop_fuel     any two amounts above the number of tokens left give the same answer
--     loop_keeps    the loop puts no token back
--     many_fuel     so `many` is the loop with any amount above 65536, for at most 65536 tokens
use mathlib.Core.Path.{◌≡◌, refl}
use mathlib.Core.Bool.{Bool, true, false}
use mathlib.Core.List.{List, [], ◌∷◌}
use Prim.Native.Nat.{ℕ, suc, zero, ◌+◌, ◌≤◌, ◌<◌}
use native.Mathlib.Omega.{arith}
use Rattle.token.specs.declared.Token.{Token}
use Rattle.lexer.specs.declared.location.LOC.{LOC}
use Rattle.parser.specs.Steps.{St, pos, Raised, Res, ok, no, P, bind, test, when, fail, loop, many}
use Rattle.fuel.specs.Takes.{tokens_left, Leaves, leaves, refused, Takes, Keeps}

-- two readings give the same refusal, or the same answer, which leaves x tokens fewer than b
pub data Alike {A : Type 0} (x b : ℕ) : Res A → Res A → Type 0 where
  alike : {v : A} {s : St} → x + tokens_left s ≤ b → Alike x b (ok v s) (ok v s)
  neither : {e : Raised} {l : LOC} → Alike x b (no e l) (no e l)

pub alike_same : {A : Type 0} {x b : ℕ} {r q : Res A} → Alike x b r q → r ≡ q
alike_same (alike h) = refl
alike_same neither = refl

alike_leaves : {A : Type 0} {x b : ℕ} {r q : Res A} → Alike x b r q → Leaves x b r
alike_leaves (alike {s = s} h) = leaves {s = s} h
alike_leaves neither = refused

pub itself : {A : Type 0} {x b : ℕ} {r : Res A} → Alike x b r r → Leaves x b r
itself = alike_leaves

pub leaves_alike : {A : Type 0} {x b : ℕ} {r : Res A} → Leaves x b r → Alike x b r r
leaves_alike (leaves {s = s} h) = alike {s = s} h
leaves_alike refused = neither

pub weak_a : {A : Type 0} {x y a b : ℕ} {r q : Res A} → ((n : ℕ) → x + n ≤ a → y + n ≤ b) → Alike x a r q → Alike y b r q
weak_a f (alike {s = s} h) = alike {s = s} (f (tokens_left s) h)
weak_a f neither = neither

pub bind_a : {A B : Type 0} {x y a b : ℕ} {m n : Res A} {k j : A → P B} →
    Alike x a m n → ((v : A) (s : St) → x + tokens_left s ≤ a → Alike y b (k v s) (j v s)) → Alike y b (bind m k) (bind n j)
unfolding bind
bind_a (alike {v = v} {s = s} h) f = f v s h
bind_a neither f = neither

pub test_a : {A : Type 0} {x a : ℕ} (t : Bool) (p q p' q' : P A) (s : St) →
    Alike x a (p s) (p' s) → Alike x a (q s) (q' s) → Alike x a (test t p q s) (test t p' q' s)
unfolding test
test_a true p q p' q' s f g = f
test_a false p q p' q' s f g = g

pub when_a : {A : Type 0} {x a : ℕ} (ks : List Token) (p q p' q' : P A) (s : St) →
    Alike x a (p s) (p' s) → Alike x a (q s) (q' s) → Alike x a (when ks p q s) (when ks p' q' s)
unfolding when
when_a ks p q p' q' s = test_a _ p q p' q' s

pub fail_a : {A : Type 0} {x a : ℕ} (e : ℕ) (s : St) → Alike x a (fail {A = A} e s) (fail e s)
unfolding fail
fail_a e (pos l c []) = neither
fail_a e (pos l c (t ∷ ts)) = neither

-- ---- the loop

-- two amounts of fuel for b tokens: the same, or both above b
pub data Enough (n m b : ℕ) : Type 0 where
  equal : n ≡ m → Enough n m b
  above : b < n → b < m → Enough n m b

pub fewer : {n m b : ℕ} (d : ℕ) → d ≤ b → Enough n m b → Enough n m d
fewer d h (equal e) = equal e
fewer d h (above f g) = above (omega arith) (omega arith)

turn : {n m b : ℕ} (d : ℕ) → suc d ≤ b → Enough (suc n) (suc m) b → Enough n m d
turn d h (equal e) = equal (omega arith)
turn d h (above f g) = above (omega arith) (omega arith)

uneven : {A : Type 0} {m b : ℕ} → Enough zero (suc m) b → A
uneven (equal e) = absurd (omega arith)
uneven (above f g) = absurd (omega arith)

uneven' : {A : Type 0} {m b : ℕ} → Enough (suc m) zero b → A
uneven' (equal e) = absurd (omega arith)
uneven' (above f g) = absurd (omega arith)

-- two readers that agree and take a token where at most b are left
module _ {A B : Type 0} (e : B) (c : A → B → B) (end : P Bool) (he : Keeps end) (p q : P A) where
  pub loop_a : (b : ℕ) → ((s : St) → tokens_left s ≤ b → Alike 1 (tokens_left s) (p s) (q s)) →
      (n m : ℕ) (s : St) → tokens_left s ≤ b → Enough n m (tokens_left s) → Alike 0 (tokens_left s) (loop e c end p n s) (loop e c end q m s)
  unfolding loop
  loop_a b hp zero zero s h f = fail_a 3 s
  loop_a b hp zero (suc m) s h f = uneven f
  loop_a b hp (suc n) zero s h f = uneven' f
  loop_a b hp (suc n) (suc m) s h f =
      bind_a (leaves_alike (he s)) λ t u h1. test_a t _ _ _ _ u (alike {s = u} (omega arith))
      (bind_a (hp u (omega arith)) λ a v h2.
      bind_a (loop_a b hp n m v (omega arith) (turn (tokens_left v) (omega arith) f)) λ x w h3. alike {s = w} (omega arith))

module _ {A B : Type 0} (e : B) (c : A → B → B) (end : P Bool) (p : P A) (he : Keeps end) (hp : Takes p) where
  pub loop_fuel : (n m : ℕ) (s : St) → tokens_left s < n → tokens_left s < m → loop e c end p n s ≡ loop e c end p m s
  loop_fuel n m s f g = alike_same (loop_a e c end he p p (tokens_left s) (λ u h. leaves_alike (hp u)) n m s (omega arith) (above f g))

  pub loop_keeps : (n : ℕ) → Keeps (loop e c end p n)
  loop_keeps n s = itself (loop_a e c end he p p (tokens_left s) (λ u h. leaves_alike (hp u)) n n s (omega arith) (equal refl))

  pub many_fuel : (n : ℕ) (s : St) → tokens_left s ≤ 65536 → 65536 < n → loop e c end p n s ≡ many e c end p s
  unfolding many
  many_fuel n s h g = loop_fuel n 65537 s (omega arith) (omega arith)
