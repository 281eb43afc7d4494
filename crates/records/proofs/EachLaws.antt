-- A loop over records, for any state and any step f: Z is what the whole loop makes, from record n and the others on with a state.
--     walk_off, walk_on   the step stops it, or leads on to the others
--     then_then           a walk within a walk
use mathlib.Core.Path.{◌≡◌, refl, sym, ◌∙◌}
use mathlib.Core.List.{List, ◌∷◌}
use Prim.Native.Nat.{ℕ}
use Rattle.records.specs.Each.{Step, on, off, then, each_in}

module _ {A B : Type 0} (f : ℕ → A → Step A B) (Z : Step A B) (n : ℕ) (ns : List ℕ) (a : A) (v : Z ≡ each_in f (n ∷ ns) a) where
  pub walk_off : (b : B) → off b ≡ f n a → off b ≡ Z
  unfolding each_in then
  walk_off b e = sym (v ∙ rw (sym e))

  pub walk_on : (x : A) → on x ≡ f n a → Z ≡ each_in f ns x
  unfolding each_in then
  walk_on x e = v ∙ rw (sym e)

pub then_then : {A B : Type 0} (z : Step A B) (f k : A → Step A B) → then (then z f) k ≡ then z (λ a. then (f a) k)
unfolding then
then_then (on a) f k = refl
then_then (off b) f k = refl

-- what a loop over siblings needs
pub ruleset walks = (walk_off, walk_on)
