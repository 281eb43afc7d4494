-- How what the code does is grouped.
--     assoc, assoc₂, assoc₃      what follows what follows
--     halted             nothing follows a refusal
--     noted              a node's own record
use mathlib.Core.Path.{◌≡◌, refl, ap, ◌∙◌}
use mathlib.Core.Bool.{Bool, true, false, cond}
use mathlib.Core.List.{List}
use Prim.Native.Nat.{ℕ}
use lib.Dec.{eqb}
use Rattle.steps.specs.declared.state.State.{State}
use Rattle.steps.specs.Into.{code_of, Out, done, stop, M, ◌⨟◌, after, node_in, refused}

pub assoc : (o : Out) (k j : M) → after (after o k) j ≡ after o (k ⨟ j)
unfolding after
assoc (done st t u) k j = refl
assoc (stop e l st t u) k j = refl

pub assoc₂ : (o : Out) (k j l : M) → after (after o (k ⨟ j)) l ≡ after o (k ⨟ (j ⨟ l))
unfolding after
assoc₂ (done st t u) k j l = assoc (k st t u) j l
assoc₂ (stop e n st t u) k j l = refl

pub assoc₃ : (o : Out) (k j l m : M) → after (after (after o (k ⨟ j)) l) m ≡ after o (k ⨟ (j ⨟ (l ⨟ m)))
assoc₃ o k j l m = assoc (after o (k ⨟ j)) l m ∙ assoc₂ o k j (l ⨟ m)

pub halted : (e : ℕ) (st : State) (t u : List ℕ) (k : M) → after (refused e st t u) k ≡ refused e st t u
unfolding refused after
halted e st t u k = go (eqb (code_of st) 255)
  where
    go : (b : Bool) → after (cond b (stop 3 st.last st t u) (stop e st.loc st t u)) k ≡ cond b (stop 3 st.last st t u) (stop e st.loc st t u)
    go true = refl
    go false = refl

-- a node's record, its flags as the code has them
pub noted : (n k s b p : ℕ) (st : State) (t u : List ℕ) {f g : ℕ} → f ≡ g → node_in n k f s b p st t u ≡ node_in n k g s b p st t u
noted n k s b p st t u h = ap (λ (f : ℕ). node_in n k f s b p st t u) h
