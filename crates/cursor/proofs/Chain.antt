-- A function of the printer's code, call by call: Z is what the whole makes, and each law takes one step more.
--     begins                    before the first call
--     so, made                  the same, by what else it is
--     kept                      a call behind which the function goes on
--     skipped                   a call that would do nothing
--     line_start                the start of a line, as one call
--     last, ends                the last call; nothing more to do
--     yes, no, less, more       a test of two numbers
--     when, unless              a test, by what decides it
--     counted, turn, over       a loop of so many turns: before it, at a turn, behind it
--     tested, parented          what a writer reads of its tables and of where it stands
use mathlib.Core.Path.{◌≡◌, refl, sym, ap, ◌∙◌}
use mathlib.Core.Bool.{Bool, true, false, cond}
use Prim.Native.Nat.{ℕ, suc, ◌+◌, ◌-◌, ◌<◌, ◌≤◌}
use native.Mathlib.Omega.{arith}
use lib.Dec.{eqb, ltb}
use borrow.Author.Tests.{eq-eqb, ne_eqb, lt-ltb, le-ltb}
use Rattle.ast.specs.Records.{node_width}
use Rattle.cursor.specs.declared.Cursor.{Cursor}
use Rattle.cursor.specs.declared.Writer.{Writer}
use Rattle.cursor.specs.Onto.{Reached, reached, W, then, ◌⨟◌, parent_at}
use Rattle.cursor.specs.Writes.{Source, source, Writes}

-- X is what is left to make, from the writer t, and s is the writer that the function began with
pub record Left (Z : Reached) (s : Writer) (X : Reached) (t : Writer) : Type 0 where
  pub goes : Z ≡ X
  pub same : source t ≡ source s
  pub lent : t.out.ghost_name ≡ s.out.ghost_name

pub begins : {Z X : Reached} {s : Writer} → Z ≡ X → Left Z s X s
begins e = record { goes = e; same = refl; lent = refl }

pub so : {Z X : Reached} {s t : Writer} (Y : Reached) → X ≡ Y → Left Z s X t → Left Z s Y t
so Y e v = record { goes = v.goes ∙ e; same = v.same; lent = v.lent }

-- a call, by what else it is
pub made : {Z m n : Reached} {s t : Writer} (k : W) → m ≡ n → Left Z s (then m k) t → Left Z s (then n k) t
made {Z} {m} {n} k e = so (then n k) (ap (λ (x : Reached). then x k) e)

pub kept : {Z : Reached} {s t u : Writer} {m : Source → W} → Writes m t u → (k : W) → Left Z s (then (m (source s) t.at t.out.now) k) t →
    Left Z s (k u.at u.out.now) u
unfolding then
kept {Z} {s} {t} {u} {m} w k v =
    let e : reached u.at u.out.now ≡ m (source s) t.at t.out.now = w.goes ∙ ap (λ (x : Source). m x t.at t.out.now) v.same in
    record { goes = v.goes ∙ ap (λ (x : Reached). then x k) (sym e); same = w.same ∙ v.same; lent = w.lent ∙ v.lent }

-- a call that would do nothing, and is not made
pub skipped : {Z m : Reached} {s t : Writer} (k : W) → m ≡ reached t.at t.out.now → Left Z s (then m k) t → Left Z s (k t.at t.out.now) t
unfolding then
skipped {Z} {m} {s} {t} k e = so (k t.at t.out.now) (ap (λ (x : Reached). then x k) e)

-- the start of a line and what follows it
pub line_start : (a : Reached) (m n k : W) → then a (m ⨟ (n ⨟ k)) ≡ then (then a (m ⨟ n)) k
unfolding then
line_start (reached q o) m n k = go (m q o)
  where
    go : (b : Reached) → then b (n ⨟ k) ≡ then (then b n) k
    go (reached p o) = refl

pub ends : {M : Source → W} {s t : Writer} → Left (M (source s) s.at s.out.now) s (reached t.at t.out.now) t → Writes M s t
ends v = record { goes = sym v.goes; same = v.same; lent = v.lent }

pub last : {M m : Source → W} {s t u : Writer} → Writes m t u → Left (M (source s) s.at s.out.now) s (m (source s) t.at t.out.now) t → Writes M s u
last {M} {m} {s} {t} w v = record {
  goes = w.goes ∙ ap (λ (x : Source). m x t.at t.out.now) v.same ∙ sym v.goes;
  same = w.same ∙ v.same;
  lent = w.lent ∙ v.lent;
}

-- ---- tests

module _ {Z : Reached} {s t : Writer} (A B : Reached) where
  pub when : (b r : Bool) → r ≡ b → r ≡ true → Left Z s (cond b A B) t → Left Z s A t
  when b r e h = so A (ap (λ (x : Bool). cond x A B) (sym e ∙ h))

  pub unless : (b r : Bool) → r ≡ b → r ≡ false → Left Z s (cond b A B) t → Left Z s B t
  unless b r e h = so B (ap (λ (x : Bool). cond x A B) (sym e ∙ h))

  -- r: the number x, as the code has it
  pub yes : (x k r : ℕ) → r ≡ x → r ≡ k → Left Z s (cond (eqb x k) A B) t → Left Z s A t
  yes x k r e h = so A (ap (λ (b : Bool). cond b A B) (eq-eqb x k (sym e ∙ h)))

  pub no : (x k r : ℕ) → r ≡ x → (r ≡ k → ⊥) → Left Z s (cond (eqb x k) A B) t → Left Z s B t
  no x k r e h = so B (ap (λ (b : Bool). cond b A B) (ne_eqb x k (λ f. h (e ∙ f))))

  pub less : (x k : ℕ) → x < k → Left Z s (cond (ltb x k) A B) t → Left Z s A t
  less x k h = so A (ap (λ (b : Bool). cond b A B) (lt-ltb x k h))

  pub more : (x k : ℕ) → k ≤ x → Left Z s (cond (ltb x k) A B) t → Left Z s B t
  more x k h = so B (ap (λ (b : Bool). cond b A B) (le-ltb x k h))

-- ---- loops: m is what so many turns make

pub counted : {Z : Reached} {s : Writer} (m : ℕ → W) (n e : ℕ) → n ≡ e → Z ≡ m n s.at s.out.now → Left Z s (m (e - 0) s.at s.out.now) s
counted {Z} {s} m n e h z = begins (z ∙ ap (λ (k : ℕ). m k s.at s.out.now) (omega (arith, h)))

module _ {Z : Reached} {s t : Writer} (m : ℕ → W) (i e : ℕ) where
  pub turn : i < e → Left Z s (m (e - i) t.at t.out.now) t → Left Z s (m (suc (e - (i + 1))) t.at t.out.now) t
  turn h = so (m (suc (e - (i + 1))) t.at t.out.now) (ap (λ (k : ℕ). m k t.at t.out.now) (omega (arith, h)))

  pub over : e ≤ i → Left Z s (m (e - i) t.at t.out.now) t → Left Z s (m 0 t.at t.out.now) t
  over h = so (m 0 t.at t.out.now) (ap (λ (k : ℕ). m k t.at t.out.now) (omega (arith, h)))

-- ---- reads

module _ {Z X : Reached} {s t : Writer} (v : Left Z s X t) where
  pub tested : {r : Bool} (b : Source → Cursor → Bool) → r ≡ b (source t) t.at → r ≡ b (source s) t.at
  tested {r} b e = e ∙ ap (λ (x : Source). b x t.at) v.same

  pub parented : {r : ℕ} → r ≡ parent_at node_width (source t).nodes (source t).count t.at.node → r ≡ parent_at node_width (source s).nodes (source s).count t.at.node
  parented {r} e = e ∙ ap (λ (x : Source). parent_at node_width x.nodes x.count t.at.node) v.same
