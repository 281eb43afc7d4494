-- `Writer::repeat` meets its contract. The invariant: the turns left, from here, make what all of them make.
use Prim.Native.Nat.{ℕ, ◌-◌}
use Rattle.std.specs.Prelude.{◌≡◌, Bool}
use Rattle.cursor.specs.declared.Cursor.{Cursor}
use Rattle.cursor.specs.Onto.{W}
use Rattle.cursor.specs.Writes.{Source, source, Turns, Writes}
use Rattle.cursor.proofs.Chain.{Left}
use Rattle.cursor.proofs.Writer.repeat.Given as goal

abbrev pub invariant-loop : goal.invariant-loop
invariant-loop g l =
    (b : Source → Cursor → Bool) (k : Source → W) (m : Source → ℕ → W) → ((x : Source) → Turns (b x) (k x) (m x))
    → ((s : _) (r : _) → source s.now ≡ source l.fn.self → goal.T-post g l.fn.test s r → r ≡ b (source s.now) s.now.at) → ((s : _) (t : _) → goal.S-post g l.fn.step s tt t → Writes k s.now t.now) →
    let s = l.fn.self in
    let x = source s in
    Left (m x l.turns s.at s.out.now) s (m x (l.turns - l.counter) l.self.at l.self.out.now) l.self
