-- `write_fields::write_each` meets its contract. The invariant: the turns left, from here, make what all of them make.
use Rattle.std.specs.Prelude.{◌≡◌, Bool, true}
use Prim.Native.Nat.{ℕ, ◌-◌}
use Rattle.cursor.specs.declared.Cursor.{Cursor}
use Rattle.cursor.specs.Onto.{W}
use Rattle.cursor.specs.Writes.{Source, source, Writes}
use Rattle.cursor.proofs.Chain.{Left}
use Rattle.write_fields.specs.Onto.{Listed}
use Rattle.write_fields.proofs.write_each.Given as goal

abbrev pub invariant-loop : goal.invariant-loop
invariant-loop g l =
    (b : Source → Cursor → Bool) (k : Source → W) (m : Source → Bool → ℕ → W) → ((x : Source) → Listed (b x) (k x) (m x))
    → ((s : _) (r : _) → source s.now ≡ source l.fn.w → goal.T-post g l.fn.test s r → r ≡ b (source s.now) s.now.at) → ((s : _) (t : _) → goal.F-post g l.fn.write s tt t → Writes k s.now t.now) →
    let s = l.fn.w in
    let x = source s in
    Left (m x true x.count s.at s.out.now) s (m x l.first (x.count - l.counter) l.w.at l.w.out.now) l.w
