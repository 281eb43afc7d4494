-- `Writer::put_part` meets its contract.
use mathlib.Core.Path.{sym, ap}
use mathlib.Core.List.{List}
use Prim.Native.Nat.{ℕ}
use Rattle.cursor.specs.Onto.{put_out}
use Rattle.cursor.proofs.Bytes.{part_none, part_in}
use Rattle.cursor.proofs.Chain.{begins, last, ends}
use Rattle.cursor.proofs.Writer.put_part.Goals as goal

pub returns-in-Some : goal.returns-in-Some
returns-in-Some c =
    let h = c.in-Some.ensures.lookup.0 in
    let s = c.args.self.now in
    last c.put.ensures (begins (sym (part_in s.text.now _ _ s.at s.out.now _ h.1 h.0 (ap (λ (b : List ℕ). put_out b s.at s.out.now) h.2))))

pub returns-in_default : goal.returns-in_default
returns-in_default c = ends (begins (sym (part_none _ _ _ _ _ c.in_default.ensures.lookup.0)))
