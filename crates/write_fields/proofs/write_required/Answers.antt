-- `write_fields::write_required` meets its contract.
use mathlib.Core.Path.{refl}
use native.Mathlib.Omega.{arith}
use Rattle.cursor.proofs.Chain.{begins, last, ends, yes, no}
use Rattle.write_fields.proofs.Shapes.{required_is}
use Rattle.write_fields.proofs.write_required.Goals as goal

pub returns-in-1 : goal.returns-in-1
returns-in-1 c = last c.put.ensures (yes _ _ _ _ _ refl c.in-1.is (begins (required_is _ _ _)))

pub returns-in-2 : goal.returns-in-2
returns-in-2 c =
    let f = c.args.flags in
    last c.put-in-2.ensures (yes _ _ _ _ _ refl c.in-2.is (no _ _ f 1 f refl (λ h. omega (arith, c.in-2.is, h)) (begins (required_is _ _ _))))

pub returns-in_default : goal.returns-in_default
returns-in_default c =
    let f = c.args.flags in
    ends (no _ _ f 2 f refl (λ h. omega (arith, h)) (no _ _ f 1 f refl (λ h. omega (arith, h)) (begins (required_is _ _ _))))
