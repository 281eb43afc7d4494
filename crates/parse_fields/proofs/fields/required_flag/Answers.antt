-- `parse_fields::fields::required_flag` meets its contract.
use mathlib.Core.Path.{◌≡◌, refl}
use Rattle.std.specs.Prelude.{Option, Some, None}
use Rattle.token.specs.Code.{code}
use Rattle.token.specs.declared.Token.{Token}
use Rattle.parser.proofs.KindLaws.{unlike}
use Rattle.steps.specs.Into.{numbered}
use Rattle.parse_fields.specs.Into.{required_of}
use Rattle.parse_fields.proofs.fields.required_flag.Goals as goal

some_is : (a : Option Token) {k : Token} → a ≡ Some k → numbered a ≡ code k
unfolding numbered
some_is a h = rw h refl

none_is : (a : Option Token) → ((k : Token) → a ≡ Some k → ⊥) → numbered a ≡ 255
unfolding numbered
none_is None h = refl
none_is (Some k) h = absurd (h k refl)

pub returns-in_default : goal.returns-in_default
unfolding required_of
returns-in_default c = rw (none_is _ c.in_default.not-Some)

pub returns-in-Required : goal.returns-in-Required
unfolding required_of code
returns-in-Required c = rw (some_is _ c.in-Some.is, c.in-Required.is)

pub returns-in-Optional : goal.returns-in-Optional
unfolding required_of code
returns-in-Optional c = rw (some_is _ c.in-Some.is, c.in-Optional.is)

pub returns-in_default-token : goal.returns-in_default-token
unfolding required_of code
returns-in_default-token c = let n = c.in_default-token in rw (some_is _ c.in-Some.is, unlike n.not-Required, unlike n.not-Optional)
