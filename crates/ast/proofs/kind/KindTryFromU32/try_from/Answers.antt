-- `Kind::try_from` meets its contract: each arm is the kind at that number, and past the last there is none.
use mathlib.Core.Path.{ap, refl}
use native.Mathlib.Omega.{arith}
use Rattle.ast.specs.KindNumber.{kinds, kind_of}
use Rattle.ast.proofs.KindLaws.{kind_none}
use Rattle.ast.proofs.kind.KindTryFromU32.try_from.Goals as goal

pub returns-in-1 : goal.returns-in-1
unfolding kinds kind_of
returns-in-1 c = ap kind_of c.in-1.is

pub returns-in-2 : goal.returns-in-2
unfolding kinds kind_of
returns-in-2 c = ap kind_of c.in-2.is

pub returns-in-3 : goal.returns-in-3
unfolding kinds kind_of
returns-in-3 c = ap kind_of c.in-3.is

pub returns-in-4 : goal.returns-in-4
unfolding kinds kind_of
returns-in-4 c = ap kind_of c.in-4.is

pub returns-in-5 : goal.returns-in-5
unfolding kinds kind_of
returns-in-5 c = ap kind_of c.in-5.is

pub returns-in-6 : goal.returns-in-6
unfolding kinds kind_of
returns-in-6 c = ap kind_of c.in-6.is

pub returns-in-7 : goal.returns-in-7
unfolding kinds kind_of
returns-in-7 c = ap kind_of c.in-7.is

pub returns-in-8 : goal.returns-in-8
unfolding kinds kind_of
returns-in-8 c = ap kind_of c.in-8.is

pub returns-in-9 : goal.returns-in-9
unfolding kinds kind_of
returns-in-9 c = ap kind_of c.in-9.is

pub returns-in-10 : goal.returns-in-10
unfolding kinds kind_of
returns-in-10 c = ap kind_of c.in-10.is

pub returns-in-11 : goal.returns-in-11
unfolding kinds kind_of
returns-in-11 c = ap kind_of c.in-11.is

pub returns-in-12 : goal.returns-in-12
unfolding kinds kind_of
returns-in-12 c = ap kind_of c.in-12.is

pub returns-in-13 : goal.returns-in-13
unfolding kinds kind_of
returns-in-13 c = ap kind_of c.in-13.is

pub returns-in-14 : goal.returns-in-14
unfolding kinds kind_of
returns-in-14 c = ap kind_of c.in-14.is

pub returns-in-15 : goal.returns-in-15
unfolding kinds kind_of
returns-in-15 c = ap kind_of c.in-15.is

pub returns-in-16 : goal.returns-in-16
unfolding kinds kind_of
returns-in-16 c = ap kind_of c.in-16.is

pub returns-in-17 : goal.returns-in-17
unfolding kinds kind_of
returns-in-17 c = ap kind_of c.in-17.is

pub returns-in-18 : goal.returns-in-18
unfolding kinds kind_of
returns-in-18 c = ap kind_of c.in-18.is

pub returns-in-19 : goal.returns-in-19
unfolding kinds kind_of
returns-in-19 c = ap kind_of c.in-19.is

pub returns-in-20 : goal.returns-in-20
unfolding kinds kind_of
returns-in-20 c = ap kind_of c.in-20.is

pub returns-in-21 : goal.returns-in-21
unfolding kinds kind_of
returns-in-21 c = ap kind_of c.in-21.is

pub returns-in-22 : goal.returns-in-22
unfolding kinds kind_of
returns-in-22 c = ap kind_of c.in-22.is

pub returns-in-23 : goal.returns-in-23
unfolding kinds kind_of
returns-in-23 c = ap kind_of c.in-23.is

pub returns-in-24 : goal.returns-in-24
unfolding kinds kind_of
returns-in-24 c = ap kind_of c.in-24.is

pub returns-in-25 : goal.returns-in-25
unfolding kinds kind_of
returns-in-25 c = ap kind_of c.in-25.is

pub returns-in-26 : goal.returns-in-26
unfolding kinds kind_of
returns-in-26 c = ap kind_of c.in-26.is

pub returns-in-27 : goal.returns-in-27
unfolding kinds kind_of
returns-in-27 c = ap kind_of c.in-27.is

pub returns-in-28 : goal.returns-in-28
unfolding kinds kind_of
returns-in-28 c = ap kind_of c.in-28.is

pub returns-in-29 : goal.returns-in-29
unfolding kinds kind_of
returns-in-29 c = ap kind_of c.in-29.is

pub returns-in-30 : goal.returns-in-30
unfolding kinds kind_of
returns-in-30 c = ap kind_of c.in-30.is

pub returns-in-31 : goal.returns-in-31
unfolding kinds kind_of
returns-in-31 c = ap kind_of c.in-31.is

pub returns-in-32 : goal.returns-in-32
unfolding kinds kind_of
returns-in-32 c = ap kind_of c.in-32.is

pub returns-in-33 : goal.returns-in-33
unfolding kinds kind_of
returns-in-33 c = ap kind_of c.in-33.is

pub returns-in_default : goal.returns-in_default
returns-in_default c = (kind_none c.args.number (λ p. omega arith), refl)
