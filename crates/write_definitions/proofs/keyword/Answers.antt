-- `write_definitions::keyword` meets its contract.
use mathlib.Core.Path.{ap, ◌∙◌}
use native.Mathlib.Omega.{arith}
use Rattle.std.specs.Prelude.{Option, Some, ◌<◌}
use Rattle.token.specs.Regex.{bytes as ascii}
use Rattle.ast.specs.KindNumber.{number_of}
use Rattle.ast.specs.declared.kind.Kind.{Kind}
use Rattle.ast.specs.declared.kind.Kind.TheVariants as V
use Rattle.cursor.specs.Onto.{say_out}
use Rattle.write_definitions.specs.Onto.{number, keyword_out}
use Rattle.write_definitions.proofs.KindNumbers.{number_not, keyword_else}
use Rattle.write_definitions.proofs.keyword.Goals as goal

pub returns-in_default : goal.returns-in_default
unfolding keyword_out number say_out ascii
returns-in_default c = λ p o. ap (λ (k : Option Kind). keyword_out (number k) p o) c.in_default.is

pub returns-in-Include : goal.returns-in-Include
unfolding keyword_out number say_out ascii
returns-in-Include c = λ p o. ap (λ (k : Option Kind). keyword_out (number k) p o) (c.in-Some.is ∙ ap Some c.in-Include.is)

pub returns-in-CppInclude : goal.returns-in-CppInclude
unfolding keyword_out number say_out ascii
returns-in-CppInclude c = λ p o. ap (λ (k : Option Kind). keyword_out (number k) p o) (c.in-Some.is ∙ ap Some c.in-CppInclude.is)

pub returns-in-Namespace : goal.returns-in-Namespace
unfolding keyword_out number say_out ascii
returns-in-Namespace c = λ p o. ap (λ (k : Option Kind). keyword_out (number k) p o) (c.in-Some.is ∙ ap Some c.in-Namespace.is)

pub returns-in-Const : goal.returns-in-Const
unfolding keyword_out number say_out ascii
returns-in-Const c = λ p o. ap (λ (k : Option Kind). keyword_out (number k) p o) (c.in-Some.is ∙ ap Some c.in-Const.is)

pub returns-in-Typedef : goal.returns-in-Typedef
unfolding keyword_out number say_out ascii
returns-in-Typedef c = λ p o. ap (λ (k : Option Kind). keyword_out (number k) p o) (c.in-Some.is ∙ ap Some c.in-Typedef.is)

pub returns-in-Enum : goal.returns-in-Enum
unfolding keyword_out number say_out ascii
returns-in-Enum c = λ p o. ap (λ (k : Option Kind). keyword_out (number k) p o) (c.in-Some.is ∙ ap Some c.in-Enum.is)

pub returns-in-Struct : goal.returns-in-Struct
unfolding keyword_out number say_out ascii
returns-in-Struct c = λ p o. ap (λ (k : Option Kind). keyword_out (number k) p o) (c.in-Some.is ∙ ap Some c.in-Struct.is)

pub returns-in-Union : goal.returns-in-Union
unfolding keyword_out number say_out ascii
returns-in-Union c = λ p o. ap (λ (k : Option Kind). keyword_out (number k) p o) (c.in-Some.is ∙ ap Some c.in-Union.is)

pub returns-in-Exception : goal.returns-in-Exception
unfolding keyword_out number say_out ascii
returns-in-Exception c = λ p o. ap (λ (k : Option Kind). keyword_out (number k) p o) (c.in-Some.is ∙ ap Some c.in-Exception.is)

pub returns-in_default-kind : goal.returns-in_default-kind
unfolding number say_out ascii
returns-in_default-kind c =
    let k = c.in-Some.kind in
    let d = c.in_default-kind in
    let past : 0 < number_of k → 9 < number_of k = λ h. omega (
      arith,
      h,
      number_not k V.Include d.not-Include,
      number_not k V.CppInclude d.not-CppInclude,
      number_not k V.Namespace d.not-Namespace,
      number_not k V.Const d.not-Const,
      number_not k V.Typedef d.not-Typedef,
      number_not k V.Enum d.not-Enum,
      number_not k V.Struct d.not-Struct,
      number_not k V.Union d.not-Union,
      number_not k V.Exception d.not-Exception,
    ) in
    λ p o. ap (λ (k : Option Kind). keyword_out (number k) p o) c.in-Some.is ∙ keyword_else (number_of k) past p o
