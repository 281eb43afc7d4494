-- `parse_definitions::parse_definition` meets its contract.
use mathlib.Core.Path.{ap, ◌∙◌}
use Rattle.std.specs.Prelude.{Some}
use Rattle.lexer.specs.declared.error.ErrorKind.TheVariants as E
use Rattle.steps.proofs.Chain.{begins, last, halts}
use Rattle.parse_definitions.specs.Into.{definition_by}
use Rattle.parse_definitions.proofs.Forms.{definition_at, definition_none, by_none_of}
use Rattle.token.specs.Code.{code}
use Rattle.parse_definitions.proofs.parse_definition.Goals as goal

pub returns-in-Namespace : goal.returns-in-Namespace
unfolding definition_by code
returns-in-Namespace c = last c.parse_namespace.ensures (begins (definition_at _ _ _ _ _ (c.in-Some.is ∙ ap Some c.in-Namespace.is)))

pub returns-in-CppInclude : goal.returns-in-CppInclude
unfolding definition_by code
returns-in-CppInclude c = last c.parse_include.ensures (begins (definition_at _ _ _ _ _ (c.in-Some.is ∙ ap Some c.in-CppInclude.is)))

pub returns-in-Include : goal.returns-in-Include
unfolding definition_by code
returns-in-Include c = last c.parse_include-in-Include.ensures (begins (definition_at _ _ _ _ _ (c.in-Some.is ∙ ap Some c.in-Include.is)))

pub returns-in-Typedef : goal.returns-in-Typedef
unfolding definition_by code
returns-in-Typedef c = last c.parse_typedef.ensures (begins (definition_at _ _ _ _ _ (c.in-Some.is ∙ ap Some c.in-Typedef.is)))

pub returns-in-Const : goal.returns-in-Const
unfolding definition_by code
returns-in-Const c = last c.parse_const.ensures (begins (definition_at _ _ _ _ _ (c.in-Some.is ∙ ap Some c.in-Const.is)))

pub returns-in-Enum : goal.returns-in-Enum
unfolding definition_by code
returns-in-Enum c = last c.parse_enum.ensures (begins (definition_at _ _ _ _ _ (c.in-Some.is ∙ ap Some c.in-Enum.is)))

pub returns-in-Struct : goal.returns-in-Struct
unfolding definition_by code
returns-in-Struct c = last c.parse_structure.ensures (begins (definition_at _ _ _ _ _ (c.in-Some.is ∙ ap Some c.in-Struct.is)))

pub returns-in-Union : goal.returns-in-Union
unfolding definition_by code
returns-in-Union c = last c.parse_structure-in-Union.ensures (begins (definition_at _ _ _ _ _ (c.in-Some.is ∙ ap Some c.in-Union.is)))

pub returns-in-Exception : goal.returns-in-Exception
unfolding definition_by code
returns-in-Exception c = last c.parse_structure-in-Exception.ensures (begins (definition_at _ _ _ _ _ (c.in-Some.is ∙ ap Some c.in-Exception.is)))

pub returns-in-Service : goal.returns-in-Service
unfolding definition_by code
returns-in-Service c = last c.parse_service.ensures (begins (definition_at _ _ _ _ _ (c.in-Some.is ∙ ap Some c.in-Service.is)))

pub returns-in_default : goal.returns-in_default
returns-in_default c = halts _ E.UnexpectedToken c.error.ensures (begins (definition_none _ _ _ _ _ c.in_default.is))

pub returns-in_default-token : goal.returns-in_default-token
returns-in_default-token c =
    let n = c.in_default-token in
    halts _ E.UnexpectedToken c.error-in_default-token.ensures
    (begins
    (definition_at _ _ _ _ _ c.in-Some.is
    ∙ by_none_of _ _ _ _ _ _ n.not-Namespace n.not-CppInclude n.not-Include n.not-Typedef n.not-Const n.not-Enum n.not-Struct n.not-Union n.not-Exception n.not-Service))
