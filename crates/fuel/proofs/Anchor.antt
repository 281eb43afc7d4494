-- With the constant 65537 and parser's rule for a field's id the readers of specs/Fueled are parser's own.
use mathlib.Core.Path.{◌≡◌, refl}
use mathlib.Core.List.{List}
use Prim.Native.Nat.{ℕ, suc, zero}
use Rattle.ast.specs.Ast.{Structure, Struct, Union, Exception}
use Rattle.parser.specs.Steps.{many}
use Rattle.parser.specs.Values as W
use Rattle.parser.specs.Definitions as D
use Rattle.parser.specs.Read as R
use Rattle.fuel.specs.Fueled as F

pub list_anchor : F.list_value 65537 ≡ W.list_value
unfolding F.list_value W.list_value many
list_anchor = refl

pub map_anchor : F.map_value 65537 ≡ W.map_value
unfolding F.map_value W.map_value many
map_anchor = refl

pub container_anchor : F.container_value 65537 ≡ W.container_value
unfolding F.container_value W.container_value F.list_value W.list_value F.map_value W.map_value many
container_anchor = refl

pub value_anchor : (d : ℕ) → F.field_value 65537 d ≡ W.field_value d
unfolding F.field_value W.field_value
value_anchor zero = refl
value_anchor (suc d) = rw (container_anchor, value_anchor d)

pub parse_value_anchor : F.parse_value 65537 ≡ D.parse_value
unfolding F.parse_value D.parse_value
parse_value_anchor = value_anchor _

pub annotations_anchor : F.parse_annotations 65537 ≡ D.parse_annotations
unfolding F.parse_annotations D.parse_annotations many
annotations_anchor = refl

pub default_anchor : F.parse_default 65537 ≡ D.parse_default
unfolding F.parse_default D.parse_default
default_anchor = rw parse_value_anchor

pub field_anchor : F.parse_field D.parse_field_id 65537 ≡ D.parse_field
unfolding F.parse_field D.parse_field
field_anchor = rw (default_anchor, annotations_anchor)

pub parameters_anchor : F.parse_parameters D.parse_field_id 65537 ≡ D.parse_parameters
unfolding F.parse_parameters D.parse_parameters F.parse_members D.parse_members many
parameters_anchor = rw field_anchor

pub throws_anchor : F.parse_throws D.parse_field_id 65537 ≡ D.parse_throws
unfolding F.parse_throws D.parse_throws
throws_anchor = rw parameters_anchor

pub function_anchor : F.parse_function D.parse_field_id 65537 ≡ D.parse_function
unfolding F.parse_function D.parse_function
function_anchor = rw (parameters_anchor, throws_anchor, annotations_anchor)

pub member_anchor : F.parse_enum_member 65537 ≡ D.parse_enum_member
unfolding F.parse_enum_member D.parse_enum_member
member_anchor = rw annotations_anchor

pub const_anchor : F.parse_const 65537 ≡ D.parse_const
unfolding F.parse_const D.parse_const
const_anchor = rw parse_value_anchor

pub enum_anchor : F.parse_enum 65537 ≡ D.parse_enum
unfolding F.parse_enum D.parse_enum F.parse_members D.parse_members many
enum_anchor = rw (member_anchor, annotations_anchor)

pub structure_anchor : (k : Structure) → F.parse_structure D.parse_field_id 65537 k ≡ D.parse_structure k
unfolding F.parse_structure D.parse_structure F.parse_members D.parse_members many
structure_anchor k = rw (field_anchor, annotations_anchor)

pub service_anchor : F.parse_service D.parse_field_id 65537 ≡ D.parse_service
unfolding F.parse_service D.parse_service F.parse_members D.parse_members many
service_anchor = rw (function_anchor, annotations_anchor)

pub definition_anchor : F.parse_definition D.parse_field_id 65537 ≡ D.parse_definition
unfolding F.parse_definition D.parse_definition
definition_anchor = rw (const_anchor, enum_anchor, structure_anchor Struct, structure_anchor Union, structure_anchor Exception, service_anchor)

pub document_anchor : F.parse_document D.parse_field_id 65537 ≡ D.parse_document
unfolding F.parse_document D.parse_document many
document_anchor = rw definition_anchor

pub parsed_anchor : (t : List ℕ) → F.parsed 65537 t ≡ R.parsed t
unfolding F.parsed R.parsed
parsed_anchor t = rw document_anchor
