-- Trees without their places: each place moved to line 0, column 0, index 0.
use mathlib.Core.List.{List}
use Rattle.lexer.specs.declared.location.Span.{Span}
use Rattle.lexer.specs.declared.location.LOC.{LOC}
use Rattle.lexer.specs.Tokens.{Lexeme}
use Rattle.ast.specs.Ast.{FieldType, FieldInitialValue, Elements, Properties, Annotation, Annotations, Field, EnumMember, Function, Definition}
use Rattle.ast.specs.Move.{move_l, moves, move_type, move_value, move_elements, move_properties, move_annotation, move_annotations, move_field, move_member, move_function, move_definition, move}

abbrev pub gone : Span → Span
gone s = record { line = 0; column = 0; index = 0 }

-- the place of every lexeme and node once places are forgotten
abbrev pub nowhere : LOC
nowhere = record { start = record { line = 0; column = 0; index = 0 }; end = record { line = 0; column = 0; index = 0 } }

abbrev pub bare_l : Lexeme → Lexeme
bare_l = move_l gone

abbrev pub bares : List Lexeme → List Lexeme
bares = moves gone

abbrev pub forget_type : FieldType → FieldType
forget_type = move_type gone

abbrev pub forget_value : FieldInitialValue → FieldInitialValue
forget_value = move_value gone

abbrev pub forget_elements : Elements → Elements
forget_elements = move_elements gone

abbrev pub forget_properties : Properties → Properties
forget_properties = move_properties gone

abbrev pub forget_annotation : Annotation → Annotation
forget_annotation = move_annotation gone

abbrev pub forget_annotations : Annotations → Annotations
forget_annotations = move_annotations gone

abbrev pub forget_field : Field → Field
forget_field = move_field gone

abbrev pub forget_member : EnumMember → EnumMember
forget_member = move_member gone

abbrev pub forget_function : Function → Function
forget_function = move_function gone

abbrev pub forget_definition : Definition → Definition
forget_definition = move_definition gone

abbrev pub forget : List Definition → List Definition
forget = move gone
