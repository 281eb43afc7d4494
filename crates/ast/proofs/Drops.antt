-- What drop_params drops is dropped once, before places are forgotten or after.
--     drop_forget   the order does not matter
--     drop_twice    a second drop drops nothing
use mathlib.Core.Path.{◌≡◌, refl, ap}
use mathlib.Core.List.{List, [], ◌∷◌}
use Rattle.std.specs.Prelude.{Option, Some, None}
use Rattle.ast.specs.Lists.{maps, opt}
use Rattle.ast.specs.Ast.{
  Field,
  field,
  Function,
  function,
  Definition,
  Include,
  CppInclude,
  Namespace,
  Const,
  Typedef,
  Enum,
  structure,
  Service,
}
use Rattle.ast.specs.Drop.{drop_field, drop_function, drop_params}
use Rattle.ast.specs.Move.{moves, move_annotations, move_field, move_function, move_definition, move}
use Rattle.ast.proofs.Forget.{forget_field, forget_function, forget_definition, forget}

-- two functions one after another on each of a list
maps_swap : {A : Type 0} (f g h k : A → A) → ((x : A) → f (g x) ≡ h (k x)) → (xs : List A) → maps f (maps g xs) ≡ maps h (maps k xs)
unfolding maps
maps_swap f g h k e [] = refl
maps_swap f g h k e (x ∷ xs) = simp (e x, maps_swap f g h k e xs)

maps_once : {A : Type 0} (f g h : A → A) → ((x : A) → f (g x) ≡ h x) → (xs : List A) → maps f (maps g xs) ≡ maps h xs
unfolding maps
maps_once f g h e [] = refl
maps_once f g h e (x ∷ xs) = simp (e x, maps_once f g h e xs)

field_order : (f : Field) → forget_field (drop_field f) ≡ drop_field (forget_field f)
unfolding move_field drop_field moves move_annotations
field_order (field l c i q t n v a) = refl

throws_order : (th : Option (List Field)) → opt (maps forget_field) (opt (maps drop_field) th) ≡ opt (maps drop_field) (opt (maps forget_field) th)
unfolding opt
throws_order None = refl
throws_order (Some fs) = ap Some (maps_swap forget_field drop_field drop_field forget_field field_order fs)

function_order : (f : Function) → forget_function (drop_function f) ≡ drop_function (forget_function f)
unfolding move_function drop_function
function_order (function l c o t n ps th a) = simp (maps_swap forget_field drop_field drop_field forget_field field_order ps, throws_order th)

definition_order : (d : Definition) → forget_definition (drop_params d) ≡ drop_params (forget_definition d)
unfolding move_definition drop_params
definition_order (Include l c n) = refl
definition_order (CppInclude l c n) = refl
definition_order (Namespace l c s n) = refl
definition_order (Const l c t n v) = refl
definition_order (Typedef l c t n) = refl
definition_order (Enum l c n xs a) = refl
definition_order (structure s l c n fs a) = refl
definition_order (Service l c n x fs a) = simp (maps_swap forget_function drop_function drop_function forget_function function_order fs)

pub drop_forget : (ds : List Definition) → forget (maps drop_params ds) ≡ maps drop_params (forget ds)
unfolding move
drop_forget ds = maps_swap forget_definition drop_params drop_params forget_definition definition_order ds

field_twice : (f : Field) → drop_field (drop_field f) ≡ drop_field f
unfolding drop_field
field_twice (field l c i q t n v a) = refl

throws_twice : (th : Option (List Field)) → opt (maps drop_field) (opt (maps drop_field) th) ≡ opt (maps drop_field) th
unfolding opt
throws_twice None = refl
throws_twice (Some fs) = ap Some (maps_once drop_field drop_field drop_field field_twice fs)

function_twice : (f : Function) → drop_function (drop_function f) ≡ drop_function f
unfolding drop_function
function_twice (function l c o t n ps th a) = simp (maps_once drop_field drop_field drop_field field_twice ps, throws_twice th)

definition_twice : (d : Definition) → drop_params (drop_params d) ≡ drop_params d
unfolding drop_params
definition_twice (Include l c n) = refl
definition_twice (CppInclude l c n) = refl
definition_twice (Namespace l c s n) = refl
definition_twice (Const l c t n v) = refl
definition_twice (Typedef l c t n) = refl
definition_twice (Enum l c n xs a) = refl
definition_twice (structure s l c n fs a) = refl
definition_twice (Service l c n x fs a) = simp (maps_once drop_function drop_function drop_function function_twice fs)

pub drop_twice : (ds : List Definition) → maps drop_params (maps drop_params ds) ≡ maps drop_params ds
drop_twice ds = maps_once drop_params drop_params drop_params definition_twice ds
