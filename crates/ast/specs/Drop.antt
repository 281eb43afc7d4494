-- What rico's write_param drops of parameters and thrown fields: comments, requiredness, annotations.
use Rattle.std.specs.Prelude.{[]}
use Rattle.ast.specs.Lists.{maps, opt}
use Rattle.ast.specs.Ast.{absent, default, Field, field, Function, function, Definition, Include, CppInclude, Namespace, Const, Typedef, Enum, structure, Service}

unfoldable pub drop_field : Field → Field
drop_field (field l c i r t n v a) = field l [] i default t n v absent

unfoldable pub drop_function : Function → Function
drop_function (function l c o t n ps th a) = function l c o t n (maps drop_field ps) (opt (maps drop_field) th) a

unfoldable pub drop_params : Definition → Definition
drop_params (Include l c n) = Include l c n
drop_params (CppInclude l c n) = CppInclude l c n
drop_params (Namespace l c s n) = Namespace l c s n
drop_params (Const l c t n v) = Const l c t n v
drop_params (Typedef l c t n) = Typedef l c t n
drop_params (Enum l c n ms a) = Enum l c n ms a
drop_params (structure s l c n fs a) = structure s l c n fs a
drop_params (Service l c n x fs a) = Service l c n x (maps drop_function fs) a
