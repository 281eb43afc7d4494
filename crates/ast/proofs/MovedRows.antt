-- The records of a tree whose places are moved are the records of the tree, each with its place moved.
--     rows_moved       the nodes, for any map of spans, and a map of rows that does to a row what it does to a place, whatever stands behind it
--     notes_moved      the comments, for the same
--     rows_unlined     the nodes without lines and columns
--     notes_unlined    the comments without lines and columns
use mathlib.Core.Path.{◌≡◌, refl, sym, ap, ap₂}
use mathlib.Core.List.{List, [], ◌∷◌, ◌++◌}
use Rattle.std.specs.Prelude.{Option, Some, None}
use Prim.Native.Nat.{ℕ, suc, ◌+◌}
use Rattle.lexer.specs.declared.location.Span.{Span}
use Rattle.lexer.specs.declared.location.LOC.{LOC}
use Rattle.lexer.specs.Tokens.{Lexeme, lexeme}
use Rattle.ast.specs.Lists.{maps, opt}
use Rattle.ast.specs.Ast.{
  FieldType,
  CommonType,
  ListType,
  SetType,
  MapType,
  FieldInitialValue,
  ConstValue,
  ConstList,
  ConstMap,
  Elements,
  nil,
  cons,
  Properties,
  pnil,
  pcons,
  Annotation,
  annotation,
  Annotations,
  absent,
  annotations,
  Field,
  field,
  EnumMember,
  member,
  Function,
  function,
  Definition,
  Include,
  CppInclude,
  Namespace,
  Const,
  Typedef,
  Enum,
  structure,
  Service,
}
use Rattle.ast.specs.Kind as K
use Rattle.ast.specs.Tree.{Tree, node, Forest, bare, grown, leaf, inner, single, both, each, perhaps, name_tree, id_tree, type_tree, literal_tree, value_tree, element_trees, property_trees, annotation_tree, annotations_tree, field_tree, member_tree, throws_flag, throws_trees, function_tree, definition_tree}
use Rattle.ast.specs.Records.{row, node_row, size, sizes, rows, rows_of, comment_row, owned, comment_rows, comment_rows_of, forest, node_rows, notes, no_parent}
use Rattle.ast.specs.Move.{move_loc, move_l, moves, move_type, move_value, move_elements, move_properties, move_annotation, move_annotations, move_field, move_member, move_function, move_definition, move, unlined, unlined_row}
use Rattle.ast.proofs.Maps.{maps_append}

-- a tree of records whose places are moved
mutual
  move_tree : (Span → Span) → Tree → Tree
  move_tree h (node k f l w c ts) = node k f (move_loc h l) w (moves h c) (move_forest h ts)

  move_forest : (Span → Span) → Forest → Forest
  move_forest h bare = bare
  move_forest h (grown t ts) = grown (move_tree h t) (move_forest h ts)

module _ (h : Span → Span) where
  -- ---- the trees of moved definitions are moved

  each_tree : {A : Type 0} (t : A → Tree) (m : A → A) → ((x : A) → t (m x) ≡ move_tree h (t x)) →
      (xs : List A) (r : Forest) → each t (maps m xs) (move_forest h r) ≡ move_forest h (each t xs r)
  unfolding each maps move_forest
  each_tree t m e [] r = refl
  each_tree t m e (x ∷ xs) r = simp (e x, each_tree t m e xs r)

  perhaps_tree : {A : Type 0} (t : A → Tree) (m : A → A) → ((x : A) → t (m x) ≡ move_tree h (t x)) →
      (o : Option A) (r : Forest) → perhaps t (opt m o) (move_forest h r) ≡ move_forest h (perhaps t o r)
  unfolding perhaps opt move_forest
  perhaps_tree t m e None r = refl
  perhaps_tree t m e (Some x) r = simp (e x)

  leaf_tree : (k : ℕ) (t : Lexeme) → leaf k (move_l h t) ≡ move_tree h (leaf k t)
  unfolding leaf move_l moves move_tree
  leaf_tree k (lexeme j w l) = refl

  name_tree_law : (t : Lexeme) → name_tree (move_l h t) ≡ move_tree h (name_tree t)
  unfolding name_tree
  name_tree_law t = leaf_tree K.Name t

  id_tree_law : (t : Lexeme) → id_tree (move_l h t) ≡ move_tree h (id_tree t)
  unfolding id_tree
  id_tree_law t = leaf_tree K.FieldId t

  literal_tree_law : (t : Lexeme) → literal_tree (move_l h t) ≡ move_tree h (literal_tree t)
  unfolding literal_tree leaf move_l moves move_tree
  literal_tree_law (lexeme j w l) = refl

  type_tree_law : (t : FieldType) → type_tree (move_type h t) ≡ move_tree h (type_tree t)
  unfolding type_tree move_type move_tree inner single both leaf move_l moves
  type_tree_law (CommonType (lexeme j w l)) = refl
  type_tree_law (ListType l k t) = simp (type_tree_law t)
  type_tree_law (SetType l k t) = simp (type_tree_law t)
  type_tree_law (MapType l k a b) = simp (type_tree_law a, type_tree_law b)

  mutual
    unfolding value_tree element_trees property_trees move_value move_elements move_properties move_tree move_forest inner single both moves

    value_tree_law : (v : FieldInitialValue) → value_tree (move_value h v) ≡ move_tree h (value_tree v)
    value_tree_law (ConstValue t) = literal_tree_law t
    value_tree_law (ConstList l vs) = simp (elements_tree vs)
    value_tree_law (ConstMap l ps) = simp (properties_tree ps)

    elements_tree : (vs : Elements) → element_trees (move_elements h vs) ≡ move_forest h (element_trees vs)
    elements_tree nil = refl
    elements_tree (cons v vs) = simp (value_tree_law v, elements_tree vs)

    properties_tree : (ps : Properties) → property_trees (move_properties h ps) ≡ move_forest h (property_trees ps)
    properties_tree pnil = refl
    properties_tree (pcons l k v ps) = simp (value_tree_law k, value_tree_law v, properties_tree ps)

  annotation_tree_law : (a : Annotation) → annotation_tree (move_annotation h a) ≡ move_tree h (annotation_tree a)
  unfolding annotation_tree move_annotation move_tree inner single both moves
  annotation_tree_law (annotation l n v) = simp (name_tree_law, literal_tree_law)

  -- what stands behind annotations is nothing
  annotations_tree_law : (a : Annotations) → annotations_tree (move_annotations h a) bare ≡ move_forest h (annotations_tree a bare)
  unfolding annotations_tree move_annotations move_tree inner moves
  annotations_tree_law absent = refl
  annotations_tree_law (annotations l xs) = simp (each_tree annotation_tree (move_annotation h) annotation_tree_law xs bare)

  field_tree_law : (f : ℕ) (x : Field) → field_tree f (move_field h x) ≡ move_tree h (field_tree f x)
  unfolding field_tree move_field move_tree
  field_tree_law f (field l c i q t n v a) =
      simp (← perhaps_tree id_tree (move_l h) id_tree_law, type_tree_law, name_tree_law, ← perhaps_tree value_tree (move_value h) value_tree_law, ← annotations_tree_law)

  member_tree_law : (x : EnumMember) → member_tree (move_member h x) ≡ move_tree h (member_tree x)
  unfolding member_tree move_member move_tree
  member_tree_law (member l c n v a) = simp (name_tree_law, ← perhaps_tree literal_tree (move_l h) literal_tree_law, ← annotations_tree_law)

  throws_flag_law : (th : Option (List Field)) → throws_flag (opt (maps (move_field h)) th) ≡ throws_flag th
  unfolding throws_flag opt
  throws_flag_law None = refl
  throws_flag_law (Some fs) = refl

  throws_tree : (th : Option (List Field)) (r : Forest) → throws_trees (opt (maps (move_field h)) th) (move_forest h r) ≡ move_forest h (throws_trees th r)
  unfolding throws_trees opt
  throws_tree None r = refl
  throws_tree (Some fs) r = each_tree (field_tree K.Thrown) (move_field h) (field_tree_law K.Thrown) fs r

  function_tree_law : (x : Function) → function_tree (move_function h x) ≡ move_tree h (function_tree x)
  unfolding function_tree move_function move_tree
  function_tree_law (function l c o t n ps th a) =
      simp (throws_flag_law, type_tree_law, name_tree_law, ← each_tree (field_tree 0) (move_field h) (field_tree_law 0), ← throws_tree, ← annotations_tree_law)

  definition_tree_law : (d : Definition) → definition_tree (move_definition h d) ≡ move_tree h (definition_tree d)
  unfolding definition_tree move_definition move_tree single both
  definition_tree_law (Include l c n) = simp name_tree_law
  definition_tree_law (CppInclude l c n) = simp name_tree_law
  definition_tree_law (Namespace l c s n) = simp name_tree_law
  definition_tree_law (Const l c t n v) = simp (type_tree_law, name_tree_law, value_tree_law)
  definition_tree_law (Typedef l c t n) = simp (type_tree_law, name_tree_law)
  definition_tree_law (Enum l c n ms a) = simp (name_tree_law, ← each_tree member_tree (move_member h) member_tree_law, ← annotations_tree_law)
  definition_tree_law (structure s l c n fs a) = simp (name_tree_law, ← each_tree (field_tree 0) (move_field h) (field_tree_law 0), ← annotations_tree_law)
  definition_tree_law (Service l c n x fs a) =
      simp (name_tree_law, ← perhaps_tree name_tree (move_l h) name_tree_law, ← each_tree function_tree (move_function h) function_tree_law, ← annotations_tree_law)

  forest_moved : (ds : List Definition) → forest (move h ds) ≡ move_forest h (forest ds)
  unfolding forest move move_forest
  forest_moved ds = each_tree definition_tree (move_definition h) definition_tree_law ds bare

  -- ---- their rows

  mutual
    unfolding size sizes move_tree move_forest

    size_moved : (t : Tree) → size (move_tree h t) ≡ size t
    size_moved (node k f l w c ts) = ap suc (sizes_moved ts)

    sizes_moved : (ts : Forest) → sizes (move_forest h ts) ≡ sizes ts
    sizes_moved bare = refl
    sizes_moved (grown t ts) = simp (size_moved t, sizes_moved ts)

  module _ (g : List ℕ → List ℕ) (moved : (k p f : ℕ) (l : LOC) (more : List ℕ) → g (row k p f l ++ more) ≡ row k p f (move_loc h l) ++ more) where
    mutual
      unfolding rows rows_of node_row size move_tree move_forest maps

      tree_rows : (t : Tree) (p n : ℕ) → rows (move_tree h t) p n ≡ maps g (rows t p n)
      tree_rows (node k f l w c ts) p n =
          let t = node k f l w c ts in
          let e : row k p f (move_loc h l) ++ (n + size (move_tree h t)) ∷ [] ≡ g (row k p f l ++ (n + size t) ∷ []) = rw (size_moved t) (sym (moved k p f l ((n + size t) ∷ []))) in
          ap₂ ◌∷◌ e (forest_rows ts n (suc n))

      forest_rows : (ts : Forest) (p n : ℕ) → rows_of (move_forest h ts) p n ≡ maps g (rows_of ts p n)
      forest_rows bare p n = refl
      forest_rows (grown t ts) p n = simp (maps_append, size_moved t, tree_rows t p n, forest_rows ts p (n + size t))

    comment_row_law : (o : ℕ) (t : Lexeme) → comment_row o (move_l h t) ≡ g (comment_row o t)
    unfolding comment_row move_l row
    comment_row_law o (lexeme k w l) = sym (moved _ o 0 l [])

    owned_rows : (o : ℕ) (c : List Lexeme) → owned o (moves h c) ≡ maps g (owned o c)
    unfolding owned moves maps
    owned_rows o [] = refl
    owned_rows o (t ∷ c) = simp (comment_row_law, owned_rows o c)

    mutual
      unfolding comment_rows comment_rows_of move_tree move_forest maps

      tree_comments : (t : Tree) (n : ℕ) → comment_rows (move_tree h t) n ≡ maps g (comment_rows t n)
      tree_comments (node k f l w c ts) n = simp (maps_append, owned_rows, forest_comments ts (suc n))

      forest_comments : (ts : Forest) (n : ℕ) → comment_rows_of (move_forest h ts) n ≡ maps g (comment_rows_of ts n)
      forest_comments bare n = refl
      forest_comments (grown t ts) n = simp (maps_append, size_moved t, tree_comments t n, forest_comments ts (n + size t))

    pub rows_moved : (ds : List Definition) → node_rows (move h ds) ≡ maps g (node_rows ds)
    unfolding node_rows
    rows_moved ds = rw forest_moved (forest_rows (forest ds) no_parent 0)

    pub notes_moved : (ds : List Definition) → notes (move h ds) ≡ maps g (notes ds)
    unfolding notes
    notes_moved ds = rw forest_moved (forest_comments (forest ds) 0)

-- ---- without lines and columns

row_unlined : (k p f : ℕ) (l : LOC) (more : List ℕ) → unlined_row (row k p f l ++ more) ≡ row k p f (move_loc unlined l) ++ more
unfolding unlined_row row unlined
row_unlined k p f l more = refl

pub rows_unlined : (ds : List Definition) → node_rows (move unlined ds) ≡ maps unlined_row (node_rows ds)
rows_unlined = rows_moved unlined unlined_row row_unlined

pub notes_unlined : (ds : List Definition) → notes (move unlined ds) ≡ maps unlined_row (notes ds)
notes_unlined = notes_moved unlined unlined_row row_unlined
