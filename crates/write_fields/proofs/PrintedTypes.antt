-- On the records of a type that was read, the printer writes that type.
--     type_printed   the type's pieces are printed, its records passed
use mathlib.Core.Path.{◌≡◌, refl, sym, ap, ◌∙◌}
use mathlib.Core.Bool.{Bool, true, false, cond}
use mathlib.Core.List.{List, [], ◌∷◌, ◌++◌, append_assoc}
use Prim.Native.Nat.{ℕ, zero, suc, ◌+◌}
use native.Mathlib.Omega.{arith}
use lib.Dec.{T, eqb}
use Rattle.token.specs.Regex.{bytes as ascii}
use Rattle.token.specs.Code.{code, is}
use Rattle.token.specs.Patterns.{words, rest, marks, shapes, word_rule, token}
use Rattle.token.specs.Words.{same}
use Rattle.token.specs.declared.Token.{Token}
use Rattle.token.specs.declared.Token.TheVariants as Tok
use Rattle.token.proofs.Keyword.{only, none_has, keyword_bytes}
use Rattle.lexer.specs.declared.location.LOC.{LOC}
use Rattle.lexer.specs.Tokens.{Lexeme, lexeme}
use Rattle.ast.specs.Ast.{FieldType, CommonType, ListType, SetType, MapType}
use Rattle.ast.specs.Tree.{leaf, inner, single, both, type_tree}
use Rattle.ast.specs.Records.{size, sizes}
use Rattle.parser.specs.Steps.{kind, bytes}
use Rattle.parser.proofs.KindLaws.{one_kind}
use Rattle.parser.proofs.Each.{Kinded, EachType, ecommon, elist, eset, emap}
use Rattle.writer.specs.Print.{Piece, bytes_of, own, mark, comma, space, write_type}
use Rattle.cursor.specs.declared.Cursor.{Cursor}
use Rattle.cursor.specs.Onto.{Reached, say_out, token_out}
use Rattle.write_fields.specs.Onto.{container_out, map_type_out, type_out}
use Rattle.write_fields.proofs.PrintedLeaves.{Good, leaf_printed}
use Rattle.write_fields.proofs.Ahead.{Rows, under, unders, owned_before, noted, noteds, Got, on, Job, At, kind_is, passes, puts1, puts2}

-- ---- the words of containers

module _ (text : List ℕ) where
  word_is : (j : Token) (v : List ℕ) → T (only (code j) v words) → T (none_has (code j) rest) → {t : Lexeme} → Kinded (Good text) (j ∷ []) t → bytes t ≡ v
  word_is j v o n {t} g =
      let e : code (kind t) ≡ code j = ap code (one_kind (kind t) j g.kinds) in
      keyword_bytes v (bytes t) (kind t) (rw e o) (rw e n) g.holds.ruled.rule

  list_is : {t : Lexeme} → Kinded (Good text) (Tok.List ∷ []) t → bytes t ≡ ascii "list"
  unfolding only none_has words rest marks shapes word_rule token ascii code same
  list_is g = word_is Tok.List (ascii "list") tt tt g

  set_is : {t : Lexeme} → Kinded (Good text) (Tok.Set ∷ []) t → bytes t ≡ ascii "set"
  unfolding only none_has words rest marks shapes word_rule token ascii code same
  set_is g = word_is Tok.Set (ascii "set") tt tt g

  map_is : {t : Lexeme} → Kinded (Good text) (Tok.Map ∷ []) t → bytes t ≡ ascii "map"
  unfolding only none_has words rest marks shapes word_rule token ascii code same
  map_is g = word_is Tok.Map (ascii "map") tt tt g

-- a word and `<`
opened : (v : List ℕ) (t : Lexeme) (r : List Piece) → bytes t ≡ v → bytes_of (own t ∷ mark Tok.LeftAngle 60 ∷ r) ≡ (v ++ (60 ∷ [])) ++ bytes_of r
unfolding bytes_of own bytes
opened v (lexeme k w l) r e = ap (λ (x : List ℕ). x ++ (60 ∷ bytes_of r)) e ∙ sym (append_assoc v (60 ∷ []) (bytes_of r))

-- ---- the type

-- no container
not_container : (b : Bool) (A B C D : Reached) → cond (eqb (cond b 19 18) 20) A (cond (eqb (cond b 19 18) 21) B (cond (eqb (cond b 19 18) 22) C D)) ≡ D
not_container true A B C D = refl
not_container false A B C D = refl

module _ (j : Job) where
  common_printed : (x : Lexeme) (q n : ℕ) (r : List Piece) (R C : Rows) (p : Cursor) (o : List ℕ) → Good j.text x →
      At j (write_type (CommonType x) r) n (under (type_tree (CommonType x)) q n R) (noted (type_tree (CommonType x)) n C) p o →
      Got (At j r (n + size (type_tree (CommonType x))) R C) (token_out j.text j.nodes p o)
  unfolding write_type type_tree
  common_printed (lexeme t w l) q n r R C p o g a = leaf_printed j (cond (is t Tok.Identifier) 19 18) (lexeme t w l) q n r R C p o g a

  module _ (d : ℕ) (inside : (ty : FieldType) (q n : ℕ) (r : List Piece) (R C : Rows) (p : Cursor) (o : List ℕ) → EachType (Good j.text) d ty →
      At j (write_type ty r) n (under (type_tree ty) q n R) (noted (type_tree ty) n C) p o →
      Got (At j r (n + size (type_tree ty)) R C) (type_out j.text j.nodes j.count d p o)) where
    container_printed : (v : List ℕ) (t : Lexeme) (ty : FieldType) (i q n : ℕ) (l : LOC) (r : List Piece) (R C : Rows) (p : Cursor) (o : List ℕ) →
        bytes t ≡ v → EachType (Good j.text) d ty →
        At j (own t ∷ mark Tok.LeftAngle 60 ∷ write_type ty (mark Tok.RightAngle 62 ∷ r)) n (under (inner i l (single (type_tree ty))) q n R)
        (noted (inner i l (single (type_tree ty))) n C) p o →
        Got (At j r (n + size (inner i l (single (type_tree ty)))) R C) (container_out (v ++ (60 ∷ [])) (type_out j.text j.nodes j.count d) p o)
    unfolding container_out inner single under unders noted noteds owned_before size sizes say_out ascii bytes_of
    container_printed v t ty i q n l r R C p o e g a =
        let m : suc n + size (type_tree ty) ≡ n + suc (size (type_tree ty) + 0) = omega arith in
        on (passes j i q 0 l _ a) λ p o a. on (puts2 j _ (λ r. opened v t r e) a) λ p o a.
        on (inside ty n (suc n) _ R C p o g a) λ p o a. rw (sym m) (puts1 j _ (λ r. refl) a)

    map_printed : (t : Lexeme) (ty tz : FieldType) (q n : ℕ) (l : LOC) (r : List Piece) (R C : Rows) (p : Cursor) (o : List ℕ) →
        bytes t ≡ ascii "map" → EachType (Good j.text) d ty → EachType (Good j.text) d tz →
        At j (own t ∷ mark Tok.LeftAngle 60 ∷ write_type ty (comma ∷ space ∷ write_type tz (mark Tok.RightAngle 62 ∷ r))) n
        (under (inner 22 l (both (type_tree ty) (type_tree tz))) q n R) (noted (inner 22 l (both (type_tree ty) (type_tree tz))) n C) p o →
        Got (At j r (n + size (inner 22 l (both (type_tree ty) (type_tree tz)))) R C) (map_type_out (type_out j.text j.nodes j.count d) p o)
    unfolding map_type_out inner both single under unders noted noteds owned_before size sizes say_out ascii bytes_of
    map_printed t ty tz q n l r R C p o e g h a =
        let m : suc n + size (type_tree ty) + size (type_tree tz) ≡ n + suc (size (type_tree ty) + (size (type_tree tz) + 0)) = omega arith in
        on (passes j 22 q 0 l _ a) λ p o a. on (puts2 j _ (λ r. opened (ascii "map") t r e) a) λ p o a.
        on (inside ty n (suc n) _ _ _ p o g a) λ p o a. on (puts2 j _ (λ r. refl) a) λ p o a.
        on (inside tz n (suc n + size (type_tree ty)) _ R C p o h a) λ p o a. rw (sym m) (puts1 j _ (λ r. refl) a)

  pub type_printed : (d : ℕ) (ty : FieldType) (q n : ℕ) (r : List Piece) (R C : Rows) (p : Cursor) (o : List ℕ) → EachType (Good j.text) d ty →
      At j (write_type ty r) n (under (type_tree ty) q n R) (noted (type_tree ty) n C) p o →
      Got (At j r (n + size (type_tree ty)) R C) (type_out j.text j.nodes j.count d p o)
  unfolding type_out type_tree leaf inner write_type under ascii
  type_printed zero (CommonType x) q n r R C p o (ecommon g) a = common_printed x q n r R C p o g a
  type_printed zero (ListType l k ty) q n r R C p o e a = elim e [ ]
  type_printed zero (SetType l k ty) q n r R C p o e a = elim e [ ]
  type_printed zero (MapType l k ty tz) q n r R C p o e a = elim e [ ]
  type_printed (suc d) (CommonType (lexeme t w l)) q n r R C p o (ecommon g) a =
      rw (kind_is j (cond (is t Tok.Identifier) 19 18) q 0 l _ a, not_container (is t Tok.Identifier)) (common_printed (lexeme t w l) q n r R C p o g a)
  type_printed (suc d) (ListType l k ty) q n r R C p o (elist w g) a =
      rw (kind_is j 20 q 0 l _ a) (container_printed d (λ ty q n r R C p o g a. type_printed d ty q n r R C p o g a) (ascii "list") k ty 20 q n l r R C p o (list_is j.text w) g a)
  type_printed (suc d) (SetType l k ty) q n r R C p o (eset w g) a =
      rw (kind_is j 21 q 0 l _ a) (container_printed d (λ ty q n r R C p o g a. type_printed d ty q n r R C p o g a) (ascii "set") k ty 21 q n l r R C p o (set_is j.text w) g a)
  type_printed (suc d) (MapType l k ty tz) q n r R C p o (emap w g h) a =
      rw (kind_is j 22 q 0 l _ a) (map_printed d (λ ty q n r R C p o g a. type_printed d ty q n r R C p o g a) k ty tz q n l r R C p o (map_is j.text w) g h a)
