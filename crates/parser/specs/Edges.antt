-- Document 01's starred edges, its listing and its traps, and document 02's edges, as one table.
use Rattle.std.specs.Prelude.{ℕ, ◌≡◌, List, [], ◌∷◌, get_or}
use Prim.Native.String.{String}
use Rattle.token.specs.Regex.{bytes}
use Rattle.lexer.specs.Outcome.{Outcome, accepted, refused}
use Rattle.ast.specs.Ast.{Definition}
use Rattle.ast.specs.Records.{node_rows, notes}

-- a text, and what a reading with room enough answers: number, place and length; or the records of nodes and of comments;
-- or line and column of the last node record's start
pub data Edge : Type 0 where
  refuses : String → ℕ → ℕ → ℕ → Edge
  accepts : String → List (List ℕ) → List (List ℕ) → Edge
  last_at : String → ℕ → ℕ → Edge

abbrev pub Meets : Outcome (List Definition) → List (List ℕ) → List (List ℕ) → Type 0
Meets (accepted ds) ns cs = (node_rows ds ≡ ns) × (notes ds ≡ cs)
Meets (refused e p n) ns cs = ⊥

unfoldable pub last_of : List (List ℕ) → List ℕ
last_of [] = []
last_of (r ∷ []) = r
last_of (r ∷ q ∷ rs) = last_of (q ∷ rs)

abbrev pub Stands : Outcome (List Definition) → ℕ → ℕ → Type 0
Stands (accepted ds) l c = let r = last_of (node_rows ds) in (get_or r 4 0 ≡ l) × (get_or r 5 0 ≡ c)
Stands (refused e p n) l c = ⊥

-- what an edge says of a way of reading
abbrev pub Holds : (List ℕ → Outcome (List Definition)) → Edge → Type 0
Holds reads (refuses s e p n) = reads (bytes s) ≡ refused e p n
Holds reads (accepts s ns cs) = Meets (reads (bytes s)) ns cs
Holds reads (last_at s l c) = Stands (reads (bytes s)) l c

abbrev pub All : (List ℕ → Outcome (List Definition)) → List Edge → Type 0
All reads [] = Unit
All reads (e ∷ es) = Holds reads e × All reads es

abbrev pub edges : List Edge
edges =
    -- empty text: accepted, 0 and 0
    accepts "" [] []
    -- `;` gives 3 at 0, length 1; `;` and a newline give 1; `;;` is accepted
    ∷ refuses ";" 3 0 1
    ∷ refuses ";\n" 1 0 1
    ∷ accepts ";;" [] []
    -- `struct A {` gives 3 at 9, length 1; with a newline after it, 1
    ∷ refuses "struct A {" 3 9 1
    ∷ refuses "struct A {\n" 1 9 1
    -- `struct A{required i32 a}`: accepted, flag 1; `struct A{i32 a}`: accepted, 5 nodes (document 02, Change 4)
    ∷ accepts "struct A{required i32 a}"
    ((7 ∷ 4294967295 ∷ 0 ∷ 0 ∷ 1 ∷ 1 ∷ 24 ∷ 1 ∷ 25 ∷ 5 ∷ []) ∷ (16 ∷ 0 ∷ 0 ∷ 7 ∷ 1 ∷ 8 ∷ 8 ∷ 1 ∷ 9 ∷ 2 ∷ []) ∷ (12 ∷ 0 ∷ 1 ∷ 9 ∷ 1 ∷ 10 ∷ 23 ∷ 1 ∷ 24 ∷ 5 ∷ []) ∷ (18 ∷ 2 ∷ 0 ∷ 18 ∷ 1 ∷ 19 ∷ 21 ∷ 1 ∷ 22 ∷ 4 ∷ []) ∷ (16 ∷ 2 ∷ 0 ∷ 22 ∷ 1 ∷ 23 ∷ 23 ∷ 1 ∷ 24 ∷ 5 ∷ []) ∷ [])
    []
    ∷ accepts "struct A{i32 a}"
    ((7 ∷ 4294967295 ∷ 0 ∷ 0 ∷ 1 ∷ 1 ∷ 15 ∷ 1 ∷ 16 ∷ 5 ∷ []) ∷ (16 ∷ 0 ∷ 0 ∷ 7 ∷ 1 ∷ 8 ∷ 8 ∷ 1 ∷ 9 ∷ 2 ∷ []) ∷ (12 ∷ 0 ∷ 0 ∷ 9 ∷ 1 ∷ 10 ∷ 14 ∷ 1 ∷ 15 ∷ 5 ∷ []) ∷ (18 ∷ 2 ∷ 0 ∷ 9 ∷ 1 ∷ 10 ∷ 12 ∷ 1 ∷ 13 ∷ 4 ∷ []) ∷ (16 ∷ 2 ∷ 0 ∷ 13 ∷ 1 ∷ 14 ∷ 14 ∷ 1 ∷ 15 ∷ 5 ∷ []) ∷ [])
    []
    -- `enum E{A=`: 3 at 8, length 1
    ∷ refuses "enum E{A=" 3 8 1
    -- id `-1`: 9 at 9, length 2; 18446744073709551615 passes, one more is 9
    ∷ refuses "struct A{-1:i32 a}" 9 9 2
    ∷ accepts "struct A{18446744073709551615:i32 a}"
    ((7 ∷ 4294967295 ∷ 0 ∷ 0 ∷ 1 ∷ 1 ∷ 36 ∷ 1 ∷ 37 ∷ 6 ∷ []) ∷ (16 ∷ 0 ∷ 0 ∷ 7 ∷ 1 ∷ 8 ∷ 8 ∷ 1 ∷ 9 ∷ 2 ∷ []) ∷ (12 ∷ 0 ∷ 0 ∷ 9 ∷ 1 ∷ 10 ∷ 35 ∷ 1 ∷ 36 ∷ 6 ∷ []) ∷ (17 ∷ 2 ∷ 0 ∷ 9 ∷ 1 ∷ 10 ∷ 29 ∷ 1 ∷ 30 ∷ 4 ∷ []) ∷ (18 ∷ 2 ∷ 0 ∷ 30 ∷ 1 ∷ 31 ∷ 33 ∷ 1 ∷ 34 ∷ 5 ∷ []) ∷ (16 ∷ 2 ∷ 0 ∷ 34 ∷ 1 ∷ 35 ∷ 35 ∷ 1 ∷ 36 ∷ 6 ∷ []) ∷ [])
    []
    ∷ refuses "struct A{18446744073709551616:i32 a}" 9 9 20
    -- `const i32 X=[1/*c*/,2]`: 6 at 19, length 1; `[1,/*c*/2]` passes
    ∷ refuses "const i32 X=[1/*c*/,2]" 6 19 1
    ∷ accepts "const i32 X=[1,/*c*/2]"
    ((4 ∷ 4294967295 ∷ 0 ∷ 0 ∷ 1 ∷ 1 ∷ 22 ∷ 1 ∷ 23 ∷ 6 ∷ []) ∷ (18 ∷ 0 ∷ 0 ∷ 6 ∷ 1 ∷ 7 ∷ 9 ∷ 1 ∷ 10 ∷ 2 ∷ []) ∷ (16 ∷ 0 ∷ 0 ∷ 10 ∷ 1 ∷ 11 ∷ 11 ∷ 1 ∷ 12 ∷ 3 ∷ []) ∷ (29 ∷ 0 ∷ 0 ∷ 12 ∷ 1 ∷ 13 ∷ 22 ∷ 1 ∷ 23 ∷ 6 ∷ []) ∷ (24 ∷ 3 ∷ 0 ∷ 13 ∷ 1 ∷ 14 ∷ 14 ∷ 1 ∷ 15 ∷ 5 ∷ []) ∷ (24 ∷ 3 ∷ 0 ∷ 20 ∷ 1 ∷ 21 ∷ 21 ∷ 1 ∷ 22 ∷ 6 ∷ []) ∷ [])
    []
    -- `//a`, newline, `;//b`, newline: 2 at 5, length 3
    ∷ refuses "//a\n;//b\n" 2 5 3
    -- `enum E{}@`: 22 at 8
    ∷ refuses "enum E{}@" 22 8 0
    -- `\r\n` before `enum E{}`: line 2, column 1 (document 02, Change 1)
    ∷ accepts "\r\nenum E{}"
    ((6 ∷ 4294967295 ∷ 0 ∷ 2 ∷ 2 ∷ 1 ∷ 10 ∷ 2 ∷ 9 ∷ 2 ∷ []) ∷ (16 ∷ 0 ∷ 0 ∷ 7 ∷ 2 ∷ 6 ∷ 8 ∷ 2 ∷ 7 ∷ 2 ∷ []) ∷ [])
    []
    -- `/*\r\n*/enum E{}`: the keyword is on line 2, column 3
    ∷ accepts "/*\r\n*/enum E{}"
    ((6 ∷ 4294967295 ∷ 0 ∷ 6 ∷ 2 ∷ 3 ∷ 14 ∷ 2 ∷ 11 ∷ 2 ∷ []) ∷ (16 ∷ 0 ∷ 0 ∷ 11 ∷ 2 ∷ 8 ∷ 12 ∷ 2 ∷ 9 ∷ 2 ∷ []) ∷ [])
    ((33 ∷ 0 ∷ 0 ∷ 0 ∷ 1 ∷ 1 ∷ 6 ∷ 2 ∷ 3 ∷ []) ∷ [])
    -- the listing of `struct A{1:i32 a}`
    ∷ accepts "struct A{1:i32 a}"
    ((7 ∷ 4294967295 ∷ 0 ∷ 0 ∷ 1 ∷ 1 ∷ 17 ∷ 1 ∷ 18 ∷ 6 ∷ []) ∷ (16 ∷ 0 ∷ 0 ∷ 7 ∷ 1 ∷ 8 ∷ 8 ∷ 1 ∷ 9 ∷ 2 ∷ []) ∷ (12 ∷ 0 ∷ 0 ∷ 9 ∷ 1 ∷ 10 ∷ 16 ∷ 1 ∷ 17 ∷ 6 ∷ []) ∷ (17 ∷ 2 ∷ 0 ∷ 9 ∷ 1 ∷ 10 ∷ 10 ∷ 1 ∷ 11 ∷ 4 ∷ []) ∷ (18 ∷ 2 ∷ 0 ∷ 11 ∷ 1 ∷ 12 ∷ 14 ∷ 1 ∷ 15 ∷ 5 ∷ []) ∷ (16 ∷ 2 ∷ 0 ∷ 15 ∷ 1 ∷ 16 ∷ 16 ∷ 1 ∷ 17 ∷ 6 ∷ []) ∷ [])
    []
    -- the traps: a comment before `}` goes to whatever is read next; a function's range starts at its name; 4 is not told at the end of the text
    ∷ accepts "struct A{#c\n}enum E{}"
    ((7 ∷ 4294967295 ∷ 0 ∷ 0 ∷ 1 ∷ 1 ∷ 13 ∷ 2 ∷ 2 ∷ 2 ∷ []) ∷ (16 ∷ 0 ∷ 0 ∷ 7 ∷ 1 ∷ 8 ∷ 8 ∷ 1 ∷ 9 ∷ 2 ∷ []) ∷ (6 ∷ 4294967295 ∷ 0 ∷ 13 ∷ 2 ∷ 2 ∷ 21 ∷ 2 ∷ 10 ∷ 4 ∷ []) ∷ (16 ∷ 2 ∷ 0 ∷ 18 ∷ 2 ∷ 7 ∷ 19 ∷ 2 ∷ 8 ∷ 4 ∷ []) ∷ [])
    ((32 ∷ 2 ∷ 0 ∷ 9 ∷ 1 ∷ 10 ∷ 11 ∷ 1 ∷ 12 ∷ []) ∷ [])
    ∷ accepts "service S{void f()}"
    ((10 ∷ 4294967295 ∷ 0 ∷ 0 ∷ 1 ∷ 1 ∷ 19 ∷ 1 ∷ 20 ∷ 5 ∷ []) ∷ (16 ∷ 0 ∷ 0 ∷ 8 ∷ 1 ∷ 9 ∷ 9 ∷ 1 ∷ 10 ∷ 2 ∷ []) ∷ (11 ∷ 0 ∷ 0 ∷ 15 ∷ 1 ∷ 16 ∷ 18 ∷ 1 ∷ 19 ∷ 5 ∷ []) ∷ (18 ∷ 2 ∷ 0 ∷ 10 ∷ 1 ∷ 11 ∷ 14 ∷ 1 ∷ 15 ∷ 4 ∷ []) ∷ (16 ∷ 2 ∷ 0 ∷ 15 ∷ 1 ∷ 16 ∷ 16 ∷ 1 ∷ 17 ∷ 5 ∷ []) ∷ [])
    []
    ∷ refuses "typedef" 3 0 7
    -- Change 1: where the name E starts. One line end is the pair alone
    ∷ last_at "\n\renum E{}" 3 6
    ∷ last_at "\r\r\nenum E{}" 3 6
    ∷ last_at "\u{c}\r\nenum E{}" 3 6
    ∷ last_at "\r\n\r\nenum E{}" 3 6
    -- a `\r` that no `\n` follows ends a line; at the end of the text no record lies behind it (`place/proofs/Cases` has its place)
    ∷ last_at "\renum E{}" 2 6
    ∷ last_at "enum E{}\r" 1 6
    -- a line comment ends before `\n`; a string has no lines
    ∷ last_at "//c\r\nenum E{}" 2 6
    ∷ last_at "const string X='\r\n'enum E{}" 1 25
    -- in a block comment a lone `\r` or `\f` is nothing
    ∷ last_at "/*\r*/enum E{}" 1 11
    ∷ last_at "/*\u{c}*/enum E{}" 1 11
    -- Change 4: a token that starts no type is 4 there, behind an id or requiredness too; so a separator behind a comment still is
    ∷ refuses "struct A{)i8 a}" 4 9 1
    ∷ refuses "struct A{required}" 4 17 1
    ∷ refuses "struct A{optional required i8 a}" 4 18 8
    ∷ refuses "struct A{1:/*c*/i8 a}" 4 11 5
    ∷ refuses "struct A{required/*c*/i8 a}" 4 17 5
    ∷ refuses "struct A{#\n;i8 a}" 4 11 1
    ∷ refuses "struct A{1:i8 a #c\n,2:i8 b}" 4 19 1
    -- an id has its colon
    ∷ refuses "struct A{1 i8 a}" 2 11 2
    -- parameters and thrown fields alike
    ∷ accepts "service S{void f(i8 a)}"
    ((10 ∷ 4294967295 ∷ 0 ∷ 0 ∷ 1 ∷ 1 ∷ 23 ∷ 1 ∷ 24 ∷ 8 ∷ []) ∷ (16 ∷ 0 ∷ 0 ∷ 8 ∷ 1 ∷ 9 ∷ 9 ∷ 1 ∷ 10 ∷ 2 ∷ []) ∷ (11 ∷ 0 ∷ 0 ∷ 15 ∷ 1 ∷ 16 ∷ 22 ∷ 1 ∷ 23 ∷ 8 ∷ []) ∷ (18 ∷ 2 ∷ 0 ∷ 10 ∷ 1 ∷ 11 ∷ 14 ∷ 1 ∷ 15 ∷ 4 ∷ []) ∷ (16 ∷ 2 ∷ 0 ∷ 15 ∷ 1 ∷ 16 ∷ 16 ∷ 1 ∷ 17 ∷ 5 ∷ []) ∷ (12 ∷ 2 ∷ 0 ∷ 17 ∷ 1 ∷ 18 ∷ 21 ∷ 1 ∷ 22 ∷ 8 ∷ []) ∷ (18 ∷ 5 ∷ 0 ∷ 17 ∷ 1 ∷ 18 ∷ 19 ∷ 1 ∷ 20 ∷ 7 ∷ []) ∷ (16 ∷ 5 ∷ 0 ∷ 20 ∷ 1 ∷ 21 ∷ 21 ∷ 1 ∷ 22 ∷ 8 ∷ []) ∷ [])
    []
    ∷ accepts "service S{void f()throws(required E e)}"
    ((10 ∷ 4294967295 ∷ 0 ∷ 0 ∷ 1 ∷ 1 ∷ 39 ∷ 1 ∷ 40 ∷ 8 ∷ []) ∷ (16 ∷ 0 ∷ 0 ∷ 8 ∷ 1 ∷ 9 ∷ 9 ∷ 1 ∷ 10 ∷ 2 ∷ []) ∷ (11 ∷ 0 ∷ 8 ∷ 15 ∷ 1 ∷ 16 ∷ 38 ∷ 1 ∷ 39 ∷ 8 ∷ []) ∷ (18 ∷ 2 ∷ 0 ∷ 10 ∷ 1 ∷ 11 ∷ 14 ∷ 1 ∷ 15 ∷ 4 ∷ []) ∷ (16 ∷ 2 ∷ 0 ∷ 15 ∷ 1 ∷ 16 ∷ 16 ∷ 1 ∷ 17 ∷ 5 ∷ []) ∷ (12 ∷ 2 ∷ 17 ∷ 25 ∷ 1 ∷ 26 ∷ 37 ∷ 1 ∷ 38 ∷ 8 ∷ []) ∷ (19 ∷ 5 ∷ 0 ∷ 34 ∷ 1 ∷ 35 ∷ 35 ∷ 1 ∷ 36 ∷ 7 ∷ []) ∷ (16 ∷ 5 ∷ 0 ∷ 36 ∷ 1 ∷ 37 ∷ 37 ∷ 1 ∷ 38 ∷ 8 ∷ []) ∷ [])
    []
    ∷ refuses "service S{void f(=i8 a)}" 4 17 1
    ∷ refuses "service S{void f()throws(=E e)}" 4 25 1
    ∷ []
