-- Each accepted text has the ranges that document 02 (Change 8) claims.
--     ranges   for the rows that its definitions have
use mathlib.Core.Path.{◌≡◌, sym}
use mathlib.Core.Bool.{true}
use mathlib.Core.List.{List, [], ◌++◌, append-nil, Memᴰ}
use Prim.Native.Nat.{ℕ, ◌<◌, ◌≤◌}
use native.Mathlib.Omega.{arith}
use borrow.Author.Tests.{ltb-true, eqb-true, lt-ltb, eq-eqb}
use lib.Dec.{ltb}
use lib.ListN.{length, drop}
use Rattle.lexer.specs.Location.{opening}
use Rattle.lexer.specs.Outcome.{accepted}
use Rattle.lexer.specs.Tokens.{Lexeme, tokens}
use Rattle.ast.specs.Ast as A
use Rattle.ast.specs.Kind as K
use Rattle.ast.specs.Lists.{All, anil, acons}
use Rattle.ast.specs.Records.{no_parent, rows_of, forest, node_rows}
use Rattle.ast.proofs.Bools.{and_left, and_right}
use Rattle.ast.proofs.Counts.{node_rows_size}
use Rattle.parser.specs.Refusals.{last_place}
use Rattle.parser.specs.Read.{outcome}
use Rattle.parser.proofs.Order.{tokens_in_order}
use Rattle.parser.proofs.Paid.{nodes_most}
use Rattle.parser.proofs.Taken.{taken_means}
use Rattle.parser.proofs.Walk as W
use Rattle.parser.proofs.Walk.{Reads, document_reads}
use Rattle.ranges.specs.Ranges.{row_at, kind_of, parent_of, start_of, end_of, is_definition, Name, Lies, in_definition, in_gap, Ranges}
use Rattle.ranges.proofs.Held.{Held, tokens_held}
use Rattle.ranges.proofs.Rows.{Trees, trees_of, Row, is_top, is_child, from_row, chain_row, chain_order, chain_has}

-- of each of a list's members
of_member : {A : Type 0} {P : A → Type 0} {x : A} {xs : List A} → All P xs → Memᴰ x xs → P x
of_member {A = A} {P = P} anil x4 = elim x4 [ ]
of_member (acons h hs) (Memᴰ.head e) = rw e h
of_member (acons h hs) (Memᴰ.tail m) = of_member hs m

module _ (t : List ℕ) (ds : List A.Definition) (o : outcome t ≡ accepted ds) where
  rs : List (List ℕ)
  rs = node_rows ds

  short : length t ≤ 65536
  short = (taken_means t ds o).short

  reads : Reads (length t) short (Held (tokens t opening)) (last_place t) 0 (tokens t opening) ds
  reads = document_reads t short (Held (tokens t opening)) (tokens_held t) (taken_means t ds o).reads

  trees : Trees t short rs 0 ds
  trees = trees_of t short rs reads.chain reads.each

  laid : drop 0 rs ≡ rows_of (forest ds) no_parent 0 ++ []
  unfolding node_rows rs
  laid = sym (append-nil (rows_of (forest ds) no_parent 0))

  small : (i : ℕ) → i < length rs → i ≤ no_parent
  unfolding no_parent rs
  small i h = omega (arith, nodes_most t ds o)

  row_is : (i : ℕ) → i < length rs → Row t short rs 0 i
  unfolding forest rs
  row_is i h = chain_row t short rs 0 [] trees laid i (omega arith) (omega (arith, node_rows_size ds))

  there : (i : ℕ) → is_definition rs i ≡ true → i < length rs
  unfolding is_definition
  there i e = ltb-true i (length rs) (and_left (ltb i (length rs)) _ e)

  parentless : (i : ℕ) → is_definition rs i ≡ true → parent_of (row_at rs i) ≡ no_parent
  unfolding is_definition
  parentless i e = eqb-true (parent_of (row_at rs i)) no_parent (and_right (ltb i (length rs)) _ e)

  named : (i : ℕ) → kind_of (row_at rs i) ≡ K.Name → Row t short rs 0 i → Name t rs i
  named i e (is_top x) = absurd (x.unnamed e)
  named i e (is_child c) = c.named e

  in_order : (i j : ℕ) → i < j → is_definition rs i ≡ true → is_definition rs j ≡ true → end_of (row_at rs i) ≤ start_of (row_at rs j)
  unfolding forest rs
  in_order i j lt p q =
      let h = there j q in
      chain_order t short rs 0 [] trees laid i j (omega arith) lt (omega (arith, node_rows_size ds)) (small j h) (parentless i p) (parentless j q)

  is_definition_law : (i : ℕ) → i < length rs → parent_of (row_at rs i) ≡ no_parent → is_definition rs i ≡ true
  unfolding is_definition
  is_definition_law i h e = rw (lt-ltb i (length rs) h, eq-eqb (parent_of (row_at rs i)) no_parent e)

  lies : (u : Lexeme) → W.Lies ds u → Lies rs u
  unfolding forest
  lies u (W.in_gap g) = in_gap g
  lies u (W.in_definition {d = d} m a b) =
      let r = chain_has t short rs 0 [] laid m in
      in_definition r.number (is_definition_law r.number r.there r.parent) (omega (arith, r.start)) (omega (arith, r.end))

  pub ranges : Ranges t (node_rows ds)
  unfolding rs
  ranges = record {
    tokens_apart = tokens_in_order t;
    definitions = λ i e. (from_row t short rs (small i (there i e)) (parentless i e) (row_is i (there i e))).definition;
    order = in_order;
    names = λ i h e. named i e (row_is i h);
    all = λ u m. lies u (of_member reads.covered m);
  }
