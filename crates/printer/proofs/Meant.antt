-- What the code prints is the print of the text's definitions.
--     rows_under, notes_under   the rows of a tree, before others
--     written_means             the tables of an accepted reading are written as the print
--     print_means               the whole, for any text, indent, tables and output
use mathlib.Core.Path.{◌≡◌, refl, sym, ap, ◌∙◌}
use mathlib.Core.Logic.{inl, ⊎_elim}
use mathlib.Core.Bool.{Bool, true, false, cond}
use mathlib.Core.List.{List, [], ◌∷◌, ◌++◌, append-nil, append_assoc}
use Prim.Native.Nat.{ℕ, suc, ◌+◌, ◌*◌, ◌-◌, ◌≤◌, ◌<◌}
use native.Mathlib.Nat.{mul-div_cancel}
use native.Mathlib.Omega.{arith}
use lib.Dec.{ltb}
use lib.ListN.{length, take, drop, replicate, length-append, length-drop}
use lib.Seq.{take-append_seam}
use borrow.Author.Tests.{ltb-false, lt-ltb, le-ltb}
use Rattle.lexer.specs.Outcome.{Outcome, accepted, refused}
use Rattle.lexer.specs.Tokens.{Lexeme}
use Rattle.ast.specs.Lists.{All, anil, acons}
use Rattle.ast.specs.Ast.{Definition}
use Rattle.ast.specs.Tree.{Tree, node, Forest, bare, grown, each, definition_tree}
use Rattle.ast.specs.Records.{comment_width, node_width, no_parent, node_row, size, rows, rows_of, comment_row, owned, comment_rows, comment_rows_of, forest, node_rows, notes, room, concat, filled, cleared}
use Rattle.ast.proofs.Counts.{Wide, node_rows_wide, notes_wide, concat_width, cleared_same}
use Rattle.parser.specs.Read as R
use Rattle.parser.specs.Read.{outcome, left, rows_by, reading}
use Rattle.steps.specs.Into.{rest_at, wiped}
use Rattle.parser.proofs.Lexemes.{Stands, tokens_stand, HasRule, tokens_ruled}
use Rattle.parser.proofs.Each.{EachDefinition}
use Rattle.parser.proofs.Walk.{document_reads}
use Rattle.parser.proofs.Taken.{taken_means}
use Rattle.parser.proofs.Paid.{nodes_most, notes_most}
use Rattle.writer.specs.Print.{bytes_of, pieces, printed}
use Rattle.writer.specs.Write.{outcome_at, fitted_out, answer, written, print_of, Printing, printing}
use Rattle.records.proofs.RecordLaws.{cleared_twice, filled_long, filled_room}
use Rattle.cursor.specs.Onto.{Reached}
use Rattle.printer.specs.Onto.{opening, refusing, fits, ended, used, writing, by_answer, by_reading, all}
use Rattle.write_fields.proofs.Ahead.{Rows, under, unders, owned_before, noted, noteds, Ahead, Fits, Over, Got, got, Job, At}
use Rattle.write_fields.proofs.PrintedLeaves.{Good}
use Rattle.write_definitions.proofs.PrintedDefinitions.{document_printed}

-- ---- rows

mutual
  unfolding under unders rows rows_of

  pub rows_under : (t : Tree) (q n : ℕ) (X : Rows) → rows t q n ++ X ≡ under t q n X
  rows_under (node k f l w c ts) q n X = ap (λ (y : Rows). node_row k q f l (n + size (node k f l w c ts)) ∷ y) (forest_under ts n (suc n) X)

  pub forest_under : (ts : Forest) (q n : ℕ) (X : Rows) → rows_of ts q n ++ X ≡ unders ts q n X
  forest_under bare q n X = refl
  forest_under (grown t ts) q n X =
      append_assoc (rows t q n) (rows_of ts q (n + size t)) X
      ∙ ap (λ (y : Rows). rows t q n ++ y) (forest_under ts q (n + size t) X)
      ∙ rows_under t q n (unders ts q (n + size t) X)

owned_before_law : (n : ℕ) (c : List Lexeme) (X : Rows) → owned n c ++ X ≡ owned_before n c X
unfolding owned owned_before
owned_before_law n [] X = refl
owned_before_law n (x ∷ c) X = ap (λ (y : Rows). comment_row n x ∷ y) (owned_before_law n c X)

mutual
  unfolding noted noteds comment_rows comment_rows_of

  notes_under : (t : Tree) (n : ℕ) (X : Rows) → comment_rows t n ++ X ≡ noted t n X
  notes_under (node k f l w c ts) n X =
      append_assoc (owned n c) (comment_rows_of ts (suc n)) X ∙ ap (λ (y : Rows). owned n c ++ y) (notes_forest ts (suc n) X) ∙ owned_before_law n c (noteds ts (suc n) X)

  notes_forest : (ts : Forest) (n : ℕ) (X : Rows) → comment_rows_of ts n ++ X ≡ noteds ts n X
  notes_forest bare n X = refl
  notes_forest (grown t ts) n X =
      append_assoc (comment_rows t n) (comment_rows_of ts (n + size t)) X
      ∙ ap (λ (y : Rows). comment_rows t n ++ y) (notes_forest ts (n + size t) X)
      ∙ notes_under t n (noteds ts (n + size t) X)

node_rows_under : (ds : List Definition) → node_rows ds ≡ unders (each definition_tree ds bare) 4294967295 0 []
unfolding node_rows forest no_parent
node_rows_under ds = sym (append-nil (rows_of (each definition_tree ds bare) 4294967295 0)) ∙ forest_under (each definition_tree ds bare) 4294967295 0 []

notes_rows_under : (ds : List Definition) → notes ds ≡ noteds (each definition_tree ds bare) 0 []
unfolding notes forest
notes_rows_under ds = sym (append-nil (comment_rows_of (each definition_tree ds bare) 0)) ∙ notes_forest (each definition_tree ds bare) 0 []

-- rows end to end are those rows
ahead_rows : (w : ℕ) (rs X : Rows) → rs ≡ X → Ahead w (concat rs) (length rs) 0 X
ahead_rows w rs X e =
    record {
      pad = [];
      lies = let z : 0 * w ≡ 0 = omega arith in rw z (ap concat e ∙ sym (append-nil (concat X)));
      counts = let h : length X ≡ length rs = ap length (sym e) in omega (arith, h);
    }

-- rows of w numbers
module _ {w : ℕ} (some : 0 < w) {rs : Rows} (wide : All (Wide w) rs) where
  rows_room : room w (concat rs) ≡ length rs
  unfolding room
  rows_room = rw (concat_width wide) (mul-div_cancel (length rs) some)

  -- that the table has room for
  module _ (t : List ℕ) (e : ltb (room w t) (length rs) ≡ false) where
    -- and the part of it that they fill
    used_end : rest_at (length rs * w) (length (filled rs t)) ≡ length (concat rs)
    unfolding rest_at
    used_end = rw (sym (concat_width wide), filled_long some wide t e) (go (ltb (length (concat rs)) (length t)) refl)
      where
        go : (b : Bool) → ltb (length (concat rs)) (length t) ≡ b → cond b (length (concat rs)) (length t) ≡ length (concat rs)
        go true h = refl
        go false h = omega (arith, filled_room some wide t e, ltb-false (length (concat rs)) (length t) h)

    used_filled : used w (length rs) (filled rs t) ≡ concat rs
    unfolding used filled
    used_filled =
        ap (λ (n : ℕ). take n (concat rs ++ replicate (length t - length (concat rs)) 0)) used_end
        ∙ take-append_seam (concat rs) (replicate (length t - length (concat rs)) 0)

some_node : 0 < node_width
unfolding node_width
some_node = omega arith

some_comment : 0 < comment_width
unfolding comment_width
some_comment = omega arith

-- ---- what is lent and cleared again

-- an answer, both tables and the output
abbrev made : Outcome (List ℕ) → List ℕ → List ℕ → List ℕ → Printing
made a ns cs out = record { says = a; nodes = ns; comments = cs; output = out }

refusing_same : (e p n : ℕ) (t u o t' u' o' : List ℕ) → length t' ≡ length t → length u' ≡ length u → length o' ≡ length o →
    refusing e p n t' u' o' ≡ made (refused e p n) (cleared t) (cleared u) (cleared o)
unfolding refusing
refusing_same e p n t u o t' u' o' a b c = rw (cleared_same t t' a, cleared_same u u' b, cleared_same o o' c)

-- ---- the print in the output, or too long for it

fits_in : (n c len : ℕ) (t u o o' w : List ℕ) → len ≡ length w → length w ≤ length o → o' ≡ w ++ drop (length w) o →
    fits n c len t u o' ≡ made (accepted (n ∷ c ∷ length w ∷ [])) t u (w ++ replicate (length o - length w) 0)
unfolding fits wiped
fits_in n c len t u o o' w e h f =
    let l : length (w ++ drop (length w) o) ≡ length o = length-append w (drop (length w) o) ∙ omega (arith, length-drop (length w) o, h) in
    rw (e, f, l, le-ltb (length o) (length w) h, take-append_seam w (drop (length w) o))

fits_over : (n c len : ℕ) (t u o o' t' u' : List ℕ) → length o < len → length o' ≡ length o → length t ≡ length t' → length u ≡ length u' →
    fits n c len t u o' ≡ made (refused 27 0 0) (cleared t') (cleared u') (cleared o)
unfolding fits
fits_over n c len t u o o' t' u' h e a b = rw (lt-ltb (length o') len (omega (arith, h, e))) (refusing_same 27 0 0 t' u' o t u o' a b e)

-- ---- the tokens

good_tokens : (text : List ℕ) {ts : List Lexeme} → All (Stands text) ts → All HasRule ts → All (Good text) ts
good_tokens text anil anil = anil
good_tokens text (acons p ps) (acons q qs) = acons (record { stands = p; ruled = q }) (good_tokens text ps qs)

good_outcome : (text : List ℕ) (ds : List Definition) → outcome text ≡ accepted ds → All (EachDefinition (Good text)) ds
good_outcome text ds e =
    let k = taken_means text ds e in
    (document_reads text k.short (Good text) (good_tokens text (tokens_stand text) (tokens_ruled text)) k.reads).each

-- ---- what was read is written

module _ (text : List ℕ) (indent : ℕ) (t u o : List ℕ) (ds : List Definition) (found : outcome text ≡ accepted ds) (good : All (EachDefinition (Good text)) ds)
    (t-room : ltb (room node_width t) (length (node_rows ds)) ≡ false) (u-room : ltb (room comment_width u) (length (notes ds)) ≡ false) where
  abbrev job : Job
  job =
      record {
        text = text;
        nodes = concat (node_rows ds);
        count = length (node_rows ds);
        comments = concat (notes ds);
        total = length (notes ds);
        start = o;
        whole = printed indent ds;
        few = omega (arith, nodes_most text ds found);
        brief = omega (arith, notes_most text ds found);
      }

  at_first : At job (pieces indent ds) 0 (unders (each definition_tree ds bare) 4294967295 0 []) (noteds (each definition_tree ds bare) 0 []) opening o
  unfolding opening printed
  at_first =
      record {
        node = refl;
        nodes_ahead = ahead_rows node_width (node_rows ds) _ (node_rows_under ds);
        notes_ahead = ahead_rows comment_width (notes ds) _ (notes_rows_under ds);
        bytes = inl (record { done = []; all = refl; inside = omega arith; long = refl; out = refl });
      }

  t_long : length (filled (node_rows ds) t) ≡ length t
  t_long = filled_long some_node (node_rows_wide ds) t t-room

  u_long : length (filled (notes ds) u) ≡ length u
  u_long = filled_long some_comment (notes_wide ds) u u-room

  -- the answer, by whether the print fits
  abbrev result : Printing
  result =
      cond (ltb (length o) (length (printed indent ds))) (made (refused 27 0 0) (cleared t) (cleared u) (cleared o))
      (made (accepted (length (node_rows ds) ∷ length (notes ds) ∷ length (printed indent ds) ∷ [])) (filled (node_rows ds) t) (filled (notes ds) u)
      (printed indent ds ++ replicate (length o - length (printed indent ds)) 0))

  inside : (n : ℕ) (o' : List ℕ) → Fits o (printed indent ds) [] n o' →
      fits (length (node_rows ds)) (length (notes ds)) n (filled (node_rows ds) t) (filled (notes ds) u) o' ≡ result
  inside n o' f =
      let e : f.done ≡ printed indent ds = sym (append-nil f.done) ∙ f.all in
      let h : length (printed indent ds) ≤ length o = omega (arith, f.inside, ap length e) in
      rw (le-ltb (length o) (length (printed indent ds)) h)
      (fits_in _ _ n _ _ o o' (printed indent ds) (f.long ∙ ap length e) h (f.out ∙ ap (λ (x : List ℕ). x ++ drop (length x) o) e))

  beyond : (n : ℕ) (o' : List ℕ) → Over o (printed indent ds) [] n o' →
      fits (length (node_rows ds)) (length (notes ds)) n (filled (node_rows ds) t) (filled (notes ds) u) o' ≡ result
  beyond n o' f =
      let e : f.done ≡ printed indent ds = sym (append-nil f.done) ∙ f.all in
      rw (lt-ltb (length o) (length (printed indent ds)) (omega (arith, f.beyond, ap length e)))
      (fits_over _ _ n _ _ o o' t u (omega (arith, f.long)) f.out t_long u_long)

  at_last : {i : Reached} {k : ℕ} → Got (At job [] k [] []) i → ended i (length (node_rows ds)) (length (notes ds)) (filled (node_rows ds) t) (filled (notes ds) u) ≡ result
  unfolding ended bytes_of
  at_last (got {p = p} {o = o'} a) = ⊎_elim (inside p.length o') (beyond p.length o') a.bytes

  written_means : writing text indent (length (node_rows ds)) (length (notes ds)) (filled (node_rows ds) t) (filled (notes ds) u) o ≡ result
  unfolding writing pieces
  written_means =
      let wide = node_rows_wide ds in
      let broad = notes_wide ds in
      rw (used_filled some_node wide t t-room, used_filled some_comment broad u u-room, rows_room some_node wide, rows_room some_comment broad)
      (at_last (document_printed job indent ds opening o good at_first))

-- ---- the whole

module _ (text : List ℕ) (indent : ℕ) (t u o : List ℕ) where
  -- what a printing gives for an outcome of the reading
  abbrev given : Outcome (List Definition) → Printing
  given x =
      let a = answer indent x t u o in
      made a (left a (rows_by node_rows x) t) (left a (rows_by notes x) u) (written a (print_of indent x) o)

  by_length : (b : Bool) (n c : ℕ) (rs ss : Rows) (w : List ℕ) →
      cond b (made (refused 27 0 0) (cleared t) (cleared u) (cleared o)) (made (accepted (n ∷ c ∷ length w ∷ [])) (filled rs t) (filled ss u) (w ++ replicate (length o - length w) 0))
      ≡ (let a = cond b (refused 27 0 0) (accepted (n ∷ c ∷ length w ∷ [])) in made a (left a rs t) (left a ss u) (written a w o))
  unfolding left written
  by_length true n c rs ss w = refl
  by_length false n c rs ss w = refl

  refused_given : (e p n : ℕ) → refusing e p n (cleared t) (cleared u) o ≡ made (refused e p n) (cleared t) (cleared u) (cleared o)
  unfolding refusing
  refused_given e p n = rw (cleared_twice t, cleared_twice u)

  read_given : (ds : List Definition) → outcome text ≡ accepted ds → All (EachDefinition (Good text)) ds →
      let a = R.fitted ds t u in by_answer a text indent (left a (node_rows ds) t) (left a (notes ds) u) o ≡ given (accepted ds)
  unfolding R.fitted by_answer answer fitted_out left written rows_by print_of
  read_given ds found good = go (ltb (room node_width t) (length (node_rows ds))) refl (ltb (room comment_width u) (length (notes ds))) refl
    where
      go : (a : Bool) → ltb (room node_width t) (length (node_rows ds)) ≡ a → (b : Bool) → ltb (room comment_width u) (length (notes ds)) ≡ b →
          let a = R.fitted ds t u in by_answer a text indent (left a (node_rows ds) t) (left a (notes ds) u) o ≡ given (accepted ds)
      go true h b k = rw h (refused_given 24 0 0)
      go false h true k = rw (h, k) (refused_given 25 0 0)
      go false h false k =
          rw (h, k)
          (written_means text indent t u o ds found good h k
          ∙ by_length (ltb (length o) (length (printed indent ds))) (length (node_rows ds)) (length (notes ds)) (node_rows ds) (notes ds) (printed indent ds))

  outcome_given : (x : Outcome (List Definition)) → outcome text ≡ x → by_reading (reading text t u) text indent o ≡ given x
  unfolding reading by_reading R.answer by_answer rows_by answer left written
  outcome_given (accepted ds) e = rw e (read_given ds e (good_outcome text ds e))
  outcome_given (refused n p l) e = rw e (refused_given n p l)

  pub print_means : all text indent t u o ≡ printing text indent t u o
  unfolding all printing outcome_at answer left written refusing
  print_means = go (ltb 65536 (length text)) refl (ltb 8 indent) refl
    where
      go : (a : Bool) → ltb 65536 (length text) ≡ a → (b : Bool) → ltb 8 indent ≡ b → all text indent t u o ≡ printing text indent t u o
      go true h b k = rw h
      go false h true k = rw (h, k)
      go false h false k = rw (h, k) (outcome_given (outcome text) refl)
