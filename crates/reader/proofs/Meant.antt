-- What the code (its model, specs/Into) does to the state and to both tables means the definitions, for every text that passed 20 and 21 and any two tables.
--     document_m          the document: its definitions' records, in both tables
--     parsing_means       the whole: the answer and both tables afterwards
use mathlib.Core.Path.{◌≡◌, refl, sym, ap, ◌∙◌}
use mathlib.Core.Bool.{Bool, true, false, cond}
use mathlib.Core.List.{List, [], ◌∷◌, ◌++◌, append_assoc, append-nil}
use Rattle.std.specs.Prelude.{Option, Some, None}
use Prim.Native.Nat.{ℕ, suc, ◌+◌, ◌*◌, ◌-◌, ◌≤◌}
use native.Mathlib.Omega.{arith}
use borrow.Author.Tests.{ltb-false}
use lib.Dec.{eqb, ltb}
use lib.ListN.{length, take, drop}
use Rattle.lexer.specs.declared.location.LOC.{LOC}
use Rattle.lexer.specs.Error.{UnexpectedEOF}
use Rattle.lexer.specs.Outcome.{Outcome}
use Rattle.lexer.specs.Location.{between, span_of, opening}
use Rattle.lexer.specs.Tokens.{Lexeme, tokens}
use Rattle.lexer.specs.Cuts.{cuts, unrecognized}
use Rattle.utf8.specs.Utf8.{ill_formed}
use Rattle.lexer.proofs.CheckLaws.{unknown, fine}
use Rattle.lexer.proofs.PlaceLaws.{opening_placed}
use Rattle.ast.specs.Lists.{anil}
use Rattle.ast.proofs.Bools.{or_left}
use Rattle.ast.specs.Ast.{Definition}
use Rattle.ast.specs.Tree.{Forest, bare, single, each, definition_tree}
use Rattle.ast.specs.Records.{comment_width, node_width, no_parent, sizes, rows_of, owned, comment_rows_of, forest, node_rows, notes, room}
use Rattle.ast.proofs.Counts.{
  forest_wide,
  comments_wide,
  owned_wide,
  append_all,
  note_counts,
  rows_sizes,
  node_rows_size,
  notes_count,
  node_rows_wide,
  notes_wide,
  cleared_same,
}
use Rattle.steps.specs.declared.state.State.{State}
use Rattle.parser.specs.Steps.{St, pos, Raised, Res, no, test, fail}
use Rattle.parser.specs.Definitions.{parse_definition, over, document_end, parse_document}
use Rattle.parser.specs.Read.{parsed, error, answered, outcome_by, outcome, fitted, answer, left, rows_by, Reading, reading}
use Rattle.steps.specs.Packed.{packed, unpacked, unpacked_loc}
use Rattle.steps.specs.Into.{code_of, Out, done, stop, refused, closes_at, lexer_at, rest_at, wiped}
use Rattle.reader.specs.Into.{in_rest, rest_in, over_in, between_in, document_in, unread, beginning, refusing, ended, refusing_at, fits, judged, unscanned, settled, parsing}
use Rattle.reader.proofs.Whole.{read_unknown}
use Rattle.steps.proofs.PackLaws.{unpacked_packed, loc_back, small_span}
use Rattle.steps.proofs.TableLaws.{lay, lay_append, length_lay, lay_rest, wiped_lay, node_some, comment_some}
use Rattle.steps.proofs.ForestLaws.{◌⊕◌, sizes_plus, counts_plus, rows_plus, notes_plus}
use Rattle.parser.specs.Refusals.{Refusal, none_left, in_hand}
use Rattle.parser.proofs.Refusals.{refusals}
use Rattle.parser.proofs.Paid.{tokens_bound}
use Rattle.steps.proofs.Seen.{Sound, AheadOf, lexer_span, advance_ahead, moved, waiting_of, Frame, At, number, Meant, went, halted}
use Rattle.steps.proofs.StepLaws.{none_ahead, some_ahead, sound_ahead}
use Rattle.steps.proofs.SkipLaws.{separators_m, comments_m}
use Rattle.reader.proofs.Bytes.{between_rests, rest_falls}
use Rattle.steps.proofs.NodeLaws.{rows_at, rows_at_law, Turn, shuts, refuses, goes, turn_after, turn_last, loop_m}
use Rattle.parse_definitions.proofs.MeantDefinitions.{definition_m}

-- ---- a definition in the rest of the table

-- in front of a definition, which is lent the table t
abbrev rest : Frame → Forest → ℕ → List ℕ → Frame
rest fr f n t = record { number = n; nodes = t; owned = rows_at fr f; comments = fr.comments }

module _ {text : List ℕ} {i : ℕ} {fr : Frame} {f : Forest} {st : State} {t u : List ℕ} {s : St} (h : At text i 0 no_parent fr f st t u s) where
  rest_at_law : (r : List ℕ) → At text i st.next no_parent (rest fr f st.next r) bare st r u s
  unfolding lay rows_of comment_rows_of sizes note_counts
  rest_at_law r =
      record {
        last = h.last;
        ahead = h.ahead;
        next = omega arith;
        nodes = refl;
        count = omega (arith, h.count, rows_at_law fr f);
        waits = h.waits;
        comments = rw (append-nil (rows_at fr f)) h.comments;
        credit = h.credit;
        space = h.space;
        based = omega arith;
        wide = append_all h.wide (comments_wide f fr.number);
      }

  back_at : {g : Forest} {st' : State} {t' u' : List ℕ} {s' : St} (k : ℕ) → k ≡ rest_at (st.next * node_width) (length t)
      → At text i st.next no_parent (rest fr f st.next (drop k t)) g st' t' u' s' → At text i 0 no_parent fr (f ⊕ g) st' (take k t ++ t') u' s'
  back_at {g = g} {st' = st'} {t' = t'} {s' = s'} k e d =
      let n = st.next in
      let m = fr.number in
      let xs = rows_of f no_parent m in
      let ys = rows_of g no_parent n in
      let q : m - 0 + length xs ≡ n = omega (arith, h.next, rows_sizes f no_parent m) in
      let z : n - n ≡ 0 = omega arith in
      record {
        last = d.last;
        ahead = d.ahead;
        next = d.next ∙ omega (arith, h.next, sizes_plus f g);
        nodes =
            ap (λ (y : List ℕ). take k t ++ y) (d.nodes ∙ ap (λ (y : ℕ). lay node_width y ys (drop k t)) z)
            ∙ ap (λ (y : ℕ). take y t ++ lay node_width 0 ys (drop y t)) e
            ∙ lay_rest node_width node_some n t (forest_wide g no_parent n)
            ∙ ap (lay node_width n ys) h.nodes
            ∙ ap (λ (y : ℕ). lay node_width y ys (lay node_width (m - 0) xs fr.nodes)) (sym q)
            ∙ sym (lay_append node_width node_some (m - 0) xs ys fr.nodes)
            ∙ ap (λ (y : List (List ℕ)). lay node_width (m - 0) y fr.nodes) (ap (λ (y : ℕ). xs ++ rows_of g no_parent y) h.next ∙ sym (rows_plus f g no_parent m));
        count = d.count ∙ omega (arith, rows_at_law fr f, counts_plus f g);
        waits = d.waits;
        comments =
            d.comments
            ∙ ap (λ (y : List (List ℕ)). lay comment_width 0 (y ++ owned 0 (waiting_of s')) fr.comments)
            (append_assoc fr.owned (comment_rows_of f m) (comment_rows_of g n)
            ∙ ap (λ (y : List (List ℕ)). fr.owned ++ y) (ap (λ (y : ℕ). comment_rows_of f m ++ comment_rows_of g y) h.next ∙ sym (notes_plus f g m)));
        credit = d.credit;
        space = d.space;
        based = omega arith;
        wide = h.wide;
      }

in_rest_law : {A : Type 0} {Q R : A → State → List ℕ → List ℕ → St → Type 0} {o : Out} {r : Res A} (k : ℕ) (t : List ℕ) → Meant Q o r
    → ((a : A) (st : State) (t' u : List ℕ) (s : St) → Q a st t' u s → R a st (take k t ++ t') u s) → Meant R (in_rest k t o) r
unfolding in_rest
in_rest_law k t (went {a = a} {st = st} {t = t'} {u = u} {s = s} q) g = went (g a st t' u s q)
in_rest_law k t halted g = halted

-- both tables as they were lent
abbrev pub lent : List ℕ → List ℕ → Frame
lent t u = record { number = 0; nodes = t; owned = []; comments = u }

module _ (text : List ℕ) (short : length text ≤ 65536) where
  rest_m : {i : ℕ} {fr : Frame} {f : Forest} {st : State} {t u : List ℕ} {s : St} → At text (suc i) 0 no_parent fr f st t u s
      → Meant (λ d. At text (suc i) 0 no_parent fr (f ⊕ single (definition_tree d))) (rest_in text st t u) (parse_definition s)
  unfolding rest_in
  rest_m {st = st} {t = t} h =
      let k = rest_at (st.next * node_width) (length t) in
      in_rest_law k t (definition_m text short (rest_at_law h (drop k t))) λ a st' t' u' s' d. back_at h k refl d

  -- ---- the document

  refused_none : (e : ℕ) (st : State) → eqb (code_of st) 255 ≡ true → (t u : List ℕ) → refused e st t u ≡ stop 3 st.last st t u
  unfolding refused
  refused_none e st k t u = rw k

  over_in_law : (st : State) (t u : List ℕ) (l : LOC) (z : Bool) → unpacked_loc st.last ≡ l → eqb l.end.index 1 ≡ z → over_in st t u ≡ cond z (refused 3 st t u) (done st t u)
  unfolding over_in
  over_in_law st t u l z h e = let d : eqb (unpacked st.last.end).index 1 ≡ z = ap (λ (x : LOC). eqb x.end.index 1) h ∙ e in rw d

  over_by : {i b p : ℕ} {fr : Frame} {f : Forest} {st : State} {t u : List ℕ} (l : LOC) (c : List Lexeme) → At text i b p fr f st t u (pos l c [])
      → (z : Bool) → eqb l.end.index 1 ≡ z → Turn text i b p fr f (closes_at 255) over_in (done st t u) (over (pos l c []))
  unfolding over closes_at test fail
  over_by {st = st} {t = t} {u = u} l c h true e =
      rw (e, ← h.last) (refuses (none_ahead h.ahead) (over_in_law st t u l true h.last e ∙ refused_none 3 st (none_ahead h.ahead) t u))
  over_by {st = st} {t = t} {u = u} l c h false e = rw e (shuts (none_ahead h.ahead) (over_in_law st t u l false h.last e) h)

  over_turn : {i b p : ℕ} {fr : Frame} {f : Forest} {st : State} {t u : List ℕ} (s : St) → At text i b p fr f st t u s
      → Turn text i b p fr f (closes_at 255) over_in (done st t u) (over s)
  unfolding over closes_at
  over_turn (pos l c []) h = over_by l c h (eqb l.end.index 1) refl
  over_turn (pos l c (t ∷ ts)) h = goes (some_ahead h.ahead) h

  document_turn : {i b p : ℕ} {fr : Frame} {f : Forest} {st : State} {t u : List ℕ} {s : St} → At text i b p fr f st t u s
      → Turn text i b p fr f (closes_at 255) over_in (between_in text st t u) (document_end s)
  unfolding between_in document_end
  document_turn h =
      turn_after (separators_m text short _ h) λ a st₁ t₁ u₁ s₁ h₁. turn_after (comments_m text short _ h₁) λ a st₂ t₂ u₂ s₂ h₂.
      turn_last (separators_m text short _ h₂) λ a st₃ t₃ u₃ s₃ h₃. over_turn s₃ h₃

  pub document_m : {i : ℕ} {fr : Frame} {f : Forest} {st : State} {t u : List ℕ} {s : St} → At text (suc i) 0 no_parent fr f st t u s
      → Meant (λ ds. At text (suc i) 0 no_parent fr (f ⊕ forest ds)) (document_in text st t u) (parse_document s)
  unfolding document_in parse_document forest each
  document_m {f = f} h =
      loop_m definition_tree (λ ds. each definition_tree ds bare) (closes_at 255) (between_in text) over_in (rest_in text) (between_rests text) (rest_falls text) [] ◌∷◌ document_end parse_definition refl (λ a x. refl)
      (λ f st t u s h. document_turn h) (λ f st t u s h. rest_m h) short f _ _ _ _ h

  -- ---- the whole

  opening_sound : Sound text opening
  unfolding opening
  opening_sound = refl

  -- the state in front of the text: its place is the first one
  beginning_ahead : AheadOf text (beginning text) (tokens text opening)
  unfolding beginning unread between
  beginning_ahead =
      let z = small_span opening opening_placed in
      let e : lexer_at (unpacked (packed (span_of opening))) ≡ opening =
      ap lexer_at (unpacked_packed (span_of opening) z) ∙ lexer_span opening opening_placed.line_begun in
      rw e at
      (advance_ahead text short unread (rw e opening_placed) (rw e opening_sound))

  pub beginning_at : (t u : List ℕ) → At text 8 0 no_parent (lent t u) bare (beginning text) t u (pos (between opening opening) [] (tokens text opening))
  unfolding beginning unread between lay rows_of comment_rows_of sizes note_counts owned
  beginning_at t u =
      let m = moved text unread in
      let z = small_span opening opening_placed in
      record {
        last = ap unpacked_loc m.last ∙ loc_back (between opening opening) z z;
        ahead = beginning_ahead;
        next = m.next;
        nodes = refl;
        count = m.owned;
        waits = m.waiting;
        comments = refl;
        credit = omega (arith, m.next, tokens_bound text);
        space = omega (arith, m.owned, tokens_bound text);
        based = omega arith;
        wide = anil;
      }

  -- an answer and both tables
  abbrev given : Outcome (List ℕ) → List ℕ → List ℕ → Reading
  given a ns cs = record { says = a; nodes = ns; comments = cs }

  given_same : {a b : Outcome (List ℕ)} {n m c d : List ℕ} → a ≡ b → n ≡ m → c ≡ d → given a n c ≡ given b m d
  given_same e f g = rw (e, f, g)

  room_same : (w : ℕ) (t r : List ℕ) → length r ≡ length t → room w r ≡ room w t
  unfolding room
  room_same w t r e = rw e

  module _ {i : ℕ} {t' u' : List ℕ} {st : State} {s : St} (t u : List ℕ) (ds : List Definition) (h : At text i 0 no_parent (lent t u) (forest ds) st t' u' s) where
    -- what the tables hold at the end
    table_nodes : t' ≡ lay node_width 0 (node_rows ds ++ []) t
    unfolding node_rows
    table_nodes = h.nodes ∙ ap (λ (y : List (List ℕ)). lay node_width 0 y t) (sym (append-nil (rows_of (forest ds) no_parent 0)))

    table_notes : u' ≡ lay comment_width 0 (notes ds ++ owned 0 (waiting_of s)) u
    unfolding notes
    table_notes = h.comments

    count_nodes : st.next ≡ length (node_rows ds)
    count_nodes = h.next ∙ omega (arith, node_rows_size ds)

    count_notes : st.owned ≡ length (notes ds)
    count_notes = h.count ∙ omega (arith, notes_count ds)

    length_nodes : length t' ≡ length t
    length_nodes = ap length table_nodes ∙ length_lay node_width node_some 0 t (append_all (node_rows_wide ds) anil)

    length_notes : length u' ≡ length u
    length_notes = ap length table_notes ∙ length_lay comment_width comment_some 0 u (append_all (notes_wide ds) (owned_wide 0 (waiting_of s)))

    fits_by : (x y : Bool) → ltb (room node_width t) (length (node_rows ds)) ≡ x → ltb (room comment_width u) (length (notes ds)) ≡ y
        → fits st t' u' ≡ given (fitted ds t u) (left (fitted ds t u) (node_rows ds) t) (left (fitted ds t u) (notes ds) u)
    unfolding fits fitted left refusing
    fits_by true y e d =
        let z : ltb (room node_width t') st.next ≡ true = rw (room_same node_width t t' length_nodes, count_nodes) e in
        rw (z, e) (given_same refl (cleared_same t t' length_nodes) (cleared_same u u' length_notes))
    fits_by false true e d =
        let z : ltb (room node_width t') st.next ≡ false = rw (room_same node_width t t' length_nodes, count_nodes) e in
        let w : ltb (room comment_width u') st.owned ≡ true = rw (room_same comment_width u u' length_notes, count_notes) d in
        rw (z, e, w, d) (given_same refl (cleared_same t t' length_nodes) (cleared_same u u' length_notes))
    fits_by false false e d =
        let z : ltb (room node_width t') st.next ≡ false = rw (room_same node_width t t' length_nodes, count_nodes) e in
        let w : ltb (room comment_width u') st.owned ≡ false = rw (room_same comment_width u u' length_notes, count_notes) d in
        rw (z, e, w, d)
        (given_same (rw (count_nodes, count_notes))
        (ap (λ (n : ℕ). wiped (n * node_width) t') count_nodes ∙ ap (wiped (length (node_rows ds) * node_width)) table_nodes
        ∙ wiped_lay node_width node_some t (node_rows_wide ds) anil (ltb-false (room node_width t) (length (node_rows ds)) e))
        (ap (λ (n : ℕ). wiped (n * comment_width) u') count_notes ∙ ap (wiped (length (notes ds) * comment_width)) table_notes
        ∙ wiped_lay comment_width comment_some u (notes_wide ds) (owned_wide 0 (waiting_of s)) (ltb-false (room comment_width u) (length (notes ds)) d)))

  -- with a token in hand no step raises 3, so the code's 3 says that none is left
  ended_error : {r : Raised} {l : LOC} → Refusal text r l → ended (number r) l.end.index (length text) ≡ error r l text
  unfolding ended error
  ended_error (none_left e) = refl
  ended_error (in_hand {e = e} m f) = rw (or_left (eqb e UnexpectedEOF) _ f)

  judged_means : {o : Out} {r : Res (List Definition)} {i : ℕ} (t u : List ℕ) → ((e : Raised) (l : LOC) → r ≡ no e l → Refusal text e l)
      → Meant (λ ds. At text i 0 no_parent (lent t u) (forest ds)) o r
      → judged o (length text) t u ≡ given (answer (answered r text) t u) (left (answer (answered r text) t u) (rows_by node_rows (answered r text)) t)
      (left (answer (answered r text) t u) (rows_by notes (answered r text)) u)
  unfolding judged answered answer rows_by refusing_at refusing left
  judged_means t u f (went {a = ds} h) = fits_by t u ds h (ltb (room node_width t) (length (node_rows ds))) (ltb (room comment_width u) (length (notes ds))) refl refl
  judged_means t u f (halted {r = r} {l = l}) = rw (ended_error (f r (unpacked_loc l) refl))

  sound_means : {o : Out} {r : Res (List Definition)} {i : ℕ} (t u : List ℕ) → Meant (λ ds. At text i 0 no_parent (lent t u) (forest ds)) o r
      → unrecognized (cuts (drop (unscanned o) text)) (unscanned o) ≡ unrecognized (cuts text) 0
  unfolding unscanned lexer_at
  sound_means t u (went h) = sound_ahead h.ahead
  sound_means t u halted = refl

  settled_means : {o : Out} (t u : List ℕ) → Meant (λ ds. At text 8 0 no_parent (lent t u) (forest ds)) o (parsed text) → ill_formed text ≡ None
      → (v : Option ℕ) → unrecognized (cuts text) 0 ≡ v → settled v o (length text) t u ≡ reading text t u
  unfolding settled reading outcome outcome_by
  settled_means t u m b (Some p) e = read_unknown text t u p (unknown text short p b e)
  settled_means t u m b None e = rw (fine text short b e) (judged_means t u (refusals text short) m)

pub parsing_means : (text t u : List ℕ) → length text ≤ 65536 → ill_formed text ≡ None → parsing text t u ≡ reading text t u
unfolding parsing parsed
parsing_means text t u short b =
    let m = document_m text short (beginning_at text short t u) in
    settled_means text short t u m b _ (sym (sound_means text short t u m))
