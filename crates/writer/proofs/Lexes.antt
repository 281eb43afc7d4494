-- The bytes of pieces that stand apart are cut into the tokens of the pieces.
--     lexes         their tokens, places forgotten
--     cut_through   a token starts wherever one has to
--     well          they are well-formed UTF-8
--     fine_print    so such a text is not refused, if it is not too long
use mathlib.Core.Path.{◌≡◌, refl, ap, ◌∙◌}
use mathlib.Core.Bool.{Bool, true, false, cond, not}
use mathlib.Core.List.{List, [], ◌∷◌, ◌++◌, append-nil}
use Rattle.std.specs.Prelude.{Some, None}
use Prim.Native.Nat.{ℕ, suc, ◌+◌, ◌<◌, ◌≤◌}
use native.Mathlib.Omega.{arith}
use native.Mathlib.Nat.{add-zero}
use lib.Dec.{T, eqb}
use lib.ListN.{length, take, drop}
use lib.Seq.{take-append_seam, drop-append_seam}
use borrow.Author.Tests.{le-ltb, eqb-true}
use Rattle.token.specs.Code.{code, is, among}
use Rattle.token.specs.Regex.{bytes, ranges, within}
use Rattle.token.specs.Patterns.{words, rules}
use Rattle.token.specs.Scan.{first, keep, scan_from, scan}
use Rattle.token.specs.Tables.{classes}
use Rattle.token.specs.Run.{class_of}
use Rattle.token.specs.Words.{rename}
use Rattle.token.specs.Automaton.{start, dead, blanks, rules_at, openings, step, kind_at, longest}
use Rattle.token.specs.Breaks.{goes_on, breaks, Stops, Bytes}
use Rattle.token.specs.declared.Token.{Token}
use Rattle.token.specs.declared.Token.TheVariants as T
use Rattle.token.specs.Scanned.{Scan}
use Rattle.token.proofs.Reach.{dead_scan, scan_step}
use Rattle.token.proofs.Words.{scan_words}
use Rattle.token.proofs.Stable.{stable, fixed}
use Rattle.lexer.specs.declared.location.Lexer.{Lexer}
use Rattle.lexer.specs.declared.location.LOC.{LOC}
use Rattle.lexer.specs.Outcome.{accepted}
use Rattle.lexer.specs.Cuts.{Cuts, end, stuck, cut, cuts, unrecognized}
use Rattle.lexer.specs.Location.{pass, between, opening}
use Rattle.lexer.specs.Tokens.{Lexeme, lexeme, skipped, lexemes, tokens}
use Rattle.utf8.specs.Utf8.{WellFormed}
use Rattle.lexer.specs.Check.{verdict, checked}
use Rattle.lexer.proofs.CutLaws.{cuts_nil, cuts_hit}
use Rattle.utf8.proofs.Utf8Laws.{well_join, well_ascii, Ascii}
use Rattle.writer.specs.Print.{Piece, bytes_of}
use Rattle.ast.specs.Move.{move_l, moves}
use Rattle.ast.proofs.Forget.{nowhere, bares}
use Rattle.writer.proofs.Toks.{toks, Blanks, bnil, bspace, bline, Mark, left_brace, right_brace, left_bracket, right_bracket, left_angle, right_angle, left_paren, right_paren, colon, comma, equals, Good, Sep, snil, sgap, smark, sword, snote}

-- ---- places decide nothing

free : (cs : Cuts) (s u : Lexer) → bares (lexemes cs s) ≡ bares (lexemes cs u)
unfolding lexemes moves move_l
free end s u = refl
free stuck s u = refl
free (cut k w r cs) s u = go (skipped k) (between s (pass w k r s)) (between u (pass w k r u)) (free cs (pass w k r s) (pass w k r u))
  where
    go : (b : Bool) (p q : LOC) → bares (lexemes cs (pass w k r s)) ≡ bares (lexemes cs (pass w k r u))
        → bares (cond b (lexemes cs (pass w k r s)) (lexeme k w p ∷ lexemes cs (pass w k r s)))
        ≡ bares (cond b (lexemes cs (pass w k r u)) (lexeme k w q ∷ lexemes cs (pass w k r u)))
    go true p q e = e
    go false p q e = ap (λ (l : List Lexeme). lexeme k w nowhere ∷ l) e

shift : (cs : Cuts) (a b : ℕ) → unrecognized cs a ≡ None → unrecognized cs b ≡ None
unfolding unrecognized
shift end a b e = refl
shift stuck a b e = cc
shift (cut k w r cs) a b e = shift cs (a + length w) (b + length w) e

-- ---- what the cuts of a text give

pub record Gives (cs : Cuts) (ts : List Lexeme) : Type 0 where
  pub reads : (s : Lexer) → bares (lexemes cs s) ≡ ts
  pub passes : (a : ℕ) → unrecognized cs a ≡ None

gives_end : Gives end []
unfolding lexemes moves unrecognized
gives_end = record { reads = λ s. refl; passes = λ a. refl }

module _ (k : Token) (w r : List ℕ) (cs : Cuts) (ts : List Lexeme) where
  gives_token : skipped k ≡ false → Gives cs ts → Gives (cut k w r cs) (lexeme k w nowhere ∷ ts)
  unfolding lexemes moves move_l unrecognized
  gives_token e g = record {
    reads = λ s. rw e (ap (λ (l : List Lexeme). lexeme k w nowhere ∷ l) (g.reads (pass w k r s)));
    passes = λ a. g.passes (a + length w);
  }

  gives_blank : skipped k ≡ true → Gives cs ts → Gives (cut k w r cs) ts
  unfolding lexemes unrecognized
  gives_blank e g = record { reads = λ s. rw e (g.reads (pass w k r s)); passes = λ a. g.passes (a + length w) }

  gives_behind : skipped k ≡ true → Gives (cut k w r cs) ts → Gives cs ts
  unfolding lexemes unrecognized
  gives_behind e g = record {
    reads = λ s. free cs s (pass w k r s) ∙ rw e at (g.reads s);
    passes = λ a. shift cs (0 + length w) a (g.passes 0);
  }

-- ---- blanks

-- how many blanks a text starts with
run : List ℕ → ℕ
run [] = 0
run (c ∷ t) = cond (eqb (class_of c) 59) (suc (run t)) 0

blanks_step : (b : Bool) (t : List ℕ) (i : ℕ) → scan_from (rules_at blanks) (suc i) (Some (T.Blank, suc i)) t ≡ Some (T.Blank, suc i + run t)
    → scan_from (rules_at (cond b blanks dead)) (suc i) (keep (kind_at (cond b blanks dead)) (suc i) (Some (T.Blank, i))) t ≡ Some (T.Blank, i + cond b (suc (run t)) 0)
unfolding keep kind_at rules_at
blanks_step true t i e = e ∙ ap (λ n. Some (T.Blank, n)) (omega arith)
blanks_step false t i e = dead_scan (suc i) (Some (T.Blank, i)) t ∙ ap (λ n. Some (T.Blank, n)) (omega arith)

run_scan : (t : List ℕ) (i : ℕ) → Bytes t → scan_from (rules_at blanks) i (Some (T.Blank, i)) t ≡ Some (T.Blank, i + run t)
unfolding run scan_from step
run_scan [] i h = rw add-zero
run_scan (c ∷ t) i h = scan_step blanks i (Some (T.Blank, i)) c t h.0 ∙ blanks_step (eqb (class_of c) 59) t i (run_scan t (suc i) h.1)

opens : (c : ℕ) → class_of c ≡ 59 → step start (class_of c) ≡ blanks
unfolding step openings
opens c e = rw e

blank_longest : (c : ℕ) (t : List ℕ) → class_of c ≡ 59 → Bytes (c ∷ t) → longest (c ∷ t) ≡ Some (T.Blank, 1 + run t)
unfolding longest rules_at keep kind_at
blank_longest c t e h = scan_step start 0 None c t h.0 ∙ rw (opens c e) (run_scan t 1 h.1)

blank_scan : (c : ℕ) (t : List ℕ) → class_of c ≡ 59 → Bytes (c ∷ t) → scan (c ∷ t) ≡ Some (T.Blank, suc (run t))
unfolding rename is code
blank_scan c t e h = scan_words (c ∷ t) ∙ rw (blank_longest c t e h) (ap (λ n. Some (T.Blank, n)) (omega arith))

blank_skipped : skipped T.Blank ≡ true
unfolding skipped is code
blank_skipped = refl

-- a blank in front adds nothing: with the blanks behind it, it is one
blank_gives : (c : ℕ) (t : List ℕ) (ts : List Lexeme) → class_of c ≡ 59 → Bytes (c ∷ t) → Gives (cuts t) ts → Gives (cuts (c ∷ t)) ts
blank_gives c t ts e h g =
    rw (cuts_hit (c ∷ t) T.Blank (suc (run t)) (blank_scan c t e h))
    (gives_blank T.Blank (take (suc (run t)) (c ∷ t)) (drop (suc (run t)) (c ∷ t)) (cuts (drop (suc (run t)) (c ∷ t))) ts blank_skipped (behind t h.1 g))
  where
    more : (d : ℕ) (u : List ℕ) (b : Bool) → eqb (class_of d) 59 ≡ b → Bytes (d ∷ u) → Gives (cuts (d ∷ u)) ts
        → Gives (cuts (drop (suc (cond b (suc (run u)) 0)) (c ∷ d ∷ u))) ts
    more d u true f l g =
        gives_behind T.Blank (take (suc (run u)) (d ∷ u)) (drop (suc (run u)) (d ∷ u)) (cuts (drop (suc (run u)) (d ∷ u))) ts blank_skipped
        (rw (cuts_hit (d ∷ u) T.Blank (suc (run u)) (blank_scan d u (eqb-true (class_of d) 59 f) l)) at g)
    more d u false f l g = g

    behind : (t : List ℕ) → Bytes t → Gives (cuts t) ts → Gives (cuts (drop (suc (run t)) (c ∷ t))) ts
    behind [] l g = unfold run in g
    behind (d ∷ u) l g = unfold run in more d u (eqb (class_of d) 59) refl l g

-- ---- tokens

token_gives : (k : Token) (w r : List ℕ) (ts : List Lexeme) → skipped k ≡ false → scan (w ++ r) ≡ Some (k, length w) → Gives (cuts r) ts
    → Gives (cuts (w ++ r)) (lexeme k w nowhere ∷ ts)
token_gives k w r ts s e g = rw (cuts_hit (w ++ r) k (length w) e, take-append_seam w r, drop-append_seam w r) (gives_token k w r (cuts r) ts s g)

word_gives : (k : Token) (w r : List ℕ) (ts : List Lexeme) → Good k w → Stops k r → Gives (cuts r) ts → Gives (cuts (w ++ r)) (lexeme k w nowhere ∷ ts)
word_gives k w r ts h st g = token_gives k w r ts h.solid (stable w [] r k h.bytes (rw append-nil h.scanned) st) g

-- a newline ends a token of any kind
line_ends_law : (k : Token) (r : List ℕ) → Stops k (10 ∷ r)
unfolding breaks
line_ends_law k r = (omega arith, go (goes_on k) (is k T.Blank) (is k T.LineComment))
  where
    go : (a b c : Bool)
        → T (cond a (not (within 10 (ranges (bytes "azAZ09__.."))))
        (cond b (not (within 10 (ranges (bytes "  \t\t")))) (cond c (eqb 10 10) true)))
    go true b c = unfold within ranges bytes in tt
    go false true c = unfold within ranges bytes in tt
    go false false true = tt
    go false false false = tt

-- a token that nothing lengthens ends at any byte
any_ends : (k : Token) (r : List ℕ) → goes_on k ≡ false → is k T.Blank ≡ false → is k T.LineComment ≡ false → Bytes r → Stops k r
unfolding breaks
any_ends k [] a b c h = tt
any_ends k (x ∷ r) a b c h = (h.0, rw (a, b, c) tt)

-- `rules_at` unfolds all that the patterns are made of
unfoldable one : ℕ → Scan
unfolding rules_at words rules first keep scan_from scan
one b = scan (b ∷ [])

line_scan : (r : List ℕ) → Bytes r → scan (10 ∷ r) ≡ Some (T.Newline, 1)
unfolding one goes_on among is code
line_scan r h = fixed (10 ∷ []) r T.Newline tt refl (any_ends T.Newline r refl refl refl h)

line_gives : (r : List ℕ) (ts : List Lexeme) → Bytes r → Gives (cuts r) ts → Gives (cuts (10 ∷ r)) ts
unfolding skipped is code
line_gives r ts h g = rw (cuts_hit (10 ∷ r) T.Newline 1 (line_scan r h)) (gives_blank T.Newline (10 ∷ []) r (cuts r) ts refl g)

space_class : class_of 32 ≡ 59
unfolding class_of classes
space_class = refl

gap_gives : {b : List ℕ} → Blanks b → (r : List ℕ) (ts : List Lexeme) → Bytes (b ++ r) → Gives (cuts r) ts → Gives (cuts (b ++ r)) ts
gap_gives bnil r ts h g = g
gap_gives (bspace {b = b} k) r ts h g = blank_gives 32 (b ++ r) ts space_class h (gap_gives k r ts h.1 g)
gap_gives (bline {b = b} k) r ts h g = line_gives (b ++ r) ts h.1 (gap_gives k r ts h.1 g)

-- what a mark's kind and byte are
pub record Plain (k : Token) (b : ℕ) : Type 0 where
  pub itself : scan (b ∷ []) ≡ Some (k, 1)
  pub names : goes_on k ≡ false
  pub blank : is k T.Blank ≡ false
  pub comment : is k T.LineComment ≡ false
  pub solid : skipped k ≡ false
  pub low : b < 128

plain : {k : Token} {b : ℕ} → Mark k b → Plain k b
unfolding one goes_on among is code skipped
plain left_brace = record { itself = refl; names = refl; blank = refl; comment = refl; solid = refl; low = omega arith }
plain right_brace = record { itself = refl; names = refl; blank = refl; comment = refl; solid = refl; low = omega arith }
plain left_bracket = record { itself = refl; names = refl; blank = refl; comment = refl; solid = refl; low = omega arith }
plain right_bracket = record { itself = refl; names = refl; blank = refl; comment = refl; solid = refl; low = omega arith }
plain left_angle = record { itself = refl; names = refl; blank = refl; comment = refl; solid = refl; low = omega arith }
plain right_angle = record { itself = refl; names = refl; blank = refl; comment = refl; solid = refl; low = omega arith }
plain left_paren = record { itself = refl; names = refl; blank = refl; comment = refl; solid = refl; low = omega arith }
plain right_paren = record { itself = refl; names = refl; blank = refl; comment = refl; solid = refl; low = omega arith }
plain colon = record { itself = refl; names = refl; blank = refl; comment = refl; solid = refl; low = omega arith }
plain comma = record { itself = refl; names = refl; blank = refl; comment = refl; solid = refl; low = omega arith }
plain equals = record { itself = refl; names = refl; blank = refl; comment = refl; solid = refl; low = omega arith }

-- a mark is a token by itself, whatever follows
pub mark_good : {k : Token} {b : ℕ} → Mark k b → Good k (b ∷ [])
mark_good {b = b} m =
    let p = plain m in
    record { bytes = (omega arith, tt); scanned = p.itself; solid = p.solid; formed = well_ascii (b ∷ []) (p.low, tt) }

pub mark_ends : {k : Token} {b : ℕ} → Mark k b → (r : List ℕ) → Bytes r → Stops k r
mark_ends {k} m r h = let p = plain m in any_ends k r p.names p.blank p.comment h

-- ---- the bytes of the pieces

bytes_join : (u v : List ℕ) → Bytes u → Bytes v → Bytes (u ++ v)
bytes_join [] v h k = k
bytes_join (c ∷ u) v h k = (h.0, bytes_join u v h.1 k)

blanks_ascii : {b : List ℕ} → Blanks b → Ascii b
blanks_ascii bnil = tt
blanks_ascii (bspace k) = (omega arith, blanks_ascii k)
blanks_ascii (bline k) = (omega arith, blanks_ascii k)

ascii_bytes : (u : List ℕ) → Ascii u → Bytes u
ascii_bytes [] h = tt
ascii_bytes (c ∷ u) h = (let l : c < 128 = h.0 in omega arith, ascii_bytes u h.1)

pub all_bytes : {ps : List Piece} → Sep ps → Bytes (bytes_of ps)
unfolding bytes_of
all_bytes snil = tt
all_bytes (sgap {b = b} {r = r} h g) = bytes_join b (bytes_of r) (ascii_bytes b (blanks_ascii h)) (all_bytes g)
all_bytes (smark {b = b} h g) = (let l : b < 128 = (plain h).low in omega arith, all_bytes g)
all_bytes (sword {w = w} {r = r} h st g) = bytes_join w (bytes_of r) h.bytes (all_bytes g)
all_bytes (snote {w = w} {r = r} h c g) = bytes_join w (10 ∷ bytes_of r) h.bytes (omega arith, all_bytes g)

pub well : {ps : List Piece} → Sep ps → WellFormed (bytes_of ps)
unfolding bytes_of
well snil = well_ascii [] tt
well (sgap {b = b} {r = r} h g) = well_join b (bytes_of r) (well_ascii b (blanks_ascii h)) (well g)
well (smark {b = b} {r = r} h g) = well_join (b ∷ []) (bytes_of r) (mark_good h).formed (well g)
well (sword {w = w} {r = r} h st g) = well_join w (bytes_of r) h.formed (well g)
well (snote {w = w} {r = r} h c g) =
    well_join w (10 ∷ bytes_of r) h.formed (well_join (10 ∷ []) (bytes_of r) (well_ascii (10 ∷ []) (omega arith, tt)) (well g))

pub gives : {ps : List Piece} → Sep ps → Gives (cuts (bytes_of ps)) (toks ps)
unfolding bytes_of toks
gives snil = rw cuts_nil gives_end
gives (sgap {b = b} {r = r} h g) = gap_gives h (bytes_of r) (toks r) (bytes_join b (bytes_of r) (ascii_bytes b (blanks_ascii h)) (all_bytes g)) (gives g)
gives (smark {k = k} {b = b} {r = r} h g) = word_gives k (b ∷ []) (bytes_of r) (toks r) (mark_good h) (mark_ends h (bytes_of r) (all_bytes g)) (gives g)
gives (sword {k = k} {w = w} {r = r} h st g) = word_gives k w (bytes_of r) (toks r) h st (gives g)
gives (snote {k = k} {w = w} {r = r} h c g) =
    word_gives k w (10 ∷ bytes_of r) (toks r) h (line_ends_law k (bytes_of r)) (line_gives (bytes_of r) (toks r) (all_bytes g) (gives g))

-- ---- what the reader finds in the print

pub lexes_from : (ps : List Piece) → Sep ps → (s : Lexer) → bares (lexemes (cuts (bytes_of ps)) s) ≡ toks ps
lexes_from ps h s = (gives h).reads s

pub lexes : (ps : List Piece) → Sep ps → bares (tokens (bytes_of ps) opening) ≡ toks ps
unfolding tokens opening
lexes ps h = lexes_from ps h opening

pub cut_through : {ps : List Piece} → Sep ps → (a : ℕ) → unrecognized (cuts (bytes_of ps)) a ≡ None
cut_through h a = (gives h).passes a

pub fine_print : {ps : List Piece} → Sep ps → length (bytes_of ps) ≤ 65536 → checked (bytes_of ps) ≡ accepted []
unfolding checked verdict
fine_print {ps} h l = rw (le-ltb 65536 (length (bytes_of ps)) l, well h, cut_through h 0)
