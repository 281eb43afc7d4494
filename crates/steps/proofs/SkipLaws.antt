-- The code (its model, specs/Into) passes over separators and comments as the definitions do; comments that wait stand behind those that have an owner.
--     separators_m        skip_separator
--     discard_m           skip_comments_discard
--     comments_m          skip_comments
--     trivia_m            skip_trivia
--     separator_test, comment_test    the code's tests of a kind's number
use mathlib.Core.Path.{◌≡◌, refl, sym, ap, ◌∙◌}
use mathlib.Core.Bool.{Bool, true, false, cond}
use mathlib.Core.List.{List, [], ◌∷◌, ◌++◌, append_assoc}
use Prim.Native.Nat.{ℕ, ◌+◌, ◌≤◌}
use native.Mathlib.Omega.{arith}
use lib.Dec.{eqb}
use lib.ListN.{length, length-append}
use Rattle.token.specs.Code.{code, is, among}
use Rattle.token.specs.declared.Token.{Token}
use Rattle.lexer.specs.declared.location.LOC.{LOC}
use Rattle.lexer.specs.Tokens.{Lexeme, lexeme}
use Rattle.ast.specs.Tree.{Forest}
use Rattle.ast.specs.Records.{comment_width, row, owned, comment_row, comment_rows_of}
use Rattle.ast.proofs.Counts.{note_counts_law, owned_count}
use Rattle.steps.specs.declared.state.State.{State}
use Rattle.parser.specs.Steps as S
use Rattle.parser.specs.Steps.{
  separators,
  kind,
  place,
  St,
  pos,
  ok,
  Fate,
  over,
  wait,
  fate,
  by,
  pass,
  skip,
  skip_separator,
  skip_comments,
  skip_comments_discard,
  skip_trivia,
}
use Rattle.steps.specs.Packed.{unpacked_loc}
use Rattle.steps.specs.Into.{
  code_of,
  put,
  advanced,
  is_separator,
  is_comment,
  passes,
  passed,
  skip_in,
  waits,
  put_waiting,
  skip_comments_in,
}
use Rattle.parser.proofs.Wf.{comment_kinds}
use Rattle.parser.proofs.KindLaws.{all, same, agree, Tests, apart}
use Rattle.steps.proofs.Bytes.{passed_is, comments_is}
use Rattle.steps.proofs.TableLaws.{lay, lay_append, comment_some}
use Rattle.steps.proofs.Seen.{small_bump, First, over as ended, on, AheadOf, advance_ahead, moved, Frame, At, less, Meant, went}
use Rattle.steps.proofs.StepLaws.{first_ahead, step_at}

-- ---- the tests of the code

pub separator_test : Tests is_separator separators
unfolding all same code is among is_separator
separator_test = record { agrees = agree (λ k. is_separator (code k)) (λ k. among k separators) refl refl; fails = refl }

pub comment_test : Tests is_comment comment_kinds
unfolding all same code is among is_comment
comment_test = record { agrees = agree (λ k. is_comment (code k)) (λ k. among k comment_kinds) refl refl; fails = refl }

-- ---- the fates of kinds

same_both : (b : Bool) → cond b S.stop S.stop ≡ S.stop
same_both true = refl
same_both false = refl

separators_over : (k : Token) → fate over S.stop k ≡ cond (among k separators) over S.stop
unfolding fate
separators_over k = rw (same_both (among k comment_kinds))

by_comment : {X : Type 0} (k : Token) → (among k comment_kinds ≡ true → X) → (among k comment_kinds ≡ false → X) → X
by_comment {X} k f g = go (among k comment_kinds) refl
  where
    go : (b : Bool) → among k comment_kinds ≡ b → X
    go true e = f e
    go false e = g e

comments_over : (k : Token) → fate S.stop over k ≡ cond (among k comment_kinds) over S.stop
unfolding fate
comments_over k = by_comment k (λ e. rw (apart k e, e)) (λ e. rw e (same_both (among k separators)))

waits_first : (f : Fate) (k : Token) → fate f wait k ≡ cond (among k comment_kinds) wait (cond (among k separators) f S.stop)
unfolding fate
waits_first f k = by_comment k (λ e. rw (apart k e, e)) (λ e. rw e)

-- ---- tokens that are passed over

module _ (text : List ℕ) (short : length text ≤ 65536) (i b p : ℕ) (fr : Frame) (f : Forest) (t : List ℕ) where
  passing : (w : Bool) (ks : List Token) → Tests (λ n. passes n w) ks → (st : State) (tok : Lexeme) → First text (code_of st) st.loc tok
      → passes (code_of st) w ≡ among (kind tok) ks
  passing w ks test st tok h = ap (λ (n : ℕ). passes n w) h.coded ∙ test.agrees (kind tok)

  module _ (w : Bool) (F : Token → Fate) (ks : List Token) (test : Tests (λ n. passes n w) ks) (fates : (k : Token) → F k ≡ cond (among k ks) over S.stop)
      (u : List ℕ) (c : List Lexeme) where
    skip_on : (st : State) (l : LOC) (tok : Lexeme) (ts : List Lexeme) → At text i b p fr f st t u (pos l c (tok ∷ ts))
        → (At text i b p fr f (advanced text st) t u (pos (place tok) c ts) → At text i b p fr f (passed text w (advanced text st)) t u (pass F (place tok) c ts))
        → (z : Bool) → among (kind tok) ks ≡ z → At text i b p fr f (passed text w st) t u (pass F l c (tok ∷ ts))
    unfolding pass by
    skip_on st l tok ts h ih true e =
        rw (passed_is text w st, passing w ks test st tok (first_ahead h.ahead), fates (kind tok), e) (ih (less (less (step_at text short h))))
    skip_on st l tok ts h ih false e = rw (passed_is text w st, passing w ks test st tok (first_ahead h.ahead), fates (kind tok), e) h

    skips : (st : State) (l : LOC) (ts : List Lexeme) → At text i b p fr f st t u (pos l c ts) → At text i b p fr f (passed text w st) t u (pass F l c ts)
    unfolding pass
    skips st l [] h = go h.ahead
      where
        go : AheadOf text st [] → At text i b p fr f (passed text w st) t u (pos l c [])
        go (ended e q) = let z : passes (code_of st) w ≡ false = ap (λ (n : ℕ). passes n w) e ∙ test.fails in rw (passed_is text w st, z) h
    skips st l (tok ∷ ts) h = skip_on st l tok ts h (λ g. skips (advanced text st) (place tok) ts g) (among (kind tok) ks) refl

  -- ---- comments that wait

  more_rows : (xs ys : List (List ℕ)) (r v : List ℕ) (n : ℕ) → length xs + length ys ≡ n → put comment_width n r (lay comment_width 0 (xs ++ ys) v) ≡ lay comment_width 0 (xs ++ (ys ++ r ∷ [])) v
  unfolding lay
  more_rows xs ys r v n e =
      let g : 0 + length (xs ++ ys) ≡ n = omega (arith, length-append xs ys) in
      sym (rw (← (append_assoc xs ys (r ∷ [])), lay_append comment_width comment_some 0 (xs ++ ys) (r ∷ []) v, g))

  owned_more : (n : ℕ) (c : List Lexeme) (tok : Lexeme) → owned n (c ++ tok ∷ []) ≡ owned n c ++ comment_row n tok ∷ []
  unfolding owned
  owned_more n [] tok = refl
  owned_more n (x ∷ c) tok = ap (λ (l : List (List ℕ)). comment_row n x ∷ l) (owned_more n c tok)

  -- the record that the code writes for the comment ahead
  waiting_row : (st : State) (tok : Lexeme) → First text (code_of st) st.loc tok → row (cond (eqb (code_of st) 48) 32 33) 0 0 (unpacked_loc st.loc) ≡ comment_row 0 tok
  unfolding comment_row kind place is code
  waiting_row st (lexeme k w l) h = rw (h.coded, h.placed)

  waited : (st : State) (u : List ℕ) (l : LOC) (c : List Lexeme) (tok : Lexeme) (ts : List Lexeme) → At text i b p fr f st t u (pos l c (tok ∷ ts))
      → AheadOf text st (tok ∷ ts)
      → At text i b p fr f (advanced text (waits st)) t (put_waiting st u) (pos (place tok) (c ++ tok ∷ []) ts)
  unfolding waits put_waiting
  waited st u l c tok ts h (on a e x z q) =
      let m = moved text (waits st) in
      let n = st.owned + st.waiting in
      let xs = fr.owned ++ comment_rows_of f fr.number in
      record {
        last = ap unpacked_loc m.last ∙ a.placed;
        ahead = rw (← e) at (advance_ahead text short (waits st) x q);
        next = m.next ∙ h.next;
        nodes = h.nodes;
        count = m.owned ∙ h.count;
        waits = m.waiting ∙ small_bump st.waiting (omega (arith, h.space, h.waits)) ∙ omega (arith, h.waits, length-append c (tok ∷ []));
        comments =
            ap (λ (r : List ℕ). put comment_width n r u) (waiting_row st tok a) ∙ ap (put comment_width n (comment_row 0 tok)) h.comments
            ∙ more_rows xs (owned 0 c) (comment_row 0 tok) fr.comments n
            (omega (arith, length-append fr.owned (comment_rows_of f fr.number), note_counts_law f fr.number, owned_count 0 c, h.count, h.waits))
            ∙ ap (λ (y : List (List ℕ)). lay comment_width 0 (xs ++ y) fr.comments) (sym (owned_more 0 c tok));
        credit = omega (arith, h.credit, m.next);
        space = omega (arith, h.space, m.owned, length-append c (tok ∷ []));
        based = h.based;
        wide = h.wide;
      }

  module _ (w : Bool) (q : Fate) (F : Token → Fate) (fates : (k : Token) → F k ≡ cond (among k comment_kinds) wait (cond (among k separators) q S.stop))
      (what : q ≡ cond w over S.stop) where
    Waits : List Lexeme → Type 0
    Waits ts = (st : State) (u : List ℕ) (l : LOC) (c : List Lexeme) → At text i b p fr f st t u (pos l c ts)
        → Meant (λ (a : Unit {0}). At text i b p fr f) (skip_comments_in text w st t u) (ok tt (pass F l c ts))

    -- the code's tests of the token ahead
    commented : (st : State) (tok : Lexeme) → First text (code_of st) st.loc tok → is_comment (code_of st) ≡ among (kind tok) comment_kinds
    commented st tok h = ap is_comment h.coded ∙ comment_test.agrees (kind tok)

    separated : (st : State) (tok : Lexeme) → First text (code_of st) st.loc tok → is_separator (code_of st) ≡ among (kind tok) separators
    separated st tok h = ap is_separator h.coded ∙ separator_test.agrees (kind tok)

    wait_separator : (st : State) (u : List ℕ) (l : LOC) (c : List Lexeme) (tok : Lexeme) (ts : List Lexeme) → Waits ts
        → At text i b p fr f st t u (pos l c (tok ∷ ts))
        → among (kind tok) comment_kinds ≡ false → (v y : Bool) → w ≡ v → among (kind tok) separators ≡ y
        → Meant (λ (a : Unit {0}). At text i b p fr f) (skip_comments_in text w st t u) (ok tt (pass F l c (tok ∷ ts)))
    unfolding Waits pass by
    wait_separator st u l c tok ts ih h z true true a e =
        rw (comments_is text w st t u, commented st tok (first_ahead h.ahead), fates (kind tok), z, separated st tok (first_ahead h.ahead), e, what, a)
        (rw a at (ih (advanced text st) u (place tok) c (less (less (step_at text short h)))))
    wait_separator st u l c tok ts ih h z true false a e =
        rw (comments_is text w st t u, commented st tok (first_ahead h.ahead), fates (kind tok), z, separated st tok (first_ahead h.ahead), e, a) (went h)
    wait_separator st u l c tok ts ih h z false true a e =
        rw (comments_is text w st t u, commented st tok (first_ahead h.ahead), fates (kind tok), z, e, what, a) (went h)
    wait_separator st u l c tok ts ih h z false false a e =
        rw (comments_is text w st t u, commented st tok (first_ahead h.ahead), fates (kind tok), z, e, a) (went h)

    wait_on : (st : State) (u : List ℕ) (l : LOC) (c : List Lexeme) (tok : Lexeme) (ts : List Lexeme) → Waits ts
        → At text i b p fr f st t u (pos l c (tok ∷ ts))
        → (z : Bool) → among (kind tok) comment_kinds ≡ z
        → Meant (λ (a : Unit {0}). At text i b p fr f) (skip_comments_in text w st t u) (ok tt (pass F l c (tok ∷ ts)))
    unfolding Waits pass by
    wait_on st u l c tok ts ih h true e =
        rw (comments_is text w st t u, commented st tok (first_ahead h.ahead), fates (kind tok), e)
        (ih (advanced text (waits st)) (put_waiting st u) (place tok) (c ++ tok ∷ []) (waited st u l c tok ts h h.ahead))
    wait_on st u l c tok ts ih h false e = wait_separator st u l c tok ts ih h e w (among (kind tok) separators) refl refl

    none_waits : (v : Bool) (st : State) (u : List ℕ) (l : LOC) (c : List Lexeme) → At text i b p fr f st t u (pos l c []) → AheadOf text st []
        → Meant (λ (a : Unit {0}). At text i b p fr f) (skip_comments_in text v st t u) (ok tt (pos l c []))
    none_waits true st u l c h (ended e q) =
        let y : is_comment (code_of st) ≡ false = ap is_comment e ∙ comment_test.fails in
        let z : is_separator (code_of st) ≡ false = ap is_separator e ∙ separator_test.fails in
        rw (comments_is text true st t u, y, z) (went h)
    none_waits false st u l c h (ended e q) =
        let y : is_comment (code_of st) ≡ false = ap is_comment e ∙ comment_test.fails in rw (comments_is text false st t u, y) (went h)

    all_wait : (ts : List Lexeme) → Waits ts
    unfolding Waits pass
    all_wait [] st u l c h = none_waits w st u l c h h.ahead
    all_wait (tok ∷ ts) st u l c h = wait_on st u l c tok ts (all_wait ts) h (among (kind tok) comment_kinds) refl

-- ---- the four

module _ (text : List ℕ) (short : length text ≤ 65536) {i b p : ℕ} {fr : Frame} {f : Forest} {st : State} {t u : List ℕ} where
  discards : (w : Bool) (F : Token → Fate) (ks : List Token) → Tests (λ n. passes n w) ks → ((k : Token) → F k ≡ cond (among k ks) over S.stop)
      → (s : St) → At text i b p fr f st t u s → Meant (λ (a : Unit {0}). At text i b p fr f) (skip_in text w st t u) (skip F s)
  unfolding skip_in skip
  discards w F ks x y (pos l c ts) h = went (skips text short i b p fr f t w F ks x y u c st l ts h)

  keeps : (w : Bool) (q : Fate) (F : Token → Fate) → ((k : Token) → F k ≡ cond (among k comment_kinds) wait (cond (among k separators) q S.stop))
      → q ≡ cond w over S.stop
      → (s : St) → At text i b p fr f st t u s → Meant (λ (a : Unit {0}). At text i b p fr f) (skip_comments_in text w st t u) (skip F s)
  unfolding skip Waits
  keeps w q F x y (pos l c ts) h = all_wait text short i b p fr f t w q F x y ts st u l c h

  pub separators_m : (s : St) → At text i b p fr f st t u s → Meant (λ (a : Unit {0}). At text i b p fr f) (skip_in text true st t u) (skip_separator s)
  unfolding skip_separator passes
  separators_m = discards true (fate over S.stop) separators separator_test separators_over

  pub discard_m : (s : St) → At text i b p fr f st t u s → Meant (λ (a : Unit {0}). At text i b p fr f) (skip_in text false st t u) (skip_comments_discard s)
  unfolding skip_comments_discard passes
  discard_m = discards false (fate S.stop over) comment_kinds comment_test comments_over

  pub comments_m : (s : St) → At text i b p fr f st t u s → Meant (λ (a : Unit {0}). At text i b p fr f) (skip_comments_in text false st t u) (skip_comments s)
  unfolding skip_comments
  comments_m = keeps false S.stop (fate S.stop wait) (waits_first S.stop) refl

  pub trivia_m : (s : St) → At text i b p fr f st t u s → Meant (λ (a : Unit {0}). At text i b p fr f) (skip_comments_in text true st t u) (skip_trivia s)
  unfolding skip_trivia
  trivia_m = keeps true over (fate over wait) (waits_first over) refl
