-- The bytes left fall with each token that is taken, and no reader makes them rise.
--     advance_falls       a token ahead, one token further: fewer bytes are left
--     Within              a refusal, or a state with at least x bytes fewer than b
--     Falls, Rests        of a reader: each time it answers it leaves fewer bytes; or no more
--     falls_rests, fall_rest, rest_fall, rest_rest       of one behind another
--     after_w, cond_w, cond_known, weak_w     through a call and what follows it, and a test
--     opened_w, advanced_w        behind a node that is begun, and behind the token ahead
--     passed_is, comments_is      a skip is its first token, and then a skip
use mathlib.Core.Path.{◌≡◌, refl, sym, ◌∙◌}
use mathlib.Core.Bool.{Bool, true, false, cond, false≢true}
use mathlib.Core.List.{List}
use Prim.Native.Nat.{ℕ, zero, suc, ◌+◌, ◌<◌, ◌≤◌}
use native.Mathlib.Omega.{arith}
use lib.Dec.{eqb, ltb}
use lib.ListN.{length}
use borrow.Author.Tests.{eqb-true, ltb-false}
use Rattle.lexer.specs.declared.location.Lexer.{Lexer}
use Rattle.lexer.specs.declared.location.Span.{Span}
use Rattle.lexer.specs.declared.location.ParserToken.{ParserToken}
use Rattle.lexer.specs.declared.location.Next.{Next}
use Rattle.lexer.specs.declared.location.Next.TheVariants as N
use Rattle.lexer.specs.Tokens as L
use Rattle.lexer.proofs.NextLaws.{next_inside}
use Rattle.parser.proofs.KindLaws.{code_some}
use Rattle.steps.specs.declared.state.State.{State}
use Rattle.steps.specs.Packed.{unpacked}
use Rattle.steps.specs.Into.{code_of, Out, done, stop, M, after, ◌⨟◌, numbered, token_of, loc_or, opened, leaf_in, node_in, lexer_at, look_at, found, found_at, ahead_of, advanced, refused, take_in, expect_in, bytes_left, is_separator, is_comment, passes, skip_from, passed, skip_in, waits, put_waiting, skip_comments_from, skip_comments_in, own_in, owns, Within, within, stopped, Falls, Rests}
use Rattle.steps.proofs.PackLaws.{index_back}

-- ---- one token further

end_or : (b : Bool) (r : Next) (p : ParserToken) (e : Lexer) → cond b N.End r ≡ N.On p e → (b ≡ false) × (r ≡ N.On p e)
end_or true r p e h = let z : ◌≡◌ {A = ℕ} 0 1 = cc in absurd (omega arith)
end_or false r p e h = (refl, h)

module _ (text : List ℕ) where
  looked : (x : Span) (e : Lexer) (p : ParserToken) → look_at text x ≡ N.On p e → (length text ≤ 65536) × (L.next text (lexer_at x) ≡ N.On p e)
  unfolding look_at
  looked x e p h =
      let a = end_or (ltb 65536 (length text)) _ p e h in
      let b = end_or (ltb 65536 (lexer_at x).at) _ p e a.1 in
      (ltb-false 65536 (length text) a.0, (end_or (ltb (lexer_at x).at (lexer_at x).line) _ p e b.1).1)

  fewer : (st : State) → eqb (code_of st) 255 ≡ false → (r : Next) → look_at text (unpacked st.loc.end) ≡ r
      → bytes_left text (ahead_of (found r) st) < bytes_left text st
  unfolding ahead_of found bytes_left lexer_at numbered token_of loc_or
  fewer st h (N.On p s) e =
      let l = looked (unpacked st.loc.end) s p e in
      let i = next_inside text (lexer_at (unpacked st.loc.end)) s p l.1 in
      let z = index_back p.loc.end (omega (arith, i.2, i.3, l.0)) in
      rw (h, code_some p.token) (omega arith)
  fewer st h N.End e = rw h (omega arith)
  fewer st h (N.Unrecognized p) e = rw h (omega arith)

  pub advance_falls : (st : State) → eqb (code_of st) 255 ≡ false → bytes_left text (advanced text st) < bytes_left text st
  unfolding advanced found_at
  advance_falls st h = fewer st h (look_at text (unpacked st.loc.end)) refl

  -- a comment that waits is still ahead
  pub wait_falls : (st : State) → eqb (code_of st) 255 ≡ false → bytes_left text (advanced text (waits st)) < bytes_left text st
  unfolding waits bytes_left
  wait_falls st h = advance_falls (waits st) h

-- ---- readers

module _ {text : List ℕ} where
  pub weak_w : {x y a b : ℕ} {o : Out} → ((n : ℕ) → x + n ≤ a → y + n ≤ b) → Within text x a o → Within text y b o
  weak_w f (within {st = st} h) = within (f (bytes_left text st) h)
  weak_w f stopped = stopped

  pub after_w : {x y a b : ℕ} {o : Out} {k : M} → Within text x a o → ((st : State) (t u : List ℕ) → x + bytes_left text st ≤ a → Within text y b (k st t u))
      → Within text y b (after o k)
  unfolding after
  after_w (within {st = st} {t = t} {u = u} h) f = f st t u h
  after_w stopped f = stopped

  pub cond_w : {x a : ℕ} {o v : Out} (b : Bool) → Within text x a o → Within text x a v → Within text x a (cond b o v)
  cond_w true f g = f
  cond_w false f g = g

  -- by a test whose outcome the branches may use
  pub cond_known : {x a : ℕ} {o v : Out} (b : Bool) → (b ≡ true → Within text x a o) → (b ≡ false → Within text x a v) → Within text x a (cond b o v)
  cond_known true f g = f refl
  cond_known false f g = g refl

  -- two that go on alike from where a reader leaves them
  pub after_same : {x a : ℕ} {o : Out} {k j : M} → Within text x a o → ((st : State) (t u : List ℕ) → x + bytes_left text st ≤ a → k st t u ≡ j st t u)
      → after o k ≡ after o j
  unfolding after
  after_same (within {st = st} {t = t} {u = u} h) f = f st t u h
  after_same stopped f = refl

  -- ---- one reader behind another

  pub falls_rests : {m : M} → Falls text m → Rests text m
  falls_rests f st t u = weak_w (λ n h. omega arith) (f st t u)

  pub fall_rest : {m k : M} → Falls text m → Rests text k → Falls text (m ⨟ k)
  fall_rest f g st t u = after_w (f st t u) λ st₁ t₁ u₁ h. weak_w (λ n i. omega arith) (g st₁ t₁ u₁)

  pub rest_fall : {m k : M} → Rests text m → Falls text k → Falls text (m ⨟ k)
  rest_fall f g st t u = after_w (f st t u) λ st₁ t₁ u₁ h. weak_w (λ n i. omega arith) (g st₁ t₁ u₁)

  pub rest_rest : {m k : M} → Rests text m → Rests text k → Rests text (m ⨟ k)
  rest_rest f g st t u = after_w (f st t u) λ st₁ t₁ u₁ h. weak_w (λ n i. omega arith) (g st₁ t₁ u₁)

  -- ---- by the call

  pub within_left : {x b : ℕ} {o : Out} {st : State} {t u : List ℕ} → Within text x b o → done st t u ≡ o → x + bytes_left text st ≤ b
  within_left {st = st} (within {st = st₁} h) e = let a : st ≡ st₁ = cc in rw a h
  within_left stopped e = let z : ◌≡◌ {A = ℕ} 0 1 = cc in absurd (omega arith)

-- ---- the steps

refused_is : (e : ℕ) (st : State) (t u : List ℕ) → refused e st t u ≡ cond (eqb (code_of st) 255) (stop 3 st.last st t u) (stop e st.loc st t u)
unfolding refused
refused_is e st t u = refl

pub refused_w : {text : List ℕ} {x b : ℕ} (e : ℕ) (st : State) (t u : List ℕ) → Within text x b (refused e st t u)
refused_w e st t u = rw (refused_is e st t u) (cond_w (eqb (code_of st) 255) stopped stopped)

-- a test of the kind ahead that fails where none is
pub some_by : (g : ℕ → Bool) → g 255 ≡ false → (k : ℕ) → g k ≡ true → eqb k 255 ≡ false
some_by g f k h = go (eqb k 255) refl
  where
    go : (b : Bool) → eqb k 255 ≡ b → eqb k 255 ≡ false
    go true e = let a = eqb-true k 255 e in absurd (false≢true (sym f ∙ rw a at h))
    go false e = e

module _ (text : List ℕ) where
  pub stays_w : (st : State) (t u : List ℕ) → Within text 0 (bytes_left text st) (done st t u)
  stays_w st t u = within {st = st} (omega arith)

  -- the token ahead is taken first
  pub advanced_w : {x : ℕ} {o : Out} (st : State) → eqb (code_of st) 255 ≡ false → Within text x (bytes_left text (advanced text st)) o
      → Within text (suc x) (bytes_left text st) o
  advanced_w st e h = let l = advance_falls text st e in weak_w (λ n i. omega arith) h

  by_none : {X : Type 0} (st : State) → (eqb (code_of st) 255 ≡ true → X) → (eqb (code_of st) 255 ≡ false → X) → X
  by_none {X} st f g = go (eqb (code_of st) 255) refl
    where
      go : (b : Bool) → eqb (code_of st) 255 ≡ b → X
      go true e = f e
      go false e = g e

  pub take_falls : Falls text (take_in text)
  unfolding take_in
  take_falls st t u = by_none st (λ e. rw e (refused_w 3 st _ _)) (λ e. rw e (within {st = advanced text st} (omega (arith, advance_falls text st e))))

  pub expect_falls : (k e : ℕ) → Falls text (expect_in text k e)
  unfolding expect_in
  expect_falls k e st t u = cond_w (eqb (code_of st) k) (take_falls st t u) (refused_w e st _ _)

  pub leaf_rests : (k b p : ℕ) → Rests text (leaf_in k b p)
  unfolding leaf_in opened bytes_left
  leaf_rests k b p st t u = within {st = opened st} (omega arith)

  pub node_rests : (n k f s b p : ℕ) → Rests text (node_in n k f s b p)
  unfolding node_in
  node_rests n k f s b p st t u = within {st = st} (omega arith)

  pub own_rests : (p : ℕ) → Rests text (own_in p)
  unfolding own_in owns bytes_left
  own_rests p st t u = within {st = owns st} (omega arith)

  -- a node is begun first
  pub opened_left : (st : State) → bytes_left text (opened st) ≡ bytes_left text st
  unfolding opened bytes_left
  opened_left st = refl

  pub opened_w : {x : ℕ} {o : Out} (st : State) → Within text x (bytes_left text (opened st)) o → Within text x (bytes_left text st) o
  opened_w st h = rw opened_left at h

-- ---- separators and comments

pub passes_some : (k : ℕ) (s : Bool) → passes k s ≡ true → eqb k 255 ≡ false
unfolding passes is_separator is_comment
passes_some k true h = some_by (λ n. passes n true) refl k h
passes_some k false h = some_by (λ n. passes n false) refl k h

pub comment_some : (k : ℕ) → is_comment k ≡ true → eqb k 255 ≡ false
unfolding passes
comment_some k h = passes_some k false h

pub separator_some : (k : ℕ) → is_separator k ≡ true → eqb k 255 ≡ false
unfolding passes
separator_some k h = passes_some k true h

cond_same : {A : Type 0} (b : Bool) {x y v w : A} → (b ≡ true → x ≡ y) → (b ≡ false → v ≡ w) → cond b x v ≡ cond b y w
cond_same true f g = f refl
cond_same false f g = g refl

module _ (text : List ℕ) (s : Bool) where
  skip_fuel : (n m : ℕ) (st : State) → bytes_left text st < n → bytes_left text st < m → skip_from text s n st ≡ skip_from text s m st
  unfolding skip_from
  skip_fuel zero m st f g = absurd (omega arith)
  skip_fuel (suc n) zero st f g = absurd (omega arith)
  skip_fuel (suc n) (suc m) st f g =
      cond_same (passes (code_of st) s)
      (λ e. let l = advance_falls text st (passes_some (code_of st) s e) in skip_fuel n m (advanced text st) (omega arith) (omega arith)) (λ e. refl)

  -- a skip is its first token, and then a skip
  pub passed_is : (st : State) → passed text s st ≡ cond (passes (code_of st) s) (passed text s (advanced text st)) st
  unfolding passed skip_from
  passed_is st =
      cond_same (passes (code_of st) s)
      (λ e. let l = advance_falls text st (passes_some (code_of st) s e) in
      skip_fuel (bytes_left text st) (suc (bytes_left text (advanced text st))) (advanced text st) (omega arith) (omega arith)) (λ e. refl)

  skip_left : (n : ℕ) (st : State) → bytes_left text (skip_from text s n st) ≤ bytes_left text st
  unfolding skip_from
  skip_left zero st = omega arith
  skip_left (suc n) st = go (passes (code_of st) s) refl (skip_left n (advanced text st))
    where
      go : (b : Bool) → passes (code_of st) s ≡ b → bytes_left text (skip_from text s n (advanced text st)) ≤ bytes_left text (advanced text st)
          → bytes_left text (cond b (skip_from text s n (advanced text st)) st) ≤ bytes_left text st
      go true e h = let l = advance_falls text st (passes_some (code_of st) s e) in omega arith
      go false e h = omega arith

  pub skip_rests : Rests text (skip_in text s)
  unfolding skip_in passed
  skip_rests st t u = within {st = skip_from text s (suc (bytes_left text st)) st} (omega (arith, skip_left (suc (bytes_left text st)) st))

  comments_fuel : (n m : ℕ) (st : State) (t u : List ℕ) → bytes_left text st < n → bytes_left text st < m
      → skip_comments_from text s n st t u ≡ skip_comments_from text s m st t u
  unfolding skip_comments_from
  comments_fuel zero m st t u f g = absurd (omega arith)
  comments_fuel (suc n) zero st t u f g = absurd (omega arith)
  comments_fuel (suc n) (suc m) st t u f g =
      cond_same (is_comment (code_of st))
      (λ e. let l = wait_falls text st (comment_some (code_of st) e) in comments_fuel n m (advanced text (waits st)) t (put_waiting st u) (omega arith) (omega arith))
      (λ e. cond_same s (λ i. cond_same (is_separator (code_of st))
      (λ e. let l = advance_falls text st (separator_some (code_of st) e) in comments_fuel n m (advanced text st) t u (omega arith) (omega arith)) (λ e. refl)) (λ i. refl))

  pub comments_is : (st : State) (t u : List ℕ) → skip_comments_in text s st t u
      ≡ cond (is_comment (code_of st)) (skip_comments_in text s (advanced text (waits st)) t (put_waiting st u))
      (cond s (cond (is_separator (code_of st)) (skip_comments_in text s (advanced text st) t u) (done st t u)) (done st t u))
  unfolding skip_comments_in skip_comments_from
  comments_is st t u =
      cond_same (is_comment (code_of st))
      (λ e. let l = wait_falls text st (comment_some (code_of st) e) in
      comments_fuel (bytes_left text st) (suc (bytes_left text (advanced text (waits st)))) (advanced text (waits st)) t (put_waiting st u) (omega arith) (omega arith))
      (λ e. cond_same s (λ i. cond_same (is_separator (code_of st))
      (λ e. let l = advance_falls text st (separator_some (code_of st) e) in
      comments_fuel (bytes_left text st) (suc (bytes_left text (advanced text st))) (advanced text st) t u (omega arith) (omega arith)) (λ e. refl)) (λ i. refl))

  comments_left_law : (n : ℕ) → Rests text (skip_comments_from text s n)
  unfolding skip_comments_from
  comments_left_law zero st t u = within {st = st} (omega arith)
  comments_left_law (suc n) st t u =
      cond_known (is_comment (code_of st))
      (λ e. let l = wait_falls text st (comment_some (code_of st) e) in weak_w (λ n h. omega arith) (comments_left_law n (advanced text (waits st)) t (put_waiting st u)))
      (λ e. cond_w s (cond_known (is_separator (code_of st))
      (λ e. let l = advance_falls text st (separator_some (code_of st) e) in weak_w (λ n h. omega arith) (comments_left_law n (advanced text st) t u))
      (λ e. within {st = st} (omega arith))) (within {st = st} (omega arith)))

  pub comments_rests : Rests text (skip_comments_in text s)
  unfolding skip_comments_in
  comments_rests st t u = comments_left_law (suc (bytes_left text st)) st t u
