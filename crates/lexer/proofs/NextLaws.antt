-- The next token: where it stands and where the lexer stands behind it, and the list of the tokens, one step at a time, with no fuel in sight of whoever uses these.
--     next_placed   the lexer behind a token may stand in the text
--     next_inside   a token is not empty and lies inside the text
--     tokens_on     the tokens are the next one and those behind it
--     tokens_end, tokens_unrecognized   where there is no next token there are none
--     unrecognized_on   the offset where no token starts is the same from behind a token on
use mathlib.Core.Path.{◌≡◌, refl, sym, ap, ◌∙◌}
use mathlib.Core.Bool.{Bool, true, false, cond}
use mathlib.Core.List.{List, [], ◌∷◌}
use Rattle.std.specs.Prelude.{Option, Some, None}
use Prim.Native.Nat.{ℕ, zero, suc, ◌+◌, ◌-◌, ◌<◌, ◌≤◌}
use native.Mathlib.Omega.{arith}
use borrow.Author.Tests.{ltb-true, ltb-false}
use lib.Dec.{ltb}
use lib.ListN.{length, take, drop, length-drop}
use lib.Seq.{drop-drop, length-take-le}
use Rattle.token.specs.Scan.{scan}
use Rattle.token.specs.declared.Token.{Token}
use Rattle.token.specs.Scanned.{Scan}
use Rattle.lexer.specs.declared.location.Lexer.{Lexer}
use Rattle.lexer.specs.declared.location.ParserToken.{ParserToken}
use Rattle.lexer.specs.declared.location.Next.{Next}
use Rattle.lexer.specs.declared.location.Next.TheVariants as N
use Rattle.lexer.specs.Cuts.{Cuts, end, stuck, cut, cuts, unrecognized}
use Rattle.lexer.specs.Location.{Placed, pass, between, span_of}
use Rattle.lexer.specs.Tokens.{Lexeme, lexeme, skipped, lexemes, tokens, next_of, next, lexeme_of}
use Rattle.lexer.proofs.CutLaws.{hit_fits, cuts_hit, unrecognized_hit, pass_at, next_end, next_miss, next_hit}
use Rattle.lexer.proofs.PlaceLaws.{pass_placed}

-- ---- one lexeme

-- the lexer behind the n bytes at s
unfoldable pub behind : List ℕ → Lexer → Token → ℕ → Lexer
behind t s k n = pass (take n (drop s.at t)) k (drop n (drop s.at t)) s

-- a lexeme of the kind k and of n bytes stands at s
Stands : List ℕ → Lexer → Token → ℕ → Type 0
Stands t s k n = scan (drop s.at t) ≡ Some (k, n)

module _ (t : List ℕ) (s : Lexer) (k : Token) (n : ℕ) (h : Stands t s k n) where
  taken : length (take n (drop s.at t)) ≡ n
  unfolding Stands
  taken = length-take-le n (drop s.at t) (hit_fits (drop s.at t) k n h).1

  moved : (behind t s k n).at ≡ s.at + n
  unfolding behind
  moved = pass_at (take n (drop s.at t)) k (drop n (drop s.at t)) s ∙ omega (arith, taken)

  fits : (0 < n) × (s.at + n ≤ length t)
  unfolding Stands
  fits =
      let f = hit_fits (drop s.at t) k n h in
      (f.0, omega (arith, f.0, f.1, length-drop s.at t))

  placed : Placed s → length t ≤ 65536 → Placed (behind t s k n)
  unfolding behind
  placed p l = pass_placed (take n (drop s.at t)) k (drop n (drop s.at t)) s p (omega (arith, taken, fits.1))

-- ---- what holds of a token and is kept by the blanks before it holds of the next token

module _ (t : List ℕ) (P : Lexer → ParserToken → Lexer → Type 0)
    (here : (s : Lexer) (k : Token) (n : ℕ) → Stands t s k n → skipped k ≡ false → P s (record { token = k; loc = between s (behind t s k n) }) (behind t s k n))
    (past : (s e : Lexer) (p : ParserToken) (k : Token) (n : ℕ) → Stands t s k n → skipped k ≡ true → P (behind t s k n) p e → P s p e)
  where
    -- of each lexer further on
    Later : Lexer → Lexer → ParserToken → Type 0
    Later s e p = (q : Lexer) → s.at < q.at → q.at ≤ length t → next t q ≡ N.On p e → P q p e

    at_hit : (s e : Lexer) (p : ParserToken) (k : Token) (n : ℕ) → Stands t s k n → next t s ≡ N.On p e → Later s e p → (b : Bool) → skipped k ≡ b → P s p e
    unfolding Later Stands behind
    at_hit s e p k n h g l true b =
        let q = behind t s k n in
        let f : next t s ≡ next t q = rw b at (next_hit t s k n h q refl) in
        past s e p k n h b (l q (omega (arith, moved t s k n h, (fits t s k n h).0)) (omega (arith, moved t s k n h, (fits t s k n h).1)) (sym f ∙ g))
    at_hit s e p k n h g l false b =
        let q = behind t s k n in
        let o : ParserToken = record { token = k; loc = between s q } in
        let f : next t s ≡ N.On o q = rw b at (next_hit t s k n h q refl) in
        let u : o ≡ p = cc in
        let v : q ≡ e = cc in
        rw (← u, ← v) (here s k n h b)

    at_miss : (s e : Lexer) (p : ParserToken) → scan (drop s.at t) ≡ None → next t s ≡ N.On p e → (b : Bool) → ltb s.at (length t) ≡ b → P s p e
    at_miss s e p h g true b =
        let f = next_miss t s (ltb-true s.at (length t) b) h in
        let z : ◌≡◌ {A = ℕ} 0 1 = cc in
        absurd (omega arith)
    at_miss s e p h g false b =
        let f = next_end t s (ltb-false s.at (length t) b) in
        let z : ◌≡◌ {A = ℕ} 0 1 = cc in
        absurd (omega arith)

    at_scan : (s e : Lexer) (p : ParserToken) (r : Scan) → scan (drop s.at t) ≡ r → next t s ≡ N.On p e → Later s e p → P s p e
    unfolding Stands
    at_scan s e p None h g l = at_miss s e p h g (ltb s.at (length t)) refl
    at_scan s e p (Some (k, n)) h g l = at_hit s e p k n h g l (skipped k) refl

    go : (m : ℕ) (s e : Lexer) (p : ParserToken) → length t - s.at ≤ m → next t s ≡ N.On p e → P s p e
    unfolding Later
    go zero s e p h g =
        let f = next_end t s (omega arith) in
        let z : ◌≡◌ {A = ℕ} 0 1 = cc in
        absurd (omega arith)
    go (suc m) s e p h g = at_scan s e p (scan (drop s.at t)) refl g (λ q a b f. go m q e p (omega arith) f)

    on_induct : (s e : Lexer) (p : ParserToken) → next t s ≡ N.On p e → P s p e
    on_induct s e p g = go (length t - s.at) s e p (omega arith) g

-- ---- where it stands

pub next_placed : (t : List ℕ) (s e : Lexer) (p : ParserToken) → Placed s → length t ≤ 65536 → next t s ≡ N.On p e → Placed e
next_placed t s e p h l g =
    on_induct t (λ s p e. Placed s → length t ≤ 65536 → Placed e)
    (λ s k n f _ h l. placed t s k n f h l)
    (λ s e p k n f _ go h l. go (placed t s k n f h l) l)
    s e p g h l

pub next_inside : (t : List ℕ) (s e : Lexer) (p : ParserToken) → next t s ≡ N.On p e
    → (s.at ≤ p.loc.start.index) × (p.loc.start.index < p.loc.end.index) × (p.loc.end.index ≡ e.at) × (e.at ≤ length t)
unfolding between span_of
next_inside t s e p g =
    on_induct t
    (λ s p e. (s.at ≤ p.loc.start.index) × (p.loc.start.index < p.loc.end.index) × (p.loc.end.index ≡ e.at) × (e.at ≤ length t))
    (λ s k n f _. let m = moved t s k n f in let h = fits t s k n f in (omega arith, omega (arith, m, h.0), refl, omega (arith, m, h.1)))
    (λ s e p k n f _ r. (omega (arith, moved t s k n f, r.0), r.1, r.2, r.3))
    s e p g

-- a token ends where the lexer behind it stands
pub next_ends : (t : List ℕ) (s e : Lexer) (p : ParserToken) → next t s ≡ N.On p e → p.loc.end ≡ span_of e
unfolding between
next_ends t s e p g = on_induct t (λ s p e. p.loc.end ≡ span_of e) (λ s k n f _. refl) (λ s e p k n f _ r. r) s e p g

-- ---- where no token starts

abbrev pub Stuck : List ℕ → Lexer → Option ℕ
Stuck t s = unrecognized (cuts (drop s.at t)) s.at

stuck_hit : (t : List ℕ) (s : Lexer) (k : Token) (n : ℕ) → Stands t s k n → Stuck t s ≡ Stuck t (behind t s k n)
unfolding Stands
stuck_hit t s k n f = unrecognized_hit t s.at k n f ∙ rw (moved t s k n f)

pub unrecognized_on : (t : List ℕ) (s e : Lexer) (p : ParserToken) → next t s ≡ N.On p e → Stuck t s ≡ Stuck t e
unrecognized_on t s e p g =
    on_induct t (λ s p e. Stuck t s ≡ Stuck t e) (λ s k n f b. stuck_hit t s k n f) (λ s e p k n f b r. stuck_hit t s k n f ∙ r) s e p g

-- ---- the list of the tokens

tokens_hit : (t : List ℕ) (s : Lexer) (k : Token) (n : ℕ) → Stands t s k n → (e : Lexer) → e ≡ behind t s k n
    → tokens t s ≡ cond (skipped k) (tokens t e) (lexeme k (take n (drop s.at t)) (between s e) ∷ tokens t e)
unfolding tokens lexemes Stands behind
tokens_hit t s k n f e g =
    let m : s.at + n ≡ e.at = sym (ap (λ (x : Lexer). x.at) g ∙ moved t s k n f) in
    ap (λ (c : Cuts). lexemes c s) (cuts_hit (drop s.at t) k n f) ∙ rw (← g, drop-drop n s.at t, m)

pub tokens_on : (t : List ℕ) (s e : Lexer) (p : ParserToken) → next t s ≡ N.On p e → tokens t s ≡ lexeme_of t p ∷ tokens t e
unfolding lexeme_of between span_of
tokens_on t s e p g =
    on_induct t (λ s p e. tokens t s ≡ lexeme_of t p ∷ tokens t e)
    (λ s k n f b.
    let m : (behind t s k n).at - s.at ≡ n = omega (arith, moved t s k n f) in
    rw m (rw b at (tokens_hit t s k n f (behind t s k n) refl)))
    (λ s e p k n f b r. rw b at (tokens_hit t s k n f (behind t s k n) refl) ∙ r)
    s e p g

-- no token is next
NotOn : Next → Type 0
NotOn r = (p : ParserToken) (e : Lexer) → r ≡ N.On p e → ⊥

picked : (b : Bool) (r : Next) (p : ParserToken) (e : Lexer) (l m : List Lexeme) → (NotOn r → l ≡ []) → NotOn (cond b r (N.On p e)) → cond b l m ≡ []
unfolding NotOn
picked true r p e l m f h = f h
picked false r p e l m f h = absurd (h p e refl)

none_left : (c : Cuts) (s : Lexer) → NotOn (next_of c s) → lexemes c s ≡ []
unfolding next_of lexemes
none_left end s h = refl
none_left stuck s h = refl
none_left (cut k w r c) s h = picked (skipped k) _ _ _ _ _ (none_left c (pass w k r s)) h

pub tokens_end : (t : List ℕ) (s : Lexer) → next t s ≡ N.End → tokens t s ≡ []
unfolding tokens next NotOn
tokens_end t s g = none_left (cuts (drop s.at t)) s (λ p e f. let z : ◌≡◌ {A = ℕ} 0 1 = cc in omega arith)

pub tokens_unrecognized : (t : List ℕ) (s : Lexer) (q : ℕ) → next t s ≡ N.Unrecognized q → tokens t s ≡ []
unfolding tokens next NotOn
tokens_unrecognized t s q g = none_left (cuts (drop s.at t)) s (λ p e f. let z : ◌≡◌ {A = ℕ} 0 1 = cc in omega arith)
