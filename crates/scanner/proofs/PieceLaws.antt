-- The first token of a text from an offset on, one scan at a time, and what it has to do with the lexer's own next token.
--     piece_end, piece_miss, piece_hit   it by what a scan at the offset answers
--     piece_next      it is the lexer's next token, whatever the lexer's line and the start of its line
--     piece_inside    a token is not empty and lies inside the text, from the offset on: so each call moves on
--     piece_empty     where there is no token the piece is empty
--     piece_again     read again from where it starts, it is the same: so at the end, and where no token starts, a reader stays
use mathlib.Core.Path.{◌≡◌, refl, sym, ap, ◌∙◌, subst}
use mathlib.Core.Bool.{Bool, true, false, cond}
use mathlib.Core.List.{List}
use Prim.Native.Nat.{ℕ, zero, suc, ◌+◌, ◌-◌, ◌<◌, ◌≤◌}
use native.Mathlib.Omega.{arith}
use borrow.Author.Tests.{ltb-true, ltb-false}
use lib.Dec.{ltb}
use lib.ListN.{length, take, drop, length-drop, drop_of_length-le}
use lib.Seq.{drop-drop, length-take-le}
use Rattle.token.specs.Scan.{scan}
use Rattle.token.specs.declared.Token.{Token}
use Rattle.token.specs.Scanned.{Scan}
use Rattle.std.specs.Prelude.{Some, None}
use Rattle.lexer.proofs.NextLaws.{behind}
use Rattle.lexer.specs.declared.location.Lexer.{Lexer}
use Rattle.lexer.specs.declared.location.Next.{Next}
use Rattle.lexer.specs.declared.location.Next.TheVariants as N
use Rattle.lexer.specs.Cuts.{Cuts}
use Rattle.lexer.specs.Location.{between, span_of}
use Rattle.lexer.specs.Tokens.{skipped, next}
use Rattle.lexer.proofs.CutLaws.{hit_fits, cuts_nil, cuts_miss, cuts_hit, pass_at, next_end, next_miss, next_hit}
use Rattle.scanner.specs.Piece.{piece_of, piece_at, piece_of_next}
use Rattle.scanner.specs.declared.Piece.{Piece}
use Rattle.scanner.specs.declared.What.TheVariants as W

-- ---- by a scan

module _ (t : List ℕ) (at : ℕ) where
  pub piece_end : length t ≤ at → piece_at t at ≡ record { what = W.End; start = at; end = at }
  unfolding piece_at piece_of
  piece_end h = rw (drop_of_length-le t h, cuts_nil)

  pub piece_miss : at < length t → scan (drop at t) ≡ None → piece_at t at ≡ record { what = W.Unrecognized; start = at; end = at }
  unfolding piece_at piece_of
  piece_miss h e = rw (cuts_miss (drop at t) (omega (arith, length-drop at t)) e)

  pub piece_hit : (k : Token) (n : ℕ) → scan (drop at t) ≡ Some (k, n)
      → piece_at t at ≡ cond (skipped k) (piece_at t (at + n)) (record { what = W.Token k; start = at; end = at + n })
  unfolding piece_at piece_of
  piece_hit k n e =
      ap (λ (c : Cuts). piece_of c at) (cuts_hit (drop at t) k n e)
      ∙ rw (length-take-le n (drop at t) (hit_fits (drop at t) k n e).1, drop-drop n at t)

  -- a lexeme is not empty and lies inside the text
  fits : (k : Token) (n : ℕ) → scan (drop at t) ≡ Some (k, n) → (0 < n) × (at + n ≤ length t)
  fits k n e =
      let f = hit_fits (drop at t) k n e in
      (f.0, omega (arith, f.0, f.1, length-drop at t))

-- ---- what holds where it stands, and is kept by what is passed over before it, holds of it from every offset

module _ (t : List ℕ) (P : ℕ → Piece → Type 0)
    (at_end : (at : ℕ) → length t ≤ at → P at (record { what = W.End; start = at; end = at }))
    (at_miss : (at : ℕ) → at < length t → scan (drop at t) ≡ None → P at (record { what = W.Unrecognized; start = at; end = at }))
    (at-token : (at : ℕ) (k : Token) (n : ℕ) → scan (drop at t) ≡ Some (k, n) → skipped k ≡ false → P at (record { what = W.Token k; start = at; end = at + n }))
    (past : (at : ℕ) (k : Token) (n : ℕ) → scan (drop at t) ≡ Some (k, n) → skipped k ≡ true → P (at + n) (piece_at t (at + n)) → P at (piece_at t at))
  where
    -- at each offset further on
    Later : ℕ → Type 0
    Later at = (b : ℕ) → at < b → b ≤ length t → P b (piece_at t b)

    by_kind : (at : ℕ) (k : Token) (n : ℕ) → scan (drop at t) ≡ Some (k, n) → Later at → (b : Bool) → skipped k ≡ b → P at (piece_at t at)
    unfolding Later
    by_kind at k n e l true b = past at k n e b (let f = fits t at k n e in l (at + n) (omega (arith, f.0)) f.1)
    by_kind at k n e l false b = subst (P at) (sym (rw b at (piece_hit t at k n e))) (at-token at k n e b)

    by_scan : (at : ℕ) → at < length t → (r : Scan) → scan (drop at t) ≡ r → Later at → P at (piece_at t at)
    by_scan at h None e l = subst (P at) (sym (piece_miss t at h e)) (at_miss at h e)
    by_scan at h (Some (k, n)) e l = by_kind at k n e l (skipped k) refl

    by_length : (at : ℕ) (b : Bool) → ltb at (length t) ≡ b → Later at → P at (piece_at t at)
    by_length at true e l = by_scan at (ltb-true at (length t) e) (scan (drop at t)) refl l
    by_length at false e l = let h = ltb-false at (length t) e in subst (P at) (sym (piece_end t at h)) (at_end at h)

    go : (m at : ℕ) → length t - at ≤ m → P at (piece_at t at)
    unfolding Later
    go zero at h = let g : length t ≤ at = omega arith in subst (P at) (sym (piece_end t at g)) (at_end at g)
    go (suc m) at h = by_length at (ltb at (length t)) refl (λ b f g. go m b (omega arith))

    piece_induct : (at : ℕ) → P at (piece_at t at)
    piece_induct at = go (length t - at) at (omega arith)

-- ---- where it stands

pub piece_inside : (t : List ℕ) (at : ℕ) (k : Token) → (piece_at t at).what ≡ W.Token k → (at ≤ (piece_at t at).start) × ((piece_at t at).start < (piece_at t at).end) × ((piece_at t at).end ≤ length t)
piece_inside t at k =
    piece_induct t (λ at f. f.what ≡ W.Token k → (at ≤ f.start) × (f.start < f.end) × (f.end ≤ length t))
    (λ at _ e. let z : ◌≡◌ {A = ℕ} 0 1 = cc in absurd (omega arith))
    (λ at _ _ e. let z : ◌≡◌ {A = ℕ} 0 1 = cc in absurd (omega arith))
    (λ at k n e _ _. let f = fits t at k n e in (omega arith, omega (arith, f.0), f.1))
    (λ at k n e b r h.
    let g : piece_at t at ≡ piece_at t (at + n) = rw b at (piece_hit t at k n e) in
    let f = r (sym (ap (λ (p : Piece). p.what) g) ∙ h) in
    rw g (omega (arith, f.0), f.1, f.2))
    at

pub piece_empty : (t : List ℕ) (at : ℕ) → ((k : Token) → (piece_at t at).what ≡ W.Token k → ⊥) → (piece_at t at).start ≡ (piece_at t at).end
piece_empty t at =
    piece_induct t (λ at f. ((k : Token) → f.what ≡ W.Token k → ⊥) → f.start ≡ f.end)
    (λ at _ _. refl)
    (λ at _ _ _. refl)
    (λ at k n _ _ h. absurd (h k refl))
    (λ at k n e b r h.
    let g : piece_at t at ≡ piece_at t (at + n) = rw b at (piece_hit t at k n e) in
    rw g (r (rw g at h)))
    at

pub piece_again : (t : List ℕ) (at : ℕ) → piece_at t (piece_at t at).start ≡ piece_at t at
piece_again t at =
    piece_induct t (λ at f. piece_at t f.start ≡ f)
    (λ at h. piece_end t at h)
    (λ at h e. piece_miss t at h e)
    (λ at k n e b. rw b at (piece_hit t at k n e))
    (λ at k n e b r. let g : piece_at t at ≡ piece_at t (at + n) = rw b at (piece_hit t at k n e) in rw g r)
    at

-- ---- the lexer's next token

-- the lexer behind n bytes
moved : (t : List ℕ) (s : Lexer) (k : Token) (n : ℕ) → scan (drop s.at t) ≡ Some (k, n) → (behind t s k n).at ≡ s.at + n
unfolding behind
moved t s k n e = pass_at (take n (drop s.at t)) k (drop n (drop s.at t)) s ∙ omega (arith, length-take-le n (drop s.at t) (hit_fits (drop s.at t) k n e).1)

-- the piece f at an offset is the lexer's next token, for each lexer there
Is-next : List ℕ → ℕ → Piece → Type 0
Is-next t at f = (s : Lexer) → s.at ≡ at → f ≡ piece_of_next (next t s) (at + length (drop at t))

next_at_end : (t : List ℕ) (at : ℕ) → length t ≤ at → Is-next t at (record { what = W.End; start = at; end = at })
unfolding Is-next piece_of_next
next_at_end t at h s e =
    let n : at + length (drop at t) ≡ at = omega (arith, length-drop at t) in
    rw (next_end t s (omega (arith, e)), n)

next_at_miss : (t : List ℕ) (at : ℕ) → at < length t → scan (drop at t) ≡ None → Is-next t at (record { what = W.Unrecognized; start = at; end = at })
unfolding Is-next piece_of_next
next_at_miss t at h m s e = rw (next_miss t s (omega (arith, e)) (rw e m), e)

next_at_token : (t : List ℕ) (at : ℕ) (k : Token) (n : ℕ) → scan (drop at t) ≡ Some (k, n) → skipped k ≡ false → Is-next t at (record { what = W.Token k; start = at; end = at + n })
unfolding Is-next piece_of_next between span_of behind
next_at_token t at k n h b s e =
    let g : scan (drop s.at t) ≡ Some (k, n) = rw e h in
    let q = behind t s k n in
    let f : next t s ≡ N.On (record { token = k; loc = between s q }) q = rw b at (next_hit t s k n g q refl) in
    rw (f, moved t s k n g, e)

next_past : (t : List ℕ) (at : ℕ) (k : Token) (n : ℕ) → scan (drop at t) ≡ Some (k, n) → skipped k ≡ true → Is-next t (at + n) (piece_at t (at + n)) → Is-next t at (piece_at t at)
unfolding Is-next behind
next_past t at k n h b r s e =
    let g : scan (drop s.at t) ≡ Some (k, n) = rw e h in
    let q = behind t s k n in
    let f : next t s ≡ next t q = rw b at (next_hit t s k n g q refl) in
    let m : at + n + length (drop (at + n) t) ≡ at + length (drop at t) = omega (arith, length-drop at t, length-drop (at + n) t, (fits t at k n h).1) in
    let p : piece_at t at ≡ piece_at t (at + n) = rw b at (piece_hit t at k n h) in
    p ∙ rw m at (r q (moved t s k n g ∙ ap (λ (x : ℕ). x + n) e)) ∙ ap (λ (y : Next). piece_of_next y (at + length (drop at t))) (sym f)

pub piece_next : (t : List ℕ) (s : Lexer) → piece_at t s.at ≡ piece_of_next (next t s) (s.at + length (drop s.at t))
unfolding Is-next
piece_next t s = piece_induct t (Is-next t) (next_at_end t) (next_at_miss t) (next_at_token t) (next_past t) s.at s refl
