-- A text cut into lexemes, one step at a time: no length and no fuel is in sight of whoever uses these.
--     hit_fits      a token is never empty and lies inside the text
--     cuts_hit      the first cut, and the cuts of what is behind it
--     next_hit      the next token, blanks passed
use mathlib.Core.Path.{◌≡◌, refl, sym, ap, ◌∙◌, subst}
use mathlib.Core.Bool.{Bool, cond}
use mathlib.Core.List.{List, [], ◌∷◌, ◌++◌}
use Rattle.std.specs.Prelude.{Some, None}
use Prim.Native.Nat.{ℕ, zero, suc, ◌+◌, ◌-◌, ◌<◌, ◌≤◌}
use native.Mathlib.Omega.{arith}
use lib.ListN.{length, take, drop, length-drop, drop_of_length-le}
use lib.Seq.{drop-drop, drop-nil, length-take-le}
use Rattle.token.specs.Scan.{scan}
use Rattle.token.specs.Match.{Longest}
use Rattle.token.specs.declared.Token.{Token}
use Rattle.token.proofs.Meaning.{scan_longest}
use Rattle.lexer.proofs.PlaceLaws.{behind_at}
use Rattle.lexer.specs.declared.location.Lexer.{Lexer}
use Rattle.lexer.specs.declared.location.Next.TheVariants as N
use Rattle.lexer.specs.Cuts.{Cuts, end, stuck, cut, cut_at, cuts_from, cuts, unrecognized}
use Rattle.lexer.specs.Location.{pass, between, behind, ends_line}
use Rattle.lexer.specs.Tokens.{skipped, next_of, next}

pub hit_fits : (t : List ℕ) (k : Token) (n : ℕ) → scan t ≡ Some (k, n) → (0 < n) × (n ≤ length t)
hit_fits t k n e = let h : Longest t (Some (k, n)) = subst (Longest t) e (scan_longest t) in (h.0, h.1)

pub slice : (t : List ℕ) (at n : ℕ) → take (at + n - at) (drop at t) ≡ take n (drop at t)
slice t at n = let e : at + n - at ≡ n = omega arith in rw e

-- ---- cuts

cuts_skip : (w : List ℕ) (n : ℕ) → cuts_from w n ≡ cuts_from (drop n w) 0
unfolding cuts_from
cuts_skip [] n = rw drop-nil
cuts_skip (c ∷ w) zero = refl
cuts_skip (c ∷ w) (suc n) = cuts_skip w n

pub cuts_nil : cuts [] ≡ end
unfolding cuts cuts_from
cuts_nil = refl

pub cuts_miss : (t : List ℕ) → 0 < length t → scan t ≡ None → cuts t ≡ stuck
unfolding cuts cuts_from cut_at
cuts_miss [] h e = absurd (omega arith)
cuts_miss (c ∷ w) h e = rw e

behind_first : (c : ℕ) (w : List ℕ) (n : ℕ) → 0 < n → cuts_from w (n - 1) ≡ cuts (drop n (c ∷ w))
unfolding cuts
behind_first c w zero h = absurd (omega arith)
behind_first c w (suc n) h = let e : suc n - 1 ≡ n = omega arith in rw e (cuts_skip w n)

pub cuts_hit : (t : List ℕ) (k : Token) (n : ℕ) → scan t ≡ Some (k, n) → cuts t ≡ cut k (take n t) (drop n t) (cuts (drop n t))
unfolding cuts cuts_from cut_at
cuts_hit [] k n e = absurd (omega (arith, (hit_fits [] k n e).0, (hit_fits [] k n e).1))
cuts_hit (c ∷ w) k n e = rw e (ap (cut k (take n (c ∷ w)) (drop n (c ∷ w))) (behind_first c w n (hit_fits (c ∷ w) k n e).0))

-- ---- the offset where no token starts

module _ (t : List ℕ) (at : ℕ) where
  pub unrecognized_end : length t ≤ at → unrecognized (cuts (drop at t)) at ≡ None
  unfolding unrecognized
  unrecognized_end h = rw (drop_of_length-le t h, cuts_nil)

  pub unrecognized_miss : at < length t → scan (drop at t) ≡ None → unrecognized (cuts (drop at t)) at ≡ Some at
  unfolding unrecognized
  unrecognized_miss h e = rw (cuts_miss (drop at t) (omega (arith, length-drop at t)) e)

  pub unrecognized_hit : (k : Token) (n : ℕ) → scan (drop at t) ≡ Some (k, n) → unrecognized (cuts (drop at t)) at ≡ unrecognized (cuts (drop (at + n) t)) (at + n)
  unfolding unrecognized
  unrecognized_hit k n e =
      ap (λ (c : Cuts). unrecognized c at) (cuts_hit (drop at t) k n e)
      ∙ ap (λ (m : ℕ). unrecognized (cuts (drop n (drop at t))) (at + m)) (length-take-le n (drop at t) (hit_fits (drop at t) k n e).1)
      ∙ ap (λ (x : List ℕ). unrecognized (cuts x) (at + n)) (drop-drop n at t)

-- ---- the next token

pub pass_at : (w : List ℕ) (k : Token) (r : List ℕ) (s : Lexer) → (pass w k r s).at ≡ s.at + length w
unfolding pass
pass_at [] k r s = omega arith
pass_at (b ∷ w) k r s = pass_at w k r (behind (ends_line k b (w ++ r)) s) ∙ go (ends_line k b (w ++ r))
  where
    go : (p : Bool) → (behind p s).at + length w ≡ s.at + suc (length w)
    go p = omega (arith, behind_at p s)

module _ (t : List ℕ) (s : Lexer) where
  pub next_end : length t ≤ s.at → next t s ≡ N.End
  unfolding next next_of
  next_end h = rw (drop_of_length-le t h, cuts_nil)

  pub next_miss : s.at < length t → scan (drop s.at t) ≡ None → next t s ≡ N.Unrecognized s.at
  unfolding next next_of
  next_miss h e = rw (cuts_miss (drop s.at t) (omega (arith, length-drop s.at t)) e)

  pub next_hit : (k : Token) (n : ℕ) → scan (drop s.at t) ≡ Some (k, n) → (e : Lexer) → e ≡ pass (take n (drop s.at t)) k (drop n (drop s.at t)) s
      → next t s ≡ cond (skipped k) (next t e) (N.On (record { token = k; loc = between s e }) e)
  unfolding next next_of
  next_hit k n f e g =
      let m : s.at + n ≡ e.at
      = sym (ap (λ (x : Lexer). x.at) g ∙ pass_at (take n (drop s.at t)) k (drop n (drop s.at t)) s ∙ rw (length-take-le n (drop s.at t) (hit_fits (drop s.at t) k n f).1)) in
      ap (λ (c : Cuts). next_of c s) (cuts_hit (drop s.at t) k n f)
      ∙ rw (← g, drop-drop n s.at t, m)
