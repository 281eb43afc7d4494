-- How far the line rule of document 02's Change 1 and rico's are equal.
--     same_tokens    in a text without the pair every token has the place that rico gives it
--     alike_tokens   in every text the tokens have the same kinds, bytes and indexes
use mathlib.Core.Path.{◌≡◌, refl, sym, ap, ◌∙◌}
use mathlib.Core.Bool.{Bool, true, false, cond, ◌||◌, and-true, false≢true}
use mathlib.Core.List.{List, [], ◌∷◌, ◌++◌}
use Prim.Native.Nat.{ℕ, zero, suc, ◌+◌, ◌≤◌}
use native.Mathlib.Omega.{arith}
use lib.ListN.{length, drop, length-drop, take-append-drop}
use Rattle.token.specs.Code.{is}
use Rattle.token.specs.Scan.{scan}
use Rattle.token.specs.declared.Token.{Token}
use Rattle.token.specs.declared.Token.TheVariants as T
use Rattle.token.specs.Scanned.{Scan}
use Rattle.std.specs.Prelude.{Some, None}
use Rattle.lexer.specs.declared.location.Lexer.{Lexer}
use Rattle.lexer.specs.Cuts.{Cuts, end, stuck, cut, cuts}
use Rattle.lexer.specs.Location as L
use Rattle.lexer.specs.Location.{pair, has_pair, behind, between, span_of, opening}
use Rattle.lexer.specs.Tokens as K
use Rattle.lexer.specs.Tokens.{lexeme, skipped}
use Rattle.lexer.proofs.PlaceLaws.{behind_at}
use Rattle.lexer.proofs.CutLaws as CutLaws
use Rattle.lexer.proofs.CutLaws.{hit_fits, cuts_nil, cuts_miss, cuts_hit}
use Rattle.ast.specs.Move.{move_loc, move_l, moves, unlined}
use Rattle.rico.specs.Lines.{ends_line, pass, lexemes, tokens}

-- ---- the cuts of a text are its parts

abbrev Parts : Cuts → List ℕ → Type 0
Parts end t = Unit
Parts stuck t = Unit
Parts (cut k w r cs) t = (w ++ r ≡ t) × Parts cs r

parts_step : (m : ℕ) (t : List ℕ) → ((u : List ℕ) → length u ≤ m → Parts (cuts u) u) → length t ≤ suc m → Parts (cuts t) t
parts_step m [] ih h = rw cuts_nil tt
parts_step m (c ∷ t) ih h = go (scan (c ∷ t)) refl
  where
    go : (s : Scan) → scan (c ∷ t) ≡ s → Parts (cuts (c ∷ t)) (c ∷ t)
    go None e = rw (cuts_miss (c ∷ t) (omega arith) e) tt
    go (Some (k, n)) e =
        rw (cuts_hit (c ∷ t) k n e)
        (take-append-drop n (c ∷ t), ih (drop n (c ∷ t)) (omega (arith, length-drop n (c ∷ t), (hit_fits (c ∷ t) k n e).0)))

parts_nil : (t : List ℕ) → length t ≤ 0 → Parts (cuts t) t
parts_nil [] h = rw cuts_nil tt
parts_nil (c ∷ t) h = absurd (omega arith)

parts_from : (m : ℕ) (t : List ℕ) → length t ≤ m → Parts (cuts t) t
parts_from zero t h = parts_nil t h
parts_from (suc m) t h = parts_step m t (parts_from m) h

parts : (t : List ℕ) → Parts (cuts t) t
parts t = parts_from (length t) t (omega arith)

-- ---- a text without the pair

neither : (p q : Bool) → (p || q) ≡ false → (p ≡ false) × (q ≡ false)
neither true q e = absurd (false≢true (sym e))
neither false q e = (refl, e)

pair_first : (b : ℕ) (t : List ℕ) → has_pair (b ∷ t) ≡ false → (pair b t ≡ false) × (has_pair t ≡ false)
unfolding has_pair
pair_first b t e = neither (pair b t) (has_pair t) e

pair_right : (w r : List ℕ) → has_pair (w ++ r) ≡ false → has_pair r ≡ false
pair_right [] r e = e
pair_right (b ∷ w) r e = pair_right w r (pair_first b (w ++ r) e).1

same_ends : (k : Token) (b : ℕ) (r : List ℕ) → pair b r ≡ false → L.ends_line k b r ≡ ends_line k b
unfolding L.ends_line ends_line
same_ends k b r e = rw (e, and-true (is k T.Newline))

same_pass : (w : List ℕ) (k : Token) (r : List ℕ) (s : Lexer) → has_pair (w ++ r) ≡ false → L.pass w k r s ≡ pass w k s
unfolding L.pass pass
same_pass [] k r s e = refl
same_pass (b ∷ w) k r s e =
    let h = pair_first b (w ++ r) e in
    rw (same_ends k b (w ++ r) h.0) (same_pass w k r (behind (ends_line k b) s) h.1)

same_lexemes : (cs : Cuts) (t : List ℕ) (s : Lexer) → Parts cs t → has_pair t ≡ false → K.lexemes cs s ≡ lexemes cs s
unfolding K.lexemes lexemes
same_lexemes end t s p e = refl
same_lexemes stuck t s p e = refl
same_lexemes (cut k w r cs) t s p e =
    let f : has_pair (w ++ r) ≡ false = rw p.0 e in
    rw (same_pass w k r s f, same_lexemes cs r (pass w k s) p.1 (pair_right w r f))

module _ (t : List ℕ) (e : has_pair t ≡ false) where
  pub same_tokens : K.tokens t opening ≡ tokens t
  unfolding K.tokens tokens opening
  same_tokens = same_lexemes (cuts t) t _ (parts t) e

-- ---- every text

pass_at : (w : List ℕ) (k : Token) (s : Lexer) → (pass w k s).at ≡ s.at + length w
unfolding pass
pass_at [] k s = omega arith
pass_at (b ∷ w) k s = pass_at w k (behind (ends_line k b) s) ∙ go (ends_line k b)
  where
    go : (p : Bool) → (behind p s).at + length w ≡ s.at + suc (length w)
    go p = omega (arith, behind_at p s)

unlined_place : (s e u f : Lexer) → s.at ≡ u.at → e.at ≡ f.at → move_loc unlined (between s e) ≡ move_loc unlined (between u f)
unfolding unlined between span_of
unlined_place s e u f a b = rw (a, b)

alike_lexemes : (cs : Cuts) (s u : Lexer) → s.at ≡ u.at → moves unlined (K.lexemes cs s) ≡ moves unlined (lexemes cs u)
unfolding K.lexemes lexemes moves move_l
alike_lexemes end s u a = refl
alike_lexemes stuck s u a = refl
alike_lexemes (cut k w r cs) s u a =
    go (skipped k) (alike_lexemes cs (L.pass w k r s) (pass w k u) further)
  where
    further : (L.pass w k r s).at ≡ (pass w k u).at
    further = CutLaws.pass_at w k r s ∙ ap (λ (n : ℕ). n + length w) a ∙ sym (pass_at w k u)

    go : (b : Bool) → moves unlined (K.lexemes cs (L.pass w k r s)) ≡ moves unlined (lexemes cs (pass w k u))
        → moves unlined (cond b (K.lexemes cs (L.pass w k r s)) (lexeme k w (between s (L.pass w k r s)) ∷ K.lexemes cs (L.pass w k r s)))
        ≡ moves unlined (cond b (lexemes cs (pass w k u)) (lexeme k w (between u (pass w k u)) ∷ lexemes cs (pass w k u)))
    go true e = e
    go false e = rw (unlined_place s (L.pass w k r s) u (pass w k u) a further, e)

pub alike_tokens : (t : List ℕ) → moves unlined (K.tokens t opening) ≡ moves unlined (tokens t)
unfolding K.tokens tokens opening
alike_tokens t = alike_lexemes (cuts t) _ _ refl
