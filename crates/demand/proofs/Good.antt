-- The tokens of a text that passes 20 to 22: each is one by itself, and well formed.
--     good_tokens   for every such text
use mathlib.Core.Path.{◌≡◌, refl}
use mathlib.Core.Bool.{Bool, true, false, cond}
use mathlib.Core.List.{List, [], ◌∷◌}
use Prim.Native.Nat.{ℕ, zero, suc, ◌≤◌}
use native.Mathlib.Omega.{arith}
use lib.ListN.{length, take, drop, length-drop}
use lib.Seq.{length-take-le}
use Rattle.token.specs.Scan.{scan}
use Rattle.token.specs.Breaks.{Bytes}
use Rattle.token.specs.Scanned.{Scan}
use Rattle.std.specs.Prelude.{Some, None}
use Rattle.token.proofs.Stable.{alone, bytes_take}
use Rattle.lexer.specs.declared.location.Lexer.{Lexer}
use Rattle.lexer.specs.Outcome.{accepted}
use Rattle.lexer.specs.Cuts.{Cuts, end, stuck, cut, cuts}
use Rattle.lexer.specs.Location.{pass, between, opening}
use Rattle.lexer.specs.Tokens.{lexeme, skipped, lexemes, tokens}
use Rattle.lexer.specs.Check.{checked}
use Rattle.lexer.proofs.CutLaws.{hit_fits, cuts_nil, cuts_miss, cuts_hit}
use Rattle.lexer.proofs.Ascii.{Well, well_cuts, fine_means}
use Rattle.parser.specs.Steps.{kind, bytes}
use Rattle.ast.specs.Lists.{All, anil, acons}
use Rattle.parser.proofs.Sure.{GoodL}
use Rattle.writer.proofs.Toks.{Good}

-- each cut is scanned alone as it was in the text, and its bytes are bytes
abbrev Alone : Cuts → Type 0
Alone end = Unit
Alone stuck = Unit
Alone (cut k w r cs) = Bytes w × (scan w ≡ Some (k, length w)) × Alone cs

bytes_drop : (n : ℕ) (t : List ℕ) → Bytes t → Bytes (drop n t)
bytes_drop zero t b = b
bytes_drop (suc n) [] b = tt
bytes_drop (suc n) (c ∷ t) b = bytes_drop n t b.1

step : (m : ℕ) (t : List ℕ) → ((u : List ℕ) → length u ≤ m → Bytes u → Alone (cuts u)) → length t ≤ suc m → Bytes t → Alone (cuts t)
step m [] ih h b = rw cuts_nil tt
step m (c ∷ t) ih h b = go (scan (c ∷ t)) refl
  where
    go : (s : Scan) → scan (c ∷ t) ≡ s → Alone (cuts (c ∷ t))
    go None e = rw (cuts_miss (c ∷ t) (omega arith) e) tt
    go (Some (k, n)) e =
        let f = hit_fits (c ∷ t) k n e in
        let l : length (take n (c ∷ t)) ≡ n = length-take-le n (c ∷ t) f.1 in
        rw (cuts_hit (c ∷ t) k n e)
        (bytes_take n (c ∷ t) b, rw l (alone (c ∷ t) k n b f.1 e), ih (drop n (c ∷ t)) (omega (arith, length-drop n (c ∷ t), f.0)) (bytes_drop n (c ∷ t) b))

none_left : (t : List ℕ) → length t ≤ 0 → Alone (cuts t)
none_left [] h = rw cuts_nil tt
none_left (c ∷ t) h = absurd (omega arith)

alone_from : (m : ℕ) (t : List ℕ) → length t ≤ m → Bytes t → Alone (cuts t)
alone_from zero t h b = none_left t h
alone_from (suc m) t h b = step m t (alone_from m) h b

good_from : (cs : Cuts) (s : Lexer) → Alone cs → Well cs → All (GoodL Good) (lexemes cs s)
unfolding lexemes bytes scan kind
good_from end s a w = anil
good_from stuck s a w = anil
good_from (cut k b r cs) s a w = go (skipped k) refl (good_from cs (pass b k r s) a.2 w.1)
  where
    go : (x : Bool) → skipped k ≡ x → All (GoodL Good) (lexemes cs (pass b k r s))
        → All (GoodL Good) (cond x (lexemes cs (pass b k r s)) (lexeme k b (between s (pass b k r s)) ∷ lexemes cs (pass b k r s)))
    go true e g = g
    go false e g = acons (record { bytes = a.0; scanned = a.1; solid = e; formed = w.0 }) g

pub good_tokens : (t : List ℕ) {ns : List ℕ} → Bytes t → checked t ≡ accepted ns → All (GoodL Good) (tokens t opening)
unfolding tokens opening
good_tokens t b e = let f = fine_means t e in good_from (cuts t) _ (alone_from (length t) t (omega arith) b) (well_cuts t b f.1 f.2)
