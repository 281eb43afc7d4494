-- Places in 64 bits are the places.
--     index_back, unpacked_packed, loc_back   what is packed comes back
--     small_span      the place of a lexer that stands in a text is small
--     start_small, end_small   and so are both places of the next token
use mathlib.Core.Path.{◌≡◌}
use mathlib.Core.Bool.{Bool, true, false, cond}
use mathlib.Core.List.{List, [], ◌∷◌, ◌++◌}
use Prim.Native.Nat.{ℕ, ◌+◌, ◌*◌, ◌/◌, ◌%◌, ◌<◌, ◌≤◌}
use native.Mathlib.Omega.{arith}
use lib.ListN.{length, drop}
use Rattle.token.specs.declared.Token.{Token}
use Rattle.lexer.specs.declared.location.Lexer.{Lexer}
use Rattle.lexer.specs.declared.location.Span.{Span}
use Rattle.lexer.specs.declared.location.LOC.{LOC}
use Rattle.lexer.specs.declared.location.ParserToken.{ParserToken}
use Rattle.lexer.specs.declared.location.Next.{Next}
use Rattle.lexer.specs.declared.location.Next.TheVariants as N
use Rattle.lexer.specs.Location.{Placed, ends_line, behind, pass, between, span_of}
use Rattle.lexer.specs.Cuts.{Cuts, end, stuck, cut, cuts}
use Rattle.lexer.specs.Tokens.{skipped, next_of, next}
use Rattle.lexer.proofs.NextLaws.{next_placed, next_inside, next_ends}
use Rattle.steps.specs.Packed.{unit, Small, packed, unpacked, packed_loc, unpacked_loc}

-- ---- there and back

pub index_back : (s : Span) → s.index < unit → (unpacked (packed s)).index ≡ s.index
unfolding packed unpacked
index_back s h = omega arith

pub unpacked_packed : (s : Span) → Small s → unpacked (packed s) ≡ s
unfolding packed unpacked
unpacked_packed s h =
    let p = s.index + s.line * unit + s.column * (unit * unit) in
    let i : p % unit ≡ s.index = omega (arith, h.low) in
    let r : p / unit ≡ s.line + s.column * unit = omega (arith, h.low) in
    let l : (s.line + s.column * unit) % unit ≡ s.line = omega (arith, h.middle) in
    let c : p / (unit * unit) ≡ s.column = omega (arith, h.low, h.middle) in
    rw (i, r, l, c)

pub loc_back : (l : LOC) → Small l.start → Small l.end → unpacked_loc (packed_loc l) ≡ l
loc_back l a b = rw (unpacked_packed l.start a, unpacked_packed l.end b)

-- ---- places of a text

pub small_span : (s : Lexer) → Placed s → Small (span_of s)
unfolding span_of
small_span s h = record { low = omega (arith, h.below); middle = omega (arith, h.lines, h.below); high = omega (arith, h.below) }

behind_lines : (b : Bool) (s : Lexer) → s.line ≤ (behind b s).line
unfolding behind
behind_lines true s = omega arith
behind_lines false s = omega arith

pass_lines : (w : List ℕ) (k : Token) (r : List ℕ) (s : Lexer) → s.line ≤ (pass w k r s).line
unfolding pass
pass_lines [] k r s = omega arith
pass_lines (b ∷ w) k r s =
    let e = ends_line k b (w ++ r) in
    omega (arith, behind_lines e s, pass_lines w k r (behind e s))

-- a token starts in no later line than the lexer behind it stands in, and in no column past its offset
Starts : ParserToken → Lexer → Type 0
Starts p e = (p.loc.start.line ≤ e.line + 1) × (p.loc.start.column ≤ p.loc.start.index + 1)

picked : (b : Bool) (r : Next) (q p : ParserToken) (f e : Lexer) → (r ≡ N.On p e → Starts p e) → Starts q f → cond b r (N.On q f) ≡ N.On p e → Starts p e
picked true r q p f e g h i = g i
picked false r q p f e g h i =
    let a : q ≡ p = cc in
    let b : f ≡ e = cc in
    rw (← a, ← b) h

next_starts : (c : Cuts) (s e : Lexer) (p : ParserToken) → next_of c s ≡ N.On p e → Starts p e
unfolding next_of Starts between span_of
next_starts end s e p h = let z : ◌≡◌ {A = ℕ} 0 1 = cc in absurd (omega arith)
next_starts stuck s e p h = let z : ◌≡◌ {A = ℕ} 0 1 = cc in absurd (omega arith)
next_starts (cut k w r c) s e p h =
    picked (skipped k) _ _ p _ e (next_starts c (pass w k r s) e p) (omega (arith, pass_lines w k r s), omega arith) h

module _ (text : List ℕ) (s e : Lexer) (p : ParserToken) (h : Placed s) (short : length text ≤ 65536) (g : next text s ≡ N.On p e) where
  pub start_small : Small p.loc.start
  unfolding next Starts
  start_small =
      let i = next_inside text s e p g in
      let z = next_placed text s e p h short g in
      let b = next_starts (cuts (drop s.at text)) s e p g in
      record {
        low = omega (arith, i.1, i.2, z.below);
        middle = omega (arith, b.0, z.lines, z.below);
        high = omega (arith, b.1, i.1, i.2, z.below);
      }

  pub end_small : Small p.loc.end
  end_small = rw (next_ends text s e p g) (small_span e (next_placed text s e p h short g))
