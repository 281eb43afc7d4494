-- `steps::look` meets its contract.
use mathlib.Core.Path.{◌≡◌, refl, sym, ap, ◌∙◌}
use Prim.Native.Nat.{ℕ, ◌≤◌, ◌<◌}
use native.Mathlib.Omega.{arith}
use borrow.Author.Tests.{le-ltb, lt-ltb}
use mathlib.Core.List.{List}
use lib.ListN.{length}
use Rattle.std.specs.Prelude.{None}
use Rattle.lexer.specs.declared.location.Lexer.{Lexer}
use Rattle.lexer.specs.declared.location.Span.{Span}
use Rattle.lexer.specs.declared.location.ParserToken.{ParserToken}
use Rattle.lexer.specs.declared.location.Next.{Next}
use Rattle.lexer.specs.declared.location.Next.TheVariants as N
use Rattle.lexer.specs.Tokens as L
use Rattle.lexer.specs.Location.{Placed}
use Rattle.steps.specs.Packed.{unpacked}
use Rattle.steps.specs.Into.{lexer_at, look_at, found, found_at}
use Rattle.steps.proofs.PackLaws.{start_small, end_small}
use Rattle.steps.proofs.look.Goals as goal
use Rattle.steps.proofs.look.Goals.{then-from-gt-LIMIT-via-then-from-gt-LIMIT, then-from-gt-LIMIT-via-else-from-gt-LIMIT+then-from}

-- by the tests of the lexer at the place
module _ (t : List ℕ) (e : ℕ) (s : Lexer) (short : length t ≤ 65536) (q : s ≡ lexer_at (unpacked e)) where
  far : 65536 < s.at → None ≡ found_at t e
  unfolding found_at look_at found
  far h = rw (← q, le-ltb _ _ short, lt-ltb _ _ h)

  astray : s.at ≤ 65536 → s.at < s.line → None ≡ found_at t e
  unfolding found_at look_at found
  astray h g = rw (← q, le-ltb _ _ short, le-ltb _ _ h, lt-ltb _ _ g)

  looks : s.at ≤ 65536 → s.line ≤ s.at → found (L.next t s) ≡ found_at t e
  unfolding found_at look_at
  looks h g = rw (← q, le-ltb _ _ short, le-ltb _ _ h, le-ltb _ _ g)

-- the start of the line is not behind the offset, whatever the place is
begun : (x : Span) → (lexer_at x).origin ≤ (lexer_at x).at
unfolding lexer_at
begun x = omega arith

stands : (e : ℕ) {s : Lexer} → s ≡ lexer_at (unpacked e) → s.at ≤ 65536 → s.line ≤ s.at → Placed s
stands e q h g = record { lines = g; line_begun = rw q (begun _); below = h }

nothing : (x : Next) → ((t : ParserToken) (l : Lexer) → x ≡ N.On t l → ⊥) → None ≡ found x
unfolding found
nothing (N.On p s) h = absurd (h p s refl)
nothing N.End h = refl
nothing (N.Unrecognized p) h = refl

pub returns-then-from-gt-LIMIT : goal.returns-then-from-gt-LIMIT
returns-then-from-gt-LIMIT c =
    elim c.then-from-gt-LIMIT.branch [
      | then-from-gt-LIMIT-via-then-from-gt-LIMIT w ↦ far _ _ _ c.requires c.lexer_at-from.ensures w.if-from-gt-LIMIT.true
      | then-from-gt-LIMIT-via-else-from-gt-LIMIT+then-from w ↦ astray _ _ _ c.requires c.lexer_at-from.ensures w.if-from-gt-LIMIT.false w.if-from.true
    ]

pub next_token-requires : goal.next_token-requires
next_token-requires c = (c.requires, stands _ c.lexer_at-from.ensures c.if-from-gt-LIMIT.false c.if-from.false)

pub pack_loc-requires : goal.pack_loc-requires
pack_loc-requires c =
    let s = stands _ c.lexer_at-from.ensures c.if-from-gt-LIMIT.false c.if-from.false in
    let e = sym c.next_token.ensures ∙ c.in-On.is in
    (start_small _ _ _ _ s c.requires e, end_small _ _ _ _ s c.requires e)

pub returns-in-On : goal.returns-in-On
unfolding found
returns-in-On c =
    rw c.pack_loc.ensures
    (ap found (sym (sym c.next_token.ensures ∙ c.in-On.is))
    ∙ looks _ _ _ c.requires c.lexer_at-from.ensures c.if-from-gt-LIMIT.false c.if-from.false)

pub returns-in_default : goal.returns-in_default
returns-in_default c =
    nothing _ c.in_default.not-On ∙ ap found c.next_token.ensures
    ∙ looks _ _ _ c.requires c.lexer_at-from.ensures c.if-from-gt-LIMIT.false c.if-from.false
