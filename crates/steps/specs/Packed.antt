-- Places in 64 bits, as the state has them: a text that is read has fewer bytes than `unit`, and so fewer lines and columns.
use Rattle.std.specs.Prelude.{ℕ, ◌+◌, ◌*◌, ◌/◌, ◌%◌, ◌<◌}
use Rattle.lexer.specs.declared.location.Span.{Span}
use Rattle.lexer.specs.declared.location.LOC.{LOC}
use Rattle.steps.specs.declared.packed.Range.{Range}

abbrev pub unit : ℕ
unit = 1048576

-- a place whose numbers are below it
pub record Small (s : Span) : Type 0 where
  pub low : s.index < unit
  pub middle : s.line < unit
  pub high : s.column < unit

unfoldable pub packed : Span → ℕ
packed s = s.index + s.line * unit + s.column * (unit * unit)

unfoldable pub unpacked : ℕ → Span
unpacked p = record { index = p % unit; line = p / unit % unit; column = p / (unit * unit) }

-- both ends of a range
abbrev pub packed_loc : LOC → Range
packed_loc l = record { start = packed l.start; end = packed l.end }

abbrev pub unpacked_loc : Range → LOC
unpacked_loc r = record { start = unpacked r.start; end = unpacked r.end }
