-- Where its numbers stand in a record, by the papers' order, from 0: `row` and `node_row` (Records) lay them so. The kind is the first.
use Rattle.std.specs.Prelude.{ℕ}

abbrev pub Parent : ℕ
Parent = 1

abbrev pub Flags : ℕ
Flags = 2

-- index, then line and column behind it
abbrev pub Start : ℕ
Start = 3

abbrev pub End : ℕ
End = 6

-- a node's: the record number just past its last descendant
abbrev pub Past : ℕ
Past = 9
