-- What the code does with the answers of the reading and of the members. Contracts inside this crate cite it, and proofs/Meant shows that it means `numbering`;
-- nothing outside the crate has to believe it.
use Rattle.std.specs.Prelude.{List, ℕ, ℤ, Result, Ok, Err}
use Rattle.lexer.specs.Outcome.{refused}
use Rattle.lexer.specs.Refusal.{number_of}
use Rattle.lexer.specs.declared.error.Refusal.{Refusal}
use Rattle.ast.specs.Records.{cleared}
use Rattle.enum_members.specs.Numbers as E
use Rattle.enum_numbers.specs.Numbering.{Numbering, told}

unfoldable pub refusing : ℕ → ℕ → ℕ → List ℕ → List ℕ → List ℤ → Numbering
refusing e p n ns cs list = record { says = refused e p n; nodes = cleared ns; comments = cleared cs; list = E.cleared list }

unfoldable pub judged : Result ℕ Refusal → List ℕ → List ℕ → List ℤ → Numbering
judged (Ok m) ns cs list = told (Ok m) ns cs list
judged (Err r) ns cs list = refusing (number_of r.kind) r.place r.length ns cs list
