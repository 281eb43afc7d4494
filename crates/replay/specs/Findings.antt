-- What is found in the texts of a list, one after another.
use Rattle.std.specs.Prelude.{◌≡◌, ℕ, ◌+◌, List, Option, Result, Ok}
use denote.Ref.{Bor, MutBor}
use Rattle.replay.specs.List.{ReadsPart}

-- Before and after a text: the count of texts, what was found in them, and the input. The text is read, and the call may answer what is found with it;
-- it is given the input behind the text, the text, its index and what was found before. No text is longer than 66,560 bytes.
abbrev pub WithText : {R T E : Type 0} → (R → Option (List ℕ)) → (MutBor R → Bor (List ℕ) → ℕ → T → Result T E → MutBor R → Type 0) → ℕ × T × R → List ℕ → ℕ × T × R → Type 0
WithText {R} remaining call before text after =
    (after.0 ≡ before.0 + 1)
    × ((input : MutBor R) × (lent : Bor (List ℕ)) × (left : MutBor R)
    × ReadsPart 66560 text (remaining before.2) (remaining input.now)
    × (lent.now ≡ text) × call input lent before.0 before.1 (Ok after.1) left × (left.now ≡ after.2))
