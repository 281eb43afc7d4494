-- What is written of a record.
use Rattle.std.specs.Prelude.{ℕ, List, [], ◌∷◌, ◌++◌, codes, flat_map}
use Rattle.std.specs.Fmt.{decimal}

-- numbers with a blank between two
abbrev pub row_text : List ℕ → List ℕ
row_text [] = []
row_text (first ∷ rest) = decimal first ++ flat_map (λ number. codes " " ++ decimal number) rest
