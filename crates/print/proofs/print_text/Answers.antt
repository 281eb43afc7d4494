-- A law gives the length of each array, so that none is computed.
use Rattle.std.proofs.Common.{◌≡◌, ℕ, length, sym}
use Rattle.std.proofs.Math.ListN.{replicate}
use Rattle.std.proofs.lemmas.List.{length-replicate}
use Rattle.print.proofs.print_text.Goals as goal

zeros : (n : ℕ) → n ≡ length (replicate {A = ℕ} n 0)
zeros n = sym (length-replicate {A = ℕ} n 0)

pub slice_bounds-print_with-end : goal.slice_bounds-print_with-end
slice_bounds-print_with-end c = zeros 1310720
