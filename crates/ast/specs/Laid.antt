-- Values laid into a list.
use Rattle.std.specs.Prelude.{List, ◌++◌, ◌-◌, length, take, replicate}

-- at its front, as many as it holds, and z behind them
unfoldable pub laid_with : {A : Type 0} → A → List A → List A → List A
laid_with z ns a = take (length a) ns ++ replicate (length a - length ns) z
