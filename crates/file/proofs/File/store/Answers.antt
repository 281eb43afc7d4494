-- `file::File::store` meets its contract.
use mathlib.Core.Path.{refl}
use Rattle.file.proofs.Stored.{store_refused, store_long, store_in, stored}
use Rattle.file.proofs.File.store.Goals as goal

pub returns-in_default : goal.returns-in_default
returns-in_default c = record { goes = store_refused _ _ _ _ c.in_default.is; space = refl }

pub returns-then-self-bytes : goal.returns-then-self-bytes
returns-then-self-bytes c = record { goes = store_long _ _ _ _ c.in-Ok.is c.if-self-bytes.true; space = refl }

pub returns : goal.returns
returns c = record {
  goes = store_in _ _ _ _ c.in-Ok.is _ c.if-self-bytes.false (c.requires _ c.in-Ok.is) (stored _ _ _ _ _ c.if-self-bytes.false (c.requires _ c.in-Ok.is) c.copy.ensures c.clear.ensures);
  space = refl;
}
