-- `file::File::read` meets its contract.
use mathlib.Core.Path.{refl}
use Rattle.file.proofs.Stored.{read_is}
use Rattle.file.proofs.File.read.Goals as goal

pub returns : goal.returns
returns c i = record {
  goes = read_is i _ c.args.self.now.space.now _ _ c.args.lent.now.out.now _ _ _ _ _ _ _ _ c.min-a.ensures c.min-b.ensures (rw c.bytes.ensures at c.read.ensures);
  space = refl;
  nodes = refl;
  comments = refl;
  out = refl;
}
