-- `file::File::print` meets its contract.
use mathlib.Core.Path.{refl}
use Rattle.file.proofs.Stored.{written_in, print_is}
use Rattle.file.proofs.File.print.Goals as goal

pub store-requires : goal.store-requires
store-requires c = written_in _ _ _ _ _ _ _ _ _ c.print-printed.ensures _

pub returns : goal.returns
returns c =
    let w = c.store.ensures in
    record {
      goes =
          print_is c.args.self.now.space.now _ _ _ _ _ _ _ _ _ _ _ _ _ _ _ c.min-a.ensures c.min-b.ensures c.min-c.ensures (rw c.bytes.ensures at c.print-printed.ensures) _ w.goes;
      space = w.space;
      nodes = refl;
      comments = refl;
      out = refl;
    }
