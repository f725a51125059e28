-- `text::store::store` meets its contract: the part copied is the word's last bytes. Assumes nothing.
use Rattle.pool.specs.Pool.{unpacked}
use Rattle.text.proofs.Stores.{writes_last}
use Rattle.text.proofs.store.store.Goals as goal

pub returns : goal.returns
unfolding unpacked
returns g c =
    record {
      stored = let a = c.args in
          writes_last a.out.now a.at g.row.N a.x c.requires.0 c.to_be_bytes.ensures c.copy_from_slice.ensures.after;
    }
