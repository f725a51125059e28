-- `json_reader::scalar::Room::is_full` meets its contract. Assumes nothing.
use mathlib.Core.Path.{sym}
use mathlib.Core.Bool.{true≢false}
use native.Mathlib.Nat.{pos_of_ne-zero}
use borrow.Author.Tests.{eqb-false, le-leb}
use Rattle.json_reader.proofs.Scan.{full_values, full_left}
use Rattle.json_reader.proofs.scalar.Room.is_full.Goals as goal

pub returns-then-begun-self : goal.returns-then-begun-self
returns-then-begun-self c =
    record {
      judged = rw (le-leb c.args.self.values c.args.begun c.if-begun-self.true)
          (record {
            judged = λ l o a. sym (full_values a c.args.begun c.if-begun-self.true);
            within = λ e. absurd (true≢false e);
          });
    }

pub returns-else-begun-self : goal.returns-else-begun-self
returns-else-begun-self c =
    record {
      judged = record {
        judged = λ l o a. full_left a c.args.begun c.if-begun-self.false;
        within = λ e. (c.if-begun-self.false, pos_of_ne-zero (eqb-false c.args.self.left 0 e));
      };
    }
