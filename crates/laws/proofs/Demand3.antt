-- Demand 3, proved. Assumes nothing.
use Rattle.std.specs.Prelude.{ℕ, List}
use Rattle.definitions.specs.declared.Limits.{Limits}
use Rattle.definitions.specs.Shape.{nothing}
use Rattle.definitions.specs.Operations.{Source}
use Rattle.laws.specs.OrderLaws.{nothing_below}
use Rattle.laws.specs.Chain.{Call, start, ProperSource, InRange, Demand3}
use Rattle.laws.proofs.ChainReached.{Reaches, reaches, stands_start, stands_reads, stands_short, another_order}
use Rattle.laws.proofs.ChainReaders.{passes}

pub demand_3
    : (source : Source) → ProperSource source → (for_infer for_check for_run : List ℕ) (l : Limits) → InRange l → (calls : List Call)
    → Demand3 source for_infer for_check for_run l calls
demand_3 source proper for_infer for_check for_run l range calls =
    record {
      shape = r.shape;
      well_formed = r.stands.sorted;
      reads_as = stands_reads r.stands;
      short_enough = stands_short r.stands;
      admits_each = r.admits_each;
      lies_below = λ u a e. r.least u a (nothing_below u) e;
      other_order = λ others o long. another_order source proper for_infer l calls others start nothing (stands_start l range) o long;
      never_stuck = λ reader checked lent e. passes source proper for_check for_run l _ r.shape r.stands reader checked lent e;
    }
  where
    r : Reaches source proper for_infer l calls start nothing
    r = reaches source proper for_infer l calls start nothing (stands_start l range)
