-- `shape_reader::leaves::number_kinds` meets its contract. Assumes nothing.
use native.Mathlib.Omega.{arith}
use Rattle.shape_reader.proofs.LeafForms.{int_stands, dec_stands}
use Rattle.shape_reader.proofs.leaves.number_kinds.Goals as goal

pub returns-then-x-eq178047052064 : goal.returns-then-x-eq178047052064
returns-then-x-eq178047052064 c = record { told = record { answer = int_stands c.eight_at-x.ensures.told c.if-x-eq178047052064.true } }

pub returns-then-text-at-eq41 : goal.returns-then-text-at-eq41
returns-then-text-at-eq41 c =
    record {
      told = record {
        answer =
            dec_stands c.eight_at-x.ensures.told c.if-x-eq7162240872957765920.true (omega (arith, c.if-text-at-lt9.false, c.requires))
            c.if-text-at-eq41.true;
      };
    }
