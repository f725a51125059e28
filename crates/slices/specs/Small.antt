-- Limits that are no larger than the largest set, so that lengths made of them fit a word, and have room for one form. Assumes nothing.
use Rattle.std.specs.Prelude.{◌≤◌, ◌≡◌, true}
use Rattle.std.proofs.Common.{arith}
use Rattle.definitions.specs.declared.Limits.{Limits}
use Rattle.definitions.specs.Limits.{in_range}
use Rattle.laws.specs.LimitRanges.{bounds_of}

pub record Small (l : Limits) : Type 0 where
  pub bytes : l.bytes ≤ 16384
  pub values : l.values ≤ 512
  pub nesting : l.nesting ≤ 32
  pub steps : l.steps ≤ 65536
  -- `(none)`, which a text with no token means, is a form
  pub one_form : 1 ≤ l.values
  pub one_level : 1 ≤ l.nesting

pub range_small : {l : Limits} → in_range l ≡ true → Small l
range_small r =
    let b = bounds_of r in
    record {
      bytes = b.bytes.1;
      values = b.values.1;
      nesting = b.nesting.1;
      steps = b.steps.1;
      one_form = omega (arith, b.values.0);
      one_level = omega (arith, b.nesting.0);
    }
