use Rattle.std.proofs.Common.{◌∙◌}
use Rattle.text.specs.WritesLaws.{writes_as}
use Rattle.infer_stdin.proofs.Decimals.{decimal_same}
use Rattle.infer_stdin.proofs.write_decimal.Goals as goal

pub returns : goal.returns
returns c =
    record {
      written = writes_as (c.as_bytes.ensures.value ∙ c.format.ensures.text ∙ decimal_same c.args.n c.ranges.n.fits) c.write_bytes.ensures.written;
    }
