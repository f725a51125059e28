-- `text::unicode::read_unicode` meets its contract: `Surrogates` says how reading goes on behind four digits. Assumes nothing.
use mathlib.Core.Path.{refl}
use mathlib.Core.Logic.{inl, inr}
use mathlib.Core.Option.{none}
use native.Mathlib.Omega.{arith}
use Rattle.definitions.specs.Bytes.{found}
use Rattle.definitions.specs.Text.{Inside}
use Rattle.text.specs.TextParts.{ReadsCode}
use Rattle.text.proofs.Passed.{passed}
use Rattle.text.proofs.Surrogates.{alone_read, high_code}
use Rattle.text.proofs.unicode.read_unicode.Goals as goal

pub returns-in_err-code : goal.returns-in_err-code
unfolding found
returns-in_err-code c =
    record {
      read = passed (ReadsCode c.args.doc.now (Inside.digits none 0 0) c.args.at) c.from_residual.result c.from_residual.ensures.1
          (c.in_err-code.ensures.read none refl);
    }

pub read_low-requires : goal.read_low-requires
read_low-requires c = (c.in_ok-code.ensures.read.within, omega arith, omega arith)

pub returns-in-55296-to-56319 : goal.returns-in-55296-to-56319
returns-in-55296-to-56319 c =
    record {
      read = let a = c.args in
          high_code a.doc.now a.at c.in_ok-code.code.value c.in_ok-code.code.next c.in_ok-code.ensures.read
          (omega arith) (omega arith) c.read_low.result c.read_low.ensures.read;
    }

pub returns-in_default : goal.returns-in_default
returns-in_default c =
    record {
      read = let a = c.args in
          alone_read a.doc.now a.at c.in_ok-code.code.value c.in_ok-code.code.next c.in_ok-code.ensures.read (inl (omega arith));
    }

pub returns-in_default-2 : goal.returns-in_default-2
returns-in_default-2 c =
    record {
      read = let a = c.args in
          alone_read a.doc.now a.at c.in_ok-code.code.value c.in_ok-code.code.next c.in_ok-code.ensures.read (inr (omega arith));
    }
