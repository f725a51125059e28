-- `text::unicode::encoded_length` meets its contract: a branch of `encode` for each answer. Assumes nothing.
use mathlib.Core.Path.{sym, ap}
use lib.ListN.{length}
use Rattle.laws.proofs.StringUtf8.{encode_1, encode_2, encode_3, encode_4}
use native.Mathlib.Omega.{arith}
use Rattle.text.proofs.unicode.encoded_length.Goals as goal

pub returns-in-0-to-127 : goal.returns-in-0-to-127
returns-in-0-to-127 c = record { counted = sym (ap length (encode_1 c.args.c (omega arith))) }

pub returns-in-128-to-2047 : goal.returns-in-128-to-2047
returns-in-128-to-2047 c = record { counted = sym (ap length (encode_2 c.args.c (omega arith) (omega arith))) }

pub returns-in-2048-to-65535 : goal.returns-in-2048-to-65535
returns-in-2048-to-65535 c = record { counted = sym (ap length (encode_3 c.args.c (omega arith) (omega arith))) }

pub returns-in_default : goal.returns-in_default
returns-in_default c = record { counted = sym (ap length (encode_4 c.args.c (omega arith))) }
