-- `text::unicode::encoded` meets its contract: a branch of `encode` for each answer. Assumes nothing.
use mathlib.Core.List.{[], ◌∷◌}
use Rattle.definitions.specs.Utf8.{encode}
use Rattle.laws.proofs.StringUtf8.{encode_1, encode_2, encode_3, encode_4}
use Rattle.text.proofs.Tables.{take_front}
use native.Mathlib.Omega.{arith}
use Rattle.text.proofs.unicode.encoded.Goals as goal

pub returns-then-c-lt128 : goal.returns-then-c-lt128
returns-then-c-lt128 c = record { encoded = let x = c.args.c in take_front (encode x) _ (0 ∷ 0 ∷ 0 ∷ []) (encode_1 x (omega arith)) }

pub returns-then-c-lt2048 : goal.returns-then-c-lt2048
returns-then-c-lt2048 c = record { encoded = let x = c.args.c in take_front (encode x) _ (0 ∷ 0 ∷ []) (encode_2 x (omega arith) (omega arith)) }

pub returns-then-c-lt65536 : goal.returns-then-c-lt65536
returns-then-c-lt65536 c = record { encoded = let x = c.args.c in take_front (encode x) _ (0 ∷ []) (encode_3 x (omega arith) (omega arith)) }

pub returns : goal.returns
returns c = record { encoded = let x = c.args.c in take_front (encode x) _ [] (encode_4 x (omega arith)) }
