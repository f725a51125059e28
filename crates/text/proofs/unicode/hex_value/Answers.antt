-- `text::unicode::hex_value` meets its contract: a range of `hex_table` for each answer. Assumes nothing.
use mathlib.Core.Logic.{inl, inr}
use Rattle.text.proofs.Tables.{hex_0, hex_upper_a, hex_a, hex_none}
use native.Mathlib.Omega.{arith}
use Rattle.text.proofs.unicode.hex_value.Goals as goal

pub returns-in-48-to-57 : goal.returns-in-48-to-57
returns-in-48-to-57 c = record { valued = hex_0 _ (omega arith) (omega arith) }

pub returns-in-65-to-70 : goal.returns-in-65-to-70
returns-in-65-to-70 c = record { valued = hex_upper_a _ (omega arith) (omega arith) }

pub returns-in-97-to-102 : goal.returns-in-97-to-102
returns-in-97-to-102 c = record { valued = hex_a _ (omega arith) (omega arith) }

pub returns-in_default : goal.returns-in_default
returns-in_default c = record { valued = hex_none _ (inl (omega arith)) }

pub returns-in_default-2 : goal.returns-in_default-2
returns-in_default-2 c = record { valued = hex_none _ (inr (inl (omega arith))) }

pub returns-in_default-3 : goal.returns-in_default-3
returns-in_default-3 c = record { valued = hex_none _ (inr (inr (inl (omega arith)))) }

pub returns-in_default-4 : goal.returns-in_default-4
returns-in_default-4 c = record { valued = hex_none _ (inr (inr (inr (omega arith)))) }
