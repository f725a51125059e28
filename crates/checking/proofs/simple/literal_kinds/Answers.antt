-- `checking::simple::literal_kinds` meets its contract. Assumes nothing.
use native.Mathlib.Omega.{arith}
use Rattle.checking.proofs.SimpleForms.{int_literal, decimal_literal, text_literal, null_literal, bool_literal}
use Rattle.checking.proofs.simple.literal_kinds.Goals as goal

pub returns-in-12 : goal.returns-in-12
returns-in-12 c =
    record { told = int_literal c.args.code c.args.operand c.args.payload c.in-12.is c.is_int.ensures.told c.if-is_int.true }

pub returns-in-12-2 : goal.returns-in-12-2
returns-in-12-2 c =
    record { told = decimal_literal c.args.code c.args.operand c.args.payload c.in-12.is c.is_int.ensures.told c.if-is_int.false }

pub returns-in-13 : goal.returns-in-13
returns-in-13 c = record { told = text_literal c.args.code c.args.operand c.args.payload c.in-13.is }

pub returns-in-16 : goal.returns-in-16
returns-in-16 c = record { told = null_literal c.args.code c.args.operand c.args.payload c.in-16.is }

pub returns-in_default : goal.returns-in_default
returns-in_default c =
    record { told = bool_literal c.args.code c.args.operand c.args.payload (λ e. omega arith) (λ e. omega arith) (λ e. omega arith) }
