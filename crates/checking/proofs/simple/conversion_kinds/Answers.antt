-- `checking::simple::conversion_kinds` meets its contract. Assumes nothing.
use native.Mathlib.Omega.{arith}
use Rattle.checking.proofs.SimpleForms.{int_converts, dec_converts, bool_converts, text_converts}
use Rattle.checking.proofs.simple.conversion_kinds.Goals as goal

pub returns-in-3 : goal.returns-in-3
returns-in-3 c = record { told = int_converts c.args.code c.in-3.is }

pub returns-in-4 : goal.returns-in-4
returns-in-4 c = record { told = dec_converts c.args.code c.in-4.is }

pub returns-in-5 : goal.returns-in-5
returns-in-5 c = record { told = bool_converts c.args.code c.in-5.is }

pub returns-in_default : goal.returns-in_default
returns-in_default c = record { told = text_converts c.args.code (λ e. omega arith) (λ e. omega arith) (λ e. omega arith) }
