-- `json_reader::space::is_white` meets its contract. Assumes nothing.
use mathlib.Core.Path.{◌∙◌}
use native.Mathlib.Omega.{arith}
use Rattle.laws.specs.Tests.{gt_leb}
use Rattle.json_reader.proofs.White.{other_byte}
use Rattle.json_reader.proofs.space.is_white.Goals as goal

pub returns-else-b-le32 : goal.returns-else-b-le32
returns-else-b-le32 c =
    record { judged = gt_leb c.if-b-le32.false ∙ other_byte (λ e. grind arith) (λ e. grind arith) (λ e. grind arith) (λ e. grind arith) }

pub returns-in_default : goal.returns-in_default
returns-in_default c = record { judged = other_byte (λ e. grind arith) (λ e. grind arith) (λ e. grind arith) (λ e. grind arith) }

pub returns-in_default-2 : goal.returns-in_default-2
returns-in_default-2 c = record { judged = other_byte (λ e. grind arith) (λ e. grind arith) (λ e. grind arith) (λ e. grind arith) }
